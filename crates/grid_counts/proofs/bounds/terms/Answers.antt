-- `bounds::terms` meets its contract. The invariant: the product has k factors, and the sum the terms up to it.
-- Assumes nothing.
use mathlib.Core.List.{map}
use mathlib.Core.Path.{◌≡◌, sym, ◌∙◌}
use Prim.Native.Nat.{◌+◌, ◌*◌, ◌-◌, ◌≤◌}
use native.Mathlib.Numerals.{add-one}
use Rattle.combinatorics.proofs.Binomials.{falling-next}
use Rattle.combinatorics.proofs.Turns.{sum-counted}
use Rattle.combinatorics.specs.Counting.{falling}
use Rattle.combinatorics.specs.Lists.{sum as total, up_from}
use Rattle.combinatorics.proofs.Terms.{terms_few, term_few}
use native.Mathlib.Omega.{arith}
use Rattle.grid_counts.proofs.bounds.terms.Goals as goal
use Rattle.grid_counts.proofs.bounds.terms.Goals.{In-loop-k}

-- the product of a turn, and its range
factor : (c : In-loop-k)
    → (c.loop-k.product * (c.args.m - c.loop-k.k)
    ≡ falling c.args.m (c.loop-k.k + 1))
    × (falling c.args.m (c.loop-k.k + 1) ≤ 35951249665217)
factor c =
    let l = c.loop-k in
    let m = c.args.m in
    (rw l.invariant.0 (sym (falling-next m l.k)), term_few m (l.k + 1) (omega arith) (omega arith))

pub overflow_mul-product : goal.overflow_mul-product
overflow_mul-product c = omega (arith, (factor c).0, (factor c).1)

pub overflow_add-sum : goal.overflow_add-sum
overflow_add-sum c =
    let l = c.loop-k in
    let m = c.args.m in
    let few : total (map (falling m) (up_from 0 (l.k + 1))) ≤ 35951249665217 =
    rw (add-one l.k) (terms_few m l.k (omega arith) (omega arith)) in
    omega (arith, (factor c).0, (factor c).1, few, l.invariant.1)

pub loop-k-preserved : goal.loop-k-preserved
loop-k-preserved c =
    let l = c.loop-k in
    let m = c.args.m in
    let z : 0 + (l.k + 1) ≡ l.k + 1 = omega arith in
    ((factor c).0, rw ((factor c).0, l.invariant.1) (sym (sum-counted (falling m) 0 (l.k + 1) ∙ rw z)))
