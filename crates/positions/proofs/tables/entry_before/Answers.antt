-- `tables::entry_before` meets its contract. Assumes nothing.
use mathlib.Core.Path.{◌≡◌, sym}
use Prim.Native.Nat.{◌-◌}
use Rattle.combinatorics.proofs.Binomials.{choose_one}
use native.Mathlib.Omega.{arith}
use Rattle.positions.proofs.tables.entry_before.Goals as goal

pub returns-then-k-eq2 : goal.returns-then-k-eq2
returns-then-k-eq2 c =
    let a = c.args in
    let e : a.k - 1 ≡ 1 = omega arith in
    rw e (sym (choose_one a.r))
