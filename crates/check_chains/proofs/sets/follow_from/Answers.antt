-- `sets::follow_from` meets its contract. The invariant: the coefficients so far. The measure: the indices left.
-- Assumes nothing.
use mathlib.Core.Path.{◌≡◌, refl, ◌∙◌}
use Prim.Native.Nat.{ℕ, zero, suc, ◌≤◌}
use native.Mathlib.Omega.{arith}
use Rattle.check_chains.proofs.Following.{further-one, further-zero, next-number}
use Rattle.check_chains.proofs.Following.{number-at-end}
use Rattle.check_chains.proofs.sets.follow_from.Goals as goal
use Rattle.check_chains.proofs.sets.follow_from.Goals.{then-one-eq1, else-one-eq1}
use Rattle.check_chains.proofs.sets.follow_from.Goals.{then-sum-less-via-then-sum-less}
use Rattle.check_chains.proofs.sets.follow_from.Goals.{then-sum-less-via-else-sum-less+then-sum-less-gt1}

pub returns-then-sum-less : goal.returns-then-sum-less
returns-then-sum-less c = λ f e G.
    let l = c.loop-h in
    let n = next-number l.invariant f e G (omega arith) in
    elim c.then-sum-less.branch [
      | then-sum-less-via-then-sum-less w ↦ omega (arith, n.0)
      | then-sum-less-via-else-sum-less+then-sum-less-gt1 w ↦ omega (arith, n.0, n.1)
    ]

-- at most 1, and not 1
zero_of : (n : ℕ) → (n ≡ 1 → ⊥) → n ≤ 1 → n ≡ 0
zero_of zero h l = refl
zero_of (suc n) h l = absurd (h (omega arith))

pub loop-h-preserved : goal.loop-h-preserved
loop-h-preserved c =
    let l = c.loop-h in
    let F = l.invariant in
    elim c.if-one-eq1.branch [
      | then-one-eq1 w ↦
          rw (w.set-is ∙ w.add-set.ensures)
          (further-one F (omega arith) (omega arith) w.if-one-eq1.true (omega arith) (omega arith))
      | else-one-eq1 w ↦
          rw w.set-is
          (further-zero F (omega arith) (omega arith) (omega (arith, F.small, zero_of l.one w.if-one-eq1.false F.small))
          (omega arith) (omega arith))
    ]

pub returns-else-one-c : goal.returns-else-one-c
returns-else-one-c c = λ f e G.
    let l = c.loop-h in
    let h-end : l.h ≡ c.args.end = omega (arith, l.invariant.high) in
    c.if-one-c.false (number-at-end l.invariant f e G h-end)
