-- The coordinates of a point after its steps. Assumes nothing.
use mathlib.Core.List.{List}
use mathlib.Core.Path.{◌≡◌, refl, sym, ap, ◌∙◌}
use Prim.Native.Nat.{ℕ, ◌+◌, ◌-◌, ◌≤◌, ◌<◌}
use lib.ListN.{length, take, replicate, get_or-replicate}
use lib.Seq.{ext_get_or, get_or-take, length-take-le}
use native.Mathlib.Omega.{arith}
use Rattle.combinatorics.proofs.Turns.{map_at}
use Rattle.grid_points.specs.Grid.{at}
use Rattle.positions.specs.Steps.{after_steps, CanTakeSteps}

module _ (y steps : List ℕ) where
  pub after-at : (k : ℕ) → k < 16 → at (after_steps y steps) k ≡ at y k + at steps k - 16
  unfolding after_steps
  after-at k l = map_at (λ k. at y k + at steps k - 16) 0 16 k l ∙ ap (λ k. at y k + at steps k - 16) (omega arith)

  length-after : length (after_steps y steps) ≡ 16
  unfolding after_steps
  length-after = refl

  -- a list that differs from y by the steps, as far as its first m numbers
  pub after_is : (z : List ℕ) (m : ℕ) → m ≤ 16 → m ≤ length z → ((k : ℕ) → k < m → at z k + 16 ≡ at y k + at steps k)
      → take m (after_steps y steps) ≡ take m z
  after_is z m few long h =
      let e : length (take m (after_steps y steps)) ≡ m =
      length-take-le m (after_steps y steps) (omega (arith, length-after)) in
      ext_get_or 0 (take m (after_steps y steps)) (take m z) (e ∙ sym (length-take-le m z long)) (λ k l.
      let s : k < m = omega arith in
      get_or-take m (after_steps y steps) k 0 s
      ∙ after-at k (omega arith)
      ∙ omega (arith, h k s)
      ∙ sym (get_or-take m z k 0 s))

-- no steps leave the point as it is
module _ (y : List ℕ) (m : ℕ) (few : m ≤ 16) where
  none-at : (k : ℕ) → k < m → at y k + 16 ≡ at y k + at (replicate 16 16) k
  none-at k l = rw (get_or-replicate {A = ℕ} 16 k 16 0 (omega arith))

  pub none-can : CanTakeSteps m y (replicate 16 16)
  none-can k l = omega (arith, none-at k l)

  pub none_after : m ≤ length y → take m (after_steps y (replicate 16 16)) ≡ take m y
  none_after long = after_is y (replicate 16 16) y m few long none-at
