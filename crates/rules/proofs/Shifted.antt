-- A point with 1 more at an index and 1 less at an index. Assumes nothing.
use mathlib.Core.List.{List}
use mathlib.Core.Logic.{⊎_elim}
use mathlib.Core.Path.{◌≡◌, refl, ◌∙◌}
use Prim.Native.Nat.{ℕ, ◌+◌, ◌-◌, ◌≤◌, ◌<◌}
use borrow.Author.Tests.{eq-eqb, ne_eqb}
use lib.ListN.{length, take, set, length-set}
use lib.Seq.{get_or-set_same, get_or-set_other, get_or-take}
use native.Mathlib.Omega.{arith}
use Rattle.combinatorics.proofs.Basics.{same_or}
use Rattle.geometry.proofs.Definitions.{one_at}
use Rattle.grid_points.specs.Grid.{at}
use Rattle.rules.specs.Moves.{shifted}

pub at_most_one : (b k : ℕ) → one_at b k ≤ 1
at_most_one b k = ⊎_elim
    (λ (e : k ≡ b). rw (eq-eqb k b e) (omega arith))
    (λ (n : k ≡ b → ⊥). rw (ne_eqb k b n) (omega arith))
    (same_or k b)

module _ (y : List ℕ) (h b : ℕ) where
  pub length-shifted : length (shifted y h b) ≡ length y
  length-shifted = length-set (set y h (at y h + 1)) b (at (set y h (at y h + 1)) b - 1) ∙ length-set y h (at y h + 1)

  pub shifted_at : 0 < at y b → (k : ℕ) → k < length y → at (shifted y h b) k + one_at b k ≡ at y k + one_at h k
  shifted_at g k l =
      ⊎_elim (λ (e : k ≡ b). let m : b < length y = omega arith in rw (e, eq-eqb b b refl)
      (omega (arith, get_or-set_same z b (at z b - 1) 0 (omega (arith, length-set y h (at y h + 1))), raised b m)))
      (λ (n : k ≡ b → ⊥). rw (ne_eqb k b n) (omega (arith, get_or-set_other z b k (at z b - 1) 0 n, raised k l)))
      (same_or k b)
    where
      z : List ℕ
      z = set y h (at y h + 1)

      raised : (k : ℕ) → k < length y → at z k ≡ at y k + one_at h k
      raised k l = ⊎_elim
          (λ (e : k ≡ h).
          let m : h < length y = omega arith in
          rw (e, eq-eqb h h refl) (get_or-set_same y h (at y h + 1) 0 m))
          (λ (n : k ≡ h → ⊥). rw (ne_eqb k h n) (omega (arith, get_or-set_other y h k (at y h + 1) 0 n)))
          (same_or k h)

  -- the first m numbers
  pub shifted-moved : (m : ℕ) → 0 < at y b → m ≤ length y → (k : ℕ) → k < m
      → at (take m (shifted y h b)) k + one_at b k ≡ at (take m y) k + one_at h k
  shifted-moved m g l k i = rw (get_or-take m (shifted y h b) k 0 i, get_or-take m y k 0 i) (shifted_at g k (omega arith))
