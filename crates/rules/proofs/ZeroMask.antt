-- The mask of the indices at which a point is 0, one index after another. Assumes nothing.
use mathlib.Core.Bool.{◌&&◌}
use mathlib.Core.List.{List}
use mathlib.Core.Logic.{⊎_elim}
use mathlib.Core.Path.{◌≡◌, refl, ◌∙◌}
use Prim.Native.Nat.{ℕ, ◌+◌, ◌<◌}
use borrow.Author.Tests.{eq-eqb, ne_eqb, lt-ltb, le-ltb}
use lib.Dec.{eqb, ltb}
use native.Mathlib.Omega.{arith}
use Rattle.combinatorics.proofs.Basics.{same_or, before_or_not}
use Rattle.grid_points.specs.Grid.{at}
use Rattle.rules.proofs.Masks.{bit_with, bit-none}
use Rattle.rules.specs.Mask.{bit, with_index}

-- the mask has the indices below h at which y is 0
abbrev pub ZerosBelow : List ℕ → ℕ → ℕ → Type 0
ZerosBelow y h mask = (k : ℕ) → k < 16 → bit mask k ≡ (ltb k h && eqb (at y k) 0)

pub no-zeros : (y : List ℕ) → ZerosBelow y 0 0
no-zeros y k l = rw (bit-none k l, le-ltb k 0 (omega arith))

one_further : (k h : ℕ) → (k ≡ h → ⊥) → ltb k h ≡ ltb k (h + 1)
one_further k h n = ⊎_elim
    (λ l. rw (lt-ltb k h l, lt-ltb k (h + 1) (omega arith)))
    (λ l. rw (le-ltb k h l, le-ltb k (h + 1) (omega arith)))
    (before_or_not k h)

module _ (y : List ℕ) (h mask : ℕ) where
  pub zero_more : h < 16 → ZerosBelow y h mask → at y h ≡ 0 → ZerosBelow y (h + 1) (with_index mask h)
  zero_more a z e k l = bit_with mask h k a l
      ∙ ⊎_elim
      (λ (q : k ≡ h). rw (q, eq-eqb h h refl, lt-ltb h (h + 1) (omega arith), eq-eqb (at y h) 0 e))
      (λ (n : k ≡ h → ⊥). rw (ne_eqb k h n, ← one_further k h n) (z k l))
      (same_or k h)

  pub none_more : ZerosBelow y h mask → (at y h ≡ 0 → ⊥) → ZerosBelow y (h + 1) mask
  none_more z e k l = z k l
      ∙ ⊎_elim
      (λ (q : k ≡ h). rw (q, ne_eqb (at y h) 0 e, le-ltb h h (omega arith), lt-ltb h (h + 1) (omega arith)))
      (λ (n : k ≡ h → ⊥). rw (one_further k h n))
      (same_or k h)
