-- The masks of an order's indices and of what they leave of the zeros, one index after another. Assumes nothing.
use mathlib.Core.Bool.{Bool, true, false, not, ◌&&◌, ◌||◌, or-true}
use mathlib.Core.List.{List}
use mathlib.Core.Logic.{⊎_elim}
use mathlib.Core.Path.{◌≡◌, refl, sym, ap, ◌∙◌}
use Prim.Native.Nat.{ℕ, ◌+◌, ◌≤◌, ◌<◌}
use borrow.Author.Tests.{eqb-true, eq-eqb}
use lib.Dec.{eqb}
use native.Mathlib.Omega.{arith}
use Rattle.combinatorics.proofs.Basics.{absurd_bool, or_cases, same_or}
use Rattle.grid_points.specs.Grid.{at}
use Rattle.rules.proofs.Masks.{bit-none, bit_with, bit_without}
use Rattle.rules.specs.Mask.{bit, with_index, without_index}
use Rattle.walk_recogniser.specs.Pieces.{AreTandU}

and_true : (a : Bool) → a ≡ (a && true)
and_true true = refl
and_true false = refl

less : (e z t : Bool) → (not e && (z && not t)) ≡ (z && not (e || t))
less true true t = refl
less true false t = refl
less false z t = refl

pub sets_none : (order : List ℕ) (m zeros : ℕ) → AreTandU order 0 m zeros 0 zeros
sets_none order m zeros = record {
  below = λ j l. absurd (omega arith);
  once = λ i j l. absurd (omega arith);
  has = λ j l. absurd (omega arith);
  only = λ k l e. absurd_bool (sym e ∙ bit-none k l);
  rest = λ k l. rw (bit-none k l) (and_true (bit zeros k));
}

module _ (order : List ℕ) (k m zeros t u h : ℕ) (s : AreTandU order k m zeros t u) (is : h ≡ at order k) (low : h < m)
    (few : m ≤ 16) where
  -- where T has the index, it stands twice
  pub stands-twice : bit t h ≡ true → (i : ℕ) × (i < k) × (at order i ≡ at order k)
  stands-twice e = let w = s.only h (omega arith) e in (w.0, w.1, w.2 ∙ is)

  module _ (new : bit t h ≡ false) where
    apart : (j : ℕ) → j < k → at order j ≡ at order k → ⊥
    apart j l e = absurd_bool (sym (s.has j l) ∙ ap (bit t) (e ∙ sym is) ∙ new)

    pub sets_more : AreTandU order (k + 1) m zeros (with_index t h) (without_index u h)
    sets_more = record {
      below = λ j l.
          ⊎_elim (λ (e : j ≡ k). rw (e, ← is) low) (λ (n : j ≡ k → ⊥). s.below j (omega (arith, n))) (same_or j k);
      once = λ i j l r e. ⊎_elim
          (λ (p : i ≡ k). ⊎_elim
          (λ (q : j ≡ k). p ∙ sym q)
          (λ (n : j ≡ k → ⊥). absurd (apart j (omega (arith, n)) (sym e ∙ ap (at order) p)))
          (same_or j k))
          (λ (n : i ≡ k → ⊥). ⊎_elim
          (λ (q : j ≡ k). absurd (apart i (omega (arith, n)) (e ∙ ap (at order) q)))
          (λ (q : j ≡ k → ⊥). s.once i j (omega (arith, n)) (omega (arith, q)) e)
          (same_or j k))
          (same_or i k);
      has = λ j l. ⊎_elim
          (λ (e : j ≡ k). rw (e, ← is, bit_with t h h (omega arith) (omega arith), eq-eqb h h refl))
          (λ (n : j ≡ k → ⊥).
          let w = s.below j (omega (arith, n)) in
          bit_with t h (at order j) (omega arith) (omega arith)
          ∙ (rw (s.has j (omega (arith, n))) (or-true (eqb (at order j) h))))
          (same_or j k);
      only = λ i l e. ⊎_elim
          (λ a. (k, omega arith, sym is ∙ sym (eqb-true i h a)))
          (λ a. let w = s.only i l a in (w.0, omega (arith, w.1), w.2))
          (or_cases (eqb i h) (bit t i) (sym (bit_with t h i (omega arith) l) ∙ e));
      rest = λ i l. bit_without u h i (omega arith) l
          ∙ rw (s.rest i l, bit_with t h i (omega arith) l) (less (eqb i h) (bit zeros i) (bit t i));
    }
