-- The blocks that have an index in neither of two masks, met in order. Assumes nothing.
use mathlib.Core.Bool.{true, false, not, ◌&&◌, cond}
use mathlib.Core.List.{List, [], ◌∷◌}
use mathlib.Core.Logic.{⊎_elim}
use mathlib.Core.Path.{◌≡◌, refl, sym, ap, ◌∙◌}
use Prim.Native.Nat.{ℕ, zero, suc, ◌+◌, ◌≤◌, ◌<◌}
use borrow.Author.Tests.{eq-eqb, ne_eqb, not-true}
use lib.Dec.{eqb}
use lib.ListN.{get_or, take}
use native.Mathlib.Numerals.{add-one}
use native.Mathlib.Omega.{arith}
use Rattle.combinatorics.proofs.Basics.{absurd_bool, and_left, and_right, same_or}
use Rattle.combinatorics.specs.Lists.{sum}
use Rattle.grid.proofs.Fields.{made-blocks, made-indices}
use Rattle.grid_points.proofs.Round.{block_spans}
use Rattle.grid_points.specs.Grid.{at, block_of}
use Rattle.grid.specs.Made.{IsMade, shape}
use Rattle.grid.specs.declared.Grid.{Grid as GridStruct}
use Rattle.rules.specs.Mask.{bit}
use Rattle.walk_recogniser.specs.Pieces.{in_neither, FreeIn, filled, IsFree}

pub neither : (t u h : ℕ) → (not (bit t h) && not (bit u h)) ≡ true → in_neither t u h
neither t u h e = (
  not-true (bit t h) (and_left (not (bit t h)) (not (bit u h)) e),
  not-true (bit u h) (and_right (not (bit t h)) (not (bit u h)) e),
)

not_neither : (t u h : ℕ) → (not (bit t h) && not (bit u h)) ≡ false → in_neither t u h → ⊥
not_neither t u h e w = let z : (not (bit t h) && not (bit u h)) ≡ true = rw (w.0, w.1) in absurd_bool (sym z ∙ e)

take_none : (n : ℕ) → sum (take n []) ≡ 0
take_none zero = refl
take_none (suc n) = refl

pub next-sum : (ss : List ℕ) (j : ℕ) → sum (take (j + 1) ss) ≡ sum (take j ss) + get_or ss j 0
next-sum [] j = omega (arith, take_none (j + 1), take_none j)
next-sum (s ∷ ss) zero = omega arith
next-sum (s ∷ ss) (suc j) = rw (add-one (suc j)) (omega (arith, rw (add-one j) at (next-sum ss j)))

-- among the indices below h: the first `met` blocks have an index in neither, the next has none, and all such have
-- coefficient 0
pub record Met (g : GridStruct) (c : List ℕ) (t u h met : ℕ) : Type 0 where
  pub each : (j : ℕ) → j < met → FreeIn g t u j
  pub next : (k : ℕ) → k < h → in_neither t u k → block_of (shape g) k ≡ met → ⊥
  pub zero : (k : ℕ) → k < h → in_neither t u k → at c k ≡ 0
  pub few : met ≤ g.blocks

module _ (g : GridStruct) (made : IsMade g) (c : List ℕ) (t u : ℕ) where
  block-low : (h : ℕ) → h < g.indices → block_of (shape g) h < g.blocks
  block-low h l =
      omega (arith, (block_spans (shape g).sizes h (omega (arith, made-indices g made))).0, made-blocks g made)

  module _ (h met : ℕ) (low : h < g.indices) (w : Met g c t u h met) where
    pub met_other : (not (bit t h) && not (bit u h)) ≡ false → Met g c t u (h + 1) met
    met_other n = record {
      each = w.each;
      next = λ k l f e. ⊎_elim
          (λ (q : k ≡ h). not_neither t u h n (rw q at f))
          (λ (q : k ≡ h → ⊥). w.next k (omega (arith, q)) f e)
          (same_or k h);
      zero = λ k l f. ⊎_elim
          (λ (q : k ≡ h). absurd (not_neither t u h n (rw q at f)))
          (λ (q : k ≡ h → ⊥). w.zero k (omega (arith, q)) f)
          (same_or k h);
      few = w.few;
    }

    pub met_more : (not (bit t h) && not (bit u h)) ≡ true → at c h ≡ 0 → (b : ℕ) → b ≡ block_of (shape g) h
        → Met g c t u (h + 1) (cond (eqb b met) (met + 1) met)
    met_more n z b is = ⊎_elim
        (λ (q : b ≡ met). rw (eq-eqb b met q) (record {
          each = λ j l. ⊎_elim
              (λ (p : j ≡ met). record { index = h; below = low; block = sym is ∙ q ∙ sym p; free = neither t u h n })
              (λ (p : j ≡ met → ⊥). w.each j (omega (arith, p)))
              (same_or j met);
          next = λ k l f e. ⊎_elim
              (λ (p : k ≡ h). absurd (omega (arith, ap (block_of (shape g)) p, e)))
              (λ (p : k ≡ h → ⊥). later q k (omega (arith, p)) e)
              (same_or k h);
          zero = zero;
          few = omega (arith, block-low h low);
        }))
        (λ (q : b ≡ met → ⊥). rw (ne_eqb b met q) (record {
          each = w.each;
          next = λ k l f e. ⊎_elim
              (λ (p : k ≡ h). q (is ∙ ap (block_of (shape g)) (sym p) ∙ e))
              (λ (p : k ≡ h → ⊥). w.next k (omega (arith, p)) f e)
              (same_or k h);
          zero = zero;
          few = w.few;
        }))
        (same_or b met)
      where
        zero : (k : ℕ) → k < h + 1 → in_neither t u k → at c k ≡ 0
        zero k l f = ⊎_elim (λ (q : k ≡ h). rw q z) (λ (q : k ≡ h → ⊥). w.zero k (omega (arith, q)) f) (same_or k h)

        -- blocks rise with their indices
        later : b ≡ met → (k : ℕ) → k < h → block_of (shape g) k ≡ met + 1 → ⊥
        later own k l e =
            let ss = (shape g).sizes in
            let a = (block_spans ss k (omega (arith, made-indices g made))).1 in
            let b = (block_spans ss h (omega (arith, made-indices g made))).2 in
            let d : sum (take (met + 1) ss) ≤ k = rw e at a in
            let z : block_of (shape g) h ≡ met = sym is ∙ own in
            omega (arith, (rw z at b), next-sum ss met, d)

  pub met_all : (h met : ℕ) → Met g c t u h met → h ≡ g.indices → IsFree g c t u (eqb met g.blocks)
  met_all h met w e = record {
    yes = λ q. record {
      each = λ j l. w.each j (omega (arith, eqb_is met g.blocks q));
      zero = λ k l f. w.zero k (omega arith) f;
    };
    no = λ q. filled met (omega (arith, w.few, ne_is met g.blocks q))
        (λ f. w.next f.index (omega (arith, f.below)) f.free f.block);
  }
    where
      eqb_is : (a b : ℕ) → eqb a b ≡ true → a ≡ b
      eqb_is a b p = ⊎_elim (λ (r : a ≡ b). r) (λ (r : a ≡ b → ⊥). absurd_bool (sym p ∙ ne_eqb a b r)) (same_or a b)

      ne_is : (a b : ℕ) → eqb a b ≡ false → a ≡ b → ⊥
      ne_is a b p r = absurd_bool (sym (eq-eqb a b r) ∙ p)
