-- The labels of a place determine its ways out. In order: facets that carry T; one label twice or one outside T; where
-- all labels are in T no block is complete; a label g outside T gives the larger chain or a complete block, and not
-- both. Assumes nothing.
use mathlib.Core.Bool.{Bool, true}
use mathlib.Core.Logic.{◌⊎◌, inl, inr, ⊎_elim}
use mathlib.Core.Path.{◌≡◌, sym, ap, ◌∙◌}
use Prim.Native.Nat.{ℕ, suc, ◌≤◌, ◌<◌}
use native.Mathlib.Omega.{arith}
use Rattle.combinatorics.proofs.Basics.{true_or_false, absurd_bool, same_or}
use Rattle.geometry.proofs.Definitions.{Blocks, Chain, Less, Omit, Filled, Grown, Carries, Twice, Extra}
use Rattle.geometry.proofs.Definitions.{Complete, Covers, Inside}
use Rattle.geometry.proofs.Grow.{room_or, grow, grown_not_filled}
use Rattle.geometry.proofs.Labels.{from_omit, to_omit, labels}
use Rattle.geometry.proofs.Orders.{less_back}

-- the facet carries T, and so does the facet of every chain through it
pub carry-facet : (label_of : (ℕ → ℕ) → ℕ) {T : ℕ → Bool} {s i : ℕ} {p q : ℕ → ℕ → ℕ} → i ≤ suc s → Omit (suc s) i p q
    → Carries T (suc s) (λ j. label_of (p j)) i → Covers label_of T s q
carry-facet label_of {s} {i} {p} {q} b m c k e =
    let w = c k e in
    let u = to_omit w.0 m b w.1 w.2 in
    (u.0, omega (arith, u.1), ap label_of u.2 ∙ w.3)

pub facet-carry : (label_of : (ℕ → ℕ) → ℕ) {T : ℕ → Bool} {s i : ℕ} {p q : ℕ → ℕ → ℕ} → Omit (suc s) i p q
    → Covers label_of T s q
    → Carries T (suc s) (λ j. label_of (p j)) i
facet-carry label_of {s} {i} {p} {q} m c k e =
    let w = c k e in
    let u = from_omit w.0 m (omega (arith, w.1)) in
    (u.0, omega (arith, u.2), u.3, ap label_of (sym u.1) ∙ w.2)

pub carries_cover : (label_of : (ℕ → ℕ) → ℕ) {T : ℕ → Bool} (t i : ℕ) (p : ℕ → ℕ → ℕ)
    → Carries T t (λ j. label_of (p j)) i → Covers label_of T t p
carries_cover label_of t i p c k e = let w = c k e in (w.0, w.1, w.3)

module _ {R : Blocks} (label_of : (ℕ → ℕ) → ℕ) {T : ℕ → Bool} {t : ℕ} {p : ℕ → ℕ → ℕ} {o : ℕ → ℕ} (K : Chain R T t p o)
    (cover : Covers label_of T t p) where
  -- one label twice, or one outside T
  pub kinds : ((a : ℕ) × (b : ℕ) × Twice T t (λ j. label_of (p j)) a b) ⊎ ((a : ℕ) × Extra T t (λ j. label_of (p j)) a)
  kinds = labels K.order cover

  -- a facet that carries T has no other label
  pub labels_in : (i : ℕ) → i ≤ t → Carries T t (λ j. label_of (p j)) i → (j : ℕ) → j ≤ t → (j ≡ i → ⊥)
      → T (label_of (p j)) ≡ true
  labels_in i l c j m n =
      ⊎_elim (λ w. w.2.all j m)
      (λ w. w.1.rest j m (λ e. n (e ∙ sym (w.1.only i l c)))) kinds

  -- where all labels are in T no block is complete, and no larger set of indices has just these labels
  pub inside_not_complete : Inside label_of T t p → (h : ℕ) → Complete R label_of t p h → ⊥
  inside_not_complete a h c =
      let f = K.free h in
      ⊎_elim (λ w. absurd_bool (sym (a w.0 w.1) ∙ ap T w.2 ∙ f.2))
      (λ w. omega (arith, w 0 (omega arith), f.3)) (c f.0 f.1)

  pub inside_not_larger : Inside label_of T t p → {T+ : ℕ → Bool} {g : ℕ} → Less T+ T g → Covers label_of T+ t p → ⊥
  inside_not_larger a {g} L c = let w = c g L.has in absurd_bool (sym (a w.0 w.1) ∙ ap T w.2 ∙ L.out)

  -- where point a has a label g outside T
  module _ {a : ℕ} (x : Extra T t (λ j. label_of (p j)) a) where
    -- a larger set with just these labels is T and g
    pub larger_is : {T+ : ℕ → Bool} {g : ℕ} → Less T+ T g → Covers label_of T+ t p → g ≡ label_of (p a)
    larger_is {g} L c =
        let w = c g L.has in
        ⊎_elim (λ (e : w.0 ≡ a). sym w.2 ∙ ap (λ (j : ℕ). label_of (p j)) e)
        (λ n. absurd_bool (sym (x.rest w.0 w.1 n) ∙ ap T w.2 ∙ L.out)) (same_or w.0 a)

    pub larger_covers : {T+ : ℕ → Bool} → Less T+ T (label_of (p a)) → Covers label_of T+ t p
    larger_covers L k e = ⊎_elim (λ (q : k ≡ label_of (p a)). (a, x.first, sym q)) (λ q. cover k q) (less_back L k e)

    pub larger_inside : {T+ : ℕ → Bool} → Less T+ T (label_of (p a)) → Inside label_of T+ t p
    larger_inside {T+} L j l =
        ⊎_elim (λ (e : j ≡ a). ap (λ (i : ℕ). T+ (label_of (p i))) e ∙ L.has)
        (λ n. let e : T (label_of (p j)) ≡ true = x.rest j l n in
        sym (L.rest (label_of (p j)) (λ q. absurd_bool (sym e ∙ ap T q ∙ x.out))) ∙ e) (same_or j a)

    -- only g's block can be complete
    pub complete-at : (h : ℕ) → Complete R label_of t p h → R.block h ≡ R.block (label_of (p a))
    complete-at h c =
        let f = K.free h in
        ⊎_elim
        (λ w.
        ⊎_elim (λ (e : w.0 ≡ a). sym f.1 ∙ ap R.block (sym w.2 ∙ ap (λ (j : ℕ). label_of (p j)) e))
        (λ n. absurd_bool (sym (x.rest w.0 w.1 n) ∙ ap T w.2 ∙ f.2)) (same_or w.0 a))
        (λ w. absurd (omega (arith, w 0 (omega arith), f.3))) (c f.0 f.1)

    -- and it is complete where no larger chain is
    module _ {T+ : ℕ → Bool} (L : Less T+ T (label_of (p a))) where
      pub up_or : ((p+ : ℕ → ℕ → ℕ) × (o+ : ℕ → ℕ) × (i : ℕ) × Grown R T+ t p p+ o+ i)
          ⊎ Complete R label_of t p (label_of (p a))
      up_or =
          ⊎_elim (λ f. inl (grow L K f))
          (λ n. inr (λ k b. ⊎_elim (λ e. inl (larger_covers L k e)) (λ e. inr (n k b e)) (true_or_false (T+ k))))
          (room_or L K)

      pub up_not_complete : {p+ : ℕ → ℕ → ℕ} {o+ : ℕ → ℕ} {i : ℕ} → Grown R T+ t p p+ o+ i → (h : ℕ)
          → Complete R label_of t p h → ⊥
      up_not_complete {p+} {o+} {i} G h c =
          grown_not_filled L K G
          (λ k b e. ⊎_elim (λ w. absurd_bool (sym (larger_inside L w.0 w.1) ∙ ap T+ w.2 ∙ e))
          (λ w. w 0 (omega arith)) (c k (b ∙ sym (complete-at h c))))

-- a facet end is a filled block
module _ (R : Blocks) (label_of : (ℕ → ℕ) → ℕ) (T : ℕ → Bool) {s : ℕ} {p : ℕ → ℕ → ℕ} {i : ℕ} (l : i ≤ suc s)
    {q : ℕ → ℕ → ℕ} (m : Omit (suc s) i p q) where
  pub fills-complete : Covers label_of T s q → (h : ℕ) → Filled R T s p i h → Complete R label_of s q h
  fills-complete c h f k b = ⊎_elim
      (λ e. inl (c k e))
      (λ e. inr (λ j a.
      let y : j < suc s = omega arith in
      let w = from_omit j m y in
      let z : w.0 ≤ suc s = omega (arith, w.2) in
      rw w.1 (f k b e w.0 z w.3)))
      (true_or_false (T k))

  pub complete-fills : Inside label_of T s q → (h : ℕ) → Complete R label_of s q h → Filled R T s p i h
  complete-fills c h f k b e j a n =
      let w = to_omit j m l a n in
      ⊎_elim (λ u. absurd_bool (sym (c u.0 u.1) ∙ ap T u.2 ∙ e))
      (λ u. rw w.2 at (u w.0 (omega (arith, w.1)))) (f k b)
