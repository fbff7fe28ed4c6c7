-- A place with a point that has no label: whatever it is linked to lies opposite to that point. In order: sets that
-- carry labels; links; the ways. Assumes nothing.
use mathlib.Core.Bool.{Bool, true, false, ◌&&◌, ◌||◌}
use mathlib.Core.List.{List, [], ◌∷◌, map}
use mathlib.Core.Logic.{inl, inr, ⊎_elim}
use mathlib.Core.Path.{◌≡◌, refl, sym, ap, ◌∙◌, subst}
use Prim.Native.Nat.{ℕ, suc, pred, ◌≤◌, ◌<◌}
use borrow.Author.Tests.{eqb-true}
use lib.Dec.{eqb}
use lib.ListN.{length, length-map}
use native.Mathlib.Omega.{arith}
use Rattle.combinatorics.proofs.Basics.{absurd_bool, and_left, and_right, false_of, or_cases, same_or}
use Rattle.combinatorics.proofs.Basics.{true_or_false}
use Rattle.combinatorics.proofs.Lists.{in_filter, in_map, length-filter_le, on_numbers, pigeon, same_sound}
use Rattle.combinatorics.specs.Lists.{all, distinct, filter, is_in, same}
use Rattle.geometry.proofs.Definitions.{Blocks, Carries, Extra}
use Rattle.geometry.proofs.Exits.{kinds, larger_is}
use Rattle.geometry.proofs.Graph.{Above, Through, exit, larger, through_one}
use Rattle.geometry.proofs.LabelledChains.{LabelledChain, LinkTo, list_at}
use Rattle.geometry.proofs.Onward.{end_not_through, facet_way}
use Rattle.geometry.proofs.Points.{list_at-map, nth}
use Rattle.grid_points.proofs.Points.{on_points}
use Rattle.grid_points.specs.Grid.{Point, at, num_indices, same_point}
use Rattle.place.specs.Ends.{link}
use Rattle.place.specs.Links.{exchanged, extended, linked}
use Rattle.place.specs.Places.{Simplex, all_labelled, is_place, label_set, order, set_t}
use Rattle.place.specs.Problem.{Problem, has_label, label}
use Rattle.path_laws.proofs.BlocksOfGrid.{blocks_of, coefficient_of, point_coefficient_of}
use Rattle.path_laws.proofs.ChainLinks.{exchanged_swapped, extended-to, of_link}
use Rattle.path_laws.proofs.Filled.{FullyLabelled}
use Rattle.path_laws.proofs.FromChain.{T-range}
use Rattle.path_laws.proofs.Gaps.{label-named}
use Rattle.path_laws.proofs.IndexSets.{order-distinct, order-within}
use Rattle.path_laws.proofs.LinkSymmetry.{parts}
use Rattle.path_laws.proofs.Meaning.{labels_mean}
use Rattle.path_laws.proofs.ToChain.{coefficients_of, grid-at, in_t, index_of, label_of, labelled_chain_of, place-long}
use Rattle.path_laws.proofs.ToChain.{points_of}
use Rattle.path_laws.proofs.ToChain.{points_of_coefficients_of}
use Rattle.path_laws.specs.Demand.{HasStart}
use Rattle.rules.proofs.Describes.{Left, facet_ends, left_on}
use Rattle.rules.specs.Moves.{After, State}
use Rattle.walk_ways.proofs.Kept.{kept_described}
use Rattle.walk_ways.specs.Lent.{kept_by, way_made}

all-kept : {A : Type 0} (r : A → Bool) (xs : List A) → length xs ≤ length (filter r xs) → all r xs ≡ true
all-kept r [] l = refl
all-kept r (x ∷ xs) l =
    ⊎_elim (λ t. rw t (all-kept r xs (let z = rw t at l in omega arith)))
    (λ f. absurd (let z = rw f at l in omega (arith, length-filter_le r xs))) (true_or_false (r x))

-- points that carry as many different labels as they are have each a label
covered_known : (p : Problem) (c : Simplex) (o : List ℕ) → distinct eqb o ≡ true
    → ((k : ℕ) → is_in eqb k o ≡ true → is_in eqb k (label_set p c) ≡ true) → length c ≤ length o
    → all_labelled p c ≡ true
covered_known p c o d w l =
    all-kept (has_label p) c (omega (
      arith,
      length-map (filter (has_label p) c) (λ y. pred (label p y)),
      pigeon on_numbers o (map (λ y. pred (label p y)) (filter (has_label p) c)) d (λ k m.
          let v = (labels_mean p c k).0 (w k m) in
          let e : pred (label p v.1.0) ≡ k = ap pred v.1.2 in
          rw (← e) (in_map on_points on_numbers (λ y. pred (label p y)) v.1.0 (filter (has_label p) c)
          (in_filter on_points (has_label p) v.1.0 c v.1.1 (label-named p v.1.0 k v.0 v.1.2)))),
    ))

module _ {p : Problem} (ok : HasStart p) where
  -- the smaller of two places, one of which is the other plus one point, has all labels
  smaller_known : (a b : Simplex) → is_place p a ≡ true → is_place p b ≡ true → extended p a b ≡ true
      → all_labelled p a ≡ true
  unfolding extended
  smaller_known a b ha hb e =
      let e1 : Bool = eqb (length b) (suc (length a)) in
      let e2 : Bool = all (λ y. is_in same_point y b) a in
      let e3 : Bool = same eqb (label_set p a) (set_t p b) in
      let x : length b ≡ suc (length a) = eqb-true _ _ (and_left e1 e2 (and_left (e1 && e2) e3 e)) in
      let t : label_set p a ≡ set_t p b = same_sound eqb eqb-true _ (set_t p b) (and_right (e1 && e2) e3 e) in
      covered_known p a (order p.grid b) (order-distinct p b hb) (λ k m. rw t (order-within p b hb k m))
      (omega (arith, x, place-long ok b hb))

  -- a link of places is one of the geometry, also where a point has no label
  link-any : (a b : Simplex) → is_place p a ≡ true → is_place p b ≡ true → linked p a b ≡ true
      → LinkTo (blocks_of p) (label_of p) (in_t p a) (length (order p.grid a)) (coefficients_of p a) (coefficients_of p b)
  unfolding linked
  link-any a b ha hb e = (
    in_t p b,
    length (order p.grid b),
    at (order p.grid b),
    labelled_chain_of ok b hb,
    ⊎_elim
        (λ m. ⊎_elim
        (λ x. inl (exchanged_swapped ok a b ha hb x))
        (λ x. inr (inl (extended-to ok a b ha hb (smaller_known a b ha hb x) x)))
        (or_cases (exchanged p a b) (extended p a b) m))
        (λ x. inr (inr (extended-to ok b a hb ha (smaller_known b a hb ha x) x)))
        (or_cases (exchanged p a b || extended p a b) (extended p b a) e),
  )

-- point i of a place has no label
module _ {p : Problem} (ok : HasStart p) (s : Simplex) (place : is_place p s ≡ true) (n : ℕ)
    (size : length (order p.grid s) ≡ suc n) (i : ℕ) (il : i ≤ suc n) (none : label p (nth s i) ≡ 0) where
  abbrev T : ℕ → Bool
  T = in_t p s

  abbrev x : List (ℕ → ℕ)
  x = coefficients_of p s

  own : LabelledChain (blocks_of p) (label_of p) T (suc n) (at (order p.grid s)) x
  own = subst
      (λ (t : ℕ). LabelledChain (blocks_of p) (label_of p) T t (at (order p.grid s)) x)
      size (labelled_chain_of ok s place)

  index-none : label_of p (list_at x i) ≡ num_indices p.grid
  index-none =
      let l : i < length s = omega (arith, place-long ok s place) in
      ap (label_of p) (list_at-map (coefficient_of p) s i l)
      ∙ ap
      (λ (z : Point). index_of (num_indices p.grid) (label p z))
      (point_coefficient_of ok (nth s i) (grid-at ok s (parts p s place).grid_points i l))
      ∙ ap (index_of (num_indices p.grid)) none

  none_in : T (label_of p (list_at x i)) ≡ false
  none_in = false_of _ (λ e. omega (arith, T-range ok own (label_of p (list_at x i)) e, index-none))

  extra : Extra T (suc n) (λ j. label_of p (list_at x j)) i
  extra =
      ⊎_elim (λ w. absurd_bool (sym (w.2.all i il) ∙ none_in))
      (λ w. ⊎_elim (λ (e : i ≡ w.0). rw e w.1) (λ e. absurd_bool (sym (w.1.rest i il e) ∙ none_in)) (same_or i w.0))
      (kinds (label_of p) own.chain own.covers)

  -- no other point's label can be done without
  pub gap-only : (j : ℕ) → j ≤ suc n → Carries T (suc n) (λ j. label_of p (list_at x j)) j → j ≡ i
  gap-only j l c = extra.only j l c

  -- what is linked lies opposite to it
  opposite : (b : Simplex) → is_place p b ≡ true → linked p s b ≡ true
      → Through (blocks_of p) T n x i (coefficients_of p b)
  opposite b hb e = ⊎_elim
      (λ f.
      let z : f.0 ≡ i = extra.only f.0 f.1 f.2 in
      subst (λ (j : ℕ). Through (blocks_of p) T n x j (coefficients_of p b)) z f.3)
      (λ Y. absurd (above Y))
      (exit own L)
    where
      L : LinkTo (blocks_of p) (label_of p) T (suc n) x (coefficients_of p b)
      L = subst
          (λ (t : ℕ). LinkTo (blocks_of p) (label_of p) T t x (coefficients_of p b))
          size (link-any ok s b place hb e)

      above : Above (blocks_of p) (label_of p) T (suc n) x (coefficients_of p b) → ⊥
      above Y =
          let G = larger own Y.3 Y.4 in
          let g = larger_is (label_of p) own.chain own.covers extra G.1.1 Y.4.covers in
          omega (arith, T-range ok Y.3 G.1.0 G.1.1.has, g, index-none)

  -- over a table that has the same places, point i leaves
  module _ {q : Problem} (full : FullyLabelled q) (same : blocks_of q ≡ blocks_of p)
      (points : (z : List (ℕ → ℕ)) → points_of q z ≡ points_of p z) {o : ℕ → ℕ}
      (chain : LabelledChain (blocks_of q) (label_of q) T (suc n) o x) where
    there : (i : ℕ) (y : List (ℕ → ℕ)) → Through (blocks_of q) T n x i y → Through (blocks_of p) T n x i y
    there i y X = subst (λ (R : Blocks). Through R T n x i y) same X

    pub gap_back : (b : Simplex) → is_place p b ≡ true → linked p s b ≡ true → {S : State} {after : After}
        → Left q T n x S i after
        → way_made q after ≡ link b
    gap_back b hb e (facet_ends h z F) = absurd (end_not_through chain F (coefficients_of p b)
        (rw z at (subst (λ (R : Blocks). Through R T n x i (coefficients_of p b)) (sym same) (opposite b hb e))))
    gap_back b hb e (left_on {after} w) =
        let r : w.0 ≡ coefficients_of p b =
        through_one x own.chain il w.0 (coefficients_of p b) (there i w.0 w.1) (opposite b hb e) in
        ap link
        (kept_described full w.2.describes
        ∙ points w.0
        ∙ ap (points_of p) r
        ∙ points_of_coefficients_of ok b (parts p b hb).grid_points)

    pub gap_way : (b : Simplex) {S : State} {after : After} → Left q T n x S i after → way_made q after ≡ link b
        → (is_place p b ≡ true) × (linked p s b ≡ true)
    gap_way b (facet_ends h z F) e = absurd_bool (cc)
    gap_way b (left_on {after} w) e =
        let k : kept_by q after ≡ b = cc in
        let m : points_of p w.0 ≡ b = sym (points w.0) ∙ sym (kept_described full w.2.describes) ∙ k in
        ⊎_elim (λ f. let r : f.0 ≡ w.0 = through_one x own.chain il f.0 w.0 f.1 (there i w.0 w.1) in
        let L = of_link ok s place f.2 in
        (rw (← m, ← r) L.0, rw (← m, ← r) L.1))
        (λ f. absurd (end_not_through own f.1 w.0 (there i w.0 w.1)))
        (facet_way own i il extra.less_first)
