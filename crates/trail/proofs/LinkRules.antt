-- Each link is exactly one rule. In order: a set less an index, as lists; U as the zeros of the first point; an
-- exchange; an index that comes into T; links. Assumes nothing.
use mathlib.Core.Bool.{Bool, true, ◌&&◌, ◌||◌}
use mathlib.Core.List.{List, [], ◌∷◌, map}
use mathlib.Core.Logic.{inl, inr, ⊎_elim}
use mathlib.Core.Path.{◌≡◌, refl, sym, ap, ◌∙◌, subst}
use Prim.Native.Nat.{ℕ, zero, suc, ◌≤◌, ◌<◌}
use borrow.Author.Tests.{eqb-true}
use lib.Dec.{eqb}
use lib.ListN.{length, length-map}
use native.Mathlib.Omega.{arith}
use Rattle.combinatorics.proofs.Basics.{absurd_bool, true_or_false, same_or, before_or_not, and_left, and_right}
use Rattle.combinatorics.proofs.Basics.{or_cases, both}
use Rattle.combinatorics.proofs.Lists.{all_in, in_all, same_sound, distinct_filter, on_numbers, length_passing}
use Rattle.combinatorics.proofs.Ranges.{distinct-up_from}
use Rattle.combinatorics.specs.Lists.{all, is_in, same, distinct}
use Rattle.geometry.proofs.Bridge.{chain-place}
use Rattle.geometry.proofs.Definitions.{Less, Place, coord, zeros}
use Rattle.geometry.proofs.Graph.{larger, swapped_facet, Facet}
use Rattle.geometry.proofs.LabelledChains.{LabelledChain, Swapped, list_at}
use Rattle.geometry.proofs.Points.{nth, list_at-map}
use Rattle.grid_points.proofs.Points.{on_points}
use Rattle.grid_points.specs.Grid.{Point, at, num_indices, indices, same_point, position}
use Rattle.place.specs.Links.{shared, exchanged, extended, linked}
use Rattle.place.specs.Places.{Simplex, set_t, set_u, label_set, within, is_place, all_labelled, order}
use Rattle.place.specs.Problem.{Problem, has_label}
use Rattle.path_laws.proofs.BlocksOfGrid.{blocks_of, coefficient_of, coord_in, coord_out}
use Rattle.path_laws.proofs.ChainLinks.{exchanged_swapped, extended-to}
use Rattle.path_laws.proofs.IndexSets.{T-distinct}
use Rattle.path_laws.proofs.LinkSymmetry.{parts, place-distinct, linked-other}
use Rattle.path_laws.proofs.Meaning.{U_means}
use Rattle.path_laws.proofs.Positions.{at_in, in_at}
use Rattle.path_laws.proofs.Theorem.{single}
use Rattle.path_laws.proofs.ToChain.{in_t, in_u, coefficients_of, label_of, is_at, place-long, place-chain}
use Rattle.path_laws.proofs.ToChain.{labelled_chain_of}
use Rattle.path_laws.specs.Demand.{HasStart}
use Rattle.trail.proofs.Outside.{one_of, outside-count, outside-none, outside-one}
use Rattle.trail.proofs.Rules.{back, inverse}
use Rattle.trail.proofs.Zeros.{Exchange, beside-zeros, grown_zeros}
use Rattle.trail.specs.Change.{change, change_by, outside, ByRule, rule1, rule2, rule3, rule4, rule5}

-- two sets of indices, as lists without repeats
module _ (u v : List ℕ) where
  pub alike-none : ((k : ℕ) → is_in eqb k u ≡ is_in eqb k v) → (outside eqb v u ≡ []) × (outside eqb u v ≡ [])
  alike-none h = (outside-none on_numbers u v (λ k m. sym (h k) ∙ m), outside-none on_numbers v u (λ k m. h k ∙ m))

  -- v is u less g
  pub less_one : distinct eqb u ≡ true → {g : ℕ} → Less (λ k. is_in eqb k u) (λ k. is_in eqb k v) g
      → (outside eqb v u ≡ g ∷ []) × (outside eqb u v ≡ [])
  less_one d {g} L = (
    outside-one on_numbers u v d g L.has L.out
        (λ k m n. ⊎_elim (λ e. e) (λ ne. absurd_bool (sym m ∙ sym (L.rest k ne) ∙ n)) (same_or k g)),
    outside-none on_numbers v u
        (λ k m. ⊎_elim (λ (e : k ≡ g). rw e L.has) (λ ne. sym (L.rest k ne) ∙ m) (same_or k g)),
  )

U-distinct : (p : Problem) (s : Simplex) → distinct eqb (set_u p.grid s) ≡ true
unfolding set_u
U-distinct p s = distinct_filter on_numbers (λ h. all (λ y. eqb (at y h) 0) s) (indices p.grid)
    (distinct-up_from 0 (num_indices p.grid))

-- a change by its parts
pub change-is : (p : Problem) (a b : Simplex) {i o : Simplex} {t t' u u' : List ℕ} → outside same_point a b ≡ i
    → outside same_point b a ≡ o → outside eqb (set_t p a) (set_t p b) ≡ t → outside eqb (set_t p b) (set_t p a) ≡ t'
    → outside eqb (set_u p.grid a) (set_u p.grid b) ≡ u → outside eqb (set_u p.grid b) (set_u p.grid a) ≡ u'
    → change p a b ≡ change_by (map (position p.grid) i) (map (position p.grid) o) t t' u u'
unfolding change
change-is p a b ei eo et et' eu eu' = rw (ei, eo, et, et', eu, eu')

-- the link back is the inverse rule
rule-back : (p : Problem) (a b : Simplex) {r : ℕ} → ByRule (change p a b) r → ByRule (change p b a) (inverse r)
unfolding change
rule-back p a b m = back m

exchanged-parts : (p : Problem) (a b : Simplex) → exchanged p a b ≡ true
    → (length a ≡ suc (length (shared a b))) × (length b ≡ suc (length (shared a b))) × (set_t p a ≡ set_t p b)
unfolding exchanged
exchanged-parts p a b x =
    let e1 : Bool = eqb (length a) (suc (length (shared a b))) in
    let e2 : Bool = eqb (length b) (suc (length (shared a b))) in
    let e3 : Bool = same eqb (set_t p a) (set_t p b) in
    let f : (e1 && e2 && e3) ≡ true = and_left (e1 && e2 && e3) (within (set_t p a) (label_set p (shared a b))) x in
    let k : (e1 && e2) ≡ true = and_left (e1 && e2) e3 f in (
      eqb-true _ _ (and_left e1 e2 k),
      eqb-true _ _ (and_right e1 e2 k),
      same_sound eqb eqb-true (set_t p a) (set_t p b) (and_right (e1 && e2) e3 f),
    )

extended-parts : (p : Problem) (a b : Simplex) → extended p a b ≡ true
    → (length b ≡ suc (length a)) × (all (λ y. is_in same_point y b) a ≡ true)
unfolding extended
extended-parts p a b x =
    let e1 : Bool = eqb (length b) (suc (length a)) in
    let e2 : Bool = all (λ y. is_in same_point y b) a in
    let k : (e1 && e2) ≡ true = and_left (e1 && e2) (same eqb (label_set p a) (set_t p b)) x in
    (eqb-true _ _ (and_left e1 e2 k), and_right e1 e2 k)

module _ {p : Problem} (ok : HasStart p) where
  -- U is the zeros of the first point outside T
  module _ (s : Simplex) (h : is_place p s ≡ true) where
    in_coord : (j : ℕ) → j < length s → (k : ℕ) → k < num_indices p.grid
        → coord (blocks_of p) (list_at (coefficients_of p s) j) k ≡ at (nth s j) k
    in_coord j l k m = ap (λ (c : ℕ → ℕ). coord (blocks_of p) c k) (list_at-map (coefficient_of p) s j l)
        ∙ coord_in p (is_at ok s (parts p s h).grid_points j l) k m

    out_coord : (j : ℕ) → j < length s → (k : ℕ) → num_indices p.grid ≤ k
        → coord (blocks_of p) (list_at (coefficients_of p s) j) k ≡ 1
    out_coord j l k m = ap (λ (c : ℕ → ℕ). coord (blocks_of p) c k) (list_at-map (coefficient_of p) s j l)
        ∙ coord_out p (is_at ok s (parts p s h).grid_points j l) k m

    pub U-zeros : (k : ℕ) → in_u p s k ≡ zeros (blocks_of p) (in_t p s) (list_at (coefficients_of p s) 0) k
    U-zeros k = both _ _ to of
      where
        P : Place (blocks_of p) (in_t p s) (zeros (blocks_of p) (in_t p s) (list_at (coefficients_of p s) 0))
            (length (order p.grid s)) (list_at (coefficients_of p s)) (at (order p.grid s))
        P = chain-place (place-chain ok s h)

        to : in_u p s k ≡ true → zeros (blocks_of p) (in_t p s) (list_at (coefficients_of p s) 0) k ≡ true
        to u =
            let w = (U_means p.grid s k).0 u in
            ⊎_elim (λ t. t)
            (λ f. let j = P.used k f in
            let l : j.0 < length s = omega (arith, j.1, place-long ok s h) in
            absurd (omega (arith, j.2, in_coord j.0 l k w.0, w.1 (nth s j.0) (at_in on_points [] s j.0 l))))
            (true_or_false (zeros (blocks_of p) (in_t p s) (list_at (coefficients_of p s) 0) k))

        of : zeros (blocks_of p) (in_t p s) (list_at (coefficients_of p s) 0) k ≡ true → in_u p s k ≡ true
        of z = ⊎_elim
            (λ (l : k < num_indices p.grid). (U_means p.grid s k).1 (
              l,
              (λ y m.
                  let j = in_at on_points [] y s m in
                  ap (λ (y : Point). at y k) (sym j.2)
                  ∙ sym (in_coord j.0 j.1 k l)
                  ∙ P.unused k z j.0 (omega (arith, j.1, place-long ok s h))),
            ))
            (λ (l : num_indices p.grid ≤ k).
            absurd (omega (arith, P.unused k z 0 (omega arith), out_coord 0 (omega (arith, place-long ok s h)) k l)))
            (before_or_not k (num_indices p.grid))

  module _ (a b : Simplex) (ha : is_place p a ≡ true) (hb : is_place p b ≡ true) where
    Zeros : Simplex → ℕ → Bool
    Zeros s = zeros (blocks_of p) (in_t p s) (list_at (coefficients_of p s) 0)

    less_U : (s t : Simplex) → is_place p s ≡ true → is_place p t ≡ true → {g : ℕ} → Less (Zeros s) (Zeros t) g
        → Less (in_u p s) (in_u p t) g
    unfolding Zeros
    less_U s t hs ht {g} L = record {
      has = U-zeros s hs g ∙ L.has;
      out = U-zeros t ht g ∙ L.out;
      rest = λ k n. U-zeros t ht k ∙ L.rest k n ∙ sym (U-zeros s hs k);
    }

    -- one point comes in and one goes out, T is kept
    exchanged-rule : linked p a b ≡ true → exchanged p a b ≡ true → (r : ℕ) × ByRule (change p a b) r
    unfolding Zeros
    exchanged-rule e x = go (length (order p.grid a)) refl
      where
        X : (length a ≡ suc (length (shared a b))) × (length b ≡ suc (length (shared a b))) × (set_t p a ≡ set_t p b)
        X = exchanged-parts p a b x

        gone : (y : Point) × (outside same_point b a ≡ y ∷ [])
        gone = one_of (outside same_point b a) (omega (arith, X.0, length_passing (λ y. is_in same_point y b) a))

        come : (y : Point) × (outside same_point a b ≡ y ∷ [])
        come = one_of (outside same_point a b) (omega (
          arith,
          X.0,
          X.1,
          ap length gone.1,
          outside-count on_points a b (place-distinct p a ha) (place-distinct p b hb),
        ))

        T-kept : (outside eqb (set_t p b) (set_t p a) ≡ []) × (outside eqb (set_t p a) (set_t p b) ≡ [])
        T-kept = alike-none (set_t p a) (set_t p b) (λ k. ap (λ (u : List ℕ). is_in eqb k u) X.2)

        by : Exchange (Zeros a) (Zeros b) → (r : ℕ) × ByRule (change p a b) r
        by (inl k) =
            let U =
            alike-none (set_u p.grid a) (set_u p.grid b) (λ j. U-zeros a ha j ∙ sym (k j) ∙ sym (U-zeros b hb j)) in (
              1,
              rule1 (position p.grid come.0) (position p.grid gone.0)
                  (change-is p a b come.1 gone.1 T-kept.1 T-kept.0 U.1 U.0),
            )
        by (inr (inl w)) =
            let U = less_one (set_u p.grid b) (set_u p.grid a) (U-distinct p b) (less_U b a hb ha w.1) in (
              2,
              rule2 (position p.grid come.0) (position p.grid gone.0) w.0
                  (change-is p a b come.1 gone.1 T-kept.1 T-kept.0 U.0 U.1),
            )
        by (inr (inr w)) =
            let U = less_one (set_u p.grid a) (set_u p.grid b) (U-distinct p a) (less_U a b ha hb w.1) in (
              3,
              rule3 (position p.grid come.0) (position p.grid gone.0) w.0
                  (change-is p a b come.1 gone.1 T-kept.1 T-kept.0 U.1 U.0),
            )

        go : (t : ℕ) → length (order p.grid a) ≡ t → (r : ℕ) × ByRule (change p a b) r
        go zero q = absurd (linked-other p a (rw (← alike) at e))
          where
            alike : a ≡ b
            alike = single ok a ha (place-long ok a ha ∙ ap suc q)
                ∙ sym (single ok b hb (X.1 ∙ sym X.0 ∙ place-long ok a ha ∙ ap suc q))
        go (suc s) q = through (swapped_facet A (labelled_chain_of ok b hb) W)
          where
            A : LabelledChain (blocks_of p) (label_of p) (in_t p a) (suc s) (at (order p.grid a)) (coefficients_of p a)
            A = rw q at (labelled_chain_of ok a ha)

            W : Swapped (label_of p) (in_t p a) (suc s) (coefficients_of p a) (in_t p b) (length (order p.grid b))
                (coefficients_of p b)
            W = rw q at (exchanged_swapped ok a b ha hb x)

            through : Facet A (coefficients_of p b) → (r : ℕ) × ByRule (change p a b) r
            through F = ⊎_elim
                (λ B. by (subst
                (λ (t : List ℕ).
                Exchange (Zeros a) (zeros (blocks_of p) (λ k. is_in eqb k t) (list_at (coefficients_of p b) 0)))
                X.2 (beside-zeros A.chain F.1 B.1.2)))
                (λ D. absurd (omega (arith, D.0, length-map b (coefficient_of p), X.0, X.1, place-long ok a ha)))
                F.3

    -- one point comes in, and an index into T
    pub extended-rule : all_labelled p a ≡ true → extended p a b ≡ true → (r : ℕ) × ByRule (change p a b) r
    unfolding Zeros
    extended-rule own x =
        let w = larger (labelled_chain_of ok a ha) (labelled_chain_of ok b hb) (extended-to ok a b ha hb own x) in
        let L = w.1.1 in
        let T = less_one (set_t p b) (set_t p a) (T-distinct p b hb) L in
        ⊎_elim
        (λ k.
        let U = alike-none (set_u p.grid a) (set_u p.grid b) (λ j. U-zeros a ha j ∙ sym (k j) ∙ sym (U-zeros b hb j)) in
        (4, rule4 (position p.grid come.0) w.1.0 (change-is p a b come.1 gone T.0 T.1 U.1 U.0)))
        (λ l.
        let U = less_one (set_u p.grid a) (set_u p.grid b) (U-distinct p a) (less_U a b ha hb l) in
        (5, rule5 (position p.grid come.0) w.1.0 (change-is p a b come.1 gone T.0 T.1 U.1 U.0)))
        (grown_zeros L (place-chain ok a ha) w.1.2.1)
      where
        X : (length b ≡ suc (length a)) × (all (λ y. is_in same_point y b) a ≡ true)
        X = extended-parts p a b x

        gone : outside same_point b a ≡ []
        gone = outside-none on_points a b (all_in on_points (λ y. is_in same_point y b) a X.1)

        come : (y : Point) × (outside same_point a b ≡ y ∷ [])
        come = one_of (outside same_point a b)
            (omega (
              arith,
              X.0,
              ap length gone,
              outside-count on_points a b (place-distinct p a ha) (place-distinct p b hb),
            ))

  -- each link from a place whose points have labels is a rule; `rules-are` says that it is one only
  pub rule_of-link : (a b : Simplex) → is_place p a ≡ true → is_place p b ≡ true → all_labelled p a ≡ true
      → linked p a b ≡ true
      → (r : ℕ) × ByRule (change p a b) r
  unfolding linked
  rule_of-link a b ha hb own e = ⊎_elim
      (λ m.
      ⊎_elim (exchanged-rule a b ha hb e) (extended-rule a b ha hb own) (or_cases (exchanged p a b) (extended p a b) m))
      (λ x.
      let w = extended-rule b a hb ha
      (in_all on_points (has_label p) b
      (λ y m. all_in on_points (has_label p) a own y (all_in on_points _ b (extended-parts p b a x).1 y m)))
      x in
      (inverse w.0, rule-back p b a w.1))
      (or_cases (exchanged p a b || extended p a b) (extended p b a) e)
