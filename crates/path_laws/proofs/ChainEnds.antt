-- Ends of places are ends of the geometry, both ways. In order: completeness; a place less one point; facet ends.
-- Assumes nothing.
use mathlib.Core.Bool.{Bool, true, ◌&&◌}
use mathlib.Core.List.{List, [], ◌∷◌, map}
use mathlib.Core.Logic.{inl, inr, ⊎_elim}
use mathlib.Core.Path.{◌≡◌, refl, sym, ap, ◌∙◌}
use Prim.Native.Nat.{ℕ, zero, suc, ◌+◌, ◌-◌, ◌≤◌, ◌<◌}
use lib.Dec.{eqb, leb}
use lib.ListN.{length}
use native.Mathlib.Omega.{arith}
use Rattle.combinatorics.proofs.Lists.{filter_cong, in_first, in_later, in_cases, in_all, all_in, on_numbers}
use Rattle.combinatorics.proofs.EditsRemove.{length-remove_at, remove_at-before, remove_at-behind}
use Rattle.combinatorics.proofs.Basics.{before_or_not, both}
use Rattle.combinatorics.proofs.Ranges.{in_up_from, up_from_in}
use Rattle.combinatorics.specs.Edits.{remove_at}
use Rattle.combinatorics.specs.Lists.{is_in, all, filter}
use Rattle.geometry.proofs.Definitions.{Blocks, coord, Complete, Covers, Inside, omit}
use Rattle.geometry.proofs.LabelledChains.{list_at, FacetEnd}
use Rattle.geometry.proofs.Points.{nth, list_at-map}
use Rattle.geometry.proofs.Ways.{omit_is}
use Rattle.grid_points.proofs.Points.{on_points}
use Rattle.grid_points.proofs.Round.{block-fits}
use Rattle.grid_points.specs.Grid.{Point, same_point, at, num_blocks, num_indices, first_index, size, indices, is_grid_point}
use Rattle.place.specs.Ends.{is_complete}
use Rattle.place.specs.Places.{Simplex, is_place, set_u, set_t, label_set, all_labelled}
use Rattle.place.specs.Problem.{Problem, label}
use Rattle.path_laws.proofs.Meaning.{U_means, complete_means}
use Rattle.path_laws.proofs.ToChain.{in_t_agrees, in_t, coefficients_of, label_of, size-positive, in_labels}
use Rattle.path_laws.proofs.ToChain.{labels_in}
use Rattle.path_laws.proofs.ToChain.{labels-below, is_at}
use Rattle.path_laws.proofs.LinkSymmetry.{parts}
use Rattle.path_laws.proofs.Positions.{set_of_lem, at_in, in_at}
use Rattle.path_laws.proofs.BlocksOfGrid.{blocks_of, coefficient_of, block_agrees, block_inside, coord_in}
use Rattle.path_laws.proofs.BlocksOfGrid.{coord_out}
use Rattle.path_laws.specs.Demand.{HasStart}

complete_ext : (R : Blocks) (l : (ℕ → ℕ) → ℕ) (t : ℕ) {q q' : ℕ → ℕ → ℕ} → ((j : ℕ) → j ≤ t → q j ≡ q' j) → (h : ℕ)
    → Complete R l t q h → Complete R l t q' h
complete_ext R l t {q} e h c k b =
    ⊎_elim (λ w. inl (w.0, w.1, ap l (sym (e w.0 w.1)) ∙ w.2))
    (λ w. inr (λ j m. rw (e j m) at (w j m)))
    (c k b)

-- a set of grid points
module _ {p : Problem} (ok : HasStart p) (s : Simplex) (on : all (is_grid_point p.grid) s ≡ true) (t : ℕ)
    (long : length s ≡ suc t) where
  at_coord : (j : ℕ) → j ≤ t → (k : ℕ) → k < num_indices p.grid
      → coord (blocks_of p) (list_at (coefficients_of p s) j) k ≡ at (nth s j) k
  at_coord j l k m =
      let jl : j < length s = omega arith in
      rw (list_at-map _ s j jl) (coord_in p (is_at ok s on j jl) k m)

  in_U : (k : ℕ) → k < num_indices p.grid → ((j : ℕ) → j ≤ t → at (nth s j) k ≡ 0) → is_in eqb k (set_u p.grid s) ≡ true
  in_U k l z = (U_means p.grid s k).1 (
    l,
    (λ y m. let j = in_at on_points [] y s m in ap (λ (u : Point). at u k) (sym j.2) ∙ z j.0 (omega (arith, j.1))),
  )

  U_in : (k : ℕ) → is_in eqb k (set_u p.grid s) ≡ true → (j : ℕ) → j ≤ t → at (nth s j) k ≡ 0
  U_in k u j l = ((U_means p.grid s k).0 u).1 (nth s j) (at_in on_points [] s j (omega arith))

  pub complete-to : (j : ℕ) → j < num_blocks p.grid → is_complete p s j ≡ true
      → Complete (blocks_of p) (label_of p) t (list_at (coefficients_of p s)) (first_index p.grid j + 0)
  complete-to j lj c k b =
      let g = p.grid in
      let r = block_inside p j k lj (size-positive ok j lj) (b ∙ block_agrees p j 0 (size-positive ok j lj)) in
      let kl : k < num_indices g = omega (arith, r.1, block-fits g.sizes j) in
      ⊎_elim (λ x. let w = labels_in ok s on k x in inl (w.0, omega (arith, w.1), w.2))
      (λ x. inr (λ i l. at_coord i l k kl ∙ U_in k x i l))
      ((complete_means p s j).0 c k (in_up_from (first_index g j) (size g j) k r.0 r.1))

  pub complete_of : (h j : ℕ) → j < num_blocks p.grid → (blocks_of p).block h ≡ j
      → Complete (blocks_of p) (label_of p) t (list_at (coefficients_of p s)) h
      → is_complete p s j ≡ true
  complete_of h j lj e c =
      let g = p.grid in
      (complete_means p s j).1 (λ k m.
      let r = up_from_in (first_index g j) (size g j) k m in
      let kl : k < num_indices g = omega (arith, r.1, block-fits g.sizes j) in
      let q : k ≡ first_index g j + (k - first_index g j) = omega (arith, r.0) in
      let b : (blocks_of p).block k ≡ (blocks_of p).block h =
      ap (blocks_of p).block q ∙ block_agrees p j (k - first_index g j) (omega (arith, r.0, r.1)) ∙ sym e in
      ⊎_elim
      (λ w.
      let wl : w.0 < length s = omega (arith, w.1) in
      inl (rw (← w.2) (in_labels ok s on w.0 wl (omega (arith, w.2)))))
      (λ w. inr (in_U k kl (λ i l. sym (at_coord i l k kl) ∙ w i l)))
      (c k b))

  -- what is complete is so for one of the blocks
  pub complete-below : all_labelled p s ≡ true → (h : ℕ)
      → Complete (blocks_of p) (label_of p) t (list_at (coefficients_of p s)) h
      → h < num_indices p.grid
  complete-below a h c = ⊎_elim
      (λ l. l)
      (λ (l : num_indices p.grid ≤ h). absurd (⊎_elim
      (λ w. let wl : w.0 < length s = omega (arith, w.1) in omega (arith, labels-below ok s on a w.0 wl, w.2))
      (λ w.
      let l0 : 0 < length s = omega arith in
      let z : coord (blocks_of p) (list_at (coefficients_of p s) 0) h ≡ 1 =
      rw (list_at-map _ s 0 l0) (coord_out p (is_at ok s on 0 l0) h l) in
      omega (arith, w 0 (omega arith)))
      (c h refl)))
      (before_or_not h (num_indices p.grid))

  -- the labels are exactly a set of indices
  pub labels-are : (u : List ℕ) → u ≡ filter (λ k. is_in eqb k u) (indices p.grid)
      → Covers (label_of p) (λ k. is_in eqb k u) t (list_at (coefficients_of p s))
      → Inside (label_of p) (λ k. is_in eqb k u) t (list_at (coefficients_of p s)) → label_set p s ≡ u
  unfolding label_set
  labels-are u e cov ins = set_of_lem (λ h. is_in eqb (suc h) (map (label p) s)) (indices p.grid)
      ∙ filter_cong on_numbers (indices p.grid)
      (λ k m. both _ _
      (λ x. let w = labels_in ok s on k x in rw w.2 at (ins w.0 (omega (arith, w.1))))
      (λ x.
      let w = cov k x in
      rw w.2
      at (in_labels ok s on w.0 (omega (arith, w.1)) (omega (arith, w.2, (up_from_in 0 (num_indices p.grid) k m).1)))))
      ∙ sym e

-- a place less one point
remove_in : (s : Simplex) (i : ℕ) (y : Point) → is_in same_point y (remove_at i s) ≡ true → is_in same_point y s ≡ true
remove_in [] i y m = m
remove_in (x ∷ s) zero y m = in_later on_points y x s m
remove_in (x ∷ s) (suc i) y m = ⊎_elim
    (λ e. in_first on_points _ x s e)
    (λ n. in_later on_points y x s (remove_in s i y n))
    (in_cases on_points y x (remove_at i s) m)

module _ {p : Problem} (ok : HasStart p) (s : Simplex) (h : is_place p s ≡ true) (n : ℕ) (long : length s ≡ suc (suc n))
    (i : ℕ) (il : i ≤ suc n) where
  pub facet-grid : all (is_grid_point p.grid) (remove_at i s) ≡ true
  facet-grid =
      in_all on_points (is_grid_point p.grid) (remove_at i s)
      (λ y m. all_in on_points _ s (parts p s h).grid_points y (remove_in s i y m))

  facet-labelled : all_labelled p s ≡ true → all_labelled p (remove_at i s) ≡ true
  facet-labelled a =
      let q : Point → Bool = λ y. leb 1 (label p y) && leb (label p y) (num_indices p.grid) in
      in_all on_points q (remove_at i s) (λ y m. all_in on_points q s a y (remove_in s i y m))

  pub facet-long : length (remove_at i s) ≡ suc n
  facet-long = omega (arith, length-remove_at i s (omega arith))

  facet-list : (j : ℕ) → j ≤ n → list_at (coefficients_of p (remove_at i s)) j ≡ omit i (list_at (coefficients_of p s)) j
  facet-list j l =
      let m = omit_is (suc n) i _ in
      list_at-map (coefficient_of p) (remove_at i s) j (omega (arith, facet-long)) ∙ ⊎_elim
      (λ (x : j < i). ap (coefficient_of p) (remove_at-before [] i s j x) ∙ sym (list_at-map _ s j (omega arith))
      ∙ sym (m.lower j (omega arith) x))
      (λ (x : i ≤ j). ap (coefficient_of p) (remove_at-behind [] i s j x) ∙ sym (list_at-map _ s (suc j) (omega arith))
      ∙ sym (m.upper j (omega arith) x)) (before_or_not j i)

  -- facet ends
  pub facet-end : all_labelled p s ≡ true → (j : ℕ) → j < num_blocks p.grid → label_set p (remove_at i s) ≡ set_t p s
      → is_complete p (remove_at i s) j ≡ true
      → FacetEnd (blocks_of p) (label_of p) (in_t p s) n (coefficients_of p s) i (first_index p.grid j + 0)
  facet-end own j lj q c = record {
    bound = il;
    covers = λ k t.
        let w = labels_in ok (remove_at i s) facet-grid k (rw q t) in
        let wl : w.0 ≤ n = omega (arith, w.1, facet-long) in
        (w.0, wl, ap (label_of p) (sym (facet-list w.0 wl)) ∙ w.2);
    inside = λ a l. rw q at (rw (facet-list a l)
        at (in_labels ok (remove_at i s) facet-grid a (omega (arith, facet-long))
        (labels-below ok (remove_at i s) facet-grid (facet-labelled own) a (omega (arith, facet-long)))));
    complete = complete_ext (blocks_of p) (label_of p) n facet-list _ (complete-to ok _ facet-grid n facet-long j lj c);
  }

  module _ {b : ℕ} (F : FacetEnd (blocks_of p) (label_of p) (in_t p s) n (coefficients_of p s) i b) where
    facet-complete : Complete (blocks_of p) (label_of p) n (list_at (coefficients_of p (remove_at i s))) b
    facet-complete = complete_ext (blocks_of p) (label_of p) n (λ j l. sym (facet-list j l)) b F.complete

    pub end_below : all_labelled p s ≡ true → b < num_indices p.grid
    end_below own = complete-below ok (remove_at i s) facet-grid n facet-long (facet-labelled own) b facet-complete

    pub end-complete : (j : ℕ) → j < num_blocks p.grid → (blocks_of p).block b ≡ j → is_complete p (remove_at i s) j ≡ true
    end-complete j lj e = complete_of ok _ facet-grid n facet-long b j lj e facet-complete

    pub end-labels : label_set p (remove_at i s) ≡ set_t p s
    end-labels =
        labels-are ok _ facet-grid n facet-long (set_t p s) (in_t_agrees ok s h)
        (λ k t. let w = F.covers k t in (w.0, w.1, ap (label_of p) (facet-list w.0 w.1) ∙ w.2))
        (λ j l. rw (facet-list j l) (F.inside j l))
