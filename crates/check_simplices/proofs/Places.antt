-- Every place of document 01, and every set of points that is one but for its labels, lies in one simplex. In order: a
-- grid with a start; the coefficients from the place's first point; a place; labels that make a place of a set that is
-- one but for its labels. Assumes nothing.
use mathlib.Core.Bool.{Bool, true, ◌&&◌}
use mathlib.Core.List.{[], ◌∷◌, map}
use mathlib.Core.Logic.{⊎_elim, inl, inr}
use mathlib.Core.Path.{◌≡◌, ap, ◌∙◌}
use Prim.Native.Nat.{ℕ, suc, ◌+◌, ◌-◌, ◌≤◌, ◌<◌}
use borrow.Author.Tests.{eqb-true}
use lib.Dec.{eqb}
use lib.ListN.{length}
use native.Mathlib.Omega.{arith}
use Rattle.combinatorics.proofs.Basics.{before_or_not, and_both, and_left, and_right}
use Rattle.combinatorics.proofs.Lists.{all_in, in_all, on_numbers}
use Rattle.combinatorics.proofs.Rising.{rising-distinct}
use Rattle.combinatorics.specs.Lists.{all, is_in, occurrences, rising}
use Rattle.geometry.proofs.Chains.{one_more_at_most, rise, free-zero}
use Rattle.geometry.proofs.Definitions.{Chain}
use Rattle.geometry.proofs.Links.{chain_ext}
use Rattle.geometry.proofs.Points.{nth, list_at-map}
use Rattle.grid_points.proofs.Accepted.{InLimits}
use Rattle.grid_points.proofs.Points.{on_points}
use Rattle.grid_points.specs.Grid.{at, first_index, next, is_grid_point}
use Rattle.place.specs.Coefficients.{coefficients, coefficient_sum}
use Rattle.place.specs.Places.{Simplex, is_place, is_unlabelled_place, set_t, set_u, label_set, within, order, each_goes_to_next}
use Rattle.place.specs.Places.{uses_each_once}
use Rattle.place.specs.Places.{every_block_free}
use Rattle.place.specs.Problem.{Problem}
use Rattle.path_laws.proofs.BlocksOfGrid.{blocks_of, coefficient_of, block_agrees, block_inside}
use Rattle.path_laws.proofs.LinkSymmetry.{parts}
use Rattle.path_laws.proofs.Meaning.{T_means, labels_mean}
use Rattle.path_laws.proofs.Positions.{at_in, in_at, occurs_in, order-long}
use Rattle.path_laws.proofs.ToChain.{in_t, size-positive, grid-at, is_at, place-long, place-chain}
use Rattle.path_laws.specs.Demand.{HasStart}
use Rattle.check_simplices.proofs.Grown.{in_simplex}
use Rattle.check_simplices.proofs.Relabelled.{relabelled, label-at}
use Rattle.check_simplices.proofs.Tests.{has-start_with, coefficients_by, nested_by}
use Rattle.check_simplices.specs.Simplices.{InOneSimplex}

-- the grid without its start
pub grid_in_limits : {p : Problem} → HasStart p → InLimits p.grid
grid_in_limits ok = record {
  some_block = ok.some_block;
  few_blocks = ok.six_blocks;
  sizes_two = ok.sizes;
  few_indices = ok.sixteen_indices;
  same_number = ok.same_number;
  divisions_one = ok.divisions;
  low = ok.low;
}

-- a place
module _ {p : Problem} (ok : HasStart p) (s : Simplex) (h : is_place p s ≡ true) where
  on : all (is_grid_point p.grid) s ≡ true
  on = (parts p s h).grid_points

  chain : Chain (blocks_of p) (in_t p s) (length (order p.grid s)) (λ j. coefficient_of p (nth s j)) (at (order p.grid s))
  chain = chain_ext (λ j l. list_at-map (coefficient_of p) s j (omega (arith, place-long ok s h))) (place-chain ok s h)

  -- with its first point as the start the i-th has the coefficients by which it differs from the first
  abbrev gained : ℕ → ℕ → ℕ
  gained i k = coefficient_of p (nth s i) k - coefficient_of p (nth s 0) k

  pub place_in-simplex : InOneSimplex p.grid s
  place_in-simplex =
      let g = p.grid in
      let long = place-long ok s h in
      let A = grid_in_limits ok in
      let some : 0 < length s = omega arith in
      let up : (i j : ℕ) → i ≤ j → j < length s → (k : ℕ) → coefficient_of p (nth s i) k ≤ coefficient_of p (nth s j) k =
      λ i j a b. rise chain i j a (omega arith) in
      in_simplex A (nth s 0) (grid-at ok s on 0 some) s on some
      (nested_by s (nth s 0) (λ i l. gained i)
      (λ i l. coefficients_by A (nth s 0) (nth s i) (grid-at ok s on 0 some) (grid-at ok s on i l) (gained i)
      (λ j x.
      let f = chain.free (first_index g j + 0) in
      let r = block_inside p j f.0 x (size-positive ok j x) (f.1 ∙ block_agrees p j 0 (size-positive ok j x)) in
      (f.0, r.0, r.1, omega (arith, free-zero chain f.0 f.2 f.3 i (omega arith))))
      (λ k x. omega (
        arith,
        (is_at ok s on i l).rule k x,
        (is_at ok s on 0 some).rule k x,
        up 0 i (omega arith) l k,
        up 0 i (omega arith) l (next g k),
      )))
      (λ i l k. omega (arith, one_more_at_most chain i (omega arith) k))
      (λ i j l m. ⊎_elim (λ (x : i < j). inl (λ k. omega (arith, up i j (omega arith) m k)))
      (λ (x : j ≤ i). inr (λ k. omega (arith, up j i x l k))) (before_or_not i j)))

-- a set of points that is a place but for its labels is one for other labels: for each point the index of the step
-- from it
module _ {p : Problem} (ok : HasStart p) (s : Simplex) (h : is_unlabelled_place p s ≡ true) where
  abbrev other : Problem
  other = relabelled p.grid p.start (order p.grid s) s

  record Kept : Type 0 where
    grid_points : all (is_grid_point p.grid) s ≡ true
    in_order : rising (map (coefficient_sum p) s) ≡ true
    once : uses_each_once (set_t p s) (order p.grid s) ≡ true

  kept : Kept
  unfolding is_unlabelled_place
  kept =
      let g = p.grid in
      let a : Bool = all (is_grid_point g) s in
      let b : Bool = rising (map (coefficient_sum p) s) in
      let c : Bool = each_goes_to_next g (set_u g s) s in
      let d : Bool = uses_each_once (set_t p s) (order g s) in
      let e : Bool = every_block_free g (set_t p s) (set_u g s) in
      let k : (a && b && c && d) ≡ true = and_left (a && b && c && d) e h in
      let l : (a && b) ≡ true = and_left (a && b) c (and_left (a && b && c) d k) in
      record { grid_points = and_left a b l; in_order = and_right a b l; once = and_right (a && b && c) d k }

  order-fits : length (order p.grid s) ≤ length s
  order-fits = go s
    where
      go : (s : Simplex) → length (order p.grid s) ≤ length s
      go [] = omega arith
      go (y ∷ s) = omega (arith, order-long p.grid y s)

  -- the index of a step is the label of the point before it
  covered : (k : ℕ) → is_in eqb k (set_t p s) ≡ true → is_in eqb k (label_set other s) ≡ true
  covered k m =
      let o = order p.grid s in
      let t = set_t p s in
      let j = in_at on_numbers 0 k o
      (occurs_in k o (eqb-true _ 1 (all_in on_numbers (λ h. eqb (occurrences h o) 1) t
      (and_right (within o t) (all (λ h. eqb (occurrences h o) 1) t) kept.once) k m))) in
      let l : j.0 < length s = omega (arith, j.1, order-fits) in
      (labels_mean other s k).1 (
        ((T_means p s k).0 m).0,
        (
          nth s j.0,
          at_in on_points [] s j.0 l,
          label-at (grid_in_limits ok) p.start o s kept.grid_points (rising-distinct on_points _ s kept.in_order) j.0
              l
              ∙ ap suc j.2,
        ),
      )

  relabelled_place : is_place other s ≡ true
  unfolding is_place is_unlabelled_place set_t coefficients
  relabelled_place = and_both _ _ h (in_all on_numbers (λ k. is_in eqb k (label_set other s)) (set_t p s) covered)

  pub unlabelled_in_simplex : InOneSimplex p.grid s
  unlabelled_in_simplex =
      place_in-simplex (has-start_with p.grid (grid_in_limits ok) p.start ok.start _) s relabelled_place
