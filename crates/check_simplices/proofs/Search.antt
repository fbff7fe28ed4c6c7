-- Points lie in one simplex exactly if the search over first points and orders finds one; each simplex has n + 1
-- points. In order: the points of a simplex follow from the first and the order; the search; the length of an order.
-- Assumes nothing.
use mathlib.Core.Bool.{Bool, true, not, ◌&&◌}
use mathlib.Core.List.{List, [], ◌∷◌}
use mathlib.Core.Logic.{◌↔◌}
use mathlib.Core.Path.{◌≡◌, refl, sym, ap, ◌∙◌}
use Prim.Native.Nat.{ℕ, suc, ◌+◌, ◌-◌, ◌≤◌, ◌<◌}
use borrow.Author.Tests.{eqb-true}
use lib.Dec.{eqb}
use lib.ListN.{length, get_or, take, length-map, length-append}
use lib.Seq.{ext_get_or}
use native.Mathlib.Omega.{arith}
use Rattle.combinatorics.proofs.Basics.{absurd_bool, and_both, and_left, and_right}
use Rattle.combinatorics.proofs.Lists.{all_in, any_in, in_any, in_filter, filter_in, filter-append, length_passing}
use Rattle.combinatorics.proofs.Lists.{pigeon, distinct_filter, on_numbers}
use Rattle.combinatorics.proofs.Ranges.{length-up_from, up_from_add, distinct-up_from, in_up_from}
use Rattle.combinatorics.proofs.Selections.{in_selections}
use Rattle.combinatorics.proofs.Turns.{map_at}
use Rattle.combinatorics.specs.Lists.{filter, all, any, is_in, distinct, sum, up_from, selections}
use Rattle.grid_points.proofs.Accepted.{InLimits}
use Rattle.grid_points.proofs.Points.{on_points, in_points, point-long}
use Rattle.grid_points.specs.Grid.{Grid, Point, at, num_blocks, num_indices, dimension, first_index, blocks, indices}
use Rattle.grid_points.specs.Grid.{indices_of}
use Rattle.grid_points.specs.Grid.{previous}
use Rattle.grid_points.specs.Grid.{is_grid_point, same_point, points}
use Rattle.place.specs.Places.{unit, within}
use Rattle.path_laws.proofs.IndexSets.{goes_at}
use Rattle.path_laws.proofs.Meaning.{index_means}
use Rattle.check_simplices.proofs.Along.{Ordered, ordered_of}
use Rattle.check_simplices.specs.Simplices.{is_step, is_order, each_stepped, is_simplex, InOneSimplex, step_from}
use Rattle.check_simplices.specs.Simplices.{points_along, in_one_simplex}

module _ (g : Grid) where
  -- the first point and the order determine all
  step_is : (h : ℕ) (y z : Point) → length z ≡ num_indices g → is_step g h y z ≡ true → step_from g h y ≡ z
  step_is h y z l e =
      let f : ℕ → ℕ = λ k. at y k + unit h k - unit (previous g h) k in
      let long : length (step_from g h y) ≡ num_indices g = length-map (indices g) f ∙ length-up_from 0 (num_indices g) in
      ext_get_or 0 (step_from g h y) z (long ∙ sym l) (λ k x.
      let m : k < num_indices g = omega arith in
      let q : 0 + k ≡ k = omega arith in
      map_at f 0 (num_indices g) k m ∙ ap f q ∙ omega (arith, goes_at g h (previous g h) y z e k m))

  points-are : (o : List ℕ) (y : Point) (s : List Point) → each_stepped g o (y ∷ s) ≡ true
      → all (is_grid_point g) (y ∷ s) ≡ true
      → points_along g y o ≡ y ∷ s
  points-are [] y [] e h = refl
  points-are [] y (z ∷ s) e h = absurd_bool (sym e)
  points-are (a ∷ o) y [] e h = absurd_bool (sym e)
  points-are (a ∷ o) y (z ∷ s) e h =
      let hs : all (is_grid_point g) (z ∷ s) ≡ true = and_right (is_grid_point g y) (all (is_grid_point g) (z ∷ s)) h in
      let q : step_from g a y ≡ z =
      step_is a y z (point-long g z (and_left (is_grid_point g z) _ hs)) (and_left (is_step g a y z) _ e) in
      rw q (ap (λ (l : List Point). y ∷ l) (points-are o z s (and_right (is_step g a y z) _ e) hs))

  none : (o : List ℕ) → each_stepped g o [] ≡ true → ⊥
  none [] e = absurd_bool (sym e)
  none (h ∷ o) e = absurd_bool (sym e)

  found : List Point → Point → List ℕ → Bool
  found zs y o = let s = points_along g y o in is_simplex g o s && all (λ z. is_in same_point z s) zs

  order-few : {o : List ℕ} {s : List Point} → Ordered g o s → length o ≤ num_indices g
  order-few {o} w = omega (
    arith,
    pigeon on_numbers o (indices g) w.once (λ h m. (index_means g h).1 (w.below h m)),
    length-up_from 0 (num_indices g),
  )

  pub search_finds : InLimits g → (zs : List Point) → InOneSimplex g zs ↔ (in_one_simplex g zs ≡ true)
  unfolding in_one_simplex found
  search_finds A zs = (to, from)
    where
      os : List (List ℕ)
      os = selections (num_indices g) (indices g)

      to : InOneSimplex g zs → any (λ y. any (found zs y) (selections (num_indices g) (indices g))) (points g) ≡ true
      to I = go I.points I.simplex I.has (ordered_of g I.order I.points I.simplex)
        where
          go : (s : List Point) → is_simplex g I.order s ≡ true → all (λ z. is_in same_point z s) zs ≡ true
              → Ordered g I.order s
              → any (λ y. any (found zs y) (selections (num_indices g) (indices g))) (points g) ≡ true
          go [] h a w = absurd (none I.order w.steps)
          go (y ∷ s) h a w =
              let e : points_along g y I.order ≡ y ∷ s = points-are I.order y s w.steps w.on_grid in
              in_any on_points (λ y. any (found zs y) os) y (points g)
              (in_points g y A.same_number (and_left (is_grid_point g y) _ w.on_grid))
              (in_any on_points (found zs y) I.order os
              (in_selections (num_indices g) I.order (indices g) w.once
              (λ h m. (index_means g h).1 (w.below h m))
              (order-few w))
              (rw e (and_both _ _ h a)))

      from : any (λ y. any (found zs y) (selections (num_indices g) (indices g))) (points g) ≡ true → InOneSimplex g zs
      from h =
          let y = any_in on_points (λ y. any (found zs y) os) (points g) h in
          let o = any_in on_points (found zs y.0) os y.2 in
          let s = points_along g y.0 o.0 in
          record {
            order = o.0;
            points = s;
            simplex = and_left (is_simplex g o.0 s) (all (λ z. is_in same_point z s) zs) o.2;
            has = and_right (is_simplex g o.0 s) (all (λ z. is_in same_point z s) zs) o.2;
          }

-- one of each block
one_each : (q : ℕ → Bool) (ss : List ℕ) (b : ℕ)
    → ((j : ℕ) → j < length ss → length (filter q (up_from (b + sum (take j ss)) (get_or ss j 0))) ≡ 1)
    → length (filter q (up_from b (sum ss))) ≡ length ss
one_each q [] b h = refl
one_each q (s ∷ ss) b h =
    let e : b + 0 ≡ b = omega arith in
    let first : length (filter q (up_from b s)) ≡ 1 = rw e at (h 0 (omega arith)) in
    rw (up_from_add b s (sum ss), filter-append q (up_from b s) (up_from (b + s) (sum ss)), length-append) (omega (
      arith,
      one_each q ss (b + s) (λ j l.
          let w : b + s + sum (take j ss) ≡ b + (s + sum (take j ss)) = omega arith in
          rw w (h (suc j) (omega arith))),
    ))

-- a point more than indices
pub steps-long : (g : Grid) (o : List ℕ) (s : List Point) → each_stepped g o s ≡ true → length s ≡ suc (length o)
steps-long g [] [] e = absurd_bool (sym e)
steps-long g [] (y ∷ []) e = refl
steps-long g [] (y ∷ z ∷ s) e = absurd_bool (sym e)
steps-long g (a ∷ o) [] e = absurd_bool (sym e)
steps-long g (a ∷ o) (y ∷ []) e = absurd_bool (sym e)
steps-long g (a ∷ o) (y ∷ z ∷ s) e = ap suc (steps-long g o (z ∷ s) (and_right (is_step g a y z) _ e))

module _ (g : Grid) (o : List ℕ) (s : List Point) (h : is_simplex g o s ≡ true) where
  pub left_one : (j : ℕ) → j < num_blocks g → length (filter (λ h. not (is_in eqb h o)) (indices_of g j)) ≡ 1
  unfolding is_simplex is_order
  left_one j l =
      let t : ℕ → Bool = λ j. eqb (length (filter (λ h. not (is_in eqb h o)) (indices_of g j))) 1 in
      let order : (within o (indices g) && distinct eqb o && all t (blocks g)) ≡ true =
      and_left _ _ (and_left _ (all (is_grid_point g) s) h) in
      eqb-true _ 1
      (all_in on_numbers t (blocks g) (and_right (within o (indices g) && distinct eqb o) (all t (blocks g)) order) j
      (in_up_from 0 (num_blocks g) j (omega arith) (omega arith)))

  -- "all indices but one in each block" are n
  pub order-length : length o + num_blocks g ≡ num_indices g
  order-length =
      let w = ordered_of g o s h in
      let q : ℕ → Bool = λ k. is_in eqb k o in
      let a : length o ≤ length (filter q (indices g)) = pigeon on_numbers o (filter q (indices g)) w.once
      (λ k m. in_filter on_numbers q k (indices g) ((index_means g k).1 (w.below k m)) m) in
      let b : length (filter q (indices g)) ≤ length o = pigeon on_numbers (filter q (indices g)) o
      (distinct_filter on_numbers q (indices g) (distinct-up_from 0 (num_indices g)))
      (λ k m. (filter_in on_numbers q k (indices g) m).1) in
      let c : length (filter (λ k. not (q k)) (indices g)) ≡ num_blocks g = one_each
      (λ k. not (q k))
      g.sizes 0
      (λ j l. let e : 0 + first_index g j ≡ first_index g j = omega arith in rw e (left_one j l)) in
      omega (arith, length_passing q (indices g), length-up_from 0 (num_indices g))

  -- "all n + 1 points"
  pub simplex-size : length s ≡ suc (dimension g)
  simplex-size = omega (arith, order-length, steps-long g o s (ordered_of g o s h).steps)

-- so of distinct points at most n + 1 lie in one simplex
pub few_in_simplex : {g : Grid} (zs : List Point) → distinct same_point zs ≡ true → InOneSimplex g zs
    → length zs ≤ suc (dimension g)
few_in_simplex {g} zs d I =
    omega (
      arith,
      simplex-size g I.order I.points I.simplex,
      pigeon on_points zs I.points d
          (all_in on_points (λ z. is_in same_point z I.points) zs I.has),
    )
