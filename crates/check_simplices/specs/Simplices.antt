-- Request 07, "Checking sheets from other programs": the simplices of the Q triangulation, points that lie in one, and
-- the verdict. Assumes nothing.
use Rattle.std.specs.Prelude.{Bool, true, false, not, ◌&&◌, cond, List, [], ◌∷◌, map, ◌≡◌, ℕ, ◌+◌, ◌-◌, eqb, length}
use Rattle.std.proofs.Math.Option.{Option, none, some}
use Rattle.combinatorics.specs.Lists.{filter, all, any, is_in, distinct, selections}
use Rattle.grid_points.specs.Grid.{Grid, Point, at, num_indices, blocks, indices, indices_of, previous, is_grid_point}
use Rattle.grid_points.specs.Grid.{same_point}
use Rattle.grid_points.specs.Grid.{points}
use Rattle.place.specs.Ends.{complete_for}
use Rattle.place.specs.Places.{within, goes_to, unit}
use Rattle.place.specs.Problem.{Problem}

-- "each next point adds 1 at the next index and takes 1 at the one before it in the block"
abbrev pub is_step : Grid → ℕ → Point → Point → Bool
is_step g h y z = goes_to g h (previous g h) y z

-- "an order of all indices but one in each block"
unfoldable pub is_order : Grid → List ℕ → Bool
is_order g o = within o (indices g) && distinct eqb o
    && all (λ j. eqb (length (filter (λ h. not (is_in eqb h o)) (indices_of g j))) 1) (blocks g)

-- from "a first point" on, each point stepped to the next by the next index of the order
abbrev pub each_stepped : Grid → List ℕ → List Point → Bool
each_stepped g [] [] = false
each_stepped g [] (y ∷ []) = true
each_stepped g [] (y ∷ z ∷ s) = false
each_stepped g (h ∷ o) [] = false
each_stepped g (h ∷ o) (y ∷ []) = false
each_stepped g (h ∷ o) (y ∷ z ∷ s) = is_step g h y z && each_stepped g o (z ∷ s)

-- "Such a simplex has a first point and an order ..; each next point ..; and all n + 1 points are on the grid"
unfoldable pub is_simplex : Grid → List ℕ → List Point → Bool
is_simplex g o s = is_order g o && each_stepped g o s && all (is_grid_point g) s

-- the points "belong to one simplex"
pub record InOneSimplex (g : Grid) (zs : List Point) : Type 0 where
  pub order : List ℕ
  pub points : List Point
  pub simplex : is_simplex g order points ≡ true
  pub has : all (λ z. is_in same_point z points) zs ≡ true

-- the point to which y is stepped at h, if any: where a coordinate would be negative it is 0 here
abbrev pub step_from : Grid → ℕ → Point → Point
step_from g h y = map (λ k. at y k + unit h k - unit (previous g h) k) (indices g)

-- the points from y on, by the order o
abbrev pub points_along : Grid → Point → List ℕ → List Point
points_along g y [] = y ∷ []
points_along g y (h ∷ o) = y ∷ points_along g (step_from g h y) o

-- the same, by a search over all first points and all orders
unfoldable pub in_one_simplex : Grid → List Point → Bool
in_one_simplex g zs =
    any (λ y. any (λ o. let s = points_along g y o in is_simplex g o s && all (λ z. is_in same_point z s) zs)
    (selections (num_indices g) (indices g)))
    (points g)

-- a grid with a label table; Definition 2.2 asks for no start
abbrev pub labelled_by : Grid → List ℕ → Problem
labelled_by g labels = record { grid = g; start = []; labels = labels }

-- the first of some numbers, if any
abbrev pub first_of : List ℕ → Option ℕ
first_of [] = none
first_of (j ∷ js) = some j

-- "says yes with the first block for which they are complete, or no"; blocks count from 0 here. "Yes holds if the
-- points are distinct, belong to one simplex .., and Definition 2.2 is met, and in no other case"
unfoldable pub verdict : Grid → List ℕ → List Point → Option ℕ
verdict g labels zs =
    cond (distinct same_point zs && in_one_simplex g zs) (first_of (complete_for (labelled_by g labels) zs)) none
