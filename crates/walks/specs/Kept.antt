-- A place as it is kept: its first point and the order in which it uses the indices of T. Its other points follow from
-- these. Assumes nothing.
use Rattle.std.specs.Prelude.{Bool, true, not, ◌&&◌, ◌||◌, List, [], ◌∷◌, map, ℕ, ◌+◌, ◌-◌, eqb, ltb}
use Rattle.combinatorics.specs.Lists.{filter, all, is_in, distinct}
use Rattle.grid_points.specs.Grid.{Grid, Point, at, num_indices, indices, is_grid_point}
use Rattle.place.specs.Coefficients.{coefficients}
use Rattle.place.specs.Places.{Simplex, unit, first_back_outside, every_block_free}
use Rattle.place.specs.Problem.{Problem}

-- U, by the first point and T: the indices outside T with coordinate 0
unfoldable pub zero_outside : Grid → List ℕ → Point → List ℕ
zero_outside g t y = filter (λ h. eqb (at y h) 0 && not (is_in eqb h t)) (indices g)

-- y goes to this point "by adding 1 to the coordinate at an index h of T and taking 1 from the coordinate at b"
unfoldable pub stepped : Grid → List ℕ → ℕ → Point → Point
stepped g u h y = let b = first_back_outside g u h in map (λ k. at y k + unit h k - unit b k) (indices g)

abbrev pub points_by : Grid → List ℕ → Point → List ℕ → Simplex
points_by g u y [] = y ∷ []
points_by g u y (h ∷ o) = y ∷ points_by g u (stepped g u h y) o

-- the points of a place kept so
abbrev pub kept_points : Grid → Point → List ℕ → Simplex
kept_points g y o = points_by g (zero_outside g o y) y o

-- at every step there is 1 to take at b
abbrev pub can_step : Grid → List ℕ → Point → List ℕ → Bool
can_step g u y [] = true
can_step g u y (h ∷ o) = ltb 0 (at y (first_back_outside g u h)) && can_step g u (stepped g u h y) o

-- What a first point and an order must meet to be a place, but for labels: a grid point; different indices; in every
-- block an index in neither T nor U; no other index with a positive coefficient at the first point; and at every step 1
-- to take. No sum of coefficients is asked for.
unfoldable pub is_kept : Problem → Point → List ℕ → Bool
is_kept p y o =
    let g = p.grid in
    let u = zero_outside g o y in
    is_grid_point g y
    && (all (λ h. ltb h (num_indices g)) o && distinct eqb o)
    && every_block_free g o u
    && all (λ k. is_in eqb k o || is_in eqb k u || eqb (at (coefficients p y) k) 0) (indices g)
    && can_step g u y o
