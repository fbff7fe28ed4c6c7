-- Request 10, "Labels read": the number, on the places of a path. Assumes nothing.
use Rattle.std.specs.Prelude.{Bool, not, List, [], ℕ, suc, pred, length, get_or}
use Rattle.combinatorics.specs.Lists.{all, filter, is_in, up_from}
use Rattle.grid_points.specs.Grid.{same_point}
use Rattle.place.specs.Places.{Simplex}

-- the place b has a point which the place a before it lacks
abbrev pub point_came_in : Simplex → Simplex → Bool
point_came_in a b = not (all (λ y. is_in same_point y a) b)

-- of the first k moves, "the moves by which a point came in"
unfoldable pub came_in : List Simplex → ℕ → ℕ
came_in s k = length (filter (λ i. point_came_in (get_or s i []) (get_or s (suc i) [])) (up_from 0 k))

-- "The number is 1 plus the moves by which a point came in", of the places of a path
unfoldable pub labels_read : List Simplex → ℕ
labels_read s = suc (came_in s (pred (length s)))
