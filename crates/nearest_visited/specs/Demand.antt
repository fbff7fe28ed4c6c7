-- What holds of the visited vertices, of the nearest of them and of the list, whatever w and the given distance are.
-- Assumes nothing.
use Rattle.std.specs.Prelude.{true, [], map, ◌↔◌, ◌≡◌, ℕ, ◌*◌, ◌≤◌, ◌<◌, eqb, length, get_or}
use Rattle.combinatorics.specs.Lists.{distinct, is_in, rising}
use Rattle.grid_points.specs.Grid.{Grid, Point, block_of, division, is_grid_point, num_blocks, num_indices, num_points}
use Rattle.grid_points.specs.Grid.{same_point}
use Rattle.place.specs.Path.{path as path_of, path_length}
use Rattle.place.specs.Problem.{Problem}
use Rattle.path_laws.specs.Demand.{place_at}
use Rattle.nearest_visited.specs.Distance.{all_divisions, distance, other_divisions}
use Rattle.nearest_visited.specs.Nearest.{nearest, positions_within, vertices_within}
use Rattle.nearest_visited.specs.Visited.{first_visit, visited_vertices}

-- the visited vertices are the points of the path's places, "each once, in order of first visit"
pub record Visits (p : Problem) : Type 0 where
  pub each : (y : Point) → (is_in same_point y (visited_vertices p) ≡ true)
      ↔ ((k : ℕ) × (k < path_length p) × (is_in same_point y (place_at (path_of p).visited k) ≡ true))
  pub once : distinct same_point (visited_vertices p) ≡ true
  -- no two have the same first visit, so that no order inside a place is needed
  pub in_order : rising (map (first_visit p) (visited_vertices p)) ≡ true
  pub begins : get_or (visited_vertices p) 0 [] ≡ p.start
  pub on_grid : (y : Point) → is_in same_point y (visited_vertices p) ≡ true → is_grid_point p.grid y ≡ true
  pub few : length (visited_vertices p) ≤ num_points p.grid

-- "D / d_j .. so it is a whole number": times d_j it is D
pub record Distances (g : Grid) : Type 0 where
  pub whole : (h : ℕ) → h < num_indices g → other_divisions g (block_of g h) * division g (block_of g h) ≡ all_divisions g
  -- no two grid points are farther apart than 2 N D
  pub most : (w y : Point) → is_grid_point g w ≡ true → is_grid_point g y ≡ true
      → distance g w y ≤ 2 * num_blocks g * all_divisions g
  -- and only a point itself is at distance 0
  pub none : (w y : Point) → is_grid_point g w ≡ true → is_grid_point g y ≡ true → (distance g w y ≡ 0) ↔ (y ≡ w)

-- nothing visited is nearer, and nothing met earlier is as near
pub record IsNearest (p : Problem) (w : Point) : Type 0 where
  pub number : ℕ
  pub low : number < length (visited_vertices p)
  pub is : get_or (visited_vertices p) number [] ≡ nearest p w
  pub least : (z : Point) → is_in same_point z (visited_vertices p) ≡ true
      → distance p.grid w (nearest p w) ≤ distance p.grid w z
  pub earlier : (i : ℕ) → i < number
      → distance p.grid w (nearest p w) < distance p.grid w (get_or (visited_vertices p) i [])

-- the list has the visited vertices within the distance and no others, no position twice, "in order of first visit",
-- and has room
pub record IsList (p : Problem) (w : Point) (given : ℕ) : Type 0 where
  pub each : (y : Point) → (is_in same_point y (vertices_within p w given) ≡ true)
      ↔ ((is_in same_point y (visited_vertices p) ≡ true) × (distance p.grid w y ≤ given))
  pub once : distinct eqb (positions_within p w given) ≡ true
  pub in_order : rising (map (first_visit p) (vertices_within p w given)) ≡ true
  pub few : length (positions_within p w given) ≤ num_points p.grid
  -- from 2 N D on it is every visited vertex
  pub all : 2 * num_blocks p.grid * all_divisions p.grid ≤ given → vertices_within p w given ≡ visited_vertices p
