-- A step that lowers the position of a point in a grid of one block. Assumes nothing.
use Rattle.std.specs.Prelude.{true, List, map, ◌≡◌, ℕ, ◌-◌, ◌<◌}
use Rattle.combinatorics.specs.Lists.{sum, up_from}
use Rattle.grid_points.specs.Grid.{Grid, Point, num_blocks, num_indices, at, is_grid_point, MovedBy}

-- the sum of the coordinates from index h on
abbrev pub tail_from : Grid → List ℕ → ℕ → ℕ
tail_from g y h = sum (map (at y) (up_from h (num_indices g - h)))

-- In a grid of one block, z is y with 1 more at h and 1 less at an index b before it; y is 0 between them, and its
-- coordinates from h on add up to r.
pub record Falls (g : Grid) (y z : Point) (h b r : ℕ) : Type 0 where
  pub one : num_blocks g ≡ 1
  pub here : is_grid_point g y ≡ true
  pub there : is_grid_point g z ≡ true
  pub moved : MovedBy g y z h b
  pub low : h < num_indices g
  pub before : b < h
  pub between : (k : ℕ) → b < k → k < h → at y k ≡ 0
  pub tail : tail_from g y h ≡ r
