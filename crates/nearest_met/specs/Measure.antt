-- What the functions that measure distances ask and give. The call's own promise does not cite it. Assumes nothing.
use Rattle.std.specs.Prelude.{◌≡◌, List, ℕ, ◌≤◌, ◌<◌, length}
use Rattle.grid_points.specs.Grid.{Grid, at, block_of, num_indices}
use Rattle.nearest_visited.specs.Distance.{other_divisions}

-- "(D / d_j)" of each index
pub record HasWeights (g : Grid) (weights : List ℕ) : Type 0 where
  pub are : (h : ℕ) → h < num_indices g → at weights h ≡ other_divisions g (block_of g h)
  pub few : (h : ℕ) → h < num_indices g → at weights h ≤ 60000

-- the distance from w can be measured
pub record CanMeasure (g : Grid) (weights w : List ℕ) (m : ℕ) : Type 0 where
  pub indices : m ≡ num_indices g
  pub sixteen : m ≤ 16
  pub each : HasWeights g weights
  pub long : m ≤ length w
