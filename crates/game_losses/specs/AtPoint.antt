-- What is known where the losses at a point are worked out. The promises of a labelling do not cite it.
-- Assumes nothing.
use Rattle.std.specs.Prelude.{true, List, map, ◌≡◌, ℕ, ◌+◌, ◌*◌, ◌≤◌, ◌<◌, length, get_or, take}
use Rattle.std.proofs.Math.Seq.{paste}
use Rattle.grid_points.specs.Grid.{Grid, Point, at, num_blocks, num_indices, size, first_index, indices_of}
use Rattle.points_in_order.specs.Lent.{PointWithFirsts}
use Rattle.game_losses.specs.Game.{dot, losses_of}
use Rattle.game_losses.specs.Table.{IsTable}
use Rattle.game_losses.specs.Weights.{fit, strategy_losses}

-- at each index the loss of its strategy against the opponents' mixes
abbrev pub StrategiesStand : Grid → List ℕ → Point → List ℕ → Type 0
StrategiesStand g losses y values =
    (j i : ℕ) → j < num_blocks g → i < size g j
    → at values (first_index g j + i) ≡ get_or (strategy_losses g y j (losses_of g losses j)) i 0

-- a point of a game, with the losses of the strategies there
pub record GameAtPoint (g : Grid) (firsts losses : List ℕ) (y : Point) (values : List ℕ) : Type 0 where
  pub point : PointWithFirsts g firsts y
  pub table : IsTable g losses
  pub stand : StrategiesStand g losses y values
  pub room : num_indices g ≤ length values

-- the losses of a player's strategies, weighed by the mix, and each times the division, fit
pub record LossesFit (division : ℕ) (mix values : List ℕ) : Type 0 where
  pub enough : length mix ≤ length values
  pub expected_fits : dot mix values < 4294967296
  pub replaced_fit : fit (map (λ v. division * v) (take (length mix) values)) ≡ true

-- room for a number at each index
pub record HasRoomAtIndices (g : Grid) (expected replaced : List ℕ) : Type 0 where
  pub of_expected : num_indices g ≤ length expected
  pub of_replaced : num_indices g ≤ length replaced

-- the numbers at the indices of block j take the place of those in the array
abbrev pub with_block : Grid → ℕ → (ℕ → ℕ) → List ℕ → List ℕ
with_block g j number array = paste array (first_index g j) (map number (indices_of g j)) (size g j)
