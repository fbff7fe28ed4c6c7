-- What the run of a game asks, on a grid that need not have few points. Assumes nothing.
use Rattle.std.specs.Prelude.{true, List, ◌≡◌, ℕ, suc, ◌*◌, ◌≤◌, leb, length}
use Rattle.combinatorics.specs.Lists.{all}
use Rattle.grid.specs.Made.{IsMade, shape}
use Rattle.grid.specs.declared.Grid.{Grid as GridStruct}
use Rattle.grid_points.specs.Grid.{Grid, Point, dimension, is_grid_point, lent, num_indices}
use Rattle.refinement_levels.specs.Levels.{game_problem}
use Rattle.game_losses.specs.Table.{IsTable}
use Rattle.place.specs.Problem.{Problem}
use Rattle.game_point.specs.Label.{Moderate}

-- the grid of a made grid's sizes with other divisions
abbrev pub divided : GridStruct → List ℕ → Grid
divided unit divisions = lent (shape unit).sizes divisions

abbrev pub run_problem : GridStruct → List ℕ → List ℕ → Point → Problem
run_problem unit divisions losses start = game_problem (divided unit divisions) start losses

pub record CanRunGame (unit : GridStruct) (divisions losses start answer : List ℕ) : Type 0 where
  pub made : IsMade unit
  pub grid : Moderate (divided unit divisions)
  pub low : all (λ d. leb d 60000) divisions ≡ true
  pub table : IsTable (divided unit divisions) losses
  pub on_grid : is_grid_point (divided unit divisions) start ≡ true
  pub room : suc (dimension (divided unit divisions)) * num_indices (divided unit divisions) ≤ length answer
