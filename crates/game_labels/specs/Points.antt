-- What is known where the points of a game are labelled. The promises of a labelling do not cite this. Assumes nothing.
use Rattle.std.specs.Prelude.{Bool, false, List, [], ◌≡◌, ℕ, ◌<◌, ℤ, length, get_or}
use Rattle.game_corners.specs.Corners.{last_player, corner_grid}
use Rattle.grid_points.specs.Grid.{Grid, Point, lent, num_blocks, num_points, points}
use Rattle.game_weighed.specs.Levels.{Owners, Rests, LevelsAt, game_grid}
use Rattle.game_weighed.specs.declared.game.Game.{Game}
use Rattle.game_losses.specs.Table.{IsTable}
use Rattle.points_in_order.specs.Lent.{WithFirsts}

-- a point whose tables stand up to the first block that has changed, with the divisions of the corners' grid
pub record ChangeToWeigh (g : Grid) (ones firsts owners rests losses : List ℕ) (y : Point) (first : ℕ) (changed : Bool)
    (levels : List ℕ) (differences : List ℤ) : Type 0 where
  pub ones_are : ones ≡ (corner_grid g).divisions
  pub table : IsTable g losses
  pub levels_at : LevelsAt g firsts owners rests losses y first levels
  pub inside : first < num_blocks g
  pub kept : changed ≡ false → first ≡ last_player g
  pub rows : length differences ≡ 256

-- a game whose points are labelled from the first on
pub record PointsToLabel (game : Game) (ones point levels : List ℕ) (differences : List ℤ) (buffer : List ℕ)
    : Type 0 where
  pub grid : WithFirsts (game_grid game) game.firsts.now
  pub ones_are : ones ≡ (corner_grid (game_grid game)).divisions
  pub owned : Owners (game_grid game) game.owners.now
  pub rested : Rests (lent game.sizes.now []) game.rests.now
  pub table : IsTable (game_grid game) game.losses.now
  pub first : point ≡ get_or (points (game_grid game)) 0 []
  pub numbers : length levels ≡ 15552
  pub rows : length differences ≡ 256
  pub whole : length buffer ≡ num_points (game_grid game)
