-- What the label of a point of a game rests on, whatever the number of grid points. Assumes nothing.
use Rattle.std.specs.Prelude.{true, List, ◌≡◌, ℕ, pred, ◌-◌, ◌≤◌, ◌<◌, leb, ℤ, length, get_or}
use Rattle.combinatorics.specs.Lists.{all}
use Rattle.grid_points.specs.Grid.{Grid, Point, at, num_blocks, num_indices, first_index, block_of, is_grid_point}
use Rattle.game_losses.specs.Game.{difference, game_label, product, losses_of}
use Rattle.game_losses.specs.Table.{IsTable}
use Rattle.game_losses.specs.Weights.{strategy_losses}
use Rattle.game_weighed.specs.Levels.{Owners}

-- questions 1 to 3 are answered yes, and 1,000 times the product of the divisions fits 63 bits
pub record Moderate (g : Grid) : Type 0 where
  pub some_block : 1 ≤ num_blocks g
  pub few_blocks : num_blocks g ≤ 6
  pub sizes_two : all (λ s. leb 2 s) g.sizes ≡ true
  pub few_indices : num_indices g ≤ 16
  pub same_number : length g.divisions ≡ num_blocks g
  pub divisions_one : all (λ d. leb 1 d) g.divisions ≡ true
  pub few : product g.divisions ≤ 9000000000000000

-- a game's losses and a grid point, with the first index of each block and the block of each index
pub record GameAt (g : Grid) (firsts owners losses : List ℕ) (y : Point) : Type 0 where
  pub grid : Moderate g
  pub first : (j : ℕ) → j < num_blocks g → get_or firsts j 0 ≡ first_index g j
  pub owned : Owners g owners
  pub table : IsTable g losses
  pub is_point : is_grid_point g y ≡ true

-- the largest difference at a point: that of the index which its label names
abbrev pub gain_at : Grid → List ℕ → Point → ℤ
gain_at g losses y = difference g losses y (pred (game_label g losses y))

-- the loss of index h's strategy against the opponents' mixes
abbrev pub own_loss : Grid → List ℕ → Point → ℕ → ℕ
own_loss g losses y h =
    let j = block_of g h in get_or (strategy_losses g y j (losses_of g losses j)) (h - first_index g j) 0

-- each index's stands in the array
abbrev pub OwnLosses : Grid → List ℕ → Point → List ℕ → Type 0
OwnLosses g losses y values = (h : ℕ) → h < num_indices g → at values h ≡ own_loss g losses y h
