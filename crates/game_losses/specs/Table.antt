-- Document 01's questions about a loss table, and a table for which they are answered yes. Assumes nothing.
use Rattle.std.specs.Prelude.{Bool, true, ◌&&◌, List, ◌≡◌, ℕ, ◌*◌, eqb, leb, length}
use Rattle.combinatorics.specs.Lists.{all}
use Rattle.grid_points.specs.Grid.{Grid, num_blocks}
use Rattle.questions.specs.Questions.{Question, ask}
use Rattle.game_losses.specs.Game.{product}

-- "N times the product of the sizes"
abbrev pub num_losses : Grid → ℕ
num_losses g = num_blocks g * product g.sizes

-- "from 1 to 1,000"
abbrev pub in_range : ℕ → Bool
in_range loss = leb 1 loss && leb loss 1000

-- "Has the loss table N times the product of the sizes as its length? 10"
abbrev pub question10 : Grid → List ℕ → Question
question10 g losses = ask 10 (eqb (length losses) (num_losses g))

-- "Is each loss from 1 to 1,000? 11"
abbrev pub question11 : List ℕ → Question
question11 losses = ask 11 (all in_range losses)

-- a loss table of the grid
pub record IsTable (g : Grid) (losses : List ℕ) : Type 0 where
  pub whole : length losses ≡ num_losses g
  pub range : all in_range losses ≡ true
