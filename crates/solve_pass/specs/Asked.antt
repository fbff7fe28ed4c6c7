-- What the pass along the path of a game asks. Assumes nothing.
use Rattle.std.specs.Prelude.{true, List, [], ◌≡◌, ℕ, ◌<◌, leb, length, take}
use Rattle.combinatorics.specs.Lists.{all}
use Rattle.grid_points.specs.Grid.{Grid, Point, is_grid_point, lent, num_indices}
use Rattle.solve_pass.specs.Bare.{labelled}
use Rattle.game_weighed.specs.Levels.{Rests}
use Rattle.game_point.specs.Label.{GameAt}
use Rattle.rules.specs.Read.{CanCompute, point_on}
use Rattle.rules.specs.Ready.{IndicesBelow, IsRound, Ready, RoundBelow}
use Rattle.rules.specs.Moves.{State}
use Rattle.rules.specs.declared.Round.{Round}
use Rattle.arrays.specs.declared.holding.Held.{Held}

-- the point that has just come in can be computed, and is a grid point of the game
pub record CanLabel (g : Grid) (firsts owners rests losses : List ℕ) (indices : ℕ) (a : State) : Type 0 where
  pub below : IndicesBelow a.round.previous
  pub first_length : length a.first ≡ 16
  pub many : indices ≡ num_indices g
  pub point : CanCompute a a.active
  pub game : GameAt g firsts owners losses (point_on g a a.active)
  pub resting : Rests (lent g.sizes []) rests

-- what one place of the pass asks
pub record CanVisitGame (g : Grid) (firsts owners rests losses : List ℕ) (indices : ℕ) (a : State) : Type 0 where
  pub below : RoundBelow a.round
  pub labels : a.rule < 6 → CanLabel g firsts owners rests losses indices a
  pub ready : Ready (labelled g losses a)

-- what the pass asks
pub record CanPassGame (g : Grid) (firsts owners rests losses : List ℕ) (indices : ℕ) (round : Round) (held : Held)
    : Type 0 where
  pub game : (y : Point) → is_grid_point g y ≡ true → GameAt g firsts owners losses y
  pub resting : Rests (lent g.sizes []) rests
  pub low : all (λ d. leb d 60000) g.divisions ≡ true
  pub many : indices ≡ num_indices g
  pub is_round : IsRound g round
  pub below : RoundBelow round
  pub start : is_grid_point g (take indices held.first) ≡ true
