-- Request 05, "Refinement runs": the grids of the levels, their problems, their ends and where each run starts. Levels
-- count
-- from 0. Assumes nothing.
use Rattle.std.specs.Prelude.{List, [], map, ℕ, zero, suc, ◌*◌, ◌^◌}
use Rattle.combinatorics.specs.Lists.{first_or}
use Rattle.grid_points.specs.Grid.{Grid, Point, bound}
use Rattle.game_losses.specs.Game.{labels}
use Rattle.place.specs.Path.{PathAnswer, spent, ended, unknown, answer}
use Rattle.place.specs.Places.{Simplex}
use Rattle.place.specs.Problem.{Problem}

-- "A game is solved on the first grid": what is lent, with k as the factor
pub record Refinement : Type 0 where
  pub grid : Grid
  pub start : Point
  pub losses : List ℕ
  pub factor : ℕ

-- numbers times k
abbrev pub times : ℕ → List ℕ → List ℕ
times k xs = map (λ x. k * x) xs

-- "every division is multiplied by k"
abbrev pub finer : ℕ → Grid → Grid
finer k g = record { sizes = g.sizes; divisions = times k g.divisions }

-- the grid of level i: its divisions are k^i times the first
abbrev pub grid_at : Grid → ℕ → ℕ → Grid
grid_at g k i = finer (k ^ i) g

abbrev pub level_grid : Refinement → ℕ → Grid
level_grid r i = grid_at r.grid r.factor i

-- "the labels are worked out afresh": a run on a grid from a start, on the labels of some losses
abbrev pub game_problem : Grid → Point → List ℕ → Problem
game_problem g start losses = record { grid = g; start = start; labels = labels g losses }

-- "Each level's budget is its bound"
abbrev pub end_of : Problem → PathAnswer
end_of p = answer p (bound p.grid)

-- the vertices that an answer has
abbrev pub answer_vertices : PathAnswer → Simplex
answer_vertices (spent n) = []
answer_vertices (ended n read kind block vertices simplex) = simplex
answer_vertices (unknown n position) = []

-- "the first vertex of the last end"
abbrev pub first_vertex : Problem → Point
first_vertex p = first_or [] (answer_vertices (end_of p))

-- "the run restarts at k times the first vertex of the last end"
unfoldable pub level_start : Refinement → ℕ → Point
level_start r zero = r.start
level_start r (suc i) = times r.factor (first_vertex (game_problem (level_grid r i) (level_start r i) r.losses))

abbrev pub level_problem : Refinement → ℕ → Problem
level_problem r i = game_problem (level_grid r i) (level_start r i) r.losses

-- the answer of level i
abbrev pub level_end : Refinement → ℕ → PathAnswer
level_end r i = end_of (level_problem r i)
