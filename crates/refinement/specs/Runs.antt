-- What the runs of the levels ask of what they are lent. The promise of a refinement does not cite it. Assumes nothing.
use Rattle.std.specs.Prelude.{true, List, ◌++◌, ◌≡◌, ℕ, zero, suc, ◌*◌, ◌≤◌, ◌<◌, leb, length, get_or, drop, take}
use Rattle.combinatorics.specs.Front.{front}
use Rattle.combinatorics.specs.Lists.{all, concat_map}
use Rattle.grid_points.specs.Grid.{Grid, is_grid_point, num_indices, num_points}
use Rattle.grid.specs.Made.{IsMade, grid_of, no_grid, shape}
use Rattle.grid.specs.declared.Grid.{Grid as GridStruct}
use Rattle.refinement_levels.specs.Levels.{Refinement, end_of, game_problem, level_grid, times, answer_vertices}
use Rattle.refinement_levels.specs.Questions.{last_grid, level_questions, level_room}
use Rattle.game_losses.specs.Table.{IsTable}
use Rattle.place.specs.Problem.{Problem}
use Rattle.questions.specs.Questions.{first_no}

-- k times each of at most 16 numbers fits 16 bits
pub record Fit (k : ℕ) (numbers : List ℕ) : Type 0 where
  pub few : length numbers ≤ 16
  pub factor : k ≤ 10
  pub small : all (λ x. leb (k * x) 65535) numbers ≡ true

-- the vertices that a run with its bound as budget writes
abbrev pub numbers_in : Problem → List ℕ
numbers_in p = concat_map (λ y. y) (answer_vertices (end_of p))

-- where a level starts, by what the level before has written
abbrev pub level_start_from : Grid → ℕ → List ℕ → ℕ → List ℕ → List ℕ
level_start_from g zero start k answer = start
level_start_from g (suc i) start k answer = times k (take (num_indices g) (drop (i * level_room g) answer))

pub record CanStart (g : Grid) (level : ℕ) (start : List ℕ) (k : ℕ) (answer : List ℕ) : Type 0 where
  pub long : length start ≡ num_indices g
  pub room : level * level_room g ≤ length answer
  pub few : level ≤ 8
  pub fit : (i : ℕ) → level ≡ suc i → Fit k (take (num_indices g) (drop (i * level_room g) answer))

pub record CanRunLevel (grid : GridStruct) (start losses : List ℕ) (label_room room : ℕ) : Type 0 where
  pub made : IsMade grid
  pub on_grid : is_grid_point (shape grid) start ≡ true
  pub table : IsTable (shape grid) losses
  pub whole : label_room ≡ grid.points
  pub enough : level_room (shape grid) ≤ room

-- a level's problem, by what the level before has written
abbrev pub problem_at : Grid → ℕ → List ℕ → List ℕ → ℕ → List ℕ → Problem
problem_at g level start losses k answer = game_problem g (level_start_from g level start k answer) losses

-- the answer buffer with the vertices of that problem's end at the level's room
abbrev pub written_at : Grid → ℕ → Problem → List ℕ → List ℕ
written_at g level p old = take (level * level_room g) old ++ front (numbers_in p) (drop (level * level_room g) old)

pub record CanSolve (grid : GridStruct) (level : ℕ) (start losses : List ℕ) (k : ℕ) (buffer answer : List ℕ) : Type 0
  where
    pub made : IsMade grid
    pub starts : CanStart (shape grid) level start k answer
    pub on_grid : is_grid_point (shape grid) (level_start_from (shape grid) level start k answer) ≡ true
    pub table : IsTable (shape grid) losses
    pub points : grid.points ≤ length buffer
    pub room : suc level * level_room (shape grid) ≤ length answer

-- the refinement whose first grid is the first of these
abbrev pub game_of : List GridStruct → List ℕ → List ℕ → ℕ → Refinement
game_of grids start losses k = record { grid = shape (get_or grids 0 no_grid); start = start; losses = losses; factor = k }

pub record CanRunAll (r : Refinement) (levels : ℕ) (grids : List GridStruct) (buffer answer : List ℕ) : Type 0 where
  pub factor : (2 ≤ r.factor) × (r.factor ≤ 10)
  pub some : (1 ≤ levels) × (levels ≤ 8)
  pub yes : first_no (level_questions r.grid r.factor levels) ≡ 0
  pub are : (i : ℕ) → i < levels → (other : GridStruct) → get_or grids i other ≡ grid_of (level_grid r i)
  pub on_grid : is_grid_point r.grid r.start ≡ true
  pub table : IsTable r.grid r.losses
  pub exact : length buffer ≡ num_points (last_grid r levels)
  pub room : levels * level_room r.grid ≤ length answer
