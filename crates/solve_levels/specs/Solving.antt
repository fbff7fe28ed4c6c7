-- Solving on fine grids: each level is a run of its own with the budget, over the game's labels, and what is answered
-- is the first level that is longer, or the end of the last. Levels count from 0. Assumes nothing.
use Rattle.std.specs.Prelude.{Bool, true, false, cond, List, [], ◌∷◌, map, ℕ, suc, pred, eqb, ℤ, get_or}
use Rattle.combinatorics.specs.Front.{front}
use Rattle.combinatorics.specs.Lists.{filter, up_from}
use Rattle.finder.specs.Run.{numbers_of}
use Rattle.game_losses.specs.Game.{game_label}
use Rattle.game_point.specs.Label.{gain_at}
use Rattle.grid_points.specs.Grid.{Point, block_of}
use Rattle.place.specs.Path.{PathAnswer, answer, ended, spent, unknown}
use Rattle.questions.specs.Questions.{first_no}
use Rattle.refinement_levels.specs.Levels.{Refinement, answer_vertices, level_grid, level_problem}
use Rattle.solve_levels.specs.Questions.{solve_questions}

-- "The budget holds for each level"
abbrev pub level_answer : Refinement → ℕ → ℕ → PathAnswer
level_answer r budget i = answer (level_problem r i) budget

abbrev pub is_spent : PathAnswer → Bool
is_spent (spent places) = true
is_spent (ended places read kind block vertices simplex) = false
is_spent (unknown places position) = false

-- the levels that are longer than the budget
abbrev pub spent_levels : Refinement → ℕ → ℕ → List ℕ
spent_levels r levels budget = filter (λ i. is_spent (level_answer r budget i)) (up_from 0 levels)

-- the number, from 1, of the first point that passes a test; one more than their number where none does
abbrev pub first_number : (Point → Bool) → List Point → ℕ
first_number test [] = 1
first_number test (y ∷ ys) = cond (test y) 1 (suc (first_number test ys))

-- "the first vertex whose label is an index of the block named": blocks count from 1 in an answer
abbrev pub named_vertex : Refinement → ℕ → PathAnswer → ℕ
named_vertex r i (spent places) = 0
named_vertex r i (unknown places position) = 0
named_vertex r i (ended places read kind block vertices simplex) =
    first_number (λ y. eqb (suc (block_of (level_grid r i) (pred (game_label (level_grid r i) r.losses y)))) block)
    simplex

-- "with the largest difference there, times the product of the divisions"
abbrev pub named_gain : Refinement → ℕ → PathAnswer → ℤ
named_gain r i a = gain_at (level_grid r i) r.losses (get_or (answer_vertices a) (pred (named_vertex r i a)) [])

pub data SolveAnswer : Type 0 where
  refused : (number : ℕ) → SolveAnswer
  -- "9 returns the level, counted from 0, and the places visited there"
  stopped : (level places : ℕ) → SolveAnswer
  -- at the end of the last level; the levels' own answers stand beside it
  solved : (vertex : ℕ) (gain : ℤ) → SolveAnswer

-- what is answered, by the levels that are longer than the budget
abbrev pub answer_by : Refinement → ℕ → ℕ → List ℕ → SolveAnswer
answer_by r levels budget [] =
    let a = level_answer r budget (pred levels) in
    solved (named_vertex r (pred levels) a) (named_gain r (pred levels) a)
answer_by r levels budget (i ∷ is) = stopped i budget

unfoldable pub solve_answer : Refinement → ℕ → ℕ → ℕ → SolveAnswer
solve_answer r levels budget room =
    let number = first_no (solve_questions r levels room) in
    cond (eqb number 0) (answer_by r levels budget (spent_levels r levels budget)) (refused number)

-- "The result has each level's places, labels read, kind of end, block and number of vertices"
abbrev pub level_answers : Refinement → ℕ → ℕ → List PathAnswer
level_answers r levels budget = map (level_answer r budget) (up_from 0 levels)

-- the answer buffer "gets the last level's vertices, and these only when every level has ended"
abbrev pub numbers_by : Refinement → ℕ → ℕ → List ℕ → SolveAnswer → List ℕ
numbers_by r levels budget old (refused number) = old
numbers_by r levels budget old (stopped level places) = old
numbers_by r levels budget old (solved vertex gain) = front (numbers_of (level_answer r budget (pred levels))) old
