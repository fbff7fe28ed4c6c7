-- "Questions in order, and the number when the answer is no": for each call, and each two of its questions that stand
-- one behind the other, an input that both answer no, with the number of the one that is put first. Assumes nothing.
use Rattle.std.specs.Prelude.{List, [], ◌∷◌, ℕ}
use Rattle.boundary.specs.Call.{boundary_questions}
use Rattle.checker.specs.Check.{check_questions}
use Rattle.game_labels.specs.Labelling.{label_questions}
use Rattle.grid_points.specs.Grid.{Grid, lent}
use Rattle.nearest_visited.specs.Questions.{near_questions}
use Rattle.place.specs.Problem.{Problem}
use Rattle.place.specs.Questions.{run_questions}
use Rattle.questions.specs.Questions.{Question}
use Rattle.refinement_levels.specs.Levels.{Refinement}
use Rattle.refinement_levels.specs.Questions.{refine_questions}

pub record Pair : Type 0 where
  pub questions : List Question
  pub number : ℕ

abbrev pub pair : List Question → ℕ → Pair
pair questions number = record { questions = questions; number = number }

-- one block of two indices, d = 1: P is 2, and (n + 1) times m is 4
abbrev pub small : Grid
small = lent (2 ∷ []) (1 ∷ [])

-- the same with d = 0, which 3 refuses
abbrev pub undivided : Grid
undivided = lent (2 ∷ []) (0 ∷ [])

abbrev pub on_small : List ℕ → List ℕ → Problem
on_small start labels = record { grid = small; start = start; labels = labels }

-- "A run asks 1 to 9"
abbrev pub of_run : List Pair
of_run =
    pair (run_questions (record { grid = undivided; start = 2 ∷ 0 ∷ []; labels = 3 ∷ [] }) 0) 3
    ∷ pair (run_questions (on_small (2 ∷ 0 ∷ []) (3 ∷ [])) 0) 5
    ∷ pair (run_questions (on_small (1 ∷ 0 ∷ []) (3 ∷ [])) 0) 6
    ∷ pair (run_questions (on_small (1 ∷ 0 ∷ []) (3 ∷ 1 ∷ [])) 0) 7
    ∷ pair (run_questions (on_small (1 ∷ 0 ∷ []) (1 ∷ 1 ∷ [])) 0) 8
    ∷ []

-- "A game labelling asks 1 to 4, then 10 to 12"
abbrev pub of_labelling : List Pair
of_labelling =
    pair (label_questions undivided (0 ∷ []) []) 3
    ∷ pair (label_questions small (0 ∷ []) []) 10
    ∷ pair (label_questions small (0 ∷ 1 ∷ []) []) 11
    ∷ pair (label_questions small (1 ∷ 1 ∷ []) []) 12
    ∷ []

abbrev pub refinement : Grid → List ℕ → List ℕ → ℕ → Refinement
refinement grid start losses factor = record { grid = grid; start = start; losses = losses; factor = factor }

-- request 05: "18 .. put before 1", "Questions 1 to 4 for all levels, then 5, 10, 11, 12 and 8"
abbrev pub of_refinement : List Pair
of_refinement =
    pair (refine_questions (refinement undivided (2 ∷ 0 ∷ []) (0 ∷ []) 1) 1 [] 0) 18
    ∷ pair (refine_questions (refinement undivided (2 ∷ 0 ∷ []) (0 ∷ []) 2) 1 [] 0) 3
    ∷ pair (refine_questions (refinement small (2 ∷ 0 ∷ []) (0 ∷ []) 2) 1 [] 0) 5
    ∷ pair (refine_questions (refinement small (1 ∷ 0 ∷ []) (0 ∷ []) 2) 1 [] 0) 10
    ∷ pair (refine_questions (refinement small (1 ∷ 0 ∷ []) (0 ∷ 1 ∷ []) 2) 1 [] 0) 11
    ∷ pair (refine_questions (refinement small (1 ∷ 0 ∷ []) (1 ∷ 1 ∷ []) 2) 1 [] 0) 12
    ∷ pair (refine_questions (refinement small (1 ∷ 0 ∷ []) (1 ∷ 1 ∷ []) 2) 1 (0 ∷ 0 ∷ []) 3) 8
    -- the last level's P, and room for each level
    ∷ pair (refine_questions (refinement small (1 ∷ 0 ∷ []) (1 ∷ 1 ∷ []) 2) 2 (0 ∷ 0 ∷ []) 8) 12
    ∷ pair (refine_questions (refinement small (1 ∷ 0 ∷ []) (1 ∷ 1 ∷ []) 2) 2 (0 ∷ 0 ∷ 0 ∷ []) 7) 8
    ∷ pair (refine_questions (refinement small (1 ∷ 0 ∷ []) (1 ∷ 1 ∷ []) 2) 2 (0 ∷ 0 ∷ 0 ∷ []) 8) 0
    ∷ []

-- request 07: "It puts 1 to 4, 6 and 7. 19 .. put after 7"
abbrev pub of_check : List Pair
of_check =
    pair (check_questions undivided (3 ∷ []) []) 3
    ∷ pair (check_questions small (3 ∷ []) []) 6
    ∷ pair (check_questions small (3 ∷ 1 ∷ []) []) 7
    ∷ pair (check_questions small (1 ∷ 1 ∷ []) []) 19
    ∷ []

-- request 12: "It puts 1 to 4, 6, 7 and 12"
abbrev pub of_boundary : List Pair
of_boundary =
    pair (boundary_questions undivided (3 ∷ []) []) 3
    ∷ pair (boundary_questions small (3 ∷ []) []) 6
    ∷ pair (boundary_questions small (3 ∷ 1 ∷ []) []) 7
    ∷ pair (boundary_questions small (1 ∷ 1 ∷ []) []) 12
    ∷ []

-- request 11: "Question 5 is put for w too, and 8 also wants room for P 16-bit positions"
abbrev pub of_nearest : List Pair
of_nearest =
    pair (near_questions (on_small (1 ∷ 0 ∷ []) (3 ∷ [])) (2 ∷ 0 ∷ []) 0 0) 5
    ∷ pair (near_questions (on_small (1 ∷ 0 ∷ []) (3 ∷ [])) (0 ∷ 1 ∷ []) 0 0) 6
    ∷ pair (near_questions (on_small (1 ∷ 0 ∷ []) (3 ∷ 1 ∷ [])) (0 ∷ 1 ∷ []) 0 0) 7
    ∷ pair (near_questions (on_small (1 ∷ 0 ∷ []) (1 ∷ 1 ∷ [])) (0 ∷ 1 ∷ []) 4 1) 8
    ∷ pair (near_questions (on_small (1 ∷ 0 ∷ []) (1 ∷ 1 ∷ [])) (0 ∷ 1 ∷ []) 3 2) 8
    ∷ []
