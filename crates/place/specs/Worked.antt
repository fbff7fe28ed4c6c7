-- Document 01, "Ends worked out": the nine marked rows; three of request 02, where a label is not yet known; a label
-- that is refused; and a longer path. Assumes nothing.
use Rattle.std.specs.Prelude.{cond, List, [], ◌∷◌, ℕ, suc, ◌*◌, eqb, replicate}
use Rattle.end_kinds.specs.declared.Kind.TheVariants.{Facet as facet_end, Place as place_end}
use Rattle.grid_points.specs.Grid.{bound, dimension, num_indices}
use Rattle.questions.specs.Questions.{first_no}
use Rattle.place.specs.Path.{PathAnswer, spent, ended, unknown, answer}
use Rattle.place.specs.Problem.{Problem, problem_of}
use Rattle.place.specs.Questions.{run_questions}

-- what a run gives: the number of the first of questions 1 to 8 that is answered no, or the answer
pub data Result : Type 0 where
  refused : (number : ℕ) → Result
  answered : PathAnswer → Result

pub record Row : Type 0 where
  pub problem : Problem
  pub budget : ℕ
  pub result : Result

-- what a run on the row's table gives, for an answer buffer of (n + 1) times m numbers
abbrev pub given : Row → Result
given r =
    let p = r.problem in
    let number = first_no (run_questions p (suc (dimension p.grid) * num_indices p.grid)) in
    cond (eqb number 0) (answered (answer p r.budget)) (refused number)

-- "Without a budget, the bound is the budget"
abbrev pub row : Problem → PathAnswer → Row
row p a = record { problem = p; budget = bound p.grid; result = answered a }

-- "the same, budget 2"
abbrev pub row_with : Problem → ℕ → PathAnswer → Row
row_with p n a = record { problem = p; budget = n; result = answered a }

-- "Label m is accepted; 0 and m + 1 get 7": since request 02 only m + 1 does
abbrev pub row_refused : Problem → ℕ → Row
row_refused p number = record { problem = p; budget = bound p.grid; result = refused number }

-- A path on which three indices join T, a point is exchanged, and T loses an index; the result is that of the search
-- over sets of points in tests/definitions. Its budget is its length, which is enough.
abbrev pub longer : Row
longer =
    row_with (problem_of (3 ∷ 2 ∷ []) (1 ∷ 1 ∷ []) (1 ∷ 0 ∷ 0 ∷ 1 ∷ 0 ∷ []) (5 ∷ 5 ∷ 5 ∷ 2 ∷ 2 ∷ 3 ∷ [])) 6
    (ended 6 5 facet_end 2 2 ((1 ∷ 0 ∷ 0 ∷ 0 ∷ 1 ∷ []) ∷ (0 ∷ 1 ∷ 0 ∷ 0 ∷ 1 ∷ []) ∷ []))

abbrev pub table : List Row
table = row (problem_of (2 ∷ []) (1 ∷ []) (1 ∷ 0 ∷ []) (1 ∷ 1 ∷ [])) (ended 1 1 place_end 1 1 ((1 ∷ 0 ∷ []) ∷ []))
    ∷ row (problem_of (2 ∷ []) (1 ∷ []) (1 ∷ 0 ∷ []) (2 ∷ 2 ∷ [])) (ended 2 2 facet_end 1 1 ((0 ∷ 1 ∷ []) ∷ []))
    ∷ row (problem_of (2 ∷ []) (1 ∷ []) (1 ∷ 0 ∷ []) (1 ∷ 2 ∷ []))
    (ended 2 2 place_end 1 2 ((1 ∷ 0 ∷ []) ∷ (0 ∷ 1 ∷ []) ∷ []))
    ∷ row (problem_of (2 ∷ []) (4 ∷ []) (2 ∷ 2 ∷ []) (replicate 5 1)) (ended 3 3 facet_end 1 1 ((4 ∷ 0 ∷ []) ∷ []))
    ∷ row_with (problem_of (2 ∷ []) (4 ∷ []) (2 ∷ 2 ∷ []) (replicate 5 1)) 2 (spent 2)
    ∷ row (problem_of (3 ∷ []) (1 ∷ []) (1 ∷ 0 ∷ 0 ∷ []) (replicate 3 3))
    (ended 2 2 facet_end 1 1 ((0 ∷ 0 ∷ 1 ∷ []) ∷ []))
    ∷ row (problem_of (3 ∷ []) (3 ∷ []) (1 ∷ 1 ∷ 1 ∷ []) (replicate 10 1))
    (ended 3 3 facet_end 1 1 ((3 ∷ 0 ∷ 0 ∷ []) ∷ []))
    ∷ row (problem_of (2 ∷ 2 ∷ []) (1 ∷ 1 ∷ []) (1 ∷ 0 ∷ 1 ∷ 0 ∷ []) (3 ∷ 1 ∷ 2 ∷ 4 ∷ []))
    (ended 3 3 place_end 2 3 ((1 ∷ 0 ∷ 1 ∷ 0 ∷ []) ∷ (1 ∷ 0 ∷ 0 ∷ 1 ∷ []) ∷ (0 ∷ 1 ∷ 0 ∷ 1 ∷ []) ∷ []))
    ∷ row (problem_of (2 ∷ 2 ∷ []) (1 ∷ 1 ∷ []) (1 ∷ 0 ∷ 1 ∷ 0 ∷ []) (2 ∷ 2 ∷ 2 ∷ 4 ∷ []))
    (ended 5 4 facet_end 1 1 ((0 ∷ 1 ∷ 1 ∷ 0 ∷ []) ∷ []))
    ∷ row (problem_of (2 ∷ []) (1 ∷ []) (1 ∷ 0 ∷ []) (1 ∷ 0 ∷ [])) (unknown 0 1)
    ∷ row_with (problem_of (2 ∷ []) (1 ∷ []) (1 ∷ 0 ∷ []) (1 ∷ 0 ∷ [])) 0 (spent 0)
    ∷ row (problem_of (2 ∷ []) (1 ∷ []) (1 ∷ 0 ∷ []) (0 ∷ 2 ∷ [])) (unknown 1 0)
    ∷ row_refused (problem_of (2 ∷ []) (1 ∷ []) (1 ∷ 0 ∷ []) (3 ∷ 1 ∷ [])) 7 ∷ longer ∷ []
