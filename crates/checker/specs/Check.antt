-- Request 07, "Checking sheets from other programs": the checker's questions, and its answer on every input.
-- Assumes nothing.
use Rattle.std.specs.Prelude.{◌&&◌, cond, List, [], ◌∷◌, ◌++◌, ℕ, suc, ◌*◌, ◌/◌, eqb, leb, length}
use Rattle.std.proofs.Math.Option.{Option, none, some}
use Rattle.combinatorics.specs.Lists.{all}
use Rattle.questions.specs.Questions.{Question, ask, first_no}
use Rattle.grid_points.specs.Grid.{Grid, Point, dimension, num_indices, is_grid_point}
use Rattle.grid_points.specs.Questions.{grid_questions}
use Rattle.place.specs.Questions.{question6, question7}
use Rattle.check_simplices.specs.Simplices.{labelled_by, verdict}
use Rattle.check_chains.specs.Listed.{listed}
use Rattle.checker.specs.declared.CheckAnswer.{CheckAnswer}
use Rattle.checker.specs.declared.CheckAnswer.TheVariants.{Refused, Yes, No}

-- how many "whole points of m numbers" a list has
abbrev pub whole_points : Grid → List ℕ → ℕ
whole_points g numbers = length numbers / num_indices g

-- the points of a list
abbrev pub listed_points : Grid → List ℕ → List Point
listed_points g numbers = listed (num_indices g) (whole_points g numbers) numbers

-- "19 when the list is empty, is not whole points of m numbers, has more than n + 1 points, or has a point off
-- the grid"
abbrev pub question19 : Grid → List ℕ → Question
question19 g numbers = ask 19
    (leb 1 (length numbers) && eqb (whole_points g numbers * num_indices g) (length numbers)
    && leb (whole_points g numbers) (suc (dimension g)) && all (is_grid_point g) (listed_points g numbers))

-- those behind 1 to 4: "6 and 7", and 19 "put after 7"
abbrev pub list_questions : Grid → List ℕ → List ℕ → List Question
list_questions g labels numbers =
    question6 (labelled_by g labels) ∷ question7 (labelled_by g labels) ∷ question19 g numbers ∷ []

-- "It puts 1 to 4, 6 and 7"
abbrev pub check_questions : Grid → List ℕ → List ℕ → List Question
check_questions g labels numbers = grid_questions g ++ list_questions g labels numbers

-- "says yes with the first block .., or no"; the block counts from 1
abbrev pub check_case : Option ℕ → CheckAnswer
check_case none = No
check_case (some j) = Yes (suc j)

-- "The checker takes grid, label table and a list of points"
unfoldable pub check_answer : Grid → List ℕ → List ℕ → CheckAnswer
check_answer g labels numbers =
    let number = first_no (check_questions g labels numbers) in
    cond (eqb number 0) (check_case (verdict g labels (listed_points g numbers))) (Refused number)
