-- What a run that reports where the path came nearest answers and leaves in its two buffers, on every input. Assumes
-- nothing.
use Rattle.std.specs.Prelude.{cond, List, [], None, Option, Some, ℕ, eqb, length}
use Rattle.combinatorics.specs.Front.{front}
use Rattle.questions.specs.Questions.{first_no}
use Rattle.grid_points.specs.Grid.{Point, position}
use Rattle.place.specs.Path.{PathAnswer, answer, ended, spent, unknown}
use Rattle.place.specs.Problem.{Problem}
use Rattle.finder.specs.Run.{case_of, numbers_of}
use Rattle.finder.specs.declared.answers.RunAnswer.TheVariants.{Refused}
use Rattle.nearest_visited.specs.Nearest.{nearest as nearest_vertex, positions_within}
use Rattle.nearest_visited.specs.Questions.{near_questions}
use Rattle.nearest_pass.specs.declared.Vertex.{Vertex}
use Rattle.nearest.specs.declared.Report.{Report}

-- the number of the first of questions 1 to 8 that is answered no, or 0
abbrev pub near_refusal : Problem → Point → ℕ → ℕ → ℕ
near_refusal p w room list_room = first_no (near_questions p w room list_room)

-- "report the table position of the visited vertex nearest to it", with the number of those listed. "A refusal returns
-- its number and no count": 9 and 16, with which no end is reached, report none
abbrev pub nearest_in : Problem → Point → ℕ → PathAnswer → Option Vertex
nearest_in p w given (ended n read kind block vertices simplex) =
    Some (record { position = position p.grid (nearest_vertex p w); listed = length (positions_within p w given) })
nearest_in p w given (spent n) = None
nearest_in p w given (unknown n i) = None

-- "list all visited vertices within a given distance"
abbrev pub listed_by : Problem → Point → ℕ → PathAnswer → List ℕ
listed_by p w given (ended n read kind block vertices simplex) = positions_within p w given
listed_by p w given (spent n) = []
listed_by p w given (unknown n i) = []

-- behind the questions: what a run answers, and what is reported besides
abbrev pub reported : Problem → Point → ℕ → PathAnswer → Report
reported p w given a = record { run = case_of a; nearest = nearest_in p w given a }

-- the answer to every call
unfoldable pub report_of : Problem → Point → ℕ → ℕ → ℕ → ℕ → Report
report_of p w given room list_room budget =
    let number = near_refusal p w room list_room in
    cond (eqb number 0)
    (reported p w given (answer p budget))
    (record { run = Refused number; nearest = None })

-- "A refusal .. changes no buffer. What a call does write stands at the front of its buffer, old contents behind": the
-- answer buffer, for a list of `list_room` positions; and the list, for an answer buffer of `room` numbers
unfoldable pub near_answer_buffer : Problem → Point → ℕ → ℕ → List ℕ → List ℕ
near_answer_buffer p w list_room budget old =
    front (cond (eqb (near_refusal p w (length old) list_room) 0) (numbers_of (answer p budget)) []) old

unfoldable pub list_buffer : Problem → Point → ℕ → ℕ → ℕ → List ℕ → List ℕ
list_buffer p w given room budget old =
    front (cond (eqb (near_refusal p w room (length old)) 0) (listed_by p w given (answer p budget)) []) old
