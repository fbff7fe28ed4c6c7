-- What a run answers and leaves in the answer buffer, on every input. Assumes nothing.
use Rattle.std.specs.Prelude.{cond, List, [], ℕ, eqb, length}
use Rattle.combinatorics.specs.Front.{front}
use Rattle.combinatorics.specs.Lists.{concat_map}
use Rattle.questions.specs.Questions.{first_no}
use Rattle.place.specs.Path.{PathAnswer, spent, ended, unknown, answer}
use Rattle.place.specs.Problem.{Problem}
use Rattle.place.specs.Questions.{run_questions}
use Rattle.finder.specs.declared.answers.RunAnswer.{RunAnswer}
use Rattle.finder.specs.declared.answers.RunAnswer.TheVariants.{Refused, Spent, Unknown, End}

-- "The answer has the places, the kind of end, the block, the number of vertices": the enum's case and values for each
-- answer of an accepted table. "A budget is called spent by number 9", which "also returns the places visited". Request
-- 02: 16, "with the places visited before it and the point's position in the table returned". Request 10: the labels
-- read stand after the places, and "a refusal gives none".
abbrev pub case_of : PathAnswer → RunAnswer
case_of (spent n) = Spent n
case_of (ended n read kind block vertices simplex) = End n read kind block vertices
case_of (unknown n position) = Unknown n position

-- "the vertices in rising coefficient sum, m 16-bit numbers each": the numbers that an answer writes
abbrev pub numbers_of : PathAnswer → List ℕ
numbers_of (spent n) = []
numbers_of (ended n read kind block vertices simplex) = concat_map (λ y. y) simplex
numbers_of (unknown n position) = []

-- the number of the first of questions 1 to 8 that is answered no, or 0
abbrev pub run_refusal : Problem → ℕ → ℕ
run_refusal p room = first_no (run_questions p room)

-- "A refusal returns its number and no count"
unfoldable pub run_answer : Problem → ℕ → ℕ → RunAnswer
run_answer p room budget = cond (eqb (run_refusal p room) 0) (case_of (answer p budget)) (Refused (run_refusal p room))

-- "A refusal .. changes no buffer. What a call does write stands at the front of its buffer, old contents behind"
unfoldable pub run_buffer : Problem → ℕ → List ℕ → List ℕ
run_buffer p budget old = front (cond (eqb (run_refusal p (length old)) 0) (numbers_of (answer p budget)) []) old
