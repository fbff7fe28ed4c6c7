-- What the calls for C and Rust answer and write of a run: the number and the facts of each case. Assumes nothing.
use Rattle.std.specs.Prelude.{List, [], ◌∷◌, ◌≡◌, ℕ}
use Rattle.combinatorics.specs.Front.{front}
use Rattle.end_kinds.specs.Numbers.{kind_number}
use Rattle.place.specs.Problem.{Problem}
use Rattle.finder.specs.Run.{run_answer}
use Rattle.finder.specs.declared.answers.RunAnswer.{RunAnswer}
use Rattle.finder.specs.declared.answers.RunAnswer.TheVariants.{Refused, Spent, Unknown, End}

-- "A refusal returns its number"; "A budget is called spent by number 9"; 16 where a label is not yet known; 0 at
-- an end
abbrev pub run_number : RunAnswer → ℕ
run_number (Refused number) = number
run_number (Spent places) = 9
run_number (Unknown places position) = 16
run_number (End places read kind block vertices) = 0

-- "The answer has the places, the kind of end, the block, the number of vertices"; "Number 9 also returns the places
-- visited"; 16 "the places visited before it and the point's position in the table"; a refusal "no count". Request 10:
-- the labels read stand after the places.
abbrev pub run_facts : RunAnswer → List ℕ
run_facts (Refused number) = []
run_facts (Spent places) = places ∷ []
run_facts (Unknown places position) = places ∷ position ∷ []
run_facts (End places read kind block vertices) = places ∷ read ∷ kind_number kind ∷ block ∷ vertices ∷ []

-- The numbers tell the answer: two answers with the same number and the same facts are the same.
abbrev pub RunNumbersTell : Type 0
RunNumbersTell = (a b : RunAnswer) → run_number a ≡ run_number b → run_facts a ≡ run_facts b → a ≡ b

-- So they do in a caller's memory, where only the number says how many of the facts were written: two runs that answer
-- the same number and leave the same facts, in memory that was the same before, have answered the same.
abbrev pub RunCallsTell : Type 0
RunCallsTell = (p q : Problem) (room other budget more : ℕ) (facts : List ℕ)
    → run_number (run_answer p room budget) ≡ run_number (run_answer q other more)
    → front (run_facts (run_answer p room budget)) facts ≡ front (run_facts (run_answer q other more)) facts
    → run_answer p room budget ≡ run_answer q other more
