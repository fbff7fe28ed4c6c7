-- Request 03: what the reader of a trail answers, on every input. Assumes nothing.
use Rattle.std.specs.Prelude.{Bool, true, false, cond, List, [], ◌∷◌, ◌++◌, ℕ, zero, suc, ◌+◌, ◌*◌, eqb, length}
use Rattle.combinatorics.specs.Front.{front}
use Rattle.combinatorics.specs.Lists.{concat_map, is_in}
use Rattle.grid_points.specs.Questions.{grid_questions, question5}
use Rattle.place.specs.Problem.{Problem}
use Rattle.questions.specs.Questions.{Question, ask, first_no}
use Rattle.trail.specs.Trail.{Reading as TrailReading, no_record, placed, reading}
use Rattle.trail_reader.specs.declared.answers.ReadAnswer.{ReadAnswer}
use Rattle.trail_reader.specs.declared.answers.ReadAnswer.TheVariants.{Place, Refused}

-- document 01, "T and U are sets of at most 16 indices": a set as a mask, in which the bit of index h, counted from 0,
-- has value 2 to the power of h
abbrev pub mask_from : List ℕ → ℕ → ℕ → ℕ
mask_from set h zero = 0
mask_from set h (suc n) = let rest = mask_from set (suc h) n in cond (is_in eqb h set) 1 0 + 2 * rest

abbrev pub mask_of : List ℕ → ℕ
mask_of set = mask_from set 0 16

-- "the reader gives 17, after 5, when there is no such record, or when .."
abbrev pub is_placed : TrailReading → Bool
is_placed no_record = false
is_placed (placed read points T U) = true

abbrev pub read_question17 : Problem → List ℕ → ℕ → Question
read_question17 p bytes number = ask 17 (is_placed (reading p bytes number))

-- "puts 1 to 5"
abbrev pub start_questions : Problem → List Question
start_questions p = grid_questions p.grid ++ (question5 p.grid p.start ∷ [])

abbrev pub trail_read_questions : Problem → List ℕ → ℕ → List Question
trail_read_questions p bytes number = start_questions p ++ (read_question17 p bytes number ∷ [])

-- "rebuilds the place at that record": how many points it has, T and U, and request 10's labels read; the points'
-- numbers, in rising coefficient sum, m each
abbrev pub read_case : TrailReading → ReadAnswer
read_case no_record = Refused 17
read_case (placed read points T U) = Place (length points) (mask_of T) (mask_of U) read

abbrev pub read_numbers : TrailReading → List ℕ
read_numbers no_record = []
read_numbers (placed read points T U) = concat_map (λ y. y) points

-- "A refusal returns its number": the first question answered no; else the place
unfoldable pub read_answer : Problem → List ℕ → ℕ → ReadAnswer
read_answer p bytes number =
    let refusal = first_no (trail_read_questions p bytes number) in
    cond (eqb refusal 0) (read_case (reading p bytes number)) (Refused refusal)

-- "What a call does write stands at the front of its buffer, old contents behind": the points, in 256 numbers; a place
-- has at most 16 points of 16 numbers
unfoldable pub read_points : Problem → List ℕ → ℕ → List ℕ → List ℕ
read_points p bytes number old =
    let refusal = first_no (trail_read_questions p bytes number) in
    front (cond (eqb refusal 0) (read_numbers (reading p bytes number)) []) old
