-- Request 03: what a run that writes a trail answers, and what it leaves in the answer buffer and in the trail buffer,
-- on every input. Assumes nothing.
use Rattle.std.specs.Prelude.{Bool, true, false, cond, List, [], ◌∷◌, ℕ, eqb, leb, length}
use Rattle.combinatorics.specs.Front.{front}
use Rattle.finder.specs.Run.{numbers_of, run_refusal}
use Rattle.finder.specs.declared.answers.RunAnswer.{RunAnswer}
use Rattle.finder.specs.declared.answers.RunAnswer.TheVariants.{Refused, Spent, Unknown, End}
use Rattle.place.specs.Path.{PathAnswer, answer, ended, path, spent, unknown}
use Rattle.place.specs.Problem.{Problem}
use Rattle.questions.specs.Questions.{Question, ask, first_no}
use Rattle.trail.specs.Record.{trail_of}
use Rattle.trail_writer.specs.declared.answers.TrailAnswer.{TrailAnswer}

-- "A run can write a trail": that of the whole path
abbrev pub whole_trail : Problem → List ℕ
whole_trail p = trail_of p (path p).visited

-- "17 when the trail buffer is shorter than the whole trail": is it as long at least?
abbrev pub write_question17 : Problem → ℕ → Question
write_question17 p room = ask 17 (leb (length (whole_trail p)) room)

-- what a run answers that announces no end, and so writes no byte
abbrev pub unwritten : RunAnswer → TrailAnswer
unwritten run = record { run = run; bytes = 0 }

-- "asked after the run has ended and before anything is written (that run announces no end ..)": of an accepted table.
-- A run that meets 9 or 16 has not ended, and is not asked. The end is the run's, with the bytes written.
abbrev pub trail_case : Problem → ℕ → PathAnswer → TrailAnswer
trail_case p room (spent n) = unwritten (Spent n)
trail_case p room (unknown n position) = unwritten (Unknown n position)
trail_case p room (ended n read kind block vertices simplex) =
    let number = first_no (write_question17 p room ∷ []) in
    let end = End n read kind block vertices in
    cond (eqb number 0) (record { run = end; bytes = length (whole_trail p) }) (unwritten (Refused number))

-- questions 1 to 8 come first; the answer buffer has `room` numbers, the trail buffer `trail_room` bytes
unfoldable pub trail_answer : Problem → ℕ → ℕ → ℕ → TrailAnswer
trail_answer p room trail_room budget =
    cond (eqb (run_refusal p room) 0)
    (trail_case p trail_room (answer p budget))
    (unwritten (Refused (run_refusal p room)))

-- "A refusal returns its number and no count, and changes no buffer": only a run that announces an end writes
abbrev pub announces : RunAnswer → Bool
announces (Refused number) = false
announces (Spent n) = false
announces (Unknown n position) = false
announces (End n read kind block vertices) = true

-- "What a call does write stands at the front of its buffer, old contents behind"
unfoldable pub trail_answer_buffer : Problem → ℕ → ℕ → List ℕ → List ℕ
trail_answer_buffer p trail_room budget old =
    front (cond (announces (trail_answer p (length old) trail_room budget).run) (numbers_of (answer p budget)) []) old

unfoldable pub trail_buffer : Problem → ℕ → ℕ → List ℕ → List ℕ
trail_buffer p room budget old =
    front (cond (announces (trail_answer p room (length old) budget).run) (whole_trail p) []) old
