-- What the run that writes a trail has for C and Rust beyond the run's numbers. Assumes nothing.
use Rattle.std.specs.Prelude.{cond, ◌≡◌, ℕ}
use Rattle.finder.specs.Numbers.{run_facts, run_number}
use Rattle.place.specs.Problem.{Problem}
use Rattle.trail_writer.specs.Writing.{announces, trail_answer}
use Rattle.trail_writer.specs.declared.answers.TrailAnswer.{TrailAnswer}

-- "the result gives how much was written", here of the trail; a refusal "no count", and the old number stays
abbrev pub bytes_written : TrailAnswer → ℕ → ℕ
bytes_written found old = cond (announces found.run) found.bytes old

-- The numbers tell the answer: two calls that answer the same number and facts and leave the same count of bytes have
-- answered the same.
abbrev pub TrailNumbersTell : Type 0
TrailNumbersTell = (p q : Problem) (room other trail_room more budget further old : ℕ)
    → (let a = trail_answer p room trail_room budget in
    let b = trail_answer q other more further in
    run_number a.run ≡ run_number b.run → run_facts a.run ≡ run_facts b.run
    → bytes_written a old ≡ bytes_written b old → a ≡ b)
