-- What the checker's call for C and Rust answers. Assumes nothing.
use Rattle.std.specs.Prelude.{List, ◌≡◌, ℕ, ◌*◌}
use Rattle.checker.specs.Check.{check_answer}
use Rattle.checker.specs.declared.CheckAnswer.{CheckAnswer}
use Rattle.checker.specs.declared.CheckAnswer.TheVariants.{Refused, Yes, No}
use Rattle.grid_points.specs.Grid.{Grid}

-- "A refusal returns its number"; "yes with the first block": 256 times the block, which is more than any refusal; "or
-- no": 0
abbrev pub check_number : CheckAnswer → ℕ
check_number (Refused number) = number
check_number (Yes block) = 256 * block
check_number No = 0

-- The number tells the answer: two calls with the same number have answered the same.
abbrev pub CheckCallsTell : Type 0
CheckCallsTell = (g h : Grid) (labels others numbers more : List ℕ)
    → check_number (check_answer g labels numbers) ≡ check_number (check_answer h others more)
    → check_answer g labels numbers ≡ check_answer h others more
