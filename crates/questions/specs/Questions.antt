-- The form of a list of questions, as document 01's "Questions in order" has it and each later request.
-- Assumes nothing.
use Rattle.std.specs.Prelude.{Bool, cond, List, [], ◌∷◌, ℕ}

-- a question's number, and whether it is answered yes
pub record Question : Type 0 where
  pub number : ℕ
  pub answered_yes : Bool

abbrev pub ask : ℕ → Bool → Question
ask number answered_yes = record { number = number; answered_yes = answered_yes }

-- "the number when the answer is no": that of the first question answered no, and 0 where all are answered yes
unfoldable pub first_no : List Question → ℕ
first_no [] = 0
first_no (q ∷ qs) = cond q.answered_yes (first_no qs) q.number
