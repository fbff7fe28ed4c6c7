-- What the reader of a trail answers and writes for C and Rust: the numbers of each case of an enum. Assumes nothing.
use Rattle.std.specs.Prelude.{List, [], ◌∷◌, ◌≡◌, ℕ}
use Rattle.trail_reader.specs.declared.answers.ReadAnswer.{ReadAnswer}
use Rattle.trail_reader.specs.declared.answers.ReadAnswer.TheVariants.{Place, Refused}

-- "A refusal returns its number"; 0 where the reader "rebuilds the place at that record"
abbrev pub read_number : ReadAnswer → ℕ
read_number (Refused number) = number
read_number (Place points t u read) = 0

-- how many points the place has, T, U and the labels read; a refusal has none of these
abbrev pub place_facts : ReadAnswer → List ℕ
place_facts (Refused number) = []
place_facts (Place points t u read) = points ∷ t ∷ u ∷ read ∷ []

-- The numbers tell the answer: two answers with the same number and the same facts are the same.
abbrev pub ReadNumbersTell : Type 0
ReadNumbersTell = (a b : ReadAnswer) → read_number a ≡ read_number b → place_facts a ≡ place_facts b → a ≡ b
