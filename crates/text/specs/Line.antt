-- Numbers and words in a line. Assumes nothing.
use Rattle.std.specs.Prelude.{List, [], ◌∷◌, ◌++◌, ℕ}
use Rattle.text.specs.Decimal.{decimal}

-- a number behind a blank
unfoldable pub spaced : ℕ → List ℕ
spaced n = 32 ∷ decimal n

-- the end of each line
abbrev pub newline : List ℕ
newline = 10 ∷ []

-- a word and a number, as in "places 5"
abbrev pub line : List ℕ → ℕ → List ℕ
line word n = word ++ spaced n ++ newline
