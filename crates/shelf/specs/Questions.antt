-- Request 13: the questions 21, 22 and 23, in the order in which a call puts them. Assumes nothing.
use Rattle.std.specs.Prelude.{not, ◌&&◌, List, [], ◌∷◌, ℕ, leb, ltb, length}
use Rattle.questions.specs.Questions.{Question, ask}
use Rattle.shelf.specs.Shelf.{is_shelf, is_replaced}

-- "21 when a shelf handed in has more than 1,000 sheets or more than its list has entries, or a sheet naming itself, a
-- later one, or one named before, put first"
abbrev pub question21 : List ℕ → ℕ → Question
question21 list count = ask 21 (is_shelf list count)

-- "22 when filing on a shelf of 1,000 sheets or in a list with no place left"
abbrev pub question22 : List ℕ → ℕ → Question
question22 list count = ask 22 (ltb count 1000 && ltb count (length list))

-- "then 23 when the sheet named .. is not on it, or the one named is already replaced"; 0 names none, and passes
abbrev pub question23_of_filing : List ℕ → ℕ → ℕ → Question
question23_of_filing list count named = ask 23 (leb named count && not (is_replaced list count named))

-- "23 when the sheet .. asked for is not on it"
abbrev pub question23_of_asking : ℕ → ℕ → Question
question23_of_asking count sheet = ask 23 (leb 1 sheet && leb sheet count)

abbrev pub filing_questions : List ℕ → ℕ → ℕ → List Question
filing_questions list count named =
    question21 list count ∷ question22 list count ∷ question23_of_filing list count named ∷ []

abbrev pub asking_questions : List ℕ → ℕ → ℕ → List Question
asking_questions list count sheet = question21 list count ∷ question23_of_asking count sheet ∷ []
