-- What the labelling of a game answers and writes for C and Rust: the number and the count of each case.
-- Assumes nothing.
use Rattle.std.specs.Prelude.{List, ◌≡◌, ℕ}
use Rattle.game_labels.specs.Labelling.{labelled_of}
use Rattle.game_labels.specs.declared.Labelled.{Labelled}
use Rattle.game_labels.specs.declared.Labelled.TheVariants.{Refused, Written}
use Rattle.grid_points.specs.Grid.{Grid}
use Rattle.questions.specs.Questions.{Question}

-- "A refusal returns its number"; 0 where the labels are written
abbrev pub label_number : Labelled → ℕ
label_number (Refused number) = number
label_number (Written count) = 0

-- "the result gives how much was written"; a refusal "no count", and the old number stays
abbrev pub label_count : Labelled → ℕ → ℕ
label_count (Refused number) old = old
label_count (Written count) old = count

-- The numbers tell the answer: two calls, of the labelling or of the boundary rule, with the same number and the same
-- count, where the old counts were the same, have answered the same.
abbrev pub LabelCallsTell : Type 0
LabelCallsTell = (g h : Grid) (questions others : List Question) (old : ℕ)
    → label_number (labelled_of g questions) ≡ label_number (labelled_of h others)
    → label_count (labelled_of g questions) old ≡ label_count (labelled_of h others) old
    → labelled_of g questions ≡ labelled_of h others
