-- What the shelf's calls for C and Rust answer and write: the number and the value of each case of an enum.
-- Assumes nothing.
use Rattle.std.specs.Prelude.{List, ◌≡◌, ℕ}
use Rattle.shelf.specs.Calls.{asking, filing}
use Rattle.shelf.specs.declared.answers.Current.{Current}
use Rattle.shelf.specs.declared.answers.Current.TheVariants.{Refused as NoSheet, Sheet}
use Rattle.shelf.specs.declared.answers.Filed.{Filed}
use Rattle.shelf.specs.declared.answers.Filed.TheVariants.{Refused as NotFiled, Filed as FiledAs}

-- the refusal's number; 0 where the sheet is filed
abbrev pub filed_number : Filed → ℕ
filed_number (NotFiled number) = number
filed_number (FiledAs new) = 0

-- "answers with the new count"; a refusal leaves the old number
abbrev pub filed_count : Filed → ℕ → ℕ
filed_count (NotFiled number) old = old
filed_count (FiledAs new) old = new

-- the refusal's number; 0 where there is a current one
abbrev pub current_number : Current → ℕ
current_number (NoSheet number) = number
current_number (Sheet last) = 0

-- "the shelf gives the current one"; a refusal leaves the old number
abbrev pub current_sheet : Current → ℕ → ℕ
current_sheet (NoSheet number) old = old
current_sheet (Sheet last) old = last

-- The numbers tell the answers: two calls with the same number and the same value, where the old values were the same,
-- have answered the same.
abbrev pub FilingCallsTell : Type 0
FilingCallsTell = (list other : List ℕ) (count more named name old : ℕ)
    → filed_number (filing list count named) ≡ filed_number (filing other more name)
    → filed_count (filing list count named) old ≡ filed_count (filing other more name) old
    → filing list count named ≡ filing other more name

abbrev pub AskingCallsTell : Type 0
AskingCallsTell = (list other : List ℕ) (count more sheet asked old : ℕ)
    → current_number (asking list count sheet) ≡ current_number (asking other more asked)
    → current_sheet (asking list count sheet) old ≡ current_sheet (asking other more asked) old
    → asking list count sheet ≡ asking other more asked
