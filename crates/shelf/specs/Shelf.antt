-- Request 13, "Sheets that replace sheets": a shelf, the sheet that replaces a sheet, and the current one. A shelf is
-- "a lent list of 16-bit numbers, one for each sheet, lent with the count of sheets filed"; what stands in the list
-- behind the count is no sheet. Assumes nothing.
use Rattle.std.specs.Prelude.{Bool, true, false, not, ◌&&◌, List, [], ◌∷◌, ◌≡◌, ℕ, zero, suc, ◌≤◌, eqb, leb, ltb, length, get_or}
use Rattle.combinatorics.specs.Lists.{all, any, filter, first_or}

-- "numbered from 1 as filed": the sheets of a shelf, the last one first
abbrev pub sheets : ℕ → List ℕ
sheets zero = []
sheets (suc k) = suc k ∷ sheets k

-- "one for each sheet": a sheet's entry; there is no sheet 0
abbrev pub entry : List ℕ → ℕ → ℕ
entry list zero = 0
entry list (suc k) = get_or list k 0

-- "A sheet's entry names the one earlier sheet that it replaces, 0 naming none"
unfoldable pub names : List ℕ → ℕ → ℕ → Bool
names list later sheet = leb 1 sheet && eqb (entry list later) sheet

-- "already replaced": one of the sheets filed names it
unfoldable pub is_replaced : List ℕ → ℕ → ℕ → Bool
is_replaced list count sheet = any (λ later. names list later sheet) (sheets count)

-- not "a sheet naming itself, a later one, or one named before"
unfoldable pub names_rightly : List ℕ → ℕ → Bool
names_rightly list zero = false
names_rightly list (suc before) =
    let named = entry list (suc before) in ltb named (suc before) && not (is_replaced list before named)

-- not "more than 1,000 sheets or more than its list has entries, or a sheet naming itself, a later one, or one
-- named before"
unfoldable pub is_shelf : List ℕ → ℕ → Bool
is_shelf list count = leb count 1000 && (leb count (length list) && all (names_rightly list) (sheets count))

-- "its replacement": the sheet that names it; the sheet itself where none does
unfoldable pub replacement : List ℕ → ℕ → ℕ → ℕ
replacement list count sheet = first_or sheet (filter (λ later. names list later sheet) (sheets count))

-- "going from each to its replacement", so many times
unfoldable pub go_to_replacement : ℕ → List ℕ → ℕ → ℕ → ℕ
go_to_replacement zero list count sheet = sheet
go_to_replacement (suc times) list count sheet = go_to_replacement times list count (replacement list count sheet)

-- "the current one, reached by going from each to its replacement": there are no more to go to than sheets
unfoldable pub current : List ℕ → ℕ → ℕ → ℕ
current list count sheet = go_to_replacement count list count sheet

-- a sheet of a shelf that question 21 lets pass
pub record OnShelf (list : List ℕ) (count sheet : ℕ) : Type 0 where
  pub passes : is_shelf list count ≡ true
  pub numbered : 1 ≤ sheet
  pub filed : sheet ≤ count

-- a sheet filed that names a sheet
pub record Replaces (list : List ℕ) (count later sheet : ℕ) : Type 0 where
  pub numbered : 1 ≤ later
  pub filed : later ≤ count
  pub aSheet : 1 ≤ sheet
  pub named : entry list later ≡ sheet

-- what is "reached by going from each to its replacement", without counting the times
pub data Reached (list : List ℕ) (count : ℕ) : ℕ → ℕ → Type 0 where
  here : {sheet : ℕ} → Reached list count sheet sheet
  onward : {sheet last : ℕ} (later : ℕ) → Replaces list count later sheet → Reached list count later last
      → Reached list count sheet last

-- what is reached from a sheet and named by none
pub record IsCurrent (list : List ℕ) (count sheet last : ℕ) : Type 0 where
  pub reached : Reached list count sheet last
  pub unnamed : is_replaced list count last ≡ false
