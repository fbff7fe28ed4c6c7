-- Request 13: what holds of every shelf that question 21 lets pass, in the customer's sentences. Assumes nothing.
use Rattle.std.specs.Prelude.{true, ◌||◌, cond, List, ◌⊎◌, ◌↔◌, ◌≡◌, ℕ, suc, ◌≤◌, ◌<◌, eqb}
use Rattle.shelf.specs.Calls.{asking, asking_refusal, filing_refusal, gives, list_filed}
use Rattle.shelf.specs.Shelf.{IsCurrent, OnShelf, Reached, Replaces, current, is_shelf}
use Rattle.shelf.specs.declared.answers.Current.TheVariants.{Sheet}

-- of a sheet on the shelf
pub record HasCurrent (list : List ℕ) (count sheet : ℕ) : Type 0 where
  -- "its replacement" is one at most, and later
  pub later : (k : ℕ) → Replaces list count k sheet → sheet < k
  pub once : (j k : ℕ) → Replaces list count j sheet → Replaces list count k sheet → j ≡ k
  -- "Asked for a sheet, the shelf gives the current one, reached by going from each to its replacement. It always
  -- exists": it is reached and named by none, and no other sheet is; it stands on the shelf, and not before the one
  -- asked for
  pub given : asking list count sheet ≡ Sheet (current list count sheet)
  pub exists : IsCurrent list count sheet (current list count sheet)
  pub only : (last : ℕ) → IsCurrent list count sheet last → last ≡ current list count sheet
  pub on_shelf : OnShelf list count (current list count sheet)
  pub not_before : sheet ≤ current list count sheet
  -- replacements are lines and never trees: two sheets have the same current one exactly if one is reached from
  -- the other
  pub line : (other : ℕ) → OnShelf list count other
      → (current list count sheet ≡ current list count other)
      ↔ (Reached list count sheet other ⊎ Reached list count other sheet)

-- of a filing that answers with the count `new`
pub record AfterFiling (list : List ℕ) (count named new : ℕ) : Type 0 where
  -- "answers with the new count"
  pub counted : new ≡ suc count
  -- what question 21 let pass it lets pass again
  pub kept : is_shelf (list_filed list count named) new ≡ true
  -- of every sheet, the new one too: its current one is the new sheet, if it is the new sheet or its current one is
  -- named; else what it was
  pub currents : (sheet : ℕ) → 1 ≤ sheet → sheet ≤ new
      → current (list_filed list count named) new sheet
      ≡ cond (eqb sheet new || eqb named (current list count sheet)) new (current list count sheet)
  -- "filing a sheet changes the answer only for itself and for sheets whose current one was just replaced", of every
  -- number, on the shelf or not
  pub answers : (sheet : ℕ)
      → asking (list_filed list count named) new sheet
      ≡ cond (eqb sheet new || gives (asking list count sheet) named) (Sheet new) (asking list count sheet)

-- of a shelf that meets 21 in no call
pub record Never21 (list : List ℕ) (count : ℕ) : Type 0 where
  pub passes : is_shelf list count ≡ true
  pub files : (named : ℕ) → filing_refusal list count named ≡ 21 → ⊥
  pub asks : (sheet : ℕ) → asking_refusal list count sheet ≡ 21 → ⊥
