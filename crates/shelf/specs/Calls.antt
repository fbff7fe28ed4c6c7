-- Request 13: what the two calls answer, and the list that filing leaves. Assumes nothing.
use Rattle.std.specs.Prelude.{Bool, false, cond, List, ◌≡◌, ℕ, suc, eqb, set}
use Rattle.questions.specs.Questions.{first_no}
use Rattle.shelf.specs.Questions.{filing_questions, asking_questions}
use Rattle.shelf.specs.Shelf.{current}
use Rattle.shelf.specs.declared.answers.Current.{Current}
use Rattle.shelf.specs.declared.answers.Current.TheVariants.{Sheet, Refused as NoSheet}
use Rattle.shelf.specs.declared.answers.Filed.{Filed}
use Rattle.shelf.specs.declared.answers.Filed.TheVariants.{Filed as FiledAs, Refused as NotFiled}

-- the number by which filing is refused, or 0
abbrev pub filing_refusal : List ℕ → ℕ → ℕ → ℕ
filing_refusal list count named = first_no (filing_questions list count named)

-- "answers with the new count"
unfoldable pub filing : List ℕ → ℕ → ℕ → Filed
filing list count named =
    let number = filing_refusal list count named in cond (eqb number 0) (FiledAs (suc count)) (NotFiled number)

-- "Filing writes only the entry behind those filed"; a refusal writes nothing
unfoldable pub list_filed : List ℕ → ℕ → ℕ → List ℕ
list_filed list count named = cond (eqb (filing_refusal list count named) 0) (set list count named) list

-- the number by which asking is refused, or 0
abbrev pub asking_refusal : List ℕ → ℕ → ℕ → ℕ
asking_refusal list count sheet = first_no (asking_questions list count sheet)

-- "Asked for a sheet, the shelf gives the current one"
unfoldable pub asking : List ℕ → ℕ → ℕ → Current
asking list count sheet =
    let number = asking_refusal list count sheet in
    cond (eqb number 0) (Sheet (current list count sheet)) (NoSheet number)

-- "sheets whose current one was just replaced": whether the shelf's answer is the sheet named
abbrev pub gives : Current → ℕ → Bool
gives (NoSheet number) sheet = false
gives (Sheet last) sheet = eqb sheet last

-- a shelf begun with no sheet and only filed on
pub data OnlyFiledOn : List ℕ → ℕ → Type 0 where
  begun : {list : List ℕ} → OnlyFiledOn list 0
  filed_on : {list : List ℕ} {count : ℕ} (named new : ℕ) → OnlyFiledOn list count → filing list count named ≡ FiledAs new
      → OnlyFiledOn (list_filed list count named) new
