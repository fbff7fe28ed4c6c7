-- The numbers of the calls tell their answers. A refusal's number is none of those that stand for an answer.
-- Assumes nothing.
use mathlib.Core.Bool.{cond}
use mathlib.Core.List.{List}
use mathlib.Core.Logic.{⊎_elim}
use mathlib.Core.Option.{Option, none, some}
use mathlib.Core.Path.{◌≡◌, refl, sym, ap, ◌∙◌}
use Prim.Native.Nat.{ℕ, suc, ◌≤◌}
use borrow.Author.Tests.{ne_eqb}
use lib.Dec.{eqb}
use native.Mathlib.Omega.{arith}
use Rattle.check_simplices.specs.Simplices.{verdict}
use Rattle.checker.specs.Check.{check_answer, check_case, check_questions, listed_points}
use Rattle.checker.specs.declared.CheckAnswer.{CheckAnswer}
use Rattle.checker.specs.declared.CheckAnswer.TheVariants.{No, Refused, Yes}
use Rattle.combinatorics.proofs.Basics.{same_or}
use Rattle.finder.proofs.Numbers.{no_above}
use Rattle.game_labels.specs.Labelling.{labelled_of}
use Rattle.game_labels.specs.declared.Labelled.TheVariants.{Refused as NotLabelled, Written}
use Rattle.grid_points.specs.Grid.{Grid, num_points}
use Rattle.questions.specs.Questions.{first_no}
use Rattle.shelf.specs.Calls.{asking, asking_refusal, filing, filing_refusal}
use Rattle.shelf.specs.Shelf.{current}
use Rattle.shelf.specs.declared.answers.Current.TheVariants.{Refused as NoSheet, Sheet}
use Rattle.shelf.specs.declared.answers.Filed.TheVariants.{Filed as FiledAs, Refused as NotFiled}
use Rattle.exports.specs.Check.{CheckCallsTell, check_number}
use Rattle.exports.specs.Numbers.{LabelCallsTell, label_count, label_number}
use Rattle.exports.specs.Shelf.{AskingCallsTell, FilingCallsTell, current_number, current_sheet, filed_count}
use Rattle.exports.specs.Shelf.{filed_number}

-- the checker refuses by a number from 1 to 19, and blocks count from 1
data Proper : CheckAnswer → Type 0 where
  as_refusal : (n : ℕ) → 1 ≤ n → n ≤ 19 → Proper (Refused n)
  as_yes : (block : ℕ) → Proper (Yes (suc block))
  as_no : Proper No

proper_case : (o : Option ℕ) → Proper (check_case o)
proper_case none = as_no
proper_case (some j) = as_yes j

proper : (g : Grid) (labels numbers : List ℕ) → Proper (check_answer g labels numbers)
unfolding check_answer
proper g labels numbers =
    let n : ℕ = first_no (check_questions g labels numbers) in
    ⊎_elim
    (λ (z : n ≡ 0). rw z (proper_case (verdict g labels (listed_points g numbers))))
    (λ (z : n ≡ 0 → ⊥).
    let some_number : 1 ≤ n = omega arith in
    rw (ne_eqb n 0 z) (as_refusal n some_number (no_above 19 (check_questions g labels numbers) refl)))
    (same_or n 0)

tells : {a b : CheckAnswer} → Proper a → Proper b → check_number a ≡ check_number b → a ≡ b
tells (as_refusal n l h) (as_refusal m k i) e = rw e
tells (as_refusal n l h) (as_yes b) e = absurd (omega (arith, e))
tells (as_refusal n l h) as_no e = absurd (omega (arith, e))
tells (as_yes a) (as_refusal m k i) e = absurd (omega (arith, e))
tells (as_yes a) (as_yes b) e = let z : a ≡ b = omega (arith, e) in rw z
tells (as_yes a) as_no e = absurd (omega (arith, e))
tells as_no (as_refusal m k i) e = absurd (omega (arith, e))
tells as_no (as_yes b) e = absurd (omega (arith, e))
tells as_no as_no e = refl

pub check_calls_tell : CheckCallsTell
check_calls_tell g h labels others numbers more e =
    tells (proper g labels numbers) (proper h others more) e

-- An answer that is a value or a refusal: 0 and the value, or the refusal's number, tell it.
module _ {A : Type 0} (made refusal : ℕ → A) (number : A → ℕ) (value : A → ℕ → ℕ)
    (zero-made : (v : ℕ) → number (made v) ≡ 0) (as-refused : (n : ℕ) → number (refusal n) ≡ n)
    (as-made : (v old : ℕ) → value (made v) old ≡ v) where
  abbrev answer_by : ℕ → ℕ → A
  answer_by n v = cond (eqb n 0) (made v) (refusal n)

  value_tells : (n m v w old : ℕ) → number (answer_by n v) ≡ number (answer_by m w)
      → value (answer_by n v) old ≡ value (answer_by m w) old
      → answer_by n v ≡ answer_by m w
  value_tells n m v w old e f =
      ⊎_elim
      (λ (z : n ≡ 0). ⊎_elim
      (λ (y : m ≡ 0).
      let c : value (made v) old ≡ value (made w) old = rw (z, y) at f in
      rw (z, y) (ap made (sym (as-made v old) ∙ c ∙ as-made w old)))
      (λ (y : m ≡ 0 → ⊥).
      let c : number (made v) ≡ number (refusal m) = rw (z, ne_eqb m 0 y) at e in
      absurd (y (sym (as-refused m) ∙ sym c ∙ zero-made v)))
      (same_or m 0))
      (λ (z : n ≡ 0 → ⊥). ⊎_elim
      (λ (y : m ≡ 0).
      let c : number (refusal n) ≡ number (made w) = rw (ne_eqb n 0 z, y) at e in
      absurd (z (sym (as-refused n) ∙ c ∙ zero-made w)))
      (λ (y : m ≡ 0 → ⊥).
      let c : number (refusal n) ≡ number (refusal m) = rw (ne_eqb n 0 z, ne_eqb m 0 y) at e in
      rw (ne_eqb n 0 z, ne_eqb m 0 y) (ap refusal (sym (as-refused n) ∙ c ∙ as-refused m)))
      (same_or m 0))
      (same_or n 0)

pub label_calls_tell : LabelCallsTell
unfolding labelled_of
label_calls_tell g h questions others old = value_tells (λ v. Written v) (λ n. NotLabelled n) label_number label_count
    (λ v. refl) (λ n. refl) (λ v old. refl) (first_no questions) (first_no others) (num_points g) (num_points h) old

pub filing_calls_tell : FilingCallsTell
unfolding filing
filing_calls_tell list other count more named name old = value_tells (λ v. FiledAs v) (λ n. NotFiled n) filed_number
    filed_count (λ v. refl) (λ n. refl) (λ v old. refl) (filing_refusal list count named) (filing_refusal other more name)
    (suc count) (suc more) old

pub asking_calls_tell : AskingCallsTell
unfolding asking
asking_calls_tell list other count more sheet asked old = value_tells (λ v. Sheet v) (λ n. NoSheet n) current_number
    current_sheet (λ v. refl) (λ n. refl) (λ v old. refl) (asking_refusal list count sheet)
    (asking_refusal other more asked) (current list count sheet) (current other more asked) old
