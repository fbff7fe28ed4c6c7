-- What the answers of the two calls say of the questions, and the questions of the answers. Assumes nothing.
use mathlib.Core.Bool.{true, false, not, ◌&&◌}
use mathlib.Core.List.{List}
use mathlib.Core.Logic.{◌⊎◌, ⊎_elim}
use mathlib.Core.Path.{◌≡◌}
use Prim.Native.Nat.{ℕ, suc, ◌+◌, ◌≤◌, ◌<◌}
use borrow.Author.Tests.{eqb-true, le-leb, leb-true, lt-ltb, ltb-true, ne_eqb, not-true}
use lib.Dec.{eqb, leb, ltb}
use lib.ListN.{length, set}
use native.Mathlib.Numerals.{add-one}
use native.Mathlib.Omega.{arith}
use Rattle.combinatorics.proofs.Basics.{and_left, and_right, false_of, true_or_false}
use Rattle.questions.proofs.Answers.{first-yes}
use Rattle.questions.specs.Questions.{first_no}
use Rattle.shelf.proofs.Sheets.{Shelf, is_shelf_lem, shelf_of}
use Rattle.shelf.specs.Calls.{asking, filing, filing_refusal, list_filed}
use Rattle.shelf.specs.Questions.{question21, question22, question23_of_filing}
use Rattle.shelf.specs.Shelf.{current, is_replaced, is_shelf}
use Rattle.shelf.specs.declared.answers.Current.TheVariants.{Refused as NoSheet, Sheet}
use Rattle.shelf.specs.declared.answers.Filed.TheVariants.{Filed as FiledAs, Refused as NotFiled}

-- a sheet that may be filed
pub record MayFile (list : List ℕ) (count named : ℕ) : Type 0 where
  pub shelf : Shelf list count
  pub below : count < 1000
  pub place : count < length list
  pub on_shelf : named ≤ count
  pub unreplaced : is_replaced list count named ≡ false

module _ (list : List ℕ) (count named : ℕ) where
  pub may_file : filing_refusal list count named ≡ 0 → MayFile list count named
  may_file e =
      let a = first-yes (question21 list count) _ (omega arith) e in
      let b = first-yes (question22 list count) _ (omega arith) a.1 in
      let d = (first-yes (question23_of_filing list count named) _ (omega arith) b.1).0 in
      record {
        shelf = shelf_of list a.0;
        below = ltb-true count 1000 (and_left _ _ b.0);
        place = ltb-true count (length list) (and_right (ltb count 1000) _ b.0);
        on_shelf = leb-true named count (and_left _ _ d);
        unreplaced = not-true _ (and_right (leb named count) _ d);
      }

  accepted : {new : ℕ} → filing list count named ≡ FiledAs new
      → (filing_refusal list count named ≡ 0) × (new ≡ suc count)
  unfolding filing
  accepted {new} e =
      let number = filing_refusal list count named in
      ⊎_elim
      (λ (t : eqb number 0 ≡ true). let g : FiledAs (suc count) ≡ FiledAs new = rw t at e in (eqb-true number 0 t, cc))
      (λ (t : eqb number 0 ≡ false).
      let g : NotFiled number ≡ FiledAs new = rw t at e in
      let z : ◌≡◌ {A = ℕ} 0 1 = cc in
      absurd (omega arith))
      (true_or_false (eqb number 0))

  -- where filing answers with a count, the sheet may be filed, the count is one more, and the entry behind those filed
  -- is written
  pub filed_may : {new : ℕ} → filing list count named ≡ FiledAs new → MayFile list count named
  filed_may e = may_file (accepted e).0

  pub filed-count : {new : ℕ} → filing list count named ≡ FiledAs new → new ≡ suc count
  filed-count e = (accepted e).1

  pub filed-list : {new : ℕ} → filing list count named ≡ FiledAs new → list_filed list count named ≡ set list count named
  unfolding list_filed
  filed-list e = rw (accepted e).0

  -- the other way round: a refusal gives its number and leaves the list, and else the entry is written
  pub refuses : (number : ℕ) → 1 ≤ number → filing_refusal list count named ≡ number
      → (NotFiled number ≡ filing list count named) × (list ≡ list_filed list count named)
  unfolding filing list_filed
  refuses number h e = let n : eqb number 0 ≡ false = ne_eqb number 0 (λ z. omega arith) in (rw (e, n), rw (e, n))

  pub files : filing_refusal list count named ≡ 0
      → (FiledAs (count + 1) ≡ filing list count named) × (set list count named ≡ list_filed list count named)
  unfolding filing list_filed
  files e = (rw (e, add-one count), rw e)

  pub refusal_21 : is_shelf list count ≡ false → filing_refusal list count named ≡ 21
  unfolding first_no
  refusal_21 e = rw e

  module _ (passes : is_shelf list count ≡ true) where
    pub refusal_22 : (count ≡ 1000) ⊎ (count ≡ length list) → filing_refusal list count named ≡ 22
    unfolding first_no
    refusal_22 o =
        let e : (ltb count 1000 && ltb count (length list)) ≡ false =
        false_of _
        (λ t.
        let h = ltb-true count 1000 (and_left _ _ t) in
        let p = ltb-true count (length list) (and_right (ltb count 1000) _ t) in
        ⊎_elim (λ e. omega arith) (λ e. omega arith) o) in
        rw (passes, e)

    module _ (n : count ≡ 1000 → ⊥) (m : count ≡ length list → ⊥) where
      below : ltb count 1000 ≡ true
      below = lt-ltb count 1000 (omega (arith, (shelf_of list passes).few, n))

      place : ltb count (length list) ≡ true
      place = lt-ltb count (length list) (omega (arith, (shelf_of list passes).room, m))

      pub refusal_23 : (named ≤ count → is_replaced list count named ≡ false → ⊥) → filing_refusal list count named ≡ 23
      unfolding first_no
      refusal_23 f =
          let e : (leb named count && not (is_replaced list count named)) ≡ false =
          false_of _ (λ t. f (leb-true named count (and_left _ _ t)) (not-true _ (and_right (leb named count) _ t))) in
          rw (passes, below, place, e)

      pub no-refusal : named ≤ count → is_replaced list count named ≡ false → filing_refusal list count named ≡ 0
      unfolding first_no
      no-refusal l u = rw (passes, below, place, le-leb named count l, u)

module _ (list : List ℕ) (count sheet : ℕ) where
  pub asked-on : Shelf list count → 1 ≤ sheet → sheet ≤ count
      → asking list count sheet ≡ Sheet (current list count sheet)
  unfolding asking first_no
  asked-on f l h = rw (is_shelf_lem list f, le-leb 1 sheet l, le-leb sheet count h)

  pub asked_off : Shelf list count → (1 ≤ sheet → sheet ≤ count → ⊥) → asking list count sheet ≡ NoSheet 23
  unfolding asking first_no
  asked_off f n =
      let e : (leb 1 sheet && leb sheet count) ≡ false =
      false_of _ (λ t. n (leb-true 1 sheet (and_left _ _ t)) (leb-true sheet count (and_right (leb 1 sheet) _ t))) in
      rw (is_shelf_lem list f, e)
