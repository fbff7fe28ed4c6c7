-- The checker's answer, by its parts: a refusal of the grid, a refusal of table or list, the verdict. Assumes nothing.
use mathlib.Core.Bool.{true, false, cond, ◌&&◌}
use mathlib.Core.List.{List, [], ◌∷◌}
use mathlib.Core.Option.{none}
use mathlib.Core.Path.{◌≡◌, refl, sym, ◌∙◌}
use Prim.Native.Nat.{ℕ, zero, suc, ◌*◌, ◌/◌, ◌≤◌}
use borrow.Author.Tests.{eqb-true, leb-true, ne_eqb}
use lib.Dec.{eqb, leb}
use lib.ListN.{length, length-map}
use native.Mathlib.Omega.{arith}
use Rattle.combinatorics.proofs.Basics.{and_left, and_right}
use Rattle.combinatorics.proofs.Ranges.{length-up_from}
use Rattle.combinatorics.specs.Lists.{all, up_from}
use Rattle.questions.proofs.Answers.{asked-next, asked-no, first-yes}
use Rattle.questions.specs.Questions.{first_no}
use Rattle.grid.proofs.Fields.{made-accepted, made-indices}
use Rattle.grid_points.proofs.CoordinatesBelow.{in_limits}
use Rattle.grid_points.specs.Grid.{Grid, dimension, is_grid_point, num_indices}
use Rattle.grid.specs.Made.{IsMade, shape}
use Rattle.grid_points.specs.Questions.{grid_questions}
use Rattle.grid.specs.declared.Grid.{Grid as GridStruct}
use Rattle.place.specs.Questions.{question6, question7}
use Rattle.check_simplices.proofs.Answers.{answer_by_test}
use Rattle.check_simplices.specs.Chains.{one_chain}
use Rattle.place.specs.Ends.{complete_for}
use Rattle.check_simplices.specs.Simplices.{first_of, labelled_by, verdict}
use Rattle.check_chains.specs.Listed.{listed, listed_at, Listed}
use Rattle.checker.proofs.Covering.{whole_is}
use Rattle.checker.proofs.ListRefusals.{most-few}
use Rattle.checker.specs.Check.{question19, whole_points, listed_points, list_questions, check_case, check_answer}
use Rattle.checker.specs.Covered.{IsCovered, Labelled, first_whole}
use Rattle.checker.specs.declared.CheckAnswer.TheVariants.{Refused}

-- the verdict, by the test and the covered indices
module _ {s : GridStruct} {count : ℕ} {numbers : List ℕ} (L : Listed s count numbers) (some : 1 ≤ count)
    (labels : List ℕ) where
  by_test : verdict (shape s) labels (listed s.indices count numbers)
      ≡ cond (one_chain (shape s) (listed s.indices count numbers))
      (first_of (complete_for (labelled_by (shape s) labels) (listed s.indices count numbers))) none
  by_test = answer_by_test (in_limits (shape s) (made-accepted s L.has.made)) (listed s.indices count numbers)
      L.on_grid
      (omega (arith, length-map (up_from 0 count) (listed_at s.indices numbers), length-up_from 0 count)) labels

  pub verdict-no : one_chain (shape s) (listed s.indices count numbers) ≡ false
      → none ≡ verdict (shape s) labels (listed s.indices count numbers)
  verdict-no e = sym (by_test ∙ rw e)

  pub verdict_covered : (covered : ℕ) → one_chain (shape s) (listed s.indices count numbers) ≡ true
      → IsCovered (shape s) labels (listed s.indices count numbers) covered
      → first_whole (shape s) covered ≡ verdict (shape s) labels (listed s.indices count numbers)
  verdict_covered covered e C =
      sym (by_test ∙ rw (e, whole_is (shape s) labels (listed s.indices count numbers) covered C))

-- the answer on every input
module _ (g : Grid) (labels numbers : List ℕ) where
  pub refused-grid : (n : ℕ) → (n ≡ 0 → ⊥) → n ≡ first_no (grid_questions g) → Refused n ≡ check_answer g labels numbers
  unfolding check_answer
  refused-grid n z e =
      let q = asked-no (grid_questions g) (list_questions g labels numbers) n z (sym e) in
      rw (q, ne_eqb n 0 z)

  module _ (accepted : first_no (grid_questions g) ≡ 0) where
    pub refused-list : (n : ℕ) → (n ≡ 0 → ⊥) → n ≡ first_no (list_questions g labels numbers)
        → Refused n ≡ check_answer g labels numbers
    unfolding check_answer
    refused-list n z e =
        let q = asked-next (grid_questions g) (list_questions g labels numbers) refl accepted ∙ sym e in
        rw (q, ne_eqb n 0 z)

    pub judged_is : first_no (list_questions g labels numbers) ≡ 0
        → check_case (verdict g labels (listed_points g numbers)) ≡ check_answer g labels numbers
    unfolding check_answer
    judged_is e = let q = asked-next (grid_questions g) (list_questions g labels numbers) refl accepted ∙ e in rw q

-- what holds where questions 6, 7 and 19 are answered yes
module _ (s : GridStruct) (made : IsMade s) (labels numbers : List ℕ)
    (none-no : first_no (list_questions (shape s) labels numbers) ≡ 0) where
  after-six : ((question6 (labelled_by (shape s) labels)).answered_yes ≡ true)
      × (first_no (question7 (labelled_by (shape s) labels) ∷ question19 (shape s) numbers ∷ []) ≡ 0)
  after-six = first-yes (question6 (labelled_by (shape s) labels)) _ (omega arith) none-no

  after_seven : ((question7 (labelled_by (shape s) labels)).answered_yes ≡ true)
      × (first_no (question19 (shape s) numbers ∷ []) ≡ 0)
  after_seven = first-yes (question7 (labelled_by (shape s) labels)) _ (omega arith) after-six.1

  yes : (question19 (shape s) numbers).answered_yes ≡ true
  yes = (first-yes (question19 (shape s) numbers) [] (omega arith) after_seven.1).0

  pub passed_labels : Labelled s labels
  passed_labels = record { whole = eqb-true _ _ after-six.0; within = after_seven.0 }

  pub passed_list : Listed s (length numbers / s.indices) numbers × (1 ≤ length numbers / s.indices)
  passed_list =
      let w = whole_points (shape s) numbers in
      let a = leb 1 (length numbers) in
      let b = eqb (w * num_indices (shape s)) (length numbers) in
      let few = leb w (suc (dimension (shape s))) in
      let points = all (is_grid_point (shape s)) (listed_points (shape s) numbers) in
      let first : (a && b && few) ≡ true = and_left (a && b && few) points yes in
      let some = leb-true 1 (length numbers) (and_left a b (and_left (a && b) few first)) in
      let whole = eqb-true (w * num_indices (shape s)) (length numbers) (and_right a b (and_left (a && b) few first)) in
      let most = leb-true w (suc (dimension (shape s))) (and_right (a && b) few first) in
      let m = made-indices s made in
      let here : length numbers / s.indices * s.indices ≡ length numbers = rw (← m) at whole in (
        record {
          has = record { made = made; few = omega (arith, most-few s made, rw (← m) at most); whole = omega arith };
          on_grid = rw (← m) at (and_right (a && b && few) points yes);
        },
        some-whole (length numbers / s.indices) s.indices (length numbers) here some,
      )
    where
      some-whole : (k m n : ℕ) → k * m ≡ n → 1 ≤ n → 1 ≤ k
      some-whole zero m n e l = omega arith
      some-whole (suc k) m n e l = omega arith
