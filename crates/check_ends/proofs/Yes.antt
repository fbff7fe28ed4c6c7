-- What a yes of the checker tells: all questions are answered yes, and the verdict on the points listed, of which there
-- is one at least, names the block. Assumes nothing.
use mathlib.Core.Bool.{true, ◌&&◌}
use mathlib.Core.List.{List, []}
use mathlib.Core.Logic.{⊎_elim}
use mathlib.Core.Option.{Option, none, some}
use mathlib.Core.Path.{◌≡◌, refl, ◌∙◌}
use Prim.Native.Nat.{ℕ, zero, suc, ◌*◌, ◌≤◌}
use borrow.Author.Tests.{eqb-true, leb-true, ne_eqb}
use lib.Dec.{eqb, leb}
use lib.ListN.{length, length-map}
use native.Mathlib.Omega.{arith}
use Rattle.check_chains.specs.Listed.{listed_at}
use Rattle.check_simplices.specs.Simplices.{labelled_by, verdict}
use Rattle.checker.specs.Check.{check_answer, check_case, check_questions, list_questions, listed_points, question19}
use Rattle.checker.specs.Check.{whole_points}
use Rattle.checker.specs.declared.CheckAnswer.TheVariants.{Refused, Yes}
use Rattle.combinatorics.proofs.Basics.{absurd_bool, and_left, and_right, same_or}
use Rattle.combinatorics.proofs.Ranges.{length-up_from}
use Rattle.combinatorics.specs.Lists.{up_from}
use Rattle.grid_points.specs.Grid.{Grid, dimension, num_indices}
use Rattle.grid_points.specs.Questions.{grid_questions}
use Rattle.place.specs.Questions.{question6, question7}
use Rattle.questions.proofs.Answers.{both_yes, first-yes}
use Rattle.questions.specs.Questions.{first_no}

pub record YesTold (g : Grid) (labels numbers : List ℕ) (block : ℕ) : Type 0 where
  pub grid : first_no (grid_questions g) ≡ 0
  pub nonempty : 1 ≤ length (listed_points g numbers)
  pub named : ℕ
  pub counted : block ≡ suc named
  pub said : verdict g labels (listed_points g numbers) ≡ some named

case_yes : (o : Option ℕ) (block : ℕ) → check_case o ≡ Yes block → (j : ℕ) × (block ≡ suc j) × (o ≡ some j)
case_yes none block e = absurd_bool (cc)
case_yes (some j) block e = (j, (cc), refl)

some-points : (g : Grid) (numbers : List ℕ) → (question19 g numbers).answered_yes ≡ true
    → 1 ≤ length (listed_points g numbers)
some-points g numbers q =
    let w = whole_points g numbers in
    let one = leb 1 (length numbers) in
    let whole = eqb (w * num_indices g) (length numbers) in
    let ab = and_left (one && whole) _ (and_left (one && whole && leb w (suc (dimension g))) _ q) in
    let a = and_left one whole ab in
    let b = and_right one whole ab in
    let many : length (listed_points g numbers) ≡ w =
    length-map (up_from 0 w) (listed_at (num_indices g) numbers) ∙ length-up_from 0 w in
    go w (eqb-true (w * num_indices g) (length numbers) b) (leb-true 1 (length numbers) a) many
  where
    go : (w : ℕ) → w * num_indices g ≡ length numbers → 1 ≤ length numbers → length (listed_points g numbers) ≡ w
        → 1 ≤ length (listed_points g numbers)
    go zero e h m = absurd (omega arith)
    go (suc w) e h m = omega arith

pub yes_told : (g : Grid) (labels numbers : List ℕ) (block : ℕ) → check_answer g labels numbers ≡ Yes block
    → YesTold g labels numbers block
unfolding check_answer
yes_told g labels numbers block e =
    let n : ℕ = first_no (check_questions g labels numbers) in
    ⊎_elim
    (λ (z : n ≡ 0).
    let q = both_yes (grid_questions g) (list_questions g labels numbers) refl z in
    let six = first-yes (question6 (labelled_by g labels)) _ (omega arith) q.1 in
    let seven = first-yes (question7 (labelled_by g labels)) _ (omega arith) six.1 in
    let nineteen = first-yes (question19 g numbers) [] (omega arith) seven.1 in
    let c = case_yes (verdict g labels (listed_points g numbers)) block (rw z at e) in
    record {
      grid = q.0;
      nonempty = some-points g numbers nineteen.0;
      named = c.0;
      counted = c.1;
      said = c.2;
    })
    (λ (z : n ≡ 0 → ⊥). let w : Refused n ≡ Yes block = rw (ne_eqb n 0 z) at e in absurd_bool (cc))
    (same_or n 0)
