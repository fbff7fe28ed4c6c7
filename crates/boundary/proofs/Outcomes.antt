-- What each outcome of the questions makes of the answer and of the buffer, and what a call has written. Assumes
-- nothing.
use mathlib.Core.Bool.{true, false}
use mathlib.Core.List.{List}
use mathlib.Core.Logic.{⊎_elim}
use mathlib.Core.Path.{◌≡◌, refl, sym, ◌∙◌}
use Prim.Native.Nat.{ℕ}
use borrow.Author.Tests.{eq-eqb, eqb-true, ne_eqb}
use lib.Dec.{eqb, leb}
use lib.ListN.{length}
use native.Mathlib.Omega.{arith}
use Rattle.combinatorics.proofs.Basics.{absurd_bool, true_or_false}
use Rattle.combinatorics.specs.Lists.{all}
use Rattle.questions.proofs.Answers.{asked-next, both_yes, first-yes}
use Rattle.questions.specs.Questions.{Question, first_no}
use Rattle.grid_points.specs.Grid.{Grid, num_indices, num_points, lent}
use Rattle.grid_points.specs.Questions.{grid_questions}
use Rattle.place.specs.Questions.{question6, question7}
use Rattle.check_simplices.specs.Simplices.{labelled_by}
use Rattle.game_labels.specs.Labelling.{labelled_of}
use Rattle.game_labels.specs.declared.Labelled.TheVariants.{Refused, Written}
use Rattle.boundary_labels.specs.Boundary.{boundary_table}
use Rattle.boundary.specs.Call.{boundary_answer, boundary_buffer, boundary_questions, table_or_old, lent_questions}

module _ (g : Grid) (questions : List Question) (old buffer : List ℕ) where
  pub refused : (n : ℕ) → (n ≡ 0 → ⊥) → first_no questions ≡ n
      → (Refused n ≡ labelled_of g questions) × (buffer ≡ table_or_old g questions old buffer)
  unfolding labelled_of table_or_old
  refused n h e = (rw (e, ne_eqb n 0 h), rw (e, ne_eqb n 0 h))

  pub accepted : first_no questions ≡ 0
      → (Written (num_points g) ≡ labelled_of g questions) × (boundary_table g old ≡ table_or_old g questions old buffer)
  unfolding labelled_of table_or_old
  accepted e = (rw e, rw e)

-- questions 6, 7 and 12, behind a grid that is accepted
module _ (g : Grid) (old buffer : List ℕ) (a : first_no (grid_questions g) ≡ 0) where
  rest : first_no (boundary_questions g old buffer) ≡ first_no (lent_questions g old buffer)
  rest = asked-next (grid_questions g) (lent_questions g old buffer) refl a

  pub asked6 : (length old ≡ num_points g → ⊥) → first_no (boundary_questions g old buffer) ≡ 6
  unfolding first_no
  asked6 h = rest ∙ rw (ne_eqb _ _ h)

  module _ (e : length old ≡ num_points g) where
    pub asked7 : all (λ l. leb l (num_indices g)) old ≡ false → first_no (boundary_questions g old buffer) ≡ 7
    unfolding first_no
    asked7 h = rest ∙ rw (eq-eqb _ _ e, h)

    pub asked12 : all (λ l. leb l (num_indices g)) old ≡ true → (length buffer ≡ num_points g → ⊥)
        → first_no (boundary_questions g old buffer) ≡ 12
    unfolding first_no
    asked12 h n = rest ∙ rw (eq-eqb _ _ e, h, ne_eqb _ _ n)

    pub asked-all : all (λ l. leb l (num_indices g)) old ≡ true → length buffer ≡ num_points g
        → first_no (boundary_questions g old buffer) ≡ 0
    unfolding first_no
    asked-all h n = rest ∙ rw (eq-eqb _ _ e, h, eq-eqb _ _ n)

-- what a call has written: on an accepted grid and of a table that is accepted, the new table
pub record Wrote (g : Grid) (old written : List ℕ) (count : ℕ) : Type 0 where
  pub grid : first_no (grid_questions g) ≡ 0
  pub long : length old ≡ num_points g
  pub range : all (λ l. leb l (num_indices g)) old ≡ true
  pub bytes : count ≡ num_points g
  pub table : written ≡ boundary_table g old

pub call_wrote : (sizes divisions old buffer : List ℕ) (count : ℕ)
    → boundary_answer sizes divisions old buffer ≡ Written count
    → Wrote (lent sizes divisions) old (boundary_buffer sizes divisions old buffer) count
unfolding labelled_of table_or_old
call_wrote sizes divisions old buffer count e =
    let g = lent sizes divisions in
    let number : ℕ = first_no (boundary_questions g old buffer) in
    ⊎_elim
    (λ (t : eqb number 0 ≡ true).
    let w : Written (num_points g) ≡ Written count = rw t at e in
    let n : num_points g ≡ count = cc in
    let q = both_yes (grid_questions g) (lent_questions g old buffer) refl (eqb-true number 0 t) in
    let q6 = first-yes (question6 (labelled_by g old)) _ (omega arith) q.1 in
    let q7 = first-yes (question7 (labelled_by g old)) _ (omega arith) q6.1 in
    record { grid = q.0; long = eqb-true _ _ q6.0; range = q7.0; bytes = sym n; table = rw t })
    (λ (f : eqb number 0 ≡ false). let w : Refused number ≡ Written count = rw f at e in absurd_bool (cc))
    (true_or_false (eqb number 0))
