-- The checker's answer does not depend on the order of the points. Assumes nothing.
use mathlib.Core.Bool.{Bool, true, ◌&&◌, cond}
use mathlib.Core.List.{List, [], ◌∷◌, ◌++◌}
use mathlib.Core.Logic.{⊎_elim}
use mathlib.Core.Option.{Option}
use mathlib.Core.Path.{◌≡◌, refl, sym, ap, ◌∙◌}
use Prim.Native.Nat.{ℕ, suc, ◌*◌, ◌/◌}
use borrow.Author.Tests.{ne_eqb}
use lib.Dec.{eqb, leb}
use lib.ListN.{length, length-map}
use native.Mathlib.Omega.{arith}
use Rattle.check_chains.specs.Listed.{listed_at}
use Rattle.check_simplices.proofs.Answers.{order-free}
use Rattle.check_simplices.specs.Simplices.{labelled_by, verdict}
use Rattle.checker.specs.Check.{check_answer, check_case, check_questions, list_questions, listed_points, question19}
use Rattle.checker.specs.Check.{whole_points}
use Rattle.checker.specs.declared.CheckAnswer.TheVariants.{Refused}
use Rattle.combinatorics.proofs.Basics.{both, same_or}
use Rattle.combinatorics.proofs.Lists.{all_in, in_all}
use Rattle.combinatorics.proofs.Ranges.{length-up_from}
use Rattle.combinatorics.specs.Lists.{all, up_from}
use Rattle.grid_points.proofs.Accepted.{accepted}
use Rattle.grid_points.proofs.CoordinatesBelow.{in_limits}
use Rattle.grid_points.proofs.Points.{on_points}
use Rattle.grid_points.specs.Grid.{Grid, dimension, is_grid_point, num_indices}
use Rattle.grid_points.specs.Questions.{grid_questions}
use Rattle.path_laws.specs.Demand.{SamePoints}
use Rattle.place.specs.Questions.{question6, question7}
use Rattle.questions.proofs.Answers.{both_yes}
use Rattle.questions.specs.Questions.{Question, ask, first_no}
use Rattle.check_ends.specs.AnyOrder.{AnyOrder}

module _ (g : Grid) (labels a b : List ℕ) (long : length a ≡ length b)
    (same : SamePoints (listed_points g a) (listed_points g b)) where
  as_many : length (listed_points g a) ≡ length (listed_points g b)
  as_many =
      let many : (l : List ℕ) → length (listed_points g l) ≡ whole_points g l = λ l.
      length-map (up_from 0 (whole_points g l)) (listed_at (num_indices g) l) ∙ length-up_from 0 (whole_points g l) in
      many a ∙ ap (λ (n : ℕ). n / num_indices g) long ∙ sym (many b)

  on-grid : all (is_grid_point g) (listed_points g a) ≡ all (is_grid_point g) (listed_points g b)
  on-grid = both _ _
      (λ h. in_all on_points (is_grid_point g) (listed_points g b)
      (λ z m. all_in on_points (is_grid_point g) (listed_points g a) h z (same z ∙ m)))
      (λ h. in_all on_points (is_grid_point g) (listed_points g a)
      (λ z m. all_in on_points (is_grid_point g) (listed_points g b) h z (sym (same z) ∙ m)))

  -- they are asked alike
  same_question : question19 g a ≡ question19 g b
  same_question = asked (length a) (length b) long _ _ on-grid
    where
      asked : (m n : ℕ) → m ≡ n → (s t : Bool) → s ≡ t
          → ◌≡◌ {A = Question}
          (ask 19 (leb 1 m && eqb (m / num_indices g * num_indices g) m && leb (m / num_indices g) (suc (dimension g)) &&
          s))
          (ask 19 (leb 1 n && eqb (n / num_indices g * num_indices g) n && leb (n / num_indices g) (suc (dimension g)) &&
          t))
      asked m n e s t f = rw (e, f)

  same-questions : check_questions g labels a ≡ check_questions g labels b
  same-questions = ap
      (λ (q : Question). grid_questions g
      ++ (question6 (labelled_by g labels) ∷ question7 (labelled_by g labels) ∷ q ∷ []))
      same_question

  same_answer : check_answer g labels a ≡ check_answer g labels b
  unfolding check_answer
  same_answer =
      let n : ℕ = first_no (check_questions g labels a) in
      let e : first_no (check_questions g labels b) ≡ n = ap first_no (sym same-questions) in
      ⊎_elim
      (λ (z : n ≡ 0).
      let ok = accepted g (both_yes (grid_questions g) (list_questions g labels a) refl z).0 in
      rw (e, z) (ap check_case (order-free (in_limits g ok) labels (listed_points g a) (listed_points g b) same as_many)))
      (λ (z : n ≡ 0 → ⊥). rw (e, ne_eqb n 0 z))
      (same_or n 0)

pub any_order : AnyOrder
any_order = same_answer
