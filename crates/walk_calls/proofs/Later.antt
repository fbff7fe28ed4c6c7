-- Questions 5 to 7 one after another, and behind questions 1 to 4. Assumes nothing.
use mathlib.Core.Bool.{true, false}
use mathlib.Core.List.{List}
use mathlib.Core.Path.{◌≡◌, refl, sym, ap, ◌∙◌}
use Prim.Native.Nat.{ℕ}
use borrow.Author.Tests.{eq-eqb, ne_eqb}
use lib.Dec.{leb}
use lib.ListN.{length, take}
use Rattle.combinatorics.specs.Lists.{all}
use Rattle.grid.proofs.Fields.{made-indices}
use Rattle.grid_points.specs.Grid.{is_grid_point, num_indices, num_points}
use Rattle.grid.specs.Made.{IsMade, shape}
use Rattle.grid_points.specs.Questions.{grid_questions}
use Rattle.grid.specs.declared.Grid.{Grid as GridStruct}
use Rattle.marks.specs.Reading.{problem_from}
use Rattle.place.specs.Questions.{table_questions}
use Rattle.questions.proofs.Answers.{asked-next}
use Rattle.questions.specs.Questions.{first_no}
use Rattle.walk_places.specs.Walks.{table_on}
use Rattle.walk_places.specs.declared.Walk.{Walk as WalkStruct}
use Rattle.walk_calls.specs.Asked.{later_walk_questions}

module _ (g : GridStruct) (start labels : List ℕ) where
  pub no_start : is_grid_point (shape g) start ≡ false → 5 ≡ first_no (later_walk_questions g start labels)
  unfolding first_no
  no_start f = rw f

  module _ (on : is_grid_point (shape g) start ≡ true) where
    pub no_length : (length labels ≡ num_points (shape g) → ⊥) → 6 ≡ first_no (later_walk_questions g start labels)
    unfolding first_no
    no_length n = rw (on, ne_eqb (length labels) (num_points (shape g)) n)

    module _ (long : length labels ≡ num_points (shape g)) where
      pub no_label : all (λ l. leb l (num_indices (shape g))) labels ≡ false
          → 7 ≡ first_no (later_walk_questions g start labels)
      unfolding first_no
      no_label f = rw (on, eq-eqb (length labels) (num_points (shape g)) long, f)

      pub no_question : all (λ l. leb l (num_indices (shape g))) labels ≡ true
          → ◌≡◌ {A = ℕ} 0 (first_no (later_walk_questions g start labels))
      unfolding first_no
      no_question f = rw (on, eq-eqb (length labels) (num_points (shape g)) long, f)

  pub behind_four : first_no (grid_questions (shape g)) ≡ 0
      → first_no (table_questions (problem_from g start labels)) ≡ first_no (later_walk_questions g start labels)
  behind_four e = asked-next (grid_questions (shape g)) (later_walk_questions g start labels) refl e

-- of a walk's start, on a grid that is made
pub walk-asked : (g : GridStruct) (w : WalkStruct) (labels : List ℕ) → IsMade g
    → first_no (table_questions (table_on g w labels))
    ≡ first_no (later_walk_questions g (take g.indices w.start) labels)
walk-asked g w labels made =
    behind_four g (take (num_indices (shape g)) w.start) labels made.accepted
    ∙ ap (λ (m : ℕ). first_no (later_walk_questions g (take m w.start) labels)) (sym (made-indices g made))
