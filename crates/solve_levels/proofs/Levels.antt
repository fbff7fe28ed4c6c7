-- Each level of a game that its questions let pass is a run of its own. Assumes nothing.
use mathlib.Core.Bool.{true, ◌&&◌}
use mathlib.Core.List.{◌++◌}
use mathlib.Core.Path.{◌≡◌, refl, sym, ◌∙◌}
use Prim.Native.Nat.{ℕ, ◌≤◌, ◌<◌}
use borrow.Author.Tests.{leb-true}
use lib.Dec.{leb}
use native.Mathlib.Omega.{arith}
use Rattle.combinatorics.proofs.Basics.{and_left, and_right}
use Rattle.grid_points.proofs.Accepted.{InLimits}
use Rattle.grid_points.specs.Grid.{is_grid_point}
use Rattle.grid_points.specs.Questions.{question5}
use Rattle.path_laws.proofs.Filled.{full_table}
use Rattle.path_laws.proofs.Theorem.{demand3_holds}
use Rattle.questions.proofs.Answers.{both_yes, first-yes}
use Rattle.questions.specs.Questions.{first_no}
use Rattle.refinement_levels.proofs.Starts.{full_ended, level_within}
use Rattle.refinement_levels.specs.Levels.{Refinement, level_grid}
use Rattle.solve_levels.proofs.Limits.{level_limits, limits_each, numbered_limits}
use Rattle.solve_levels.specs.Claims.{SolvedLevel}
use Rattle.solve_levels.specs.Questions.{later_questions, limit_questions, shape_questions, solve_question18}
use Rattle.solve_levels.specs.Questions.{solve_questions}

module _ (r : Refinement) (levels room : ℕ) (e : first_no (solve_questions r levels room) ≡ 0) where
  first : ((solve_question18 r.factor levels).answered_yes ≡ true)
      × (first_no (shape_questions r.grid ++ (limit_questions r.grid r.factor levels ++ later_questions r room))
      ≡ 0)
  first = first-yes (solve_question18 r.factor levels) _ (omega arith) e

  some : 1 ≤ r.factor
  some = omega (
    arith,
    leb-true 2 r.factor (and_left (leb 2 r.factor) _ (and_left (leb 2 r.factor && leb r.factor 10) _
        first.0)),
  )

  pub levels_some : 1 ≤ levels
  levels_some = leb-true 1 levels (and_left (leb 1 levels) (leb levels 16)
      (and_right (leb 2 r.factor && leb r.factor 10) (leb 1 levels && leb levels 16) first.0))

  shape : (first_no (shape_questions r.grid) ≡ 0)
      × (first_no (limit_questions r.grid r.factor levels ++ later_questions r room) ≡ 0)
  shape = both_yes (shape_questions r.grid) _ refl first.1

  limits : (first_no (limit_questions r.grid r.factor levels) ≡ 0) × (first_no (later_questions r room) ≡ 0)
  limits = both_yes (limit_questions r.grid r.factor levels) _ (numbered_limits r.grid r.factor some levels)
      shape.1

  within : (i : ℕ) → i < levels → InLimits (level_grid r i)
  within i h = level_limits r.grid r.factor i some shape.0
      (limits_each r.grid r.factor some levels limits.0 i h)

  on : is_grid_point r.grid r.start ≡ true
  on = (first-yes (question5 r.grid r.start) _ (omega arith) limits.1).0

  pub solved_level : (i : ℕ) → i < levels → SolvedLevel r i
  solved_level i h =
      let full = level_within r levels within on i h in
      let table = full_table full in
      let ended = full_ended full in
      record {
        table = table;
        demand3 = demand3_holds table;
        ended = ended;
        as_refined = λ budget l. ended.announces budget l ∙ sym ended.reaches;
      }
