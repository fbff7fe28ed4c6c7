-- Every end that a run announces on the table that a call has written is a place end. Assumes nothing.
use mathlib.Core.Bool.{true}
use mathlib.Core.List.{List, [], ◌∷◌}
use mathlib.Core.Path.{◌≡◌, refl, ◌∙◌}
use Prim.Native.Nat.{ℕ}
use lib.ListN.{get_or}
use Rattle.end_kinds.specs.declared.Kind.{Kind}
use Rattle.end_kinds.specs.declared.Kind.TheVariants.{Place as place_end}
use Rattle.path_laws.proofs.Accepted.{accepted_of}
use Rattle.questions.proofs.Answers.{asked-next}
use Rattle.questions.specs.Questions.{first_no}
use Rattle.grid_points.proofs.Accepted.{accepted}
use Rattle.grid_points.proofs.CoordinatesBelow.{in_limits}
use Rattle.grid_points.specs.Grid.{Point, points, lent}
use Rattle.grid_points.specs.Questions.{question5}
use Rattle.place.specs.Problem.{Problem, problem_of}
use Rattle.place.specs.Questions.{question8, table_questions}
use Rattle.check_simplices.proofs.Tests.{has-start_with}
use Rattle.finder.proofs.Told.{end_told, unknown_told}
use Rattle.finder.specs.Run.{run_answer, run_refusal}
use Rattle.finder.specs.declared.answers.RunAnswer.TheVariants.{End, Unknown}
use Rattle.game_labels.specs.declared.Labelled.TheVariants.{Written}
use Rattle.boundary_labels.proofs.Ends.{accepted-again, over-new-table}
use Rattle.boundary_labels.specs.Boundary.{is_interior}
use Rattle.boundary_labels.specs.Claims.{AcceptedAgain, OverNewTable}
use Rattle.boundary.proofs.Outcomes.{Wrote, call_wrote}
use Rattle.boundary.specs.Call.{boundary_answer, boundary_buffer}
use Rattle.boundary.specs.Runs.{CallsLeadToPlaceEnds}

module _ (sizes divisions old buffer : List ℕ) (count : ℕ)
    (e : boundary_answer sizes divisions old buffer ≡ Written count) (start : Point) (room : ℕ) where
  abbrev p : Problem
  p = problem_of sizes divisions start (boundary_buffer sizes divisions old buffer)

  wrote : Wrote (lent sizes divisions) old (boundary_buffer sizes divisions old buffer) count
  wrote = call_wrote sizes divisions old buffer count e

  over : first_no (table_questions p) ≡ 0 → OverNewTable p × AcceptedAgain p
  over q =
      let a = accepted_of p q in (
        over-new-table a.has_start a.points old wrote.table,
        accepted-again a.has_start a.points old wrote.table wrote.long wrote.range,
      )

  place-ends : (budget places read : ℕ) (kind : Kind) (block vertices : ℕ)
      → run_answer p room budget ≡ End places read kind block vertices → kind ≡ place_end
  place-ends budget places read kind block vertices r =
      let c = end_told p room budget places read kind block vertices r in
      (over c.asked).0.announced budget places read kind block vertices c.simplex c.answered

  asks-inside : (budget places position : ℕ) → run_answer p room budget ≡ Unknown places position
      → is_interior (get_or (points p.grid) position []) ≡ true
  asks-inside budget places position r =
      let u = unknown_told p room budget places position r in
      (over u.0).1.asks_inside budget places position u.1

  passes : (question5 p.grid start).answered_yes ≡ true → (question8 p.grid room).answered_yes ≡ true
      → run_refusal p room ≡ 0
  unfolding first_no
  passes five eight =
      let a = accepted p.grid wrote.grid in
      let ok = has-start_with p.grid (in_limits p.grid a) start five p.labels in
      let t = (accepted-again ok a.few_points old wrote.table wrote.long wrote.range).accepted in
      asked-next (table_questions p) (question8 p.grid room ∷ []) refl t ∙ rw eight

pub calls_lead_to_place_ends : CallsLeadToPlaceEnds
calls_lead_to_place_ends sizes divisions old buffer count e start room = record {
  kinds = place-ends sizes divisions old buffer count e start room;
  asks = asks-inside sizes divisions old buffer count e start room;
  accepted = passes sizes divisions old buffer count e start room;
}
