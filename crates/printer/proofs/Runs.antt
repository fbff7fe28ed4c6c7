-- What a run answers, with its vertices in the buffer, prints what the path's answer prints. Assumes nothing.
use mathlib.Core.List.{List}
use mathlib.Core.Logic.{⊎_elim}
use mathlib.Core.Option.{Option, none, some}
use mathlib.Core.Path.{◌≡◌, refl, sym, ap, ◌∙◌}
use Prim.Native.Nat.{ℕ, suc, ◌*◌, ◌≤◌}
use borrow.Author.Tests.{eq-eqb, ne_eqb}
use lib.ListN.{length, drop}
use native.Mathlib.Nat.{mul-le-mul_right}
use native.Mathlib.Omega.{arith}
use Rattle.combinatorics.proofs.Basics.{same_or, before_or_not}
use Rattle.combinatorics.proofs.Fronts.{front_length}
use Rattle.combinatorics.specs.Front.{front}
use Rattle.combinatorics.specs.Lists.{concat_map}
use Rattle.end_kinds.specs.declared.Kind.{Kind}
use Rattle.path_laws.proofs.Accepted.{accepted-table}
use Rattle.path_laws.proofs.EndPoints.{IsSimplex, end-simplex}
use Rattle.path_laws.proofs.Theorem.{demand3_holds, gapless}
use Rattle.path_laws.specs.Demand.{Accepted, Stop, at_gap, last_place}
use Rattle.questions.specs.Questions.{first_no}
use Rattle.finder.proofs.Refusals.{by_grid, by_later, accepted-with_room, answered as run-answered}
use Rattle.finder.proofs.Refusals.{refused as run-refused}
use Rattle.finder.specs.Run.{case_of, numbers_of, run_refusal, run_answer, run_buffer}
use Rattle.finder.specs.declared.answers.RunAnswer.{RunAnswer}
use Rattle.finder.specs.declared.answers.RunAnswer.TheVariants.{Refused, Spent, Unknown, End}
use Rattle.grid_points.specs.Grid.{dimension, num_indices}
use Rattle.grid_points.specs.Questions.{grid_questions}
use Rattle.grid_points.proofs.Points.{points-long}
use Rattle.place.specs.Ends.{End as EndOfPath}
use Rattle.place.specs.Path.{answer, path, path_length, ended}
use Rattle.place.specs.Problem.{Problem}
use Rattle.place.specs.Places.{Simplex}
use Rattle.sheet_lines.specs.Sheet.{refused_sheet, spent_sheet, unknown_sheet}
use Rattle.printer.proofs.Vertices.{rows_of, rows-length}
use Rattle.printer.specs.Printed.{answer_sheet}
use Rattle.printer.specs.Run.{room, printed, Fits, run_sheet}

module _ (p : Problem) (budget : ℕ) (old : List ℕ) (large : length old ≡ room) where
  -- what is to be shown of an answer and its buffer
  abbrev Prints : RunAnswer → List ℕ → List ℕ → Type 0
  Prints a buffer sheet = (printed p.grid a buffer ≡ sheet) × Fits p.grid a buffer

  refused : (buffer : List ℕ) (n : ℕ) → Prints (Refused n) buffer (refused_sheet n)
  unfolding printed
  refused buffer n = (
    refl,
    record { end = λ places read kind block vertices e. absurd (let z : ◌≡◌ {A = ℕ} 0 1 = cc in omega arith) },
  )

  spends : (buffer : List ℕ) (n : ℕ) → Prints (Spent n) buffer (spent_sheet n)
  unfolding printed
  spends buffer n = (
    refl,
    record { end = λ places read kind block vertices e. absurd (let z : ◌≡◌ {A = ℕ} 0 1 = cc in omega arith) },
  )

  unknowns : (buffer : List ℕ) (n i : ℕ) → Prints (Unknown n i) buffer (unknown_sheet n i)
  unfolding printed
  unknowns buffer n i = (
    refl,
    record { end = λ places read kind block vertices e. absurd (let z : ◌≡◌ {A = ℕ} 0 1 = cc in omega arith) },
  )

  -- an end with a simplex of the grid
  ends : (places read : ℕ) (kind : Kind) (block : ℕ) (s : Simplex) → suc (dimension p.grid) ≤ 16
      → suc (dimension p.grid) * num_indices p.grid ≤ room → IsSimplex p s
      → Prints (End places read kind block (length s)) (front (concat_map (λ y. y) s) old)
      (answer_sheet p.grid (ended places read kind block (length s) s))
  unfolding printed front
  ends places read kind block s few small i =
      let m = num_indices p.grid in
      let a = points-long p.grid s i.on_grid in
      let l = rows-length m s a in
      let le : length s * m ≤ room = omega (arith, mul-le-mul_right m i.few) in
      let w : length (front (concat_map (λ y. y) s) old) ≡ room =
      front_length (concat_map (λ y. y) s) old (omega (arith, l, large)) ∙ large in (
        rw (rows_of m s (drop (length (concat_map (λ y. y) s)) old) a),
        record {
          end = λ places read kind block vertices e.
              let v : vertices ≡ length s = cc in
              rw v (i.some, omega (arith, i.few), omega (arith, w));
        },
      )

  module _ (unrefused : run_refusal p room ≡ 0) where
    grid-yes : first_no (grid_questions p.grid) ≡ 0
    grid-yes = ⊎_elim
        (λ e. e)
        (λ n. absurd (n (sym (by_grid p room n) ∙ unrefused)))
        (same_or (first_no (grid_questions p.grid)) 0)

    accepted : Accepted p × (suc (dimension p.grid) * num_indices p.grid ≤ room)
    accepted = accepted-with_room p room grid-yes (sym (by_later p room grid-yes) ∙ unrefused)

    answered : Prints (case_of (answer p budget)) (front (numbers_of (answer p budget)) old)
        (answer_sheet p.grid (answer p budget))
    answered =
        let ok = accepted.0 in
        let d = demand3_holds (accepted-table ok) in
        let few : suc (dimension p.grid) ≤ 16 =
        omega (arith, ok.has_start.some_block, ok.has_start.sixteen_indices) in
        ⊎_elim
        (λ l. rw ((d.spends budget).1 l) (spends _ budget))
        (λ l. stopped l few (path p).end refl d.stops)
        (before_or_not budget (path_length p))
      where
        -- the path stops at an end, or at a label that is not known
        stopped : path_length p ≤ budget → suc (dimension p.grid) ≤ 16 → (e : Option EndOfPath) → (path p).end ≡ e
            → Stop p (last_place (path p).visited) e
            → Prints (case_of (answer p budget)) (front (numbers_of (answer p budget)) old)
            (answer_sheet p.grid (answer p budget))
        stopped l few (some e) q s =
            let t = accepted-table accepted.0 in
            let E = (demand3_holds t).ended ((gapless t).1 (e, q)) in
            rw (E.announces budget l)
            (ends (path_length p) _ E.end.kind (suc E.end.block) E.end.simplex few accepted.1
            (end-simplex p accepted.0.has_start E.is_path))
        stopped l few none q (at_gap y g) =
            rw ((demand3_holds (accepted-table accepted.0)).asks y g budget l) (unknowns _ _ _)

  pub run-prints : Prints (run_answer p (length old) budget) (run_buffer p budget old) (run_sheet p budget)
  unfolding run_sheet
  run-prints =
      let n = run_refusal p room in
      let r : run_refusal p (length old) ≡ n = ap (run_refusal p) large in
      ⊎_elim
      (λ e. let a = run-answered p budget old (r ∙ e) in rw (← a.0, ← a.1, eq-eqb n 0 e) (answered e))
      (λ h. let a = run-refused p budget old n h r in rw (← a.0, ← a.1, ne_eqb n 0 h) (refused old n))
      (same_or n 0)
