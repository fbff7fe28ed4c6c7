-- Each end that a run announces, each level of a refinement and each sheet gets yes with its block. Assumes nothing.
use mathlib.Core.Bool.{true}
use mathlib.Core.List.{List, []}
use mathlib.Core.Logic.{⊎_elim}
use mathlib.Core.Path.{◌≡◌, refl, sym, ap, ◌∙◌}
use Prim.Native.Nat.{ℕ, suc, ◌*◌, ◌≤◌, ◌<◌}
use borrow.Author.Tests.{eqb-true, le-leb, leb-true, lt-ltb, ne_eqb}
use lib.ListN.{length, drop, get_or, take}
use native.Mathlib.Nat.{mul-le-mul}
use native.Mathlib.Omega.{arith}
use Rattle.check_simplices.proofs.Answers.{announced-end, last-place, stop-points}
use Rattle.checker.proofs.EachEnd.{each-end}
use Rattle.checker.specs.Check.{check_answer}
use Rattle.checker.specs.declared.CheckAnswer.TheVariants.{Yes}
use Rattle.combinatorics.proofs.Basics.{same_or}
use Rattle.combinatorics.proofs.Fronts.{front_taken}
use Rattle.combinatorics.specs.Lists.{concat_map}
use Rattle.end_kinds.specs.declared.Kind.{Kind}
use Rattle.finder.proofs.Told.{EndTold, end_told, end-written, table-asked}
use Rattle.finder.specs.Demand.{announcement_of}
use Rattle.finder.specs.Run.{run_buffer}
use Rattle.game_labels.specs.Labelling.{question12}
use Rattle.game_losses.specs.Game.{labels as labels_of}
use Rattle.game_losses.specs.Table.{IsTable, question10, question11}
use Rattle.grid_points.proofs.Accepted.{accepted, blocks-few}
use Rattle.grid_points.proofs.Points.{points-long}
use Rattle.grid_points.specs.Grid.{bound, dimension, is_grid_point, num_indices}
use Rattle.grid_points.specs.Questions.{grid_questions, question5}
use Rattle.path_laws.proofs.Accepted.{accepted_of}
use Rattle.place.specs.Ends.{End as EndOfPath}
use Rattle.place.specs.LabelsRead.{labels_read}
use Rattle.place.specs.Path.{PathAnswer, path, path_length}
use Rattle.place.specs.Places.{Simplex}
use Rattle.place.specs.Problem.{Problem}
use Rattle.printer.proofs.Vertices.{rows-length}
use Rattle.printer.specs.Printed.{sheet_of}
use Rattle.questions.proofs.Answers.{both_yes, first-yes}
use Rattle.questions.specs.Questions.{first_no}
use Rattle.refinement.proofs.AllRuns.{level_at}
use Rattle.refinement.specs.Answer.{answer_left, level_of, levels_of, no_level, refine_answer, refine_refusal}
use Rattle.refinement.specs.declared.Level.{Level as LevelAnswer}
use Rattle.refinement_levels.proofs.Buffers.{level_read}
use Rattle.refinement_levels.proofs.Claims.{every_refinement, passed}
use Rattle.refinement_levels.proofs.Grids.{levels_yes}
use Rattle.refinement_levels.proofs.Vertices.{level_few}
use Rattle.refinement_levels.specs.Buffers.{level_numbers, numbers_after}
use Rattle.refinement_levels.specs.Claims.{Level}
use Rattle.refinement_levels.specs.Levels.{Refinement, answer_vertices, level_grid, level_problem}
use Rattle.refinement_levels.specs.Questions.{last_grid, level_question8, level_room}
use Rattle.slip_fields.proofs.Runs.{then_runs}
use Rattle.slip_fields.specs.Slip.{later_slip_questions, slip_budget, slip_grid, slip_problem, slip_question11}
use Rattle.slip_fields.specs.Slip.{slip_read_questions}
use Rattle.check_ends.specs.EachEnd.{EachLevelGetsYes, EachRunGetsYes, EachSheetGetsYes, level_answered}
use Rattle.check_ends.specs.EachEnd.{level_written, vertex_numbers_in}

-- the vertices of an end have m numbers each
pub end-numbers : (p : Problem) (budget places read : ℕ) (kind : Kind) (block vertices : ℕ)
    → (t : EndTold p budget places read kind block vertices)
    → length (concat_map (λ y. y) t.simplex) ≡ vertices * num_indices p.grid
end-numbers p budget places read kind block vertices t =
    let ok = (accepted_of p t.asked).has_start in
    let d = announced-end p budget places read kind block vertices t.simplex t.answered in
    let w = last-place ok d.end d.ends in
    let on = (stop-points ok w.0 d.end w.1 w.2).2 in
    ap (λ (s : Simplex). length (concat_map (λ y. y) s)) d.points
    ∙ rows-length (num_indices p.grid) d.end.simplex (points-long p.grid d.end.simplex on)
    ∙ ap (λ (n : ℕ). n * num_indices p.grid) (sym d.many)

told_yes : (p : Problem) (budget places read : ℕ) (kind : Kind) (block vertices : ℕ)
    → (t : EndTold p budget places read kind block vertices)
    → check_answer p.grid p.labels (concat_map (λ y. y) t.simplex) ≡ Yes block
told_yes p budget places read kind block vertices t =
    (each-end p t.asked).yes budget places read kind block vertices t.simplex t.answered

pub each-run_gets_yes : EachRunGetsYes
each-run_gets_yes p budget old places read kind block vertices e =
    let t = end_told p (length old) budget places read kind block vertices e in
    let numbers = concat_map (λ y. y) t.simplex in
    let front-is = end-written p budget old places read kind block vertices e t.simplex t.answered in
    let taken : take (vertices * num_indices p.grid) (run_buffer p budget old) ≡ numbers =
    rw (front-is, ← end-numbers p budget places read kind block vertices t) (front_taken numbers old) in
    ap (check_answer p.grid p.labels) taken ∙ told_yes p budget places read kind block vertices t

-- a refinement that is not refused
pub record Solved (r : Refinement) (levels : ℕ) (labels old : List ℕ) : Type 0 where
  pub asked : refine_refusal r levels labels old ≡ 0
  pub entries : (refine_answer r levels labels old).levels ≡ levels_of r levels
  pub numbers : answer_left r levels labels old ≡ numbers_after r levels old

pub solved : (r : Refinement) (levels : ℕ) (labels old : List ℕ) → (refine_answer r levels labels old).code ≡ 0
    → Solved r levels labels old
unfolding refine_answer answer_left
solved r levels labels old z =
    let n : ℕ = refine_refusal r levels labels old in
    ⊎_elim
    (λ (e : n ≡ 0). record { asked = e; entries = rw e; numbers = rw e })
    (λ (e : n ≡ 0 → ⊥). let w : n ≡ 0 = rw (ne_eqb n 0 e) at z in absurd (e w))
    (same_or n 0)

-- the questions that it was asked
pub record GameAsked (r : Refinement) (levels : ℕ) (old : List ℕ) : Type 0 where
  pub few : levels ≤ 8
  pub grids : (i : ℕ) → i < levels → first_no (grid_questions (level_grid r i)) ≡ 0
  pub start : is_grid_point r.grid r.start ≡ true
  pub table : IsTable r.grid r.losses
  pub room : levels * level_room r.grid ≤ length old

pub game-asked : (r : Refinement) (levels : ℕ) (labels old : List ℕ) → (refine_answer r levels labels old).code ≡ 0
    → GameAsked r levels old
game-asked r levels labels old z =
    let w = passed r levels labels (length old) (solved r levels labels old z).asked in
    let five = first-yes (question5 r.grid r.start) _ (omega arith) w.later in
    let ten = first-yes (question10 r.grid r.losses) _ (omega arith) five.1 in
    let eleven = first-yes (question11 r.losses) _ (omega arith) ten.1 in
    let twelve = first-yes (question12 (last_grid r levels) labels) _ (omega arith) eleven.1 in
    let eight = first-yes (level_question8 r.grid levels (length old)) [] (omega arith) twelve.1 in
    record {
      few = w.levels_range.1;
      grids = levels_yes r.grid r.factor levels w.grids;
      start = five.0;
      table = record { whole = eqb-true _ _ ten.0; range = eleven.0 };
      room = leb-true _ _ eight.0;
    }

-- its level i
module _ (r : Refinement) (levels : ℕ) (labels old : List ℕ) (z : (refine_answer r levels labels old).code ≡ 0) (i : ℕ)
    (h : i < levels) where
  S : Solved r levels labels old
  S = solved r levels labels old z

  A : GameAsked r levels old
  A = game-asked r levels labels old z

  L : Level r i (level_room r.grid)
  L = (every_refinement r levels labels (length old) S.asked).each i h (level_room r.grid) (omega arith)

  abbrev e : EndOfPath
  e = L.ended.path.end

  -- the run that it is
  told : EndTold (level_problem r i) (bound (level_grid r i)) (path_length (level_problem r i))
      (labels_read (path (level_problem r i)).visited) e.kind (suc e.block) (length e.simplex)
  told = end_told (level_problem r i) (level_room r.grid) (bound (level_grid r i)) _ _ _ _ _ (L.own ∙ L.announced)

  level_answered_lem : level_answered r levels labels old i ≡ level_of (announcement_of (level_problem r i) e)
  level_answered_lem =
      ap (λ (l : List LevelAnswer). get_or l i no_level) S.entries
      ∙ level_at r levels i (omega (arith, A.few))
      ∙ rw (lt-ltb i levels h) (ap level_of L.announced)

  level_numbers_lem : vertex_numbers_in (level_grid r i) (length e.simplex) (level_written r levels labels old i)
      ≡ concat_map (λ y. y) told.simplex
  level_numbers_lem =
      let g = level_grid r i in
      let room = level_room r.grid in
      let same : level_numbers r i ≡ concat_map (λ y. y) told.simplex =
      ap (λ (o : PathAnswer). concat_map (λ y. y) (answer_vertices o)) told.answered in
      let many : length (level_numbers r i) ≡ length e.simplex * num_indices g =
      ap (λ (l : List ℕ). length l) same ∙ end-numbers _ _ _ _ _ _ _ told in
      let a = accepted g (A.grids i h) in
      let m : 1 ≤ num_indices g = omega (arith, blocks-few g a, a.some_block) in
      let some : 1 * 1 ≤ room = mul-le-mul {n₁ = 1} {m₁ = 1} (omega arith) m in
      ap (λ (l : List ℕ). take (length e.simplex * num_indices g) (drop (i * room) l)) S.numbers
      ∙ ap (λ (n : ℕ). take n (drop (i * room) (numbers_after r levels old))) (sym many)
      ∙ level_read r (omega arith) old levels i h A.room
      (level_few r levels A.grids A.start i h)
      ∙ same

  level_yes : check_answer (level_grid r i) (labels_of (level_grid r i) r.losses)
      (vertex_numbers_in (level_grid r i) (level_answered r levels labels old i).vertices
      (level_written r levels labels old i))
      ≡ Yes (level_answered r levels labels old i).block
  level_yes = rw level_answered_lem
      (ap (check_answer (level_grid r i) (labels_of (level_grid r i) r.losses)) level_numbers_lem
      ∙ told_yes _ _ _ _ _ _ _ told)

pub each_level_gets_yes : EachLevelGetsYes
each_level_gets_yes = level_yes

pub each-sheet_gets_yes : EachSheetGetsYes
unfolding sheet_of
each-sheet_gets_yes slip z places read kind block vertices simplex e =
    let p = slip_problem slip in
    let w = both_yes (slip_read_questions slip) (later_slip_questions slip) refl z in
    let eleven = (first-yes (slip_question11 slip) _ (omega arith) w.1).0 in
    let room = suc (dimension (slip_grid slip)) * num_indices (slip_grid slip) in
    let run = (then_runs slip w.0).runs eleven room (le-leb room room (omega arith)) ∙ z in
    record {
      prints = rw (z, e);
      yes = (each-end p (table-asked p room run)).yes (slip_budget slip) places read kind block vertices simplex e;
    }
