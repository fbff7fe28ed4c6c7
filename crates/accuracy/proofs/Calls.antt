-- What the calls answer over a game's labels is accurate. Each end that is announced, written or printed gets yes, and
-- every yes is accurate. Assumes nothing.
use mathlib.Core.Bool.{true, false}
use mathlib.Core.List.{List, [], ◌∷◌}
use mathlib.Core.Logic.{⊎_elim}
use mathlib.Core.Path.{◌≡◌, refl, sym, ap, ◌∙◌, subst}
use Prim.Native.Nat.{ℕ, suc, ◌*◌, ◌≤◌, ◌<◌}
use borrow.Author.Tests.{eqb-true, ne_eqb}
use lib.ListN.{length}
use native.Mathlib.Omega.{arith}
use Rattle.accuracy.proofs.Finer.{level_divided}
use Rattle.accuracy.proofs.Theorem.{every_complete_set}
use Rattle.accuracy.specs.Calls.{AccurateFor, AccurateSheet, EveryLabellingAccurate, EveryRefinementAccurate}
use Rattle.accuracy.specs.Calls.{EverySheetAccurate, printed, refused, spent_budget}
use Rattle.check_ends.proofs.EachEnd.{each_level_gets_yes, each-run_gets_yes, each-sheet_gets_yes, game-asked}
use Rattle.check_ends.proofs.Yes.{yes_told}
use Rattle.check_simplices.proofs.Answers.{last-place, stop-points, verdict-tells}
use Rattle.check_simplices.proofs.Search.{search_finds}
use Rattle.checker.proofs.EachEnd.{same_points}
use Rattle.checker.specs.Check.{check_answer, listed_points}
use Rattle.checker.specs.declared.CheckAnswer.TheVariants.{Yes}
use Rattle.combinatorics.proofs.Basics.{absurd_bool, before_or_not, same_or}
use Rattle.combinatorics.proofs.Fronts.{front_full}
use Rattle.combinatorics.specs.Lists.{concat_map}
use Rattle.end_kinds.specs.declared.Kind.{Kind}
use Rattle.game_labels.proofs.AllLabels.{labels_length}
use Rattle.game_labels.specs.Labelling.{label_answer, label_buffer, label_questions, labelled_of, left_in, question12}
use Rattle.game_labels.specs.declared.Labelled.TheVariants.{Refused, Written}
use Rattle.game_losses.specs.Game.{labels}
use Rattle.game_losses.specs.Table.{IsTable, question10, question11}
use Rattle.grid_points.proofs.Accepted.{accepted}
use Rattle.grid_points.proofs.CoordinatesBelow.{in_limits}
use Rattle.grid_points.specs.Grid.{Grid, lent, num_points}
use Rattle.grid_points.specs.Questions.{grid_questions, question5}
use Rattle.path_laws.proofs.Filled.{FullyLabelled, full_table}
use Rattle.path_laws.proofs.Theorem.{demand3_holds}
use Rattle.place.specs.LabelsRead.{labels_read}
use Rattle.place.specs.Path.{answer, ended, path, path_length, spent}
use Rattle.place.specs.Places.{Simplex}
use Rattle.place.specs.Problem.{Problem}
use Rattle.place.specs.Questions.{question7}
use Rattle.printer.specs.Printed.{sheet_of}
use Rattle.questions.proofs.Answers.{both_yes, first-yes}
use Rattle.questions.specs.Questions.{first_no}
use Rattle.refinement_levels.proofs.Starts.{full_ended, game_full}
use Rattle.refinement_levels.specs.Levels.{game_problem}
use Rattle.slip_fields.proofs.Runs.{answers, then_runs}
use Rattle.slip_fields.specs.Slip.{later_slip_questions, slip_budget, slip_grid, slip_labels, slip_losses, slip_problem}
use Rattle.slip_fields.specs.Slip.{slip_question11, slip_read_questions, slip_refusal, slip_start, stands}

-- every yes over a game's labels
pub yes-accurate : (g : Grid) (losses numbers : List ℕ) (block : ℕ) → IsTable g losses
    → check_answer g (labels g losses) numbers ≡ Yes block
    → AccurateFor g losses (listed_points g numbers) block
yes-accurate g losses numbers block t e =
    let y = yes_told g (labels g losses) numbers block e in
    let a = accepted g y.grid in
    let v = verdict-tells g (labels g losses) (listed_points g numbers) y.named y.said in
    record {
      named = y.named;
      counted = y.counted;
      inside = v.block;
      always = t.range;
      accurate = λ low range w. every_complete_set g losses low range
          (record { same_number = a.same_number; divisions = a.divisions_one; whole = t.whole; within = w })
          (listed_points g numbers) y.nonempty ((search_finds g (in_limits g a) (listed_points g numbers)).1 v.one)
          y.named
          v.block v.complete;
    }

-- what a labelling has written
record Wrote (g : Grid) (losses written : List ℕ) : Type 0 where
  table : IsTable g losses
  is : written ≡ labels g losses

wrote : (sizes divisions losses buffer : List ℕ) (count : ℕ) → label_answer sizes divisions losses buffer ≡ Written count
    → Wrote (lent sizes divisions) losses (label_buffer sizes divisions losses buffer)
unfolding labelled_of left_in
wrote sizes divisions losses buffer count e =
    let g = lent sizes divisions in
    let n : ℕ = first_no (label_questions g losses buffer) in
    ⊎_elim
    (λ (z : n ≡ 0).
    let q = both_yes (grid_questions g) (question10 g losses ∷ question11 losses ∷ question12 g buffer ∷ []) refl z in
    let ten = first-yes (question10 g losses) _ (omega arith) q.1 in
    let eleven = first-yes (question11 losses) _ (omega arith) ten.1 in
    let twelve = first-yes (question12 g buffer) [] (omega arith) eleven.1 in
    let long : length buffer ≡ num_points g = eqb-true _ _ twelve.0 in
    record {
      table = record { whole = eqb-true _ _ ten.0; range = eleven.0 };
      is = rw z (front_full (labels g losses) buffer (labels_length g losses ∙ sym long));
    })
    (λ (z : n ≡ 0 → ⊥). let w : Refused n ≡ Written count = rw (ne_eqb n 0 z) at e in absurd_bool (cc))
    (same_or n 0)

pub every_labelling_accurate : EveryLabellingAccurate
every_labelling_accurate sizes divisions losses buffer count e =
    let g = lent sizes divisions in
    let w = wrote sizes divisions losses buffer count e in
    let yes : (numbers : List ℕ) (block : ℕ) → check_answer g (label_buffer sizes divisions losses buffer) numbers ≡ Yes
    block
    → AccurateFor g losses (listed_points g numbers) block = λ numbers block h.
    yes-accurate g losses numbers block w.table
    (ap (λ (l : List ℕ). check_answer g l numbers) (sym w.is) ∙ h) in
    record {
      checked = yes;
      announced = λ start budget old places read kind block vertices h.
          yes _ block (each-run_gets_yes _ budget old places read kind block vertices h);
    }

pub every_refinement_accurate : EveryRefinementAccurate
every_refinement_accurate r levels labels old z =
    let t = game-asked r levels labels old z in
    record {
      each = λ i h. yes-accurate _ r.losses _ _ (record { whole = t.table.whole; range = t.table.range })
          (each_level_gets_yes r levels labels old z i h);
      divided = λ i h. level_divided r i (t.grids i (omega arith)) (t.grids (suc i) h);
    }

-- a sheet of a slip without labels
module _ (slip : List ℕ) (two : stands slip 2 ≡ false) (z : slip_refusal slip ≡ 0) where
  read_asked : first_no (slip_read_questions slip) ≡ 0
  read_asked = (both_yes (slip_read_questions slip) (later_slip_questions slip) refl z).0

  later-asked : first_no (later_slip_questions slip) ≡ 0
  later-asked = (both_yes (slip_read_questions slip) (later_slip_questions slip) refl z).1

  eleven : ((slip_question11 slip).answered_yes ≡ true)
      × (first_no (question5 (slip_grid slip) (slip_start slip) ∷ question7 (slip_problem slip) ∷ []) ≡ 0)
  eleven = first-yes (slip_question11 slip) _ (omega arith) later-asked

  table : IsTable (slip_grid slip) (slip_losses slip)
  table = (then_runs slip read_asked).losses two eleven.0

  labels-are : slip_labels slip ≡ labels (slip_grid slip) (slip_losses slip)
  labels-are = (then_runs slip read_asked).game two

  grid-asked : first_no (grid_questions (slip_grid slip)) ≡ 0
  grid-asked = (answers slip read_asked).1

  abbrev p : Problem
  p = game_problem (slip_grid slip) (slip_start slip) (slip_losses slip)

  same : slip_problem slip ≡ p
  same = ap
      (λ (l : List ℕ). let q : Problem = record { grid = slip_grid slip; start = slip_start slip; labels = l } in q)
      labels-are

  full : FullyLabelled p
  full = game_full (slip_grid slip) (slip_start slip) (slip_losses slip) grid-asked
      (first-yes (question5 (slip_grid slip) (slip_start slip)) _ (omega arith) eleven.1).0

  spends : slip_budget slip < path_length p → AccurateSheet slip
  unfolding sheet_of
  spends l =
      let a : answer (slip_problem slip) (slip_budget slip) ≡ spent (slip_budget slip) =
      ap (λ (q : Problem). answer q (slip_budget slip)) same ∙ ((demand3_holds (full_table full)).spends
      (slip_budget slip)).1 l in
      spent_budget z a (rw (z, a))

  ends : path_length p ≤ slip_budget slip → AccurateSheet slip
  ends l =
      let b = slip_budget slip in
      let E = full_ended full in
      let e = E.end in
      let a : answer (slip_problem slip) b
      ≡ ended (path_length p) (labels_read (path p).visited) e.kind (suc e.block) (length e.simplex)
      e.simplex =
      ap (λ (q : Problem). answer q b) same ∙ E.announces b l in
      let s = each-sheet_gets_yes slip z _ _ _ _ _ e.simplex a in
      let ok = (full_table full).has_start in
      let w = last-place ok e E.ends in
      let n = stop-points ok w.0 e w.1 w.2 in
      let g = slip_grid slip in
      let yes : check_answer g (labels g (slip_losses slip)) (concat_map (λ y. y) e.simplex) ≡ Yes (suc e.block) =
      ap (λ (t : List ℕ). check_answer g t (concat_map (λ y. y) e.simplex)) (sym labels-are) ∙ s.yes in
      printed _ _ _ _ _ e.simplex z a s.prints
      (subst (λ (x : Simplex). AccurateFor g (slip_losses slip) x (suc e.block))
      (same_points (accepted g grid-asked) e.simplex n.0 n.1 n.2)
      (yes-accurate g (slip_losses slip) _ _ table yes))

pub every_sheet_accurate : EverySheetAccurate
unfolding sheet_of
every_sheet_accurate slip two =
    ⊎_elim
    (λ (z : slip_refusal slip ≡ 0). ⊎_elim (spends slip two z) (ends slip two z)
    (before_or_not (slip_budget slip) (path_length (p slip two z))))
    (λ (n : slip_refusal slip ≡ 0 → ⊥). refused n (rw (ne_eqb (slip_refusal slip) 0 n)))
    (same_or (slip_refusal slip) 0)
