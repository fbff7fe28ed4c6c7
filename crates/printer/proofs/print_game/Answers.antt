-- `printer::print_game` meets its contract: question 11 refuses, or the run is on the labels of the slip's losses.
-- Assumes nothing.
use native.Mathlib.Omega.{arith}
use mathlib.Core.Bool.{true}
use mathlib.Core.List.{List}
use mathlib.Core.Path.{◌≡◌, refl, sym, ap, ◌∙◌}
use Prim.Native.Nat.{ℕ, ◌≤◌}
use lib.ListN.{length, take, replicate}
use lib.Seq.{length-take-le}
use Rattle.combinatorics.proofs.Fronts.{front_length, front_taken}
use Rattle.slip.proofs.LossesRead.{losses-count, losses-refused}
use Rattle.slip.specs.Reading.{slip_reading_of}
use Rattle.slip_fields.specs.Slip.{slip_losses, slip_question11}
use Rattle.printer.proofs.Arrays.{same-sheet, as_prints}
use Rattle.printer.proofs.Slips.{out_of_range-printed, has-grid, losses-printed, losses-few, is-table}
use Rattle.printer.specs.Run.{loss_problem, run_sheet}
use Rattle.printer.proofs.print_game.Goals as goal
use Rattle.printer.proofs.print_game.Goals.{In-Some, Start}

zero : (c : Start) → (slip_reading_of c.args.slip.now).code ≡ 0
zero c = sym (ap (λ x. x.code) c.requires.is_reading) ∙ c.requires.read

-- the losses stand at the front of the array
counted : (c : In-Some)
    → let slip = c.args.slip.now in
    let array = c.losses_of.new.room in
    let count = c.in-Some.count in
    ((slip_question11 slip).answered_yes ≡ true) × (take count array ≡ slip_losses slip) × (count ≤ length array)
counted c =
    let slip = c.args.slip.now in
    let k = losses-count slip c.in-Some.count
    (sym c.losses_of.ensures.value ∙ c.in-Some.is) in
    let few = losses-few slip (zero (goal.at.In-Some c).Start) c.requires.no_labels k.0 in
    rw (k.1, c.losses_of.ensures.room_after) (
      k.0,
      front_taken (slip_losses slip) (replicate 1944 0),
      omega (arith, few, front_length (slip_losses slip) (replicate 1944 0) few),
    )

pub losses_of-requires : goal.losses_of-requires
losses_of-requires c = record {
  is_reading = c.requires.is_reading;
  read = c.requires.read;
  no_labels = c.requires.no_labels;
  whole = refl;
}

pub returns-in_default : goal.returns-in_default
returns-in_default c =
    let slip = c.args.slip.now in
    let out = losses-refused slip
    (sym c.losses_of.ensures.value ∙ c.in_default.is) in
    same-sheet c.args.sheet.now (sym (out_of_range-printed slip (zero (goal.at.returns-in_default c).Start) out)) (as_prints c.refused.ensures)

pub slice_bounds-losses-end : goal.slice_bounds-losses-end
slice_bounds-losses-end c = (counted c).2

pub slice_bounds-print_labelled-end : goal.slice_bounds-print_labelled-end
slice_bounds-print_labelled-end c = sym (length-take-le _ _ (counted (goal.at.slice_bounds-print_labelled-end c).In-Some).2)

pub print_labelled-requires : goal.print_labelled-requires
print_labelled-requires c =
    let slip = c.args.slip.now in
    let k = counted (goal.at.print_labelled-requires c).In-Some in
    rw (k.1, c.requires.is_reading) (has-grid slip (zero (goal.at.print_labelled-requires c).Start), is-table slip (zero (goal.at.print_labelled-requires c).Start) c.requires.no_labels k.0)

pub returns : goal.returns
returns c =
    let slip = c.args.slip.now in
    let r = c.args.reading in
    let k = counted (goal.at.returns c).In-Some in
    let brought = ap (λ (ls : List ℕ). run_sheet (loss_problem r ls) r.budget) k.1 in
    let whole = ap (λ x. run_sheet (loss_problem x (slip_losses slip)) x.budget) c.requires.is_reading
    ∙ losses-printed slip (zero (goal.at.returns c).Start) c.requires.no_labels k.0 in
    same-sheet c.args.sheet.now (brought ∙ whole) c.print_labelled.ensures
