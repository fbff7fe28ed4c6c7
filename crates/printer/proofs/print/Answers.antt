-- `printer::print` meets its contract, for every slip. Assumes nothing.
use mathlib.Core.Logic.{⊎_elim}
use mathlib.Core.Path.{◌≡◌, sym, ap, ◌∙◌}
use Rattle.slip.proofs.Readings.{reading-accepted}
use Rattle.slip.proofs.Tables.{are-labels, no-labels}
use Rattle.slip.specs.Reading.{slip_reading_of}
use Rattle.printer.proofs.Slips.{refusal-printed, has-grid, table-printed}
use Rattle.printer.proofs.print.Goals as goal
use Rattle.printer.proofs.print.Goals.{Else-reading-ne0}

zero : (c : Else-reading-ne0) → (slip_reading_of c.args.slip.now).code ≡ 0
zero c = sym (ap (λ r. r.code) c.read-reading.ensures) ∙ c.if-reading-ne0.false

pub returns-then-reading-ne0 : goal.returns-then-reading-ne0
returns-then-reading-ne0 c =
    let slip = c.args.slip.now in
    let is = c.read-reading.ensures in
    rw (refusal-printed slip (λ z. c.if-reading-ne0.true (ap (λ r. r.code) is ∙ z)), ← is)
    c.refused.ensures

pub print_run-requires : goal.print_run-requires
print_run-requires c =
    let is = c.read-reading.ensures in
    rw is (has-grid c.args.slip.now
    (zero (goal.at.print_run-requires c).Else-reading-ne0))

pub returns-in-LabelsFrom : goal.returns-in-LabelsFrom
returns-in-LabelsFrom c =
    let slip = c.args.slip.now in
    let is = c.read-reading.ensures in
    let named = ap (λ r. r.table) (sym (reading-accepted slip (zero (goal.at.returns-in-LabelsFrom c).Else-reading-ne0)))
    ∙ ap (λ r. r.table) (sym is)
    ∙ c.in-LabelsFrom.is in
    let two = are-labels slip c.in-LabelsFrom.field-0 named in
    let p = rw c.labels_of.ensures at c.print_run.ensures in
    rw (← table-printed slip (zero (goal.at.returns-in-LabelsFrom c).Else-reading-ne0) two, ← is) (p.counted, p.stands)

pub print_game-requires : goal.print_game-requires
print_game-requires c =
    let slip = c.args.slip.now in
    let is = c.read-reading.ensures in
    let named = ap (λ r. r.table) is ∙ ap (λ r. r.table) (reading-accepted slip (zero (goal.at.print_game-requires c).Else-reading-ne0)) in
    record {
      is_reading = is;
      read = c.if-reading-ne0.false;
      no_labels =
          no-labels slip c.read-reading.result.table
          (λ begin e. ⊎_elim (λ z. let g = z.1 in cc) (λ z. let g = z.1 in cc) c.in-Game.is) named;
    }

pub returns-in-Game : goal.returns-in-Game
returns-in-Game c = (c.print_game.ensures.counted, c.print_game.ensures.stands)
