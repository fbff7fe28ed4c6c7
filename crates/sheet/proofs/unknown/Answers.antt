-- `unknown` meets its contract: its three lines are one part, which stands at the front. Assumes nothing.
use native.Mathlib.Omega.{arith}
use Rattle.sheet_lines.specs.Sheet.{refused_sheet, unknown_sheet}
use Rattle.text.proofs.Parts.{part_join, part_front}
use Rattle.sheet.proofs.unknown.Goals as goal

pub returns : goal.returns
unfolding refused_sheet unknown_sheet
returns c =
    let first = c.labelled-next.ensures.0 in
    let second = c.labelled-next-2.ensures.0 in
    part_front (part_join (part_join first second) c.labelled.ensures.0) (omega arith)
