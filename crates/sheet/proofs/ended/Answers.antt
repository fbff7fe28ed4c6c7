-- `ended` meets its contract: its lines are one part, which stands at the front. Assumes nothing.
use native.Mathlib.Omega.{arith}
use lib.ListN.{length}
use Rattle.sheet_lines.specs.Sheet.{end_sheet}
use Rattle.text.proofs.Parts.{part_join, part_front}
use Rattle.sheet_lines.proofs.Rows.{length-rows}
use Rattle.sheet.proofs.ended.Goals as goal

pub returns : goal.returns
unfolding end_sheet
returns c =
    let a = c.args in
    let read = part_join c.labelled-next.ensures.0 c.labelled-next-2.ensures.0 in
    let bounds = part_join read c.labelled-next-3.ensures.0 in
    let head = part_join bounds c.end_line-next.ensures.0 in
    let counts = part_join (part_join head c.labelled-next-4.ensures.0) c.labelled-next-5.ensures.0 in
    let written =
    part_join (part_join counts c.vertex_lines-next.ensures.0) c.centre_line.ensures.0 in
    rw (← c.from.ensures, length-rows a.count (length a.divisions.now) a.vertices.now)
    (part_front written (omega (arith, c.labelled-next.ensures.2)))
