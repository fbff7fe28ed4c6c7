-- `spent` meets its contract: its two lines are one part, which stands at the front. Assumes nothing.
use native.Mathlib.Omega.{arith}
use Rattle.sheet_lines.specs.Sheet.{refused_sheet, spent_sheet}
use Rattle.text.proofs.Parts.{part_join, part_front}
use Rattle.sheet.proofs.spent.Goals as goal

pub returns : goal.returns
unfolding refused_sheet spent_sheet
returns c =
    part_front (part_join c.labelled-next.ensures.0 c.labelled.ensures.0) (omega arith)
