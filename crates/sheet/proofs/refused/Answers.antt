-- `refused` meets its contract: its one line stands at the front. Assumes nothing.
use native.Mathlib.Omega.{arith}
use Rattle.sheet_lines.specs.Sheet.{refused_sheet}
use Rattle.text.proofs.Parts.{part_front}
use Rattle.sheet.proofs.refused.Goals as goal

pub returns : goal.returns
unfolding refused_sheet
returns c = rw (← c.from.ensures) (part_front c.labelled.ensures.0 (omega arith))
