-- `line::vertex_line` meets its contract: the first number, the numbers behind it and the newline are one part.
-- Assumes nothing.
use native.Mathlib.Omega.{arith}
use Rattle.text.proofs.Parts.{part_join}
use Rattle.sheet_lines.proofs.Rows.{vertex-parts}
use Rattle.sheet.proofs.line.vertex_line.Goals as goal

pub returns : goal.returns
returns c =
    let a = c.args in
    let written = part_join (part_join c.decimal-next.ensures.0 c.all_spaced-next.ensures.0)
    c.byte.ensures in (
      rw (vertex-parts a.row.now (omega arith), ← c.from.ensures) written,
      omega (arith, c.byte.ensures.behind),
    )
