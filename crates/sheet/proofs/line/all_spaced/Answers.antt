-- `line::all_spaced` meets its contract: after i turns the first i numbers are written, in at most 6 bytes each.
-- Assumes nothing.
use mathlib.Core.List.{flat_map}
use native.Mathlib.Omega.{arith}
use native.Mathlib.Numerals.{add-one}
use lib.Seq.{take-suc}
use Rattle.text.proofs.Decimals.{spaced-length}
use Rattle.text.proofs.Parts.{part_empty, part_join}
use Rattle.sheet_lines.proofs.Rows.{flat_map_more}
use Rattle.sheet.proofs.line.all_spaced.Goals as goal

pub loop-number-init : goal.loop-number-init
unfolding flat_map
loop-number-init c = (part_empty _ _, omega arith)

pub loop-number-preserved : goal.loop-number-preserved
loop-number-preserved c =
    let a = c.args in
    let l = c.loop-number in
    let n = c.from in
    let short = spaced-length 4 n.result (omega arith) in (
      rw (add-one l.number-index, take-suc a.row.now l.number-index 0 (omega arith), flat_map_more, ← n.ensures)
          (part_join l.invariant.0 c.spaced-next.ensures.0),
      omega (arith, short, c.spaced-next.ensures.0.behind),
    )
