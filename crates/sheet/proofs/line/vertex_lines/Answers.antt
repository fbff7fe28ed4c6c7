-- `line::vertex_lines` meets its contract: after k turns the lines of the first k vertices are written, in at most 117
-- bytes each. Assumes nothing.
use mathlib.Core.Path.{◌≡◌}
use mathlib.Core.List.{flat_map}
use Prim.Native.Nat.{◌+◌, ◌-◌, ◌*◌}
use native.Mathlib.Omega.{arith}
use Rattle.text.proofs.Parts.{part_empty, part_join}
use Rattle.sheet_lines.proofs.Rows.{flat_map_more, rows_more}
use Rattle.sheet.proofs.line.vertex_lines.Goals as goal

pub loop-k-init : goal.loop-k-init
unfolding flat_map
loop-k-init c = (part_empty _ _, omega arith)

pub loop-k-preserved : goal.loop-k-preserved
loop-k-preserved c =
    let a = c.args in
    let l = c.loop-k in
    let wide : l.k * a.m + a.m - l.k * a.m ≡ a.m = omega arith in
    let written = part_join l.invariant.0 (rw wide at c.vertex_line-next.ensures.0) in
    (rw (rows_more l.k a.m a.vertices.now, flat_map_more) written, omega arith)
