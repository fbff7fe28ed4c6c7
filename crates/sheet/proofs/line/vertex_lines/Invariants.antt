-- `line::vertex_lines` meets its contract: after k turns the lines of the first k vertices are written, in at most 117
-- bytes each. Assumes nothing.
use mathlib.Core.List.{flat_map}
use Prim.Native.Nat.{◌+◌, ◌*◌, ◌≤◌}
use Rattle.text.specs.Part.{Part}
use Rattle.sheet_lines.specs.Answer.{rows}
use Rattle.sheet_lines.specs.Sheet.{vertex_line}
use Rattle.sheet.proofs.line.vertex_lines.Given as goal

abbrev pub invariant-loop-k : goal.invariant-loop-k
invariant-loop-k l =
    Part (flat_map vertex_line (rows l.k l.m l.vertices)) l.initial.out l.out l.at l.next × (l.next ≤ l.at + 117 * l.k)
