-- `centre::coordinate_sum` meets its contract: after k turns the sum is that of the first k vertices. Assumes nothing.
use mathlib.Core.Path.{◌≡◌}
use Prim.Native.Nat.{◌*◌, ◌≤◌}
use Rattle.sheet_lines.specs.Answer.{rows}
use Rattle.sheet_lines.specs.Sheet.{total as total_of}
use Rattle.sheet.proofs.centre.coordinate_sum.Given as goal

abbrev pub invariant-loop-k : goal.invariant-loop-k
invariant-loop-k l = (l.sum ≡ total_of (rows l.k l.m l.vertices) l.h) × (l.sum ≤ 65535 * l.k)
