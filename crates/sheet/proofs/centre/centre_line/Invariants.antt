-- `centre::centre_line` meets its contract: after h turns the centre's first h numbers are written, in at most 21 bytes
-- each. Assumes nothing.
use mathlib.Core.List.{flat_map}
use Prim.Native.Nat.{◌+◌, ◌*◌, ◌≤◌}
use Rattle.combinatorics.specs.Lists.{up_from}
use Rattle.text.specs.Part.{Part}
use Rattle.sheet_lines.specs.Answer.{rows}
use Rattle.sheet_lines.specs.Sheet.{centre_at}
use Rattle.text.specs.Line.{spaced as spaced_of}
use Rattle.sheet.proofs.centre.centre_line.Given as goal

abbrev pub invariant-loop-h : goal.invariant-loop-h
invariant-loop-h l =
    Part (flat_map (λ h. spaced_of (centre_at (rows l.count l.m l.vertices) l.divisions h)) (up_from 0 l.h)) l.initial.out l.out l.initial.next l.next
    × (l.next ≤ l.initial.next + 21 * l.h)
