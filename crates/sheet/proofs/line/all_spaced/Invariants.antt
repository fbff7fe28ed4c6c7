-- `line::all_spaced` meets its contract: after i turns the first i numbers are written, in at most 6 bytes each.
-- Assumes nothing.
use mathlib.Core.List.{flat_map}
use Prim.Native.Nat.{◌+◌, ◌*◌, ◌≤◌}
use lib.ListN.{take}
use Rattle.text.specs.Part.{Part}
use Rattle.text.specs.Line.{spaced as spaced_of}
use Rattle.sheet.proofs.line.all_spaced.Given as goal

abbrev pub invariant-loop-number : goal.invariant-loop-number
invariant-loop-number l =
    Part (flat_map spaced_of (take l.number-index l.row)) l.initial.out l.out l.at l.next × (l.next ≤ l.at + 6 * l.number-index)
