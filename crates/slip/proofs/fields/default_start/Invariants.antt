-- `slip::fields::default_start` meets its contract. The invariant: the coordinates of the indices so far stand at the
-- front. Assumes nothing.
use mathlib.Core.List.{map}
use mathlib.Core.Path.{◌≡◌}
use Prim.Native.Nat.{◌≤◌}
use Rattle.combinatorics.specs.Lists.{up_from}
use Rattle.combinatorics.specs.Front.{padded}
use Rattle.grid.specs.Made.{shape}
use Rattle.slip_fields.specs.Slip.{default_coordinate}
use Rattle.slip.proofs.fields.default_start.Given as goal

abbrev pub invariant-loop-h : goal.invariant-loop-h
invariant-loop-h l =
    (l.start ≡ padded 16 (map (default_coordinate (shape l.grid)) (up_from 0 l.h))) × (l.grid.indices ≤ 16)
