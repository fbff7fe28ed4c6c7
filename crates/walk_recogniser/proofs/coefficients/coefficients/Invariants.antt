-- `coefficients::coefficients` meets its contract. The invariant: the coefficients of the first j blocks are stored.
-- Assumes nothing.
use mathlib.Core.Path.{◌≡◌}
use Prim.Native.Nat.{ℕ, ◌<◌}
use lib.ListN.{length, take}
use Rattle.grid_points.specs.Grid.{at, first_index}
use Rattle.grid.specs.Made.{shape}
use Rattle.place.specs.Coefficients.{coefficients as coefficients_of}
use Rattle.walk_recogniser.specs.Pieces.{started_on}
use Rattle.walk_recogniser.proofs.coefficients.coefficients.Given as goal

abbrev pub invariant-loop-j : goal.invariant-loop-j
invariant-loop-j l = (length l.list ≡ 16)
    × ((k : ℕ) → k < first_index (shape l.g) l.j
    → at l.list k ≡ at (coefficients_of (started_on l.g l.v) (take l.g.indices l.y)) k)
