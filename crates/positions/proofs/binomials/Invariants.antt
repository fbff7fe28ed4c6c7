-- `binomials` meets its contract. The invariant: the blocks so far have their rows. Assumes nothing.
use mathlib.Core.Path.{◌≡◌}
use Prim.Native.Nat.{ℕ, ◌≤◌, ◌<◌}
use lib.ListN.{length}
use Rattle.grid.specs.Made.{shape}
use Rattle.grid_points.specs.Grid.{size, division}
use Rattle.positions.specs.Binomials.{HasRows}
use Rattle.positions.proofs.binomials.Given as goal

abbrev pub invariant-loop-j : goal.invariant-loop-j
invariant-loop-j l =
    (length l.t ≡ 1255)
    × ((i : ℕ) → i < l.j → HasRows (size (shape l.g) i) (division (shape l.g) i) l.t)
    × (l.g.blocks ≤ 6)
