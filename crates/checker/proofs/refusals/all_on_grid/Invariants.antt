-- `refusals::all_on_grid` meets its contract. The invariant: what is asked of the points from k on. The measure: the
-- points left. Assumes nothing.
use mathlib.Core.List.{map}
use mathlib.Core.Path.{◌≡◌}
use Prim.Native.Nat.{◌-◌, ◌≤◌}
use Rattle.combinatorics.specs.Lists.{all, up_from}
use Rattle.grid_points.specs.Grid.{is_grid_point}
use Rattle.grid.specs.Made.{shape}
use Rattle.check_chains.specs.Listed.{listed, listed_at}
use Rattle.checker.proofs.refusals.all_on_grid.Given as goal

abbrev pub invariant-loop-k : goal.invariant-loop-k
invariant-loop-k l = (l.k ≤ l.count)
    × (all (is_grid_point (shape l.g)) (listed l.g.indices l.count l.numbers)
    ≡ all (is_grid_point (shape l.g)) (map (listed_at l.g.indices l.numbers) (up_from l.k (l.count - l.k))))
