-- `nesting::sets_of` meets its contract. The invariant: the points so far have their sets. The measure: the points
-- left. Assumes nothing.
use mathlib.Core.Bool.{Bool}
use mathlib.Core.List.{map}
use mathlib.Core.Path.{◌≡◌}
use Prim.Native.Nat.{◌-◌, ◌≤◌}
use lib.ListN.{length}
use Rattle.combinatorics.specs.Lists.{all, up_from}
use Rattle.grid_points.specs.Grid.{Point}
use Rattle.grid.specs.Made.{shape}
use Rattle.grid.specs.declared.Grid.{Grid as GridStruct}
use Rattle.check_simplices.specs.Chains.{coefficients_from, zero_or_one}
use Rattle.check_chains.specs.Listed.{listed, listed_at, AreSets}
use Rattle.check_chains.proofs.nesting.sets_of.Given as goal

-- a point has a set
abbrev pub zero_or_one_from : GridStruct → Point → Point → Bool
zero_or_one_from g p z = zero_or_one (shape g) (coefficients_from (shape g) p z)

abbrev pub invariant-loop-k : goal.invariant-loop-k
invariant-loop-k l = (l.k ≤ l.count) × (length l.sets ≡ 16) × AreSets l.g l.p l.numbers l.k l.sets
    × (all (zero_or_one_from l.g l.p) (listed l.g.indices l.count l.numbers)
    ≡ all (zero_or_one_from l.g l.p) (map (listed_at l.g.indices l.numbers) (up_from l.k (l.count - l.k))))
