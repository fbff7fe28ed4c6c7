-- `nesting::one_chain` meets its contract. The invariant: what is asked of the points from k on. The measure: the
-- points left. Assumes nothing.
use mathlib.Core.List.{map}
use mathlib.Core.Path.{◌≡◌}
use Prim.Native.Nat.{◌-◌, ◌≤◌}
use Rattle.combinatorics.specs.Lists.{any, up_from}
use Rattle.grid.specs.Made.{shape}
use Rattle.check_simplices.specs.Chains.{chain_from, one_chain}
use Rattle.check_chains.specs.Listed.{listed, listed_at}
use Rattle.check_chains.proofs.nesting.one_chain.Given as goal

abbrev pub invariant-loop-k : goal.invariant-loop-k
invariant-loop-k l = (l.k ≤ l.count)
    × (one_chain (shape l.g) (listed l.g.indices l.count l.numbers)
    ≡ any (chain_from (shape l.g) (listed l.g.indices l.count l.numbers))
    (map (listed_at l.g.indices l.numbers) (up_from l.k (l.count - l.k))))
