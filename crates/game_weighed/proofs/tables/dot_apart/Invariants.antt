-- `dot_apart` meets its contract: what is summed and what is left make the whole sum. Assumes nothing.
use mathlib.Core.Path.{◌≡◌}
use Prim.Native.Nat.{◌+◌, ◌*◌}
use lib.ListN.{drop}
use Rattle.grid_points.specs.Grid.{at as number}
use Rattle.game_weighed.specs.Levels.{blend}
use Rattle.game_weighed.proofs.tables.dot_apart.Given as goal

abbrev pub invariant-loop-k : goal.invariant-loop-k
invariant-loop-k l =
    (l.total + blend (drop l.k l.mix) (λ i. number l.values ((l.k + i) * l.step)) ≡ blend l.mix (λ i. number l.values (i * l.step)))
