-- `profiles_behind` meets its contract: what is counted and what is left make the whole. Assumes nothing.
use mathlib.Core.List.{[]}
use mathlib.Core.Path.{◌≡◌}
use Prim.Native.Nat.{◌*◌}
use Rattle.grid_points.specs.Grid.{lent}
use Rattle.game_weighed.specs.Levels.{behind}
use Rattle.game_weighed.proofs.lengths.profiles_behind.Given as goal

abbrev pub invariant-loop-j : goal.invariant-loop-j
invariant-loop-j l =
    l.count * behind (lent l.sizes []) l.player l.j ≡ behind (lent l.sizes []) l.player l.fn.first
