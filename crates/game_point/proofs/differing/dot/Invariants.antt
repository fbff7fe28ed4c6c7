-- `dot` meets its contract: what is summed and what is left make the whole sum. Assumes nothing.
use Prim.Native.Nat.{◌+◌}
use mathlib.Core.Path.{◌≡◌}
use lib.ListN.{drop}
use Rattle.game_losses.specs.Game.{dot}
use Rattle.game_point.proofs.differing.dot.Given as goal

abbrev pub invariant-loop-i : goal.invariant-loop-i
invariant-loop-i l = l.total + dot (drop l.i l.mix) (drop l.i l.values) ≡ dot l.mix l.values
