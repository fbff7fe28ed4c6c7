-- The measure of `weigh` is what is left of the blocks, and a block of an opponent is summed over its strategies.
-- Assumes nothing.
use mathlib.Core.List.{[]}
use mathlib.Core.Path.{◌≡◌}
use Prim.Native.Nat.{◌+◌, ◌-◌}
use lib.ListN.{length, drop}
use Rattle.grid_points.specs.Grid.{lent}
use Rattle.game_losses.specs.Game.{dot, mix}
use Rattle.game_losses.specs.Weights.{weighed}
use Rattle.game_point.specs.Weighing.{weights_from}
use Rattle.game_point.proofs.weighing.+weigh.Given as goal

abbrev pub decreases-weigh : goal.decreases-weigh
decreases-weigh l = length l.game.now.sizes.now - l.block

abbrev pub invariant-loop-k : goal.invariant-loop-k
invariant-loop-k l =
    let g = lent l.game.sizes.now [] in
    let shares = mix g l.point l.block in
    let values = weighed l.size (weights_from g l.point l.player (l.block + 1)) l.losses in
    l.total + dot (drop l.k shares) (drop l.k values) ≡ dot shares values
