-- `num_profiles` meets its contract: the product of the sizes passed. Assumes nothing.
use mathlib.Core.Path.{◌≡◌}
use lib.ListN.{take}
use Rattle.game_losses.specs.Game.{product}
use Rattle.game_losses.proofs.num_profiles.Given as goal

abbrev pub invariant-loop-size : goal.invariant-loop-size
invariant-loop-size l = l.count ≡ product (take l.size-index l.sizes)
