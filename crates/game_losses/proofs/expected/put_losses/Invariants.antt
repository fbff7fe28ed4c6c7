-- `put_losses` meets its contract: the losses of the strategies passed stand in both arrays. Assumes nothing.
use Prim.Native.Nat.{◌*◌}
use mathlib.Core.List.{map}
use mathlib.Core.Path.{◌≡◌}
use lib.ListN.{length, take, replicate}
use lib.Seq.{paste}
use Rattle.game_losses.specs.Game.{dot}
use Rattle.game_losses.proofs.expected.put_losses.Given as goal

abbrev pub invariant-loop-k : goal.invariant-loop-k
invariant-loop-k l =
    (l.expected ≡ paste l.initial.expected l.first (replicate (length l.mix) (dot l.mix l.values)) l.k)
    × (l.replaced ≡ paste l.initial.replaced l.first (map (λ v. l.division * v) (take (length l.mix) l.values)) l.k)
