-- `weigh_point` meets its contract: the losses of the players passed stand at their indices. Assumes nothing.
use mathlib.Core.Path.{sym}
use native.Mathlib.Omega.{arith}
use Rattle.combinatorics.proofs.Fronts.{front-none}
use Rattle.grid_points.specs.Grid.{lent}
use Rattle.game_losses.proofs.Player.{filled_turn}
use Rattle.game_losses.specs.Game.{player_loss, replaced_loss}
use Rattle.game_losses.proofs.point.weigh_point.Goals as goal

pub loop-player-init : goal.loop-player-init
loop-player-init c =
    let a = c.args in (
      (λ t s. sym (front-none a.expected.now)),
      (λ t s. sym (front-none a.replaced.now)),
    )

pub loop-player-preserved : goal.loop-player-preserved
loop-player-preserved c =
    let l = c.loop-player in
    let w = c.weigh_player in
    let g = lent c.args.sizes.now c.args.divisions.now in (
      (λ t stand. rw (w.ensures.expected_after t stand, l.invariant.0 t stand)
          (filled_turn (player_loss g t c.args.point.now) c.args.sizes.now c.args.expected.now l.player
          (omega arith) c.requires.1.of_expected)),
      (λ t stand. rw (w.ensures.replaced_after t stand, l.invariant.1 t stand)
          (filled_turn (replaced_loss g t c.args.point.now) c.args.sizes.now c.args.replaced.now
          l.player (omega arith) c.requires.1.of_replaced)),
    )
