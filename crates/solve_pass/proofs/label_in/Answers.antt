-- `label_in` meets its contract: the steps of the order lead to the point, whose label is worked out. Assumes nothing.
use Rattle.std.proofs.Common.{sym, ap, ◌∙◌, arith}
use lib.Seq.{length-take-le}
use Rattle.game_weighed.specs.Levels.{game_grid}
use Rattle.solve_pass.proofs.Points.{point-is, ready-steps}
use Rattle.game_losses.specs.Game.{game_label}
use Rattle.solve_pass.proofs.label_in.Goals as goal

pub advance-requires : goal.advance-requires
advance-requires c =
    let a = c.args in
    record { indices_below = c.requires.below; ready_point = ready-steps a.round.now a.held.now a.s c.requires }

pub slice_bounds-point-end : goal.slice_bounds-point-end
slice_bounds-point-end c = let w = c.requires in omega (arith, w.many, w.game.grid.few_indices)

pub slice_bounds-label_at-end : goal.slice_bounds-label_at-end
slice_bounds-label_at-end c =
    let w = c.requires in sym (length-take-le _ _ (omega (arith, w.many, w.game.grid.few_indices)))

pub label_at-seen-requires : goal.label_at-seen-requires
label_at-seen-requires c =
    let a = c.args in
    record {
      game_at = rw (point-is a.round.now a.held.now a.s c.requires c.advance.new.y c.advance.ensures) c.requires.game;
      rests = c.requires.resting;
    }

pub returns : goal.returns
returns c =
    let a = c.args in
    c.label_at-seen.ensures.0
    ∙ ap (game_label (game_grid a.game.now) a.game.now.losses.now)
    (point-is a.round.now a.held.now a.s c.requires c.advance.new.y c.advance.ensures)
