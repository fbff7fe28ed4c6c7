-- `strategy_losses` meets its contract: the losses of the indices passed stand in the array. Assumes nothing.
use mathlib.Core.List.{[]}
use mathlib.Core.Path.{◌≡◌}
use native.Mathlib.Omega.{arith}
use lib.ListN.{length, length-set}
use Rattle.grid_points.proofs.Points.{point-long}
use Rattle.grid_points.specs.Grid.{lent, num_indices}
use Rattle.game_weighed.proofs.Writing.{entries_turn}
use Rattle.game_point.specs.Label.{own_loss}
use Rattle.game_point.proofs.strategies.strategy_losses.Goals as goal
use Rattle.game_point.proofs.strategies.strategy_losses.Goals.{Start}

long : (c : Start) → length c.args.point.now ≡ num_indices (lent c.args.game.now.sizes.now [])
long c =
    point-long (lent c.args.game.now.sizes.now c.requires.by_index.0) c.args.point.now c.requires.by_index.1.is_point

pub strategy_loss-requires-clause-count_value : goal.strategy_loss-requires-clause-count_value
strategy_loss-requires-clause-count_value c = (
  c.num_profiles-count.ensures,
  omega (arith, long (goal.at.strategy_loss-requires-clause-count_value c).Start),
)

pub offset_bounds-values-h : goal.offset_bounds-values-h
offset_bounds-values-h c =
    omega (arith, long (goal.at.offset_bounds-values-h c).Start, c.requires.by_index.1.grid.few_indices)

pub bounds-values-h : goal.bounds-values-h
bounds-values-h c =
    omega (arith, long (goal.at.bounds-values-h c).Start, c.requires.by_index.1.grid.few_indices)

pub loop-h-preserved : goal.loop-h-preserved
loop-h-preserved c =
    let l = c.loop-h in (
      entries_turn (own_loss (lent c.args.game.now.sizes.now []) c.args.game.now.losses.now c.args.point.now) l.values
          l.h _ (omega (arith, long (goal.at.loop-h-preserved c).Start, c.requires.by_index.1.grid.few_indices))
          c.strategy_loss.ensures l.invariant.0,
      simp length-set l.invariant.1,
    )

pub returns : goal.returns
returns c = λ h b. c.loop-h.invariant.0 h (omega (arith, long (goal.at.returns c).Start))
