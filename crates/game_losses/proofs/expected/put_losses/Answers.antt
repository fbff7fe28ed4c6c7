-- `put_losses` meets its contract: the losses of the strategies passed stand in both arrays. Assumes nothing.
use native.Mathlib.Omega.{arith}
use Rattle.game_losses.proofs.Weights.{expected_written, replaced-written, times-fit}
use Rattle.game_losses.specs.Game.{dot}
use Rattle.game_losses.proofs.expected.put_losses.Goals as goal

pub overflow_mul-replaced : goal.overflow_mul-replaced
overflow_mul-replaced c =
    record {
      fits = rw c.from.ensures
          (times-fit c.args.replaced.now c.args.mix.now c.args.values.now c.args.first
          c.loop-k.k (omega arith) (omega arith) c.args.division (omega arith)
          c.requires.0.replaced_fit);
    }

pub loop-k-preserved : goal.loop-k-preserved
loop-k-preserved c =
    let l = c.loop-k in
    let a = c.args in (
      rw (l.invariant.0, c.dot-loss.ensures)
          (expected_written a.expected.now a.mix.now a.values.now a.first l.k (omega arith)
          (omega arith) (dot a.mix.now a.values.now)),
      rw (l.invariant.1, c.from.ensures)
          (replaced-written a.replaced.now a.mix.now a.values.now a.first l.k (omega arith)
          (omega arith) a.division (omega arith)),
    )
