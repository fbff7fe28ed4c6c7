-- `num_profiles` meets its contract: the product of the sizes passed. Assumes nothing.
use Prim.Native.Nat.{◌+◌}
use native.Mathlib.Omega.{arith}
use Rattle.game_losses.proofs.Table.{product-next, first_few}
use Rattle.game_losses.proofs.num_profiles.Goals as goal

pub overflow_mul-count : goal.overflow_mul-count
overflow_mul-count c =
    let l = c.loop-size in
    let ss = c.args.sizes.now in
    record {
      fits = rw (c.from-count.ensures, l.invariant, product-next ss l.size-index (omega arith))
          (omega (arith, first_few ss (l.size-index + 1) c.requires));
    }

pub loop-size-preserved : goal.loop-size-preserved
loop-size-preserved c =
    let l = c.loop-size in
    rw (c.from-count.ensures, l.invariant) (product-next c.args.sizes.now l.size-index (omega arith))
