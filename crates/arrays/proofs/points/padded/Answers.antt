-- `points::padded` meets its contract. Assumes nothing.
use Rattle.std.proofs.Common.{refl, arith}
use lib.Seq.{length-take-le}
use Rattle.combinatorics.specs.Front.{front}
use Rattle.arrays.proofs.points.padded.Goals as goal

pub returns : goal.returns
unfolding front
returns c = rw (c.copy_from_slice.ensures.after, length-take-le c.args.m c.args.y.now (omega arith)) refl
