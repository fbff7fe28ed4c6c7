-- `nearest::put_list` meets its contract: the part that is copied has n positions. Assumes nothing.
use lib.Seq.{length-take-le}
use Rattle.combinatorics.specs.Front.{front}
use Rattle.nearest.proofs.put_list.Goals as goal

pub returns : goal.returns
unfolding front
returns c = rw (c.copy_from_slice.ensures.after, length-take-le c.args.n c.args.found.now c.requires.1)
