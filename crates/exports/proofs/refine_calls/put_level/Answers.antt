-- `put_level` meets its contract: the facts are stored one behind the other. Assumes nothing.
use Rattle.combinatorics.specs.Front.{front}
use Rattle.exports.proofs.refine_calls.put_level.Goals as goal

pub returns : goal.returns
unfolding front
returns c = rw (c.copy_from_slice.ensures.after, c.from-2.ensures, c.from.ensures.0, c.from-3.ensures)
