-- `beginning::copied` meets its contract. Assumes nothing.
use Rattle.combinatorics.specs.Front.{front}
use Rattle.walk_views.proofs.beginning.copied.Goals as goal

pub returns : goal.returns
unfolding front
returns c = rw c.copy_from_slice.ensures.after
