-- `put_nearest` meets its contract: the two numbers are stored one behind the other. Assumes nothing.
use mathlib.Core.Path.{sym}
use Rattle.combinatorics.proofs.Fronts.{front-none}
use Rattle.combinatorics.specs.Front.{front}
use Rattle.nearest_exports.proofs.put_nearest.Goals as goal

pub returns-in-Some : goal.returns-in-Some
unfolding front
returns-in-Some c = rw (c.in-Some.is, c.copy_from_slice.ensures.after)

pub returns-in_default : goal.returns-in_default
returns-in_default c = rw c.in_default.is (sym (front-none c.args.near.now))
