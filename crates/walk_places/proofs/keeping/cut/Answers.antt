-- `keeping::cut` meets its contract. Assumes nothing.
use mathlib.Core.Path.{◌≡◌}
use lib.ListN.{length, take}
use lib.Seq.{length-take-le}
use Rattle.combinatorics.specs.Front.{front}
use native.Mathlib.Omega.{arith}
use Rattle.walk_places.proofs.keeping.cut.Goals as goal

pub returns : goal.returns
unfolding front
returns c =
    let a = c.args in
    let long : length (take a.n a.order.now) ≡ a.n = length-take-le a.n a.order.now (omega arith) in
    rw (c.copy_from_slice.ensures.after, long)
