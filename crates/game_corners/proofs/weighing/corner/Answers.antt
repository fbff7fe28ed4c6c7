-- `corner` meets its contract: the coordinates before the last player's are copied. Assumes nothing.
use mathlib.Core.Path.{◌≡◌}
use native.Mathlib.Omega.{arith}
use lib.ListN.{length, take}
use lib.Seq.{length-take-le}
use Rattle.combinatorics.specs.Front.{front}
use Rattle.game_corners.proofs.weighing.corner.Goals as goal

pub returns : goal.returns
unfolding front
returns c =
    let a = c.args in
    let copied : c.copy_from_slice.new.self ≡ take a.first a.point.now = c.copy_from_slice.ensures.after in
    let long : length (take a.first a.point.now) ≡ a.first = length-take-le a.first a.point.now (omega arith) in
    rw (copied, long)
