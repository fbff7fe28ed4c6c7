-- `first_largest` meets its contract: the best index leads those passed. Assumes nothing.
use mathlib.Core.Path.{◌≡◌, sym}
use native.Mathlib.Omega.{arith}
use Rattle.game_losses.proofs.FirstLargest.{leads_end}
use Rattle.game_corners.specs.Corners.{signed_at}
use Rattle.game_corners.proofs.largest.first_largest.Goals as goal

pub returns : goal.returns
returns c =
    let l = c.loop-h in
    let a = c.args in
    let e : l.h ≡ a.count = omega arith in (
      sym (leads_end (signed_at a.differences.now) l.best _ a.count (rw e at l.invariant)),
      omega (arith, l.invariant.inside),
    )
