-- `points::zeros` meets its contract. The invariant: the mask has the indices below h at which the point is 0. The
-- measure: the indices left. Assumes nothing.
use mathlib.Core.Path.{◌≡◌, ◌∙◌}
use native.Mathlib.Omega.{arith}
use Rattle.rules.proofs.ZeroMask.{no-zeros, zero_more, none_more}
use Rattle.arrays.proofs.points.zeros.Goals as goal
use Rattle.arrays.proofs.points.zeros.Goals.{then-y-h-eq0, else-y-h-eq0}

pub loop-h-init : goal.loop-h-init
loop-h-init c = (omega arith, omega arith, no-zeros c.args.y.now)

pub loop-h-preserved : goal.loop-h-preserved
loop-h-preserved c =
    let y = c.args.y.now in
    let l = c.loop-h in (
      omega arith,
      omega arith,
      elim c.if-y-h-eq0.branch [
        | then-y-h-eq0 w ↦ rw (w.u-is ∙ w.add-u.ensures) (zero_more y l.h l.u (omega arith) l.invariant.2 w.if-y-h-eq0.true)
        | else-y-h-eq0 w ↦ rw w.u-is (none_more y l.h l.u l.invariant.2 w.if-y-h-eq0.false)
      ],
    )

pub returns : goal.returns
returns c =
    let l = c.loop-h in
    let all-m : c.args.m ≡ l.h = omega arith in
    rw all-m l.invariant.2
