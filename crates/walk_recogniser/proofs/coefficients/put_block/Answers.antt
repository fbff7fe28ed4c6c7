-- `coefficients::put_block` meets its contract. Assumes nothing.
use mathlib.Core.Path.{◌≡◌}
use Rattle.walk_recogniser.proofs.Following.{put_on, put_more}
use native.Mathlib.Omega.{arith}
use Rattle.walk_recogniser.proofs.coefficients.put_block.Goals as goal

pub loop-h-preserved : goal.loop-h-preserved
loop-h-preserved c =
    let a = c.args in
    let l = c.loop-h in
    rw (c.from.ensures, c.from-in-loop-h.ensures) (λ d D e.
    let F = l.invariant d D e in (
      put_on d a.v.now a.y.now a.first a.end D l.h l.x (omega arith) (omega arith) F.0,
      put_more d a.v.now a.y.now a.first a.end D l.h l.x (omega arith) (omega arith) F.0 a.list.now l.list F.1,
    ))

pub returns : goal.returns
returns c = let l = c.loop-h in
    let z : l.h ≡ c.args.end = omega arith in
    λ d D e. rw (← z) (l.invariant d D e).1
