-- `coefficients::first_of` meets its contract. Assumes nothing.
use Rattle.walk_recogniser.proofs.Following.{follow-fits, follow-small, follow_more}
use native.Mathlib.Omega.{arith}
use Rattle.walk_recogniser.proofs.coefficients.first_of.Goals as goal

pub overflow_add-x : goal.overflow_add-x
overflow_add-x c =
    let a = c.args in
    let l = c.loop-h in
    omega (
      arith,
      follow-small c.requires.0 a.v.now a.y.now a.first a.end c.requires.1 l.h l.x l.least (omega arith) (omega arith)
          (l.invariant.1 c.requires.0 c.requires.1),
    )

pub overflow_sub-x : goal.overflow_sub-x
overflow_sub-x c =
    let a = c.args in
    let l = c.loop-h in
    omega (
      arith,
      follow-fits c.requires.0 a.v.now a.y.now a.first a.end c.requires.1 l.h l.x l.least (omega arith) (omega arith)
          (l.invariant.1 c.requires.0 c.requires.1),
    )

pub loop-h-preserved : goal.loop-h-preserved
loop-h-preserved c =
    let a = c.args in
    let l = c.loop-h in
    rw (c.min-least.ensures, c.from.ensures, c.from-in-loop-h.ensures) (
      omega arith,
      λ d D. follow_more d a.v.now a.y.now a.first a.end D l.h l.x l.least (omega arith) (omega arith)
          (l.invariant.1 d D),
    )
