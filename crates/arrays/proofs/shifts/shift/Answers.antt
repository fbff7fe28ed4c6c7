-- `shifts::shift` meets its contract. What is taken from is positive also where 1 was added to it. Assumes nothing.
use Rattle.rules.proofs.ChangedBefore.{raised-positive}
use Rattle.arrays.proofs.shifts.shift.Goals as goal

pub overflow_sub-y : goal.overflow_sub-y
overflow_sub-y c = let a = c.args in raised-positive a.y.now a.h a.b c.requires.h_bound_2.1
