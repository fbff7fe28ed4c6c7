-- `refinement_questions::later::room_of` meets its contract: n is m less the number of blocks. Assumes nothing.
use native.Mathlib.Omega.{arith}
use Rattle.finder.proofs.Refusals.{fewer_blocks, room-is, room_small}
use Rattle.refinement_questions.proofs.later.room_of.Goals as goal

pub overflow_sub-result : goal.overflow_sub-result
overflow_sub-result c = omega (arith, fewer_blocks c.args.grid c.requires)

pub overflow_add-result : goal.overflow_add-result
overflow_add-result c = omega (arith, room_small c.args.grid c.requires)

pub overflow_mul-result : goal.overflow_mul-result
overflow_mul-result c = omega (arith, room_small c.args.grid c.requires)

pub returns : goal.returns
returns c = (room-is c.args.grid c.requires, room_small c.args.grid c.requires)
