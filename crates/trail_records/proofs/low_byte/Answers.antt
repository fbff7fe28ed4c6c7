-- `trail_records::low_byte` meets its contract: the lowest 8 bits of a number are what is left of it by 256. Assumes
-- nothing.
use lib.Bits.{and_mask}
use native.Mathlib.Omega.{arith}
use Rattle.trail_records.proofs.low_byte.Goals as goal

pub overflow_cast-result : goal.overflow_cast-result
overflow_cast-result c = omega (arith, and_mask c.args.n 8)

pub returns : goal.returns
returns c = and_mask c.args.n 8
