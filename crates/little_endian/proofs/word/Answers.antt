-- `little_endian::word` meets its contract. Assumes nothing.
use native.Mathlib.Omega.{arith}
use Rattle.little_endian.specs.Numbers.{number}
use Rattle.little_endian.proofs.word.Goals as goal

pub returns : goal.returns
unfolding number
returns c = omega (arith, c.from_le_bytes.ensures)
