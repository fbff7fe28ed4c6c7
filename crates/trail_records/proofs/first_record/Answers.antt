-- `trail_records::first_record` meets its contract, by computation. Assumes nothing.
use native.Mathlib.Omega.{arith}
use mathlib.Core.Path.{refl}
use Rattle.combinatorics.specs.Front.{front}
use Rattle.trail_records.proofs.first_record.Goals as goal

-- src/lib.rt:148:9
-- src/lib.rt:149:9
-- src/lib.rt:144:1
pub returns : goal.returns
unfolding front
returns c = record {
  are = rw (c.low_byte-a.ensures, c.high_byte-b.ensures);
  long = refl;
  sized = omega arith;
  eight = refl;
}
