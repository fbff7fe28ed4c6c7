-- `trail_records::kept_record` meets its contract, by computation. Assumes nothing.
use mathlib.Core.Path.{refl}
use native.Mathlib.Omega.{arith}
use Rattle.combinatorics.specs.Front.{front}
use Rattle.trail_records.proofs.kept_record.Goals as goal

pub returns : goal.returns
unfolding front
returns c = record {
  are = rw (
    c.low_byte-a.ensures,
    c.high_byte-b.ensures,
    c.low_byte-c.ensures,
    c.high_byte-d.ensures,
  );
  long = refl;
  sized = omega arith;
  eight = refl;
}
