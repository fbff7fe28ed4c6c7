-- `trail_records::joined` meets its contract, by computation. Assumes nothing.
use mathlib.Core.Path.{refl, sym, ◌∙◌}
use native.Mathlib.Omega.{arith}
use Rattle.combinatorics.specs.Front.{front}
use Rattle.trail_records.proofs.joined.Goals as goal

pub returns-then-alike : goal.returns-then-alike
unfolding front
returns-then-alike c =
    let d = sym c.alike.ensures ∙ c.if-alike.true in
    record {
      are = rw (
        d,
        c.low_byte-a.ensures,
        c.high_byte-b.ensures,
        c.from_one-i.ensures,
      );
      long = rw d;
      sized = rw d (omega arith);
      eight = refl;
    }

pub returns : goal.returns
unfolding front
returns c =
    let d = sym c.alike.ensures ∙ c.if-alike.false in
    record {
      are = rw (
        d,
        c.low_byte-a.ensures,
        c.high_byte-b.ensures,
        c.from_one-i.ensures,
      );
      long = rw d;
      sized = rw d (omega arith);
      eight = refl;
    }
