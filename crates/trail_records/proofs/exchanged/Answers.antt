-- `trail_records::exchanged` meets its contract: where U is kept too the record is that of rule 1, else by computation.
-- Assumes nothing.
use mathlib.Core.Bool.{false}
use mathlib.Core.Path.{◌≡◌, refl, sym, ◌∙◌}
use Prim.Native.Nat.{◌<◌}
use borrow.Author.Tests.{eqb-false}
use lib.Dec.{eqb}
use native.Mathlib.Omega.{arith}
use Rattle.combinatorics.specs.Front.{front}
use Rattle.trail_records.proofs.exchanged.Goals as goal
use Rattle.trail_records.proofs.exchanged.Goals.{After-difference-h}

pub returns-then-alike : goal.returns-then-alike
returns-then-alike c = rw (sym c.alike.ensures ∙ c.if-alike.true) c.kept_record.ensures

-- the sets differ at an index
apart : (c : After-difference-h) → eqb c.difference-h.result 16 ≡ false
apart c = rw (← c.difference-h.ensures.0) at (sym c.alike.ensures
    ∙ c.if-alike.false)

low : (c : After-difference-h) → c.difference-h.result < 16
low c = omega (arith, c.difference-h.ensures.1, eqb-false c.difference-h.result 16 (apart c))

pub from_one-i-requires : goal.from_one-i-requires
from_one-i-requires c = low c

pub has-requires : goal.has-requires
has-requires c = low (goal.at.has-requires c).After-difference-h

pub returns-then-has : goal.returns-then-has
unfolding front
returns-then-has c =
    let b = sym c.has.ensures ∙ c.if-has.true in
    record {
      are = rw (
        ← c.difference-h.ensures.0,
        apart (goal.at.returns-then-has c).After-difference-h,
        b,
        c.low_byte-a.ensures,
        c.high_byte-b.ensures,
        c.low_byte-c.ensures,
        c.high_byte-d.ensures,
        c.from_one-i.ensures,
      );
      long = rw (← c.difference-h.ensures.0, apart (goal.at.returns-then-has c).After-difference-h, b);
      sized = rw (← c.difference-h.ensures.0, apart (goal.at.returns-then-has c).After-difference-h, b) (omega arith);
      eight = refl;
    }

pub returns : goal.returns
unfolding front
returns c =
    let b = sym c.has.ensures ∙ c.if-has.false in
    record {
      are = rw (
        ← c.difference-h.ensures.0,
        apart (goal.at.returns c).After-difference-h,
        b,
        c.low_byte-a.ensures,
        c.high_byte-b.ensures,
        c.low_byte-c.ensures,
        c.high_byte-d.ensures,
        c.from_one-i.ensures,
      );
      long = rw (← c.difference-h.ensures.0, apart (goal.at.returns c).After-difference-h, b);
      sized = rw (← c.difference-h.ensures.0, apart (goal.at.returns c).After-difference-h, b) (omega arith);
      eight = refl;
    }
