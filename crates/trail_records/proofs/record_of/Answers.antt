-- `trail_records::record_of` meets its contract: what T does tells which of three ways the record is made. Assumes
-- nothing.
use mathlib.Core.Path.{sym, ◌∙◌}
use native.Mathlib.Omega.{arith}
use Prim.Native.Nat.{◌<◌}
use borrow.Author.Tests.{eqb-false}
use Rattle.trail_records.specs.Records.{record_from}
use Rattle.trail_records.proofs.record_of.Goals as goal
use Rattle.trail_records.proofs.record_of.Goals.{After-difference-h}

pub returns-then-alike : goal.returns-then-alike
unfolding record_from
returns-then-alike c = rw (sym c.alike.ensures ∙ c.if-alike.true) c.exchanged.ensures

-- the sets differ at an index
low : (c : After-difference-h) → c.difference-h.result < 16
low c =
    let d = rw (← c.difference-h.ensures.0) at (sym c.alike.ensures ∙ c.if-alike.false) in
    omega (arith, c.difference-h.ensures.1, eqb-false c.difference-h.result 16 d)

pub has-requires : goal.has-requires
has-requires c = low c

pub joined-requires : goal.joined-requires
joined-requires c = (low (goal.at.joined-requires c).After-difference-h, c.requires.0)

pub returns-then-has : goal.returns-then-has
unfolding record_from
returns-then-has c =
    let h = c.difference-h.ensures.0 in
    let d = rw (← h) at (sym c.alike.ensures
    ∙ c.if-alike.false) in
    rw (← h, d, sym c.has.ensures ∙ c.if-has.true) c.joined.ensures

pub left-requires : goal.left-requires
left-requires c = (low (goal.at.left-requires c).After-difference-h, c.requires.1)

pub returns : goal.returns
unfolding record_from
returns c =
    let h = c.difference-h.ensures.0 in
    let d = rw (← h) at (sym c.alike.ensures
    ∙ c.if-alike.false) in
    rw (← h, d, sym c.has.ensures ∙ c.if-has.false) c.left.ensures
