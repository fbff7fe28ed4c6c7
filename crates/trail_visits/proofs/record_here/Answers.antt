-- `trail_visits::record_here` meets its contract. Assumes nothing.
use borrow.Author.Tests.{eq-eqb, ne_eqb}
use Rattle.trail_visits.proofs.record_here.Goals as goal

pub returns-then-at-eq0 : goal.returns-then-at-eq0
returns-then-at-eq0 c = rw (
  eq-eqb c.args.at 0 c.if-at-eq0.true,
  ← c.position_at-come.ensures.0,
) c.first_record.ensures

pub returns : goal.returns
returns c = rw (
  ne_eqb c.args.at 0 c.if-at-eq0.false,
  ← c.position_at-come.ensures.0,
) c.record_of.ensures
