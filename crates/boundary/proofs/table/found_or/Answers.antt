-- `found_or` meets its contract. Assumes nothing.
use borrow.Author.Tests.{eq-eqb, ne_eqb}
use Rattle.boundary.proofs.table.found_or.Goals as goal

pub returns-then-found-eq0 : goal.returns-then-found-eq0
returns-then-found-eq0 c = rw (eq-eqb c.args.found 0 c.if-found-eq0.true)

pub returns-else-found-eq0 : goal.returns-else-found-eq0
returns-else-found-eq0 c = rw (ne_eqb c.args.found 0 c.if-found-eq0.false)
