-- `round::index_before` meets its contract. Assumes nothing.
use Prim.Native.Nat.{◌+◌}
use borrow.Author.Tests.{eq-eqb, ne_eqb}
use native.Mathlib.Numerals.{sub-one}
use Rattle.grid_counts.proofs.round.index_before.Goals as goal

pub returns-then-h-first : goal.returns-then-h-first
returns-then-h-first c = let a = c.args in rw (eq-eqb a.h a.first c.if-h-first.true) (sub-one (a.first + a.size))

pub returns-else-h-first : goal.returns-else-h-first
returns-else-h-first c = let a = c.args in rw (ne_eqb a.h a.first c.if-h-first.false) (sub-one a.h)
