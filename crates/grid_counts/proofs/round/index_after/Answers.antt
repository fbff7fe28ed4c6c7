-- `round::index_after` meets its contract. Assumes nothing.
use Prim.Native.Nat.{suc, ◌+◌}
use borrow.Author.Tests.{eq-eqb, ne_eqb}
use native.Mathlib.Omega.{arith}
use Rattle.grid_counts.proofs.round.index_after.Goals as goal

pub returns-then-h-first : goal.returns-then-h-first
returns-then-h-first c = let a = c.args in rw (eq-eqb (suc a.h) (a.first + a.size) (omega arith))

pub returns-else-h-first : goal.returns-else-h-first
returns-else-h-first c = let a = c.args in rw (ne_eqb (suc a.h) (a.first + a.size) (λ e. omega arith)) (omega arith)
