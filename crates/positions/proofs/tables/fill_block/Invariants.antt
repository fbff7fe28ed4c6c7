-- `tables::fill_block` meets its contract. The invariant: the rows before k are right, and no entry was spoilt.
-- Assumes nothing.
use mathlib.Core.Path.{◌≡◌}
use lib.ListN.{length}
use Rattle.positions.specs.Binomials.{HasRows, Keeps}
use Rattle.positions.proofs.tables.fill_block.Given as goal

abbrev pub invariant-loop-k : goal.invariant-loop-k
invariant-loop-k l = (length l.t ≡ 1255) × Keeps l.initial.t l.t × HasRows l.k l.division l.t
