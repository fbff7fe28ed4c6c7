-- `tables::fill_row` meets its contract. The invariant: the row is right before r, the entry before is last, and no
-- entry was spoilt. Assumes nothing.
use mathlib.Core.Path.{◌≡◌}
use Prim.Native.Nat.{ℕ, ◌+◌, ◌<◌}
use lib.ListN.{length}
use Rattle.combinatorics.specs.Counting.{choose}
use Rattle.positions.specs.Binomials.{IsBinomial, Keeps}
use Rattle.positions.proofs.tables.fill_row.Given as goal

abbrev pub invariant-loop-r : goal.invariant-loop-r
invariant-loop-r l =
    ((i : ℕ) → i + 1 ≡ l.r → l.last ≡ choose (i + l.k) l.k) × (length l.t ≡ 1255) × Keeps l.initial.t l.t
    × ((i : ℕ) → i < l.r → IsBinomial l.t l.k i)
