-- `counts::next_row` meets its contract. The invariant: before k stand the binomials of the next row, from k on
-- those of the old one. Assumes nothing.
use mathlib.Core.Path.{◌≡◌}
use Prim.Native.Nat.{ℕ, ◌≤◌}
use lib.ListN.{length, get_or}
use Rattle.grid_counts.specs.Capped.{IsRow}
use Rattle.grid_counts.proofs.Capped.{Raised}
use Rattle.grid_counts.proofs.counts.next_row.Given as goal

abbrev pub invariant-loop-k : goal.invariant-loop-k
invariant-loop-k l = (length l.row ≡ 16) × ((i : ℕ) → i ≤ l.last → get_or l.row i 0 ≤ 60001)
    × ((r : ℕ) → IsRow r l.last l.initial.row → Raised r l.last l.k l.row)
