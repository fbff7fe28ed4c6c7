-- `falls::tails` meets its contract. The invariant: the tails from k on stand in the array, and the last is that of k.
-- Assumes nothing.
use mathlib.Core.Path.{◌≡◌}
use Prim.Native.Nat.{ℕ, ◌-◌, ◌*◌, ◌≤◌, ◌<◌}
use lib.ListN.{length}
use Rattle.grid_points.specs.Grid.{at}
use Rattle.positions.proofs.ByTails.{tail}
use Rattle.positions.proofs.falls.tails.Given as goal

abbrev pub invariant-loop-k : goal.invariant-loop-k
invariant-loop-k l = (l.last ≤ 65535 * (l.m - l.k)) × (l.last ≡ tail l.y l.k (l.m - l.k))
    × (length l.sums ≡ 16) × ((i : ℕ) → l.k ≤ i → i < l.m → at l.sums i ≡ tail l.y i (l.m - i))
