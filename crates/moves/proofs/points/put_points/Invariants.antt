-- `put_points` meets its contract. The invariant: the points before number i stand at the front of the buffer.
-- Assumes nothing.
use Rattle.std.proofs.Common.{List, ℕ, ◌≡◌, ◌-◌, ◌*◌, length, take}
use Rattle.combinatorics.specs.Front.{front}
use Rattle.rules.specs.Read.{point_after}
use Rattle.rules.specs.Moves.{source}
use Rattle.rules.proofs.PointsAfter.{in_row}
use Rattle.moves.proofs.points.put_points.Given as goal

-- the first m numbers of point j
abbrev pub row : (ℕ → ℕ) → List ℕ → List ℕ → ℕ → ℕ → List ℕ
row from first order m j = take m (point_after from order first j)

abbrev pub invariant-loop-i : goal.invariant-loop-i
invariant-loop-i l =
    (l.buf ≡ front (in_row (row (source l.round l.s.u) l.held.first l.held.order l.m) l.from (l.i - l.from)) l.initial.buf)
    × (l.position ≡ (l.i - l.from) * l.m)
    × (length l.buf ≡ length l.initial.buf)
