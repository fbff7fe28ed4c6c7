-- `add_rows` meets its contract: the rows passed are weighed and added up. Assumes nothing.
use mathlib.Core.Path.{◌≡◌}
use Prim.Native.Nat.{ℕ, ◌*◌, ◌≤◌, ◌<◌}
use lib.IntN.{nat_abs}
use lib.ListN.{length, take}
use Rattle.game_corners.specs.Corners.{signed_at, column}
use Rattle.game_corners.proofs.labels.add_rows.Given as goal

abbrev pub invariant-loop-k : goal.invariant-loop-k
invariant-loop-k l =
    ((h : ℕ) → h < l.count
    → (signed_at l.totals h ≡ column (take l.k l.mix) l.rows h) × (nat_abs (signed_at l.totals h) ≤ l.k * 281474976710656))
    × (length l.totals ≡ 16)
