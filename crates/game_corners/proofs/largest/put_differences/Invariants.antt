-- `put_differences` meets its contract: the differences before the place reached are written. Assumes nothing.
use mathlib.Core.List.{List}
use mathlib.Core.Path.{◌≡◌}
use Prim.Native.Nat.{ℕ, ◌<◌}
use lib.IntN.{ℤ, pos, nat_abs, ◌-ℤ◌}
use Rattle.grid_points.specs.Grid.{at}
use Rattle.game_corners.specs.Corners.{signed_at}
use Rattle.game_corners.proofs.largest.put_differences.Given as goal

abbrev pub IsDifference : List ℕ → List ℕ → ℕ → ℤ → Type 0
IsDifference expected replaced i z = (z ≡ pos (at expected i) -ℤ pos (at replaced i)) × (nat_abs z < 4294967296)

abbrev pub invariant-loop-h : goal.invariant-loop-h
invariant-loop-h l =
    (i : ℕ) → i < l.h → IsDifference l.expected l.replaced i (signed_at l.differences i)
