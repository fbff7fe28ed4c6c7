-- Labels put into marks one after the other. Assumes nothing.
use mathlib.Core.List.{List}
use mathlib.Core.Path.{◌≡◌}
use Prim.Native.Nat.{ℕ, ◌+◌, ◌≤◌, ◌<◌}
use lib.ListN.{length, get_or}
use Rattle.grid_points.specs.Grid.{at}
use Rattle.rules.specs.Moves.{mark_position}

-- a mark with the label at its position
abbrev pub read : List ℕ → ℕ → ℕ
read table m = m + get_or table (mark_position m) 0

-- the first k marks have their labels, the others are as before
pub record PutBelow (table old new : List ℕ) (k : ℕ) : Type 0 where
  pub long : length new ≡ 16
  pub each : (j : ℕ) → j < k → at new j ≡ read table (at old j)
  pub rest : (j : ℕ) → k ≤ j → at new j ≡ at old j
