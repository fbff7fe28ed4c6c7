-- The labels of all points, one point after the other. Assumes nothing.
use mathlib.Core.List.{List, [], map}
use mathlib.Core.Path.{◌≡◌}
use Prim.Native.Nat.{ℕ, ◌+◌, ◌<◌}
use lib.ListN.{length, get_or, take, set, length-map}
use native.Mathlib.Omega.{arith}
use Rattle.combinatorics.proofs.Lists.{mapped_at}
use Rattle.combinatorics.proofs.Fronts.{front-copy}
use Rattle.combinatorics.specs.Front.{front}
use Rattle.grid_points.specs.Grid.{Grid, Point, points, num_points}
use Rattle.game_losses.specs.Game.{game_label, labels}

pub labels_length : (g : Grid) (losses : List ℕ) → length (labels g losses) ≡ num_points g
unfolding labels
labels_length g losses = length-map (points g) (game_label g losses)

module _ (g : Grid) (k : ℕ) where
  pub label-written : (losses old : List ℕ) → k < num_points g → length old ≡ num_points g → (y : Point)
      → y ≡ get_or (points g) k []
      → set (front (take k (labels g losses)) old) k (game_label g losses y) ≡ front (take (k + 1) (labels g losses)) old
  unfolding labels
  label-written losses old h n y e = rw (e, ← mapped_at (game_label g losses) [] (points g) k h)
      (front-copy (map (game_label g losses) (points g)) old k (rw length-map h) (omega arith))
