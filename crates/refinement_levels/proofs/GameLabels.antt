-- A game's labels are indices: no table that is made has a gap. Assumes nothing.
use mathlib.Core.Bool.{Bool, true, false, ◌&&◌, cond}
use mathlib.Core.List.{List, [], ◌∷◌, map}
use mathlib.Core.Path.{◌≡◌, refl}
use Prim.Native.Nat.{ℕ, zero, suc, ◌+◌, ◌≤◌, ◌<◌}
use borrow.Author.Tests.{le-leb}
use lib.Dec.{leb}
use native.Mathlib.Omega.{arith}
use Rattle.combinatorics.proofs.Basics.{and_both}
use Rattle.combinatorics.specs.Lists.{all, filter, first_or, up_from}
use Rattle.grid_points.specs.Grid.{Grid, Point, indices, num_indices, points}
use Rattle.game_losses.specs.Game.{difference, first_largest, game_label, labels}

-- the first number of a range that passes a test is below its end, and so is 0
first_below : (q : ℕ → Bool) (b n m : ℕ) → 1 ≤ m → b + n ≤ m → first_or 0 (filter q (up_from b n)) < m
first_below q b zero m some h = omega arith
first_below q b (suc n) m some h = go (q b) (first_below q (suc b) n m some (omega arith))
  where
    go : (t : Bool) → first_or 0 (filter q (up_from (suc b) n)) < m
        → first_or 0 (cond t (b ∷ filter q (up_from (suc b) n)) (filter q (up_from (suc b) n))) < m
    go true l = omega arith
    go false l = l

module _ (g : Grid) (some : 1 ≤ num_indices g) (losses : List ℕ) where
  label-range : (y : Point) → (leb 1 (game_label g losses y) && leb (game_label g losses y) (num_indices g)) ≡ true
  unfolding game_label
  label-range y =
      let h = first_largest (difference g losses y) (indices g) in
      let l : h < num_indices g = first_below _ 0 (num_indices g) (num_indices g) some (omega arith) in
      and_both _ _ (le-leb 1 (suc h) (omega arith)) (le-leb (suc h) (num_indices g) (omega arith))

  pub labels-range : all (λ l. leb 1 l && leb l (num_indices g)) (labels g losses) ≡ true
  unfolding labels
  labels-range = go (points g)
    where
      go : (ys : List Point) → all (λ l. leb 1 l && leb l (num_indices g)) (map (game_label g losses) ys) ≡ true
      go [] = refl
      go (y ∷ ys) = and_both _ _ (label-range y) (go ys)
