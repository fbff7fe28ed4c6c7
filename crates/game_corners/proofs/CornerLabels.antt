-- The label of a point out of the differences at its corners, as the functions are lent them. Assumes nothing.
use mathlib.Core.List.{List}
use mathlib.Core.Path.{◌≡◌, sym, ap, ◌∙◌, subst}
use Prim.Native.Nat.{ℕ, suc, ◌-◌, ◌≤◌, ◌<◌}
use lib.IntN.{ℤ}
use lib.ListN.{length, take, drop, set, length-drop}
use lib.Seq.{take_all}
use native.Mathlib.Omega.{arith}
use Rattle.combinatorics.specs.Lists.{up_from}
use Rattle.grid_points.proofs.Accepted.{Accepted, accepted}
use Rattle.grid_points.specs.Grid.{Grid, Point, num_indices, size, first_index, lent}
use Rattle.game_corners.proofs.CornerLosses.{last-ends, own_part, corner-point, difference-column}
use Rattle.game_losses.proofs.FirstLargest.{largest_agree}
use Rattle.points_in_order.proofs.Blocks.{point-length, block-length}
use Rattle.game_corners.specs.Corners.{column, RowsToAdd, last_player, corner, corner_grid, Cornered}
use Rattle.game_losses.specs.Game.{mix, difference, first_largest, game_label}
use Rattle.points_in_order.specs.Lent.{PointWithFirsts}

module _ (g : Grid) (firsts losses ones : List ℕ) (e : ones ≡ set g.divisions (last_player g) 1) (y : Point)
    (d : PointWithFirsts g firsts y) where
  pub corner-points : (k : ℕ) → k < size g (last_player g) → PointWithFirsts (lent g.sizes ones) firsts (corner g y k)
  corner-points = subst
      (λ (o : List ℕ). (k : ℕ) → k < size g (last_player g) → PointWithFirsts (lent g.sizes o) firsts (corner g y k))
      (sym e) (corner-point g firsts y d)

  module _ (differences : List ℤ) (stand : Cornered (lent g.sizes ones) losses y (size g (last_player g)) differences)
      (first : ℕ) (f : first ≡ first_index g (last_player g)) where
    abbrev yes : Accepted g
    yes = accepted g d.grid.accepted

    -- the part of the point that is lent
    abbrev lent_mix : List ℕ
    lent_mix = take (length y - first) (drop first y)

    own : lent_mix ≡ mix g y (last_player g)
    own =
        take_all (length y - first) (drop first y) (omega (arith, length-drop first y))
        ∙ ap (λ (n : ℕ). drop n y) f
        ∙ sym (own_part g yes.some_block y (point-length g yes y d.is_point))

    lent-few : length lent_mix ≤ 16
    lent-few = rw own (omega (arith, block-length g y (last_player g), last-ends g yes.some_block, yes.few_indices))

    pub lent_rows : length differences ≡ 256 → RowsToAdd lent_mix differences (num_indices g)
    lent_rows whole = record {
      few_rows = lent-few;
      few = yes.few_indices;
      whole = whole;
      low = rw (own, block-length g y (last_player g)) stand.low;
    }

    pub lent-label : suc (first_largest (column lent_mix differences) (up_from 0 (num_indices g))) ≡ game_label g losses y
    unfolding game_label
    lent-label =
        let corners : Cornered (corner_grid g) losses y (size g (last_player g)) differences = rw e at stand in
        rw own
        (ap suc (largest_agree (column (mix g y (last_player g)) differences) (difference g losses y) (num_indices g)
        (λ h b. sym (difference-column g firsts y d losses differences corners h b))))
