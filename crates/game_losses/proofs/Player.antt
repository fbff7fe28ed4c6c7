-- What is written of a player at a point, out of the losses of the player's strategies, and of one player after the
-- other. Assumes nothing.
use mathlib.Core.List.{List, ◌++◌, map}
use mathlib.Core.Path.{◌≡◌, sym, ap, ◌∙◌}
use Prim.Native.Nat.{ℕ, ◌+◌, ◌-◌, ◌*◌, ◌≤◌, ◌<◌}
use lib.ListN.{length, get_or, take, drop, replicate, length-map, length-drop}
use lib.Seq.{paste, length-take-le, take_all, get_or-take, get_or-drop, ext_get_or}
use native.Mathlib.Omega.{arith}
use Rattle.combinatorics.proofs.Fronts.{front_paste}
use Rattle.combinatorics.proofs.Ranges.{length-up_from, up_from_add}
use Rattle.combinatorics.proofs.Turns.{map-append, sum-next}
use Rattle.combinatorics.specs.Front.{front}
use Rattle.combinatorics.specs.Lists.{sum, up_from}
use Rattle.grid_points.proofs.Accepted.{accepted}
use Rattle.grid_points.proofs.Round.{block-fits}
use Rattle.grid_points.specs.Grid.{Grid, Point, num_blocks, num_indices, division, size, first_index}
use Rattle.game_losses.proofs.Losses.{expected_fits_lem, replaced-fit}
use Rattle.game_losses.proofs.Players.{lent-mix}
use Rattle.points_in_order.proofs.Blocks.{block-length, point-length}
use Rattle.game_losses.proofs.Replaced.{block_expected, block-replaced}
use Rattle.game_losses.proofs.Table.{part_low}
use Rattle.game_losses.proofs.Weights.{length-weighed}
use Rattle.game_losses.specs.Game.{dot, mix, losses_of, player_loss, replaced_loss}
use Rattle.game_losses.specs.AtPoint.{LossesFit, StrategiesStand, with_block}
use Rattle.game_losses.specs.Table.{IsTable}
use Rattle.points_in_order.specs.Lent.{PointWithFirsts}
use Rattle.game_losses.specs.Weights.{strategy_losses}

module _ (g : Grid) (firsts losses : List ℕ) (y : Point) (d : PointWithFirsts g firsts y) (j : ℕ) (h : j < num_blocks g)
    (values : List ℕ) (room : num_indices g ≤ length values) (stand : StrategiesStand g losses y values) (first s : ℕ)
    (e : first ≡ first_index g j) (f : s ≡ size g j) where
  -- the parts of the point and of the losses that are lent
  abbrev own : List ℕ
  own = take (first + s - first) (drop first y)

  abbrev part : List ℕ
  part = take (first + s - first) (drop first values)

  lent_is : own ≡ mix g y j
  lent_is = lent-mix g.sizes y j first s e f (sym (point-length g (accepted g d.grid.accepted) y d.is_point))

  lent_length : length own ≡ size g j
  lent_length = ap length lent_is ∙ block-length g y j

  part_length : length part ≡ size g j
  part_length =
      let z : first + s - first ≡ s = omega arith in
      rw z (length-take-le s (drop first values) (omega (arith, length-drop first values, block-fits g.sizes j)) ∙ f)

  part_is : part ≡ strategy_losses g y j (losses_of g losses j)
  part_is = ext_get_or 0 part (strategy_losses g y j (losses_of g losses j))
      (part_length ∙ sym (length-weighed (size g j) _ _))
      (λ i b. get_or-take (first + s - first) (drop first values) i 0 (omega (arith, part_length))
      ∙ get_or-drop first values i 0
      ∙ ap (λ (n : ℕ). get_or values (n + i) 0) e
      ∙ stand j i h (omega (arith, part_length)))

  whole_part : take (length own) part ≡ strategy_losses g y j (losses_of g losses j)
  whole_part = take_all (length own) part (omega (arith, lent_length, part_length)) ∙ part_is

  pub player-fits : IsTable g losses → LossesFit (division g j) own part
  player-fits t =
      let a = accepted g d.grid.accepted in
      let low = part_low g losses t j h in
      record {
        enough = omega (arith, lent_length, part_length);
        expected_fits = rw (lent_is, part_is) (expected_fits_lem g j a y d.is_point h (losses_of g losses j) low);
        replaced_fit = rw whole_part (replaced-fit g j a y d.is_point h (losses_of g losses j) low);
      }

  pub player-ends : first + length own ≤ num_indices g
  player-ends = omega (arith, lent_length, block-fits g.sizes j)

  pub player_expected : (old : List ℕ)
      → paste old first (replicate (length own) (dot own part)) (length own) ≡ with_block g j (player_loss g losses y) old
  player_expected old = rw (part_is, lent_is, block-length g y j, e, block_expected g losses y j)

  pub player-replaced : (old : List ℕ)
      → paste old first (map (λ v. division g j * v) (take (length own) part)) (length own)
      ≡ with_block g j (replaced_loss g losses y) old
  player-replaced old = rw (whole_part, lent_length, e, block-replaced g losses y j)

-- the values of f at the indices of the blocks before block j stand at the front: those of block j are written
-- behind them
pub filled_turn : (f : ℕ → ℕ) (ss old : List ℕ) (j : ℕ) → j < length ss → sum ss ≤ length old
    → paste (front (map f (up_from 0 (sum (take j ss)))) old) (sum (take j ss))
    (map f (up_from (sum (take j ss)) (get_or ss j 0))) (get_or ss j 0)
    ≡ front (map f (up_from 0 (sum (take (j + 1) ss)))) old
filled_turn f ss old j h few =
    let b : ℕ = sum (take j ss) in
    let s : ℕ = get_or ss j 0 in
    let row : List ℕ = map f (up_from b s) in
    let n : length row ≡ s = rw (length-map, length-up_from) in
    let z : 0 + b ≡ b = omega arith in
    let e : map f (up_from 0 b) ++ row ≡ map f (up_from 0 (b + s)) = rw (up_from_add 0 b s, map-append, z) in
    ap (λ (m : ℕ). paste (front (map f (up_from 0 b)) old) b row m) (sym n)
    ∙ front_paste (map f (up_from 0 b)) old row b (rw (length-map, length-up_from)) (omega (arith, block-fits ss j))
    ∙ rw (sum-next ss j h, e)
