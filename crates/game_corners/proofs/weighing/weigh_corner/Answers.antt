-- `weigh_corner` meets its contract: the row of the corner is written behind those before it. Assumes nothing.
use mathlib.Core.List.{List}
use mathlib.Core.Path.{◌≡◌, sym, ap, ◌∙◌, subst}
use Prim.Native.Nat.{ℕ, ◌+◌, ◌-◌, ◌*◌, ◌≤◌, ◌<◌}
use native.Mathlib.Omega.{arith}
use borrow.Author.Rules.{rules}
use lib.ListN.{length, take, set, replicate}
use lib.Seq.{length-take-le}
use Rattle.combinatorics.specs.Front.{front}
use Rattle.grid_points.proofs.Accepted.{Accepted, accepted}
use Rattle.grid_points.specs.Grid.{Grid, Point, num_indices, first_index}
use Rattle.game_weighed.specs.Levels.{StandTo, game_grid}
use Rattle.game_losses.specs.AtPoint.{StrategiesStand}
use Rattle.game_losses.specs.Game.{player_loss, replaced_loss}
use Rattle.points_in_order.specs.Lent.{PointWithFirsts}
use Rattle.game_corners.proofs.CornerLosses.{last-ends, held, held-length, held-corner, written_at}
use Rattle.game_corners.proofs.CornerLosses.{cornered_turn}
use Rattle.game_corners.proofs.Picked.{picked_stand}
use Rattle.game_corners.specs.Corners.{last_player, corner, CornersToWeigh}
use Rattle.game_corners.proofs.weighing.weigh_corner.Goals as goal
use Rattle.game_corners.proofs.weighing.weigh_corner.Goals.{Start, After-from-first, After-corner-corner, After-pick}

-- what is known of the game
module _ (s : Start) where
  abbrev g : Grid
  g = game_grid s.args.game.now

  abbrev game : CornersToWeigh g s.args.game.now.firsts.now s.args.game.now.owners.now s.requires.0.0 s.args.point.now
      s.args.levels.now s.args.differences.now
  game = s.requires.0.1

  yes : Accepted g
  yes = accepted g (game.points s.args.k s.requires.1).grid.accepted

  -- the corner ends within the point, and its row within the table
  ends : (first_index g (last_player g) + s.args.k < num_indices g) × (num_indices g ≤ 16) × (s.args.k < 16)
  ends =
      let e = last-ends g yes.some_block in
      (omega (arith, s.requires.1), yes.few_indices, omega (arith, s.requires.1, yes.few_indices))

-- what is known once the first index is read
module _ (c : After-from-first) where
  abbrev start : Start
  start = (goal.at.After-from-first c).Start

  first-is : c.from-first.result ≡ first_index (g start) (last_player (g start))
  first-is = c.from-first.ensures
      ∙ ((game start).points c.args.k c.requires.1).grid.first (last_player (g start))
      (omega (arith, (yes start).some_block))

-- and once the corner is made
module _ (c : After-corner-corner) where
  abbrev begun : Start
  begun = (goal.at.After-corner-corner c).Start

  is_held : c.corner-corner.result
      ≡ held (g begun) (yes begun).some_block (yes begun).few_indices c.args.point.now (game begun).whole
      c.args.k c.requires.1
  is_held = c.corner-corner.ensures
      ∙ ap
      (λ (f : ℕ). set (front (take f c.args.point.now) (replicate 16 0)) (f + c.args.k) 1)
      (first-is (goal.at.After-corner-corner c).After-from-first)

  long : length c.corner-corner.result ≡ 16
  long = ap length is_held
      ∙ held-length (g begun) (yes begun).some_block (yes begun).few_indices c.args.point.now
      (game begun).whole c.args.k c.requires.1

  abbrev made : Point
  made = take (length c.args.point.now) c.corner-corner.result

  is-corner : made ≡ corner (g begun) c.args.point.now c.args.k
  is-corner = ap (λ (n : ℕ). take n c.corner-corner.result) (game begun).whole
      ∙ ap (take (num_indices (g begun))) is_held
      ∙ held-corner (g begun) (yes begun).some_block (yes begun).few_indices c.args.point.now
      (game begun).whole c.args.k c.requires.1

-- and once the losses of the strategies are picked
module _ (c : After-pick) where
  abbrev made_of : After-corner-corner
  made_of = (goal.at.After-pick c).After-corner-corner

  strategies : (losses : List ℕ)
      → StandTo (g (begun made_of)) losses c.args.point.now (last_player (g (begun made_of))) c.args.levels.now
      → StrategiesStand (g (begun made_of)) losses (made made_of) c.pick.new.values
  strategies losses stand =
      let s = begun made_of in
      subst
      (λ (p : Point). StrategiesStand (g s) losses p c.pick.new.values)
      (sym (is-corner made_of))
      (picked_stand (g s) (game s).some c.args.point.now (game s).whole c.args.k c.requires.1
      c.args.game.now.owners.now losses c.args.levels.now (game s).owned stand c.pick.new.values
      (λ h b. c.pick.ensures.1 h (omega (arith, (game s).whole))))

pub bounds-game-last : goal.bounds-game-last
bounds-game-last c =
    let s = (goal.at.bounds-game-last c).Start in
    omega (arith, (yes s).few_blocks, (game s).some)

pub overflow_add-first : goal.overflow_add-first
overflow_add-first c =
    let w = (goal.at.overflow_add-first c).After-from-first in
    let e = ends (start w) in
    omega (arith, first-is w, e.0, e.1)

pub overflow_mul-at : goal.overflow_mul-at
overflow_mul-at c = omega (arith, (ends (goal.at.overflow_mul-at c).Start).2)

pub overflow_add-at : goal.overflow_add-at
overflow_add-at c = omega (arith, (ends (goal.at.overflow_add-at c).Start).2)

pub offset_bounds-differences-at : goal.offset_bounds-differences-at
offset_bounds-differences-at c = omega (arith, (ends (goal.at.offset_bounds-differences-at c).Start).2)

pub corner-corner-requires : goal.corner-corner-requires
corner-corner-requires c =
    let w = (goal.at.corner-corner-requires c).After-from-first in
    let e = ends (start w) in (
      omega (arith, first-is w, e.0, (game (start w)).whole),
      omega (arith, first-is w, e.0, e.1),
      omega (arith, first-is w, e.0, e.1),
    )

pub pick-requires-clause-last_bound : goal.pick-requires-clause-last_bound
pick-requires-clause-last_bound c =
    let s = (goal.at.pick-requires-clause-last_bound c).Start in
    let e = ends s in (
      omega (arith, (yes s).few_blocks, (game s).some),
      omega (arith, e.2),
      omega (arith, (game s).whole, e.1),
    )

pub slice_bounds-corner-end : goal.slice_bounds-corner-end
slice_bounds-corner-end c =
    let m = (goal.at.slice_bounds-corner-end c).After-corner-corner in
    let s = (goal.at.slice_bounds-corner-end c).Start in
    rw (long m) (omega (arith, (game s).whole, (ends s).1))

pub slice_bounds-weigh_point-end : goal.slice_bounds-weigh_point-end
slice_bounds-weigh_point-end c =
    let m = (goal.at.slice_bounds-weigh_point-end c).After-corner-corner in
    let s = (goal.at.slice_bounds-weigh_point-end c).Start in
    let p = c.args.point.now in
    sym
    (length-take-le (length p) c.corner-corner.result (omega (arith, long m, (game s).whole, (ends s).1)))

pub weigh_point-requires : goal.weigh_point-requires
weigh_point-requires c =
    let p = (goal.at.weigh_point-requires c).After-pick in
    let s = (goal.at.weigh_point-requires c).Start in
    let t = c.requires.0.0 in (
      (
        t,
        record {
          point = subst (PointWithFirsts (g s) c.args.game.now.firsts.now) (sym (is-corner (made_of p)))
              ((game s).points c.args.k c.requires.1);
          table = (game s).table;
          stand = strategies p t (game s).stand;
          room = omega (arith, (ends s).1, c.pick.ensures.0);
        },
      ),
      record { of_expected = (ends s).1; of_replaced = (ends s).1 },
    )

pub slice_bounds-put_differences-end : goal.slice_bounds-put_differences-end
slice_bounds-put_differences-end c =
    let e = (ends (goal.at.slice_bounds-put_differences-end c).Start).2 in
    let x = game (goal.at.slice_bounds-put_differences-end c).Start in
    search rules

pub returns : goal.returns
returns c =
    let s = (goal.at.returns c).Start in
    let picked = (goal.at.returns c).After-pick in
    let m = made_of picked in
    let d = c.put_differences in
    let p = c.weigh_point.ensures in
    λ losses stand old.
    let there = strategies picked losses stand in
    cornered_turn (g s) (ends s).1 losses c.args.point.now c.args.k c.args.differences.now old
    d.new.differences (c.args.k * 16 + 16 - c.args.k * 16) (omega (arith, (game s).rows, (ends s).2))
    (search rules)
    (λ h b. rw (
      ← is-corner m,
      ← written_at (player_loss (g s) losses (made m)) _ _ _ (p.expected_after losses there) h b,
      ← written_at (replaced_loss (g s) losses (made m)) _ _ _ (p.replaced_after losses there) h b,
    ) (d.ensures h (omega (arith, (ends s).1))))
