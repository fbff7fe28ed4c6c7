-- `weigh_player` meets its contract: the losses of the player's strategies give both kinds of losses. Assumes nothing.
use mathlib.Core.Path.{◌≡◌, ◌∙◌}
use Prim.Native.Nat.{◌+◌, ◌≤◌}
use native.Mathlib.Omega.{arith}
use borrow.Author.Rules.{rules}
use lib.ListN.{length}
use Rattle.grid_points.proofs.Accepted.{Accepted, accepted}
use Rattle.grid_points.proofs.Round.{block-fits}
use Rattle.grid_points.specs.Grid.{first_index, lent}
use Rattle.points_in_order.proofs.Blocks.{point-length}
use Rattle.game_losses.proofs.Player.{player-fits, player-ends, player_expected, player-replaced}
use Rattle.game_losses.proofs.point.weigh_player.Goals as goal
use Rattle.game_losses.proofs.point.weigh_player.Goals.{Start, After-from}

yes : (c : Start) → Accepted (lent c.args.sizes.now c.args.divisions.now)
yes c = accepted (lent c.args.sizes.now c.args.divisions.now) c.requires.0.1.point.grid.accepted

-- what is known where the losses are written
first-is : (c : After-from)
    → c.from-first.result ≡ first_index (lent c.args.sizes.now c.args.divisions.now) c.args.player
first-is c = c.from-first.ensures ∙ c.requires.0.1.point.grid.first c.args.player c.requires.1

inside : (c : After-from)
    → first_index (lent c.args.sizes.now c.args.divisions.now) c.args.player + c.from.result
    ≤ length c.args.point.now
inside c = omega (
  arith,
  c.from.ensures,
  block-fits c.args.sizes.now c.args.player,
  point-length (lent c.args.sizes.now c.args.divisions.now)
      (accepted (lent c.args.sizes.now c.args.divisions.now) c.requires.0.1.point.grid.accepted)
      c.args.point.now c.requires.0.1.point.is_point,
)

inside_values : (c : After-from)
    → first_index (lent c.args.sizes.now c.args.divisions.now) c.args.player + c.from.result
    ≤ length c.args.values.now
inside_values c =
    omega (arith, c.from.ensures, block-fits c.args.sizes.now c.args.player, c.requires.0.1.room)

pub bounds-firsts-player : goal.bounds-firsts-player
bounds-firsts-player c = omega (
  arith,
  (yes (goal.at.bounds-firsts-player c).Start).few_blocks,
  c.requires.1,
)

pub slice_bounds-put_losses-end : goal.slice_bounds-put_losses-end
slice_bounds-put_losses-end c = let e = first-is c in let i = inside c in search rules

pub slice_bounds-put_losses-end-2 : goal.slice_bounds-put_losses-end-2
slice_bounds-put_losses-end-2 c =
    let w = (goal.at.slice_bounds-put_losses-end-2 c).After-from in
    let e = first-is w in
    let i = inside_values w in
    search rules

pub bounds-divisions-player : goal.bounds-divisions-player
bounds-divisions-player c = omega (
  arith,
  (yes (goal.at.bounds-divisions-player c).Start).same_number,
  c.requires.1,
)

pub put_losses-requires : goal.put_losses-requires
put_losses-requires c =
    let g = lent c.args.sizes.now c.args.divisions.now in
    let w = (goal.at.put_losses-requires c).After-from in
    let game = c.requires.0.1 in
    let fits = player-fits g c.args.firsts.now c.requires.0.0 c.args.point.now game.point
    c.args.player c.requires.1 c.args.values.now game.room game.stand
    c.from-first.result c.from.result (first-is w) c.from.ensures game.table in
    let ends = player-ends g c.args.firsts.now c.requires.0.0 c.args.point.now game.point
    c.args.player c.requires.1 c.args.values.now game.room game.stand
    c.from-first.result c.from.result (first-is w) c.from.ensures in
    (fits, omega (arith, ends, c.requires.2.of_expected), omega (arith, ends, c.requires.2.of_replaced))

pub returns : goal.returns
returns c =
    let g = lent c.args.sizes.now c.args.divisions.now in
    let first = first-is (goal.at.returns c).After-from in
    let game = c.requires.0.1 in
    let p = c.put_losses.ensures in
    record {
      expected_after = λ t stand. p.expected_after
          ∙ player_expected g c.args.firsts.now t c.args.point.now game.point
          c.args.player c.requires.1 c.args.values.now game.room stand
          c.from-first.result c.from.result first c.from.ensures c.args.expected.now;
      replaced_after = λ t stand. p.replaced_after
          ∙ player-replaced g c.args.firsts.now t c.args.point.now game.point
          c.args.player c.requires.1 c.args.values.now game.room stand
          c.from-first.result c.from.result first c.from.ensures c.args.replaced.now;
    }
