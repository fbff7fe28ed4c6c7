-- `weigh_levels` meets its contract: the levels up to the one reached stand in the array, for whatever losses.
-- Assumes nothing.
use mathlib.Core.List.{[]}
use mathlib.Core.Path.{◌≡◌, sym, ◌∙◌, subst}
use Prim.Native.Nat.{ℕ, ◌+◌, ◌-◌, ◌≤◌}
use native.Mathlib.Omega.{arith}
use borrow.Author.Rules.{rules}
use lib.ListN.{length, take, drop}
use Rattle.grid_points.proofs.Accepted.{Accepted, accepted}
use Rattle.grid_points.proofs.Round.{block-fits}
use Rattle.grid_points.specs.Grid.{Grid, num_indices, first_index, lent}
use Rattle.points_in_order.proofs.Blocks.{point-length}
use Rattle.game_losses.proofs.Players.{lent-mix}
use Rattle.game_losses.specs.Game.{mix}
use Rattle.game_weighed.proofs.Levels.{stand-to-alike}
use Rattle.game_weighed.proofs.NextLevel.{level_ready, level_stands}
use Rattle.game_weighed.specs.Levels.{LevelToWeigh, LevelWeighed}
use Rattle.game_weighed.proofs.weighing.weigh_levels.Goals as goal
use Rattle.game_weighed.proofs.weighing.weigh_levels.Goals.{Start, After-from}

-- what is known of the game
module _ (s : Start) where
  abbrev g : Grid
  g = lent s.args.game.now.sizes.now s.requires.1.0

  yes : Accepted g
  yes = accepted g s.requires.1.2.point.grid.accepted

  long : length s.args.point.now ≡ num_indices g
  long = point-length g yes s.args.point.now s.requires.1.2.point.is_point

-- what is known of the block of a turn
module _ (c : After-from) where
  abbrev start : Start
  start = (goal.at.After-from c).Start

  abbrev k : ℕ
  k = c.loop-level.level

  first-is : c.from-from.result ≡ first_index (g start) k
  first-is = c.from-from.ensures
      ∙ c.requires.1.2.point.grid.first k (omega arith)

  inside : first_index (g start) k + c.from.result ≤ length c.args.point.now
  inside = omega (arith, c.from.ensures, long start, block-fits c.args.game.now.sizes.now k)

  lent_is : take (c.from-from.result + c.from.result - c.from-from.result)
      (drop c.from-from.result c.args.point.now)
      ≡ mix (g start) c.args.point.now k
  lent_is = lent-mix c.args.game.now.sizes.now c.args.point.now k c.from-from.result
      c.from.result first-is c.from.ensures (sym (long start))

pub bounds-game-level : goal.bounds-game-level
bounds-game-level c = omega (arith, (yes (goal.at.bounds-game-level c).Start).few_blocks)

pub slice_bounds-weigh_level-end : goal.slice_bounds-weigh_level-end
slice_bounds-weigh_level-end c = let e = first-is c in let i = inside c in search rules

pub weigh_level-requires : goal.weigh_level-requires
weigh_level-requires c =
    let s = (goal.at.weigh_level-requires c).Start in
    let l = c.loop-level in
    let a = c.args in
    let x = c.requires.1.2 in
    let ss = a.game.now.sizes.now in
    let ds = c.requires.1.0 in
    let t = c.requires.1.1 in
    let stand = stand-to-alike ss [] ds t a.point.now l.level l.levels
    (l.invariant t (stand-to-alike ss ds [] t a.point.now a.first a.levels.now x.stand)) in
    let ready = level_ready (g s) a.game.now.firsts.now a.game.now.owners.now a.game.now.rests.now t a.point.now l.level
    a.first l.levels a.levels.now x (omega arith) (omega arith) stand in
    rw (lent_is (goal.at.weigh_level-requires c).After-from) (subst
    (λ (n : ℕ).
    LevelToWeigh a.game.now.owners.now a.game.now.rests.now (mix (g s) a.point.now l.level) l.level n l.levels)
    (sym (long s)) ready)

pub loop-level-preserved : goal.loop-level-preserved
loop-level-preserved c =
    let s = (goal.at.loop-level-preserved c).Start in
    let l = c.loop-level in
    let a = c.args in
    let x = c.requires.1.2 in
    let ss = a.game.now.sizes.now in
    let ds = c.requires.1.0 in
    let new = c.weigh_level.new.levels in
    let done = rw (lent_is (goal.at.loop-level-preserved c).After-from) at c.weigh_level.ensures in
    let weighed = subst
    (λ (n : ℕ).
    LevelWeighed a.game.now.owners.now a.game.now.rests.now (mix (g s) a.point.now l.level) l.level n l.levels new)
    (long s) done in
    λ t b. stand-to-alike ss ds [] t a.point.now (l.level + 1) new
    (level_stands (g s) a.game.now.firsts.now a.game.now.owners.now a.game.now.rests.now c.requires.1.1 a.point.now
    l.level a.first l.levels a.levels.now x (omega arith) (omega arith) t _
    (stand-to-alike ss [] ds t a.point.now l.level l.levels (l.invariant t b)) weighed)
