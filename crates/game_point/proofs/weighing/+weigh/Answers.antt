-- `weigh` meets its contract: each block of an opponent is summed over its strategies, whose losses are weighed by the
-- mixes behind it. Assumes nothing.
use mathlib.Core.List.{[]}
use mathlib.Core.Path.{◌≡◌, sym, ap, ◌∙◌}
use Prim.Native.Nat.{ℕ, ◌+◌, ◌*◌, ◌≤◌, ◌<◌}
use native.Mathlib.Omega.{arith}
use borrow.Author.Rules.{rules}
use lib.ListN.{length, drop, get_or}
use Rattle.grid_points.proofs.Round.{block-fits}
use Rattle.grid_points.specs.Grid.{Grid, first_index, lent}
use Rattle.game_losses.specs.Game.{dot, mix}
use Rattle.game_losses.specs.Weights.{weighed}
use Rattle.game_weighed.specs.Levels.{behind}
use Rattle.game_point.proofs.Opponents.{at_own, can_part, from-own, no_more_lem, one_more, part, row_inside}
use Rattle.game_point.proofs.Opponents.{total-is, total-low}
use Rattle.game_point.specs.Weighing.{weights_from, CanWeighLosses}
use Rattle.game_point.proofs.weighing.+weigh.Goals as goal
use Rattle.game_point.proofs.weighing.+weigh.Goals.{In-loop-k}

-- what is known in the loop
module _ (t : ℕ) (c : In-loop-k t) where
  abbrev g : Grid
  g = lent c.args.game.now.sizes.now []

  can : CanWeighLosses g c.args.game.now.firsts.now c.args.game.now.rests.now c.args.point.now c.args.losses.now
      c.args.player c.args.block
  can = c.requires

  other : c.args.block ≡ c.args.player → ⊥
  other = c.if-block-player.false

  below : c.args.block < length c.args.game.now.sizes.now
  below = omega (arith, can.inside)

  abbrev s : ℕ
  s = c.from-size.result

  first-is : c.from-first.result ≡ first_index g c.args.block
  first-is = c.from-first.ensures ∙ can.first c.args.block below

  abbrev r : ℕ
  r = c.rest_behind-rest.result

  r_is : r ≡ behind g c.args.player (c.args.block + 1)
  r_is = c.rest_behind-rest.ensures g can.resting can.few

  row : c.loop-k.k * r + r ≤ length c.args.losses.now
  row = row_inside can below other s r c.from-size.ensures r_is c.loop-k.k (omega arith)

  -- where the strategy's share stands in the point
  share : c.from-first.result + c.loop-k.k < length c.args.point.now
  share = omega (
    arith,
    first-is,
    block-fits c.args.game.now.sizes.now c.args.block,
    can.room,
    c.from-size.ensures,
  )

  -- one strategy more
  module _ (value : ℕ)
      (e : value
      ≡ dot (weights_from g c.args.point.now c.args.player (c.args.block + 1))
      (part can below other s r c.from-size.ensures r_is c.loop-k.k)) where
    more : (let values = weighed s
        (weights_from g c.args.point.now c.args.player (c.args.block + 1))
        c.args.losses.now in
        let shares = mix g c.args.point.now c.args.block in
        dot (drop c.loop-k.k shares) (drop c.loop-k.k values)
        ≡ get_or c.args.point.now (c.from-first.result + c.loop-k.k) 0 * value
        + dot (drop (c.loop-k.k + 1) shares) (drop (c.loop-k.k + 1) values))
    more = one_more can below other s r c.from-size.ensures r_is c.loop-k.k _ value (omega arith)
        first-is e

  low : dot (mix g c.args.point.now c.args.block)
      (weighed s (weights_from g c.args.point.now c.args.player (c.args.block + 1))
      c.args.losses.now) ≤ 9000000000000000000
  low = total-low can below other s r c.from-size.ensures r_is

pub weigh-requires : goal.weigh-requires
weigh-requires t c =
    let h : c.args.block < length c.args.game.now.sizes.now = omega (arith, c.requires.inside) in
    (omega (arith, c.decreases), at_own c.requires h c.if-block-player.true)

pub returns-then-block-player : goal.returns-then-block-player
returns-then-block-player t c =
    let h : c.args.block < length c.args.game.now.sizes.now = omega (arith, c.requires.inside) in
    c.weigh.ensures
    ∙ ap (λ u. dot u c.args.losses.now)
    (sym (from-own (lent c.args.game.now.sizes.now []) c.args.point.now c.args.player c.args.block h
    c.if-block-player.true))

pub overflow_mul-at : goal.overflow_mul-at
overflow_mul-at t c = omega (arith, row t c)

pub overflow_add-at : goal.overflow_add-at
overflow_add-at t c = omega (arith, row t (goal.at.overflow_add-at t c).In-loop-k)

pub offset_bounds-losses-at : goal.offset_bounds-losses-at
offset_bounds-losses-at t c = omega (arith, row t (goal.at.offset_bounds-losses-at t c).In-loop-k)

pub slice_bounds-weigh-end : goal.slice_bounds-weigh-end
slice_bounds-weigh-end t c =
    let w = row t (goal.at.slice_bounds-weigh-end t c).In-loop-k in
    search rules

pub weigh-value-requires : goal.weigh-value-requires
weigh-value-requires t c =
    let w = (goal.at.weigh-value-requires t c).In-loop-k in
    let l = c.loop-k in (
      omega (arith, c.decreases, below t w),
      can_part (can t w) (below t w) (other t w) (s t w) (r t w) w.from-size.ensures (r_is t w) l.k (omega arith),
    )

pub bounds-point-first : goal.bounds-point-first
bounds-point-first t c = omega (arith, share t (goal.at.bounds-point-first t c).In-loop-k)

pub overflow_mul-total : goal.overflow_mul-total
overflow_mul-total t c =
    let w = (goal.at.overflow_mul-total t c).In-loop-k in
    let e = more t w c.weigh-value.result c.weigh-value.ensures in
    let few = low t w in
    let inv = c.loop-k.invariant in
    record { fits = rw c.from-in-loop-k.ensures (omega arith) }

pub overflow_add-total : goal.overflow_add-total
overflow_add-total t c =
    let w = (goal.at.overflow_add-total t c).In-loop-k in
    let e = more t w c.weigh-value.result c.weigh-value.ensures in
    let few = low t w in
    let inv = c.loop-k.invariant in
    record { fits = rw c.from-in-loop-k.ensures (omega arith) }

pub loop-k-preserved : goal.loop-k-preserved
loop-k-preserved t c =
    let w = (goal.at.loop-k-preserved t c).In-loop-k in
    let e = more t w c.weigh-value.result c.weigh-value.ensures in
    let i = c.loop-k.invariant in
    rw c.from-in-loop-k.ensures (omega arith)

pub returns : goal.returns
returns t c =
    let h : c.args.block < length c.args.game.now.sizes.now = omega (arith, c.requires.inside) in
    let z : c.loop-k.k ≡ c.from-size.result = omega arith in
    let r = c.rest_behind-rest.result in
    let r_is = c.rest_behind-rest.ensures (lent c.args.game.now.sizes.now []) c.requires.resting c.requires.few in
    let e = no_more_lem c.requires h c.if-block-player.false c.from-size.result r c.from-size.ensures r_is in
    let inv = rw z at c.loop-k.invariant in
    omega (arith, total-is c.requires h c.if-block-player.false c.from-size.result r c.from-size.ensures r_is)
