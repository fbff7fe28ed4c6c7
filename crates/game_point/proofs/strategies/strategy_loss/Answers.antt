-- `strategy_loss` meets its contract: the losses of the strategy stand together in the table. Assumes nothing.
use mathlib.Core.Path.{◌≡◌, refl, sym, ap, ◌∙◌}
use Prim.Native.Nat.{ℕ, ◌+◌, ◌-◌, ◌*◌, ◌≤◌, ◌<◌}
use native.Mathlib.Omega.{arith}
use lib.ListN.{length}
use native.Mathlib.Nat.{mul-le-mul_right}
use Rattle.grid_points.proofs.Round.{block_spans}
use Rattle.grid_points.specs.Grid.{Grid, at, block_of, first_index, lent, num_indices}
use Rattle.game_point.proofs.OwnLosses.{can, is-own, spans, within}
use Rattle.game_point.specs.Label.{GameAt}
use borrow.Author.Rules.{rules}
use Rattle.game_point.proofs.strategies.strategy_loss.Goals as goal
use Rattle.game_point.proofs.strategies.strategy_loss.Goals.{After-from-owner, After-from}

-- what is known once the owner is read
module _ (c : After-from-owner) where
  abbrev g : Grid
  g = lent c.args.game.now.sizes.now c.requires.by_index.0

  game : GameAt g c.args.game.now.firsts.now c.args.game.now.owners.now c.args.game.now.losses.now
      c.args.point.now
  game = c.requires.by_index.1

  inside : c.args.h < num_indices g
  inside = c.requires.count_value.1

  owner_is : c.from-owner.result ≡ block_of g c.args.h
  owner_is = c.from-owner.ensures ∙ game.owned c.args.h inside

  low : c.from-owner.result < length c.args.game.now.sizes.now
  low = omega (arith, owner_is, (block_spans c.args.game.now.sizes.now c.args.h inside).0)

  counted : c.from-owner.result * c.args.count ≤ length c.args.game.now.losses.now
  counted =
      let m = mul-le-mul_right c.args.count low in
      let e : length c.args.game.now.losses.now ≡ length c.args.game.now.sizes.now * c.args.count =
      (game.table.whole ∙ ap (λ (n : ℕ). length c.args.game.now.sizes.now * n) (sym c.requires.count_value.0)) in
      omega arith

-- and the first index
module _ (c : After-from) where
  abbrev own : After-from-owner
  own = (goal.at.After-from c).After-from-owner

  abbrev size : ℕ
  size = at c.args.game.now.sizes.now c.from-owner.result

  abbrev rest : ℕ
  rest = at c.args.game.now.rests.now c.from-owner.result

  first-is : c.from.result ≡ first_index (g own) c.from-owner.result
  first-is = c.from.ensures ∙ (game own).first c.from-owner.result (low own)

  before : (c.from.result ≤ c.args.h) × (c.args.h < c.from.result + size)
  before = spans (game own) c.args.game.now.rests.now c.requires.rests c.args.h (inside own)
      c.from-owner.result c.args.count c.from.result size rest (owner_is own) c.requires.count_value.0
      first-is refl refl

  ends : c.from-owner.result * c.args.count + (c.args.h - c.from.result) * rest + rest
      ≤ length c.args.game.now.losses.now
  ends = within (game own) c.args.game.now.rests.now c.requires.rests c.args.h (inside own)
      c.from-owner.result c.args.count c.from.result size rest (owner_is own) c.requires.count_value.0
      first-is refl refl

pub bounds-game-owner : goal.bounds-game-owner
bounds-game-owner c =
    let o = (goal.at.bounds-game-owner c).After-from-owner in
    omega (arith, low o, (game o).grid.few_blocks)

pub overflow_mul-at : goal.overflow_mul-at
overflow_mul-at c = omega (arith, counted (goal.at.overflow_mul-at c).After-from-owner)

pub bounds-game-owner-2 : goal.bounds-game-owner-2
bounds-game-owner-2 c =
    let o = (goal.at.bounds-game-owner-2 c).After-from-owner in
    omega (arith, low o, (game o).grid.few_blocks)

pub overflow_sub-at : goal.overflow_sub-at
overflow_sub-at c = omega (arith, (before c).0)

pub overflow_mul-at-2 : goal.overflow_mul-at-2
overflow_mul-at-2 c = omega (arith, ends c)

pub overflow_add-at : goal.overflow_add-at
overflow_add-at c = omega (arith, ends c)

pub overflow_add-at-2 : goal.overflow_add-at-2
overflow_add-at-2 c = omega (arith, ends (goal.at.overflow_add-at-2 c).After-from)

pub offset_bounds-game-at : goal.offset_bounds-game-at
offset_bounds-game-at c = omega (arith, ends (goal.at.offset_bounds-game-at c).After-from)

pub slice_bounds-weigh-end : goal.slice_bounds-weigh-end
slice_bounds-weigh-end c = let e = ends (goal.at.slice_bounds-weigh-end c).After-from in search rules

pub weigh-requires : goal.weigh-requires
weigh-requires c =
    let w = (goal.at.weigh-requires c).After-from in
    let o = own w in
    can (game o) c.args.game.now.rests.now c.requires.rests c.args.h (inside o) c.from-owner.result
    c.args.count c.from.result (size w) (rest w) (owner_is o) c.requires.count_value.0 (first-is w) refl refl

pub returns : goal.returns
returns c =
    let w = (goal.at.returns c).After-from in
    let o = own w in
    c.weigh.ensures
    ∙ is-own (game o) c.args.game.now.rests.now c.requires.rests c.args.h (inside o) c.from-owner.result
    c.args.count c.from.result (size w) (rest w) (owner_is o) c.requires.count_value.0 (first-is w) refl refl
