-- `difference` meets its contract: the losses of the player's strategies give both losses. Assumes nothing.
use mathlib.Core.Path.{◌≡◌, ◌∙◌}
use Prim.Native.Nat.{◌+◌, ◌*◌, ◌≤◌, ◌<◌}
use native.Mathlib.Omega.{arith}
use Rattle.std.proofs.lemmas.Int.{to_z-of_z}
use mir.Syntax.{w64}
use mir.Val.{SFits}
use lib.ListN.{length}
use Rattle.grid_points.proofs.Round.{block_spans}
use Rattle.game_weighed.specs.Levels.{game_grid}
use Rattle.grid_points.specs.Grid.{Grid, at, block_of, division, first_index, num_indices}
use Rattle.game_point.proofs.Compared.{ends, expected_here, expected_low, lengths, replaced-here, replaced-low}
use Rattle.game_point.specs.Label.{GameAt}
use borrow.Author.Rules.{rules}
use Rattle.game_point.proofs.differing.difference.Goals as goal
use Rattle.game_point.proofs.differing.difference.Goals.{After-from-owner, After-from}

-- what is known once the owner is read
module _ (c : After-from-owner) where
  abbrev g : Grid
  g = game_grid c.args.game.now

  abbrev game : GameAt g c.args.game.now.firsts.now c.args.game.now.owners.now c.requires.0.0
      c.args.point.now
  game = c.requires.0.1

  inside : c.args.h < num_indices g
  inside = c.requires.2

  owner_is : c.from-owner.result ≡ block_of g c.args.h
  owner_is = c.from-owner.ensures ∙ game.owned c.args.h inside

  low : c.from-owner.result < length c.args.game.now.sizes.now
  low = omega (arith, owner_is, (block_spans c.args.game.now.sizes.now c.args.h inside).0)

-- and the part of the block
module _ (c : After-from) where
  abbrev own : After-from-owner
  own = (goal.at.After-from c).After-from-owner

  first-is : c.from-first.result ≡ first_index (g own) c.from-owner.result
  first-is = c.from-first.ensures ∙ (game own).first c.from-owner.result (low own)

  inner : (c.from-first.result + c.from.result ≤ length c.args.point.now)
      × (c.from-first.result + c.from.result ≤ 16)
  inner = ends (game own) c.args.values.now c.requires.0.2 c.requires.1
      c.args.h (inside own) c.from-owner.result c.from-first.result c.from.result
      (owner_is own)
      first-is c.from.ensures

  replaced-few : division (g own) c.from-owner.result * at c.args.values.now c.args.h ≤ 9000000000000000000
  replaced-few =
      replaced-low (game own) c.args.values.now c.requires.0.2 c.requires.1 c.args.h (inside own) c.from-owner.result
      c.from-first.result c.from.result (owner_is own) first-is c.from.ensures

pub bounds-game-owner : goal.bounds-game-owner
bounds-game-owner c =
    let o = (goal.at.bounds-game-owner c).After-from-owner in
    omega (arith, low o, (game o).grid.few_blocks)

pub bounds-game-owner-2 : goal.bounds-game-owner-2
bounds-game-owner-2 c = omega (arith, low (goal.at.bounds-game-owner-2 c).After-from-owner)

pub slice_bounds-dot-end : goal.slice_bounds-dot-end
slice_bounds-dot-end c = let e = inner c in search rules

pub slice_bounds-dot-end-2 : goal.slice_bounds-dot-end-2
slice_bounds-dot-end-2 c =
    let e = inner (goal.at.slice_bounds-dot-end-2 c).After-from in
    let l = c.requires.1 in
    search rules

pub dot-expected-requires : goal.dot-expected-requires
dot-expected-requires c =
    let w = (goal.at.dot-expected-requires c).After-from in
    let o = own w in (
      lengths (game o) c.args.values.now c.requires.0.2 c.requires.1 c.args.h (inside o) c.from-owner.result
          c.from-first.result c.from.result (owner_is o) (first-is w) c.from.ensures,
      expected_low (game o) c.args.values.now c.requires.0.2 c.requires.1 c.args.h (inside o)
          c.from-owner.result c.from-first.result c.from.result (owner_is o) (first-is w) c.from.ensures,
    )

pub bounds-game-owner-3 : goal.bounds-game-owner-3
bounds-game-owner-3 c =
    let o = (goal.at.bounds-game-owner-3 c).After-from-owner in
    omega (arith, low o, (game o).grid.same_number)

pub overflow_mul-replaced : goal.overflow_mul-replaced
overflow_mul-replaced c =
    record { fits = rw c.from-2.ensures (omega (arith, replaced-few (goal.at.overflow_mul-replaced c).After-from)) }

pub signed_difference-requires : goal.signed_difference-requires
signed_difference-requires c =
    let w = (goal.at.signed_difference-requires c).After-from in
    let o = own w in (
      rw c.dot-expected.ensures
          (expected_low (game o) c.args.values.now c.requires.0.2 c.requires.1 c.args.h (inside o)
          c.from-owner.result c.from-first.result c.from.result (owner_is o) (first-is w) c.from.ensures),
      rw c.from-2.ensures (replaced-few w),
    )

pub returns : goal.returns
returns c =
    let w = (goal.at.returns c).After-from in
    let o = own w in
    let d = c.signed_difference in
    let fits : SFits w64 d.result = search rules in
    λ losses G are.
    let e = expected_here G c.args.values.now are c.requires.1 c.args.h (inside o) c.from-owner.result
    c.from-first.result c.from.result (owner_is o) (first-is w) c.from.ensures in
    let r = replaced-here G c.args.values.now are c.requires.1 c.args.h (inside o) c.from-owner.result
    c.from-first.result c.from.result (owner_is o) (first-is w) c.from.ensures in
    simp to_z-of_z (d.ensures ∙ rw (c.dot-expected.ensures, e, c.from-2.ensures, r))
