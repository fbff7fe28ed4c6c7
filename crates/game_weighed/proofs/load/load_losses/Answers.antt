-- `load_losses` meets its contract: the tables of the indices passed stand in the array. Assumes nothing.
use mathlib.Core.List.{List, []}
use mathlib.Core.Path.{◌≡◌, ap, ◌∙◌}
use Prim.Native.Nat.{ℕ, ◌+◌, ◌-◌, ◌*◌, ◌≤◌, ◌<◌}
use native.Mathlib.Omega.{arith}
use borrow.Author.Rules.{rules}
use lib.ListN.{length, take, drop, length-drop}
use lib.Seq.{get_or-take, get_or-drop, length-take-le}
use Rattle.grid_points.proofs.Accepted.{Accepted, accepted}
use Rattle.grid_points.proofs.Round.{block_spans}
use Rattle.grid_points.specs.Grid.{Grid, at, num_blocks, num_indices, first_index, block_of, lent}
use Rattle.combinatorics.specs.Lists.{sum}
use Rattle.game_weighed.proofs.Levels.{behind-few, stand-alike}
use Rattle.game_weighed.proofs.Writing.{begin_inside, load_turn, load_player, load_from}
use Rattle.game_weighed.specs.Levels.{behind, losses_begin}
use Rattle.game_weighed.proofs.load.load_losses.Goals as goal
use Rattle.game_weighed.proofs.load.load_losses.Goals.{Start, After-from-owner, After-from}

-- what is known of the game
module _ (s : Start) where
  abbrev g : Grid
  g = lent s.args.game.now.sizes.now s.requires.1.0

  yes : Accepted g
  yes = accepted g s.requires.1.1.grid.accepted

-- what is known once the owner is read
module _ (c : After-from-owner) where
  abbrev start : Start
  start = (goal.at.After-from-owner c).Start

  abbrev h : ℕ
  h = c.loop-h.h

  abbrev player : ℕ
  player = block_of (g start) h

  inside : h < num_indices (g start)
  inside = omega (arith, c.requires.0)

  owner_is : c.from-owner.result ≡ player
  owner_is = c.from-owner.ensures ∙ c.requires.1.1.owned h inside

  below : player < num_blocks (g start)
  below = (block_spans c.args.game.now.sizes.now h inside).0

  owner_low : c.from-owner.result < 6
  owner_low = omega (arith, owner_is, below, (yes start).few_blocks)

  counted : c.from-owner.result * c.args.count ≤ length c.args.game.now.losses.now
  counted = load_player (g start) c.args.game.now.losses.now c.requires.1.1.table h inside c.from-owner.result
      c.args.count owner_is c.requires.1.1.is_count

-- and the first index
module _ (c : After-from) where
  abbrev owned : After-from-owner
  owned = (goal.at.After-from c).After-from-owner

  abbrev begun : Start
  begun = (goal.at.After-from c).Start

  abbrev owner : ℕ
  owner = player owned

  abbrev rest : ℕ
  rest = at c.args.game.now.rests.now c.from-owner.result

  rest-is : rest ≡ behind (g begun) owner 0
  rest-is =
      let z : 0 * 6 + owner ≡ owner = omega arith in
      ap (at c.args.game.now.rests.now) (owner_is owned)
      ∙ (rw z at (c.requires.1.1.rested 0 owner (omega arith) (omega (arith, below owned, (yes begun).few_blocks))))

  first-is : c.from.result ≡ first_index (g begun) owner
  first-is = c.from.ensures
      ∙ ap (at c.args.game.now.firsts.now) (owner_is owned)
      ∙ c.requires.1.1.grid.first owner (below owned)

  spans : c.from.result ≤ h owned
  spans = omega (arith, first-is, (block_spans c.args.game.now.sizes.now (h owned) (inside owned)).1)

  abbrev begin : ℕ
  begin = c.from-owner.result * c.args.count + (h owned - c.from.result) * rest

  begins : begin ≡ losses_begin (g begun) (h owned)
  begins = load_from (g begun) c.args.game.now.losses.now c.requires.1.1.table (h owned) (inside owned)
      c.from-owner.result c.args.count (owner_is owned) c.requires.1.1.is_count c.from.result rest
      first-is rest-is

  within : begin + rest ≤ length c.args.game.now.losses.now
  within = omega (
    arith,
    begins,
    rest-is,
    begin_inside (g begun) c.args.game.now.losses.now c.requires.1.1.table (h owned) (inside owned),
  )

  few-indices : h owned < 16
  few-indices = omega (arith, inside owned, (yes begun).few_indices)

  -- the part of the losses that is lent
  abbrev part : List ℕ
  part = take (begin + rest - begin) (drop begin c.args.game.now.losses.now)

  part_long : length part ≡ behind (g begun) owner 0
  part_long =
      let z : begin + rest - begin ≡ rest = omega arith in
      rw z
      (length-take-le rest (drop begin c.args.game.now.losses.now)
      (omega (arith, length-drop begin c.args.game.now.losses.now, within))
      ∙ rest-is)

  part_at : (e : ℕ) → e < length part → at part e ≡ at c.args.game.now.losses.now (losses_begin (g begun) (h owned) + e)
  part_at e b =
      get_or-take (begin + rest - begin) (drop begin c.args.game.now.losses.now) e 0 (omega (arith, part_long, rest-is))
      ∙ get_or-drop begin c.args.game.now.losses.now e 0
      ∙ ap (λ (n : ℕ). at c.args.game.now.losses.now (n + e)) begins

pub bounds-game-h : goal.bounds-game-h
bounds-game-h c = omega (
  arith,
  (yes (goal.at.bounds-game-h c).Start).few_indices,
  c.requires.0,
)

pub bounds-game-owner : goal.bounds-game-owner
bounds-game-owner c = omega (arith, owner_low (goal.at.bounds-game-owner c).After-from-owner)

pub overflow_mul-at : goal.overflow_mul-at
overflow_mul-at c = omega (arith, counted (goal.at.overflow_mul-at c).After-from-owner)

pub bounds-game-owner-in-loop-h : goal.bounds-game-owner-in-loop-h
bounds-game-owner-in-loop-h c = omega (arith, owner_low (goal.at.bounds-game-owner-in-loop-h c).After-from-owner)

pub overflow_sub-at : goal.overflow_sub-at
overflow_sub-at c = omega (arith, spans c)

pub overflow_mul-at-in-loop-h : goal.overflow_mul-at-in-loop-h
overflow_mul-at-in-loop-h c = omega (arith, within c)

pub overflow_add-at : goal.overflow_add-at
overflow_add-at c = omega (arith, within c)

pub overflow_mul-h : goal.overflow_mul-h
overflow_mul-h c = omega (arith, few-indices (goal.at.overflow_mul-h c).After-from)

pub overflow_add-at-in-loop-h : goal.overflow_add-at-in-loop-h
overflow_add-at-in-loop-h c = omega (arith, within (goal.at.overflow_add-at-in-loop-h c).After-from)

pub offset_bounds-game-at : goal.offset_bounds-game-at
offset_bounds-game-at c = omega (arith, within (goal.at.offset_bounds-game-at c).After-from)

pub slice_bounds-load_table-end : goal.slice_bounds-load_table-end
slice_bounds-load_table-end c = let w = within (goal.at.slice_bounds-load_table-end c).After-from in search rules

pub load_table-requires : goal.load_table-requires
load_table-requires c =
    let w = (goal.at.load_table-requires c).After-from in
    let s = (goal.at.load_table-requires c).Start in
    rw (part_long w) (omega (
      arith,
      few-indices w,
      behind-few (g s) (owner w) (yes s) (below (goal.at.load_table-requires c).After-from-owner) 0,
      c.requires.1.1.whole,
    ))

pub loop-h-preserved : goal.loop-h-preserved
loop-h-preserved c =
    let w = (goal.at.loop-h-preserved c).After-from in
    let s = (goal.at.loop-h-preserved c).Start in
    let l = c.loop-h in
    let ss = c.args.game.now.sizes.now in
    let ds = c.requires.1.0 in
    λ y. stand-alike ss ds [] c.args.game.now.losses.now y 0 (l.h + 1) c.load_table.new.levels
    (load_turn (g s) (yes s) c.args.game.now.losses.now y l.h
    (inside (goal.at.loop-h-preserved c).After-from-owner) l.levels _ (part w) (length (part w)) (part_long w)
    (part_at w) c.load_table.ensures (stand-alike ss [] ds c.args.game.now.losses.now y 0 l.h l.levels (l.invariant y)))

pub returns : goal.returns
returns c =
    let l = c.loop-h in
    let e : l.h ≡ sum c.args.game.now.sizes.now = omega (arith, c.requires.0) in
    λ y i b. let z : i ≡ 0 = omega arith in rw z (rw e at (l.invariant y))
