-- `write_labels` meets its contract: the arrays hold the divisions with 1 as the last and the first point.
-- Assumes nothing.
use native.Mathlib.Omega.{arith}
use mathlib.Core.List.{List}
use mathlib.Core.Path.{refl, sym, ap, ◌∙◌}
use Prim.Native.Nat.{ℕ, ◌-◌, ◌≤◌}
use lib.ListN.{length, set, length-set, length-take, length-replicate}
use lib.Seq.{length-take-le, take-set-lt}
use Rattle.grid_points.proofs.Accepted.{Accepted, accepted}
use Rattle.game_weighed.specs.Levels.{game_grid}
use Rattle.points_in_order.proofs.PointAfter.{first_array}
use Rattle.game_labels.proofs.game.write_labels.Goals as goal
use Rattle.game_labels.proofs.game.write_labels.Goals.{Start}

-- what is known of the game
module _ (s : Start) where
  yes : Accepted (game_grid s.args.game.now)
  yes = accepted (game_grid s.args.game.now) s.requires.fact.0.accepted

  -- the array has an entry for each division
  long : length s.args.game.now.sizes.now ≤ length s.args.padded
  long = omega (
    arith,
    length-take (length s.args.game.now.sizes.now) s.args.padded,
    ap length s.requires.indices_value.1,
    yes.same_number,
  )

  ones-long : length s.args.game.now.sizes.now ≤ length (set s.args.padded (length s.args.game.now.sizes.now - 1) 1)
  ones-long = rw length-set long

pub overflow_sub-ones : goal.overflow_sub-ones
overflow_sub-ones c = omega (arith, (yes (goal.at.overflow_sub-ones c).Start).some_block)

pub bounds-ones-blocks : goal.bounds-ones-blocks
bounds-ones-blocks c = omega (arith, (yes (goal.at.bounds-ones-blocks c).Start).few_blocks)

pub slice_bounds-ones-end : goal.slice_bounds-ones-end
slice_bounds-ones-end c = ones-long (goal.at.slice_bounds-ones-end c).Start

pub slice_bounds-label_points-end : goal.slice_bounds-label_points-end
slice_bounds-label_points-end c =
    sym (length-take-le (length c.args.game.now.sizes.now) (set c.args.padded (length c.args.game.now.sizes.now - 1) 1)
    (ones-long (goal.at.slice_bounds-label_points-end c).Start))

pub slice_bounds-point-end : goal.slice_bounds-point-end
slice_bounds-point-end c =
    let a = yes (goal.at.slice_bounds-point-end c).Start in
    rw (c.first_point.ensures, (first_array c.args.game.now.sizes.now c.args.game.now.divisions.now a).0)
    (omega (arith, c.requires.indices_value.0, a.few_indices))

pub slice_bounds-label_points-end-2 : goal.slice_bounds-label_points-end-2
slice_bounds-label_points-end-2 c =
    let a = yes (goal.at.slice_bounds-label_points-end-2 c).Start in
    let room : c.args.indices ≤ length c.first_point.new.point = rw (
      c.first_point.ensures,
      (first_array c.args.game.now.sizes.now c.args.game.now.divisions.now a).0,
    ) (omega (arith, c.requires.indices_value.0, a.few_indices)) in
    sym (length-take-le c.args.indices c.first_point.new.point room)

pub label_points-requires : goal.label_points-requires
label_points-requires c =
    let a = yes (goal.at.label_points-requires c).Start in
    let n = length c.args.game.now.sizes.now in
    record {
      grid = c.requires.fact.0;
      ones_are = take-set-lt n c.args.padded (n - 1) 1 (omega (arith, a.some_block))
          ∙ ap (λ (l : List ℕ). set l (n - 1) 1) c.requires.indices_value.1;
      owned = c.requires.fact.1;
      table = c.requires.fact.2;
      rested = c.requires.fact.3;
      first = rw (c.first_point.ensures, c.requires.indices_value.0)
          (first_array c.args.game.now.sizes.now c.args.game.now.divisions.now a).1;
      numbers = length-replicate {A = ℕ} 15552 0;
      rows = refl;
      whole = c.requires.indices_value.2;
    }
