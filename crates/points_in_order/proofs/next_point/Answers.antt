-- `next_point` meets its contract: the blocks passed have begun again, and the point is the next where one has moved.
-- Assumes nothing.
use mathlib.Core.Bool.{Bool, false, true}
use mathlib.Core.List.{List, ◌++◌}
use mathlib.Core.Path.{◌≡◌, refl, ap, ◌∙◌}
use Prim.Native.Nat.{ℕ, suc, ◌+◌, ◌-◌, ◌≤◌}
use native.Mathlib.Omega.{arith}
use borrow.Author.Rules.{rules}
use lib.ListN.{length, get_or, take, drop}
use Rattle.combinatorics.specs.Lists.{sum}
use Rattle.points_in_order.proofs.PointAfter.{Passed, lent_turn, lent-ready, passed_moved}
use Rattle.points_in_order.proofs.PointAfter.{passed_end}
use Rattle.points_in_order.proofs.Blocks.{point-length}
use Rattle.points_in_order.specs.PointAfter.{after, point_step}
use Rattle.grid_points.proofs.Accepted.{accepted}
use Rattle.grid_points.proofs.Round.{block-fits}
use Rattle.grid_points.specs.Grid.{lent}
use Rattle.points_in_order.proofs.next_point.Goals as goal
use Rattle.points_in_order.proofs.next_point.Goals.{After-from}

-- what is known of the block of a turn
state : (c : After-from) → Passed c.args.sizes.now c.args.point.now (suc (c.loop-j.j - 1)) false c.loop-j.point
state c =
    let e : c.loop-j.j ≡ suc (c.loop-j.j - 1) = omega arith in
    rw e at c.loop-j.invariant.0

first-is : (c : After-from) → c.from-first.result ≡ sum (take (c.loop-j.j - 1) c.args.sizes.now)
first-is c = c.from-first.ensures ∙ c.requires.1.grid.first (c.loop-j.j - 1) (omega arith)

inside : (c : After-from)
    → sum (take (c.loop-j.j - 1) c.args.sizes.now) + get_or c.args.sizes.now (c.loop-j.j - 1) 0
    ≤ length c.loop-j.point
inside c =
    let g = lent c.args.sizes.now c.requires.0 in
    omega (
      arith,
      block-fits c.args.sizes.now (c.loop-j.j - 1),
      point-length g (accepted g c.requires.1.grid.accepted) c.args.point.now c.requires.1.is_point,
    )

turned : (c : After-from) (b : List ℕ) (moved : Bool)
    → let f = c.from-first.result in let n = f + c.from.result - f in let now = c.loop-j.point in
    after (take n (drop f now)) ≡ point_step moved b
    → Passed c.args.sizes.now c.args.point.now (c.loop-j.j - 1) moved (take f now ++ (b ++ drop n (drop f now)))
turned c b moved = lent_turn c.args.sizes.now c.args.point.now (c.loop-j.j - 1)
    c.loop-j.point (omega arith) (state c) c.from-first.result
    c.from.result (first-is c) c.from.ensures b moved (inside c)

pub bounds-firsts-j : goal.bounds-firsts-j
bounds-firsts-j c =
    omega (arith, (accepted (lent c.args.sizes.now c.requires.0) c.requires.1.grid.accepted).few_blocks)

pub slice_bounds-advance_block-end : goal.slice_bounds-advance_block-end
slice_bounds-advance_block-end c = let e = first-is c in let i = inside c in search rules

pub advance_block-requires : goal.advance_block-requires
advance_block-requires c =
    let l = c.loop-j in
    let w = (goal.at.advance_block-requires c).After-from in
    lent-ready c.args.sizes.now c.args.point.now (l.j - 1) l.point (omega arith) (state w)
    c.from-first.result c.from.result (first-is w) c.from.ensures c.requires.0 c.args.firsts.now c.requires.1

pub returns-then-advance_block : goal.returns-then-advance_block
returns-then-advance_block c =
    let a = c.advance_block in
    let p = turned (goal.at.returns-then-advance_block c).After-from a.new.block true
    (a.ensures ∙ ap (λ (b : Bool). point_step b a.new.block) c.if-advance_block.true) in
    record {
      point_after = passed_moved c.args.sizes.now c.args.point.now (c.loop-j.j - 1) _ p;
      upper_bound = (omega arith, p.before);
    }

pub loop-j-preserved : goal.loop-j-preserved
loop-j-preserved c =
    let a = c.advance_block in (
      turned (goal.at.loop-j-preserved c).After-from a.new.block false
          (a.ensures ∙ ap (λ (b : Bool). point_step b a.new.block) c.if-advance_block.false),
      omega arith,
    )

pub returns : goal.returns
returns c =
    let l = c.loop-j in
    let e : l.j ≡ 0 = omega arith in
    record {
      point_after = passed_end c.args.sizes.now c.args.point.now l.point (rw e at l.invariant.0);
      upper_bound =
          (omega (arith, (accepted (lent c.args.sizes.now c.requires.0) c.requires.1.grid.accepted).some_block), refl);
    }
