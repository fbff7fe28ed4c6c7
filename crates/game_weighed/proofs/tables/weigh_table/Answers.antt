-- `weigh_table` meets its contract: the numbers passed are weighed. Assumes nothing.
use mathlib.Core.Path.{◌∙◌}
use Prim.Native.Nat.{◌+◌, ◌<◌}
use native.Mathlib.Omega.{arith}
use borrow.Author.Rules.{rules}
use lib.ListN.{length, length-set}
use Rattle.game_weighed.proofs.Writing.{written_turn, number-before, lent-sum, lent-apart}
use Rattle.game_weighed.proofs.tables.weigh_table.Goals as goal
use Rattle.game_weighed.proofs.tables.weigh_table.Goals.{In-loop-e}

-- the number that a turn writes stands behind those that it reads
before : (c : In-loop-e)
    → c.args.from + c.loop-e.e < length c.loop-e.levels
before c =
    let l = c.loop-e in
    omega (
      arith,
      number-before c.args.mix.now c.args.levels.now c.args.from c.args.to c.args.rest c.requires
          l.levels l.e (omega arith) _ l.invariant.0 l.invariant.1 0 (omega (arith, c.requires.two)),
      c.requires.inside,
    )

pub slice_bounds-dot_apart-count : goal.slice_bounds-dot_apart-count
slice_bounds-dot_apart-count c = omega (arith, before c)

pub slice_bounds-dot_apart-start : goal.slice_bounds-dot_apart-start
slice_bounds-dot_apart-start c = let h = before c in search rules

pub dot_apart-requires : goal.dot_apart-requires
dot_apart-requires c =
    let l = c.loop-e in
    lent-apart c.args.mix.now c.args.levels.now c.args.from c.args.to c.args.rest c.requires
    l.levels l.e (omega arith) _ l.invariant.0 l.invariant.1

pub bounds-levels-to : goal.bounds-levels-to
bounds-levels-to c = omega (arith, c.requires.inside)

pub loop-e-preserved : goal.loop-e-preserved
loop-e-preserved c =
    let l = c.loop-e in
    let a = c.args in
    let is = c.dot_apart.ensures
    ∙ lent-sum a.mix.now a.levels.now a.from a.to a.rest c.requires l.levels l.e (omega arith) _
    l.invariant.0 l.invariant.1 in (
      written_turn a.levels.now l.levels a.to l.e _ _ (omega (arith, c.requires.inside)) is l.invariant.0,
      simp length-set l.invariant.1,
    )
