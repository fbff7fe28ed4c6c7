-- `nesting::sets_of` meets its contract. The invariant: the points so far have their sets. The measure: the points
-- left. Assumes nothing.
use lib.ListN.{length-set}
use native.Mathlib.Omega.{arith}
use Rattle.check_chains.proofs.ListedPoints.{is-listed, on-grid, set-stored, filled-no, filled_more}
use Rattle.check_chains.proofs.nesting.sets_of.Goals as goal

pub set_from-requires : goal.set_from-requires
set_from-requires c = let i = is-listed c.requires.0.has c.loop-k.k (omega arith) in
    (c.requires.0.has.made, c.requires.1, rw i.part (on-grid c.requires.0 c.loop-k.k (omega arith)))

pub returns-in_err-sets : goal.returns-in_err-sets
returns-in_err-sets c =
    let l = c.loop-k in
    let i = is-listed c.requires.0.has l.k (omega arith) in
    rw c.from_residual.ensures
    (filled-no c.requires.0 c.args.p.now l.k (omega arith) l.invariant.3 (rw i.part at c.in_err-sets.ensures))

pub loop-k-preserved : goal.loop-k-preserved
loop-k-preserved c = let l = c.loop-k in
    let i = is-listed c.requires.0.has l.k (omega arith) in
    let S = rw i.part at c.in_ok-sets.ensures in (
      omega arith,
      simp length-set l.invariant.1,
      set-stored c.requires.0 c.args.p.now l.sets l.k _ (omega (arith, c.requires.0.has.few)) l.invariant.2 S,
      filled_more c.requires.0 c.args.p.now l.k _ (omega arith) l.invariant.3 S,
    )
