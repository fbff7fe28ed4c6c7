-- `rounds::first_met` meets its contract. Assumes nothing.
use Rattle.std.proofs.Common.{sym, ◌∙◌}
use Rattle.rules.proofs.FirstMet.{below, meets_here, meets_onward, meets_spent}
use Rattle.arrays.proofs.rounds.first_met.Goals as goal
use Rattle.arrays.proofs.rounds.first_met.Goals.{then-left-eq0-via-then-left-eq0, then-left-eq0-via-else-left-eq0+then-test}

pub loop-left-preserved : goal.loop-left-preserved
loop-left-preserved g c =
    let l = c.loop-left in
    let B = c.requires.way_below.1 in (
      rw c.from-at-in-loop-left.ensures (below c.args.way.now B l.at),
      λ q agree. meets_onward (l.invariant.1 q agree) B c.if-left-eq0.false
          (sym (agree l.at _ c.test.ensures) ∙ c.if-test.false) c.from-at-in-loop-left.ensures,
    )

pub returns : goal.returns
returns g c =
    let l = c.loop-left in (
      l.invariant.0,
      λ q agree. elim c.then-left-eq0.branch [
        | then-left-eq0-via-then-left-eq0 w ↦ meets_spent (l.invariant.1 q agree) w.if-left-eq0.true
        | then-left-eq0-via-else-left-eq0+then-test w ↦ meets_here (l.invariant.1 q agree)
            (sym (agree l.at _ w.test.ensures) ∙ w.if-test.true)
      ],
    )
