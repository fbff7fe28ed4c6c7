-- `trail_visits::put_here` meets its contract: the record is that of rule 1, or is made. Assumes nothing.
use mathlib.Core.Path.{◌∙◌}
use borrow.Author.Tests.{ne_eqb}
use native.Mathlib.Omega.{arith}
use Rattle.trail_records.proofs.Differences.{same_record}
use Rattle.trail_records.proofs.Told.{pasted}
use Rattle.trail_records.specs.Records.{IsRecord}
use Rattle.trail_visits.specs.Visited.{record_here}
use Rattle.ways.specs.Ways.{held_marks}
use Rattle.trail_visits.proofs.put_here.Goals as goal
use Rattle.trail_visits.proofs.put_here.Goals.{After-kept_record}

pub kept_record-requires : goal.kept_record-requires
kept_record-requires c =
    let P = c.requires.positions in
    (omega (arith, P.come, c.position_at-come.ensures.0), P.gone)

-- the record that rule 1 leaves is the place's
kept : (c : After-kept_record)
    → let a = c.args in
    IsRecord (record_here (held_marks a.marks.now a.s) a.before a.at) c.kept_record.result
kept c =
    let a = c.args in
    let behind = c.if-at-gt0.true in
    rw (
      ne_eqb a.at 0 (λ e. omega arith),
      same_record a.before.sets.t a.before.sets.u a.s.t a.s.u _ a.before.gone
          (c.requires.kept c.if-s-eq1.true behind),
      ← c.position_at-come.ensures.0,
    ) c.kept_record.ensures

pub put-requires : goal.put-requires
put-requires c =
    let R = kept c in (
      omega (arith, R.long, c.requires.room),
      rw R.long R.sized,
      R.eight,
    )

pub returns-then-s-eq1 : goal.returns-then-s-eq1
returns-then-s-eq1 c =
    let a = c.args in
    c.put.ensures ∙ pasted (kept (goal.at.returns-then-s-eq1 c).After-kept_record) a.trail.now a.at

pub put-requires-2 : goal.put-requires-2
put-requires-2 c =
    let R = c.record_here.ensures in
    (omega (arith, R.long, c.requires.room), rw R.long R.sized, R.eight)

pub returns : goal.returns
returns c =
    let a = c.args in
    c.put-2.ensures ∙ pasted c.record_here.ensures a.trail.now a.at
