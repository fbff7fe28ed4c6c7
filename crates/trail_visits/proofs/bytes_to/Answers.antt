-- `trail_visits::bytes_to` meets its contract. Assumes nothing.
use mathlib.Core.Path.{sym, ap}
use lib.ListN.{length}
use Rattle.trail_records.proofs.Differences.{same_record}
use Rattle.trail_visits.proofs.bytes_to.Goals as goal

pub returns-then-next-eq1 : goal.returns-then-next-eq1
returns-then-next-eq1 c = λ come gone.
    let a = c.args in
    sym (ap length (same_record a.s.t a.s.u a.next.t a.next.u come gone
    (c.requires c.if-next-eq1.true)))
