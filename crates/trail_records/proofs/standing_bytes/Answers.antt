-- `trail_records::standing_bytes` meets its contract. Assumes nothing.
use mathlib.Core.List.{List}
use mathlib.Core.Path.{◌≡◌, sym, ap, ◌∙◌}
use Prim.Native.Nat.{ℕ}
use lib.ListN.{drop}
use native.Mathlib.Omega.{arith}
use Rattle.trail.specs.Trail.{begins}
use Rattle.trail_records.specs.Records.{record_from}
use Rattle.trail_records.proofs.Told.{taken_record}
use Rattle.trail_records.proofs.standing_bytes.Goals as goal
use Rattle.trail_records.proofs.standing_bytes.Goals.{After-stands}

pub stands-requires : goal.stands-requires
stands-requires c =
    let R = c.record_of-made.ensures in
    (c.requires.0, omega (arith, R.long, R.sized.1), R.eight)

-- whether the record that was made stands
told : (c : After-stands) →
    let a = c.args in
    c.stands.result
    ≡ begins (record_from a.before.t a.before.u a.after.t a.after.u a.come a.gone)
    (drop a.at a.trail.now)
told c =
    let a = c.args in
    let is = taken_record c.record_of-made.ensures in
    c.stands.ensures ∙ ap (λ (r : List ℕ). begins r (drop a.at a.trail.now)) is

pub returns-then-stands : goal.returns-then-stands
returns-then-stands c = rw (sym (told (goal.at.returns-then-stands c).After-stands) ∙ c.if-stands.true) c.record_of-made.ensures.long

pub returns : goal.returns
returns c = rw (sym (told (goal.at.returns c).After-stands) ∙ c.if-stands.false)
