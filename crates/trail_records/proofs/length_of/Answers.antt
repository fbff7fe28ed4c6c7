-- `trail_records::length_of` meets its contract: what T and U do tells the length. Assumes nothing.
use mathlib.Core.Path.{sym, ◌∙◌}
use Rattle.trail_records.proofs.Differences.{record_length}
use Rattle.trail_records.proofs.length_of.Goals as goal

pub returns-then-kept : goal.returns-then-kept
returns-then-kept c = λ come gone.
    let a = c.args in
    rw (
      record_length a.before.t a.before.u a.after.t a.after.u come gone,
      sym c.alike.ensures ∙ c.if-alike.true,
      sym c.alike-kept.ensures ∙ c.if-kept.true,
    )

pub returns-then-alike : goal.returns-then-alike
returns-then-alike c = λ come gone.
    let a = c.args in
    rw (
      record_length a.before.t a.before.u a.after.t a.after.u come gone,
      sym c.alike.ensures ∙ c.if-alike.true,
      sym c.alike-kept.ensures ∙ c.if-kept.false,
    )

pub returns-then-kept-2 : goal.returns-then-kept-2
returns-then-kept-2 c = λ come gone.
    let a = c.args in
    rw (
      record_length a.before.t a.before.u a.after.t a.after.u come gone,
      sym c.alike.ensures ∙ c.if-alike.false,
      sym c.alike-kept.ensures ∙ c.if-kept-2.true,
    )

pub returns : goal.returns
returns c = λ come gone.
    let a = c.args in
    rw (
      record_length a.before.t a.before.u a.after.t a.after.u come gone,
      sym c.alike.ensures ∙ c.if-alike.false,
      sym c.alike-kept.ensures ∙ c.if-kept-2.false,
    )
