-- `standing::next_on` meets its contract. Assumes nothing.
use mathlib.Core.Path.{sym, ◌∙◌}
use Prim.Native.Nat.{◌-◌}
use Rattle.grid.proofs.Fields.{indices-few}
use Rattle.walk_next.proofs.Begins.{kept_rightly, kept_wrongly, out_of_range}
use Rattle.walk_ways.proofs.Chosen.{refused-is}
use native.Mathlib.Omega.{arith}
use Rattle.walk_next.proofs.standing.next_on.Goals as goal
use Rattle.walk_next.proofs.standing.next_on.Goals.{then-not-counts_in_range-via-then-not-counts_in_range}
use Rattle.walk_next.proofs.standing.next_on.Goals.{then-not-counts_in_range-via-else-not-counts_in_range+then-not-is_kept}

pub is_kept-requires : goal.is_kept-requires
is_kept-requires c = indices-few c.args.g c.requires.0

pub returns-then-not-counts_in_range : goal.returns-then-not-counts_in_range
returns-then-not-counts_in_range c =
    let a = c.args in
    c.refused.ensures ∙ refused-is a.g a.w a.labels.now 20
    (elim c.then-not-counts_in_range.branch [
      | then-not-counts_in_range-via-then-not-counts_in_range w ↦ out_of_range a.g a.w a.labels.now c.requires.0
          c.requires.1 (sym c.counts_in_range.ensures ∙ w.if-not-counts_in_range.true)
      | then-not-counts_in_range-via-else-not-counts_in_range+then-not-is_kept w ↦ kept_wrongly a.g a.w a.labels.now
          c.requires.0 c.requires.1 (sym w.is_kept.ensures.0 ∙ w.if-not-is_kept.true)
    ])

pub stand-requires : goal.stand-requires
stand-requires c =
    let a = c.args in
    kept_rightly a.g a.w a.labels.now c.requires.0 c.requires.1 (sym c.is_kept.ensures.0 ∙ c.if-not-is_kept.false)
    (sym c.counts_in_range.ensures ∙ c.if-not-counts_in_range.false)
    (c.from.result - 1) (omega (arith, c.from.ensures))
