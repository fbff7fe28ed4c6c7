-- `trail_visits::tell` meets its contract. Assumes nothing.
use mathlib.Core.Bool.{true, false}
use mathlib.Core.Path.{◌≡◌, refl, sym, ap, ◌∙◌}
use Rattle.combinatorics.proofs.Basics.{absurd_bool}
use Rattle.ways.proofs.Here.{here-low}
use Rattle.ways.specs.Ways.{gone_by, held_marks}
use Rattle.trail_visits.proofs.tell.Goals as goal

pub returns-then-not-writes : goal.returns-then-not-writes
returns-then-not-writes c =
    let n : c.args.writes ≡ false = c.if-not-writes.true in
    record { value = (λ e. absurd_bool (sym e ∙ n)); trail_after = rw n }

pub gone_by-requires : goal.gone_by-requires
gone_by-requires c =
    let a = c.args in
    let T = c.requires.can_tell in (
      T.few,
      λ i e. here-low (held_marks a.marks.now a.s) a.s T refl refl i
          (sym c.way_here-way.ensures ∙ e),
    )

pub returns : goal.returns
returns c =
    let a = c.args in
    let w : a.writes ≡ true = c.if-not-writes.false in record {
      value = (λ e. c.gone_by.ensures
          ∙ ap (gone_by (held_marks a.marks.now a.s)) c.way_here-way.ensures);
      trail_after = rw w c.put_here.ensures;
    }
