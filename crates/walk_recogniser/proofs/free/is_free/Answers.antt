-- `free::is_free` meets its contract. Assumes nothing.
use mathlib.Core.Path.{sym, ◌∙◌}
use Rattle.combinatorics.proofs.Basics.{absurd_bool}
use Rattle.grid.proofs.Fields.{made-block, indices-few, blocks-range}
use Rattle.walk_recogniser.proofs.Blocks.{met_other, met_more, met_all, neither}
use Rattle.walk_recogniser.specs.Pieces.{positive}
use native.Mathlib.Omega.{arith}
use Rattle.walk_recogniser.proofs.free.is_free.Goals as goal
use Rattle.walk_recogniser.proofs.free.is_free.Goals.{then-in_neither+else-c-h-ne0, else-in_neither}

pub in_neither-requires : goal.in_neither-requires
in_neither-requires c = omega (arith, indices-few c.args.g c.requires)

pub offset_bounds-c-h : goal.offset_bounds-c-h
offset_bounds-c-h c = omega (arith, indices-few c.args.g c.requires)

pub bounds-c-h : goal.bounds-c-h
bounds-c-h c = omega (arith, indices-few c.args.g c.requires)

pub bounds-g-h : goal.bounds-g-h
bounds-g-h c = omega (arith, indices-few c.args.g c.requires)

pub returns-then-c-h-ne0 : goal.returns-then-c-h-ne0
returns-then-c-h-ne0 c =
    let a = c.args in
    let l = c.loop-h in
    record {
      yes = λ e. absurd_bool (sym e);
      no = λ e. positive l.h (omega arith)
          (neither a.t a.u l.h (sym c.in_neither.ensures ∙ c.if-in_neither.true)) (omega (arith, c.if-c-h-ne0.true));
    }

pub met_in-met-requires : goal.met_in-met-requires
met_in-met-requires c = omega (arith, c.loop-h.invariant.few, (blocks-range c.args.g c.requires).1)

pub loop-h-preserved : goal.loop-h-preserved
loop-h-preserved c =
    let a = c.args in
    let l = c.loop-h in
    let n = c.in_neither.ensures in
    elim c.if-in_neither.branch [
      | then-in_neither+else-c-h-ne0 w ↦ rw (w.met-is ∙ w.met_in-met.ensures)
          (met_more a.g c.requires a.c.now a.t a.u l.h l.met (omega arith) l.invariant (sym n ∙ w.if-in_neither.true)
          w.if-c-h-ne0.false _ (made-block a.g c.requires l.h (omega arith)))
      | else-in_neither w ↦ rw w.met-is (met_other a.g c.requires a.c.now a.t a.u l.h l.met (omega arith) l.invariant
          (sym n ∙ w.if-in_neither.false))
    ]

pub returns : goal.returns
returns c =
    let a = c.args in
    let l = c.loop-h in
    met_all a.g c.requires a.c.now a.t a.u l.h l.met l.invariant (omega arith)
