-- `refinement_questions::grids::next_grid` meets its contract. Assumes nothing.
use mathlib.Core.Path.{sym, ap, ◌∙◌}
use lib.Seq.{length-take-le}
use native.Mathlib.Omega.{arith}
use Rattle.game_labels.proofs.Outcomes.{blocks-room}
use Rattle.grid.proofs.Fields.{blocks-range}
use Rattle.grid.specs.Made.{made_of}
use Rattle.refinement_questions.proofs.NextGrids.{next-lent, next-refused}
use Rattle.refinement_questions.proofs.grids.next_grid.Goals as goal

pub returns-then-not-next : goal.returns-then-not-next
returns-then-not-next c =
    let n = c.next_divisions-next in
    next-refused c.args.grid c.requires.0 c.args.factor c.requires.1 n.result n.ensures c.none.result
    c.none.ensures c.if-not-next.true

pub shared_ref_as_front-new : goal.shared_ref_as_front-new
shared_ref_as_front-new c = (blocks-range c.args.grid c.requires.0).1

pub slice_bounds-new-end : goal.slice_bounds-new-end
slice_bounds-new-end c = sym (length-take-le _ _ (blocks-room c.args.grid c.requires.0).0)

pub shared_ref_as_front-new-2 : goal.shared_ref_as_front-new-2
shared_ref_as_front-new-2 c = (blocks-range c.args.grid c.requires.0).1

pub slice_bounds-new-end-2 : goal.slice_bounds-new-end-2
slice_bounds-new-end-2 c = sym (length-take-le _ _
    (omega (arith, c.next_divisions-next.ensures.whole, (blocks-range c.args.grid c.requires.0).1)))

pub returns : goal.returns
returns c =
    let n = c.next_divisions-next in
    c.new.ensures
    ∙ ap made_of (next-lent c.args.grid c.requires.0 c.args.factor c.requires.1 n.result n.ensures
    c.if-not-next.false)
