-- `moving::moved` meets its contract: questions 1 to 4 on the walk's own grid, and then the call on that grid. Assumes
-- nothing.
use mathlib.Core.Path.{sym, ap, ◌∙◌}
use Rattle.grid_points.specs.Grid.{Grid}
use Rattle.walk_calls.proofs.Calls.{call_on-own, grid-refused}
use Rattle.walk_calls.specs.Moving.{call_on}
use Rattle.walk_calls.proofs.moving.moved.Goals as goal

pub returns-then-made-ne0 : goal.returns-then-made-ne0
returns-then-made-ne0 c =
    let w = c.args.w in
    let made = c.grid_in-made in
    c.unmoved.ensures ∙ grid-refused w c.args.labels.now made.result.code c.if-made-ne0.true (sym made.ensures.code)

pub returns : goal.returns
returns c =
    let w = c.args.w in
    let labels = c.args.labels.now in
    c.call_on.ensures ∙ ap (λ (g : Grid). call_on g w labels) (c.grid_in-made.ensures.is c.if-made-ne0.false).1
    ∙ sym (call_on-own w labels)
