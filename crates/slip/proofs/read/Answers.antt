-- `slip::read` meets its contract, question by question. Assumes nothing.
use mathlib.Core.Bool.{true}
use mathlib.Core.Path.{◌≡◌, sym, ◌∙◌}
use Rattle.grid.proofs.Fields.{made_code, made-grid}
use Rattle.slip_fields.proofs.Laws.{head-fits}
use Rattle.slip.proofs.Readings.{refused_13, refused-grid, head-there, head_missing}
use Rattle.slip_fields.specs.Slip.{slip_grid, head_length, question13}
use Rattle.slip.proofs.read.Goals as goal
use Rattle.slip.proofs.read.Goals.{In-Some}

-- map, N, sizes and divisions are there
there : (c : In-Some)
    → let slip = c.args.slip.now in
    ((question13 slip).answered_yes ≡ true) × (c.in-Some.at ≡ head_length slip)
there c = head-there c.args.slip.now c.in-Some.at
    (sym c.head.ensures ∙ c.in-Some.is)

pub returns-in_default : goal.returns-in_default
returns-in_default c =
    let slip = c.args.slip.now in
    c.refused.ensures
    ∙ refused_13 slip
    (head_missing slip (sym c.head.ensures ∙ c.in_default.is))

pub grid_of-made-requires : goal.grid_of-made-requires
grid_of-made-requires c = head-fits c.args.slip.now (there c).0

pub returns-then-made-ne0 : goal.returns-then-made-ne0
returns-then-made-ne0 c =
    let slip = c.args.slip.now in
    let r = c.grid_of-made.result in
    c.refused-then-made-ne0.ensures
    ∙ refused-grid slip r.code (there (goal.at.returns-then-made-ne0 c).In-Some).0
    (sym (made_code (slip_grid slip) r c.grid_of-made.ensures)) c.if-made-ne0.true

pub read_fields-requires : goal.read_fields-requires
read_fields-requires c =
    let g = slip_grid c.args.slip.now in
    let r = c.grid_of-made.result in
    let e = c.grid_of-made.ensures in
    let t = there (goal.at.read_fields-requires c).In-Some in (
      record {
        head = t.0;
        accepts = sym (made_code g r e) ∙ c.if-made-ne0.false;
        is_grid = made-grid g r e c.if-made-ne0.false;
      },
      t.1,
    )
