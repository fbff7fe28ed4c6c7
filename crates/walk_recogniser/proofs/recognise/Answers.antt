-- `recognise` meets its contract: where a piece fails the conditions are not met, and where all are passed they are.
-- Assumes nothing.
use mathlib.Core.Bool.{true}
use mathlib.Core.Path.{◌≡◌, refl, sym, ◌∙◌}
use lib.ListN.{take}
use Rattle.grid.proofs.Fields.{indices-few}
use Rattle.grid.specs.Made.{shape}
use Rattle.grid_points.specs.Grid.{is_grid_point}
use Rattle.walk_recogniser.proofs.Together.{off_grid, no_sets, not_free, cannot_step, can-mark, all_seen}
use Rattle.walk_recogniser.proofs.recognise.Goals as goal
use Rattle.walk_recogniser.proofs.recognise.Goals.{Else-not-is_grid_point}

pub shared_ref_as_front-is_grid_point : goal.shared_ref_as_front-is_grid_point
shared_ref_as_front-is_grid_point c = indices-few c.args.g c.requires.measured.made

pub returns-then-not-is_grid_point-clause-recognised : goal.returns-then-not-is_grid_point-clause-recognised
returns-then-not-is_grid_point-clause-recognised c =
    off_grid c.requires c.args.held.now (sym c.is_grid_point.ensures ∙ c.if-not-is_grid_point.true)

on-grid : (c : Else-not-is_grid_point) → (let a = c.args in
    is_grid_point (shape a.g) (take a.g.indices a.held.now.first) ≡ true)
on-grid c = sym c.is_grid_point.ensures ∙ c.if-not-is_grid_point.false

pub returns-in_err-sets-clause-recognised : goal.returns-in_err-sets-clause-recognised
returns-in_err-sets-clause-recognised c =
    rw c.from_residual.ensures (no_sets c.requires c.args.held.now c.in_err-sets.ensures)

pub returns-then-not-is_free-clause-recognised : goal.returns-then-not-is_free-clause-recognised
returns-then-not-is_free-clause-recognised c =
    not_free c.requires c.args.held.now c.in_ok-sets.ensures c.zeros.ensures c.coefficients-held.ensures.1
    (c.is_free.ensures.no c.if-not-is_free.true)

pub mark_points-requires-clause-can_mark : goal.mark_points-requires-clause-can_mark
mark_points-requires-clause-can_mark c = can-mark c.requires _ c.in_ok-sets.ensures c.zeros.ensures
    (c.is_free.ensures.yes c.if-not-is_free.false)
    (on-grid (goal.at.mark_points-requires-clause-can_mark c).Else-not-is_grid_point)

pub returns-in_err-held-clause-recognised : goal.returns-in_err-held-clause-recognised
returns-in_err-held-clause-recognised c =
    rw c.from_residual-in_err-held.ensures (cannot_step c.requires c.args.held.now c.in_err-held.ensures)

pub returns-clause-recognised : goal.returns-clause-recognised
returns-clause-recognised c =
    let list = c.coefficients-held.ensures in
    all_seen c.requires _ c.in_ok-sets.ensures c.zeros.ensures (c.is_free.ensures.yes c.if-not-is_free.false)
    (on-grid (goal.at.returns-clause-recognised c).Else-not-is_grid_point) list.0 list.1 refl c.in_ok-held.ensures
