-- `label_point` meets its contract: what is compared is the column of the differences. Assumes nothing.
use mathlib.Core.Path.{ap, ◌∙◌}
use Prim.Native.Nat.{suc}
use native.Mathlib.Numerals.{add-one}
use Rattle.game_corners.specs.Corners.{signed_at, column}
use Rattle.game_losses.proofs.FirstLargest.{largest_agree}
use Rattle.game_corners.proofs.labels.label_point.Goals as goal

pub returns : goal.returns
returns c =
    let a = c.args in
    let t = c.add_rows in
    add-one c.first_largest.result
    ∙ ap suc
    (c.first_largest.ensures.0
    ∙ largest_agree (signed_at t.new.totals) (column a.mix.now a.differences.now) a.count t.ensures)
