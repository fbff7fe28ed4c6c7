-- `one_step::fall_at` meets its contract: indices are below 16. Assumes nothing.
use Rattle.std.proofs.Common.{arith}
use Rattle.grid.proofs.Fields.{indices-few}
use Rattle.marks.proofs.one_step.fall_at.Goals as goal

pub offset_bounds-tails-h : goal.offset_bounds-tails-h
offset_bounds-tails-h c = omega (arith, indices-few c.args.g c.requires.0.made, c.requires.1.index)

pub bounds-tails-h : goal.bounds-tails-h
bounds-tails-h c = omega (arith, indices-few c.args.g c.requires.0.made, c.requires.1.index)

pub offset_bounds-held-h : goal.offset_bounds-held-h
offset_bounds-held-h c = omega (arith, indices-few c.args.g c.requires.0.made, c.requires.1.index)

pub bounds-held-h : goal.bounds-held-h
bounds-held-h c = omega (arith, indices-few c.args.g c.requires.0.made, c.requires.1.index)
