-- `grid::Grid::block_of` meets its contract. Assumes nothing.
use mathlib.Core.Path.{◌∙◌}
use Rattle.grid.proofs.Fields.{indices-few, made-block}
use native.Mathlib.Omega.{arith}
use Rattle.grid.proofs.Grid.block_of.Goals as goal

pub bounds-self-h : goal.bounds-self-h
bounds-self-h c = let p = c.requires in omega (arith, indices-few _ p.0)

pub returns : goal.returns
returns c = let p = c.requires in c.from.ensures ∙ made-block _ p.0 c.args.h p.1
