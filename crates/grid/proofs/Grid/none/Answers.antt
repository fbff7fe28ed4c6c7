-- `grid::Grid::none` meets its contract. Assumes nothing.
use mathlib.Core.Path.{refl}
use Rattle.grid.proofs.Grid.none.Goals as goal

pub returns : goal.returns
returns c = refl
