-- `mask::add` meets its contract. Assumes nothing.
use mathlib.Core.Path.{refl}
use Rattle.rules.specs.Mask.{with_index}
use Rattle.arrays.proofs.mask.add.Goals as goal

pub returns : goal.returns
unfolding with_index
returns c = refl
