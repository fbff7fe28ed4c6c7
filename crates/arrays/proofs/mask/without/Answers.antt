-- `mask::without` meets its contract. Assumes nothing.
use mathlib.Core.Path.{refl}
use Rattle.rules.specs.Mask.{without_index}
use Rattle.arrays.proofs.mask.without.Goals as goal

pub returns : goal.returns
unfolding without_index
returns c = refl
