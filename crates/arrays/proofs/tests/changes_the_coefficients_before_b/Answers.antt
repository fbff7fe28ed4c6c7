-- `tests::changes_the_coefficients_before_b` meets what `raise` and `lower` ask, by computation. Assumes nothing.
use mathlib.Core.Path.{refl}
use Rattle.rules.specs.Ready.{tested_before}
use Rattle.rules.specs.Moves.{changed_before}
use Rattle.arrays.proofs.tests.changes_the_coefficients_before_b.Goals as goal

pub raise-requires-clause-c_value : goal.raise-requires-clause-c_value
unfolding tested_before
raise-requires-clause-c_value g c = refl

pub lower-requires-clause-c_value : goal.lower-requires-clause-c_value
unfolding tested_before changed_before
lower-requires-clause-c_value g c = rw c.raise.ensures refl
