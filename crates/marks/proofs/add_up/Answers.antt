-- `marks::add_up` meets its contract: indices are below 16. Assumes nothing.
use Rattle.std.proofs.Common.{arith}
use Rattle.grid.proofs.Fields.{indices-few}
use Rattle.marks.proofs.add_up.Goals as goal

pub first_outside-b-requires : goal.first_outside-b-requires
first_outside-b-requires c =
    (omega (arith, c.requires.h_lt_indices.0, indices-few c.args.g c.requires.made.0), c.requires.made.1)

pub first_outside-e-requires : goal.first_outside-e-requires
first_outside-e-requires c =
    (omega (arith, c.requires.h_lt_indices.1, indices-few c.args.g c.requires.made.0), c.requires.made.1)
