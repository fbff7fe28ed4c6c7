-- `lists::label_in` meets its contract: the lowest 8 bits of a number are what is left of it by 256. Assumes nothing.
use lib.Bits.{and_mask}
use Rattle.arrays.proofs.lists.label_in.Goals as goal

pub returns : goal.returns
returns c = and_mask c.args.mark 8
