-- `slip::fields::bit_stands` meets its contract. Assumes nothing.
use borrow.Author.Rules.{rules}
use Rattle.slip_fields.specs.Slip.{stands}
use Rattle.slip.proofs.fields.bit_stands.Goals as goal

pub returns : goal.returns
unfolding stands
returns c = search rules
