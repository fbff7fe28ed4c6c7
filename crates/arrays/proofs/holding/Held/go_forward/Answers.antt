-- `Held::go_forward` meets its contract: the arrays stay as long as they are. Assumes nothing.
use lib.ListN.{length-set}
use native.Mathlib.Numerals.{add-one}
use Rattle.arrays.proofs.holding.Held.go_forward.Goals as goal

pub invariant_of-self : goal.invariant_of-self
invariant_of-self c = record {
  first_long = rw (c.shift.ensures, length-set, length-set) c.args.self.now.first_long;
  order_long = c.rotate_left.ensures.1;
}

pub returns : goal.returns
returns c = record {
  point = c.shift.ensures;
  list = c.raise.ensures;
  steps = c.rotate_left.ensures.0;
  marked = rw add-one at c.rotate_left-2.ensures.0;
  behind_steps = c.rotate_left.ensures.2;
  behind_marks = rw add-one at c.rotate_left-2.ensures.2;
}
