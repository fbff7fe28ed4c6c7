-- `sets::on_block` meets its contract: the first coefficient is 0 or 1. Assumes nothing.
use borrow.Author.Rules.{rules}
use native.Mathlib.Omega.{arith}
use Rattle.check_chains.proofs.Following.{found_either}
use Rattle.check_chains.proofs.sets.on_block.Goals as goal

pub returns : goal.returns
returns c = found_either _ _ _ _ _ c.follow_from.result _ (omega arith) c.follow_from.ensures (search rules)
