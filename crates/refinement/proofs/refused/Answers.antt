-- `refinement::refused` meets its contract. Assumes nothing.
use Rattle.refinement.proofs.refused.Goals as goal

pub returns : goal.returns
returns c = rw c.no_level.ensures
