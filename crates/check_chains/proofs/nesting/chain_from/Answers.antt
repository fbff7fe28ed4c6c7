-- `nesting::chain_from` meets its contract: all points have sets, and these are nested. Assumes nothing.
use Rattle.check_chains.proofs.ListedPoints.{not_served, served}
use Rattle.check_chains.proofs.nesting.chain_from.Goals as goal

pub returns-in-Some : goal.returns-in-Some
returns-in-Some c = served c.requires.0 c.args.p.now c.in-Some.sets c.in-Some.ensures c.all_nested.ensures

pub returns-in-None : goal.returns-in-None
returns-in-None c = not_served c.requires.0 c.args.p.now c.in-None.ensures
