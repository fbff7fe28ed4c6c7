-- `moving::carried_to` meets its contract. Assumes nothing.
use Rattle.walk_calls.proofs.CarriedTo.{can-carry, carries-to}
use Rattle.walk_calls.proofs.moving.carried_to.Goals as goal

pub carry-requires : goal.carry-requires
carry-requires c = can-carry c.requires.0 c.requires.1 (c.both_placed-b.ensures c.args.labels.now c.requires.1)

pub returns : goal.returns
returns c = λ G full F. carries-to c.requires.0 G (c.both_placed-b.ensures c.args.labels.now G) full F c.carry.result
    c.carry.ensures
