-- `placing::seen` meets its contract. Assumes nothing.
use mathlib.Core.Path.{refl}
use Rattle.walk_places.proofs.Placed.{can-place, can-read, seen-labels}
use Rattle.walk_places.proofs.placing.seen.Goals as goal

pub placed-requires : goal.placed-requires
placed-requires c = can-place c.requires c.args.held.now

pub read_labels-requires : goal.read_labels-requires
read_labels-requires c = can-read c.requires _ (c.in_ok-sets.ensures.recognised c.args.labels.now)

pub returns-clause-recognised : goal.returns-clause-recognised
returns-clause-recognised c =
    seen-labels c.requires _ (c.in_ok-sets.ensures.recognised c.args.labels.now) refl c.read_labels.ensures
