-- `leveretplate_read_trail` meets its contract: it is the reader's own, with the answer as numbers. Assumes nothing.
use mathlib.Core.Path.{sym}
use Rattle.trail_reader_exports.proofs.leveretplate_read_trail.Goals as goal

pub returns : goal.returns
returns c =
    let found = c.read-reading.ensures in
    rw (sym found.answer) record { number = c.put_place.ensures.number; points = found.points; place = c.put_place.ensures.place }
