-- `check_calls::check_number` meets its contract: each case has its number. Assumes nothing.
use Rattle.exports.proofs.check_calls.check_number.Goals as goal

pub returns-in-Yes : goal.returns-in-Yes
returns-in-Yes c = rw (c.in-Yes.is, c.from-in-Yes.ensures)
