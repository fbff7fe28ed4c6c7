-- `bytes_written` meets its contract: each case has its number. Assumes nothing.
use Rattle.trail_writer_exports.proofs.bytes_written.Goals as goal

pub returns-in-End : goal.returns-in-End
returns-in-End c = rw c.in-End.is
