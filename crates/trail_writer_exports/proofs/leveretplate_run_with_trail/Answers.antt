-- `leveretplate_run_with_trail` meets its contract: it is the writer's own, its answer as numbers. Assumes nothing.
use mathlib.Core.Path.{sym}
use Rattle.trail_writer_exports.proofs.leveretplate_run_with_trail.Goals as goal

pub returns : goal.returns
returns c =
    let found = c.run_with_trail-found.ensures in
    let put = c.put_answer.ensures in
    rw (sym found.answer) record {
      number = put.0;
      facts = put.1;
      bytes = c.bytes_written.ensures;
      answer = found.buffer;
      trail = found.trail;
    }
