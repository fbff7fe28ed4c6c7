-- `leveretplate_nearest` meets its contract: it is the report's own, with the answer as numbers. Assumes nothing.
use mathlib.Core.Path.{sym}
use Rattle.nearest_exports.proofs.leveretplate_nearest.Goals as goal

pub returns : goal.returns
returns c =
    let found = c.run-report.ensures in
    rw (sym found.report) record {
      number = c.put_answer.ensures.0;
      facts = c.put_answer.ensures.1;
      near = c.put_nearest.ensures;
      answer = found.answer;
      list = found.list;
    }
