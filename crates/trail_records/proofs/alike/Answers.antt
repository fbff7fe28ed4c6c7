-- `trail_records::alike` meets its contract: masks that differ at no index are the same number. Assumes nothing.
use native.Mathlib.Omega.{arith}
use Rattle.trail_records.proofs.Differences.{alike-none}
use Rattle.trail_records.proofs.alike.Goals as goal

pub returns : goal.returns
returns c = alike-none c.args.a c.args.b (omega arith) (omega arith)
