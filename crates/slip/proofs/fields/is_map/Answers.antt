-- `slip::fields::is_map` meets its contract: the maps that pass are found by a test of all bytes. Assumes nothing.
use native.Mathlib.Omega.{arith}
use mathlib.Core.Path.{sym, ◌∙◌}
use borrow.Author.Tests.{lt-ltb, le-ltb}
use Rattle.slip_fields.proofs.Laws.{map-passes}
use Rattle.slip.proofs.fields.is_map.Goals as goal

pub returns-in-4-to-11 : goal.returns-in-4-to-11
returns-in-4-to-11 c =
    let m = c.args.map in sym (map-passes m (omega arith) ∙ rw (le-ltb m 4 (omega arith), lt-ltb m 12 (omega arith)))

pub returns-in-4-to-11-2 : goal.returns-in-4-to-11-2
returns-in-4-to-11-2 c =
    let m = c.args.map in
    sym
    (map-passes m (omega arith)
    ∙ rw (le-ltb m 4 (omega arith), le-ltb m 12 (omega arith), le-ltb m 16 (omega arith), lt-ltb m 20 (omega arith)))

pub returns-in_default : goal.returns-in_default
returns-in_default c =
    let m = c.args.map in sym (map-passes m (omega arith) ∙ rw (lt-ltb m 4 (omega arith)))

pub returns-in_default-2 : goal.returns-in_default-2
returns-in_default-2 c =
    let m = c.args.map in
    sym
    (map-passes m (omega arith)
    ∙ rw (le-ltb m 4 (omega arith), le-ltb m 12 (omega arith), lt-ltb m 16 (omega arith)))

pub returns-in_default-3 : goal.returns-in_default-3
returns-in_default-3 c =
    let m = c.args.map in
    sym
    (map-passes m (omega arith)
    ∙ rw (le-ltb m 4 (omega arith), le-ltb m 12 (omega arith), le-ltb m 16 (omega arith), le-ltb m 20 (omega arith)))
