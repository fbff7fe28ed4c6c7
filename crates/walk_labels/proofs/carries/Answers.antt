-- `carries` meets its contract. Assumes nothing.
use mathlib.Core.Path.{sym, ◌∙◌}
use lib.Dec.{eqb}
use lib.Seq.{ext_get_or}
use native.Mathlib.Omega.{arith}
use Rattle.combinatorics.proofs.Lists.{eqb_self, same_self}
use Rattle.walk_labels.proofs.Carrying.{front_long}
use Rattle.walk_labels.specs.Carrying.{labels_in_marks}
use Rattle.walk_labels.proofs.carries.Goals as goal

pub returns : goal.returns
returns c = let a = c.args in
    sym (rw (ext_get_or 0 a.carried.now (labels_in_marks a.marks.now a.n)
    (c.requires.2 ∙ sym (front_long a.marks.now a.n c.requires.0 c.requires.1))
    (λ j jl. c.loop-k.invariant j (omega arith))) (same_self eqb eqb_self (labels_in_marks a.marks.now a.n)))
