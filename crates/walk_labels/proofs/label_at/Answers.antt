-- `label_at` meets its contract. Assumes nothing.
use mathlib.Core.Path.{◌∙◌}
use native.Mathlib.Omega.{arith}
use Rattle.walk_labels.proofs.Carrying.{label-behind, label-front}
use Rattle.walk_labels.proofs.label_at.Goals as goal

pub returns-then-n-k : goal.returns-then-n-k
returns-then-n-k c = let a = c.args in
    label-behind a.marks.now a.n c.requires.0 c.requires.2 a.k c.if-n-k.true c.requires.1

pub returns : goal.returns
returns c = let a = c.args in
    c.label_in.ensures ∙ label-front a.marks.now a.n c.requires.0 c.requires.2 a.k (omega arith)
