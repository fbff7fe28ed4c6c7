-- `spaced` meets its contract: the blank and the number are one part. Assumes nothing.
use native.Mathlib.Omega.{arith}
use Rattle.text.specs.Line.{spaced as spaced_of}
use Rattle.text.proofs.Parts.{part_join}
use Rattle.text.proofs.spaced.Goals as goal

pub decimal-requires : goal.decimal-requires
decimal-requires c = omega (arith, c.byte-next.ensures.behind)

pub returns : goal.returns
unfolding spaced_of
returns c =
    let first = c.byte-next.ensures in
    (part_join first c.decimal.ensures.0, omega (arith, first.behind))
