-- `labelled` meets its contract: the word, the number and the newline are one part. Assumes nothing.
use native.Mathlib.Omega.{arith}
use borrow.Author.Rules.{rules}
use Rattle.text.proofs.Parts.{part_join}
use Rattle.text.proofs.labelled.Goals as goal

pub returns : goal.returns
returns c =
    let first = c.text-next.ensures in (
      part_join (part_join first c.spaced-next.ensures.0) c.byte.ensures,
      omega (arith, first.behind, c.byte.ensures.behind),
      search rules,
    )
