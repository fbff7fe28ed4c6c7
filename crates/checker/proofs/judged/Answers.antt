-- `judged` meets its contract: the test, and then the first block that is covered. Assumes nothing.
use mathlib.Core.Path.{sym, ap, ◌∙◌}
use Rattle.checker.proofs.Answers.{verdict-no, verdict_covered}
use Rattle.checker.specs.Check.{check_case}
use Rattle.checker.proofs.judged.Goals as goal

pub returns-then-not-one_chain : goal.returns-then-not-one_chain
returns-then-not-one_chain c =
    ap check_case (verdict-no c.requires.0 c.requires.2 c.args.labels.now
    (sym c.one_chain.ensures ∙ c.if-not-one_chain.true))

pub returns : goal.returns
returns c =
    c.first_whole.ensures
    ∙ ap check_case (verdict_covered c.requires.0 c.requires.2 c.args.labels.now c.covered-covered.result
    (sym c.one_chain.ensures
    ∙ c.if-not-one_chain.false)
    c.covered-covered.ensures)
