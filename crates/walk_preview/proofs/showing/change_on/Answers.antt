-- `showing::change_on` meets its contract. Assumes nothing.
use mathlib.Core.Path.{◌∙◌}
use Rattle.walk_preview.proofs.BothSeen.{shown}
use Rattle.walk_preview.proofs.showing.change_on.Goals as goal

pub other-come-requires-clause-n_bound : goal.other-come-requires-clause-n_bound
other-come-requires-clause-n_bound c =
    let M = c.both_placed-b.ensures c.requires.0 c.requires.1.moves.goes in (M.few_next, M.onto_long)

pub other-come-requires-clause-k_bound : goal.other-come-requires-clause-k_bound
other-come-requires-clause-k_bound c =
    let M = c.both_placed-b.ensures c.requires.0 c.requires.1.moves.goes in (M.few, M.from_long)

pub other-gone-requires-clause-n_bound : goal.other-gone-requires-clause-n_bound
other-gone-requires-clause-n_bound c =
    let M = c.both_placed-b.ensures c.requires.0 c.requires.1.moves.goes in (M.few, M.from_long)

pub other-gone-requires-clause-k_bound : goal.other-gone-requires-clause-k_bound
other-gone-requires-clause-k_bound c =
    let M = c.both_placed-b.ensures c.requires.0 c.requires.1.moves.goes in (M.few_next, M.onto_long)

pub returns : goal.returns
returns c = λ labels C. c.change_for.ensures
    ∙ rw (c.other-come.ensures, c.other-gone.ensures, c.index_of.ensures)
    (shown C c.both_placed-b.result (c.both_placed-b.ensures labels C.moves.goes))
