-- `in_range` meets its contract: the losses passed are in range. Assumes nothing.
use Rattle.std.proofs.Common.{refl, ◌∙◌, rules, tests}
use Rattle.std.proofs.lemmas.Iterator.{YieldsList-from_slice}
use Rattle.std.proofs.lemmas.Iterator.Search.{all_from_yields_List}
use Rattle.std.proofs.lemmas.List.Recursion.{same_from_clauses}
use Rattle.std.specs.List.{list_all}
use Rattle.std.specs.Prelude.{◌&&◌}
use Rattle.combinatorics.specs.Lists.{all}
use Rattle.game_losses.specs.Table.{in_range}
use Rattle.game_losses.proofs.in_range.Goals as goal

pub returns : goal.returns
returns c =
    let xs = c.args.losses.now in
    all_from_yields_List in_range _ _ _ c.all.ensures.ran (YieldsList-from_slice xs cc)
    (λ x b q k. search (rules, tests))
    ∙ same_from_clauses (list_all in_range) (all in_range) (λ x r. in_range x && r) refl (λ _ _. refl)
    (λ _ _. refl) xs
