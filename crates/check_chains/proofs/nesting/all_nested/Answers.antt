-- `nesting::all_nested` meets its contract: each set is tested with those behind it. Assumes nothing.
use mathlib.Core.Bool.{Bool, true, false}
use mathlib.Core.List.{map}
use mathlib.Core.Path.{◌≡◌, refl, ◌∙◌}
use Prim.Native.Nat.{ℕ, ◌+◌, ◌-◌}
use borrow.Author.Rules.{rules}
use borrow.Author.Tests.{tests}
use native.Mathlib.Omega.{arith}
use Rattle.std.proofs.lemmas.Iterator.{YieldsList-from_range, cases_from_all}
use Rattle.combinatorics.specs.Lists.{all, up_from}
use Rattle.grid_points.specs.Grid.{at}
use Rattle.check_chains.proofs.Nestings.{all_in_range, all_pairs}
use Rattle.check_chains.specs.Sets.{nested_sets}
use Rattle.check_chains.proofs.nesting.all_nested.Goals as goal
use Rattle.check_chains.proofs.nesting.all_nested.Goals.{After-all}

abbrev nested_with_later : (c : After-all) → ℕ → Bool
nested_with_later c i =
    let set = at c.args.sets.now in
    all (nested_sets (set i)) (map set (up_from (i + 1) (c.args.count - (i + 1))))

pub returns : goal.returns
returns c =
    let count = c.args.count in
    all_in_range (nested_with_later c) 0 count c.all.result
    (cases_from_all _ _ _ (λ i. nested_with_later c i ≡ true) (λ i. nested_with_later c i ≡ false)
    c.all.ensures.ran (YieldsList-from_range 0 count count refl (omega arith))
    (λ x q k. search (rules, tests)) (λ x q k. search (rules, tests)))
    ∙ all_pairs nested_sets (at c.args.sets.now) count 0 count (omega arith)
