-- `nesting::nested_with_later` meets its contract: each later set is tested. Assumes nothing.
use mathlib.Core.Bool.{true, false}
use mathlib.Core.Path.{◌≡◌, refl}
use Prim.Native.Nat.{◌+◌, ◌-◌}
use borrow.Author.Rules.{rules}
use borrow.Author.Tests.{tests}
use Rattle.std.proofs.lemmas.Iterator.{YieldsList-from_range, cases_from_all}
use Rattle.grid_points.specs.Grid.{at}
use Rattle.check_chains.proofs.Nestings.{all_numbered}
use Rattle.check_chains.specs.Sets.{nested_sets}
use Rattle.check_chains.proofs.nesting.nested_with_later.Goals as goal

pub returns : goal.returns
returns c =
    let a = c.args in
    let set = at a.sets.now a.i in
    let rest = a.count - (a.i + 1) in
    all_numbered (nested_sets set) (at a.sets.now) (a.i + 1) rest c.all.result
    (cases_from_all _ _ _
    (λ k. nested_sets set (at a.sets.now k) ≡ true) (λ k. nested_sets set (at a.sets.now k) ≡ false)
    c.all.ensures.ran (YieldsList-from_range (a.i + 1) a.count rest refl refl)
    (λ x q k. search (rules, tests)) (λ x q k. search (rules, tests)))
