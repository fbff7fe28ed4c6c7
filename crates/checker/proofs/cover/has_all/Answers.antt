-- `cover::has_all` meets its contract: the test of each index is that of the definition. Assumes nothing.
use mathlib.Core.Bool.{true, false}
use mathlib.Core.Path.{◌≡◌, refl}
use Prim.Native.Nat.{◌-◌}
use borrow.Author.Rules.{rules}
use borrow.Author.Tests.{tests}
use Rattle.std.proofs.lemmas.Iterator.{YieldsList-from_range, cases_from_all}
use Rattle.rules.specs.Mask.{bit}
use Rattle.check_chains.proofs.Nestings.{all_in_range}
use Rattle.checker.proofs.cover.has_all.Goals as goal

pub returns : goal.returns
returns c =
    let a = c.args in
    all_in_range (bit a.set) a.first (a.end - a.first) c.all.result
    (cases_from_all _ _ _ (λ h. bit a.set h ≡ true) (λ h. bit a.set h ≡ false) c.all.ensures.ran
    (YieldsList-from_range a.first a.end (a.end - a.first) refl refl)
    (λ x q k. search (rules, tests)) (λ x q k. search (rules, tests)))
