-- `sizes::each_one` meets its contract. Assumes nothing.
use mathlib.Core.Logic.{◌↔◌}
use Prim.Native.Nat.{◌≤◌}
use borrow.Author.Rules.{rules}
use Rattle.std.specs.Prelude.{IsTrue}
use Rattle.std.specs.List.{All}
use Rattle.grid_counts.proofs.OfStd.{all-from}
use Rattle.grid_counts.proofs.sizes.each_one.Goals as goal

pub returns : goal.returns
returns c =
    let e : IsTrue c.all.result ↔ All (λ x. 1 ≤ x) c.args.divisions.now = search rules in
    all-from _ _ _ e
