-- `sizes::first_index` meets its contract. Assumes nothing.
use mathlib.Core.Path.{◌≡◌, ◌∙◌}
use Prim.Native.Nat.{◌≤◌, ◌^◌}
use lib.ListN.{length, take, length-take}
use native.Mathlib.Omega.{arith}
use Rattle.std.proofs.Common.{rules}
use Rattle.std.proofs.lemmas.Iterator.{YieldsList-from_slice}
use Rattle.std.proofs.lemmas.Iterator.Adapters.{fits_from_length, at_most_from_yields_List}
use Rattle.std.specs.List.{sum}
use Rattle.grid_counts.proofs.OfStd.{sum_is}
use Rattle.grid_counts.proofs.sizes.first_index.Goals as goal

pub sum-requires-clause-fits : goal.sum-requires-clause-fits
sum-requires-clause-fits c =
    let few : length (take c.args.j c.args.sizes.now) ≤ 6 = simp length-take (omega arith) in
    fits_from_length _ _ 6 (2 ^ 64) (at_most_from_yields_List (YieldsList-from_slice (take c.args.j c.args.sizes.now) cc) few)
    c.map.ensures.closure (omega arith) (λ x r q k. search rules)

pub returns : goal.returns
returns c =
    let e : c.sum.result ≡ sum (take c.args.j c.args.sizes.now) = search rules in
    e ∙ sum_is _
