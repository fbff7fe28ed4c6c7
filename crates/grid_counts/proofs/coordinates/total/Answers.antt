-- `coordinates::total` meets its contract. Assumes nothing.
use mathlib.Core.Path.{◌≡◌, ◌∙◌, ap, sym}
use mathlib.Core.List.{List}
use Prim.Native.Nat.{ℕ, ◌+◌, ◌-◌, ◌≤◌, ◌^◌}
use lib.ListN.{length, take, drop, length-take}
use native.Mathlib.Omega.{arith}
use Rattle.std.proofs.Common.{rules}
use Rattle.std.proofs.lemmas.Iterator.{YieldsList-from_slice}
use Rattle.std.proofs.lemmas.Iterator.Adapters.{fits_from_length, at_most_from_yields_List}
use Rattle.std.specs.List.{sum as std_sum}
use Rattle.combinatorics.specs.Lists.{sum}
use Rattle.grid_counts.proofs.OfStd.{sum_is}
use Rattle.grid_counts.proofs.Part.{numbers-part}
use Rattle.grid_counts.proofs.coordinates.total.Goals as goal

pub sum-requires-clause-fits : goal.sum-requires-clause-fits
sum-requires-clause-fits c =
    let part : List ℕ = take (c.args.first + c.args.size - c.args.first) (drop c.args.first c.args.y.now) in
    let few : length part ≤ 16 = simp length-take (omega arith) in
    fits_from_length _ _ 16 (2 ^ 64) (at_most_from_yields_List (YieldsList-from_slice part cc) few)
    c.map.ensures.closure (omega arith) (λ x r q k. search rules)

pub returns : goal.returns
returns c =
    let part : List ℕ = take c.args.size (drop c.args.first c.args.y.now) in
    let e : c.sum.result ≡ std_sum part = search rules in
    e ∙ sum_is part ∙ ap sum (sym (numbers-part c.args.y.now c.args.first c.args.size (omega arith)))
