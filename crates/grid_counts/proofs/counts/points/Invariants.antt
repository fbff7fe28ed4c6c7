-- `counts::points` meets its contract. The invariant: the product so far, times that of the blocks to come. Assumes
-- nothing.
use mathlib.Core.Bool.{true}
use mathlib.Core.Path.{◌≡◌}
use Prim.Native.Nat.{◌≤◌, ◌*◌}
use lib.Dec.{leb}
use lib.ListN.{length}
use Rattle.combinatorics.specs.Counting.{binomial_product}
use Rattle.combinatorics.specs.Lists.{all, sum}
use Rattle.grid_counts.specs.Capped.{capped}
use Rattle.grid_counts.proofs.counts.points.Given as goal

abbrev pub invariant-loop-size : goal.invariant-loop-size
invariant-loop-size l =
    let ss = l.size-iterator.a.rest.now in
    let ds = l.size-iterator.b.rest.now in
    (capped (l.product * binomial_product ss ds) ≡ capped (binomial_product l.sizes l.divisions))
    × (l.product ≤ 60001)
    × (all (λ s. leb 2 s) ss ≡ true)
    × (sum ss ≤ 16)
    × (length ds ≡ length ss)
