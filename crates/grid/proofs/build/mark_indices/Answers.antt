-- `grid::build::mark_indices` meets its contract. The invariant: the entries of the indices so far stand at the front.
-- Assumes nothing.
use mathlib.Core.List.{[]}
use mathlib.Core.Path.{◌≡◌, sym, ◌∙◌}
use Prim.Native.Nat.{◌+◌, ◌≤◌, ◌<◌}
use lib.ListN.{length, get_or, take, replicate}
use Rattle.combinatorics.proofs.Fronts.{front-none}
use Rattle.combinatorics.proofs.Turns.{front-counted}
use Rattle.combinatorics.specs.Lists.{sum}
use Rattle.grid_points.proofs.Round.{block_spans, block-fits}
use Rattle.grid_points.specs.Grid.{block_in, next as after, previous as before, lent}
use native.Mathlib.Omega.{arith}
use Rattle.grid.proofs.build.mark_indices.Goals as goal
use Rattle.grid.proofs.build.mark_indices.Goals.{After-block_of-j}

-- where the index stands in its block
spans : (c : After-block_of-j)
    → (c.block_of-j.result < length c.args.sizes.now)
    × (sum (take c.block_of-j.result c.args.sizes.now)
    ≤ c.loop-h.h)
    × (c.loop-h.h
    < sum (take c.block_of-j.result c.args.sizes.now)
    + get_or c.args.sizes.now c.block_of-j.result 0)
    × (sum (take c.block_of-j.result c.args.sizes.now)
    + get_or c.args.sizes.now c.block_of-j.result 0
    ≤ 16)
spans c =
    let ss = c.args.sizes.now in
    let s = block_spans ss c.loop-h.h (omega arith) in
    rw c.block_of-j.ensures (s.0, s.1, s.2, omega (arith, block-fits ss (block_in ss c.loop-h.h)))

pub loop-h-init : goal.loop-h-init
loop-h-init c =
    let none = sym (front-none (replicate 16 0)) in
    let z = c.requires.indices_unmarked in
    (z.block_zero ∙ none, z.previous_zero ∙ none, z.next_zero ∙ none)

pub first_index-first-requires : goal.first_index-first-requires
first_index-first-requires c = omega (arith, (spans c).0)

pub bounds-sizes-j : goal.bounds-sizes-j
bounds-sizes-j c = (spans (goal.at.bounds-sizes-j c).After-block_of-j).0

pub overflow_cast-block : goal.overflow_cast-block
overflow_cast-block c = omega (arith, (spans (goal.at.overflow_cast-block c).After-block_of-j).0)

pub index_before-requires : goal.index_before-requires
index_before-requires c =
    let s = spans (goal.at.index_before-requires c).After-block_of-j in
    rw (c.first_index-first.ensures, c.from-size.ensures) (s.1, s.2, s.3)

pub index_after-requires : goal.index_after-requires
index_after-requires c =
    let s = spans (goal.at.index_after-requires c).After-block_of-j in
    rw (c.first_index-first.ensures, c.from-size.ensures) (omega arith, s.3)

pub loop-h-preserved : goal.loop-h-preserved
unfolding before after
loop-h-preserved c =
    let l = c.loop-h in
    let ss = c.args.sizes.now in
    let p : c.index_before.result ≡ before (lent ss []) l.h = c.index_before.ensures
    ∙ rw (
      c.first_index-first.ensures,
      c.from-size.ensures,
      c.block_of-j.ensures,
    ) in
    let n : c.index_after.result ≡ after (lent ss []) l.h = c.index_after.ensures
    ∙ rw (
      c.first_index-first.ensures,
      c.from-size.ensures,
      c.block_of-j.ensures,
    ) in (
      rw (l.invariant.0, c.block_of-j.ensures) (front-counted (block_in ss) (replicate 16 0) l.h (omega arith)),
      rw (l.invariant.1, p) (front-counted (before (lent ss [])) (replicate 16 0) l.h (omega arith)),
      rw (l.invariant.2, n) (front-counted (after (lent ss [])) (replicate 16 0) l.h (omega arith)),
    )

pub returns : goal.returns
returns c =
    let l = c.loop-h in
    let e : l.h ≡ sum c.args.sizes.now = omega arith in
    record { block_is = l.invariant.0 ∙ rw e; previous_is = l.invariant.1 ∙ rw e; next_is = l.invariant.2 ∙ rw e }
