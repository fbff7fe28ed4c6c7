-- `grid::build::mark_blocks` meets its contract. The invariant: the entries of the blocks so far stand at the front.
-- Assumes nothing.
use mathlib.Core.Path.{◌≡◌, sym, ◌∙◌}
use Prim.Native.Nat.{◌≤◌}
use borrow.Author.Rules.{rules}
use lib.ListN.{length, replicate}
use Rattle.combinatorics.proofs.Fronts.{front-none}
use Rattle.combinatorics.proofs.Turns.{front-counted}
use Rattle.combinatorics.specs.Front.{front}
use Rattle.grid_points.proofs.Accepted.{Accepted, accepted, count-few, size-two}
use Rattle.grid_points.proofs.Round.{block-fits}
use Rattle.grid_points.specs.Grid.{first_index, block_count, lent}
use native.Mathlib.Omega.{arith}
use Rattle.grid.proofs.build.mark_blocks.Goals as goal
use Rattle.grid.proofs.build.mark_blocks.Goals.{Start}

-- the questions answered yes
yes : (c : Start) → Accepted (lent c.args.sizes.now c.args.divisions.now)
yes c = accepted _ c.requires.divisions_value

pub slice_bounds-copy_from_slice-end : goal.slice_bounds-copy_from_slice-end
slice_bounds-copy_from_slice-end c =
    let few : length c.args.sizes.now ≤ 6 = (yes (goal.at.slice_bounds-copy_from_slice-end c).Start).few_blocks in
    search rules

pub slice_bounds-copy_from_slice-end-3 : goal.slice_bounds-copy_from_slice-end-3
slice_bounds-copy_from_slice-end-3 c =
    let y = yes (goal.at.slice_bounds-copy_from_slice-end-3 c).Start in
    let few : length c.args.divisions.now ≤ 6 = omega (arith, y.same_number, y.few_blocks) in
    search rules

pub loop-j-init : goal.loop-j-init
loop-j-init c =
    let none = sym (front-none (replicate 6 0)) in
    let z = c.requires.blocks_unmarked in
    (z.firsts_zero ∙ none, z.counts_zero ∙ none)

pub overflow_cast-firsts : goal.overflow_cast-firsts
overflow_cast-firsts c =
    omega (arith, block-fits c.args.sizes.now c.loop-j.j, (yes (goal.at.overflow_cast-firsts c).Start).few_indices)

pub bounds-divisions-j : goal.bounds-divisions-j
bounds-divisions-j c = omega (arith, (yes (goal.at.bounds-divisions-j c).Start).same_number)

pub first_index-requires : goal.first_index-requires
first_index-requires c = (omega arith, omega (arith, (yes (goal.at.first_index-requires c).Start).few_blocks))

pub block_count-requires : goal.block_count-requires
block_count-requires c =
    let s = size-two _ (yes (goal.at.block_count-requires c).Start) c.loop-j.j (omega arith) in
    (omega (arith, s.0), omega (arith, s.1), omega arith)

pub loop-j-preserved : goal.loop-j-preserved
loop-j-preserved c =
    let l = c.loop-j in
    let g = lent c.args.sizes.now c.args.divisions.now in
    let y = yes (goal.at.loop-j-preserved c).Start in
    let few = y.few_blocks in
    let n : c.block_count.result ≡ block_count g l.j = rw (
      c.block_count.ensures,
      c.from.ensures,
      c.from-in-loop-j.ensures,
    ) (omega (arith, count-few g y l.j (omega arith))) in (
      rw (l.invariant.0, c.first_index.ensures)
          (front-counted (first_index g) (replicate 6 0) l.j (omega arith)),
      rw (l.invariant.1, n) (front-counted (block_count g) (replicate 6 0) l.j (omega arith)),
    )

pub returns : goal.returns
unfolding front
returns c =
    let l = c.loop-j in
    let z = c.requires.blocks_unmarked in
    let n : l.j ≡ length c.args.sizes.now = omega arith in
    record {
      sizes_are = rw (z.sizes_zero, c.copy_from_slice.ensures.after);
      divisions_are = rw (z.divisions_zero, c.copy_from_slice-2.ensures.after);
      firsts_are = rw n at l.invariant.0;
      counts_are = rw n at l.invariant.1;
    }
