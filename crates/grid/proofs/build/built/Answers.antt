-- `grid::build::built` meets its contract. Assumes nothing.
use mathlib.Core.Path.{◌≡◌, refl, ◌∙◌}
use lib.ListN.{length}
use Rattle.combinatorics.proofs.Turns.{whole}
use Rattle.combinatorics.specs.Lists.{sum}
use Rattle.grid_points.proofs.Accepted.{Accepted, accepted}
use Rattle.grid.specs.Build.{BlocksCounted}
use Rattle.grid_points.specs.Grid.{next as after, previous as before, lent}
use Rattle.grid.specs.Made.{grid_of}
use native.Mathlib.Omega.{arith}
use Rattle.grid.proofs.build.built.Goals as goal
use Rattle.grid.proofs.build.built.Goals.{After-first_index-indices, After-mark_blocks, Start}

-- the questions answered yes, and m
yes : (c : Start) → Accepted (lent c.args.sizes.now c.args.divisions.now)
yes c = accepted _ c.requires

total : (c : After-first_index-indices)
    → c.first_index-indices.result ≡ sum c.args.sizes.now
total c =
    let ss = c.args.sizes.now in
    c.first_index-indices.ensures ∙ rw (whole ss (length ss) (omega arith))

-- the counts that are multiplied
counted : (c : After-mark_blocks)
    → BlocksCounted (lent c.args.sizes.now c.args.divisions.now) c.mark_blocks.new.counts
    (length c.args.sizes.now)
unfolding grid_of
counted c = record {
  accepted = c.requires;
  counts_are = c.mark_blocks.ensures.counts_are;
  number_is = refl;
}

pub first_index-indices-requires : goal.first_index-indices-requires
first_index-indices-requires c = (omega arith, (yes (goal.at.first_index-indices-requires c).Start).few_blocks)

pub mark_indices-requires : goal.mark_indices-requires
mark_indices-requires c =
    let y = yes (goal.at.mark_indices-requires c).Start in
    let t = total (goal.at.mark_indices-requires c).After-first_index-indices in
    record { indices_value = (t, rw t y.few_indices, y.few_blocks); indices_unmarked = record { block_zero = refl; previous_zero = refl; next_zero = refl } }

pub product-points-requires : goal.product-points-requires
product-points-requires c = (_, counted (goal.at.product-points-requires c).After-mark_blocks)

pub returns : goal.returns
unfolding grid_of before after
returns c =
    let b = c.mark_blocks.ensures in
    let i = c.mark_indices.ensures in
    rw (
      b.sizes_are,
      b.divisions_are,
      b.firsts_are,
      i.block_is,
      i.previous_is,
      i.next_is,
      total (goal.at.returns c).After-first_index-indices,
      c.product-points.ensures _ (counted (goal.at.returns c).After-mark_blocks),
      b.counts_are,
    )
