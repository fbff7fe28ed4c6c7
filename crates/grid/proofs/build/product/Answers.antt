-- `grid::build::product` meets its contract. The invariant: the product of the counts so far, whichever grid they are
-- of. Assumes nothing.
use mathlib.Core.List.{List}
use mathlib.Core.Path.{◌≡◌, refl, sym, ◌∙◌}
use Prim.Native.Nat.{ℕ, ◌+◌, ◌*◌, ◌≤◌, ◌<◌}
use lib.ListN.{get_or, length-take}
use lib.Seq.{get_or-take}
use Rattle.combinatorics.proofs.Turns.{whole}
use Rattle.grid_points.proofs.Accepted.{accepted, points-are}
use Rattle.grid.proofs.Fields.{padded-at}
use Rattle.grid_counts.proofs.Products.{product-next, product-below}
use Rattle.grid.specs.Build.{BlocksCounted}
use Rattle.grid_points.specs.Grid.{Grid, num_blocks, block_count}
use Rattle.grid.specs.Made.{grid_of}
use native.Mathlib.Omega.{arith}
use Rattle.grid.proofs.build.product.Invariants.{so_far}
use Rattle.grid.proofs.build.product.Goals as goal
use Rattle.grid.proofs.build.product.Goals.{After-from-product}

module _ {g : Grid} {counts : List ℕ} {blocks : ℕ} (b : BlocksCounted g counts blocks) (j : ℕ) (h : j < blocks) where
  turn : so_far g (j + 1) ≡ so_far g j * get_or counts j 0
  unfolding grid_of
  turn =
      let n = b.number_is in
      let c : get_or counts j 0 ≡ block_count g j =
      rw b.counts_are (padded-at (block_count g) 6 (num_blocks g) j (omega arith)) in
      rw c (product-next g.sizes g.divisions j (omega arith) (accepted g b.accepted).same_number)

  -- no product is past P
  few : so_far g j * get_or counts j 0 ≤ 60000
  few =
      let a = accepted g b.accepted in
      omega (arith, turn, product-below g.sizes g.divisions (j + 1) a.same_number, points-are g a, a.few_points)

pub shared_ref_as_front-count-items : goal.shared_ref_as_front-count-items
shared_ref_as_front-count-items c =
    let p = c.requires in
    omega (arith, p.1.number_is, (accepted p.0 p.1.accepted).few_blocks)

pub loop-count-init : goal.loop-count-init
loop-count-init c = λ g b. refl

-- the count of the turn
count-is : (c : After-from-product)
    → (c.loop-count.count-index < c.args.blocks)
    × (c.from-product.result ≡ get_or c.args.counts.now c.loop-count.count-index 0)
count-is c =
    let e : c.loop-count.count-index < c.args.blocks = omega (arith, length-take c.args.blocks c.args.counts.now) in
    (e, c.from-product.ensures ∙ get_or-take c.args.blocks c.args.counts.now c.loop-count.count-index 0 e)

pub overflow_mul-product : goal.overflow_mul-product
overflow_mul-product c =
    let l = c.loop-count in
    let p = c.requires in
    let w = count-is (goal.at.overflow_mul-product c).After-from-product in
    rw (l.invariant p.0 p.1, w.1) (omega (arith, few p.1 l.count-index w.0))

pub loop-count-preserved : goal.loop-count-preserved
loop-count-preserved c =
    let l = c.loop-count in
    let w = count-is (goal.at.loop-count-preserved c).After-from-product in
    λ g b. rw (l.invariant g b, w.1) (sym (turn b l.count-index w.0))

pub returns : goal.returns
returns c = λ g b.
    let l = c.loop-count in
    let a = accepted g b.accepted in
    let n = b.number_is in
    let end : num_blocks g ≤ l.count-index =
    omega (arith, length-take c.args.blocks c.args.counts.now, a.few_blocks) in
    l.invariant g b
    ∙ rw (whole g.sizes l.count-index end, whole g.divisions l.count-index (omega (arith, a.same_number)))
    (sym (points-are g a))
