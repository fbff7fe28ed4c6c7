-- `ways::block_sizes` meets its contract. The invariant: the sizes of the blocks of the indices below h are there. The
-- measure: the indices left. Assumes nothing.
use mathlib.Core.Logic.{⊎_elim}
use mathlib.Core.Path.{◌≡◌, ap, ◌∙◌}
use Prim.Native.Nat.{ℕ, ◌<◌}
use borrow.Author.Rules.{rules}
use lib.ListN.{length-set}
use lib.Seq.{get_or-set_same, get_or-set_other}
use native.Mathlib.Omega.{arith}
use Rattle.combinatorics.proofs.Basics.{same_or}
use Rattle.grid.proofs.Fields.{made-block, made-blocks, made-indices, made-size, blocks-range, indices-few}
use Rattle.grid_points.proofs.Round.{block_spans}
use Rattle.grid_points.specs.Grid.{at}
use Rattle.grid.specs.Made.{IsMade, shape}
use Rattle.grid.specs.declared.Grid.{Grid as GridStruct}
use Rattle.arrays.proofs.ways.block_sizes.Goals as goal

-- the block of an index is one of the grid's
in_blocks : (g : GridStruct) → IsMade g → (h : ℕ) → h < g.indices → at g.block h < g.blocks
in_blocks g made h l = omega (
  arith,
  made-block g made h l,
  made-blocks g made,
  (block_spans (shape g).sizes h (omega (arith, made-indices g made))).0,
)

pub loop-h-init : goal.loop-h-init
loop-h-init c = (search rules, λ k l. absurd (omega arith))

pub bounds-g-h : goal.bounds-g-h
bounds-g-h c = omega (arith, indices-few c.args.g c.requires)

pub bounds-g-from : goal.bounds-g-from
bounds-g-from c =
    omega (
      arith,
      c.from.ensures,
      in_blocks c.args.g c.requires c.loop-h.h c.loop-h-test.true,
      (blocks-range c.args.g c.requires).1,
    )

pub bounds-a-h : goal.bounds-a-h
bounds-a-h c = omega (arith, indices-few c.args.g c.requires)

pub loop-h-preserved : goal.loop-h-preserved
loop-h-preserved c =
    let g = c.args.g in
    let l = c.loop-h in
    let x = at g.sizes c.from.result in (
      length-set l.a l.h x ∙ l.invariant.0,
      λ k m. ⊎_elim
          (λ (e : k ≡ l.h). rw e
          (get_or-set_same l.a l.h x 0 (omega (arith, l.invariant.0, indices-few g c.requires))
          ∙ ap (at g.sizes) c.from.ensures))
          (λ n. get_or-set_other l.a l.h k x 0 n ∙ l.invariant.1 k (omega (arith, n)))
          (same_or k l.h),
    )

pub returns : goal.returns
returns c =
    let g = c.args.g in
    λ h l. c.loop-h.invariant.1 h (omega arith)
    ∙ made-size g c.requires (at g.block h) (in_blocks g c.requires h l)
    ∙ rw (made-block g c.requires h l)
