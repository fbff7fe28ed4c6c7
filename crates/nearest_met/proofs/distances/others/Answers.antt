-- `nearest_met::distances::others` meets its contract. The invariant: the product of the other divisions so far.
-- Assumes nothing.
use mathlib.Core.Path.{◌≡◌, sym, ap, ◌∙◌}
use Prim.Native.Nat.{ℕ, ◌+◌, ◌*◌, ◌≤◌, ◌<◌}
use lib.ListN.{get_or, length-take, take}
use native.Mathlib.Omega.{arith}
use Rattle.grid.proofs.Fields.{blocks-range, made-accepted, made-blocks}
use Rattle.grid.specs.Made.{IsMade, shape}
use Rattle.grid.specs.declared.Grid.{Grid as GridStruct}
use Rattle.nearest_visited.proofs.Distances.{others_few, part_most, part_other, part_own, part_others, part_whole}
use Rattle.nearest_visited.specs.Distance.{other_divisions}
use Rattle.nearest_met.proofs.distances.others.Goals as goal
use Rattle.nearest_met.proofs.distances.others.Goals.{then-i-j, else-i-j}

-- no product is past D
few : (g : GridStruct) → IsMade g → (j : ℕ) → j < g.blocks → (i : ℕ) → i < g.blocks → (i ≡ j → ⊥)
    → part_others (take g.blocks g.divisions) j i * get_or (take g.blocks g.divisions) i 0 ≤ 60000
few g made j h i l d =
    let A = made-accepted g made in
    omega (
      arith,
      part_other (take g.blocks g.divisions) j i d,
      part_most (shape g) A j (i + 1) (omega (arith, made-blocks g made)),
      others_few (shape g) A j (omega (arith, made-blocks g made)),
    )

pub shared_ref_as_front-division-items : goal.shared_ref_as_front-division-items
shared_ref_as_front-division-items c = (blocks-range c.args.g c.requires.0).1

pub overflow_mul-product : goal.overflow_mul-product
overflow_mul-product c =
    let l = c.loop-i in
    rw (l.invariant, c.from-product.ensures) (omega (
      arith,
      few c.args.g c.requires.0 c.args.j c.requires.1 l.i
          (omega (arith, length-take c.args.g.blocks c.args.g.divisions)) c.if-i-j.true,
    ))

pub loop-i-preserved : goal.loop-i-preserved
loop-i-preserved c =
    let l = c.loop-i in
    let ds = take c.args.g.blocks c.args.g.divisions in
    elim c.if-i-j.branch [
      | then-i-j w ↦ rw (w.product-is, l.invariant, w.from-product.ensures)
          (sym (part_other ds c.args.j l.i w.if-i-j.true))
      | else-i-j w ↦ rw (w.product-is, l.invariant) (sym (part_own ds c.args.j l.i w.if-i-j.false))
    ]

pub returns : goal.returns
returns c =
    let l = c.loop-i in
    let g = c.args.g in
    let A = made-accepted g c.requires.0 in
    let range = blocks-range g c.requires.0 in
    let n : l.i ≡ g.blocks = omega (arith, length-take g.blocks g.divisions, range) in
    let e : l.product ≡ other_divisions (shape g) c.args.j = l.invariant
    ∙ ap (part_others (take g.blocks g.divisions) c.args.j) (n ∙ made-blocks g c.requires.0)
    ∙ part_whole (shape g) A c.args.j in
    (e, rw e (others_few (shape g) A c.args.j (omega (arith, c.requires.1, made-blocks g c.requires.0))))
