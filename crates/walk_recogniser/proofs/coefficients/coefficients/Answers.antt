-- `coefficients::coefficients` meets its contract. Assumes nothing.
use mathlib.Core.Path.{◌∙◌}
use Prim.Native.Nat.{◌+◌}
use lib.ListN.{take}
use Rattle.grid.proofs.Fields.{made-first, made-size, blocks-range}
use Rattle.grid_points.specs.Grid.{first_index, size}
use Rattle.grid.specs.Made.{shape}
use Rattle.place.specs.Coefficients.{coefficients as coefficients_of}
use Rattle.walk_recogniser.proofs.Following.{block_of_lem, stored_more, stored-all}
use Rattle.walk_recogniser.specs.Pieces.{InBlock, PutIn, started_on}
use native.Mathlib.Omega.{arith}
use Rattle.walk_recogniser.proofs.coefficients.coefficients.Goals as goal
use Rattle.walk_recogniser.proofs.coefficients.coefficients.Goals.{After-from}

pub bounds-g-j : goal.bounds-g-j
bounds-g-j c = omega (arith, (blocks-range c.args.g c.requires.0).1)

pub bounds-g-j-in-loop-j : goal.bounds-g-j-in-loop-j
bounds-g-j-in-loop-j c = omega (arith, (blocks-range c.args.g c.requires.0).1)

-- the coefficients of block j
in_block : (c : After-from) → (let a = c.args in
    InBlock (coefficients_of (started_on a.g a.v.now) (take a.g.indices a.y.now)) a.v.now a.y.now c.from-first.result
    (c.from-first.result + c.from.result))
in_block c =
    let a = c.args in
    let j = c.loop-j.j in
    let made = c.requires.0 in
    let low = c.loop-j-test.true in
    rw (c.from-first.ensures ∙ made-first a.g made j low, c.from.ensures ∙ made-size a.g made j low)
    (block_of_lem a.g made a.v.now a.y.now c.requires.1 c.requires.2 j low)

pub first_of-from-requires : goal.first_of-from-requires
first_of-from-requires c = (_, in_block c)

pub put_block-requires : goal.put_block-requires
put_block-requires c =
    let B = in_block (goal.at.put_block-requires c).After-from in
    ((_, B, c.first_of-from.ensures _ B), c.loop-j.invariant.0)

pub loop-j-preserved : goal.loop-j-preserved
loop-j-preserved c =
    let a = c.args in
    let l = c.loop-j in
    let j = l.j in
    let made = c.requires.0 in
    let low = c.loop-j-test.true in
    let B = in_block (goal.at.loop-j-preserved c).After-from in
    let list = coefficients_of (started_on a.g a.v.now) (take a.g.indices a.y.now) in
    let P : PutIn list (first_index (shape a.g) j) (first_index (shape a.g) j + size (shape a.g) j) l.list
    c.put_block.new.list =
    rw (c.from-first.ensures ∙ made-first a.g made j low, c.from.ensures ∙ made-size a.g made j low) at
    (c.put_block.ensures list B (c.first_of-from.ensures list B)) in
    (P.long, stored_more a.g made a.v.now a.y.now c.requires.1 c.requires.2 j l.list _ P l.invariant.1)

pub returns : goal.returns
returns c =
    let a = c.args in
    let l = c.loop-j in (
      l.invariant.0,
      stored-all a.g c.requires.0 a.v.now a.y.now c.requires.1 c.requires.2 l.list l.j (omega arith) l.invariant.1,
    )
