-- `sets::set_from` meets its contract. The invariant: the blocks so far have their sets. The measure: the blocks left.
-- Assumes nothing.
use mathlib.Core.Path.{◌≡◌, ◌∙◌}
use native.Mathlib.Omega.{arith}
use Rattle.grid.proofs.Fields.{blocks-range, made-accepted, made-blocks}
use Rattle.grid_points.specs.Grid.{first_index, num_blocks, size}
use Rattle.grid_points.proofs.Points.{point-long}
use Rattle.grid.specs.Made.{shape}
use Rattle.check_chains.proofs.WholeSets.{none_added, one_added, is_block, whole_set, no-set}
use Rattle.check_chains.proofs.sets.set_from.Goals as goal

pub loop-j-init : goal.loop-j-init
loop-j-init c = (none_added, omega arith, (blocks-range _ c.requires.0).1)

pub on_block-requires : goal.on_block-requires
on_block-requires c = let s = c.args.g in
    let l = c.loop-j in
    let b = is_block s c.requires.0 l.j (omega arith) in
    let first : c.from-first.result ≡ first_index (shape s) l.j = c.from-first.ensures ∙ b.first_is in
    let size : c.from.result ≡ size (shape s) l.j = c.from.ensures ∙ b.size_is in
    record {
      some = omega (arith, b.two);
      few = omega (arith, b.inside, b.few);
      of_start = omega (arith, b.inside, point-long (shape s) c.args.p.now c.requires.1);
      of_point = omega (arith, b.inside, point-long (shape s) c.args.z.now c.requires.2);
      clear = rw first l.invariant.0.clear;
    }

pub returns-in_err-set : goal.returns-in_err-set
returns-in_err-set c =
    let s = c.args.g in
    let l = c.loop-j in
    let b = is_block s c.requires.0 l.j (omega arith) in
    let first = c.from-first.ensures ∙ b.first_is in
    let size = c.from.ensures ∙ b.size_is in
    let none = c.in_err-set.ensures in
    rw c.from_residual.ensures
    (no-set (made-accepted s c.requires.0) c.args.p.now c.args.z.now c.requires.1 c.requires.2
    l.j (omega (arith, made-blocks s c.requires.0)) (rw (first, size) at none))

pub loop-j-preserved : goal.loop-j-preserved
loop-j-preserved c =
    let s = c.args.g in
    let l = c.loop-j in
    let b = is_block s c.requires.0 l.j (omega arith) in
    let first = c.from-first.ensures ∙ b.first_is in
    let size = c.from.ensures ∙ b.size_is in
    let found = c.in_ok-set.ensures in
    let here = rw (first, size) at found in
    (one_added l.invariant.0 (omega (arith, b.two)) here.0 here.1, omega arith, l.invariant.2)

pub returns : goal.returns
returns c =
    let s = c.args.g in
    let l = c.loop-j in
    let all_blocks : l.j ≡ num_blocks (shape s) = omega (arith, made-blocks s c.requires.0) in
    whole_set (made-accepted s c.requires.0) c.args.p.now c.args.z.now c.requires.1
    c.requires.2 l.set (rw all_blocks at l.invariant.0)
