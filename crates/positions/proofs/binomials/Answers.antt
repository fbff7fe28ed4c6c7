-- `binomials` meets its contract. The invariant: the blocks so far have their rows. Assumes nothing.
use mathlib.Core.Logic.{⊎_elim}
use mathlib.Core.Path.{◌≡◌}
use Rattle.combinatorics.proofs.Basics.{before_or_not}
use Rattle.grid.proofs.Fields.{made-size, made-division, blocks-range, size-range, count-range}
use Rattle.positions.proofs.Table.{rows-kept}
use Rattle.grid_points.specs.Grid.{size, division}
use Rattle.grid.specs.Made.{shape}
use native.Mathlib.Omega.{arith}
use Rattle.positions.proofs.binomials.Goals as goal

pub loop-j-init : goal.loop-j-init
loop-j-init c = (
  c.requires.1,
  (λ i h. absurd (omega arith)),
  (blocks-range _ c.requires.0).1,
)

pub fill_block-requires : goal.fill_block-requires
fill_block-requires c =
    let l = c.loop-j in
    let s = c.args.g in
    let m = c.requires.0 in
    let r = size-range s m l.j (omega arith) in
    rw (
      c.from.ensures,
      c.from-in-loop-j.ensures,
      made-size s m l.j (omega arith),
      made-division s m l.j (omega arith),
    ) record { le_size = (r.0, r.1, count-range s m l.j (omega arith)); t_len = l.invariant.0 }

pub loop-j-preserved : goal.loop-j-preserved
loop-j-preserved c =
    let l = c.loop-j in
    let s = c.args.g in
    let m = c.requires.0 in
    let e = c.fill_block.ensures in (
      e.0,
      (λ i h. ⊎_elim
          (λ b. rows-kept (size (shape s) i) (division (shape s) i) l.t c.fill_block.new.t
          (size-range s m i (omega arith)).1 (count-range s m i (omega arith)) (l.invariant.1 i b) e.1)
          (λ b.
          let q : i ≡ l.j = omega arith in
          rw (
            q,
            ← made-size s m l.j (omega arith),
            ← made-division s m l.j (omega arith),
            ← c.from.ensures,
            ← c.from-in-loop-j.ensures,
          ) e.2)
          (before_or_not i l.j)),
      l.invariant.2,
    )
