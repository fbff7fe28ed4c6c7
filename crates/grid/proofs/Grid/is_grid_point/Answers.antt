-- `grid::Grid::is_grid_point` meets its contract. The invariant: the blocks so far add up. Assumes nothing.
use mathlib.Core.Bool.{Bool, false, and-false}
use mathlib.Core.List.{map}
use mathlib.Core.Path.{◌≡◌, refl, sym, ◌∙◌}
use Prim.Native.Nat.{ℕ, zero, suc, ◌+◌, ◌<◌}
use borrow.Author.Tests.{eq-eqb, ne_eqb}
use lib.ListN.{length}
use Rattle.combinatorics.proofs.Turns.{all-counted}
use Rattle.combinatorics.specs.Lists.{all, sum, up_from}
use Rattle.grid.proofs.Fields.{made-first, made-size, made-division, made-indices, made-blocks, blocks-range}
use Rattle.grid.proofs.Fields.{size-range}
use Rattle.grid_points.proofs.Points.{block_sum}
use Rattle.grid_points.proofs.Round.{block-fits}
use Rattle.grid_points.specs.Grid.{is_grid_point, at, indices_of, division, num_indices, num_blocks}
use Rattle.grid.specs.Made.{shape}
use native.Mathlib.Omega.{arith}
use Rattle.grid.proofs.Grid.is_grid_point.Goals as goal
use Rattle.grid.proofs.Grid.is_grid_point.Goals.{After-from-in-loop-j-2}

-- one number that fails
fails : (q : ℕ → Bool) (b n i : ℕ) → i < n → q (b + i) ≡ false → all q (up_from b n) ≡ false
fails q b zero i h e = absurd (omega arith)
fails q b (suc n) zero h e = let z : b + 0 ≡ b = omega arith in let f = rw z at e in rw f
fails q b (suc n) (suc i) h e =
    let z : b + suc i ≡ suc b + i = omega arith in
    let f = rw z at e in
    rw (fails q (suc b) n i (omega arith) f) (and-false (q b))

-- the sum that is compared, and the division
sum-is : (c : After-from-in-loop-j-2)
    → (c.total-total.result ≡ sum (map (at c.args.y.now) (indices_of (shape c.args.self) c.loop-j.j)))
    × (c.from-in-loop-j-2.result ≡ division (shape c.args.self) c.loop-j.j)
sum-is c =
    let s = c.args.self in
    let m = c.requires in
    let j = c.loop-j.j in (
      c.total-total.ensures
          ∙ rw (c.from.ensures, c.from-in-loop-j.ensures, made-first s m j (omega arith), made-size s m j (omega arith)),
      c.from-in-loop-j-2.ensures ∙ made-division s m j (omega arith),
    )

pub returns-then-y-self : goal.returns-then-y-self
unfolding is_grid_point
returns-then-y-self c =
    let a = c.args in
    rw (ne_eqb (length a.y.now) (num_indices (shape a.self))
    (λ e. c.if-y-self.true (e ∙ sym (made-indices _ c.requires))))

pub loop-j-init : goal.loop-j-init
loop-j-init c = (refl, (blocks-range _ c.requires).1)

pub total-total-requires : goal.total-total-requires
total-total-requires c =
    let s = c.args.self in
    let m = c.requires in
    let j = c.loop-j.j in
    let f = made-first s m j (omega arith) in
    let n = made-size s m j (omega arith) in (
      omega (
        arith,
        f,
        n,
        block-fits (shape s).sizes j,
        made-indices s m,
        c.if-y-self.false,
      ),
      omega (arith, n, (size-range s m j (omega arith)).1),
    )

pub returns-then-total-from : goal.returns-then-total-from
unfolding is_grid_point
returns-then-total-from c =
    let s = c.args.self in
    let y = c.args.y.now in
    let j = c.loop-j.j in
    let w = sum-is (goal.at.returns-then-total-from c).After-from-in-loop-j-2 in
    let no : block_sum (shape s).sizes (shape s).divisions y (0 + j) ≡ false =
    let z : 0 + j ≡ j = omega arith in rw (z, ← w.0, ← w.1) (ne_eqb _ _ c.if-total-from.true) in
    rw (
      fails (block_sum (shape s).sizes (shape s).divisions y) 0 (num_blocks (shape s)) j
          (omega (arith, made-blocks s c.requires)) no,
      and-false,
    ) refl

pub loop-j-preserved : goal.loop-j-preserved
loop-j-preserved c =
    let s = c.args.self in
    let y = c.args.y.now in
    let l = c.loop-j in
    let w = sum-is (goal.at.loop-j-preserved c).After-from-in-loop-j-2 in (
      rw (all-counted (block_sum (shape s).sizes (shape s).divisions y) l.j, l.invariant.0, ← w.0, ← w.1)
          (eq-eqb _ _ c.if-total-from.false),
      l.invariant.1,
    )

pub returns : goal.returns
unfolding is_grid_point
returns c =
    let s = c.args.self in
    let m = c.requires in
    let l = c.loop-j in
    let e : l.j ≡ num_blocks (shape s) = omega (arith, made-blocks s m) in
    rw
    (eq-eqb (length c.args.y.now) (num_indices (shape s))
    (c.if-y-self.false ∙ made-indices s m))
    (sym (rw e at l.invariant.0))
