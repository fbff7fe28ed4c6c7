-- `refusals::all_on_grid` meets its contract. The invariant: what is asked of the points from k on. The measure: the
-- points left. Assumes nothing.
use mathlib.Core.Path.{◌≡◌, sym, ◌∙◌}
use Prim.Native.Nat.{◌-◌}
use native.Mathlib.Omega.{arith}
use Rattle.grid_points.specs.Grid.{is_grid_point}
use Rattle.grid.specs.Made.{shape}
use Rattle.check_chains.proofs.ListedPoints.{is-listed}
use Rattle.check_chains.proofs.Nestings.{left-none, all-stops, all-goes}
use Rattle.check_chains.specs.Listed.{listed_at}
use Rattle.checker.proofs.refusals.all_on_grid.Goals as goal

pub loop-k-init : goal.loop-k-init
loop-k-init c = let e : c.args.count - 0 ≡ c.args.count = omega arith in (omega arith, rw e)

pub overflow_mul-at : goal.overflow_mul-at
overflow_mul-at c = omega (arith, (is-listed c.requires c.loop-k.k (omega arith)).small)

pub overflow_add-at : goal.overflow_add-at
overflow_add-at c =
    omega (arith, (is-listed c.requires c.loop-k.k (omega arith)).small)

pub offset_bounds-numbers-at : goal.offset_bounds-numbers-at
offset_bounds-numbers-at c =
    omega (arith, (is-listed c.requires c.loop-k.k (omega arith)).small)

pub slice_bounds-is_grid_point-end : goal.slice_bounds-is_grid_point-end
slice_bounds-is_grid_point-end c = (is-listed c.requires c.loop-k.k (omega arith)).room

pub is_grid_point-requires : goal.is_grid_point-requires
is_grid_point-requires c = c.requires.made

pub returns-then-not-is_grid_point : goal.returns-then-not-is_grid_point
returns-then-not-is_grid_point c =
    let a = c.args in
    let l = c.loop-k in
    let i = is-listed c.requires l.k (omega arith) in
    all-stops (listed_at a.g.indices a.numbers.now) l.k a.count (omega arith) (is_grid_point (shape a.g))
    l.invariant.1 (sym (rw i.part at c.is_grid_point.ensures) ∙ c.if-not-is_grid_point.true)

pub loop-k-preserved : goal.loop-k-preserved
loop-k-preserved c =
    let a = c.args in
    let l = c.loop-k in
    let i = is-listed c.requires l.k (omega arith) in (
      omega arith,
      all-goes (listed_at a.g.indices a.numbers.now) l.k a.count (omega arith) (is_grid_point (shape a.g))
          l.invariant.1 (sym (rw i.part at c.is_grid_point.ensures) ∙ c.if-not-is_grid_point.false),
    )

pub returns : goal.returns
returns c = let a = c.args in
    let l = c.loop-k in
    sym (l.invariant.1 ∙ rw (left-none (listed_at a.g.indices a.numbers.now) l.k a.count (omega arith)))
