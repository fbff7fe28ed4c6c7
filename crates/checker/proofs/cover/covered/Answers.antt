-- `cover::covered` meets its contract. The invariant: the labels and the zeros of the points from k on. Assumes nothing.
use mathlib.Core.Path.{◌≡◌, sym, ◌∙◌}
use Prim.Native.Nat.{◌+◌, ◌-◌}
use native.Mathlib.Omega.{arith}
use Rattle.grid.proofs.Fields.{indices-few, made-accepted, made-indices}
use Rattle.grid.specs.Made.{shape}
use Rattle.check_chains.proofs.ListedPoints.{is-listed, on-grid}
use Rattle.check_chains.proofs.Nestings.{left-none, one_more}
use Rattle.check_chains.specs.Listed.{listed_at}
use Rattle.checker.proofs.Covering.{copied, copied_point, none_covered, more_covered, all_covered}
use Rattle.checker.proofs.Covering.{zeros-at}
use Rattle.grid_points.proofs.Points.{point-long}
use Rattle.checker.proofs.cover.covered.Goals as goal

pub loop-k-init : goal.loop-k-init
loop-k-init c = (
  omega arith,
  rw
      (left-none (listed_at c.args.g.indices c.args.numbers.now) c.args.count c.args.count
      (omega arith))
      (none_covered (made-accepted c.args.g c.requires.0.has.made).few_indices),
)

pub padded-y-requires : goal.padded-y-requires
padded-y-requires c =
    let k = c.loop-k.k - 1 in
    let z = listed_at c.args.g.indices c.args.numbers.now k in
    let on = on-grid c.requires.0 k (omega arith) in (
      rw (is-listed c.requires.0.has k (omega arith)).part
          (omega (arith, point-long (shape c.args.g) z on, made-indices c.args.g c.requires.0.has.made)),
      indices-few c.args.g c.requires.0.has.made,
    )

pub label_at-requires : goal.label_at-requires
label_at-requires c =
    let made = c.requires.0.has.made in
    let k = c.loop-k.k - 1 in
    let z = listed_at c.args.g.indices c.args.numbers.now k in
    let on = on-grid c.requires.0 k (omega arith) in
    let is = copied c.args.g made z on _
    (rw (is-listed c.requires.0.has k (omega arith)).part at c.padded-y.ensures) in
    record { made = (made, c.requires.2); labelled = (c.requires.1, rw (copied_point c.args.g made z on _ is) on) }

pub zeros-zero-requires : goal.zeros-zero-requires
zeros-zero-requires c =
    indices-few c.args.g c.requires.0.has.made

pub loop-k-preserved : goal.loop-k-preserved
loop-k-preserved c =
    let s = c.args.g in
    let numbers = c.args.numbers.now in
    let made = c.requires.0.has.made in
    let few = (made-accepted s made).few_indices in
    let l = c.loop-k in
    let k = l.k - 1 in
    let z = listed_at s.indices numbers k in
    let on = on-grid c.requires.0 k (omega arith) in
    let is = copied s made z on _
    (rw (is-listed c.requires.0.has k (omega arith)).part
    at c.padded-y.ensures) in
    let next : k + 1 ≡ l.k = omega arith in
    let labelled = c.label_at.ensures in
    let name = rw (copied_point s made z on _ is) at labelled.result_value in
    let zeros = zeros-at s.indices z _ c.zeros-zero.result (indices-few s made)
    (point-long (shape s) z on ∙ sym (made-indices s made)) is c.zeros-zero.ensures in (
      omega arith,
      rw (
        one_more (listed_at s.indices numbers) k c.args.count (omega arith),
        next,
        c.with_label-labelled.ensures,
      )
          (more_covered few z c.zeros-zero.result l.invariant.1 name labelled.value.1
          (λ h x. zeros h (omega (arith, made-indices s made)))),
    )

pub returns : goal.returns
returns c = let l = c.loop-k in
    let none : l.k ≡ 0 = omega arith in
    let e : c.args.count - 0 ≡ c.args.count = omega arith in
    all_covered (made-accepted c.args.g c.requires.0.has.made).few_indices (rw (none, e) at l.invariant.1)
