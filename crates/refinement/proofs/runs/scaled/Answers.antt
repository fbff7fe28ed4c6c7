-- `refinement::runs::scaled` meets its contract. The invariant: the numbers so far, times k, stand at the front.
-- Assumes nothing.
use mathlib.Core.Path.{◌≡◌, sym, ◌∙◌}
use Prim.Native.Nat.{◌*◌, ◌≤◌}
use borrow.Author.Tests.{leb-true}
use lib.Dec.{leb}
use lib.ListN.{length, get_or, length-map, replicate}
use native.Mathlib.Omega.{arith}
use Rattle.combinatorics.proofs.Fronts.{front-copy, front-none, front-whole}
use Rattle.combinatorics.proofs.Lists.{at_all}
use Rattle.refinement_levels.proofs.Grids.{times-at}
use Rattle.refinement_levels.specs.Levels.{times}
use Rattle.refinement.proofs.runs.scaled.Goals as goal
use Rattle.refinement.proofs.runs.scaled.Goals.{After-from}

-- the product fits
fits : (c : After-from)
    → c.args.factor * c.from.result ≤ 65535
fits c =
    let h = c.loop-h.h in
    let l =
    leb-true _ _ (at_all (λ x. leb (c.args.factor * x) 65535) c.args.numbers.now h c.requires.small
    (omega arith))
    in
    rw c.from.ensures l

pub loop-h-init : goal.loop-h-init
loop-h-init c = (sym (front-none (replicate 16 0)), omega arith)

pub overflow_mul-start : goal.overflow_mul-start
overflow_mul-start c = omega (arith, fits c)

pub overflow_cast-start : goal.overflow_cast-start
overflow_cast-start c = omega (arith, fits c)

pub offset_bounds-start-h : goal.offset_bounds-start-h
offset_bounds-start-h c = omega (arith, c.requires.few)

pub bounds-start-h : goal.bounds-start-h
bounds-start-h c = omega (arith, c.requires.few)

pub loop-h-preserved : goal.loop-h-preserved
loop-h-preserved c =
    let l = c.loop-h in
    let all = times c.args.factor c.args.numbers.now in
    let long : length all ≡ length c.args.numbers.now =
    length-map c.args.numbers.now (λ x. c.args.factor * x)
    in
    let e : c.args.factor * c.from.result ≡ get_or all l.h 0 =
    rw (times-at c.args.factor c.args.numbers.now l.h, c.from.ensures)
    in (
      rw (l.invariant.0, e) (front-copy all (replicate 16 0) l.h (omega (arith, long)) (omega (arith, c.requires.few))),
      omega arith,
    )

pub returns : goal.returns
returns c =
    let l = c.loop-h in
    let all = times c.args.factor c.args.numbers.now in
    l.invariant.0 ∙ front-whole all (replicate 16 0) l.h
    (omega (arith, length-map c.args.numbers.now (λ x. c.args.factor * x)))
