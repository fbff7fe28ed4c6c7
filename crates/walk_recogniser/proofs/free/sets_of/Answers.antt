-- `free::sets_of` meets its contract. Assumes nothing.
use mathlib.Core.Path.{◌≡◌, sym, ◌∙◌}
use Prim.Native.Nat.{◌<◌}
use lib.ListN.{get_or, take, length-take}
use lib.Seq.{get_or-take}
use Rattle.walk_recogniser.proofs.OrderSets.{sets_none, sets_more, stands-twice}
use Rattle.walk_recogniser.specs.Pieces.{beyond, twice}
use native.Mathlib.Omega.{arith}
use Rattle.walk_recogniser.proofs.free.sets_of.Goals as goal
use Rattle.walk_recogniser.proofs.free.sets_of.Goals.{then-m-h-via-then-m-h, then-m-h-via-else-m-h+then-has}

pub loop-index-init : goal.loop-index-init
loop-index-init c = let a = c.args in sets_none a.order.now a.m a.zeros

pub returns-then-m-h : goal.returns-then-m-h
returns-then-m-h c =
    let a = c.args in
    let l = c.loop-index in
    let k = l.index-index in
    let low : k < a.n = omega (arith, length-take a.n a.order.now) in
    let is : get_or (take a.n a.order.now) k 0 ≡ get_or a.order.now k 0 = get_or-take a.n a.order.now k 0 low in
    elim c.then-m-h.branch [
      | then-m-h-via-then-m-h w ↦ beyond k low (omega (arith, w.if-m-h.true, is))
      | then-m-h-via-else-m-h+then-has w ↦
          let d = stands-twice a.order.now k a.m a.zeros l.t l.u _ l.invariant is w.if-m-h.false c.requires.1
          (sym w.has.ensures ∙ w.if-has.true) in
          twice d.0 k d.1 low d.2
    ]

pub loop-index-preserved : goal.loop-index-preserved
loop-index-preserved c =
    let a = c.args in
    let l = c.loop-index in
    let k = l.index-index in
    let low : k < a.n = omega (arith, length-take a.n a.order.now) in
    rw (c.without-u.ensures, c.add-t.ensures) (sets_more a.order.now k a.m a.zeros l.t l.u _ l.invariant
    (get_or-take a.n a.order.now k 0 low) c.if-m-h.false c.requires.1 (sym c.has.ensures ∙ c.if-has.false))
