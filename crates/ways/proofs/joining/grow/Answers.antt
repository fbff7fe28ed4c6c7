-- `joining::grow` meets its contract: the label joins T from U or from outside, or the place is an end.
-- Assumes nothing.
use Rattle.std.proofs.Common.{true, false, ◌≡◌, sym, ap, ◌∙◌, ℕ, take, arith}
use mathlib.Core.Logic.{inl, inr}
use Rattle.combinatorics.proofs.EditsOfArrays.{counted, found-low}
use Rattle.combinatorics.specs.Edits.{found}
use Rattle.moves.specs.Held.{state_of}
use Rattle.rules.specs.Mask.{bit}
use Rattle.rules.specs.Moves.{State, goes, is_filled}
use Rattle.moves.proofs.Cases.{joins-from-U, place_end, joins-from-outside}
use Rattle.rules.proofs.Marks.{indices_in}
use Rattle.ways.proofs.joining.grow.Goals as goal

pub find-i-requires : goal.find-i-requires
find-i-requires c =
    let a = c.args in
    omega (arith, counted a.held.now.order a.s.count a.held.now.order_long c.requires.ready.few, c.requires.ready.few)

pub join-requires : goal.join-requires
join-requires c =
    let a = c.args in
    let steps = take a.s.count a.held.now.order in
    let n = counted a.held.now.order a.s.count a.held.now.order_long c.requires.ready.few in
    let is_in : bit a.s.u a.h ≡ true = sym c.has.ensures ∙ c.if-has.true in
    let low = found-low 0 c.first_outside-b.result 16 steps in
    record {
      entry = rw (c.find-i.ensures, indices_in steps c.requires.order_below) (omega arith);
      room = omega (arith, c.requires.ready.room (inl is_in));
      index = c.requires.ready.low;
    }

pub returns-then-has : goal.returns-then-has
returns-then-has c =
    let a = c.args in
    let is_in : bit a.s.u a.h ≡ true = sym c.has.ensures ∙ c.if-has.true in
    let steps = take a.s.count a.held.now.order in
    let i = c.find-i.ensures
    ∙ ap (found c.first_outside-b.result 16) (indices_in steps c.requires.order_below)
    ∙ ap (λ (b : ℕ). found b 16 steps) c.first_outside-b.ensures.0 in
    ap (λ (x : State). goes x) (c.join.ensures a.round.now)
    ∙ joins-from-U (state_of a.round.now a.held.now a.s) a.h c.find-i.result is_in i

pub returns-then-is_filled : goal.returns-then-is_filled
returns-then-is_filled c =
    let a = c.args in
    place_end (state_of a.round.now a.held.now a.s) a.h
    (sym c.has.ensures ∙ c.if-has.false)
    (sym c.is_filled.ensures ∙ c.if-is_filled.true)

pub join-requires-2 : goal.join-requires-2
join-requires-2 c =
    let a = c.args in
    let free : is_filled a.round.now a.s.t a.s.u a.h ≡ false = sym c.is_filled.ensures ∙ c.if-is_filled.false in
    let n = counted a.held.now.order a.s.count a.held.now.order_long c.requires.ready.few in
    record {
      entry = omega arith;
      room = omega (arith, c.requires.ready.room (inr free));
      index = c.requires.ready.low;
    }

pub returns : goal.returns
returns c =
    let a = c.args in
    let n = counted a.held.now.order a.s.count a.held.now.order_long c.requires.ready.few in
    ap (λ (x : State). goes x) (c.join-2.ensures a.round.now)
    ∙ joins-from-outside (state_of a.round.now a.held.now a.s) a.h a.s.count
    (sym c.has.ensures ∙ c.if-has.false)
    (sym c.is_filled.ensures ∙ c.if-is_filled.false) (sym n)
