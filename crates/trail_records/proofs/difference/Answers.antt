-- `trail_records::difference` meets its contract. The invariant: the search from here finds what the whole search
-- finds. Assumes nothing.
use mathlib.Core.Bool.{true, false, beq}
use mathlib.Core.Path.{◌≡◌, sym, ap, ◌∙◌}
use Prim.Native.Nat.{ℕ, suc, ◌-◌}
use borrow.Author.Tests.{not-true, not-false}
use native.Mathlib.Numerals.{add-one}
use native.Mathlib.Omega.{arith}
use Rattle.rules.specs.Mask.{bit}
use Rattle.trail_records.specs.Records.{differing_from}
use Rattle.trail_records.proofs.Differences.{differs_spent, differs_here, differs_later}
use Rattle.trail_records.proofs.difference.Goals as goal

pub loop-h-preserved : goal.loop-h-preserved
loop-h-preserved c =
    let a = c.args in
    let l = c.loop-h in
    let same : beq (bit a.a l.h) (bit a.b l.h) ≡ true =
    rw (← c.has.ensures, ← c.has-in-loop-h.ensures) (not-false _ c.if-has.false) in
    rw (add-one l.h)
    (sym (differs_later a.a a.b (16 - suc l.h) l.h same)
    ∙ ap (λ (n : ℕ). differing_from a.a a.b n l.h) (omega arith)
    ∙ l.invariant)

pub returns : goal.returns
returns c =
    let a = c.args in
    let l = c.loop-h in
    (omega (arith, differs_spent a.a a.b (16 - l.h) l.h (omega arith), l.invariant), omega arith)

pub returns-then-has : goal.returns-then-has
returns-then-has c =
    let a = c.args in
    let l = c.loop-h in
    let other : beq (bit a.a l.h) (bit a.b l.h) ≡ false =
    rw (← c.has.ensures, ← c.has-in-loop-h.ensures) (not-true _ c.if-has.true) in
    (sym (differs_here a.a a.b (16 - l.h) l.h other) ∙ l.invariant, omega arith)
