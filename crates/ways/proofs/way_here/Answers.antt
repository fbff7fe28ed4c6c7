-- `ways::way_here` meets its contract: the point named leaves, or the label that came in joins T, or the other point
-- with that label leaves. Assumes nothing.
use mathlib.Core.Logic.{inl}
use mathlib.Core.Path.{◌≡◌, refl, sym, ap, ◌∙◌}
use Prim.Native.Nat.{ℕ, suc, ◌-◌, ◌≤◌}
use native.Mathlib.Numerals.{add-one}
use native.Mathlib.Omega.{arith}
use Rattle.moves.proofs.Cases.{other-leaving}
use Rattle.ways.specs.Ways.{held_marks}
use Rattle.rules.proofs.FirstMet.{entry}
use Rattle.rules.specs.Ready.{label_in}
use Rattle.rules.specs.Moves.{State, mark_label}
use Rattle.ways.proofs.Here.{here-joins, here-leaves}
use Rattle.ways.proofs.way_here.Goals as goal
use Rattle.ways.proofs.way_here.Goals.{After-label_in-label}

-- where a label has come in: the state, its label, and that this names an index
abbrev here : After-label_in-label → State
here c =
    let a = c.args in
    held_marks a.marks.now a.s

label_is : (c : After-label_in-label) → c.label_in-label.result ≡ label_in (here c)
label_is c =
    let a = c.args in
    c.label_in-label.ensures
    ∙ ap mark_label (entry a.marks.now (suc a.s.count) a.s.active _
    (omega (arith, c.requires.active)) refl)

names : (c : After-label_in-label) → (1 ≤ c.label_in-label.result) × (c.label_in-label.result ≤ 16)
names c = rw (label_is c)
    (c.requires.label c.if-s-lt6.true)

pub overflow_sub-h : goal.overflow_sub-h
overflow_sub-h c = omega (arith, (names c).0)

pub has-requires : goal.has-requires
has-requires c = omega (arith, (names c).0, (names c).1)

pub returns-then-not-has : goal.returns-then-not-has
returns-then-not-has c =
    let out = sym c.has.ensures ∙ c.if-not-has.true in
    let e : c.label_in-label.result - 1 ≡ label_in (here (goal.at.returns-then-not-has c).After-label_in-label) - 1 =
    ap (λ (x : ℕ). x - 1) (label_is (goal.at.returns-then-not-has c).After-label_in-label) in
    here-joins (here (goal.at.returns-then-not-has c).After-label_in-label) _ (c.if-s-lt6.true, rw (← e) out, e)

pub find-requires : goal.find-requires
find-requires c = omega (arith, c.requires.few)

pub returns-then-s-lt6 : goal.returns-then-s-lt6
returns-then-s-lt6 c =
    let a = c.args in
    here-leaves (here (goal.at.returns-then-s-lt6 c).After-label_in-label) _
    (other-leaving (here (goal.at.returns-then-s-lt6 c).After-label_in-label) c.label_in-label.result (c.label_in-label.result - 1) (label_is (goal.at.returns-then-s-lt6 c).After-label_in-label)
    refl c.if-s-lt6.true c.find.result
    (sym c.has.ensures ∙ c.if-not-has.false)
    (rw (add-one a.s.count) at c.find.ensures))

pub returns : goal.returns
returns c =
    let a = c.args in
    here-leaves (held_marks a.marks.now a.s) a.s.active (inl (c.if-s-lt6.false, refl))
