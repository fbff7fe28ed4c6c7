-- `trail_steps::arrive` meets its contract: the mark is stored, and the record compared. Assumes nothing.
use Rattle.std.proofs.Common.{◌≡◌, refl, ap, ◌∙◌, suc, ◌*◌, arith}
use borrow.Author.Tests.{le-ltb, lt-ltb}
use lib.Seq.{take-set-lt}
use Rattle.moves.specs.Held.{state_of, with_marks}
use Rattle.arrays.specs.declared.holding.Held.{Held}
use Rattle.rules.specs.Moves.{State}
use Rattle.trail_steps.specs.Reading.{marks_with}
use Rattle.trail_steps.proofs.arrive.Goals as goal
use Rattle.trail_steps.proofs.arrive.Goals.{Joined-s-lt6, else-s-lt6, then-s-lt6}

-- the state with the mark that is stored
stored : (c : Joined-s-lt6)
    → let a = c.args in
    let s : State = state_of a.round.now a.held.now a.s in
    state_of a.round.now c.if-s-lt6.held a.s ≡ with_marks s (marks_with a.g s s.marks)
stored c =
    let a = c.args in
    let rule = a.s.rule in
    elim c.if-s-lt6.branch [
      | then-s-lt6 w ↦
          let R = c.requires.measured.1 w.if-s-lt6.true in
          let come = c.come_in-come.result * 256 in
          ap (λ (h : Held). state_of a.round.now h a.s) w.held-is
          ∙ rw (
            ← c.come_in-come.ensures,
            lt-ltb rule 6 w.if-s-lt6.true,
            take-set-lt (suc a.s.count) a.held.now.marks a.s.active come (omega (arith, R.reads.point.low, R.many)),
          )
      | else-s-lt6 w ↦
          ap (λ (h : Held). state_of a.round.now h a.s) w.held-is
          ∙ rw (le-ltb rule 6 (omega (arith, w.if-s-lt6.false)))
    ]

-- the whole array has the mark, and the order stays
kept : (c : Joined-s-lt6)
    → let a = c.args in
    let s : State = state_of a.round.now a.held.now a.s in
    (c.if-s-lt6.held.marks ≡ marks_with a.g s a.held.now.marks) × (c.if-s-lt6.held.order ≡ a.held.now.order)
kept c =
    let rule = c.args.s.rule in
    elim c.if-s-lt6.branch [
      | then-s-lt6 w ↦ (
        ap (λ (h : Held). h.marks) w.held-is ∙ rw (← c.come_in-come.ensures, lt-ltb rule 6 w.if-s-lt6.true) refl,
        ap (λ (h : Held). h.order) w.held-is,
      )
      | else-s-lt6 w ↦ (
        ap (λ (h : Held). h.marks) w.held-is ∙ rw (le-ltb rule 6 (omega (arith, w.if-s-lt6.false))) refl,
        ap (λ (h : Held). h.order) w.held-is,
      )
    ]

pub returns : goal.returns
returns c = record {
  marked = stored (goal.at.returns c).Joined-s-lt6;
  rest = kept (goal.at.returns c).Joined-s-lt6;
  value = rw (← c.come_in-come.ensures) c.standing_bytes.ensures;
}
