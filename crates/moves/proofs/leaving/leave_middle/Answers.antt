-- `leave_middle` meets its contract: rule 6 or rule 1. Assumes nothing.
use Rattle.std.proofs.Common.{◌≡◌, refl, ◌∙◌, ◌-◌, take, arith}
use Rattle.combinatorics.proofs.EditsOfArrays.{take_swap}
use Rattle.combinatorics.specs.Edits.{swap_at}
use Rattle.grid_points.specs.Grid.{at}
use Rattle.moves.specs.Held.{state_of}
use Rattle.moves.proofs.Cases.{same-state, middle_to_U, steps-exchanged}
use Rattle.moves.proofs.leaving.leave_middle.Goals as goal
use Rattle.moves.proofs.leaving.leave_middle.Goals.{else-to-b-via-then-to-b+else-held-b-eq0, else-to-b-via-else-to-b}

pub invariant_of-held : goal.invariant_of-held
invariant_of-held c = record { first_long = c.args.held.now.first_long; order_long = c.exchange.ensures.1 }

pub returns-then-held-b-eq0 : goal.returns-then-held-b-eq0
returns-then-held-b-eq0 c =
    let a = c.args in
    let h = c.index_at-from in
    let w = c.index_at-to in
    let b = c.first_outside-b in
    c.shrink.ensures a.round.now
    ∙ middle_to_U (state_of a.round.now a.held.now a.s) a.i h.result w.result b.result h.ensures.is w.ensures.is
    b.ensures.0 c.if-to-b.true c.if-held-b-eq0.true

pub returns : goal.returns
returns c =
    let a = c.args in
    let h = c.index_at-from in
    let w = c.index_at-to in
    let b = c.first_outside-b in
    let stays : (w.result ≡ b.result → at a.held.now.first b.result ≡ 0 → ⊥) = elim c.else-to-b.branch [
      | else-to-b-via-then-to-b+else-held-b-eq0 w ↦ λ _. w.if-held-b-eq0.false
      | else-to-b-via-else-to-b w ↦ λ e _. w.if-to-b.false e
    ] in
    let order : take a.s.count c.exchange.new.a ≡ swap_at (a.i - 1) (take a.s.count a.held.now.order) =
    rw c.exchange.ensures.0 (take_swap a.s.count (a.i - 1) a.held.now.order (omega arith)) in
    same-state _ 1 refl refl order refl refl refl refl
    ∙ steps-exchanged (state_of a.round.now a.held.now a.s) a.i h.result w.result b.result h.ensures.is w.ensures.is
    b.ensures.0 stays
