-- `visit` meets its contract: after rules 6 and 7 the move is made at once, and else a label is stored first. Assumes
-- nothing.
use Rattle.std.proofs.Common.{◌≡◌, sym, ap, ◌∙◌, subst}
use Rattle.game_weighed.specs.Levels.{game_grid}
use Rattle.solve_pass.proofs.Points.{labelled-none, labelled-some}
use Rattle.solve_pass.specs.Bare.{labelled}
use Rattle.moves.specs.Held.{state_of}
use Rattle.rules.specs.Ready.{Ready}
use Rattle.rules.specs.Moves.{State, make_move}
use Rattle.solve_pass.proofs.visit.Goals as goal
use Rattle.solve_pass.proofs.visit.Goals.{Joined-s-lt6, then-s-lt6, else-s-lt6}

-- the state before a label is worked out
abbrev before : Joined-s-lt6 → State
before c = let a = c.args in state_of a.round.now a.held.now a.s

worked-out : (c : Joined-s-lt6) → (let a = c.args in
    state_of a.round.now c.if-s-lt6.held a.s ≡ labelled (game_grid a.game.now) a.game.now.losses.now (before c))
worked-out c =
    let a = c.args in
    let g = game_grid a.game.now in
    elim c.if-s-lt6.branch [
      | then-s-lt6 w ↦ rw w.held-is (
          labelled-some g a.game.now.losses.now a.round.now a.held.now a.s _ w.if-s-lt6.true
          (c.requires.labels w.if-s-lt6.true).point (w.from.ensures ∙ w.label_in-label.ensures))
      | else-s-lt6 w ↦ rw w.held-is (sym (labelled-none g a.game.now.losses.now (before c) w.if-s-lt6.false))
    ]

pub label_in-label-requires : goal.label_in-label-requires
label_in-label-requires c = c.requires.labels c.if-s-lt6.true

pub make_move-requires : goal.make_move-requires
make_move-requires c =
    let w = worked-out (goal.at.make_move-requires c).Joined-s-lt6 in
    record { below = c.requires.below; ready = subst Ready (sym w) c.requires.ready }

pub returns : goal.returns
returns c = c.make_move.ensures ∙ ap make_move (worked-out (goal.at.returns c).Joined-s-lt6)
