-- `one_step::by_step_to` meets its contract: the step to the point lowers the position by what `fall_at` gives.
-- Assumes nothing.
use Rattle.std.proofs.Common.{◌≡◌, ◌∙◌, ◌+◌, ◌-◌, ◌<◌, arith}
use Rattle.grid.specs.Made.{shape}
use Rattle.grid_points.specs.Grid.{position}
use Rattle.moves.specs.Held.{state_of}
use Rattle.rules.specs.Read.{point_on, source_at, step_at}
use Rattle.rules.specs.Moves.{State}
use Rattle.marks.proofs.OneStep.{after-near, lag_is, lag_by, weigh_near}
use Rattle.marks.proofs.one_step.by_step_to.Goals as goal
use Rattle.marks.proofs.one_step.by_step_to.Goals.{After-fall_at, After-gone_round-lag, Start}

abbrev place : Start → State
place c = state_of c.args.round.now c.args.held.now c.args.s

module _ (c : After-gone_round-lag) where
  abbrev x : State
  x = place (goal.at.After-gone_round-lag c).Start

  near_before : source_at x (x.active - 1) < step_at x (x.active - 1)
  near_before = rw (← c.index_at-h.ensures.is, ← c.first_outside-b.ensures.0) c.if-h-b.false

  near-lag : c.gone_round-lag.result ≡ lag_by x (x.active - 1)
  near-lag = lag_is x (x.active - 1) c.position_at-near.ensures.0 c.position_at.ensures.0 c.gone_round-lag.ensures.0

pub fall_at-requires : goal.fall_at-requires
fall_at-requires c =
    let w = (goal.at.fall_at-requires c).After-gone_round-lag in
    let m = c.requires.measured in (
      m.0,
      rw (c.first_outside-b.ensures.0, c.index_at-h.ensures.is, near-lag w)
          (weigh_near m.0.made m.1 c.requires.falls.1 m.2 (near_before w)),
    )

near-is : (c : After-fall_at)
    → let g = shape c.args.g in
    let x = place (goal.at.After-fall_at c).Start in
    c.position_at-near.result ≡ position g (point_on g x x.active) + c.fall_at.result
near-is c =
    let w = (goal.at.After-fall_at c).After-gone_round-lag in
    let m = c.requires.measured in
    c.position_at-near.ensures.0
    ∙ after-near m.0.made m.1 c.requires.falls.1 m.2 (near_before w) c.fall_at.result
    (rw (← c.index_at-h.ensures.is, ← c.first_outside-b.ensures.0, ← near-lag w) c.fall_at.ensures)

pub overflow_sub-result : goal.overflow_sub-result
overflow_sub-result c = omega (arith, near-is c)

pub returns : goal.returns
returns c = omega (arith, near-is c)
