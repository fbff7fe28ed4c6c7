-- `one_step::by_step_from` meets its contract: the step from the point lowers the position by what `fall_at` gives.
-- Assumes nothing.
use Rattle.std.proofs.Common.{◌≡◌, suc, ◌+◌, ◌<◌, length, arith}
use Rattle.grid.specs.Made.{shape}
use Rattle.grid_points.specs.Grid.{position}
use Rattle.moves.specs.Held.{state_of}
use Rattle.rules.specs.Read.{point_on, position_at, source_at, step_at}
use Rattle.rules.specs.Moves.{State}
use Rattle.marks.proofs.OneStep.{before-far, far-low, lag_is, lag_by, weigh_far}
use Rattle.marks.proofs.one_step.by_step_from.Goals as goal
use Rattle.marks.proofs.one_step.by_step_from.Goals.{After-fall_at, After-gone_round-lag, Start}

abbrev place : Start → State
place c = state_of c.args.round.now c.args.held.now c.args.s

far-more : (c : Start) → c.args.s.active < length (place c).order
far-more c = rw c.requires.falls.0.many c.requires.measured.2

module _ (c : After-gone_round-lag) where
  abbrev x : State
  x = place (goal.at.After-gone_round-lag c).Start

  far-before : source_at x x.active < step_at x x.active
  far-before = rw (← c.index_at-h.ensures.is, ← c.first_outside-b.ensures.0) c.if-h-b.false

  far-mark : c.position_at-far.result ≡ position_at x (suc x.active)
  far-mark =
      let up : x.active + 1 ≡ suc x.active = omega arith in
      rw up at c.position_at-far.ensures.0

  far-lag : c.gone_round-lag.result ≡ lag_by x (suc x.active)
  far-lag = lag_is x (suc x.active) far-mark c.position_at.ensures.0 c.gone_round-lag.ensures.0

pub fall_at-requires : goal.fall_at-requires
fall_at-requires c =
    let w = (goal.at.fall_at-requires c).After-gone_round-lag in
    let m = c.requires.measured in (
      m.0,
      rw (c.first_outside-b.ensures.0, c.index_at-h.ensures.is, far-lag w)
          (weigh_far m.0.made m.1 c.requires.falls.1 (far-more (goal.at.fall_at-requires c).Start) (far-before w)),
    )

far-is : (c : After-fall_at)
    → let g = shape c.args.g in
    let x = place (goal.at.After-fall_at c).Start in
    position g (point_on g x x.active) ≡ c.position_at-far.result + c.fall_at.result
far-is c =
    let w = (goal.at.After-fall_at c).After-gone_round-lag in
    let m = c.requires.measured in
    let is = before-far m.0.made m.1 c.requires.falls.1 (far-more (goal.at.After-fall_at c).Start) (far-before w)
    c.fall_at.result
    (rw (← c.index_at-h.ensures.is, ← c.first_outside-b.ensures.0, ← far-lag w) c.fall_at.ensures) in
    omega (arith, far-mark w)

pub overflow_add-result : goal.overflow_add-result
overflow_add-result c =
    let w = (goal.at.overflow_add-result c).After-gone_round-lag in
    let m = c.requires.measured in
    omega (
      arith,
      far-is c,
      far-low m.0.made m.1 c.requires.falls.1 (far-more (goal.at.overflow_add-result c).Start) (far-before w),
    )

pub returns : goal.returns
returns c = omega (arith, far-is c)
