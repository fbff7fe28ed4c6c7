-- `nearest_met::away` meets its contract: the first point is taken through its steps. Assumes nothing.
use mathlib.Core.Path.{◌≡◌, sym, ◌∙◌}
use lib.ListN.{take}
use native.Mathlib.Omega.{arith}
use Rattle.combinatorics.proofs.EditsOfArrays.{first-few}
use Rattle.rules.proofs.PointsAfter.{after_taken, few-ready}
use Rattle.rules.specs.Read.{point_after}
use Rattle.rules.specs.Moves.{source}
use Rattle.nearest_met.proofs.away.Goals as goal

pub advance-requires-clause-ready_point : goal.advance-requires-clause-ready_point
advance-requires-clause-ready_point c =
    let a = c.args in
    let can = c.requires.indices_below.1 in
    few-ready (source a.round.now a.s.u) a.held.now.order a.held.now.first a.s.count a.s.active
    (omega (arith, can.low, first-few a.s.count a.held.now.order)) can

pub returns : goal.returns
returns c = λ g C.
    let a = c.args in
    let from = source a.round.now a.s.u in
    let same : point_after from (take a.s.active a.held.now.order) a.held.now.first a.s.active
    ≡ point_after from (take a.s.count a.held.now.order) a.held.now.first a.s.active =
    sym (after_taken from a.held.now.order a.held.now.first a.s.active a.s.active (omega arith))
    ∙ after_taken from a.held.now.order a.held.now.first a.s.count a.s.active
    (omega (arith, c.requires.indices_below.1.low, first-few a.s.count a.held.now.order)) in
    c.distance_of.ensures g C ∙ rw (c.advance.ensures, same, C.indices)
