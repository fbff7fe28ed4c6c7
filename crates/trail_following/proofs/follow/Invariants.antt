-- `trail_following::follow` meets its contract. The loop's invariant: a place is held, from which the records that are
-- left lead where all lead from the first. Assumes nothing.
use Rattle.std.proofs.Common.{List, ℕ, ◌≤◌, drop, length}
use Rattle.moves.specs.Held.{state_of}
use Rattle.place.specs.Places.{Simplex}
use Rattle.trail_steps.specs.Reading.{HasRead, problem_by}
use Rattle.trail_following.proofs.Led.{Led}
use Rattle.trail_following.proofs.follow.Given as goal

abbrev pub invariant-loop-record : goal.invariant-loop-record
invariant-loop-record l =
    (l.at ≤ length l.trail)
    × ((start : List ℕ) (a : Simplex) → HasRead l.g start l.tails a (state_of l.round l.initial.held l.initial.s)
    → (b : Simplex) × HasRead l.g start l.tails b (state_of l.round l.held l.s)
    × Led (problem_by l.g start) a (drop l.from l.trail) l.number l._record l.came b (drop l.at l.trail))
