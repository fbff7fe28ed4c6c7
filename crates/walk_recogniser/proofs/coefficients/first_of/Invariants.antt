-- `coefficients::first_of` meets its contract. The invariant: the coefficients followed from 65,535 on, and the least
-- so far. Assumes nothing.
use mathlib.Core.List.{List}
use Prim.Native.Nat.{ℕ, ◌≤◌}
use Rattle.walk_recogniser.proofs.Following.{Follows}
use Rattle.walk_recogniser.specs.Pieces.{InBlock}
use Rattle.walk_recogniser.proofs.coefficients.first_of.Given as goal

abbrev pub invariant-loop-h : goal.invariant-loop-h
invariant-loop-h l = (l.least ≤ 65535)
    × ((c : List ℕ) → InBlock c l.v l.y l.first l.end → Follows c l.first l.end l.h l.x l.least)
