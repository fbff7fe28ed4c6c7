-- `points::zeros` meets its contract. The invariant: the mask has the indices below h at which the point is 0. The
-- measure: the indices left. Assumes nothing.
use Prim.Native.Nat.{◌-◌, ◌≤◌}
use Rattle.rules.proofs.ZeroMask.{ZerosBelow}
use Rattle.arrays.proofs.points.zeros.Given as goal

abbrev pub invariant-loop-h : goal.invariant-loop-h
invariant-loop-h l = (l.h ≤ l.m) × (l.m ≤ 16) × ZerosBelow l.y l.h l.u
