-- `label` meets its contract: no index passed has a 0 behind a positive number. Assumes nothing.
use Prim.Native.Nat.{ℕ, ◌<◌}
use Rattle.boundary.proofs.Turns.{Passed}
use Rattle.boundary.proofs.table.label.Given as goal

abbrev pub invariant-loop-h : goal.invariant-loop-h
invariant-loop-h l = (k : ℕ) → k < l.h → Passed l.previous l.point k
