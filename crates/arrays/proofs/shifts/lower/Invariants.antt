-- `shifts::lower` meets its contract. The invariant: what is left of the way makes of the present coefficients what
-- the whole way makes of the old ones, and none is 0 before it is lowered.
-- Assumes nothing.
use Prim.Native.Nat.{pred, ◌-◌}
use lib.Dec.{ltb}
use Rattle.rules.proofs.ChangedBefore.{Changing}
use Rattle.arrays.proofs.shifts.lower.Given as goal

abbrev pub invariant-loop : goal.invariant-loop
invariant-loop l = Changing (λ x. ltb 0 x) pred l.previous l.h l.b l.initial.c l.c l.at (16 - l.counter)
