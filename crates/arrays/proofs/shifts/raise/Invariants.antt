-- `shifts::raise` meets its contract. The invariant: what is left of the way makes of the present coefficients what
-- the whole way makes of the old ones, and within the width. Assumes nothing.
use Prim.Native.Nat.{suc, ◌-◌}
use lib.Dec.{ltb}
use Rattle.rules.proofs.ChangedBefore.{Changing}
use Rattle.arrays.proofs.shifts.raise.Given as goal

abbrev pub invariant-loop : goal.invariant-loop
invariant-loop l = Changing (λ x. ltb x 65535) suc l.previous l.h l.b l.initial.c l.c l.at (16 - l.counter)
