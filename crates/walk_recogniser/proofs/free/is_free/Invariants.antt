-- `free::is_free` meets its contract. The invariant: what is met below h. Assumes nothing.
use Rattle.walk_recogniser.proofs.Blocks.{Met}
use Rattle.walk_recogniser.proofs.free.is_free.Given as goal

abbrev pub invariant-loop-h : goal.invariant-loop-h
invariant-loop-h l = Met l.g l.c l.t l.u l.h l.met
