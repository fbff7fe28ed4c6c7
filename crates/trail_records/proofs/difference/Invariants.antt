-- `trail_records::difference` meets its contract. The invariant: the search from here finds what the whole search
-- finds. Assumes nothing.
use mathlib.Core.Path.{◌≡◌}
use Prim.Native.Nat.{◌-◌}
use Rattle.trail_records.specs.Records.{differing_from, differing}
use Rattle.trail_records.proofs.difference.Given as goal

abbrev pub invariant-loop-h : goal.invariant-loop-h
invariant-loop-h l = differing_from l.a l.b (16 - l.h) l.h ≡ differing l.a l.b
