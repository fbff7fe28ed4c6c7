-- `trail_records::stands` meets its contract. The invariant: the bytes before k are the same. Assumes nothing.
use mathlib.Core.Path.{◌≡◌}
use lib.ListN.{drop, take}
use Rattle.trail.specs.Trail.{begins}
use Rattle.trail_records.proofs.stands.Given as goal

abbrev pub invariant-loop-k : goal.invariant-loop-k
invariant-loop-k l =
    let bytes = take l.fn.made.length l.fn.made.bytes in
    begins (drop l.k bytes) (drop l.k (drop l.at l.trail)) ≡ begins bytes (drop l.at l.trail)
