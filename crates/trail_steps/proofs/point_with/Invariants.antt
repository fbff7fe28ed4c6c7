-- `trail_steps::point_with` meets its contract. The invariant: the search from point k on finds what the search from
-- the first finds. Assumes nothing.
use mathlib.Core.List.{map}
use mathlib.Core.Path.{◌≡◌}
use Prim.Native.Nat.{suc}
use lib.ListN.{drop, take}
use Rattle.combinatorics.specs.Edits.{found, found_from}
use Rattle.rules.specs.Moves.{mark_position}
use Rattle.trail_steps.proofs.point_with.Given as goal

abbrev pub invariant-loop-k : goal.invariant-loop-k
invariant-loop-k l =
    let positions = map mark_position (take (suc l.n) l.marks) in
    found_from l.k l.position 16 (drop l.k positions) ≡ found l.position 16 positions
