-- `little_endian::words` meets its contract. The invariant: the numbers read so far stand at the front.
-- Assumes nothing.
use mathlib.Core.List.{map}
use mathlib.Core.Path.{◌≡◌}
use Prim.Native.Nat.{◌+◌, ◌*◌}
use Rattle.combinatorics.specs.Front.{front}
use Rattle.combinatorics.specs.Lists.{up_from}
use Rattle.little_endian.specs.Numbers.{number}
use Rattle.little_endian.proofs.words.Given as goal

abbrev pub invariant-loop-i : goal.invariant-loop-i
invariant-loop-i l = l.room ≡ front (map (λ k. number 2 l.bytes (l.from + 2 * k)) (up_from 0 l.i)) l.initial.room
