-- `put_levels` meets its contract. The invariant: the facts of the levels so far stand at the front. Assumes nothing.
use mathlib.Core.Path.{◌≡◌}
use Rattle.combinatorics.specs.Front.{front}
use Rattle.exports.proofs.Facts.{facts_of}
use Rattle.exports.proofs.refine_calls.put_levels.Given as goal

abbrev pub invariant-loop-i : goal.invariant-loop-i
invariant-loop-i l = l.facts ≡ front (facts_of l.i l.fn.found.levels) l.initial.facts
