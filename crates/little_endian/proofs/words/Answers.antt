-- `little_endian::words` meets its contract. The invariant: the numbers read so far stand at the front.
-- Assumes nothing.
use mathlib.Core.Path.{◌≡◌, sym, ◌∙◌}
use Prim.Native.Nat.{◌+◌, ◌*◌}
use lib.ListN.{length}
use native.Mathlib.Omega.{arith}
use Rattle.combinatorics.proofs.Fronts.{front_full, front-none}
use Rattle.combinatorics.proofs.Turns.{front-counted}
use Rattle.little_endian.proofs.Laws.{length-words}
use Rattle.little_endian.specs.Numbers.{number, words}
use Rattle.little_endian.proofs.words.Goals as goal

pub loop-i-init : goal.loop-i-init
loop-i-init c = sym (front-none c.args.room.now)

pub loop-i-preserved : goal.loop-i-preserved
loop-i-preserved c =
    let l = c.loop-i in
    let a = c.args in
    rw (l.invariant, c.word.ensures)
    (front-counted (λ k. number 2 a.bytes.now (a.from + 2 * k)) a.room.now l.i (omega arith))

pub returns : goal.returns
unfolding words
returns c =
    let l = c.loop-i in
    let a = c.args in
    let e : l.i ≡ length a.room.now = omega arith in
    l.invariant
    ∙ rw e (front_full (words (length a.room.now) a.bytes.now a.from) a.room.now
    (length-words (length a.room.now) a.bytes.now a.from))
