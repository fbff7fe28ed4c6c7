-- `lists::exchange` meets its contract. Assumes nothing.
use Rattle.std.proofs.Common.{sym, ◌∙◌, ◌+◌, arith}
use Rattle.std.proofs.lemmas.List.Edits.{swap_is}
use native.Mathlib.Numerals.{add-one}
use Rattle.combinatorics.proofs.EditsOfArrays.{swap_two}
use Rattle.arrays.proofs.lists.exchange.Goals as goal

pub returns : goal.returns
returns c =
    let a = c.args in
    let is = c.swap.ensures.after
    ∙ sym (swap_is a.a.now a.i (a.i + 1) 0 (omega arith) (omega arith))
    ∙ rw add-one (swap_two a.i a.a.now (omega arith)) in
    (is, omega (arith, c.swap.ensures.len))
