-- `joining::join` meets its contract. Assumes nothing.
use Rattle.std.proofs.Common.{◌≡◌, refl, suc, ◌+◌, take}
use native.Mathlib.Numerals.{add-one}
use Rattle.combinatorics.specs.Edits.{insert_at}
use Rattle.moves.proofs.Cases.{same-state}
use Rattle.ways.proofs.joining.join.Goals as goal

pub invariant_of-held : goal.invariant_of-held
invariant_of-held c = record { first_long = c.args.held.now.first_long; order_long = c.insert.ensures.1 }

pub returns : goal.returns
returns c =
    let a = c.args in
    let n = a.s.count in
    let marks : take (suc (n + 1)) c.insert-2.new.a ≡ insert_at (suc a.i) 0 (take (suc n) a.held.now.marks) =
    rw (← add-one (n + 1), ← add-one a.i, ← add-one n) c.insert-2.ensures.0 in
    λ round. same-state round a.rule refl refl c.insert.ensures.0 marks c.add.ensures c.without.ensures (add-one a.i)
