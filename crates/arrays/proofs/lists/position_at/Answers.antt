-- `lists::position_at` meets its contract: the mark stands at the front of its array. Assumes nothing.
use mathlib.Core.Path.{refl, ap, ◌∙◌}
use Prim.Native.Nat.{suc}
use native.Mathlib.Omega.{arith}
use Rattle.rules.specs.Moves.{mark_position}
use Rattle.rules.proofs.FirstMet.{entry}
use Rattle.arrays.proofs.lists.position_at.Goals as goal

pub returns : goal.returns
returns c =
    let a = c.args in (
      c.mark_position.ensures.0 ∙ ap mark_position (entry a.marks.now (suc a.n) a.i _ (omega arith) refl),
      c.mark_position.ensures.1,
    )
