-- `slip::losses_of` meets its contract: the losses of the game, or those that are brought. Assumes nothing.
use mathlib.Core.Path.{ap, sym, ◌∙◌}
use Rattle.slip.proofs.LossesRead.{table-named, game-losses, game-count}
use Rattle.combinatorics.proofs.Basics.{absurd_bool}
use Rattle.slip.proofs.Tables.{are-labels}
use Rattle.std.proofs.Common.{Some}
use Rattle.slip.proofs.losses_of.Goals as goal

pub returns-in-Game : goal.returns-in-Game
returns-in-Game c =
    let a = c.args in
    let p = c.put_losses.ensures in record { value = ap Some p.0 ∙ game-count a.slip.now a.reading a.room.now c.requires c.in-Game.number c.in-Game.is; room_after = p.1 ∙ rw (game-losses a.slip.now a.reading a.room.now c.requires c.in-Game.number c.in-Game.is) }

pub returns-in-LabelsFrom : goal.returns-in-LabelsFrom
returns-in-LabelsFrom c =
    let a = c.args in
    let named = table-named a.slip.now a.reading a.room.now c.requires in
    absurd_bool (sym (are-labels a.slip.now _ (sym named ∙ c.in-LabelsFrom.is)) ∙ c.requires.no_labels)
