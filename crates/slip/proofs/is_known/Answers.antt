-- `slip::is_known` meets its contract. The sizes are a part of the slip. Assumes nothing.
use mathlib.Core.Path.{sym}
use Rattle.slip.proofs.Tables.{no-game}
use Rattle.slip.proofs.is_known.Goals as goal

pub returns-in_default : goal.returns-in_default
returns-in_default c = sym (no-game c.args.slip.now c.requires.0
    c.args.table c.in_default.not-Game c.requires.1)
