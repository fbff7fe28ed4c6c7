-- `rest_behind` meets its contract: behind the last of six blocks there is one profile, and else the array has their
-- number. Assumes nothing.
use mathlib.Core.Path.{sym}
use native.Mathlib.Omega.{arith}
use Rattle.game_weighed.proofs.Levels.{behind-none}
use Rattle.game_point.proofs.weighing.rest_behind.Goals as goal

pub returns-then-block-eq5 : goal.returns-then-block-eq5
returns-then-block-eq5 c = λ g R few. sym (behind-none g _ _ (omega arith))
