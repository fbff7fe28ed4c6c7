-- `add_times` meets its contract: the row is added before the place reached. Assumes nothing.
use mathlib.Core.Path.{◌≡◌}
use lib.ListN.{length}
use Rattle.game_corners.proofs.Rows.{Added}
use Rattle.game_corners.proofs.labels.add_times.Given as goal

abbrev pub invariant-loop-h : goal.invariant-loop-h
invariant-loop-h l = Added l.initial.totals l.row l.x l.h l.totals × (length l.totals ≡ 16)
