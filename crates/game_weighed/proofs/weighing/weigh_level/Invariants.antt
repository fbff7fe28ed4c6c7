-- `weigh_level` meets its contract: the tables of the indices passed are written. Assumes nothing.
use Rattle.game_weighed.specs.Levels.{LevelWeighed}
use Rattle.game_weighed.proofs.weighing.weigh_level.Given as goal

abbrev pub invariant-loop-h : goal.invariant-loop-h
invariant-loop-h l =
    LevelWeighed l.game.owners.now l.game.rests.now l.mix l.level l.h l.initial.levels l.levels
