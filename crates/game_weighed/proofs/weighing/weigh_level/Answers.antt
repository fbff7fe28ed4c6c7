-- `weigh_level` meets its contract: the tables of the indices passed are written. Assumes nothing.
use mathlib.Core.Path.{sym, subst}
use Prim.Native.Nat.{ℕ, ◌+◌, ◌*◌, ◌<◌}
use native.Mathlib.Omega.{arith}
use Rattle.grid_points.specs.Grid.{at}
use Rattle.game_weighed.proofs.NextLevel.{index_kept, level_turn}
use Rattle.game_weighed.specs.Levels.{place, next_at, rest_at, IndexToWeigh, Written}
use Rattle.game_weighed.proofs.weighing.weigh_level.Goals as goal
use Rattle.game_weighed.proofs.weighing.weigh_level.Goals.{After-from-owner}

-- what is known once the owner is read
ready : (c : After-from-owner)
    → let o = at c.args.game.now.owners.now c.loop-h.h in
    (o < 6)
    × IndexToWeigh o c.args.mix.now c.args.levels.now c.args.level c.loop-h.h
    (rest_at c.args.game.now.owners.now c.args.game.now.rests.now c.args.level c.loop-h.h)
ready c = c.requires.2 c.loop-h.h (omega arith)

owner_low : (c : After-from-owner) → c.from-owner.result < 6
owner_low c = omega (arith, c.from-owner.ensures, (ready c).0)

pub weigh_index-requires : goal.weigh_index-requires
weigh_index-requires c =
    let l = c.loop-h in
    let a = c.args in
    subst
    (λ (o : ℕ).
    IndexToWeigh o a.mix.now l.levels a.level l.h (at a.game.now.rests.now ((a.level + 1) * 6 + o)))
    (sym c.from-owner.ensures)
    (index_kept (at a.game.now.owners.now l.h) a.mix.now a.levels.now a.level l.h
    (rest_at a.game.now.owners.now a.game.now.rests.now a.level l.h)
    (ready (goal.at.weigh_index-requires c).After-from-owner).1
    l.levels l.invariant.kept (omega arith))

pub loop-h-preserved : goal.loop-h-preserved
loop-h-preserved c =
    let l = c.loop-h in
    let a = c.args in
    let done = subst
    (λ (o : ℕ). Written l.levels (place (a.level + 1) l.h) (at a.game.now.rests.now ((a.level + 1) * 6 + o))
    (next_at o a.mix.now l.levels a.level l.h (at a.game.now.rests.now ((a.level + 1) * 6 + o)))
    c.weigh_index.new.levels)
    c.from-owner.ensures c.weigh_index.ensures in
    level_turn a.game.now.owners.now a.game.now.rests.now a.mix.now a.levels.now a.level a.indices c.requires l.h
    (omega arith) l.levels _ l.invariant done
