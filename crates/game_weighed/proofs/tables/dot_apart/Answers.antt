-- `dot_apart` meets its contract: what is summed and what is left make the whole sum. Assumes nothing.
use mathlib.Core.Path.{◌≡◌}
use Prim.Native.Nat.{◌+◌, ◌*◌}
use native.Mathlib.Omega.{arith}
use lib.ListN.{drop}
use Rattle.grid_points.specs.Grid.{at as number}
use Rattle.game_weighed.proofs.Blends.{apart-first}
use Rattle.game_weighed.specs.Levels.{blend}
use Rattle.game_weighed.proofs.tables.dot_apart.Goals as goal
use Rattle.game_weighed.proofs.tables.dot_apart.Goals.{Start}

first : (c : Start)
    → blend c.args.mix.now (λ i. number c.args.values.now (i * c.args.step))
    ≡ number c.args.mix.now 0 * number c.args.values.now 0
    + number c.args.mix.now 1 * number c.args.values.now c.args.step
    + blend (drop 2 c.args.mix.now) (λ i. number c.args.values.now ((2 + i) * c.args.step))
first c = apart-first c.args.mix.now c.args.values.now c.args.step c.requires.two

pub offset_bounds-values-step : goal.offset_bounds-values-step
offset_bounds-values-step c =
    omega (arith, c.requires.inside 1 (omega (arith, c.requires.two)))

pub bounds-values-step : goal.bounds-values-step
bounds-values-step c =
    omega (arith, c.requires.inside 1 (omega (arith, c.requires.two)))

pub loop-k-init : goal.loop-k-init
loop-k-init c =
    rw (c.from.ensures, c.from-2.ensures) (omega (arith, first (goal.at.loop-k-init c).Start))
