-- `rounds::first_met` meets its contract. The invariant: by every test that the closure agrees with, the way from here
-- with the steps left meets what the whole way meets. The measure: the steps left. Assumes nothing.
use Rattle.std.proofs.Common.{Bool, ℕ, ◌≡◌, ◌<◌}
use Rattle.grid_points.specs.Grid.{at}
use Rattle.rules.specs.Moves.{first_met}
use Rattle.rules.proofs.FirstMet.{Meeting}
use Rattle.arrays.proofs.rounds.first_met.Given as goal

abbrev pub invariant-loop-left : goal.invariant-loop-left
invariant-loop-left g l =
    (l.at < 16)
    × ((q : ℕ → Bool) → ((k : ℕ) (b : Bool) → g.F.Fn.post l.test (k, tt) b → b ≡ q k)
    → Meeting l.way q (first_met l.way q (at l.sizes l.h) (at l.way l.h)) l.at l.left)

abbrev pub decreases-loop-left : goal.decreases-loop-left
decreases-loop-left g l = l.left
