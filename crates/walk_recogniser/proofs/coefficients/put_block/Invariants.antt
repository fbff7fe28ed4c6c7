-- `coefficients::put_block` meets its contract. The invariant: the coefficients before h are stored, and x is that at
-- h. Assumes nothing.
use mathlib.Core.List.{List}
use mathlib.Core.Path.{◌≡◌}
use Prim.Native.Nat.{ℕ}
use Rattle.grid_points.specs.Grid.{at}
use Rattle.walk_recogniser.proofs.Following.{wrap}
use Rattle.walk_recogniser.specs.Pieces.{InBlock, PutIn}
use Rattle.walk_recogniser.proofs.coefficients.put_block.Given as goal

abbrev pub invariant-loop-h : goal.invariant-loop-h
invariant-loop-h l = (c : List ℕ) → InBlock c l.v l.y l.first l.end → l.from ≡ at c l.first
    → (l.x ≡ at c (wrap l.first l.end l.h)) × PutIn c l.first l.h l.initial.list l.list
