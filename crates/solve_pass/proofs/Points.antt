-- The point that has just come in, computed by its steps, and its label stored. Assumes nothing.
use mathlib.Core.List.{List}
use mathlib.Core.Path.{◌≡◌, sym, ap, ◌∙◌}
use Prim.Native.Nat.{ℕ, suc, ◌≤◌, ◌<◌}
use borrow.Author.Tests.{le-ltb, lt-ltb}
use lib.ListN.{set, take}
use lib.Seq.{take-set-lt}
use native.Mathlib.Omega.{arith}
use Rattle.combinatorics.proofs.EditsOfArrays.{first-few}
use Rattle.grid_points.specs.Grid.{Grid, num_indices}
use Rattle.solve_pass.specs.Bare.{labelled}
use Rattle.solve_pass.specs.Asked.{CanLabel}
use Rattle.game_losses.specs.Game.{game_label}
use Rattle.moves.specs.Held.{state_of, state_with}
use Rattle.arrays.specs.declared.holding.Held.{Held}
use Rattle.moves.specs.declared.Status.{Status}
use Rattle.rules.proofs.PointsAfter.{after_taken, few-ready}
use Rattle.rules.specs.Read.{point_after, point_on, CanCompute, ReadyPoint}
use Rattle.rules.specs.Moves.{State, source, with_mark}
use Rattle.rules.specs.declared.Round.{Round}

module _ {g : Grid} {firsts owners rests losses : List ℕ} {indices : ℕ} (round : Round) (held : Held) (s : Status)
    (C : CanLabel g firsts owners rests losses indices (state_of round held s)) where
  abbrev from : ℕ → ℕ
  from = source round s.u

  low : s.active ≤ s.count
  low = omega (arith, C.point.low, first-few s.count held.order)

  pub ready-steps : ReadyPoint from (take s.active held.order) held.first s.active
  ready-steps = few-ready from held.order held.first s.count s.active low C.point

  pub point-is : (y : List ℕ) → y ≡ point_after from (take s.active held.order) held.first s.active
      → take indices y ≡ point_on g (state_of round held s) s.active
  point-is y e = rw (C.many, e)
      (ap (take (num_indices g))
      (sym (after_taken from held.order held.first s.active s.active (omega arith))
      ∙ after_taken from held.order held.first s.count s.active low))

-- after rules 6 and 7 nothing is worked out, and else the label of the point that has come in is stored
pub labelled-none : (g : Grid) (losses : List ℕ) (s : State) → 6 ≤ s.rule → labelled g losses s ≡ s
unfolding labelled
labelled-none g losses s l = rw (le-ltb s.rule 6 l)

pub labelled-some : (g : Grid) (losses : List ℕ) (round : Round) (held : Held) (s : Status)
    (m : ℕ) → s.rule < 6 → CanCompute (state_of round held s) s.active
    → m ≡ game_label g losses (point_on g (state_of round held s) s.active)
    → state_with round held.first held.coefficients held.order (set held.marks s.active m) s
    ≡ labelled g losses (state_of round held s)
unfolding labelled with_mark
labelled-some g losses round held s m r R e = rw (
  e,
  lt-ltb s.rule 6 r,
  take-set-lt (suc s.count) held.marks s.active
      (game_label g losses (point_on g (state_of round held s) s.active))
      (omega (arith, R.low, first-few s.count held.order)),
)
