-- From where the pass finished to what is reported and listed. Assumes nothing.
use mathlib.Core.List.{List}
use mathlib.Core.Path.{◌≡◌}
use Prim.Native.Nat.{ℕ}
use lib.ListN.{length, take}
use Rattle.combinatorics.proofs.Fronts.{front_taken}
use Rattle.grid_points.specs.Grid.{Point}
use Rattle.path_pass.specs.Finish.{Finished}
use Rattle.path_pass.specs.declared.Finish.{Finish}
use Rattle.path_pass.specs.declared.Finish.TheVariants.{Ended, Spent, Unknown}
use Rattle.place.specs.Path.{answer}
use Rattle.place.specs.Problem.{Problem}
use Rattle.rules.specs.declared.Round.{Round}
use Rattle.arrays.specs.declared.holding.Held.{Held}
use Rattle.nearest_pass.specs.Survey.{Surveys}
use Rattle.nearest_pass.specs.declared.Vertex.{Vertex}
use Rattle.std.specs.Prelude.{Option}
use Rattle.nearest_visited.specs.Nearest.{positions_within}
use Rattle.nearest.specs.Report.{listed_by, nearest_in}

module _ (p : Problem) (w : Point) (given budget : ℕ) (round : Round) (held : Held)
    (old new : List ℕ) (r : Option Vertex) where
  pub finish_nearest : (f : Finish) → Finished p budget round held f → Surveys p w given budget old new r f
      → r ≡ nearest_in p w given (answer p budget)
  finish_nearest (Ended kind places h s read) A S = rw A.is S.0
  finish_nearest (Unknown places position) is S = rw is S.0
  finish_nearest Spent is S = rw is S.0

  pub finish_listed : (f : Finish) → Finished p budget round held f → Surveys p w given budget old new r f
      → (let l = listed_by p w given (answer p budget) in take (length l) new ≡ l)
  finish_listed (Ended kind places h s read) A S =
      rw (A.is, S.1) (front_taken (positions_within p w given) old)
  finish_listed (Unknown places position) is S = rw is
  finish_listed Spent is S = rw is
