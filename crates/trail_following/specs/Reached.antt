-- Where the records of a trail lead. The reader's own promise does not cite it. Assumes nothing.
use Rattle.std.specs.Prelude.{List, ◌≡◌, ℕ, drop}
use Rattle.std.proofs.Math.Option.{none, some}
use Rattle.std.specs.Prelude.{Option, None, Some}
use Rattle.grid.specs.declared.Grid.{Grid as GridStruct}
use Rattle.moves.specs.declared.Status.{Status}
use Rattle.place.specs.LabelsRead.{came_in}
use Rattle.place.specs.Places.{Simplex}
use Rattle.rules.specs.Moves.{State}
use Rattle.trail.specs.Trail.{places_from, rebuilt_from}
use Rattle.trail_steps.specs.Shows.{Shows}
use Rattle.trail_steps.specs.Reading.{HasRead, problem_by}
use Rattle.trail_following.specs.declared.Reached.{Reached}

-- the place that the records lead to, in a state, and how many of them bring a point in
pub record Rebuilds (g : GridStruct) (start bytes : List ℕ) (a : Simplex) (number : ℕ) (s : State) (came : ℕ)
    : Type 0 where
  pub place : Simplex
  pub shows : Shows (problem_by g start) place s
  pub is : rebuilt_from (problem_by g start) number a bytes ≡ some place
  pub brought : came ≡ came_in (places_from (problem_by g start) number a bytes) number

abbrev pub Reaches : GridStruct → List ℕ → List ℕ → Simplex → ℕ → (Status → State) → Option Reached → Type 0
Reaches g start bytes a number s (Some r) = Rebuilds g start bytes a number (s r.status) r.came
Reaches g start bytes a number s None = rebuilt_from (problem_by g start) number a bytes ≡ none

-- from whatever place was held
abbrev pub ReachesFrom : GridStruct → List ℕ → List ℕ → ℕ → State → ℕ → (Status → State) → Option Reached → Type 0
ReachesFrom g tails trail from s number after r = (start : List ℕ) (a : Simplex) → HasRead g start tails a s
    → Reaches g start (drop from trail) a number after r
