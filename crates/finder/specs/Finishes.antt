-- What the finish of a pass tells, and what announcing it asks. The run's own promise does not cite it. Assumes
-- nothing.
use Rattle.std.specs.Prelude.{List, [], ◌≡◌, ℕ, suc, ◌-◌, ◌<◌, length}
use Rattle.end_kinds.specs.declared.Kind.{Kind}
use Rattle.grid_points.specs.Grid.{block_of}
use Rattle.grid.specs.Made.{IsMade, shape}
use Rattle.grid.specs.declared.Grid.{Grid as GridStruct}
use Rattle.moves.specs.Held.{state_of}
use Rattle.arrays.specs.declared.holding.Held.{Held}
use Rattle.moves.specs.declared.Status.{Status}
use Rattle.path_pass.specs.Finish.{first_point_of}
use Rattle.path_pass.specs.declared.Finish.{Finish}
use Rattle.path_pass.specs.declared.Finish.TheVariants.{Ended, Spent as BudgetSpent, Unknown as UnknownLabel}
use Rattle.moves.specs.Room.{CanPut}
use Rattle.rules.specs.Read.{numbers_from}
use Rattle.rules.specs.Moves.{State}
use Rattle.rules.specs.declared.Round.{Round}
use Rattle.finder.specs.declared.answers.RunAnswer.{RunAnswer}
use Rattle.finder.specs.declared.answers.RunAnswer.TheVariants.{End, Spent, Unknown}

-- the answer's case
abbrev pub case_at : GridStruct → ℕ → Finish → RunAnswer
case_at g budget (Ended kind places h s read) =
    End places read kind (suc (block_of (shape g) h)) (suc s.count - first_point_of kind)
case_at g budget (UnknownLabel places position) = Unknown places position
case_at g budget BudgetSpent = Spent budget

-- the numbers that it writes, m for each vertex, from what is held of the last place
abbrev pub numbers_at : ℕ → Round → Held → Finish → List ℕ
numbers_at m round held (Ended kind places h s read) = numbers_from m (state_of round held s) (first_point_of kind)
numbers_at m round held (UnknownLabel places position) = []
numbers_at m round held BudgetSpent = []

-- the end at a state can be announced
pub record CanAnnounceEnd (g : GridStruct) (e : State) (kind : Kind) (h count room : ℕ) : Type 0 where
  pub index : h < g.indices
  pub points : CanPut e g.indices (first_point_of kind) room
  pub many : length e.order ≡ count

pub record CanAnnounce (g : GridStruct) (round : Round) (held : Held) (room : ℕ) (f : Finish) : Type 0 where
  pub made : IsMade g
  pub end : (kind : Kind) (places h : ℕ) (s : Status) (read : ℕ) → f ≡ Ended kind places h s read
      → CanAnnounceEnd g (state_of round held s) kind h s.count room
