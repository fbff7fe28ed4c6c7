-- What the second pass asks, which writes the trail, and what the finish of the first leads to. The writer's own
-- promise does not cite it. Assumes nothing.
use Rattle.std.specs.Prelude.{Bool, true, cond, List, [], ◌≡◌, ℕ, ◌≤◌, leb, length}
use Rattle.end_kinds.specs.declared.Kind.{Kind}
use Rattle.grid.specs.Made.{shape}
use Rattle.grid.specs.declared.Grid.{Grid as GridStruct}
use Rattle.marks.specs.Reading.{Readable, problem_from}
use Rattle.moves.specs.declared.Status.{Status}
use Rattle.path_laws.specs.Demand.{Accepted}
use Rattle.path_pass.specs.declared.Finish.{Finish}
use Rattle.path_pass.specs.declared.Finish.TheVariants.{Ended, Spent as BudgetSpent, Unknown as UnknownLabel}
use Rattle.place.specs.Path.{answer, ended}
use Rattle.place.specs.Places.{Simplex}
use Rattle.place.specs.Problem.{Problem}
use Rattle.rules.specs.Ready.{IsRound, RoundBelow}
use Rattle.rules.specs.declared.Round.{Round}
use Rattle.trail_writer.specs.Writing.{whole_trail}

-- the path has an end within the budget
abbrev pub HasEnd : Problem → ℕ → Type 0
HasEnd p budget = (n : ℕ) × (read : ℕ) × (kind : Kind) × (block : ℕ) × (vertices : ℕ) × (simplex : Simplex)
    × (answer p budget ≡ ended n read kind block vertices simplex)

-- and there is room for the whole trail
pub record CanWriteTrail (g : GridStruct) (round : Round) (binomials start labels : List ℕ)
    (room budget : ℕ) : Type 0 where
  pub readable : Readable g binomials labels
  pub is_round : IsRound (shape g) round
  pub below : RoundBelow round
  pub accepted : Accepted (problem_from g start labels)
  pub ends : HasEnd (problem_from g start labels) budget
  pub fits : length (whole_trail (problem_from g start labels)) ≤ room

-- the first pass has come to its finish, and has counted the bytes of the trail if that is an end
pub record HasCounted (g : GridStruct) (round : Round) (binomials start labels : List ℕ) (budget bytes : ℕ)
    (f : Finish) : Type 0 where
  pub readable : Readable g binomials labels
  pub is_round : IsRound (shape g) round
  pub below : RoundBelow round
  pub accepted : Accepted (problem_from g start labels)
  pub end : (kind : Kind) (places h : ℕ) (s : Status) (read : ℕ) → f ≡ Ended kind places h s read
      → HasEnd (problem_from g start labels) budget × (bytes ≡ length (whole_trail (problem_from g start labels)))

-- 17, which is put at an end alone, is answered yes; and what is then stored, in `room` bytes
abbrev pub has_room : Problem → ℕ → Finish → Bool
has_room p room (Ended kind places h s read) = leb (length (whole_trail p)) room
has_room p room (UnknownLabel places position) = true
has_room p room BudgetSpent = true

abbrev pub stored_at : Problem → ℕ → Finish → List ℕ
stored_at p room (Ended kind places h s read) = cond (leb (length (whole_trail p)) room) (whole_trail p) []
stored_at p room (UnknownLabel places position) = []
stored_at p room BudgetSpent = []
