-- What the reading behind questions 1 to 5 asks and gives. The reader's own promise does not cite it. Assumes nothing.
use Rattle.std.specs.Prelude.{List, ◌≡◌, ℕ, suc, ◌<◌, length, replicate, take}
use Rattle.combinatorics.specs.Front.{front}
use Rattle.grid_points.specs.Grid.{position}
use Rattle.grid.specs.Made.{IsMade, shape}
use Rattle.grid.specs.declared.Grid.{Grid as GridStruct}
use Rattle.arrays.specs.declared.holding.Held.{Held}
use Rattle.moves.specs.declared.Status.{Status}
use Rattle.path_laws.specs.Demand.{HasStart}
use Rattle.positions.specs.Binomials.{Measured}
use Rattle.rules.specs.Read.{numbers_from}
use Rattle.rules.specs.Ready.{IsRound, RoundBelow}
use Rattle.rules.specs.Moves.{State}
use Rattle.rules.specs.declared.Round.{Round}
use Rattle.trail.specs.Trail.{reading}
use Rattle.trail_steps.specs.Reading.{problem_by}
use Rattle.trail_reader.specs.Reading.{read_case, read_numbers}
use Rattle.trail_reader.specs.declared.answers.ReadAnswer.TheVariants.{Place}
use Rattle.trail_reader.specs.declared.answers.Reading.{Reading}

pub record CanReadTrail (g : GridStruct) (start : List ℕ) : Type 0 where
  pub made : IsMade g
  pub has_start : HasStart (problem_by g start)

-- the start in an array, and its position
pub record CanLocate (g : GridStruct) (binomials first : List ℕ) : Type 0 where
  pub measured : Measured g binomials
  pub first_length : length first ≡ 16
  pub has_start : HasStart (problem_by g (take g.indices first))

abbrev pub IsLocated : GridStruct → List ℕ → ℕ → Type 0
IsLocated g first r = (r ≡ position (shape g) (take g.indices first)) × (r < 65536)

-- what the reading asks with {v} held, before the mark of its point is stored
pub record CanRebuild (g : GridStruct) (round : Round) (binomials : List ℕ) (held : Held) : Type 0 where
  pub measured : Measured g binomials
  pub is_round : IsRound (shape g) round
  pub below : RoundBelow round
  pub no_coefficients : held.coefficients ≡ replicate 16 0
  pub no_marks : held.marks ≡ replicate 16 0
  pub has_start : HasStart (problem_by g (take g.indices held.first))

-- the place that a state holds, with masks of 16 bits and the labels read; its points over the old contents
pub record IsPlace (a : State) (m : ℕ) (s : Status) (labels : ℕ) (old : List ℕ) (r : Reading) : Type 0 where
  pub answer : r.answer ≡ Place (suc (length a.order)) s.t s.u labels
  pub low_t : s.t < 65536
  pub low_u : s.u < 65536
  pub points : r.points ≡ front (numbers_from m a 0) old

-- the answer, and the points over the old contents
pub record Reads (g : GridStruct) (start trail : List ℕ) (number : ℕ) (old : List ℕ) (r : Reading) : Type 0 where
  pub answer : r.answer ≡ read_case (reading (problem_by g start) trail number)
  pub points : r.points ≡ front (read_numbers (reading (problem_by g start) trail number)) old
