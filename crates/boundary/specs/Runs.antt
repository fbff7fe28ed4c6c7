-- Request 12, "so every end that a run announces is a place end": of every run on the table that a call has written,
-- from any start, with any budget and answer buffer, on tables with gaps too. Assumes nothing.
use Rattle.std.specs.Prelude.{true, List, [], ◌≡◌, ℕ, get_or}
use Rattle.end_kinds.specs.declared.Kind.{Kind}
use Rattle.end_kinds.specs.declared.Kind.TheVariants.{Place as place_end}
use Rattle.grid_points.specs.Grid.{Point, points}
use Rattle.grid_points.specs.Questions.{question5}
use Rattle.place.specs.Problem.{Problem, problem_of}
use Rattle.place.specs.Questions.{question8}
use Rattle.finder.specs.Run.{run_refusal, run_answer}
use Rattle.finder.specs.declared.answers.RunAnswer.TheVariants.{End, Unknown}
use Rattle.game_labels.specs.declared.Labelled.TheVariants.{Written}
use Rattle.boundary_labels.specs.Boundary.{is_interior}
use Rattle.boundary.specs.Call.{boundary_answer, boundary_buffer}

pub record RunsOver (p : Problem) (room : ℕ) : Type 0 where
  -- "every end that a run announces is a place end"
  pub kinds : (budget places read : ℕ) (kind : Kind) (block vertices : ℕ)
      → run_answer p room budget ≡ End places read kind block vertices → kind ≡ place_end
  -- a label that a run asks for is that of an interior point: the boundary has no gap
  pub asks : (budget places position : ℕ) → run_answer p room budget ≡ Unknown places position
      → is_interior (get_or (points p.grid) position []) ≡ true
  -- the table is accepted: what a run refuses is its start or its answer buffer
  pub accepted : (question5 p.grid p.start).answered_yes ≡ true → (question8 p.grid room).answered_yes ≡ true
      → run_refusal p room ≡ 0

-- where a call answers that it has written, what it leaves in its buffer is such a table
abbrev pub CallsLeadToPlaceEnds : Type 0
CallsLeadToPlaceEnds = (sizes divisions old buffer : List ℕ) (count : ℕ)
    → boundary_answer sizes divisions old buffer ≡ Written count → (start : Point) (room : ℕ)
    → RunsOver (problem_of sizes divisions start (boundary_buffer sizes divisions old buffer)) room
