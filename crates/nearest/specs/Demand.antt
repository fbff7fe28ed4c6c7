-- What holds of every call that is not refused before it runs: its run is that of a run without w, and what it reports
-- is right. Assumes nothing.
use Rattle.std.specs.Prelude.{List, None, Some, ◌≡◌, ℕ, ◌<◌, length}
use Rattle.end_kinds.specs.declared.Kind.{Kind}
use Rattle.grid_points.specs.Grid.{Point, position}
use Rattle.place.specs.Path.{path_length}
use Rattle.place.specs.Problem.{Problem}
use Rattle.finder.specs.Run.{run_answer, run_buffer}
use Rattle.finder.specs.declared.answers.RunAnswer.TheVariants.{End, Unknown}
use Rattle.nearest_visited.specs.Demand.{Distances, IsList, IsNearest, Visits}
use Rattle.nearest_visited.specs.Nearest.{nearest, positions_within}
use Rattle.nearest.specs.Report.{near_answer_buffer, list_buffer, near_refusal, report_of}

pub record NearDemand (p : Problem) (w : Point) (room list_room : ℕ) : Type 0 where
  -- the run is that of a run without w, distance and list, its vertices in the answer buffer included
  pub run : (given budget : ℕ) → (report_of p w given room list_room budget).run ≡ run_answer p room budget
  pub answer : (budget : ℕ) (old : List ℕ) → length old ≡ room
      → near_answer_buffer p w list_room budget old ≡ run_buffer p budget old
  -- so runs alike but in w, distance and list announce the same end
  pub alike : (other : Point) (given next budget other_room : ℕ) → near_refusal p other room other_room ≡ 0
      → (report_of p w given room list_room budget).run ≡ (report_of p other next room other_room budget).run
  -- after an end a vertex is reported, and the list has as many positions as are said
  pub ended : (given budget n read block vertices : ℕ) (kind : Kind)
      → run_answer p room budget ≡ End n read kind block vertices
      → (report_of p w given room list_room budget).nearest
      ≡ Some (record { position = position p.grid (nearest p w); listed = length (positions_within p w given) })
  -- with 9 and 16 none is, and the list is as before
  pub spent : (given budget : ℕ) (old : List ℕ) → length old ≡ list_room → budget < path_length p
      → ((report_of p w given room list_room budget).nearest ≡ None) × (list_buffer p w given room budget old ≡ old)
  pub unknown : (given budget n i : ℕ) (old : List ℕ) → length old ≡ list_room → run_answer p room budget ≡ Unknown n i
      → ((report_of p w given room list_room budget).nearest ≡ None) × (list_buffer p w given room budget old ≡ old)
  -- the visited vertices, the distance, the nearest and the list are what the request asks for
  pub visits : Visits p
  pub distances : Distances p.grid
  pub nearest : IsNearest p w
  pub list : (given : ℕ) → IsList p w given

abbrev pub NearDemandHolds : Type 0
NearDemandHolds = (p : Problem) (w : Point) (room list_room : ℕ) → near_refusal p w room list_room ≡ 0
    → NearDemand p w room list_room
