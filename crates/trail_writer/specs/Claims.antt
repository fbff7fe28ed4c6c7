-- Request 03: what holds of every run that writes a trail. Assumes nothing.
use Rattle.std.specs.Prelude.{List, ◌≡◌, ℕ, suc, pred, ◌+◌, ◌*◌, ◌≤◌, ◌<◌, length, take}
use Rattle.combinatorics.specs.Front.{front}
use Rattle.combinatorics.specs.Lists.{concat_map}
use Rattle.end_kinds.specs.declared.Kind.{Kind}
use Rattle.finder.specs.Demand.{AcceptedWith}
use Rattle.finder.specs.Run.{run_answer, run_buffer}
use Rattle.finder.specs.declared.answers.RunAnswer.TheVariants.{End, Refused}
use Rattle.path_laws.specs.Demand.{place_at}
use Rattle.place.specs.LabelsRead.{came_in}
use Rattle.place.specs.Path.{path, path_length}
use Rattle.place.specs.Places.{set_t, set_u}
use Rattle.place.specs.Problem.{Problem, with_labels}
use Rattle.trail_reader.specs.Reading.{mask_of, read_answer, read_points}
use Rattle.trail_reader.specs.declared.answers.ReadAnswer.TheVariants.{Place, Refused as ReadRefused}
use Rattle.trail_writer.specs.Writing.{trail_answer_buffer, trail_answer, trail_buffer, whole_trail}

pub record Writes (p : Problem) (room trail_room budget : ℕ) : Type 0 where
  -- "what demands 2 and 3 say of announcing one is judged on runs that write no trail or have room for it": where there
  -- is room, the answer and the answer buffer are those of the run without a trail
  pub with_room : length (whole_trail p) ≤ trail_room
      → (trail_answer p room trail_room budget).run ≡ run_answer p room budget
  pub same_buffer : length (whole_trail p) ≤ trail_room → (old : List ℕ) → length old ≡ room
      → trail_answer_buffer p trail_room budget old ≡ run_buffer p budget old
  -- where there is none, a run that would announce an end gets 17, and only such a run
  pub no_room : trail_room < length (whole_trail p) → (n read : ℕ) (kind : Kind) (block vertices : ℕ)
      → run_answer p room budget ≡ End n read kind block vertices
      → (trail_answer p room trail_room budget).run ≡ Refused 17
  pub otherwise : (trail_answer p room trail_room budget).run ≡ Refused 17
      → (n : ℕ) × (read : ℕ) × (kind : Kind) × (block : ℕ) × (vertices : ℕ)
      × (run_answer p room budget ≡ End n read kind block vertices)
  -- nothing is written then, nor at any other refusal
  pub unwritten : (n : ℕ) → (trail_answer p room trail_room budget).run ≡ Refused n
      → ((trail_answer p room trail_room budget).bytes ≡ 0)
      × ((old : List ℕ) → length old ≡ room → trail_answer_buffer p trail_room budget old ≡ old)
      × ((old : List ℕ) → length old ≡ trail_room → trail_buffer p room budget old ≡ old)

-- "over a run's trail these places are the path": of what a run has written the reader answers, record by record, with
-- the points, T, U and request 10's labels read of the path's place, whatever was behind it in the buffer. The reader
-- is given no table, so it may be any.
pub record ReadsBack (p : Problem) (room budget : ℕ) (old : List ℕ) : Type 0 where
  pub long : (n read : ℕ) (kind : Kind) (block vertices : ℕ)
      → (trail_answer p room (length old) budget).run ≡ End n read kind block vertices
      → let bytes = (trail_answer p room (length old) budget).bytes in
      (n ≡ path_length p) × (3 ≤ bytes) × (bytes ≤ 3 + 7 * pred n)
      × (take bytes (trail_buffer p room budget old) ≡ whole_trail p)
  pub reads : (n read : ℕ) (kind : Kind) (block vertices : ℕ)
      → (trail_answer p room (length old) budget).run ≡ End n read kind block vertices
      → (labels : List ℕ) (i : ℕ) → i < n
      → let given = with_labels p labels in
      let trail = trail_buffer p room budget old in
      let place = place_at (path p).visited i in
      let read = suc (came_in (path p).visited i) in
      (read_answer given trail (suc i)
      ≡ Place (length place) (mask_of (set_t p place)) (mask_of (set_u p.grid place)) read)
      × ((lent : List ℕ) → read_points given trail (suc i) lent ≡ front (concat_map (λ y. y) place) lent)
  pub no_more : (n read : ℕ) (kind : Kind) (block vertices : ℕ)
      → (trail_answer p room (length old) budget).run ≡ End n read kind block vertices
      → (labels : List ℕ) (i : ℕ) → n < i
      → let bytes = (trail_answer p room (length old) budget).bytes in
      read_answer (with_labels p labels) (take bytes (trail_buffer p room budget old)) i ≡ ReadRefused 17

abbrev pub TrailsOfRuns : Type 0
TrailsOfRuns = (p : Problem) (room budget : ℕ) → ((trail_room : ℕ) → Writes p room trail_room budget)
    × (AcceptedWith p room → (old : List ℕ) → ReadsBack p room budget old)
