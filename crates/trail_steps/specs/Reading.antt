-- What a record at the front of bytes names, and what one record of a reading asks and gives. The reader's own promise
-- does not cite it. Assumes nothing.
use Rattle.std.specs.Prelude.{◌&&◌, cond, List, [], map, ◌≡◌, ℕ, suc, ◌+◌, ◌-◌, ◌*◌, ◌/◌, ◌%◌, ◌≤◌, ◌<◌, eqb, leb, ltb}
use Rattle.std.specs.Prelude.{drop, get_or, length, set}
use Rattle.combinatorics.specs.Edits.{found}
use Rattle.grid_points.specs.Grid.{at, num_indices, position}
use Rattle.grid.specs.Made.{shape}
use Rattle.grid.specs.declared.Grid.{Grid as GridStruct}
use Rattle.marks.specs.Reading.{problem_from}
use Rattle.path_laws.specs.Demand.{HasStart}
use Rattle.place.specs.Places.{Simplex}
use Rattle.place.specs.Problem.{Problem}
use Rattle.positions.specs.Binomials.{Measured}
use Rattle.positions.specs.Falls.{tail_from}
use Rattle.trail_records.specs.Records.{record_from}
use Rattle.trail_records.specs.declared.IndexSets.{IndexSets}
use Rattle.rules.specs.Mask.{bit}
use Rattle.rules.specs.Read.{point_on}
use Rattle.rules.specs.Ready.{RoundBelow}
use Rattle.rules.specs.Moves.{State, mark_position}
use Rattle.trail.specs.Trail.{begins, rebuilt_from}
use Rattle.trail_steps.specs.Shows.{Shows}
use Rattle.ways.specs.declared.Way.{Way}
use Rattle.ways.specs.declared.Way.TheVariants.{Joins, Leaves, Nothing}

-- the point with a position leaves, if the place has it and another
abbrev pub leaving : State → ℕ → ℕ → Way
leaving s n z = let i = found z 16 (map mark_position s.marks) in cond (leb i n && ltb 0 n) (Leaves i) Nothing

-- the index that a byte names, counted from 1, joins T
abbrev pub joining : ℕ → ℕ → ℕ → Way
joining T m b = cond (leb 1 b && leb b m) (cond (bit T (b - 1)) Nothing (Joins (b - 1))) Nothing

-- by the map byte at the front: bit 1 stands for a point that goes out, whose position stands behind that of a point
-- that comes in, if bit 0 stands; without it an index comes into T. m indices, n steps.
unfoldable pub way_of : ℕ → ℕ → State → List ℕ → Way
way_of m n s bytes =
    let byte = get_or bytes 0 0 in
    let from = 1 + 2 * (byte % 2) in
    let z = get_or bytes from 0 + 256 * get_or bytes (suc from) 0 in
    let out = cond (leb (from + 2) (length bytes)) (leaving s n z) Nothing in
    let into = cond (leb 4 (length bytes)) (joining s.T m (get_or bytes 3 0)) Nothing in
    cond (eqb (length bytes) 0) Nothing (cond (eqb (byte / 2 % 2) 1) out into)

-- the position of the point that has come in, if any
abbrev pub come_position : GridStruct → State → ℕ
come_position g a = cond (ltb a.rule 6) (position (shape g) (point_on (shape g) a a.active)) 0

-- the record of the change that has been made
abbrev pub record_made : GridStruct → State → IndexSets → ℕ → List ℕ
record_made g a before gone = record_from before.t before.u a.T a.U (come_position g a) gone

-- it can be compared with the bytes
pub record CanCompare (g : GridStruct) (a : State) (gone room at : ℕ) : Type 0 where
  pub come : come_position g a < 65536
  pub out : gone < 65536
  pub low : at ≤ room

-- how many bytes it has, where the bytes begin with it; else 0
abbrev pub bytes_standing : GridStruct → State → IndexSets → ℕ → List ℕ → ℕ
bytes_standing g a before gone bytes =
    let made = record_made g a before gone in cond (begins made bytes) (length made) 0

-- the marks with that of the point that has come in
abbrev pub marks_with : GridStruct → State → List ℕ → List ℕ
marks_with g a marks = cond (ltb a.rule 6) (set marks a.active (come_position g a * 256)) marks

-- grid and start; the label table is not looked at
abbrev pub problem_by : GridStruct → List ℕ → Problem
problem_by g start = problem_from g start []

-- a reading has come to the place a
pub record HasRead (g : GridStruct) (start tails : List ℕ) (a : Simplex) (s : State) : Type 0 where
  pub has_start : HasStart (problem_by g start)
  pub shows : Shows (problem_by g start) a s
  pub sums : (k : ℕ) → k < num_indices (shape g) → at tails k ≡ tail_from (shape g) start k

-- what the next record asks
pub record CanGoOn (g : GridStruct) (binomials tails : List ℕ) (s : State) (room at : ℕ) : Type 0 where
  pub measured : Measured g binomials
  pub below : RoundBelow s.round
  pub place : (start : List ℕ) × (a : Simplex) × HasRead g start tails a s
  pub low : at ≤ room

-- the record leads from the place a to the place b
pub record Leads (g : GridStruct) (start trail : List ℕ) (a : Simplex) (at : ℕ) (s : State) (bytes : ℕ)
    : Type 0 where
  pub next : Simplex
  pub shows : Shows (problem_by g start) next s
  pub inside : at + bytes ≤ length trail
  pub some : 1 ≤ bytes
  pub reads : (n : ℕ)
      → rebuilt_from (problem_by g start) (suc n) a (drop at trail)
      ≡ rebuilt_from (problem_by g start) n next (drop (at + bytes) trail)
