-- What the reading of a mark asks, and the ways in which a position is found. Assumes nothing.
use Rattle.std.specs.Prelude.{Bool, true, not, ◌&&◌, ◌||◌, cond, List, [], ◌≡◌, ℕ, ◌+◌, ◌-◌, ◌≤◌, ◌<◌, eqb, ltb, leb}
use Rattle.std.specs.Prelude.{length, Option, Result, Ok, Err, IfSome}
use Rattle.positions.specs.Binomials.{HasBinomials}
use Rattle.positions.specs.Falls.{Falls}
use Rattle.grid_points.specs.Grid.{Grid, Point, at, block_of, division, is_grid_point, num_points, position}
use Rattle.grid.specs.Made.{IsMade, shape}
use Rattle.grid.specs.declared.Grid.{Grid as GridStruct}
use Rattle.place.specs.Problem.{Problem, label}
use Rattle.rules.specs.Ready.{IndicesBelow}
use Rattle.rules.specs.Read.{mark_of, point_on, Exchanged, FallsBeside, CanCompute}
use Rattle.rules.specs.Moves.{State}
use Rattle.moves.specs.declared.Status.{Status}
use Rattle.marks.specs.declared.Unknown.{Unknown}

-- the grid, a start and the label table
abbrev pub problem_from : GridStruct → List ℕ → List ℕ → Problem
problem_from g start table = record { grid = shape g; start = start; labels = table }

-- the start left open, since no label depends on it
abbrev pub table_problem : GridStruct → List ℕ → Problem
table_problem g table = problem_from g [] table

-- a label can be looked up for every grid point
pub record Readable (g : GridStruct) (binomials table : List ℕ) : Type 0 where
  pub made : IsMade g
  pub filled : HasBinomials (shape g) binomials
  pub whole : length table ≡ num_points (shape g)

-- Request 02, "Looking up a label may therefore answer that there is none": what is read of a point
abbrev pub label_reading : Problem → Point → Result ℕ Unknown
label_reading p y = cond (eqb (label p y) 0) (Err (record { position = position p.grid y })) (Ok (mark_of p y))

-- the point that has just come in can be computed, and is a grid point
pub record CanReadPoint (g : GridStruct) (a : State) : Type 0 where
  pub below : IndicesBelow a.round.previous
  pub first_length : length a.first ≡ 16
  pub point : CanCompute a a.active
  pub on_grid : is_grid_point (shape g) (point_on (shape g) a a.active) ≡ true

-- where it has come in between two steps that changed places, the marks of their square stand; and in a grid of one
-- block, the steps to and from it, and the marks beside it, are known
pub record HasMarks (g : GridStruct) (tails : List ℕ) (a : State) : Type 0 where
  pub square : a.rule ≡ 1 → 0 < a.active → a.active < length a.order → Exchanged (shape g) a
  pub beside : g.blocks ≡ 1 → FallsBeside (shape g) tails a

-- so its position can be found
pub record CanFind (g : GridStruct) (tails : List ℕ) (a : State) (s : Status) : Type 0 where
  pub reads : CanReadPoint g a
  pub marks : HasMarks g tails a
  pub many : length a.order ≡ s.count

-- two steps have changed places, and the point has come in between them
abbrev pub is_between : Status → Bool
is_between s = eqb s.rule 1 && (ltb 0 s.active && ltb s.active s.count)

-- two steps, to h and to k, where a step at an index takes from the one that `from` gives, are in two blocks; or each
-- takes from an index before its own, and one ends no later than the other begins
abbrev pub add_up : Grid → (ℕ → ℕ) → ℕ → ℕ → Bool
add_up g from h k =
    not (eqb (block_of g h) (block_of g k))
    || ltb (from h) h && (ltb (from k) k && (leb h (from k) || leb k (from h)))

-- a position that is found is that of the point that has come in
abbrev pub IsRight : GridStruct → State → Option ℕ → Type 0
IsRight g a r = IfSome r (λ x. x ≡ position (shape g) (point_on (shape g) a a.active))

-- the steps of the order, and the point that has come in, are those that a run holds
pub record HasOrder (a : State) (s : Status) : Type 0 where
  pub below : IndicesBelow a.round.previous
  pub order_below : IndicesBelow a.order
  pub active : s.active ≤ s.count
  pub few : s.count ≤ 15
  pub many : length a.order ≡ s.count

-- the sum of the coordinates from index h on, by the start's and two coefficients
abbrev pub tail_by : List ℕ → List ℕ → ℕ → ℕ → ℕ
tail_by tails coefficients h lag = at tails h + at coefficients h - (at coefficients 0 + lag)

-- a step at h that takes from b, an index before it, can be weighed
pub record CanWeigh (g : GridStruct) (tails coefficients : List ℕ) (h b lag : ℕ) : Type 0 where
  pub one : g.blocks ≡ 1
  pub index : h < g.indices
  pub before : b < h
  pub most : lag ≤ 1
  pub some : at coefficients 0 + lag ≤ at tails h + at coefficients h
  pub room : tail_by tails coefficients h lag < division (shape g) 0

-- it lowers the position by f
abbrev pub FallsBy : GridStruct → List ℕ → List ℕ → ℕ → ℕ → ℕ → ℕ → Type 0
FallsBy g tails coefficients h b lag f =
    (y z : Point) → Falls (shape g) y z h b (tail_by tails coefficients h lag)
    → position (shape g) y ≡ position (shape g) z + f
