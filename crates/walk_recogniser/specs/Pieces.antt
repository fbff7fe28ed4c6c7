-- What the functions of the recogniser ask and give, on lists. Assumes nothing.
use Rattle.std.specs.Prelude.{Bool, Option, Some, None, true, false, not, ◌&&◌, cond, List, [], ◌≡◌, ℕ, suc, ◌+◌, ◌≤◌, ◌<◌, eqb, length, take, get_or}
use Rattle.grid_points.specs.Grid.{Grid, Point, at, block_of, is_grid_point, position}
use Rattle.grid.specs.Made.{shape}
use Rattle.grid.specs.declared.Grid.{Grid as GridStruct}
use Rattle.arrays.specs.declared.holding.Held.{Held}
use Rattle.place.specs.Places.{first_back_outside}
use Rattle.place.specs.Problem.{Problem}
use Rattle.positions.specs.Steps.{after_steps, CanTakeSteps}
use Rattle.rules.specs.Mask.{bit}
use Rattle.rules.specs.Moves.{mark, mark_position}
use Rattle.walks.specs.Kept.{can_step, kept_points, zero_outside}
use Rattle.walk_recogniser.specs.declared.Sets.{Sets}

-- the grid and a start, no label being looked at
abbrev pub started_on : GridStruct → List ℕ → Problem
started_on g start = record { grid = shape g; start = start; labels = [] }

-- T has the first n indices of the order, below m and all different; U has what T leaves of the zeros
pub record AreTandU (order : List ℕ) (n m zeros t u : ℕ) : Type 0 where
  pub below : (j : ℕ) → j < n → at order j < m
  pub once : (i j : ℕ) → i < n → j < n → at order i ≡ at order j → i ≡ j
  pub has : (j : ℕ) → j < n → bit t (at order j) ≡ true
  pub only : (k : ℕ) → k < 16 → bit t k ≡ true → (j : ℕ) × (j < n) × (at order j ≡ k)
  pub rest : (k : ℕ) → k < 16 → bit u k ≡ (bit zeros k && not (bit t k))

-- an index is too large, or stands twice
pub data NoSets (order : List ℕ) (n m : ℕ) : Type 0 where
  beyond : (j : ℕ) → j < n → m ≤ at order j → NoSets order n m
  twice : (i j : ℕ) → i < j → j < n → at order i ≡ at order j → NoSets order n m

abbrev pub SetsOf : List ℕ → ℕ → ℕ → ℕ → Option Sets → Type 0
SetsOf order n m _ None = NoSets order n m
SetsOf order n m free (Some sets) = AreTandU order n m free sets.t sets.u

-- index h is in neither of two masks
abbrev pub in_neither : ℕ → ℕ → ℕ → Type 0
in_neither t u h = (bit t h ≡ false) × (bit u h ≡ false)

-- a block's index in neither
pub record FreeIn (g : GridStruct) (t u j : ℕ) : Type 0 where
  pub index : ℕ
  pub below : index < g.indices
  pub block : block_of (shape g) index ≡ j
  pub free : in_neither t u index

pub data NotFree (g : GridStruct) (c : List ℕ) (t u : ℕ) : Type 0 where
  filled : (j : ℕ) → j < g.blocks → (FreeIn g t u j → ⊥) → NotFree g c t u
  positive : (k : ℕ) → k < g.indices → in_neither t u k → 0 < at c k → NotFree g c t u

-- every block has an index in neither, and each such index has coefficient 0
pub record AllFree (g : GridStruct) (c : List ℕ) (t u : ℕ) : Type 0 where
  pub each : (j : ℕ) → j < g.blocks → FreeIn g t u j
  pub zero : (k : ℕ) → k < g.indices → in_neither t u k → at c k ≡ 0

pub record IsFree (g : GridStruct) (c : List ℕ) (t u : ℕ) (r : Bool) : Type 0 where
  pub yes : r ≡ true → AllFree g c t u
  pub no : r ≡ false → NotFree g c t u

-- the index after h in the block of the indices from first up to end
abbrev pub next_in_block : ℕ → ℕ → ℕ → ℕ
next_in_block first end h = cond (eqb (suc h) end) first (suc h)

-- c has a block's coefficients of y with v as the start
pub record InBlock (c v y : List ℕ) (first end : ℕ) : Type 0 where
  pub some : first < end
  pub few : end ≤ 16
  pub long : end ≤ length v
  pub rule : (h : ℕ) → first ≤ h → h < end → at y h + at c (next_in_block first end h) ≡ at v h + at c h
  pub zero : (k : ℕ) × (first ≤ k) × (k < end) × (at c k ≡ 0)
  pub small : (h : ℕ) → at c h ≤ 65535

-- the numbers of a block are those of c, the others as before
pub record PutIn (c : List ℕ) (first end : ℕ) (old new : List ℕ) : Type 0 where
  pub long : length new ≡ 16
  pub inside : (k : ℕ) → first ≤ k → k < end → at new k ≡ at c k
  pub outside : (k : ℕ) → (k < first → at new k ≡ at old k)
  pub behind : (k : ℕ) → (end ≤ k → at new k ≡ at old k)

-- the point with these counts of steps
abbrev pub point_with : GridStruct → List ℕ → List ℕ → Point
point_with g first steps = take g.indices (after_steps first steps)

pub record OnGrid (g : GridStruct) (first steps : List ℕ) : Type 0 where
  pub can : CanTakeSteps g.indices first steps
  pub point : is_grid_point (shape g) (point_with g first steps) ≡ true

-- the mark of a grid point whose label is not read
abbrev pub bare_mark : Grid → Point → ℕ
bare_mark g y = mark (position g y) 0

pub record IsMark (g : GridStruct) (first steps : List ℕ) (r : ℕ) : Type 0 where
  pub is : r ≡ bare_mark (shape g) (point_with g first steps)

-- U, by the first point and the order
abbrev pub zero_on : GridStruct → Held → ℕ → List ℕ
zero_on g held n = zero_outside (shape g) (take n held.order) (take g.indices held.first)

-- `from` gives the index that each step of the order takes from
pub record CanMark (g : GridStruct) (from : ℕ → ℕ) (held : Held) (n : ℕ) : Type 0 where
  pub few : n ≤ 15
  pub on_grid : is_grid_point (shape g) (take g.indices held.first) ≡ true
  pub below : (j : ℕ) → j < n → at held.order j < g.indices
  pub sources : (j : ℕ) → j < n
      → from (at held.order j) ≡ first_back_outside (shape g) (zero_on g held n) (at held.order j)
  pub in_block : (j : ℕ) → j < n → block_of (shape g) (from (at held.order j)) ≡ block_of (shape g) (at held.order j)
  pub sources_below : (j : ℕ) → j < n → from (at held.order j) < g.indices

-- whether each step of the order has 1 to take
abbrev pub can_go : GridStruct → Held → ℕ → Bool
can_go g held n = can_step (shape g) (zero_on g held n) (take g.indices held.first) (take n held.order)

-- each has, and the marks are those of the points
pub record AreMarks (g : GridStruct) (held : Held) (n : ℕ) (marks : List ℕ) : Type 0 where
  pub can : can_go g held n ≡ true
  pub long : length marks ≡ 16
  pub each : (j : ℕ) → j ≤ n → at marks j
      ≡ bare_mark (shape g) (get_or (kept_points (shape g) (take g.indices held.first) (take n held.order)) j [])

abbrev pub Marked : GridStruct → Held → ℕ → Option (List ℕ) → Type 0
Marked g held n None = can_go g held n ≡ false
Marked g held n (Some marks) = AreMarks g held n marks

-- the position in each mark of the first n + 1 is in the table, and the mark has room for a label
pub record CanReadLabels (table marks : List ℕ) (n : ℕ) : Type 0 where
  pub few : n ≤ 15
  pub long : length marks ≡ 16
  pub within : (j : ℕ) → j ≤ n → mark_position (at marks j) < length table
  pub room : (j : ℕ) → j ≤ n → at marks j < 4294967040

-- each of the first n + 1 marks has the label at its position
pub record LabelsPut (table : List ℕ) (n : ℕ) (old new : List ℕ) : Type 0 where
  pub long : length new ≡ 16
  pub each : (j : ℕ) → j ≤ n → at new j ≡ at old j + get_or table (mark_position (at old j)) 0
