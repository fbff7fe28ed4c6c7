-- What the recogniser gives. Assumes nothing.
use Rattle.std.specs.Prelude.{true, false, Option, Some, None, List, [], ◌≡◌, ℕ, ◌≤◌, ◌<◌, eqb, length, get_or}
use Rattle.combinatorics.specs.Lists.{is_in}
use Rattle.grid_points.specs.Grid.{Point, at, block_of, is_grid_point, num_indices, previous as index_before, size}
use Rattle.grid.specs.Made.{shape}
use Rattle.grid.specs.declared.Grid.{Grid as GridStruct}
use Rattle.place.specs.Coefficients.{coefficients}
use Rattle.place.specs.Problem.{Problem}
use Rattle.positions.specs.Binomials.{Measured}
use Rattle.rules.specs.Mask.{bit}
use Rattle.arrays.specs.declared.holding.Held.{Held}
use Rattle.rules.specs.Ready.{IndicesBelow}
use Rattle.rules.specs.declared.Round.{Round}
use Rattle.walks.specs.Kept.{is_kept, kept_points, zero_outside}
use Rattle.walk_recogniser.specs.declared.Sets.{Sets}

pub record CanRecognise (g : GridStruct) (binomials start : List ℕ) (round : Round) (n : ℕ) : Type 0 where
  pub measured : Measured g binomials
  pub start_on : is_grid_point (shape g) start ≡ true
  -- the ways back round the blocks, and the size of each index's block
  pub below : IndicesBelow round.previous
  pub backward : (h : ℕ) → h < num_indices (shape g) → at round.previous h ≡ index_before (shape g) h
  pub block_sizes : (h : ℕ) → h < num_indices (shape g) → at round.sizes h ≡ size (shape g) (block_of (shape g) h)
  pub few : n ≤ 15

-- the first point and the order stay as they are
abbrev pub StaysAt : Held → Held → Type 0
StaysAt old new = (new.first ≡ old.first) × (new.order ≡ old.order)

-- T and U are the masks' sets, the coefficients held are the first point's, and each point has its mark: `bare_mark`,
-- or `mark_of` once its label is read
pub record Seen (p : Problem) (marking : Point → ℕ) (y : Point) (o : List ℕ) (held : Held) (t u : ℕ) : Type 0 where
  pub kept : is_kept p y o ≡ true
  pub in_t : (k : ℕ) → k < 16 → bit t k ≡ is_in eqb k o
  pub in_u : (k : ℕ) → k < 16 → bit u k ≡ is_in eqb k (zero_outside p.grid o y)
  pub list_long : length held.coefficients ≡ 16
  pub list_at : (k : ℕ) → k < num_indices p.grid → at held.coefficients k ≡ at (coefficients p y) k
  pub marks_long : length held.marks ≡ 16
  pub marked : (j : ℕ) → j ≤ length o → at held.marks j ≡ marking (get_or (kept_points p.grid y o) j [])

-- exactly where the conditions are met
abbrev pub Recognised : Problem → (Point → ℕ) → Point → List ℕ → Held → Option Sets → Type 0
Recognised p marking y o held None = is_kept p y o ≡ false
Recognised p marking y o held (Some sets) = Seen p marking y o held sets.t sets.u
