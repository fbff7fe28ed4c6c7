-- The table of binomials by which a point's position is found. Assumes nothing.
use Rattle.std.specs.Prelude.{List, ◌≡◌, ℕ, zero, suc, ◌+◌, ◌-◌, ◌*◌, ◌≤◌, ◌<◌, get_or}
use Rattle.combinatorics.specs.Counting.{choose}
use Rattle.grid_points.specs.Grid.{Grid, num_blocks, size, division}
use Rattle.grid.specs.Made.{IsMade, shape}
use Rattle.grid.specs.declared.Grid.{Grid as GridStruct}

-- the table has rows 15 to 3, each for r up to 69, and then row 2 for r up to 344: no block that needs a row has a
-- greater division
abbrev pub InTable : ℕ → ℕ → Type 0
InTable k r = (2 ≤ k) × (k ≤ 15) × (r ≤ 344) × (3 ≤ k → r ≤ 69)

-- the entry for r in row k
abbrev pub IsBinomial : List ℕ → ℕ → ℕ → Type 0
IsBinomial t k r = get_or t ((15 - k) * 70 + r) 0 ≡ choose (r + k) k

-- the rows that a block of this size needs, as far as its division
abbrev pub HasRows : ℕ → ℕ → List ℕ → Type 0
HasRows size division t = (k r : ℕ) → 2 ≤ k → k < size → r ≤ division → IsBinomial t k r

-- what every block needs
pub record HasBinomials (g : Grid) (t : List ℕ) : Type 0 where
  pub rows : (j : ℕ) → j < num_blocks g → HasRows (size g j) (division g j) t

-- a grid that was made, with its binomials: the position of every grid point can be found
pub record Measured (g : GridStruct) (t : List ℕ) : Type 0 where
  pub made : IsMade g
  pub filled : HasBinomials (shape g) t

-- an entry that was right is right
pub record Keeps (old new : List ℕ) : Type 0 where
  pub right : (k r : ℕ) → InTable k r → IsBinomial old k r → IsBinomial new k r

-- how many lists of k numbers add up to x, which is not 0
abbrev pub lists : ℕ → ℕ → ℕ
lists zero x = 0
lists (suc k) x = choose (x + k) k
