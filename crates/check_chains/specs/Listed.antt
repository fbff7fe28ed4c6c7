-- Points as a call is lent them, their numbers one after another, and their sets. Assumes nothing.
use Rattle.std.specs.Prelude.{true, false, Option, Some, None, List, map, ◌≡◌, ℕ, ◌*◌, ◌≤◌, ◌<◌, length, take, drop}
use Rattle.combinatorics.specs.Lists.{all, up_from}
use Rattle.grid_points.specs.Grid.{Point, at, num_indices, is_grid_point}
use Rattle.grid.specs.Made.{shape, IsMade}
use Rattle.grid.specs.declared.Grid.{Grid as GridStruct}
use Rattle.check_simplices.specs.Chains.{coefficients_from, zero_or_one}
use Rattle.check_chains.specs.Sets.{IsSet}

-- "points of m numbers": the k-th of them, counted from 0
abbrev pub listed_at : ℕ → List ℕ → ℕ → Point
listed_at m numbers k = take m (drop (k * m) numbers)

-- the first `count` of them
abbrev pub listed : ℕ → ℕ → List ℕ → List Point
listed m count numbers = map (listed_at m numbers) (up_from 0 count)

-- a grid that is made, and as many numbers as some points have
pub record HasPoints (g : GridStruct) (count : ℕ) (numbers : List ℕ) : Type 0 where
  pub made : IsMade g
  pub few : count ≤ 16
  pub whole : count * g.indices ≤ length numbers

-- and the points are the grid's
pub record Listed (g : GridStruct) (count : ℕ) (numbers : List ℕ) : Type 0 where
  pub has : HasPoints g count numbers
  pub on_grid : all (is_grid_point (shape g)) (listed g.indices count numbers) ≡ true

-- the sets of the first points, with p as the start
abbrev pub AreSets : GridStruct → Point → List ℕ → ℕ → List ℕ → Type 0
AreSets g p numbers count sets = (k : ℕ) → k < count
    → IsSet (num_indices (shape g)) (coefficients_from (shape g) p (listed_at g.indices numbers k)) (at sets k)

-- the sets of all points, if all have one
abbrev pub FoundSets : GridStruct → Point → List ℕ → ℕ → Option (List ℕ) → Type 0
FoundSets g p numbers count None =
    all (λ z. zero_or_one (shape g) (coefficients_from (shape g) p z)) (listed g.indices count numbers) ≡ false
FoundSets g p numbers count (Some sets) =
    (all (λ z. zero_or_one (shape g) (coefficients_from (shape g) p z)) (listed g.indices count numbers) ≡ true)
    × AreSets g p numbers count sets
