-- How the constructor puts a grid together: the arrays about the blocks, and those about the indices. Assumes nothing.
use Rattle.std.specs.Prelude.{List, map, ◌≡◌, ℕ, replicate}
use Rattle.questions.specs.Questions.{first_no}
use Rattle.grid_points.specs.Grid.{Grid, num_blocks, first_index, blocks, indices, block_of, block_count}
use Rattle.grid_points.specs.Grid.{next as after, previous as before}
use Rattle.combinatorics.specs.Front.{padded}
use Rattle.grid.specs.Made.{grid_of}
use Rattle.grid_points.specs.Questions.{grid_questions}

-- the arrays about the blocks before they are filled,
pub record BlocksUnmarked (sizes divisions firsts counts : List ℕ) : Type 0 where
  pub sizes_zero : sizes ≡ replicate 6 0
  pub divisions_zero : divisions ≡ replicate 6 0
  pub firsts_zero : firsts ≡ replicate 6 0
  pub counts_zero : counts ≡ replicate 6 0

-- and after
pub record BlocksMarked (g : Grid) (sizes divisions firsts counts : List ℕ) : Type 0 where
  pub sizes_are : sizes ≡ padded 6 g.sizes
  pub divisions_are : divisions ≡ padded 6 g.divisions
  pub firsts_are : firsts ≡ padded 6 (map (first_index g) (blocks g))
  pub counts_are : counts ≡ padded 6 (map (block_count g) (blocks g))

-- the counts that an accepted grid has in its struct, and the number of its blocks
pub record BlocksCounted (g : Grid) (counts : List ℕ) (number : ℕ) : Type 0 where
  pub accepted : first_no (grid_questions g) ≡ 0
  pub counts_are : counts ≡ (grid_of g).counts
  pub number_is : number ≡ num_blocks g

-- the arrays about the indices before they are filled,
pub record IndicesUnmarked (block previous next : List ℕ) : Type 0 where
  pub block_zero : block ≡ replicate 16 0
  pub previous_zero : previous ≡ replicate 16 0
  pub next_zero : next ≡ replicate 16 0

-- and after
pub record IndicesMarked (g : Grid) (block previous next : List ℕ) : Type 0 where
  pub block_is : block ≡ padded 16 (map (block_of g) (indices g))
  pub previous_is : previous ≡ padded 16 (map (before g) (indices g))
  pub next_is : next ≡ padded 16 (map (after g) (indices g))
