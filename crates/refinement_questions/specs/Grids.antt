-- The grids that a refinement makes, one for each level. The promise of a refinement does not cite it. Assumes nothing.
use Rattle.std.specs.Prelude.{true, false, ◌≡◌, ℕ, ◌≤◌, ◌<◌, length, get_or, take}
use Rattle.grid_points.specs.Grid.{Grid, division}
use Rattle.grid.specs.Made.{grid_of, shape}
use Rattle.grid.specs.declared.Grid.{Grid as GridStruct}
use Rattle.refinement_levels.specs.Levels.{finer, grid_at, times}
use Rattle.refinement_levels.specs.Questions.{level_questions}
use Rattle.questions.specs.Questions.{first_no}
use Rattle.refinement_questions.specs.declared.grids.Divisions.{Divisions}
use Rattle.refinement_questions.specs.declared.grids.Grids.{Grids}

-- the divisions times k, where 16 bits hold them, and else one that they do not
pub record AreNext (grid : GridStruct) (k : ℕ) (r : Divisions) : Type 0 where
  pub whole : length r.numbers ≡ 6
  pub numbers : r.fit ≡ true → take grid.blocks r.numbers ≡ times k (shape grid).divisions
  pub large : r.fit ≡ false → (j : ℕ) × (60000 ≤ division (finer k (shape grid)) j)

-- the questions of all levels, and the grids where they are answered yes
pub record AreMade (g : Grid) (k levels : ℕ) (r : Grids) : Type 0 where
  pub code : r.code ≡ first_no (level_questions g k levels)
  pub grids : r.code ≡ 0 → (i : ℕ) → i < levels → (other : GridStruct)
      → get_or r.grids i other ≡ grid_of (grid_at g k i)
