-- Document 01's questions 1 to 3 worked out on small grids, each with what it breaks first, and P and the bound of the
-- grids that pass. Question 4 is put after them. Assumes nothing.
use Rattle.std.specs.Prelude.{List, [], ◌∷◌, ℕ}
use Rattle.questions.specs.Questions.{first_no}
use Rattle.grid_points.specs.Grid.{Grid, bound, lent, num_points}
use Rattle.grid_points.specs.Questions.{grid_questions}

-- the number that refuses the grid, or 0; P; the bound
pub record Row : Type 0 where
  pub grid : Grid
  pub numbers : List ℕ

abbrev pub row : List ℕ → List ℕ → List ℕ → Row
row sizes divisions numbers = record { grid = lent sizes divisions; numbers = numbers }

abbrev pub given : Row → List ℕ
given r = first_no (grid_questions r.grid) ∷ num_points r.grid ∷ bound r.grid ∷ []

abbrev pub table : List Row
table =
    -- document 01's sheet, "bound 68": 4 (1 + 4 + 4 3)
    row (2 ∷ 2 ∷ []) (1 ∷ 1 ∷ []) (0 ∷ 4 ∷ 68 ∷ [])
    -- 6 (1 + 3 + 3 2)
    ∷ row (3 ∷ []) (2 ∷ []) (0 ∷ 6 ∷ 60 ∷ [])
    -- no block; one point, the empty one
    ∷ row [] [] (1 ∷ 1 ∷ 1 ∷ [])
    -- a block of one index, and no division: 2 is asked before 3
    ∷ row (1 ∷ []) [] (2 ∷ 0 ∷ 0 ∷ [])
    -- 17 indices
    ∷ row (9 ∷ 8 ∷ []) (0 ∷ []) (2 ∷ 0 ∷ 0 ∷ [])
    -- one division for two blocks
    ∷ row (2 ∷ 2 ∷ []) (1 ∷ []) (3 ∷ 0 ∷ 0 ∷ [])
    -- a division of 0; one point, and a bound of 1 (1 + 2)
    ∷ row (2 ∷ []) (0 ∷ []) (3 ∷ 1 ∷ 3 ∷ [])
    ∷ []
