-- Request 12 worked out: small tables, old and new. Assumes nothing.
use Rattle.std.specs.Prelude.{List, [], ◌∷◌, ℕ}
use Rattle.grid_points.specs.Grid.{Grid, lent}

pub record Row : Type 0 where
  pub grid : Grid
  pub old : List ℕ
  pub new : List ℕ

abbrev pub row : List ℕ → List ℕ → List ℕ → List ℕ → Row
row sizes divisions old new = record { grid = lent sizes divisions; old = old; new = new }

abbrev pub table : List Row
table =
    -- 0 1 has label 1, round the block, and 1 0 has 2
    row (2 ∷ []) (1 ∷ []) (2 ∷ 1 ∷ []) (1 ∷ 2 ∷ [])
    -- 1 1, inside, keeps its 0
    ∷ row (2 ∷ []) (2 ∷ []) (2 ∷ 0 ∷ 0 ∷ []) (1 ∷ 0 ∷ 2 ∷ [])
    -- 0 0 3 has 1; 0 1 2 has 1; 0 3 0 has 3, which is not its first 0; 3 0 0 has 2; 1 1 1, inside, keeps its 3
    ∷ row (3 ∷ []) (3 ∷ []) (3 ∷ 3 ∷ 3 ∷ 3 ∷ 3 ∷ 3 ∷ 3 ∷ 3 ∷ 3 ∷ 3 ∷ []) (1 ∷ 1 ∷ 1 ∷ 3 ∷ 2 ∷ 3 ∷ 3 ∷ 2 ∷ 3 ∷ 2 ∷ [])
    -- the blocks in order, and a 0 in any block: 1 1 | 0 1 has 3 and 0 2 | 0 1 has 1
    ∷ row (2 ∷ 2 ∷ []) (2 ∷ 1 ∷ []) (4 ∷ 4 ∷ 4 ∷ 4 ∷ 4 ∷ 4 ∷ []) (1 ∷ 1 ∷ 3 ∷ 4 ∷ 2 ∷ 2 ∷ [])
    ∷ []
