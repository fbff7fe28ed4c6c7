-- Request 11: distances worked out, on grids with unequal divisions. Assumes nothing.
use Rattle.std.specs.Prelude.{List, [], ◌∷◌, ℕ}
use Rattle.grid_points.specs.Grid.{Grid, Point, lent}

pub record Row : Type 0 where
  pub grid : Grid
  pub given : Point
  pub vertex : Point
  pub apart : ℕ

abbrev pub row : List ℕ → List ℕ → Point → Point → ℕ → Row
row sizes divisions given vertex apart =
    record { grid = lent sizes divisions; given = given; vertex = vertex; apart = apart }

abbrev pub table : List Row
table =
    -- D is 6: in block 1 1 and 1 times 3, in block 2 1 and 1 times 2
    row (2 ∷ 2 ∷ []) (2 ∷ 3 ∷ []) (2 ∷ 0 ∷ 0 ∷ 3 ∷ []) (1 ∷ 1 ∷ 1 ∷ 2 ∷ []) 10
    -- from w to w
    ∷ row (2 ∷ 2 ∷ []) (2 ∷ 3 ∷ []) (2 ∷ 0 ∷ 0 ∷ 3 ∷ []) (2 ∷ 0 ∷ 0 ∷ 3 ∷ []) 0
    -- D is 6: 1 and 1 times 6, 2 and 2 times 3, 2 and 2 times 2
    ∷ row (2 ∷ 2 ∷ 2 ∷ []) (1 ∷ 2 ∷ 3 ∷ []) (1 ∷ 0 ∷ 2 ∷ 0 ∷ 3 ∷ 0 ∷ []) (0 ∷ 1 ∷ 0 ∷ 2 ∷ 1 ∷ 2 ∷ []) 32
    -- one block: D / d_1 is 1
    ∷ row (3 ∷ []) (4 ∷ []) (4 ∷ 0 ∷ 0 ∷ []) (1 ∷ 1 ∷ 2 ∷ []) 6
    ∷ []
