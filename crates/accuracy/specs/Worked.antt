-- The bounds worked out: points complete for a block over a game's labels, with the losses at one of them. Losses are
-- from 1 to R above it. Indices and blocks count from 0. Assumes nothing.
use Rattle.std.specs.Prelude.{List, [], ◌∷◌, ℕ}
use Rattle.game_built_in.specs.Tables.{losses2, sizes2}
use Rattle.grid_points.specs.Grid.{Grid, Point, lent}

pub record Row : Type 0 where
  pub grid : Grid
  pub losses : List ℕ
  pub range : ℕ
  pub points : List Point
  pub block : ℕ
  -- one of the points, and an index: p of its player, q of the index, and what the difference is at most
  pub point : Point
  pub index : ℕ
  pub player : ℕ
  pub replaced : ℕ
  pub allowed : ℕ
  pub widely : ℕ

abbrev pub row : List ℕ → List ℕ → List ℕ → ℕ → List Point → ℕ → Point → ℕ → ℕ → ℕ → ℕ → ℕ → Row
row sizes divisions losses range points block point index player replaced allowed widely = record {
  grid = lent sizes divisions;
  losses = losses;
  range = range;
  points = points;
  block = block;
  point = point;
  index = index;
  player = player;
  replaced = replaced;
  allowed = allowed;
  widely = widely;
}

abbrev pub table : List Row
table =
    -- the allowance is reached, by the player named, at a point whose label is of the block
    row (2 ∷ 2 ∷ []) (2 ∷ 2 ∷ [])
    (1 ∷ 1000 ∷ 1000 ∷ 1 ∷ 1 ∷ 430 ∷ 1 ∷ 952 ∷ []) 999
    ((2 ∷ 0 ∷ 0 ∷ 2 ∷ []) ∷ (2 ∷ 0 ∷ 1 ∷ 1 ∷ []) ∷ []) 0
    (2 ∷ 0 ∷ 0 ∷ 2 ∷ []) 1 4000 4 3996 9990
    -- and so again with twice the divisions
    ∷ row (2 ∷ 2 ∷ []) (4 ∷ 4 ∷ [])
    (1 ∷ 1000 ∷ 1000 ∷ 1 ∷ 1 ∷ 430 ∷ 1 ∷ 952 ∷ []) 999
    ((4 ∷ 0 ∷ 1 ∷ 3 ∷ []) ∷ (4 ∷ 0 ∷ 2 ∷ 2 ∷ []) ∷ []) 0
    (4 ∷ 0 ∷ 1 ∷ 3 ∷ []) 1 12004 4012 7992 19980
    -- at a point whose label is of the other block the other player gains more than the allowance
    ∷ row (2 ∷ 2 ∷ []) (1 ∷ 4 ∷ [])
    (999 ∷ 999 ∷ 999 ∷ 2 ∷ 500 ∷ 1000 ∷ 999 ∷ 1 ∷ []) 999
    ((0 ∷ 1 ∷ 4 ∷ 0 ∷ []) ∷ (1 ∷ 0 ∷ 4 ∷ 0 ∷ []) ∷ (1 ∷ 0 ∷ 3 ∷ 1 ∷ []) ∷ []) 0
    (0 ∷ 1 ∷ 4 ∷ 0 ∷ []) 3 4000 4 1998 10989
    -- half of three strategies is one
    ∷ row (3 ∷ 2 ∷ []) (3 ∷ 2 ∷ [])
    (1000 ∷ 2 ∷ 1 ∷ 999 ∷ 999 ∷ 1 ∷ 1000 ∷ 1000 ∷ 2 ∷ 2 ∷ 500 ∷ 999 ∷ []) 999
    ((1 ∷ 1 ∷ 1 ∷ 1 ∷ 1 ∷ []) ∷ (1 ∷ 0 ∷ 2 ∷ 1 ∷ 1 ∷ []) ∷ (1 ∷ 0 ∷ 2 ∷ 2 ∷ 0 ∷ []) ∷ (0 ∷ 1 ∷ 2 ∷ 2 ∷ 0 ∷ []) ∷ []) 1
    (1 ∷ 0 ∷ 2 ∷ 2 ∷ 0 ∷ []) 1 5996 6 3996 11988
    -- three players with unlike divisions
    ∷ row (2 ∷ 2 ∷ 2 ∷ []) (1 ∷ 2 ∷ 1 ∷ [])
    (1 ∷ 999 ∷ 1 ∷ 500 ∷ 1000 ∷ 1 ∷ 1000 ∷ 1000 ∷ 2 ∷ 500 ∷ 1 ∷ 999 ∷ 1000 ∷ 500 ∷ 1 ∷ 999 ∷ 999 ∷ 2 ∷ 2 ∷ 1000 ∷ 1 ∷
    1000 ∷ 2 ∷ 500 ∷ []) 999
    ((1 ∷ 0 ∷ 0 ∷ 2 ∷ 1 ∷ 0 ∷ []) ∷ (1 ∷ 0 ∷ 1 ∷ 1 ∷ 1 ∷ 0 ∷ []) ∷ (0 ∷ 1 ∷ 1 ∷ 1 ∷ 1 ∷ 0 ∷ []) ∷
    (0 ∷ 1 ∷ 1 ∷ 1 ∷ 0 ∷ 1 ∷ []) ∷ []) 0
    (0 ∷ 1 ∷ 1 ∷ 1 ∷ 1 ∷ 0 ∷ []) 0 2000 2 5994 13986
    -- one player: the allowance is 0, so the point is an equilibrium
    ∷ row (3 ∷ []) (2 ∷ [])
    (5 ∷ 3 ∷ 9 ∷ []) 999
    ((0 ∷ 2 ∷ 0 ∷ []) ∷ []) 0
    (0 ∷ 2 ∷ 0 ∷ []) 2 6 18 0 999
    -- game 2 with all d_j = 2, whose losses are from 1 to 9: its sheet prints these vertices, for its block 1
    ∷ row sizes2 (2 ∷ 2 ∷ 2 ∷ [])
    losses2 8
    ((2 ∷ 0 ∷ 0 ∷ 1 ∷ 1 ∷ 0 ∷ 2 ∷ 0 ∷ 0 ∷ []) ∷ (2 ∷ 0 ∷ 0 ∷ 0 ∷ 2 ∷ 0 ∷ 2 ∷ 0 ∷ 0 ∷ [])
    ∷ (1 ∷ 1 ∷ 0 ∷ 0 ∷ 2 ∷ 0 ∷ 2 ∷ 0 ∷ 0 ∷ []) ∷ (1 ∷ 1 ∷ 0 ∷ 0 ∷ 2 ∷ 0 ∷ 1 ∷ 0 ∷ 1 ∷ []) ∷ []) 0
    (1 ∷ 1 ∷ 0 ∷ 0 ∷ 2 ∷ 0 ∷ 2 ∷ 0 ∷ 0 ∷ []) 0 20 16 128 288
    ∷ []
