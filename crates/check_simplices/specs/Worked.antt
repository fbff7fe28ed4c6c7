-- Request 07 worked out: small sheets with their answers, blocks from 0. Assumes nothing.
use Rattle.std.specs.Prelude.{List, [], ◌∷◌, ℕ}
use Rattle.std.proofs.Math.Option.{Option, none, some}
use Rattle.grid_points.specs.Grid.{Grid, Point, lent}

pub record Row : Type 0 where
  pub grid : Grid
  pub labels : List ℕ
  pub points : List Point
  pub answer : Option ℕ

abbrev pub row : List ℕ → List ℕ → List ℕ → List Point → Option ℕ → Row
row sizes divisions labels points answer =
    record { grid = lent sizes divisions; labels = labels; points = points; answer = answer }

abbrev pub table : List Row
table =
    -- hand-001: a repeated point is no
    row (2 ∷ 2 ∷ []) (1 ∷ 1 ∷ []) (3 ∷ 1 ∷ 1 ∷ 4 ∷ [])
    ((1 ∷ 0 ∷ 1 ∷ 0 ∷ []) ∷ (1 ∷ 0 ∷ 0 ∷ 1 ∷ []) ∷ (1 ∷ 0 ∷ 1 ∷ 0 ∷ []) ∷ []) none
    -- hand-005: label 0 stands for no index
    ∷ row (2 ∷ []) (1 ∷ []) (2 ∷ 0 ∷ []) ((0 ∷ 1 ∷ []) ∷ (1 ∷ 0 ∷ []) ∷ []) none
    -- hand-007: label 0 on a listed point that is not needed
    ∷ row (2 ∷ 2 ∷ []) (1 ∷ 1 ∷ []) (0 ∷ 2 ∷ 1 ∷ 1 ∷ [])
    ((0 ∷ 1 ∷ 1 ∷ 0 ∷ []) ∷ (0 ∷ 1 ∷ 0 ∷ 1 ∷ []) ∷ (1 ∷ 0 ∷ 1 ∷ 0 ∷ []) ∷ []) (some 0)
    -- hand-009: one point whose label is an index where it is 0
    ∷ row (2 ∷ 2 ∷ []) (1 ∷ 1 ∷ []) (3 ∷ 3 ∷ 3 ∷ 4 ∷ []) ((1 ∷ 0 ∷ 0 ∷ 1 ∷ []) ∷ []) none
    -- hand-011: no index of the block is 0 at both points
    ∷ row (3 ∷ []) (2 ∷ []) (1 ∷ 1 ∷ 1 ∷ 1 ∷ 3 ∷ 1 ∷ []) ((2 ∷ 0 ∷ 0 ∷ []) ∷ (1 ∷ 1 ∷ 0 ∷ []) ∷ []) none
    -- hand-015: three steps apart with nothing listed between, complete by U
    ∷ row (4 ∷ []) (1 ∷ []) (4 ∷ 3 ∷ 2 ∷ 1 ∷ []) ((1 ∷ 0 ∷ 0 ∷ 0 ∷ []) ∷ (0 ∷ 0 ∷ 0 ∷ 1 ∷ []) ∷ []) (some 0)
    -- coefficients 0 and 2 are no neighbours' coefficients
    ∷ row (2 ∷ []) (2 ∷ []) (2 ∷ 1 ∷ 1 ∷ []) ((2 ∷ 0 ∷ []) ∷ (0 ∷ 2 ∷ []) ∷ []) none
    -- each point is nested with the next, and two are not nested
    ∷ row (2 ∷ 2 ∷ []) (1 ∷ 1 ∷ []) (1 ∷ 2 ∷ 3 ∷ 4 ∷ [])
    ((1 ∷ 0 ∷ 1 ∷ 0 ∷ []) ∷ (0 ∷ 1 ∷ 1 ∷ 0 ∷ []) ∷ (0 ∷ 1 ∷ 0 ∷ 1 ∷ []) ∷ (1 ∷ 0 ∷ 0 ∷ 1 ∷ []) ∷ []) none
    -- complete for two blocks: the first counts
    ∷ row (2 ∷ 2 ∷ 2 ∷ []) (1 ∷ 1 ∷ 1 ∷ []) (3 ∷ 4 ∷ 1 ∷ 5 ∷ 1 ∷ 1 ∷ 1 ∷ 6 ∷ [])
    ((0 ∷ 1 ∷ 0 ∷ 1 ∷ 0 ∷ 1 ∷ []) ∷ (0 ∷ 1 ∷ 0 ∷ 1 ∷ 1 ∷ 0 ∷ []) ∷ (0 ∷ 1 ∷ 1 ∷ 0 ∷ 1 ∷ 0 ∷ [])
    ∷ (1 ∷ 0 ∷ 1 ∷ 0 ∷ 1 ∷ 0 ∷ []) ∷ [])
    (some 1)
    -- part-001: a part of a simplex over two blocks
    ∷ row (2 ∷ 3 ∷ []) (1 ∷ 2 ∷ []) (3 ∷ 4 ∷ 4 ∷ 5 ∷ 1 ∷ 4 ∷ 2 ∷ 1 ∷ 3 ∷ 4 ∷ 1 ∷ 2 ∷ [])
    ((1 ∷ 0 ∷ 1 ∷ 1 ∷ 0 ∷ []) ∷ (1 ∷ 0 ∷ 1 ∷ 0 ∷ 1 ∷ []) ∷ []) (some 0)
    -- worked-001: a marked end of document 01
    ∷ row (2 ∷ []) (1 ∷ []) (2 ∷ 2 ∷ []) ((0 ∷ 1 ∷ []) ∷ []) (some 0)
    -- worked-003: a marked end of document 01
    ∷ row (3 ∷ []) (3 ∷ []) (1 ∷ 1 ∷ 1 ∷ 1 ∷ 1 ∷ 1 ∷ 1 ∷ 1 ∷ 1 ∷ 1 ∷ []) ((3 ∷ 0 ∷ 0 ∷ []) ∷ []) (some 0)
    -- worked-005: a marked end of document 01
    ∷ row (2 ∷ 2 ∷ []) (1 ∷ 1 ∷ []) (3 ∷ 1 ∷ 2 ∷ 4 ∷ [])
    ((1 ∷ 0 ∷ 1 ∷ 0 ∷ []) ∷ (1 ∷ 0 ∷ 0 ∷ 1 ∷ []) ∷ (0 ∷ 1 ∷ 0 ∷ 1 ∷ []) ∷ []) (some 1)
    ∷ []
