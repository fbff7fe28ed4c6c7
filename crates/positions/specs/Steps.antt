-- A grid point as another point's coordinates and a count of the steps from there. Assumes nothing.
use Rattle.std.specs.Prelude.{List, map, ℕ, ◌+◌, ◌-◌, ◌≤◌, ◌<◌}
use Rattle.combinatorics.specs.Lists.{up_from}
use Rattle.grid_points.specs.Grid.{at}

-- the 16 coordinates of y after its steps: each count begins at 16, so that it does not fall below 0 where steps take
-- from the coordinate
unfoldable pub after_steps : List ℕ → List ℕ → List ℕ
after_steps y steps = map (λ k. at y k + at steps k - 16) (up_from 0 16)

-- the steps take no more from the first m coordinates than those have
abbrev pub CanTakeSteps : ℕ → List ℕ → List ℕ → Type 0
CanTakeSteps m y steps = (k : ℕ) → k < m → 16 ≤ at y k + at steps k
