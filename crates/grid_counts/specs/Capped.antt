-- Numbers of points that are counted no further than is needed to refuse a grid. Assumes nothing.
use Rattle.std.specs.Prelude.{◌≡◌, List, ℕ, ◌+◌, ◌≤◌, min, get_or}
use Rattle.combinatorics.specs.Counting.{choose}

-- "Is P at most 60,000?": a larger number counts as 60,001
abbrev pub capped : ℕ → ℕ
capped n = min n 60001

-- the binomials r + k choose k for k up to last, capped
abbrev pub IsRow : ℕ → ℕ → List ℕ → Type 0
IsRow r last row = (k : ℕ) → k ≤ last → get_or row k 0 ≡ capped (choose (r + k) k)
