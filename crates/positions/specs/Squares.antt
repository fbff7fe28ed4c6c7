-- When the positions of the corners of a square of two steps add up. Assumes nothing.
use Rattle.std.specs.Prelude.{◌⊎◌, ◌≡◌, ℕ, ◌≤◌, ◌<◌}
use Rattle.grid_points.specs.Grid.{Grid, block_of}

-- two steps, to h from c and to k from e, are in two blocks; or each takes from an index before the one it gives to,
-- and one ends no later than the other begins
abbrev pub Apart : Grid → ℕ → ℕ → ℕ → ℕ → Type 0
Apart g h c k e = (block_of g h ≡ block_of g k → ⊥) ⊎ ((c < h) × (e < k) × ((h ≤ e) ⊎ (k ≤ c)))
