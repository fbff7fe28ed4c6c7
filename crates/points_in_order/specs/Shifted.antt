-- The points that follow one another where only the last two numbers change. Assumes nothing.
use Rattle.std.specs.Prelude.{[], ◌∷◌, ◌++◌, ℕ, ◌+◌, ◌-◌, length, take}
use Rattle.grid_points.specs.Grid.{Point, at}

-- the last number but one, and the last
abbrev pub last_but_one : Point → ℕ
last_but_one y = at y (length y - 2)

abbrev pub last_one : Point → ℕ
last_one y = at y (length y - 1)

-- the point with so much moved from the last number to the one before it
abbrev pub end_shifted : Point → ℕ → Point
end_shifted y by = take (length y - 2) y ++ ((last_but_one y + by) ∷ (last_one y - by) ∷ [])
