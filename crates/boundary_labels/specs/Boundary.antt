-- Request 12, "The older boundary rule": the label of a boundary point by rule (1.3), and the table that has it on the
-- boundary and the old labels in the interior. Indices count from 0 here, and a label is one more than its index.
-- Assumes nothing.
use Rattle.std.specs.Prelude.{Bool, ◌&&◌, cond, List, map, ℕ, suc, eqb, ltb, get_or}
use Rattle.combinatorics.specs.Lists.{all, filter, first_or}
use Rattle.grid_points.specs.Grid.{Grid, Point, at, indices, points, position, previous}

-- an interior point has no 0, in any block; the others are "boundary points"
unfoldable pub is_interior : Point → Bool
is_interior y = all (λ x. ltb 0 x) y

-- "y_h = 0 and the number before it, round the block, positive"
unfoldable pub is_zero_behind_positive : Grid → Point → ℕ → Bool
is_zero_behind_positive g y h = eqb (at y h) 0 && ltb 0 (at y (previous g h))

-- "the first index h": over all indices, so over the blocks in order
unfoldable pub boundary_index : Grid → Point → ℕ
boundary_index g y = first_or 0 (filter (is_zero_behind_positive g y) (indices g))

-- "the label of rule (1.3)"
abbrev pub boundary_label : Grid → Point → ℕ
boundary_label g y = suc (boundary_index g y)

-- the byte of a point in a table
abbrev pub byte_of : Grid → List ℕ → Point → ℕ
byte_of g table y = get_or table (position g y) 0

-- "interior labels are the old ones", 0 too; "boundary points have the label of rule (1.3)"
unfoldable pub new_label : Grid → List ℕ → Point → ℕ
new_label g old y = cond (is_interior y) (byte_of g old y) (boundary_label g y)

-- "writes a table": one byte per point, in the order of the points
unfoldable pub boundary_table : Grid → List ℕ → List ℕ
boundary_table g old = map (new_label g old) (points g)
