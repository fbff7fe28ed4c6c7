-- Request 11: the distance of two grid points. Assumes nothing.
use Rattle.std.specs.Prelude.{not, map, ℕ, ◌*◌, eqb}
use Rattle.combinatorics.specs.Counting.{apart}
use Rattle.combinatorics.specs.Lists.{filter, sum}
use Rattle.grid_points.specs.Grid.{Grid, Point, at, block_of, blocks, division, indices}
use Rattle.game_losses.specs.Game.{product}

-- "D being the product of the divisions"
abbrev pub all_divisions : Grid → ℕ
all_divisions g = product g.divisions

-- "(D / d_j)": the product of the other divisions
unfoldable pub other_divisions : Grid → ℕ → ℕ
other_divisions g j = product (map (division g) (filter (λ i. not (eqb i j)) (blocks g)))

-- "the sum over all indices of the absolute coordinate difference times (D / d_j)"
unfoldable pub distance : Grid → Point → Point → ℕ
distance g w y = sum (map (λ h. apart (at y h) (at w h) * other_divisions g (block_of g h)) (indices g))
