-- The differences at a point out of those at its corners: the points with one strategy in place of the last player's
-- mix. Losses are linear in that mix, so they are weighed once for all points that differ only there. The promises of a
-- labelling do not cite this. Assumes nothing.
use Rattle.std.specs.Prelude.{cond, List, [], ◌∷◌, ◌++◌, ◌≡◌, ℕ, suc, ◌+◌, ◌-◌, ◌*◌, ◌≤◌, ◌<◌, eqb, ℤ, pos, nat_abs, ◌+ℤ◌, ◌*ℤ◌, length, get_or, take, set, replicate}
use Rattle.grid_points.specs.Grid.{Grid, Point, at, num_blocks, num_indices, size, first_index, lent}
use Rattle.game_weighed.specs.Levels.{place, StandTo, Owners}
use Rattle.game_losses.specs.Game.{difference}
use Rattle.game_losses.specs.Table.{IsTable}
use Rattle.points_in_order.specs.Lent.{PointWithFirsts}

-- the sum of the integers f 0, f 1, .. weighed by a mix
abbrev pub blend_ℤ : List ℕ → (ℕ → ℤ) → ℤ
blend_ℤ [] f = pos 0
blend_ℤ (x ∷ mix) f = pos x *ℤ f 0 +ℤ blend_ℤ mix (λ k. f (suc k))

abbrev pub signed_at : List ℤ → ℕ → ℤ
signed_at l i = get_or l i (pos 0)

-- rows of 16 integers stand one behind the other: what stands at place h of the rows, weighed by the mix
abbrev pub column : List ℕ → List ℤ → ℕ → ℤ
column mix rows h = blend_ℤ mix (λ k. signed_at rows (k * 16 + h))

-- the numbers at the first m places of the first n rows are less than 2^32 away from 0
abbrev pub Low : ℕ → ℕ → List ℤ → Type 0
Low n m rows = (k h : ℕ) → k < n → h < m → nat_abs (signed_at rows (k * 16 + h)) < 4294967296

abbrev pub last_player : Grid → ℕ
last_player g = num_blocks g - 1

-- s numbers, 1 at place k and 0 at the others
abbrev pub unit_vector : ℕ → ℕ → List ℕ
unit_vector s k = set (replicate s 0) k 1

-- the point with strategy k in place of the last player's mix
abbrev pub corner : Grid → Point → ℕ → Point
corner g y k = take (first_index g (last_player g)) y ++ unit_vector (size g (last_player g)) k

-- the grid with 1 as the last division, whose points the corners are
abbrev pub corner_grid : Grid → Grid
corner_grid g = lent g.sizes (set g.divisions (last_player g) 1)

-- there is a corner for each of the last player's strategies
abbrev pub num_corners : Grid → ℕ
num_corners g = size g (last_player g)

-- the number that is picked from the last level for index h where the last player takes strategy k
abbrev pub picked_at : List ℕ → List ℕ → ℕ → ℕ → ℕ → ℕ
picked_at owners levels last k h = at levels (place last h + cond (eqb (at owners h) last) 0 k)

-- the differences at the first n corners: row k of the table has those at corner k
pub record Cornered (g : Grid) (losses : List ℕ) (y : Point) (n : ℕ) (differences : List ℤ) : Type 0 where
  pub difference_at : (k h : ℕ) → k < n → h < num_indices g
      → signed_at differences (k * 16 + h) ≡ difference g losses (corner g y k) h
  pub low : Low n (num_indices g) differences

-- a game with the corners of a point and its tables up to the last level
pub record CornersToWeigh (g : Grid) (firsts owners losses : List ℕ) (y : Point) (levels : List ℕ)
    (differences : List ℤ) : Type 0 where
  pub some : 1 ≤ num_blocks g
  pub table : IsTable g losses
  pub owned : Owners g owners
  pub stand : StandTo g losses y (last_player g) levels
  pub points : (k : ℕ) → k < num_corners g → PointWithFirsts g firsts (corner g y k)
  pub whole : length y ≡ num_indices g
  pub numbers : length levels ≡ 15552
  pub rows : length differences ≡ 256

-- rows, a number of the mix for each, whose sums fit 64 bits
pub record RowsToAdd (mix : List ℕ) (rows : List ℤ) (count : ℕ) : Type 0 where
  pub few_rows : length mix ≤ 16
  pub few : count ≤ 16
  pub whole : length rows ≡ 256
  pub low : Low (length mix) count rows

-- totals to which x times a row is added, and the sums fit 64 bits
pub record RowToAdd (totals : List ℤ) (x : ℤ) (row : List ℤ) (count : ℕ) : Type 0 where
  pub sixteen : length totals ≡ 16
  pub few : count ≤ 16
  pub inside : count ≤ length row
  pub fits : (h : ℕ) → h < count → nat_abs (signed_at totals h) + nat_abs x * nat_abs (signed_at row h) < 9223372036854775808
