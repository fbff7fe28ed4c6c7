-- The losses of a strategy weighed by the mixes of the blocks before one: tables that a labelling keeps, level by
-- level, so that a new point costs only the levels behind the first block that it changes. The promises of a labelling
-- do not cite this. Assumes nothing.
use Rattle.std.specs.Prelude.{true, cond, List, [], ◌∷◌, map, ◌≡◌, ℕ, suc, ◌+◌, ◌-◌, ◌*◌, ◌≤◌, ◌<◌, eqb, length}
use Rattle.combinatorics.specs.Lists.{all, up_from}
use Rattle.grid_points.specs.Grid.{Grid, Point, at, num_blocks, num_indices, size, first_index, block_of, lent}
use Rattle.points_in_order.specs.Lent.{WithFirsts, PointWithFirsts}
use Rattle.game_losses.specs.Game.{product, mix}
use Rattle.game_losses.specs.Table.{in_range, IsTable}
use Rattle.game_losses.specs.Weights.{weights}
use Rattle.game_weighed.specs.declared.game.Game.{Game}

-- the grid of a game that is lent
abbrev pub game_grid : Game → Grid
game_grid game = lent game.sizes.now game.divisions.now

-- the sum of f 0, f 1, .. weighed by a mix
abbrev pub blend : List ℕ → (ℕ → ℕ) → ℕ
blend [] f = 0
blend (x ∷ mix) f = x * f 0 + blend mix (λ k. f (suc k))

-- in the tables of player j the own block has one strategy, which is certain
abbrev pub size_against : Grid → ℕ → ℕ → ℕ
size_against g j i = cond (eqb i j) 1 (size g i)

abbrev pub mix_against : Grid → Point → ℕ → ℕ → List ℕ
mix_against g y j i = cond (eqb i j) (1 ∷ []) (mix g y i)

-- how many profiles the opponents of player j have from block l on
unfoldable pub behind : Grid → ℕ → ℕ → ℕ
behind g j l = product (map (size_against g j) (up_from l (num_blocks g - l)))

-- "player by player, then by own strategy": where the losses of index h begin in the loss table
unfoldable pub losses_begin : Grid → ℕ → ℕ
losses_begin g h = let j = block_of g h in j * product g.sizes + (h - first_index g j) * behind g j 0

-- number e of index h's table at level l: its losses weighed by the mixes of the opponents before block l
unfoldable pub levelled : Grid → List ℕ → Point → ℕ → ℕ → ℕ → ℕ
levelled g losses y h l e =
    let j = block_of g h in
    blend (weights (map (mix_against g y j) (up_from 0 l))) (λ i. at losses (losses_begin g h + (i * behind g j l + e)))

-- where the table of index h at level l stands: no table has more than 162 numbers
abbrev pub place : ℕ → ℕ → ℕ
place l h = (l * 16 + h) * 162

-- the tables of level l of the indices before n
abbrev pub Stand : Grid → List ℕ → Point → ℕ → ℕ → List ℕ → Type 0
Stand g losses y l n levels =
    (h e : ℕ) → h < n → e < behind g (block_of g h) l → at levels (place l h + e) ≡ levelled g losses y h l e

-- the tables of all levels up to l
abbrev pub StandTo : Grid → List ℕ → Point → ℕ → List ℕ → Type 0
StandTo g losses y l levels = (i : ℕ) → i ≤ l → Stand g losses y i (num_indices g) levels

-- an array with the block of each index
abbrev pub Owners : Grid → List ℕ → Type 0
Owners g owners = (h : ℕ) → h < num_indices g → at owners h ≡ block_of g h

-- an array with the numbers of profiles behind a block, six for each level
abbrev pub Rests : Grid → List ℕ → Type 0
Rests g rests = (l j : ℕ) → l < 6 → j < 6 → at rests (l * 6 + j) ≡ behind g j l

-- f 0, .., f (n - 1) are written from place to on, and nothing before it changes
pub record Written (old : List ℕ) (to n : ℕ) (f : ℕ → ℕ) (new : List ℕ) : Type 0 where
  pub done : (e : ℕ) → e < n → at new (to + e) ≡ f e
  pub kept : (i : ℕ) → i < to → at new i ≡ at old i

-- the numbers that stand step apart, one for each number of the mix, and their sum fits
pub record Spaced (mix values : List ℕ) (step : ℕ) : Type 0 where
  pub two : 2 ≤ length mix
  pub inside : (k : ℕ) → k < length mix → k * step < length values
  pub fits : blend mix (λ k. at values (k * step)) < 4294967296

-- a table's number e on the next level, where rest numbers are left for each strategy of the block weighed
abbrev pub weighed_at : List ℕ → List ℕ → ℕ → ℕ → ℕ → ℕ
weighed_at mix levels from rest e = blend mix (λ k. at levels (from + (k * rest + e)))

-- a table in the array, with room for the next one behind it, whose sums fit
pub record TableToWeigh (mix levels : List ℕ) (from to rest : ℕ) : Type 0 where
  pub two : 2 ≤ length mix
  pub before : from + length mix * rest ≤ to
  pub inside : to + rest ≤ length levels
  pub fits : (e : ℕ) → e < rest → weighed_at mix levels from rest e < 4294967296

-- the number e of index h's table on the next level: the own block changes nothing
abbrev pub next_at : ℕ → List ℕ → List ℕ → ℕ → ℕ → ℕ → ℕ → ℕ
next_at owner mix levels l h rest e =
    cond (eqb owner l) (at levels (place l h + e)) (weighed_at mix levels (place l h) rest e)

-- an index whose table on the next level is to be written
pub record IndexToWeigh (owner : ℕ) (mix levels : List ℕ) (l h rest : ℕ) : Type 0 where
  pub low : l < 5
  pub few : h < 16
  pub whole : length levels ≡ 15552
  pub two : 2 ≤ length mix
  pub short : rest ≤ 162
  pub row : (owner ≡ l → ⊥) → length mix * rest ≤ 162
  pub fits : (e : ℕ) → e < rest → next_at owner mix levels l h rest e < 4294967296

-- how many numbers index h's table has on the level behind l
abbrev pub rest_at : List ℕ → List ℕ → ℕ → ℕ → ℕ
rest_at owners rests l h = at rests ((l + 1) * 6 + at owners h)

-- the tables of n indices that are to be written
abbrev pub LevelToWeigh : List ℕ → List ℕ → List ℕ → ℕ → ℕ → List ℕ → Type 0
LevelToWeigh owners rests mix l n levels = (n ≤ 16) × (length levels ≡ 15552)
    × ((h : ℕ) → h < n → (at owners h < 6) × IndexToWeigh (at owners h) mix levels l h (rest_at owners rests l h))

-- the tables of the first n indices on the level behind l are written, and nothing before that level changes
pub record LevelWeighed (owners rests mix : List ℕ) (l n : ℕ) (old new : List ℕ) : Type 0 where
  pub done : (h e : ℕ) → h < n → e < rest_at owners rests l h
      → at new (place (l + 1) h + e) ≡ next_at (at owners h) mix old l h (rest_at owners rests l h) e
  pub kept : (i : ℕ) → i < place (l + 1) 0 → at new i ≡ at old i

-- a game whose tables stand up to a level at a point
pub record LevelsAt (g : Grid) (firsts owners rests losses : List ℕ) (y : Point) (l : ℕ)
    (levels : List ℕ) : Type 0 where
  pub point : PointWithFirsts g firsts y
  pub owned : Owners g owners
  pub rested : Rests g rests
  pub range : all in_range losses ≡ true
  pub whole : length levels ≡ 15552
  pub stand : StandTo g losses y l levels

-- a loss table that is to be loaded
pub record TableToLoad (g : Grid) (firsts owners rests losses : List ℕ) (count : ℕ) (levels : List ℕ) : Type 0 where
  pub grid : WithFirsts g firsts
  pub owned : Owners g owners
  pub rested : Rests g rests
  pub table : IsTable g losses
  pub is_count : count ≡ product g.sizes
  pub whole : length levels ≡ 15552
