-- Document 01, "Games". The players are the grid's blocks and their strategies the blocks' indices, which count from 0
-- here. Losses are multiplied by the product of all divisions, so that they are whole numbers. Assumes nothing.
use Rattle.std.specs.Prelude.{not, cond, List, [], ◌∷◌, map, ℕ, suc, ◌+◌, ◌*◌, eqb, ℤ, pos, ◌-ℤ◌, take, drop}
use Rattle.std.specs.Int.Signed.{lt_z}
use Rattle.combinatorics.specs.Lists.{all, concat_map, filter, first_or, up_from}
use Rattle.grid_points.specs.Grid.{Grid, Point, at, size, division, block_of, blocks, indices, indices_of, points}

abbrev pub product : List ℕ → ℕ
product [] = 1
product (x ∷ xs) = x * product xs

-- the sum of the products of two lists, entry by entry
abbrev pub dot : List ℕ → List ℕ → ℕ
dot [] ys = 0
dot (x ∷ xs) [] = 0
dot (x ∷ xs) (y ∷ ys) = x * y + dot xs ys

-- a strategy of each of some players, "in lexicographic order", given the numbers of their strategies
abbrev pub profiles : List ℕ → List (List ℕ)
profiles [] = [] ∷ []
profiles (s ∷ ss) = concat_map (λ k. map (λ l. k ∷ l) (profiles ss)) (up_from 0 s)

-- the opponents of player j
abbrev pub opponents : Grid → ℕ → List ℕ
opponents g j = filter (λ i. not (eqb i j)) (blocks g)

-- "by own strategy, then by the opponents' strategies": player j in front of the opponents
abbrev pub own_first : Grid → ℕ → List ℕ
own_first g j = j ∷ opponents g j

-- "A loss table goes player by player": the losses of player j
abbrev pub losses_of : Grid → List ℕ → ℕ → List ℕ
losses_of g losses j = let count = product g.sizes in take count (drop (j * count) losses)

-- the mix of player j at the point y, multiplied by d_j
abbrev pub mix : Grid → Point → ℕ → List ℕ
mix g y j = map (at y) (indices_of g j)

-- the product of the mixes at a profile
abbrev pub chance : List (List ℕ) → List ℕ → ℕ
chance [] ks = 1
chance (x ∷ xs) [] = 1
chance (x ∷ xs) (k ∷ ks) = at x k * chance xs ks

-- "p_j .. player j's expected loss": the sum over all profiles, in the order of the loss table, of the product of the
-- mixes times the loss
unfoldable pub expected_loss : Grid → List ℕ → Point → ℕ → ℕ
expected_loss g losses y j =
    dot (map (chance (map (mix g y) (own_first g j))) (profiles (map (size g) (own_first g j)))) (losses_of g losses j)

-- "strategy h replaces the mix": the player of h has d_j at h and 0 at the other strategies
unfoldable pub replaced : Grid → Point → ℕ → Point
replaced g y h =
    let j = block_of g h in
    map (λ i. cond (eqb (block_of g i) j) (cond (eqb i h) (division g j) 0) (at y i)) (indices g)

-- "q_h the loss if strategy h replaces the mix"
abbrev pub replaced_loss : Grid → List ℕ → Point → ℕ → ℕ
replaced_loss g losses y h = expected_loss g losses (replaced g y h) (block_of g h)

-- p_j, with h's player j
abbrev pub player_loss : Grid → List ℕ → Point → ℕ → ℕ
player_loss g losses y h = expected_loss g losses y (block_of g h)

-- "p_j - q_h": "exact whole numbers, negative ones included"
abbrev pub difference : Grid → List ℕ → Point → ℕ → ℤ
difference g losses y h = pos (player_loss g losses y h) -ℤ pos (replaced_loss g losses y h)

-- "the first index h .. for which p_j - q_h is largest among all m": the first h than whose value none is larger
abbrev pub first_largest : (ℕ → ℤ) → List ℕ → ℕ
first_largest value hs = first_or 0 (filter (λ h. all (λ k. not (lt_z (value h) (value k))) hs) hs)

-- "The label of a point", which is one more than the index, since indices count from 0 here
unfoldable pub game_label : Grid → List ℕ → Point → ℕ
game_label g losses y = suc (first_largest (difference g losses y) (indices g))

-- "The label table has one byte per point in that order"
unfoldable pub labels : Grid → List ℕ → List ℕ
labels g losses = map (game_label g losses) (points g)
