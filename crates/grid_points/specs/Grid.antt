-- Document 01, "The grid". Indices and blocks count from 0 here. Assumes nothing.
use Rattle.std.specs.Prelude.{Bool, false, ◌&&◌, ◌||◌, cond, List, [], ◌∷◌, ◌++◌, map, ◌≡◌, ℕ, zero, suc, ◌+◌, ◌-◌, ◌*◌, ◌<◌, pred, eqb, ltb, length, get_or, take}
use Rattle.combinatorics.specs.Counting.{choose, falling}
use Rattle.combinatorics.specs.Lists.{all, concat_map, sum, up_from, same}

-- "N blocks. Block j has s_j indices .. and a division d_j"
pub record Grid : Type 0 where
  pub sizes : List ℕ
  pub divisions : List ℕ

-- the grid with the sizes and divisions that a call is lent
abbrev pub lent : List ℕ → List ℕ → Grid
lent sizes divisions = record { sizes = sizes; divisions = divisions }

-- N
abbrev pub num_blocks : Grid → ℕ
num_blocks g = length g.sizes

-- "m is the sum of the s_j"
abbrev pub num_indices : Grid → ℕ
num_indices g = sum g.sizes

-- "n = m - N"
abbrev pub dimension : Grid → ℕ
dimension g = num_indices g - num_blocks g

abbrev pub size : Grid → ℕ → ℕ
size g j = get_or g.sizes j 0

abbrev pub division : Grid → ℕ → ℕ
division g j = get_or g.divisions j 0

-- "Indices are numbered through .. over the blocks": the first index of block j
abbrev pub first_index : Grid → ℕ → ℕ
first_index g j = sum (take j g.sizes)

abbrev pub blocks : Grid → List ℕ
blocks g = up_from 0 (num_blocks g)

abbrev pub indices : Grid → List ℕ
indices g = up_from 0 (num_indices g)

-- the indices of block j
abbrev pub indices_of : Grid → ℕ → List ℕ
indices_of g j = up_from (first_index g j) (size g j)

abbrev pub block_in : List ℕ → ℕ → ℕ
block_in [] h = 0
block_in (s ∷ ss) h = let later = suc (block_in ss (h - s)) in cond (ltb h s) 0 later

-- the block to which index h belongs
abbrev pub block_of : Grid → ℕ → ℕ
block_of g h = block_in g.sizes h

-- "h + 1 taken round the block"
unfoldable pub next : Grid → ℕ → ℕ
next g h = let j = block_of g h in cond (eqb (suc h) (first_index g j + size g j)) (first_index g j) (suc h)

-- "Inside a block indices go round: before the block's first stands its last"
unfoldable pub previous : Grid → ℕ → ℕ
previous g h = let j = block_of g h in cond (eqb h (first_index g j)) (pred (first_index g j + size g j)) (pred h)

abbrev pub Point : Type 0
Point = List ℕ

-- the coordinate at index h
abbrev pub at : List ℕ → ℕ → ℕ
at y h = get_or y h 0

-- "A grid point y has m whole numbers, none negative, and those of block j add up to d_j"
unfoldable pub is_grid_point : Grid → Point → Bool
is_grid_point g y =
    eqb (length y) (num_indices g) && all (λ j. eqb (sum (map (at y) (indices_of g j))) (division g j)) (blocks g)

-- the lists of s numbers that add up to d, "in rising lexicographic order, first coordinate first"
abbrev pub block_points : ℕ → ℕ → List Point
block_points zero zero = [] ∷ []
block_points zero (suc d) = []
block_points (suc s) d = concat_map (λ k. map (λ l. k ∷ l) (block_points s (d - k))) (up_from 0 (suc d))

abbrev pub product_points : List ℕ → List ℕ → List Point
product_points [] ds = [] ∷ []
product_points (s ∷ ss) [] = []
product_points (s ∷ ss) (d ∷ ds) = concat_map (λ a. map (λ l. a ++ l) (product_points ss ds)) (block_points s d)

-- "They are listed in rising lexicographic order"
unfoldable pub points : Grid → List Point
points g = product_points g.sizes g.divisions

-- "P is the number of grid points"
abbrev pub num_points : Grid → ℕ
num_points g = length (points g)

-- the binomial "d_j + n_j choose n_j" of block j
abbrev pub block_count : Grid → ℕ → ℕ
block_count g j = choose (division g j + pred (size g j)) (pred (size g j))

-- "lexicographic order, first coordinate first"
abbrev pub lex_before : Point → Point → Bool
lex_before [] y = false
lex_before (a ∷ x) [] = false
lex_before (a ∷ x) (b ∷ y) = ltb a b || eqb a b && lex_before x y

-- equality of points
abbrev pub same_point : Point → Point → Bool
same_point y z = same eqb y z

-- z is y with 1 more at h and 1 less at c
abbrev pub MovedBy : Grid → Point → Point → ℕ → ℕ → Type 0
MovedBy g y z h c = (i : ℕ) → i < num_indices g → at z i + cond (eqb i c) 1 0 ≡ at y i + cond (eqb i h) 1 0

abbrev pub position_in : List Point → Point → ℕ
position_in [] y = 0
position_in (x ∷ xs) y = let later = suc (position_in xs y) in cond (same_point x y) 0 later

-- "Positions in this order count from 0"
abbrev pub position : Grid → Point → ℕ
position g y = position_in (points g) y

-- "P times the sum 1 + m + m(m - 1) + .., whose last term has n factors"
unfoldable pub bound : Grid → ℕ
bound g = num_points g * sum (map (falling (num_indices g)) (up_from 0 (suc (dimension g))))
