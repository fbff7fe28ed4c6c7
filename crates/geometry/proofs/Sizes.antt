-- Consecutive blocks of given sizes: next, previous, block number and distance of an index, and the sums of a block.
-- Beyond the last block every index is a block of its own, with start 1. Assumes nothing.
use mathlib.Core.Bool.{cond}
use mathlib.Core.List.{List, [], ◌∷◌}
use mathlib.Core.Path.{◌≡◌}
use Prim.Native.Nat.{ℕ, zero, suc, ◌+◌, ◌-◌}
use lib.Dec.{eqb, ltb, leb}
use Rattle.combinatorics.specs.Lists.{sum}

abbrev pub next_of : List ℕ → ℕ → ℕ
next_of [] k = k
next_of (s ∷ ss) k = cond (ltb k s) (cond (eqb (suc k) s) 0 (suc k)) (s + next_of ss (k - s))

abbrev pub previous_of : List ℕ → ℕ → ℕ
previous_of [] k = k
previous_of (s ∷ ss) k = cond (ltb k s) (cond (eqb k 0) (s - 1) (k - 1)) (s + previous_of ss (k - s))

abbrev pub block_number : List ℕ → ℕ → ℕ
block_number [] k = k
block_number (s ∷ ss) k = cond (ltb k s) 0 (suc (block_number ss (k - s)))

-- how far it is back from h to k
abbrev pub distance_of : List ℕ → ℕ → ℕ → ℕ
distance_of [] h k = 0
distance_of (s ∷ ss) h k = cond (ltb h s) (cond (leb k h) (h - k) (h + s - k)) (distance_of ss (h - s) (k - s))

-- the start, as a function: 1 beyond the last index
abbrev pub start_of : List ℕ → (ℕ → ℕ) → ℕ → ℕ
start_of ss v k = cond (ltb k (sum ss)) (v k) 1

-- f 0 + .. + f (n - 1)
abbrev pub upto : (ℕ → ℕ) → ℕ → ℕ
upto f zero = 0
upto f (suc n) = upto f n + f n

abbrev pub shift : ℕ → (ℕ → ℕ) → ℕ → ℕ
shift s f k = f (s + k)

-- each block of y adds up to what it does in v
abbrev pub SameSums : List ℕ → (ℕ → ℕ) → (ℕ → ℕ) → Type 0
SameSums [] v y = Unit {0}
SameSums (s ∷ ss) v y = (upto v s ≡ upto y s) × SameSums ss (shift s v) (shift s y)
