-- Coefficient lists of 0s and 1s as masks: the mask of the indices with 1. Assumes nothing.
use Rattle.std.specs.Prelude.{Bool, false, not, ◌&&◌, ◌||◌, cond, List, ◌≡◌, ℕ, ◌≤◌, ◌<◌, eqb, length}
use Rattle.std.specs.Int.Bits.{bit_and}
use Rattle.grid_points.specs.Grid.{at}
use Rattle.rules.specs.Mask.{bit}

-- the number at index k
abbrev pub bit_number : ℕ → ℕ → ℕ
bit_number set k = cond (bit set k) 1 0

-- no index from k on
abbrev pub ClearFrom : ℕ → ℕ → Type 0
ClearFrom from set = (k : ℕ) → from ≤ k → k < 16 → bit set k ≡ false

-- the set of a list of m 0s and 1s
pub record IsSet (m : ℕ) (list : List ℕ) (set : ℕ) : Type 0 where
  pub long : length list ≡ m
  pub is : (k : ℕ) → k < m → at list k ≡ bit_number set k
  pub clear : ClearFrom m set
  pub below : set < 65536

-- one of two sets inside the other, and different
unfoldable pub nested_sets : ℕ → ℕ → Bool
nested_sets a b = (eqb (bit_and a b) a || eqb (bit_and a b) b) && not (eqb a b)
