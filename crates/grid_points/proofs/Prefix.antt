-- The sizes of the blocks so far: the block that a loop finds. Assumes nothing.
use mathlib.Core.List.{List, [], ◌∷◌}
use mathlib.Core.Path.{◌≡◌}
use Prim.Native.Nat.{ℕ, zero, suc, ◌+◌, ◌-◌, ◌≤◌, ◌<◌}
use borrow.Author.Tests.{lt-ltb, le-ltb}
use lib.ListN.{length, get_or, drop}
use native.Mathlib.Numerals.{add-one}
use native.Mathlib.Omega.{arith}
use Rattle.combinatorics.specs.Lists.{sum}
use Rattle.grid_points.specs.Grid.{block_in}

-- the block of an index, looked for from block j on
pub some_left : (ss : List ℕ) (j left : ℕ) → left < sum (drop j ss) → j < length ss
some_left [] zero left h = absurd (omega arith)
some_left [] (suc j) left h = absurd (omega arith)
some_left (s ∷ ss) zero left h = omega arith
some_left (s ∷ ss) (suc j) left h = omega (arith, some_left ss j left h)

pub find_turn : (ss : List ℕ) (j left : ℕ) → left < sum (drop j ss) → get_or ss j 0 ≤ left
    → (left - get_or ss j 0 < sum (drop (j + 1) ss))
    × (j + 1 + block_in (drop (j + 1) ss) (left - get_or ss j 0) ≡ j + block_in (drop j ss) left)
find_turn ss j left h l = rw (add-one j) (go ss j left h l)
  where
    go : (ss : List ℕ) (j left : ℕ) → left < sum (drop j ss) → get_or ss j 0 ≤ left
        → (left - get_or ss j 0 < sum (drop (suc j) ss))
        × (suc j + block_in (drop (suc j) ss) (left - get_or ss j 0) ≡ j + block_in (drop j ss) left)
    go [] zero left h l = absurd (omega arith)
    go [] (suc j) left h l = absurd (omega arith)
    go (s ∷ ss) zero left h l = (omega arith, rw (le-ltb left s l) (omega arith))
    go (s ∷ ss) (suc j) left h l = let i = go ss j left h l in (i.0, omega (arith, i.1))

pub find_stop : (ss : List ℕ) (j left : ℕ) → left < sum (drop j ss) → left < get_or ss j 0
    → j ≡ j + block_in (drop j ss) left
find_stop [] zero left h l = absurd (omega arith)
find_stop [] (suc j) left h l = absurd (omega arith)
find_stop (s ∷ ss) zero left h l = rw (lt-ltb left s l)
find_stop (s ∷ ss) (suc j) left h l = omega (arith, find_stop ss j left h l)
