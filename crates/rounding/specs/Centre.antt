-- Rounding as the journals round, and a centre's number. Assumes nothing.
use Rattle.std.specs.Prelude.{Bool, ◌&&◌, ◌||◌, cond, ℕ, ◌+◌, ◌*◌, ◌/◌, ◌%◌, eqb, ltb}
use Rattle.combinatorics.specs.Counting.{apart}

-- "nearest, and at exactly half on the even neighbour": q stands less than half away from a over b, or exactly half
-- away and is even
unfoldable pub is_nearest : ℕ → ℕ → ℕ → Bool
is_nearest a b q =
    let twice = 2 * apart a (q * b) in
    ltb twice b || (eqb twice b && eqb (q % 2) 0)

-- of the two whole numbers beside a over b, the one that is nearest
unfoldable pub rounded : ℕ → ℕ → ℕ
rounded a b = cond (is_nearest a b (a / b)) (a / b) (a / b + 1)

-- "10,000 times the coordinate sum over (vertices times d_j)", rounded
unfoldable pub centre : ℕ → ℕ → ℕ → ℕ
centre total vertices division = rounded (10000 * total) (vertices * division)
