-- Binomials and falling products: the other recursions, and how they grow. Assumes nothing.
use mathlib.Core.Path.{◌≡◌, refl, sym, ◌∙◌}
use Prim.Native.Nat.{ℕ, zero, suc, ◌+◌, ◌-◌, ◌*◌, ◌≤◌, ◌<◌}
use native.Mathlib.Nat.{mul-le-mul, mul_assoc}
use native.Mathlib.Omega.{arith}
use Rattle.combinatorics.specs.Counting.{choose, falling}

-- r + k choose k, by the sum of its two neighbours
pub choose_step : (r k : ℕ) → choose (suc r + suc k) (suc k) ≡ choose (r + suc k) (suc k) + choose (suc r + k) k
choose_step r k =
    let a : suc r + suc k ≡ suc (r + suc k) = omega arith in
    let b : suc r + k ≡ r + suc k = omega arith in
    rw (a, b) (omega arith)

pub choose-over : (n k : ℕ) → n < k → choose n k ≡ 0
choose-over zero zero c = absurd (omega arith)
choose-over zero (suc k) c = refl
choose-over (suc n) zero c = absurd (omega arith)
choose-over (suc n) (suc k) c = omega (arith, choose-over n k (omega arith), choose-over n (suc k) (omega arith))

pub choose-none : (k : ℕ) → choose (0 + k) k ≡ 1
choose-none k = let z : 0 + k ≡ k = omega arith in rw z (go k)
  where
    go : (k : ℕ) → choose k k ≡ 1
    go zero = refl
    go (suc k) = omega (arith, go k, choose-over k (suc k) (omega arith))

pub choose_one : (d : ℕ) → choose (d + 1) 1 ≡ d + 1
choose_one zero = refl
choose_one (suc d) = choose_step d 0 ∙ omega (arith, choose_one d)

choose_up : (r k : ℕ) → choose (r + k) k ≤ choose (suc r + k) k
choose_up r zero = omega arith
choose_up r (suc k) = omega (arith, choose_step r k)

choose-right : (r k : ℕ) → choose (r + k) k ≤ choose (r + suc k) (suc k)
choose-right zero k = omega (arith, choose-none k, choose-none (suc k))
choose-right (suc r) k = omega (arith, choose_step r k)

pub choose-grows : (r r' k k' : ℕ) → r ≤ r' → k ≤ k' → choose (r + k) k ≤ choose (r' + k') k'
choose-grows r r' k k' a b =
    let e : r + (r' - r) ≡ r' = omega arith in
    let f : k + (k' - k) ≡ k' = omega arith in
    rw (← e, ← f) (omega (arith, rows (r' - r), columns (r + (r' - r)) (k' - k)))
  where
    rows : (n : ℕ) → choose (r + k) k ≤ choose (r + n + k) k
    rows zero = let z : r + 0 ≡ r = omega arith in rw z (omega arith)
    rows (suc n) = let z : r + suc n ≡ suc (r + n) = omega arith in rw z (omega (arith, rows n, choose_up (r + n) k))

    columns : (s n : ℕ) → choose (s + k) k ≤ choose (s + (k + n)) (k + n)
    columns s zero = let z : k + 0 ≡ k = omega arith in rw z (omega arith)
    columns s (suc n) =
        let z : k + suc n ≡ suc (k + n) = omega arith in
        rw z (omega (arith, columns s n, choose-right s (k + n)))

pub choose-positive : (r k : ℕ) → 1 ≤ choose (r + k) k
choose-positive r k = omega (arith, choose-grows 0 r k k (omega arith) (omega arith), choose-none k)

-- one factor more, at the end
pub falling-next : (m k : ℕ) → falling m (k + 1) ≡ falling m k * (m - k)
falling-next m zero = omega arith
falling-next m (suc k) =
    let z : suc k + 1 ≡ suc (k + 1) = omega arith in
    let w : m - 1 - k ≡ m - suc k = omega arith in
    rw (z, falling-next (m - 1) k, w) (sym (mul_assoc m (falling (m - 1) k) (m - suc k)))

pub falling-grows : (m m' k : ℕ) → m ≤ m' → falling m k ≤ falling m' k
falling-grows m m' zero h = omega arith
falling-grows m m' (suc k) h = mul-le-mul h (falling-grows (m - 1) (m' - 1) k (omega arith))
