-- Laws of decimal numbers: how one digit more is written, how many there are at most, that they stand for the number,
-- and that the first is not 0. Assumes nothing.
use mathlib.Core.Path.{◌≡◌, refl, ◌∙◌}
use mathlib.Core.Bool.{Bool, true, false, cond}
use mathlib.Core.List.{List, [], ◌∷◌, ◌++◌}
use Prim.Native.Nat.{ℕ, zero, suc, ◌+◌, ◌-◌, ◌*◌, ◌/◌, ◌^◌, ◌≤◌, ◌<◌}
use native.Mathlib.Omega.{arith}
use native.Mathlib.Nat.{pow-succ'}
use lib.Dec.{ltb}
use lib.ListN.{length, get_or, length-append, get_or-append}
use borrow.Author.Tests.{lt-ltb, le-ltb, ltb-true, ltb-false}
use Rattle.text.specs.Decimal.{digit, digits, decimal}
use Rattle.text.specs.Line.{spaced}

-- more divisions than the number change nothing
enough : (f g n : ℕ) → n ≤ f → n ≤ g → digits f n ≡ digits g n
unfolding digits
enough zero zero n a b = refl
enough zero (suc g) n a b = rw (lt-ltb n 10 (omega arith))
enough (suc f) zero n a b = rw (lt-ltb n 10 (omega arith))
enough (suc f) (suc g) n a b = rw (enough f g (n / 10) (omega arith) (omega arith))

-- the digits before the last are those of a tenth
decimal_step : (n : ℕ) → decimal n ≡ cond (ltb n 10) [] (decimal (n / 10)) ++ (digit n ∷ [])
unfolding decimal digits
decimal_step zero = refl
decimal_step (suc n) = rw (enough n (suc n / 10) (suc n / 10) (omega arith) (omega arith))

pub decimal-one : (n : ℕ) → n < 10 → decimal n ≡ digit n ∷ []
decimal-one n h = decimal_step n ∙ rw (lt-ltb n 10 h)

pub decimal_more : (n : ℕ) → 10 ≤ n → decimal n ≡ decimal (n / 10) ++ (digit n ∷ [])
decimal_more n h = decimal_step n ∙ rw (le-ltb n 10 h)

-- a number below a power of ten has at most so many digits
digits-length : (left k n : ℕ) → n < 10 ^ suc k → length (digits left n) ≤ suc k
unfolding digits
digits-length zero k n h = omega arith
digits-length (suc left) k n h = rw length-append (go (ltb n 10) refl k h (λ j. digits-length left j (n / 10)))
  where
    go : (b : Bool)
        → ltb n 10 ≡ b
        → (k : ℕ)
        → n < 10 ^ suc k
        → ((j : ℕ) → n / 10 < 10 ^ suc j → length (digits left (n / 10)) ≤ suc j)
        → length (cond b [] (digits left (n / 10))) + 1 ≤ suc k
    go true e k h shorter = omega arith
    go false e zero h shorter = absurd (omega (arith, ltb-false n 10 e))
    go false e (suc k) h shorter = omega (arith, shorter k (omega (arith, pow-succ' 10 (suc k))))

pub decimal-length : (k n : ℕ) → n < 10 ^ suc k → length (decimal n) ≤ suc k
unfolding decimal
decimal-length k n h = digits-length n k n h

pub spaced-length : (k n : ℕ) → n < 10 ^ suc k → length (spaced n) ≤ suc (suc k)
unfolding spaced
spaced-length k n h = omega (arith, decimal-length k n h)

-- the number that the digits stand for, read behind the number `before`
abbrev value : ℕ → List ℕ → ℕ
value before [] = before
value before (d ∷ ds) = value (10 * before + (d - 48)) ds

value_more : (before : ℕ) (ds : List ℕ) (d : ℕ) → value before (ds ++ (d ∷ [])) ≡ 10 * value before ds + (d - 48)
value_more before [] d = refl
value_more before (x ∷ ds) d = value_more (10 * before + (x - 48)) ds d

digits_value : (left n : ℕ) → n ≤ left → value 0 (digits left n) ≡ n
unfolding digits
digits_value zero n h = omega arith
digits_value (suc left) n h = rw value_more (go (ltb n 10) refl (digits_value left (n / 10) (omega arith)))
  where
    go : (b : Bool)
        → ltb n 10 ≡ b
        → value 0 (digits left (n / 10)) ≡ n / 10
        → 10 * value 0 (cond b [] (digits left (n / 10))) + (digit n - 48) ≡ n
    go true e tenth = omega (arith, ltb-true n 10 e)
    go false e tenth = omega (arith, tenth)

-- the digits of n stand for n
pub decimal_value : (n : ℕ) → value 0 (decimal n) ≡ n
unfolding decimal
decimal_value n = digits_value n n (omega arith)

digits-some : (left n : ℕ) → 0 < length (digits left n)
unfolding digits
digits-some zero n = omega arith
digits-some (suc left) n = rw length-append (omega arith)

digits-first : (left n : ℕ) → n ≤ left → 0 < n → 48 < get_or (digits left n) 0 0
unfolding digits
digits-first zero n h p = absurd (omega arith)
digits-first (suc left) n h p = go (ltb n 10) refl (digits-first left (n / 10) (omega arith))
  where
    go : (b : Bool)
        → ltb n 10 ≡ b
        → (0 < n / 10 → 48 < get_or (digits left (n / 10)) 0 0)
        → 48 < get_or (cond b [] (digits left (n / 10)) ++ (digit n ∷ [])) 0 0
    go true e first = omega (arith, ltb-true n 10 e)
    go false e first =
        rw (get_or-append (digits left (n / 10)) (digit n ∷ []) 0 0 (digits-some left (n / 10)))
        (first (omega (arith, ltb-false n 10 e)))

-- "without leading zeros": the first digit of a number that is not 0 is not 0
pub decimal-first : (n : ℕ) → 0 < n → 48 < get_or (decimal n) 0 0
unfolding decimal
decimal-first n p = digits-first n n (omega arith) p
