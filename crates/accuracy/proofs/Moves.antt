-- A mix that becomes another one: by how much a sum weighed by it changes. Assumes nothing.
use mathlib.Core.List.{List, [], ◌∷◌}
use mathlib.Core.Logic.{◌⊎◌, ⊎_elim}
use mathlib.Core.Path.{◌≡◌, refl, ap, ◌∙◌}
use Prim.Native.Nat.{ℕ, zero, suc, ◌+◌, ◌-◌, ◌*◌, ◌≤◌, ◌<◌}
use lib.ListN.{length, get_or}
use native.Mathlib.Nat.{mul-le-mul_left}
use native.Mathlib.Omega.{arith}
use Rattle.combinatorics.proofs.Basics.{before_or_not}
use Rattle.combinatorics.specs.Lists.{sum}
use Rattle.game_losses.specs.Game.{dot}

-- the units by which a mix exceeds another, strategy by strategy
abbrev pub raised : List ℕ → List ℕ → ℕ
raised [] ys = 0
raised (x ∷ xs) [] = 0
raised (x ∷ xs) (y ∷ ys) = (x - y) + raised xs ys

-- both ways they are as many where the sums are the same
raised-sums : (x y : List ℕ) → length x ≡ length y → sum x + raised y x ≡ sum y + raised x y
raised-sums [] [] e = refl
raised-sums [] (b ∷ y) e = absurd (omega arith)
raised-sums (a ∷ x) [] e = absurd (omega arith)
raised-sums (a ∷ x) (b ∷ y) e = omega (arith, raised-sums x y (omega arith))

-- where no two numbers differ by more than 1, at most half are raised
raised-each : (x y : List ℕ) → length x ≡ length y
    → ((i : ℕ) → i < length x → (get_or x i 0 ≤ get_or y i 0 + 1) × (get_or y i 0 ≤ get_or x i 0 + 1))
    → raised x y + raised y x ≤ length x
raised-each [] [] e n = omega arith
raised-each [] (b ∷ y) e n = absurd (omega arith)
raised-each (a ∷ x) [] e n = absurd (omega arith)
raised-each (a ∷ x) (b ∷ y) e n =
    let here = n 0 (omega arith) in
    omega (arith, here.0, here.1, raised-each x y (omega arith) (λ i l. n (suc i) (omega arith)))

pub raised_half : (x y : List ℕ) → length x ≡ length y → sum x ≡ sum y
    → ((i : ℕ) → i < length x → (get_or x i 0 ≤ get_or y i 0 + 1) × (get_or y i 0 ≤ get_or x i 0 + 1))
    → 2 * raised x y ≤ length x
raised_half x y e s n = omega (arith, raised-sums x y e, raised-each x y e n)

-- one number weighed
weighed-one : (x y b low high : ℕ) → low ≤ b → b ≤ high → x * b + (y - x) * low ≤ y * b + (x - y) * high
weighed-one x y b low high l h = ⊎_elim
    (λ (c : x < y).
    let z : x - y ≡ 0 = omega arith in
    let e : y ≡ x + (y - x) = omega arith in
    let m : (y - x) * low ≤ (y - x) * b = mul-le-mul_left (y - x) l in
    let s : y * b ≡ x * b + (y - x) * b = ap (λ (n : ℕ). n * b) e ∙ omega arith in
    omega arith)
    (λ (c : y ≤ x).
    let z : (y - x) * low ≡ 0 = (let w : y - x ≡ 0 = omega arith in rw w (omega arith)) in
    let e : x ≡ y + (x - y) = omega arith in
    let m : (x - y) * b ≤ (x - y) * high = mul-le-mul_left (x - y) h in
    let s : x * b ≡ y * b + (x - y) * b = ap (λ (n : ℕ). n * b) e ∙ omega arith in
    omega arith)
    (before_or_not x y)

-- values from low to high, weighed by two mixes of the same length
weighed_both : (low high : ℕ) (x y b : List ℕ) → length x ≡ length y → length x ≡ length b
    → ((i : ℕ) → i < length b → (low ≤ get_or b i 0) × (get_or b i 0 ≤ high))
    → dot x b + raised y x * low ≤ dot y b + raised x y * high
weighed_both low high [] [] b e f h = omega arith
weighed_both low high [] (q ∷ y) b e f h = absurd (omega arith)
weighed_both low high (p ∷ x) [] b e f h = absurd (omega arith)
weighed_both low high (p ∷ x) (q ∷ y) [] e f h = absurd (omega arith)
weighed_both low high (p ∷ x) (q ∷ y) (v ∷ b) e f h =
    let here = h 0 (omega arith) in
    let one = weighed-one p q v low high here.0 here.1 in
    let rest = weighed_both low high x y b (omega arith) (omega arith) (λ i l. h (suc i) (omega arith)) in
    let s : (p - q + raised x y) * high ≡ (p - q) * high + raised x y * high = omega arith in
    let t : (q - p + raised y x) * low ≡ (q - p) * low + raised y x * low = omega arith in
    omega arith

-- with the same sum: a unit that is moved changes the sum by at most the range
pub weighed-moved : (low range : ℕ) (x y b : List ℕ) → length x ≡ length y → length x ≡ length b → sum x ≡ sum y
    → ((i : ℕ) → i < length b → (low ≤ get_or b i 0) × (get_or b i 0 ≤ low + range))
    → dot x b ≤ dot y b + raised x y * range
weighed-moved low range x y b e f s h =
    let same : raised y x ≡ raised x y = omega (arith, raised-sums x y e) in
    let w : dot x b + raised x y * low ≤ dot y b + raised x y * (low + range) =
    rw same at (weighed_both low (low + range) x y b e f h) in
    omega arith

-- values none of which exceeds a bound where its weight is positive
pub weighed-below : (bound : ℕ) (x b : List ℕ) → length x ≡ length b
    → ((i : ℕ) → i < length b → 0 < get_or x i 0 → get_or b i 0 ≤ bound) → dot x b ≤ sum x * bound
weighed-below bound [] b e h = omega arith
weighed-below bound (p ∷ x) [] e h = absurd (omega arith)
weighed-below bound (zero ∷ x) (v ∷ b) e h =
    omega (arith, weighed-below bound x b (omega arith) (λ i l. h (suc i) (omega arith)))
weighed-below bound (suc p ∷ x) (v ∷ b) e h =
    let m : suc p * v ≤ suc p * bound = mul-le-mul_left (suc p) (h 0 (omega arith) (omega arith)) in
    omega (arith, weighed-below bound x b (omega arith) (λ i l. h (suc i) (omega arith)))

-- values each of which exceeds another's by at most a bound
pub weighed-raised : (bound : ℕ) (x a b : List ℕ) → length x ≡ length a → length x ≡ length b
    → ((i : ℕ) → i < length x → get_or a i 0 ≤ get_or b i 0 + bound) → dot x a ≤ dot x b + sum x * bound
weighed-raised bound [] a b e f h = omega arith
weighed-raised bound (p ∷ x) [] b e f h = absurd (omega arith)
weighed-raised bound (p ∷ x) (v ∷ a) [] e f h = absurd (omega arith)
weighed-raised bound (p ∷ x) (v ∷ a) (w ∷ b) e f h =
    let m : p * v ≤ p * (w + bound) = mul-le-mul_left p (h 0 (omega arith)) in
    omega (arith, weighed-raised bound x a b (omega arith) (omega arith) (λ i l. h (suc i) (omega arith)))
