-- The sum of falling products: the most that it comes to with 16 indices. Assumes nothing.
use mathlib.Core.List.{List, [], ◌∷◌, map}
use mathlib.Core.Path.{◌≡◌, ap, ◌∙◌}
use Prim.Native.Nat.{ℕ, suc, ◌+◌, ◌-◌, ◌≤◌}
use native.Mathlib.Omega.{arith}
use Rattle.combinatorics.proofs.Binomials.{falling-grows}
use Rattle.combinatorics.proofs.Ranges.{up_from_add}
use Rattle.combinatorics.proofs.Turns.{map-append, sum-append, sum-counted}
use Rattle.combinatorics.specs.Counting.{falling}
use Rattle.combinatorics.specs.Lists.{sum, up_from}

sum-grows : (f g : ℕ → ℕ) (l : List ℕ) → ((i : ℕ) → f i ≤ g i) → sum (map f l) ≤ sum (map g l)
sum-grows f g [] h = omega arith
sum-grows f g (x ∷ l) h = omega (arith, h x, sum-grows f g l h)

-- the most, at 16 indices in one block
pub terms_few : (m n : ℕ) → m ≤ 16 → n ≤ 15 → sum (map (falling m) (up_from 0 (suc n))) ≤ 35951249665217
terms_few m n a b =
    let e : suc n + (15 - n) ≡ 16 = omega arith in
    let most : sum (map (falling 16) (up_from 0 (suc n + (15 - n)))) ≡ 35951249665217 = rw e in
    let split : sum (map (falling 16) (up_from 0 (suc n + (15 - n))))
    ≡ sum (map (falling 16) (up_from 0 (suc n))) + sum (map (falling 16) (up_from (0 + suc n) (15 - n))) =
    ap (λ l. sum (map (falling 16) l)) (up_from_add 0 (suc n) (15 - n))
    ∙ ap sum (map-append (falling 16) (up_from 0 (suc n)) (up_from (0 + suc n) (15 - n)))
    ∙ sum-append (map (falling 16) (up_from 0 (suc n))) (map (falling 16) (up_from (0 + suc n) (15 - n))) in
    omega (arith, sum-grows (falling m) (falling 16) (up_from 0 (suc n)) (λ k. falling-grows m 16 k a))

pub term_few : (m k : ℕ) → m ≤ 16 → k ≤ 15 → falling m k ≤ 35951249665217
term_few m k a b =
    let e : k + 1 ≡ suc k = omega arith in
    let last : sum (map (falling m) (up_from 0 (suc k))) ≡ sum (map (falling m) (up_from 0 k)) + falling m (0 + k) =
    rw e at (sum-counted (falling m) 0 k) in
    let z : 0 + k ≡ k = omega arith in
    omega (arith, rw z at last, terms_few m k a b)
