-- The product of the binomials of the blocks so far. Assumes nothing.
use mathlib.Core.List.{List, [], ◌∷◌}
use mathlib.Core.Path.{◌≡◌, sym}
use Prim.Native.Nat.{ℕ, zero, suc, ◌+◌, ◌*◌, pred, ◌≤◌, ◌<◌}
use lib.ListN.{length, get_or, take, length-take}
use native.Mathlib.Nat.{mul_assoc, mul-le-mul, one-le-mul}
use native.Mathlib.Numerals.{add-one}
use native.Mathlib.Omega.{arith}
use Rattle.combinatorics.proofs.Binomials.{choose-positive}
use Rattle.combinatorics.specs.Counting.{binomial_product, choose}

-- the product of the binomials of the first j blocks
pub product-next : (ss ds : List ℕ) (j : ℕ) → j < length ss → length ds ≡ length ss
    → binomial_product (take (j + 1) ss) (take (j + 1) ds)
    ≡ binomial_product (take j ss) (take j ds) * choose (get_or ds j 0 + pred (get_or ss j 0)) (pred (get_or ss j 0))
product-next ss ds j h e = rw (add-one j) (go ss ds j h e)
  where
    go : (ss ds : List ℕ) (j : ℕ) → j < length ss → length ds ≡ length ss
        → binomial_product (take (suc j) ss) (take (suc j) ds)
        ≡ binomial_product (take j ss) (take j ds) * choose (get_or ds j 0 + pred (get_or ss j 0)) (pred (get_or ss j 0))
    go [] ds j h e = absurd (omega arith)
    go (s ∷ ss) [] j h e = absurd (omega arith)
    go (s ∷ ss) (d ∷ ds) zero h e = omega arith
    go (s ∷ ss) (d ∷ ds) (suc j) h e = rw (go ss ds j (omega arith) (omega arith)) (sym (mul_assoc _ _ _))

pub product-positive : (ss ds : List ℕ) → length ds ≡ length ss → 1 ≤ binomial_product ss ds
product-positive [] ds e = omega arith
product-positive (s ∷ ss) [] e = absurd (omega arith)
product-positive (s ∷ ss) (d ∷ ds) e = one-le-mul (choose-positive d (pred s)) (product-positive ss ds (omega arith))

-- the first blocks have no more points than all
pub product-below : (ss ds : List ℕ) (j : ℕ) → length ds ≡ length ss
    → binomial_product (take j ss) (take j ds) ≤ binomial_product ss ds
product-below ss ds zero e = product-positive ss ds e
product-below [] ds (suc j) e = omega arith
product-below (s ∷ ss) [] (suc j) e = absurd (omega arith)
product-below (s ∷ ss) (d ∷ ds) (suc j) e = mul-le-mul (omega arith) (product-below ss ds j (omega arith))

-- nor has one block
pub count-below : (ss ds : List ℕ) (j : ℕ) → j < length ss → length ds ≡ length ss
    → choose (get_or ds j 0 + pred (get_or ss j 0)) (pred (get_or ss j 0)) ≤ binomial_product ss ds
count-below ss ds j h e =
    let n = choose (get_or ds j 0 + pred (get_or ss j 0)) (pred (get_or ss j 0)) in
    let p : 1 * n ≤ binomial_product (take j ss) (take j ds) * n =
    mul-le-mul (product-positive (take j ss) (take j ds) (simp length-take (omega arith))) (omega arith) in
    omega (arith, product-next ss ds j h e, product-below ss ds (j + 1) e)
