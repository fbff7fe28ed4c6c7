-- Sums and products of integers: those of differences of numbers, and how far from 0 they are. Assumes nothing.
use mathlib.Core.Bool.{Bool, true, false, cond}
use mathlib.Core.Path.{◌≡◌, refl, sym, ap, ◌∙◌}
use Prim.Native.Nat.{ℕ, zero, suc, ◌+◌, ◌-◌, ◌*◌, ◌≤◌, ◌<◌}
use borrow.Author.Tests.{ltb-true}
use lib.Dec.{ltb}
use lib.IntN.{ℤ, pos, negsuc, neg_ℤ, nat_abs, sub_ℕ, ◌+ℤ◌, ◌-ℤ◌, ◌*ℤ◌, +ℤ_assoc, +ℤ_comm, neg_ℤ-+ℤ, zero-*ℤ, suc_ℤ-*ℤ}
use lib.Signed.{mag}
use native.Mathlib.Omega.{arith}

difference_add : (a b c d : ℤ) → (a -ℤ b) +ℤ (c -ℤ d) ≡ (a +ℤ c) -ℤ (b +ℤ d)
difference_add a b c d = +ℤ_assoc a (neg_ℤ b) (c -ℤ d)
    ∙ ap (λ (z : ℤ). a +ℤ z)
    (sym (+ℤ_assoc (neg_ℤ b) c (neg_ℤ d))
    ∙ ap (λ (z : ℤ). z +ℤ neg_ℤ d) (+ℤ_comm (neg_ℤ b) c)
    ∙ +ℤ_assoc c (neg_ℤ b) (neg_ℤ d))
    ∙ sym (+ℤ_assoc a c (neg_ℤ b +ℤ neg_ℤ d))
    ∙ ap (λ (z : ℤ). (a +ℤ c) +ℤ z) (sym (neg_ℤ-+ℤ b d))

difference-times : (x p q : ℕ) → pos x *ℤ (pos p -ℤ pos q) ≡ pos (x * p) -ℤ pos (x * q)
difference-times zero p q =
    let a : 0 * p ≡ 0 = omega arith in
    let b : 0 * q ≡ 0 = omega arith in
    zero-*ℤ (pos p -ℤ pos q) ∙ rw (a, b)
difference-times (suc x) p q =
    let a : suc x * p ≡ x * p + p = omega arith in
    let b : suc x * q ≡ x * q + q = omega arith in
    suc_ℤ-*ℤ (pos x) (pos p -ℤ pos q)
    ∙ ap (λ (z : ℤ). z +ℤ (pos p -ℤ pos q)) (difference-times x p q)
    ∙ difference_add (pos (x * p)) (pos (x * q)) (pos p) (pos q)
    ∙ rw (a, b)

-- a difference that is weighed, added to another
pub difference-weighed : (x p q r s : ℕ)
    → pos x *ℤ (pos p -ℤ pos q) +ℤ (pos r -ℤ pos s) ≡ pos (x * p + r) -ℤ pos (x * q + s)
difference-weighed x p q r s = ap (λ (z : ℤ). z +ℤ (pos r -ℤ pos s)) (difference-times x p q)
    ∙ difference_add (pos (x * p)) (pos (x * q)) (pos r) (pos s)

pub mag_low : (a : ℤ) → mag a ≤ nat_abs a
mag_low (pos n) = omega arith
mag_low (negsuc n) = omega arith

sub_low : (n p q : ℕ) → p < n → q < n → nat_abs (sub_ℕ p q) < n
sub_low n p q a b = go (ltb p q) refl
  where
    go : (t : Bool) → ltb p q ≡ t → nat_abs (cond t (negsuc (q - suc p)) (pos (p - q))) < n
    go true e = omega (arith, ltb-true p q e)
    go false e = omega arith

-- the difference of two numbers is no further from 0 than they
pub difference_low : (n p q : ℕ) → p < n → q < n → nat_abs (pos p -ℤ pos q) < n
difference_low n p zero a b = omega arith
difference_low n p (suc q) a b = sub_low n p (suc q) a b

sum_low : (a b : ℤ) → nat_abs (a +ℤ b) ≤ nat_abs a + nat_abs b
sum_low (pos a) (pos b) = omega arith
sum_low (pos a) (negsuc b) = omega (arith, sub_low (suc (a + suc b)) a (suc b) (omega arith) (omega arith))
sum_low (negsuc a) (pos b) = omega (arith, sub_low (suc (suc a + b)) b (suc a) (omega arith) (omega arith))
sum_low (negsuc a) (negsuc b) = omega arith

negated : (a : ℤ) → nat_abs (neg_ℤ a) ≡ nat_abs a
negated (pos zero) = refl
negated (pos (suc n)) = refl
negated (negsuc n) = refl

pub product_abs : (a b : ℤ) → nat_abs (a *ℤ b) ≡ nat_abs a * nat_abs b
product_abs (pos a) (pos b) = refl
product_abs (pos a) (negsuc b) = negated (pos (a * suc b))
product_abs (negsuc a) (pos b) = negated (pos (suc a * b))
product_abs (negsuc a) (negsuc b) = refl

pub weighed-low : (a x b : ℤ) → nat_abs (a +ℤ x *ℤ b) ≤ nat_abs a + nat_abs x * nat_abs b
weighed-low a x b = omega (arith, sum_low a (x *ℤ b), product_abs x b)
