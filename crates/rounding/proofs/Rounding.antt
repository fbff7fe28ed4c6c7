-- Exactly one whole number is nearest to a over b, for every a and every b above 0, and `rounded` is that number. A
-- centre is at most 10,000. Assumes nothing.
use mathlib.Core.Path.{◌≡◌, refl, sym, ◌∙◌}
use mathlib.Core.Bool.{Bool, true, false, cond}
use mathlib.Core.Logic.{⊎_elim}
use Prim.Native.Nat.{ℕ, ◌+◌, ◌*◌, ◌/◌, ◌%◌, ◌≤◌, ◌<◌}
use native.Mathlib.Omega.{arith, by_contra}
use native.Mathlib.Nat.{add-mul, div-add-mod', mod-lt, mul-le-mul_right}
use lib.Dec.{eqb, ltb}
use borrow.Author.Tests.{eq-eqb, eqb-true, lt-ltb, ltb-true}
use Rattle.combinatorics.proofs.Basics.{absurd_bool, and_both, and_left, and_right, before_or_not, or_cases, or_left}
use Rattle.combinatorics.proofs.Basics.{or_right}
use Rattle.combinatorics.specs.Counting.{apart}
use Rattle.rounding.specs.Centre.{is_nearest, rounded, centre}

-- the statement as one comparison: an even q is at most half away, an odd one less
within-nearest : (a b q : ℕ) → 2 * apart a (q * b) + q % 2 ≤ b → is_nearest a b q ≡ true
unfolding is_nearest
within-nearest a b q test =
    let twice = 2 * apart a (q * b) in
    ⊎_elim (λ less. or_left _ _ (lt-ltb twice b less))
    (λ half. or_right (ltb twice b) _ (and_both _ _ (eq-eqb twice b (omega arith)) (eq-eqb (q % 2) 0 (omega arith))))
    (before_or_not twice b)

nearest-within : (a b q : ℕ) → is_nearest a b q ≡ true → 2 * apart a (q * b) + q % 2 ≤ b
unfolding is_nearest
nearest-within a b q e =
    let twice = 2 * apart a (q * b) in
    ⊎_elim
    (λ less. let below = ltb-true twice b less in omega arith)
    (λ half.
    let same = eqb-true twice b (and_left _ _ half) in
    let even = eqb-true (q % 2) 0 (and_right (eqb twice b) _ half) in
    omega arith)
    (or_cases _ _ e)

module _ (a b q r : ℕ) (whole : q * b + r ≡ a) where
  -- the quotient, where twice the rest is below b, or is b and the quotient is even
  pub nearest-below : 2 * r + q % 2 ≤ b → is_nearest a b q ≡ true
  nearest-below test = within-nearest a b q (omega arith)

  -- one more, where twice the rest is above b, or is b and the quotient is odd
  pub nearest-above : r < b → b < 2 * r + q % 2 → is_nearest a b (q + 1) ≡ true
  nearest-above less test = within-nearest a b (q + 1) (omega (arith, add-mul q 1 b))

module _ (a b : ℕ) (positive : 0 < b) where
  -- no nearest number is above another: they would be neighbours, both half away and both even
  not_above : (p q : ℕ) → is_nearest a b p ≡ true → is_nearest a b q ≡ true → q ≤ p
  not_above p q m n = by_contra q p apart
    where
      apart : p < q → ⊥
      apart less =
          let next : (p + 1) * b ≤ q * b = mul-le-mul_right b (omega arith) in
          let first = nearest-within a b p m in
          let second = nearest-within a b q n in
          let beyond : (p + 2) * b ≤ q * b = mul-le-mul_right b (omega (arith, add-mul p 1 b)) in
          omega (arith, add-mul p 2 b)

  -- the rule gives a nearest number
  pub rounded-nearest : is_nearest a b (rounded a b) ≡ true
  unfolding rounded
  rounded-nearest = go (is_nearest a b (a / b)) refl
    where
      go : (t : Bool) → is_nearest a b (a / b) ≡ t → is_nearest a b (cond t (a / b) (a / b + 1)) ≡ true
      go true e = e
      go false e = nearest-above a b (a / b) (a % b) (div-add-mod' a b) (mod-lt a positive)
          (by_contra _ _
          (λ most. absurd_bool (sym (nearest-below a b (a / b) (a % b) (div-add-mod' a b) (omega arith)) ∙ e)))

  -- and no other number is nearest
  pub nearest-only : (q : ℕ) → is_nearest a b q ≡ true → q ≡ rounded a b
  nearest-only q nearest = omega (
    arith,
    not_above q (rounded a b) nearest rounded-nearest,
    not_above (rounded a b) q rounded-nearest nearest,
  )

-- a centre of points on the grid is at most 10,000
pub centre-most : (total vertices division : ℕ) → 0 < vertices * division → total ≤ vertices * division
    → centre total vertices division ≤ 10000
unfolding centre
centre-most total vertices division positive within = by_contra _ _ beyond
  where
    b : ℕ
    b = vertices * division

    beyond : 10000 < rounded (10000 * total) b → ⊥
    beyond less =
        let next : 10001 * b ≤ rounded (10000 * total) b * b = mul-le-mul_right b (omega arith) in
        let near = nearest-within (10000 * total) b _ (rounded-nearest (10000 * total) b positive) in
        omega (arith, add-mul 10000 1 b)
