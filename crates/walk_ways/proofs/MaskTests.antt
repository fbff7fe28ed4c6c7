-- Two masks as sets of indices: whether they are alike, and whether one is within the other; with an index and without
-- one. By these, the rule by which T and U change. Assumes nothing.
use mathlib.Core.Bool.{Bool, beq, true, false, not, ◌&&◌, ◌||◌, cond, or-true}
use mathlib.Core.Path.{◌≡◌, refl, sym, ◌∙◌}
use Prim.Native.Nat.{ℕ, ◌<◌}
use lib.Dec.{eqb}
use native.Mathlib.Omega.{arith}
use Rattle.combinatorics.proofs.Basics.{absurd_bool, false_of, beq_same, same_beq}
use Rattle.combinatorics.proofs.Lists.{all_in, eqb_self, in_all, on_numbers}
use Rattle.combinatorics.proofs.Ranges.{in_up_from, up_from_in}
use Rattle.combinatorics.specs.Lists.{all, up_from}
use Rattle.rules.proofs.SameMasks.{without_none}
use Rattle.rules.proofs.Masks.{bit_with, bit_without}
use Rattle.rules.specs.Mask.{bit, with_index, without_index}

-- two masks of 16 bits have the same indices; one has those of the other
unfoldable pub alike : ℕ → ℕ → Bool
alike a b = all (λ k. beq (bit a k) (bit b k)) (up_from 0 16)

unfoldable pub mask_within : ℕ → ℕ → Bool
mask_within a b = all (λ k. not (bit a k) || bit b k) (up_from 0 16)

-- the rule by which T and U change to T' and U', as masks
unfoldable pub rule_from : ℕ → ℕ → ℕ → ℕ → ℕ
rule_from T U T' U' =
    cond (alike T T') (cond (alike U U') 1 (cond (mask_within U U') 2 3))
    (cond (mask_within T T') (cond (alike U U') 4 5) (cond (alike U U') 7 6))

pub alike_of : (a b : ℕ) → ((k : ℕ) → k < 16 → bit a k ≡ bit b k) → alike a b ≡ true
unfolding alike
alike_of a b h = in_all on_numbers
    (λ k. beq (bit a k) (bit b k))
    (up_from 0 16)
    (λ k m. same_beq _ _ (h k (omega (arith, (up_from_in 0 16 k m).1))))

pub of_alike : (a b : ℕ) → alike a b ≡ true → (k : ℕ) → k < 16 → bit a k ≡ bit b k
unfolding alike
of_alike a b e k l = beq_same _ _ (all_in on_numbers (λ k. beq (bit a k) (bit b k)) (up_from 0 16) e k
    (in_up_from 0 16 k (omega arith) (omega arith)))

or_is : (a b : Bool) → (not a || b) ≡ true → a ≡ (a && b)
or_is true true e = refl
or_is true false e = sym e
or_is false b e = refl

is_or : (a b : Bool) → (a ≡ true → b ≡ true) → (not a || b) ≡ true
is_or true b h = h refl
is_or false b h = refl

pub within_of : (a b : ℕ) → ((k : ℕ) → k < 16 → bit a k ≡ true → bit b k ≡ true) → mask_within a b ≡ true
unfolding mask_within
within_of a b h = in_all on_numbers
    (λ k. not (bit a k) || bit b k)
    (up_from 0 16)
    (λ k m. is_or _ _ (h k (omega (arith, (up_from_in 0 16 k m).1))))

pub of_within : (a b : ℕ) → mask_within a b ≡ true → (k : ℕ) → k < 16 → bit a k ≡ (bit a k && bit b k)
unfolding mask_within
of_within a b e k l = or_is _ _
    (all_in on_numbers (λ k. not (bit a k) || bit b k) (up_from 0 16) e k (in_up_from 0 16 k (omega arith) (omega arith)))

pub same_alike : (a : ℕ) → alike a a ≡ true
same_alike a = alike_of a a (λ k l. refl)

-- an index joins, goes, or was not there
module _ (m h : ℕ) (low : h < 16) where
  pub joins : bit m h ≡ false → (alike m (with_index m h) ≡ false) × (mask_within m (with_index m h) ≡ true)
  joins e = (
    false_of _ (λ q. absurd_bool
        (sym (bit_with m h h low low ∙ rw (eqb_self h)) ∙ sym (of_alike m (with_index m h) q h low) ∙ e)),
    within_of m (with_index m h) (λ k l t. bit_with m h k low l ∙ rw t (or-true (eqb k h))),
  )

  pub goes-out : bit m h ≡ true → (alike m (without_index m h) ≡ false) × (mask_within m (without_index m h) ≡ false)
  goes-out e =
      let gone : bit (without_index m h) h ≡ false = bit_without m h h low low ∙ rw (eqb_self h) in (
        false_of _ (λ q. absurd_bool (sym e ∙ of_alike m (without_index m h) q h low ∙ gone)),
        false_of _ (λ q. absurd_bool (sym e ∙ of_within m (without_index m h) q h low ∙ (rw (e, gone)))),
      )

  pub never_there : bit m h ≡ false → alike m (without_index m h) ≡ true
  never_there e = alike_of m (without_index m h) (λ k l. without_none m h k low l e)
