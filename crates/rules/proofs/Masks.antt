-- The bits of a mask with an index, without an index, and of the empty mask, and masks of sets. Assumes nothing.
use mathlib.Core.Bool.{Bool, true, false, not, ◌&&◌, ◌||◌, beq, or_comm, and_comm}
use mathlib.Core.List.{List}
use mathlib.Core.Path.{◌≡◌, refl}
use Prim.Native.Nat.{ℕ, zero, suc, ◌-◌, ◌*◌, ◌/◌, ◌%◌, ◌^◌, ◌≤◌, ◌<◌, min, max}
use lib.Bits.{bit_or, bit_and, or_step, and_step, or_shr, and_shr}
use lib.Dec.{eqb}
use native.Mathlib.Omega.{arith}
use Rattle.combinatorics.proofs.Basics.{beq_same}
use Rattle.combinatorics.proofs.Lists.{all_in, on_numbers}
use Rattle.combinatorics.proofs.Ranges.{in_up_from}
use Rattle.combinatorics.specs.Lists.{all, is_in, up_from}
use Rattle.grid_points.specs.Grid.{num_indices}
use Rattle.place.specs.Places.{Simplex, set_t, set_u}
use Rattle.place.specs.Problem.{Problem}
use Rattle.path_laws.proofs.Meaning.{T_means, U_means}
use Rattle.rules.specs.Mask.{bit, with_index, without_index}

or_last_bit : (a b : ℕ) → bit_or a b % 2 ≡ max (a % 2) (b % 2)
or_last_bit a b = omega (arith, or_step a b)

and_last_bit : (a b : ℕ) → bit_and a b % 2 ≡ min (a % 2) (b % 2)
and_last_bit a b = omega (arith, and_step a b)

max_or : (x y : ℕ) → x < 2 → y < 2 → eqb (max x y) 1 ≡ (eqb x 1 || eqb y 1)
max_or zero zero a b = refl
max_or zero (suc zero) a b = refl
max_or (suc zero) zero a b = refl
max_or (suc zero) (suc zero) a b = refl
max_or zero (suc (suc y)) a b = absurd (omega arith)
max_or (suc zero) (suc (suc y)) a b = absurd (omega arith)
max_or (suc (suc x)) y a b = absurd (omega arith)

min_and : (x y : ℕ) → x < 2 → y < 2 → eqb (min x y) 1 ≡ (eqb x 1 && eqb y 1)
min_and zero zero a b = refl
min_and zero (suc zero) a b = refl
min_and (suc zero) zero a b = refl
min_and (suc zero) (suc zero) a b = refl
min_and zero (suc (suc y)) a b = absurd (omega arith)
min_and (suc zero) (suc (suc y)) a b = absurd (omega arith)
min_and (suc (suc x)) y a b = absurd (omega arith)

pub bit_or_lem : (a b k : ℕ) → bit (bit_or a b) k ≡ (bit a k || bit b k)
unfolding bit
bit_or_lem a b k = rw (or_shr, or_last_bit) (max_or (a / 2 ^ k % 2) (b / 2 ^ k % 2) (omega arith) (omega arith))

pub bit_and_lem : (a b k : ℕ) → bit (bit_and a b) k ≡ (bit a k && bit b k)
unfolding bit
bit_and_lem a b k = rw (and_shr, and_last_bit) (min_and (a / 2 ^ k % 2) (b / 2 ^ k % 2) (omega arith) (omega arith))

pairs : (f g : ℕ → ℕ → Bool) → all (λ h. all (λ k. beq (f h k) (g h k)) (up_from 0 16)) (up_from 0 16) ≡ true
    → (h k : ℕ) → h < 16 → k < 16 → f h k ≡ g h k
pairs f g t h k a b = beq_same (f h k) (g h k)
    (all_in on_numbers (λ k. beq (f h k) (g h k)) (up_from 0 16)
    (all_in on_numbers
    (λ h. all (λ k. beq (f h k) (g h k)) (up_from 0 16))
    (up_from 0 16) t h (in_up_from 0 16 h (omega arith) (omega arith)))
    k (in_up_from 0 16 k (omega arith) (omega arith)))

bit-one : (h k : ℕ) → h < 16 → k < 16 → bit (1 * 2 ^ h % 65536) k ≡ eqb k h
unfolding bit
bit-one = pairs _ _ refl

bit-rest : (h k : ℕ) → h < 16 → k < 16 → bit (65535 - 1 * 2 ^ h % 65536) k ≡ not (eqb k h)
unfolding bit
bit-rest = pairs _ _ refl

pub bit_with : (m h k : ℕ) → h < 16 → k < 16 → bit (with_index m h) k ≡ (eqb k h || bit m k)
unfolding with_index
bit_with m h k a b = rw (bit_or_lem, bit-one h k a b) (or_comm (bit m k) (eqb k h))

pub bit_without : (m h k : ℕ) → h < 16 → k < 16 → bit (without_index m h) k ≡ (not (eqb k h) && bit m k)
unfolding without_index
bit_without m h k a b = rw (bit_and_lem, bit-rest h k a b) (and_comm (bit m k) (not (eqb k h)))

pub bit-none : (k : ℕ) → k < 16 → bit 0 k ≡ false
unfolding bit
bit-none k a = pairs (λ h k. bit 0 k) (λ h k. false) refl 0 k (omega arith) a

-- "T and U are sets of at most 16 indices": a mask of a set
pub record IsMask (mask : ℕ) (set : List ℕ) : Type 0 where
  pub bits : (k : ℕ) → k < 16 → bit mask k ≡ is_in eqb k set
  pub below : (k : ℕ) → is_in eqb k set ≡ true → k < 16

module _ (p : Problem) (few : num_indices p.grid ≤ 16) (s : Simplex) (m : ℕ) where
  pub mask_t : ((k : ℕ) → k < 16 → bit m k ≡ is_in eqb k (set_t p s)) → IsMask m (set_t p s)
  mask_t h = record { bits = h; below = λ k e. omega (arith, ((T_means p s k).0 e).0) }

  pub mask_u : ((k : ℕ) → k < 16 → bit m k ≡ is_in eqb k (set_u p.grid s)) → IsMask m (set_u p.grid s)
  mask_u h = record { bits = h; below = λ k e. omega (arith, ((U_means p.grid s k).0 e).0) }
