-- Masks with the same bits are the same; so is one from which an index is taken that is not there. Assumes nothing.
use mathlib.Core.Bool.{true, false}
use mathlib.Core.Logic.{⊎_elim}
use mathlib.Core.Path.{◌≡◌, refl, sym, ap, ◌∙◌}
use Prim.Native.Nat.{ℕ, zero, suc, ◌-◌, ◌*◌, ◌/◌, ◌%◌, ◌^◌, ◌<◌}
use borrow.Author.Tests.{eq-eqb, eqb-true, eqb-false, ne_eqb}
use lib.Bits.{and_le_l}
use lib.Dec.{eqb}
use native.Mathlib.Nat.{div-div-eq-div-mul, pow-succ'}
use native.Mathlib.Omega.{arith}
use Rattle.combinatorics.proofs.Basics.{same_or, true_or_false}
use Rattle.rules.proofs.Masks.{bit_without}
use Rattle.rules.specs.Mask.{bit, without_index}

pub bit_half : (a k : ℕ) → bit (a / 2) k ≡ bit a (suc k)
unfolding bit
bit_half a k =
    ap (λ (x : ℕ). eqb (x % 2) 1) (div-div-eq-div-mul a 2 (2 ^ k) ∙ ap (λ (x : ℕ). a / x) (sym (pow-succ' 2 k)))

last_bit : (a b : ℕ) → bit a 0 ≡ bit b 0 → a % 2 ≡ b % 2
unfolding bit
last_bit a b e = ⊎_elim
    (λ (t : eqb (b / 2 ^ 0 % 2) 1 ≡ true).
    omega (arith, eqb-true (b / 2 ^ 0 % 2) 1 t, eqb-true (a / 2 ^ 0 % 2) 1 (e ∙ t)))
    (λ (f : eqb (b / 2 ^ 0 % 2) 1 ≡ false).
    omega (arith, eqb-false (b / 2 ^ 0 % 2) 1 f, eqb-false (a / 2 ^ 0 % 2) 1 (e ∙ f)))
    (true_or_false (eqb (b / 2 ^ 0 % 2) 1))

-- two masks of n bits with the same bits
pub same_from : (n a b : ℕ) → a < 2 ^ n → b < 2 ^ n → ((k : ℕ) → k < n → bit a k ≡ bit b k) → a ≡ b
same_from zero a b la lb e = omega arith
same_from (suc n) a b la lb e =
    let q : a / 2 ≡ b / 2 = same_from n (a / 2) (b / 2) (omega arith) (omega arith)
    (λ k l. bit_half a k ∙ e (suc k) (omega arith) ∙ sym (bit_half b k)) in
    let r : a % 2 ≡ b % 2 = last_bit a b (e 0 (omega arith)) in
    omega arith

pub same_mask : (a b : ℕ) → a < 65536 → b < 65536 → ((k : ℕ) → k < 16 → bit a k ≡ bit b k) → a ≡ b
same_mask a b la lb e = same_from 16 a b la lb e

-- to take out an index that is not there changes nothing
pub without_none : (m h k : ℕ) → h < 16 → k < 16 → bit m h ≡ false → bit m k ≡ bit (without_index m h) k
without_none m h k hl kl e =
    ⊎_elim
    (λ (q : k ≡ h). rw (q, e) (sym (bit_without m h h hl hl ∙ rw (eq-eqb h h refl))))
    (λ n. sym (bit_without m h k hl kl ∙ rw (ne_eqb k h n)))
    (same_or k h)

pub without_same : (m h : ℕ) → m < 65536 → h < 16 → bit m h ≡ false → m ≡ without_index m h
unfolding without_index
without_same m h ml hl e =
    let less = and_le_l m (65535 - 1 * 2 ^ h % 65536) in
    same_mask m (without_index m h) ml (omega arith) (λ k kl. without_none m h k hl kl e)
