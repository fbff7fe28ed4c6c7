-- The mask of a set as a number. Assumes nothing.
use mathlib.Core.Bool.{Bool, true, false, cond}
use mathlib.Core.List.{List}
use mathlib.Core.Path.{◌≡◌, sym, ap, ◌∙◌}
use Prim.Native.Nat.{ℕ, zero, suc, ◌+◌, ◌/◌, ◌%◌, ◌^◌, ◌<◌}
use borrow.Author.Tests.{eqb-false, eqb-true}
use lib.Dec.{eqb}
use native.Mathlib.Omega.{arith}
use Rattle.combinatorics.specs.Lists.{is_in}
use Rattle.rules.proofs.Masks.{IsMask}
use Rattle.rules.specs.Mask.{bit}
use Rattle.rules.proofs.SameMasks.{bit_half}
use Rattle.trail_reader.specs.Reading.{mask_from, mask_of}

last_bit : (a : ℕ) (b : Bool) → bit a 0 ≡ b → a % 2 ≡ cond b 1 0
unfolding bit
last_bit a true e = omega (arith, eqb-true (a / 2 ^ 0 % 2) 1 e)
last_bit a false e = omega (arith, eqb-false (a / 2 ^ 0 % 2) 1 e)

mask_from_lem : (set : List ℕ) (n h a : ℕ) → a < 2 ^ n → ((k : ℕ) → k < n → bit a k ≡ is_in eqb (h + k) set)
    → a ≡ mask_from set h n
mask_from_lem set zero h a l e = omega arith
mask_from_lem set (suc n) h a l e =
    let q : a / 2 ≡ mask_from set (suc h) n = mask_from_lem set n (suc h) (a / 2) (omega arith) (λ k m.
    let z : suc h + k ≡ h + suc k = omega arith in
    bit_half a k ∙ e (suc k) (omega arith) ∙ ap (λ (i : ℕ). is_in eqb i set) (sym z)) in
    let z : h + 0 ≡ h = omega arith in
    let r : a % 2 ≡ cond (is_in eqb h set) 1 0 =
    last_bit a (is_in eqb h set) (e 0 (omega arith) ∙ ap (λ (i : ℕ). is_in eqb i set) z) in
    omega arith

pub mask_is : {mask : ℕ} {set : List ℕ} → IsMask mask set → mask < 65536 → mask ≡ mask_of set
mask_is {mask} {set} M l = mask_from_lem set 16 0 mask l
    (λ k m. let z : 0 + k ≡ k = omega arith in M.bits k m ∙ ap (λ (i : ℕ). is_in eqb i set) (sym z))
