-- The numbers from one on. Assumes nothing.
use mathlib.Core.Bool.{Bool, true, false, ◌&&◌}
use mathlib.Core.List.{◌∷◌, ◌++◌}
use mathlib.Core.Logic.{⊎_elim}
use mathlib.Core.Path.{◌≡◌, refl, sym, ap}
use Prim.Native.Nat.{ℕ, zero, suc, ◌+◌, ◌≤◌, ◌<◌}
use lib.Dec.{eqb}
use lib.ListN.{length}
use native.Mathlib.Omega.{arith}
use Rattle.combinatorics.proofs.Basics.{absurd_bool, false_of, same_or}
use Rattle.combinatorics.proofs.Lists.{in_cases, on_numbers, in_first, in_later}
use Rattle.combinatorics.specs.Lists.{all, is_in, distinct, up_from}

pub in_up_from : (k n x : ℕ) → k ≤ x → x < k + n → is_in eqb x (up_from k n) ≡ true
in_up_from k zero x a b = absurd (omega arith)
in_up_from k (suc n) x a b = ⊎_elim
    (λ (e : x ≡ k). in_first on_numbers x k (up_from (suc k) n) e)
    (λ (e : x ≡ k → ⊥).
    in_later on_numbers x k (up_from (suc k) n) (in_up_from (suc k) n x (omega (arith, e)) (omega arith)))
    (same_or x k)

pub up_from_in : (k n x : ℕ) → is_in eqb x (up_from k n) ≡ true → (k ≤ x) × (x < k + n)
up_from_in k zero x m = absurd_bool (sym m)
up_from_in k (suc n) x m =
    ⊎_elim (λ e. (omega arith, omega arith))
    (λ h. let i = up_from_in (suc k) n x h in (omega (arith, i.0), omega (arith, i.1)))
    (in_cases on_numbers x k (up_from (suc k) n) m)

pub distinct-up_from : (k n : ℕ) → distinct eqb (up_from k n) ≡ true
distinct-up_from k zero = refl
distinct-up_from k (suc n) =
    let o : is_in eqb k (up_from (suc k) n) ≡ false =
    false_of _ (λ m. let i : suc k ≤ k = (up_from_in (suc k) n k m).0 in absurd (omega arith)) in
    rw o (distinct-up_from (suc k) n)

pub length-up_from : (k n : ℕ) → length (up_from k n) ≡ n
length-up_from k zero = refl
length-up_from k (suc n) = ap suc (length-up_from (suc k) n)

pub all_shift : (q : ℕ → Bool) (k n : ℕ) → all q (up_from (suc k) n) ≡ all (λ i. q (suc i)) (up_from k n)
all_shift q k zero = refl
all_shift q k (suc n) = ap (λ (b : Bool). q (suc k) && b) (all_shift q (suc k) n)

pub up_from_add : (b s k : ℕ) → up_from b (s + k) ≡ up_from b s ++ up_from (b + s) k
up_from_add b zero k = let z : 0 + k ≡ k = omega arith in let w : b + 0 ≡ b = omega arith in rw (z, w)
up_from_add b (suc s) k =
    let z : suc s + k ≡ suc (s + k) = omega arith in let w : b + suc s ≡ suc b + s = omega arith in
    rw (z, w) (ap (λ l. b ∷ l) (up_from_add (suc b) s k))
