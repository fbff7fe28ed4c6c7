-- The first index at which two masks differ: the only one, or none; and the length of a record, which the sets alone
-- tell. Assumes nothing.
use mathlib.Core.Bool.{Bool, true, false, beq, cond}
use mathlib.Core.Logic.{⊎_elim}
use mathlib.Core.Path.{◌≡◌, refl, sym, ap, ◌∙◌}
use Prim.Native.Nat.{ℕ, zero, suc, ◌+◌, ◌≤◌, ◌<◌}
use borrow.Author.Tests.{eq-eqb, ne_eqb}
use lib.Dec.{eqb}
use lib.ListN.{length}
use native.Mathlib.Omega.{arith}
use Rattle.combinatorics.proofs.Basics.{same_or, true_or_false, beq_same, same_beq}
use Rattle.rules.specs.Mask.{bit}
use Rattle.rules.proofs.SameMasks.{same_mask}
use Rattle.trail_records.specs.Records.{SameSets, differing_from, differing, kept_record, record_from}

beq_unlike : (x y : Bool) → (x ≡ y → ⊥) → beq x y ≡ false
beq_unlike true true n = absurd (n refl)
beq_unlike false false n = absurd (n refl)
beq_unlike true false n = refl
beq_unlike false true n = refl

-- the search, step by step
module _ (a b : ℕ) where
  pub differs_spent : (n h : ℕ) → n ≡ 0 → differing_from a b n h ≡ h
  unfolding differing_from
  differs_spent n h e = rw e

  pub differs_here : (n h : ℕ) → beq (bit a h) (bit b h) ≡ false → differing_from a b n h ≡ h
  unfolding differing_from
  differs_here zero h d = refl
  differs_here (suc n) h d = rw d

  pub differs_later : (n h : ℕ) → beq (bit a h) (bit b h) ≡ true
      → differing_from a b (suc n) h ≡ differing_from a b n (suc h)
  unfolding differing_from
  differs_later n h e = rw e

  -- where the masks differ at one index only, that is found
  only-from : (n k h : ℕ) → k + n ≡ 16 → k ≤ h → h < 16 → (bit a h ≡ bit b h → ⊥)
      → ((i : ℕ) → i < 16 → (i ≡ h → ⊥) → bit a i ≡ bit b i)
      → differing_from a b n k ≡ h
  only-from zero k h s l m d rest = absurd (omega arith)
  only-from (suc n) k h s l m d rest = ⊎_elim
      (λ (e : k ≡ h). differs_here (suc n) k (rw e (beq_unlike _ _ d)) ∙ e)
      (λ ne. differs_later n k (same_beq _ _ (rest k (omega arith) ne))
      ∙ only-from n (suc k) h (omega arith) (omega (arith, ne)) m d rest)
      (same_or k h)

  pub only_differs : (h : ℕ) → h < 16 → (bit a h ≡ bit b h → ⊥) → ((i : ℕ) → i < 16 → (i ≡ h → ⊥) → bit a i ≡ bit b i)
      → differing a b ≡ h
  only_differs h m d rest = only-from 16 0 h (omega arith) (omega arith) m d rest

  -- where they are alike, none is
  none_from : (n k : ℕ) → k + n ≡ 16 → ((i : ℕ) → i < 16 → bit a i ≡ bit b i) → differing_from a b n k ≡ 16
  none_from zero k s rest = differs_spent 0 k refl ∙ omega arith
  none_from (suc n) k s rest =
      differs_later n k (same_beq _ _ (rest k (omega arith))) ∙ none_from n (suc k) (omega arith) rest

  pub none_differs : ((i : ℕ) → i < 16 → bit a i ≡ bit b i) → differing a b ≡ 16
  none_differs rest = none_from 16 0 (omega arith) rest

  pub same_none : a ≡ b → differing a b ≡ 16
  same_none e = none_differs (λ i l. ap (λ (m : ℕ). bit m i) e)

  -- where none is, they are alike
  alike_from : (n k : ℕ) → k + n ≡ 16 → differing_from a b n k ≡ 16 → (i : ℕ) → k ≤ i → i < 16 → bit a i ≡ bit b i
  alike_from zero k s e i l m = absurd (omega arith)
  alike_from (suc n) k s e i l m =
      ⊎_elim
      (λ (q : beq (bit a k) (bit b k) ≡ true). ⊎_elim (λ (z : i ≡ k). rw z (beq_same _ _ q))
      (λ ne. alike_from n (suc k) (omega arith) (sym (differs_later n k q) ∙ e) i (omega (arith, ne)) m) (same_or i k))
      (λ (q : beq (bit a k) (bit b k) ≡ false). absurd (omega (arith, sym (differs_here (suc n) k q) ∙ e)))
      (true_or_false (beq (bit a k) (bit b k)))

  pub none_alike : differing a b ≡ 16 → (i : ℕ) → i < 16 → bit a i ≡ bit b i
  none_alike e i l = alike_from 16 0 (omega arith) e i (omega arith) l

  pub alike-none : a < 65536 → b < 65536 → eqb a b ≡ eqb (differing a b) 16
  alike-none la lb = ⊎_elim
      (λ (e : a ≡ b). eq-eqb a b e ∙ sym (eq-eqb (differing a b) 16 (same_none e)))
      (λ n. ne_eqb a b n
      ∙ sym (ne_eqb (differing a b) 16
      (λ d. n (same_mask a b la lb (none_alike d)))))
      (same_or a b)

-- a record's length, by what T and U do
pub record_length : (T U T' U' y z : ℕ) → length (record_from T U T' U' y z)
    ≡ cond (eqb (differing T T') 16) (cond (eqb (differing U U') 16) 6 7) (cond (eqb (differing U U') 16) 5 6)
unfolding record_from
record_length T U T' U' y z =
    let h = differing T T' in
    let i = differing U U' in
    ⊎_elim
    (λ (t : eqb h 16 ≡ true). ⊎_elim
    (λ (u : eqb i 16 ≡ true). rw (t, u))
    (λ (u : eqb i 16 ≡ false).
    ⊎_elim (λ (b : bit U' i ≡ true). rw (t, u, b)) (λ (b : bit U' i ≡ false). rw (t, u, b)) (true_or_false (bit U' i)))
    (true_or_false (eqb i 16)))
    (λ (t : eqb h 16 ≡ false). ⊎_elim
    (λ (b : bit T' h ≡ true).
    ⊎_elim (λ (u : eqb i 16 ≡ true). rw (t, b, u)) (λ (u : eqb i 16 ≡ false). rw (t, b, u)) (true_or_false (eqb i 16)))
    (λ (b : bit T' h ≡ false).
    ⊎_elim (λ (u : eqb i 16 ≡ true). rw (t, b, u)) (λ (u : eqb i 16 ≡ false). rw (t, b, u)) (true_or_false (eqb i 16)))
    (true_or_false (bit T' h)))
    (true_or_false (eqb h 16))

-- so it is the same, whatever points come in and go out
pub length-alike : (T U T' U' y z y' z' : ℕ)
    → length (record_from T U T' U' y z) ≡ length (record_from T U T' U' y' z')
length-alike T U T' U' y z y' z' = record_length T U T' U' y z ∙ sym (record_length T U T' U' y' z')

-- where both are kept, it is the record of rule 1
pub same_record : (T U T' U' y z : ℕ) → SameSets T U T' U' → record_from T U T' U' y z ≡ kept_record y z
unfolding record_from
same_record T U T' U' y z S = rw (S.in_t, S.in_u)
