-- Tests on the indices of a block, and steps. In order: a test holds at an index of the block or at none; a free index
-- or a filled block; a step raises nothing in other blocks; lists with 1 more or 1 less at an index. Assumes nothing.
use mathlib.Core.Bool.{Bool, true, false, not, ◌&&◌}
use mathlib.Core.Logic.{◌⊎◌, inl, inr, ⊎_elim}
use mathlib.Core.Path.{◌≡◌, refl, sym, ap, ◌∙◌}
use Prim.Native.Nat.{ℕ, zero, suc, ◌-◌, ◌≤◌, ◌<◌}
use borrow.Author.Tests.{ltb-true, ltb-false, eq-eqb, ne_eqb}
use lib.Dec.{ltb}
use native.Mathlib.Omega.{arith}
use Rattle.combinatorics.proofs.Basics.{true_or_false, absurd_bool, before_or_not}
use Rattle.geometry.proofs.Definitions.{back, Blocks, Tight, HasZeros, Step, raise, lower}
use Rattle.geometry.proofs.Tight.{round, block-next}

pub block_back : (R : Blocks) (n h : ℕ) → R.block (back R.previous n h) ≡ R.block h
block_back R zero h = refl
block_back R (suc n) h = R.block-previous (back R.previous n h) ∙ block_back R n h

-- the first n for which the test holds, or none below m
pub find : (P : ℕ → Bool) (m : ℕ)
    → ((n : ℕ) × (n < m) × (P n ≡ true) × ((j : ℕ) → j < n → P j ≡ false)) ⊎ ((j : ℕ) → j < m → P j ≡ false)
find P zero = inr (λ j l. absurd (omega arith))
find P (suc m) = ⊎_elim
    (λ w. inl (w.0, omega (arith, w.1), w.2, w.3))
    (λ n. ⊎_elim
    (λ e. inl (m, omega arith, e, n))
    (λ e. inr
    (λ j l. ⊎_elim (λ (x : j < m). n j x) (λ (x : m ≤ j). let w : j ≡ m = omega arith in rw w e) (before_or_not j m)))
    (true_or_false (P m)))
    (find P m)

-- every test of a block's indices holds at one of them or at none
pub find_in : (R : Blocks) (P : ℕ → Bool) (h : ℕ)
    → ((k : ℕ) × (R.block k ≡ R.block h) × (P k ≡ true)) ⊎ ((k : ℕ) → R.block k ≡ R.block h → P k ≡ false)
find_in R P h =
    ⊎_elim (λ w. inl (back R.previous w.0 h, block_back R w.0 h, w.2))
    (λ n. inr (λ k e. rw (R.reached h k (sym e)) at (n (R.distance h k) (R.distance-below h k))))
    (find (λ n. P (back R.previous n h)) R.most)

free_test : (a b : Bool) → (not a && b) ≡ true → (a ≡ false) × (b ≡ true)
free_test true b e = absurd_bool (sym e)
free_test false b e = (refl, e)

taken_test : (a b : Bool) → (not a && b) ≡ false → a ≡ false → b ≡ false
taken_test true b e f = absurd_bool f
taken_test false b e f = e

pub free_or : (R : Blocks) (T : ℕ → Bool) (c : ℕ → ℕ) (h : ℕ)
    → ((f : ℕ) × (R.block f ≡ R.block h) × (T f ≡ false) × (c (R.next f) < R.start f))
    ⊎ ((k : ℕ) → R.block k ≡ R.block h → T k ≡ false → R.start k ≤ c (R.next k))
free_or R T c h = ⊎_elim
    (λ w. let z = free_test (T w.0) _ w.2 in inl (w.0, w.1, z.0, ltb-true _ _ z.1))
    (λ n. inr (λ k e f. ltb-false _ (R.start k) (taken_test (T k) _ (n k e) f)))
    (find_in R (λ k. not (T k) && ltb (c (R.next k)) (R.start k)) h)

-- a step changes nothing in other blocks
pub other-block_le : (R : Blocks) {T : ℕ → Bool} {h : ℕ} {c d : ℕ → ℕ} → Tight R T c → Tight R T d → HasZeros R d
    → Step T h c d → (k : ℕ) → (R.block k ≡ R.block h → ⊥) → d k ≤ c k
other-block_le R {T} {h} {c} {d} tc td n s k b =
    round R (λ k. (R.block k ≡ R.block h → ⊥) → d k ≤ c k) (n k).0 (λ x. omega (arith, (n k).2))
    (λ k ih x. ⊎_elim
    (λ t. omega (arith, s.unchanged k t (λ e. x (ap R.block e))))
    (λ f. omega (arith, tc k f, td k f, ih (λ e. x (sym (block-next R k) ∙ e))))
    (true_or_false (T k)))
    k (n k).1 b

pub raise_at : (h : ℕ) (c : ℕ → ℕ) → raise h c h ≡ suc (c h)
unfolding raise
raise_at h c = rw (eq-eqb h h refl)

pub raise_elsewhere : (h : ℕ) (c : ℕ → ℕ) (k : ℕ) → (k ≡ h → ⊥) → raise h c k ≡ c k
unfolding raise
raise_elsewhere h c k n = rw (ne_eqb k h n)

pub lower_at : (h : ℕ) (c : ℕ → ℕ) → lower h c h ≡ c h - 1
unfolding lower
lower_at h c = rw (eq-eqb h h refl)

pub lower_elsewhere : (h : ℕ) (c : ℕ → ℕ) (k : ℕ) → (k ≡ h → ⊥) → lower h c k ≡ c k
unfolding lower
lower_elsewhere h c k n = rw (ne_eqb k h n)

-- the lift of c with 1 more, or 1 less, at h
pub raise_step : {T : ℕ → Bool} (h : ℕ) (c : ℕ → ℕ) {z : ℕ → ℕ} → T h ≡ true
    → ((k : ℕ) → T k ≡ true → z k ≡ raise h c k) → Step T h c z
raise_step h c e on = record { raised = on h e ∙ raise_at h c; unchanged = λ k t n. on k t ∙ raise_elsewhere h c k n }

pub lower_step : {T : ℕ → Bool} (h : ℕ) (c : ℕ → ℕ) {z : ℕ → ℕ} → T h ≡ true → 0 < c h
    → ((k : ℕ) → T k ≡ true → z k ≡ lower h c k) → Step T h z c
lower_step h c e l on = record {
  raised = omega (arith, on h e, lower_at h c);
  unchanged = λ k t n. sym (on k t ∙ lower_elsewhere h c k n);
}
