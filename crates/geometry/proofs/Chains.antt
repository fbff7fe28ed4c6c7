-- Along a chain each coefficient rises at most once, by 1: on T at its own step, elsewhere by 1 at most. The index
-- after the one raised keeps its coefficient. Assumes nothing.
use mathlib.Core.Bool.{Bool, true, false}
use mathlib.Core.Logic.{⊎_elim}
use mathlib.Core.Path.{◌≡◌, refl, ◌∙◌}
use Prim.Native.Nat.{ℕ, zero, suc, ◌+◌, ◌-◌, ◌≤◌, ◌<◌}
use native.Mathlib.Omega.{arith}
use Rattle.combinatorics.proofs.Basics.{same_or, before_or_not}
use Rattle.geometry.proofs.Definitions.{Blocks, Chain}
use Rattle.geometry.proofs.Tight.{bounded, still, step_up}

module _ {R : Blocks} {T : ℕ → Bool} {t : ℕ} {p : ℕ → ℕ → ℕ} {o : ℕ → ℕ} (K : Chain R T t p o) where
  -- an index of T where a step changes something is the step's own
  pub changed : (j : ℕ) → j < t → (k : ℕ) → T k ≡ true → (p (suc j) k ≡ p j k → ⊥) → k ≡ o j
  changed j l k e n = ⊎_elim (λ q. q) (λ q. absurd (n ((K.step j l).unchanged k e q))) (same_or k (o j))

  pub rises : (j : ℕ) → j < t → (k : ℕ) → p j k ≤ p (suc j) k
  rises j l k =
      step_up R T (K.tight j (omega arith)) (K.tight (suc j) l) (K.has_zeros j (omega arith)) (K.step j l) k

  pub rise_by : (d i : ℕ) → i + d ≤ t → (k : ℕ) → p i k ≤ p (i + d) k
  rise_by zero i l k = let e : i + 0 ≡ i = omega arith in rw e (omega arith)
  rise_by (suc d) i l k =
      let e : i + suc d ≡ suc (i + d) = omega arith in
      rw e (omega (arith, rise_by d i (omega arith) k, rises (i + d) (omega arith) k))

  pub rise : (i j : ℕ) → i ≤ j → j ≤ t → (k : ℕ) → p i k ≤ p j k
  rise i j a b k = let e : i + (j - i) ≡ j = omega arith in rw e at (rise_by (j - i) i (omega arith) k)

  -- the coefficient at o l before and after its own step
  pub before_raise : (l j : ℕ) → l < t → j ≤ l → p j (o l) ≡ p 0 (o l)
  before_raise l zero a b = refl
  before_raise l (suc j) a b =
      (K.step j (omega arith)).unchanged (o l) (K.order.within l a)
      (λ q. omega (arith, K.order.once l j a (omega arith) q))
      ∙ before_raise l j a (omega arith)

  pub after_raise : (l j : ℕ) → l < j → j ≤ t → p j (o l) ≡ suc (p 0 (o l))
  after_raise l zero a b = absurd (omega arith)
  after_raise l (suc j) a b =
      ⊎_elim
      (λ (q : l < j). (K.step j (omega arith)).unchanged (o l) (K.order.within l (omega arith))
      (λ w. omega (arith, K.order.once l j (omega arith) (omega arith) w)) ∙ after_raise l j q
      (omega arith))
      (λ (q : j ≤ l). let e : l ≡ j = omega arith in
      let s : p (suc j) (o l) ≡ suc (p j (o l)) = rw e (K.step j (omega arith)).raised in
      omega (arith, before_raise l j (omega arith) (omega arith))) (before_or_not l j)

  pub last-one_more : (k : ℕ) → T k ≡ true → p t k ≡ suc (p 0 k)
  last-one_more k e = let j = K.order.all k e in rw j.2 at (after_raise j.0 t j.1 (omega arith))

  pub one_more_at_most_on : (j : ℕ) → j ≤ t → (k : ℕ) → T k ≡ true → p j k ≤ p 0 k + 1
  one_more_at_most_on j l k e = omega (arith, last-one_more k e, rise j t l (omega arith) k)

  -- no coefficient rises by more than 1 along the whole chain
  pub one_more_at_most : (j : ℕ) → j ≤ t → (k : ℕ) → p j k ≤ p 0 k + 1
  one_more_at_most j l =
      bounded R T 1 (K.tight j l) (K.tight 0 (omega arith)) (one_more_at_most_on j l) (K.has_zeros j l)

  -- a free index has coefficient 0 at all points
  pub free-zero : (f : ℕ) → T f ≡ false → p 0 (R.next f) < R.start f → (j : ℕ) → j ≤ t → p j f ≡ 0
  free-zero f e l j b = omega (arith, one_more_at_most j b (R.next f), K.tight j b f e)

  -- at the step of h the index after h keeps its coefficient
  pub next-unchanged : (j : ℕ) → j < t → p (suc j) (R.next (o j)) ≡ p j (R.next (o j))
  next-unchanged j l =
      let f = K.free (o j) in
      still R T (K.tight j (omega arith)) (K.tight (suc j) l) (K.step j l) f.0 f.1
      (omega (arith, free-zero f.0 f.2 f.3 j (omega arith), free-zero f.0 f.2 f.3 (suc j) l))

  -- so the point after it is not tight at h
  pub loose_after : (j : ℕ) → j < t → p (suc j) (o j) ≡ p (suc j) (R.next (o j)) - R.start (o j) → ⊥
  loose_after j l e = omega (arith, next-unchanged j l, K.grid j (omega arith) (o j), (K.step j l).raised)
