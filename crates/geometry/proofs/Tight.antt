-- Tight lists. In order: induction round a block; a bound on T is a bound everywhere; T determines a tight list; a step
-- raises by 1 at most; a list of values on T that is near a tight list has a tight list of its own. Assumes nothing.
use mathlib.Core.Bool.{Bool, true, false, cond}
use mathlib.Core.Logic.{◌⊎◌, inl, inr, ⊎_elim}
use mathlib.Core.Path.{◌≡◌, refl, sym, ap, ◌∙◌}
use Prim.Native.Nat.{ℕ, zero, suc, ◌+◌, ◌-◌, ◌≤◌, ◌<◌}
use native.Mathlib.Omega.{arith}
use Rattle.combinatorics.proofs.Basics.{true_or_false, same_or}
use Rattle.geometry.proofs.Definitions.{back, Blocks, Tight, Grid, HasZeros, Free, Step, lift, tight_of}

-- what goes back from each index to the one before it goes round the block
back-all : (R : Blocks) (P : ℕ → Type 0) (z : ℕ) → P z → ((k : ℕ) → P (R.next k) → P k) → (n : ℕ)
    → P (back R.previous n z)
back-all R P z s step zero = s
back-all R P z s step (suc n) =
    step (R.previous (back R.previous n z)) (rw (R.next-previous (back R.previous n z)) (back-all R P z s step n))

pub round : (R : Blocks) (P : ℕ → Type 0) (z : ℕ) → P z → ((k : ℕ) → P (R.next k) → P k) → (k : ℕ)
    → R.block z ≡ R.block k → P k
round R P z s step k e = rw (R.reached z k e) at (back-all R P z s step (R.distance z k))

pub block-next : (R : Blocks) (k : ℕ) → R.block (R.next k) ≡ R.block k
block-next R k = sym (R.block-previous (R.next k)) ∙ ap R.block (R.previous-next k)

module _ (R : Blocks) (T : ℕ → Bool) where
  -- outside T a tight list leaves no coordinate negative
  pub grid-all : {c : ℕ → ℕ} → Tight R T c → ((k : ℕ) → T k ≡ true → c (R.next k) ≤ R.start k + c k) → Grid R c
  grid-all t g k = ⊎_elim (g k) (λ e. omega (arith, t k e)) (true_or_false (T k))

  -- a bound on T is a bound everywhere
  pub bounded : (e : ℕ) {c d : ℕ → ℕ} → Tight R T c → Tight R T d → ((k : ℕ) → T k ≡ true → c k ≤ d k + e)
      → HasZeros R c → (k : ℕ) → c k ≤ d k + e
  bounded e {c} {d} tc td on n k =
      round R (λ k. c k ≤ d k + e) (n k).0 (omega (arith, (n k).2))
      (λ k ih. ⊎_elim (on k) (λ f. omega (arith, tc k f, td k f)) (true_or_false (T k))) k (n k).1

  -- T determines a tight list
  pub decides : {c d : ℕ → ℕ} → Tight R T c → Tight R T d → HasZeros R c → HasZeros R d
      → ((k : ℕ) → T k ≡ true → c k ≡ d k) → (k : ℕ) → c k ≡ d k
  decides {c} {d} tc td nc nd on k = omega (
    arith,
    bounded 0 tc td (λ k e. omega (arith, on k e)) nc k,
    bounded 0 td tc (λ k e. omega (arith, on k e)) nd k,
  )

  -- where only h of T changes, the index after h keeps its coefficient
  pub still : {h : ℕ} {c d : ℕ → ℕ} → Tight R T c → Tight R T d → Step T h c d → (z : ℕ) → R.block z ≡ R.block h
      → d z ≡ c z
      → d (R.next h) ≡ c (R.next h)
  still {h} {c} {d} tc td s z b e = ⊎_elim
      (λ q. absurd (omega (arith, s.raised)))
      (λ q. q)
      (round R
      (λ k. (d k ≡ c k) ⊎ (d (R.next h) ≡ c (R.next h)))
      z (inl e)
      (λ k ih. ⊎_elim
      (λ q. ⊎_elim
      (λ (w : k ≡ h). inr (rw w at q))
      (λ n. inl (⊎_elim (λ t. s.unchanged k t n) (λ f. omega (arith, tc k f, td k f)) (true_or_false (T k))))
      (same_or k h))
      (λ q. inr q)
      ih)
      h b)

  -- one more at h: nothing falls, and nothing rises by more than 1
  pub step_up : {h : ℕ} {c d : ℕ → ℕ} → Tight R T c → Tight R T d → HasZeros R c → Step T h c d → (k : ℕ) → c k ≤ d k
  step_up {h} {c} {d} tc td n s k = omega (
    arith,
    bounded 0 tc td
        (λ k t.
        ⊎_elim (λ (q : k ≡ h). rw q (omega (arith, s.raised))) (λ q. omega (arith, s.unchanged k t q)) (same_or k h))
        n k,
  )

-- what is at most 1 more than c on T lifts to a tight list
module _ (R : Blocks) {T : ℕ → Bool} (a : ℕ → ℕ) {c : ℕ → ℕ} (tc : Tight R T c)
    (small : (k : ℕ) → T k ≡ true → a k ≤ c k + 1) where
  lift_le : (n k : ℕ) → lift R T a n k ≤ c k + 1
  lift_le zero k = omega arith
  lift_le (suc n) k = go (T k) refl (lift_le n (R.next k))
    where
      go : (b : Bool) → T k ≡ b → lift R T a n (R.next k) ≤ c (R.next k) + 1
          → cond b (a k) (lift R T a n (R.next k) - R.start k) ≤ c k + 1
      go true e ih = small k e
      go false e ih = omega (arith, tc k e)

  lift_free : (f : ℕ) → T f ≡ false → c (R.next f) < R.start f → (n : ℕ) → lift R T a n f ≡ 0
  lift_free f e l zero = refl
  lift_free f e l (suc n) = rw e (omega (arith, lift_le n (R.next f)))

  stable : (f : ℕ) → T f ≡ false → c (R.next f) < R.start f → (d n m k : ℕ) → back R.previous d f ≡ k → d < n → d < m
      → lift R T a n k ≡ lift R T a m k
  stable f e l zero n m k b x y = rw (← b) (lift_free f e l n ∙ sym (lift_free f e l m))
  stable f e l (suc d) zero m k b x y = absurd (omega arith)
  stable f e l (suc d) (suc n) zero k b x y = absurd (omega arith)
  stable f e l (suc d) (suc n) (suc m) k b x y =
      let w : back R.previous d f ≡ R.next k = sym (R.next-previous (back R.previous d f)) ∙ ap R.next b in
      ap (λ (x : ℕ). cond (T k) (a k) (x - R.start k)) (stable f e l d n m (R.next k) w (omega arith) (omega arith))

  module _ (free : Free R T c) where
    pub lifted_on : (k : ℕ) → T k ≡ true → tight_of R T a k ≡ a k
    unfolding tight_of
    lifted_on k e = rw e

    pub lifted_tight : Tight R T (tight_of R T a)
    unfolding tight_of
    lifted_tight k e =
        let f = free (R.next k) in
        rw e (ap (λ (x : ℕ). x - R.start k)
        (stable f.0 f.2 f.3 _ R.most (suc R.most) (R.next k) (R.reached f.0 (R.next k) f.1)
        (R.distance-below f.0 (R.next k)) (omega (arith, R.distance-below f.0 (R.next k)))))

    pub lifted_le : (k : ℕ) → tight_of R T a k ≤ c k + 1
    unfolding tight_of
    lifted_le k = lift_le (suc R.most) k

    pub lifted_zeros : HasZeros R (tight_of R T a)
    unfolding tight_of
    lifted_zeros h = let f = free h in (f.0, f.1, lift_free f.0 f.2 f.3 (suc R.most))
