-- A route by symmetric links, where each node has at most two links and the start at most one, never meets a node
-- twice. Assumes nothing.
use mathlib.Core.Logic.{◌⊎◌, ⊎_elim}
use mathlib.Core.Path.{◌≡◌, sym, subst}
use Prim.Native.Nat.{ℕ, zero, suc, ◌≤◌, ◌<◌}
use native.Mathlib.Nat.{eq-or-lt_of_le}
use native.Mathlib.Omega.{arith}
use Rattle.combinatorics.proofs.Basics.{before_or_not}

-- w i is the i-th node, for i up to n: each is linked to the next, which is not the one before it
pub record Route {A : Type 0} (link : A → A → Type 0) (w : ℕ → A) (n : ℕ) : Type 0 where
  pub linked : (i : ℕ) → suc i ≤ n → link (w i) (w (suc i))
  pub onward : (i : ℕ) → suc (suc i) ≤ n → w i ≡ w (suc (suc i)) → ⊥

module _ {A : Type 0} (link : A → A → Type 0) (back : (a b : A) → link a b → link b a) (irr : (a : A) → link a a → ⊥)
    (two : (a x y z : A) → link a x → link a y → link a z → (x ≡ y) ⊎ ((x ≡ z) ⊎ (y ≡ z)))
    (w : ℕ → A) (one : (x y : A) → link (w 0) x → link (w 0) y → x ≡ y) (n : ℕ) (k : Route link w n) where
  -- a node met again at once, or after one more
  near : (i j : ℕ) → i ≤ j → j < suc (suc i) → suc j ≤ n → w i ≡ w (suc j) → ⊥
  near i j a b c e =
      ⊎_elim (λ (q : i ≡ j). let z : suc j ≡ suc i = omega arith in
      irr (w i) (subst (λ (x : A). link (w i) x) (sym (rw z at e)) (k.linked i (omega arith))))
      (λ (q : i < j). let z : j ≡ suc i = omega arith in k.onward i (omega arith) (rw z at e))
      (eq-or-lt_of_le a)

  pub apart : (f i j : ℕ) → j ≤ f → i < j → j ≤ n → w i ≡ w j → ⊥
  apart zero i j b l m e = omega arith
  apart (suc f) i zero b l m e = omega arith
  apart (suc f) zero (suc j) b l m e =
      let q : w 1 ≡ w j = one (w 1) (w j) (k.linked 0 (omega arith)) (rw e (back (w j) (w (suc j)) (k.linked j m))) in
      ⊎_elim (λ s. near 0 j (omega arith) s m e) (λ s. apart f 1 j (omega arith) s (omega arith) q) (before_or_not j 2)
  apart (suc f) (suc i) (suc j) b l m e =
      let here : link (w (suc i)) (w j) = rw e (back (w j) (w (suc j)) (k.linked j m)) in
      ⊎_elim
      (λ q. k.onward i (omega arith) q)
      (λ r. ⊎_elim
      (λ q. apart f i j (omega arith) (omega arith) (omega arith) q)
      (λ q. ⊎_elim
      (λ s. near (suc i) j (omega arith) s m e)
      (λ s. apart f (suc (suc i)) j (omega arith) s (omega arith) q)
      (before_or_not j (suc (suc (suc i)))))
      r)
      (two (w (suc i)) (w i) (w (suc (suc i))) (w j) (back (w i) (w (suc i)) (k.linked i (omega arith)))
      (k.linked (suc i) (omega arith)) here)
