-- Closed sets of indices of which any two are nested: one of them has all others inside it, and of those that do not
-- lie inside a further set c one lies inside all others. Assumes nothing.
use mathlib.Core.Logic.{◌⊎◌, inl, inr, ⊎_elim}
use mathlib.Core.Path.{◌≡◌, sym, ap, ◌∙◌}
use Prim.Native.Nat.{ℕ, zero, suc, ◌≤◌, ◌<◌}
use borrow.Author.Tests.{ltb-true, ltb-false}
use lib.Dec.{ltb}
use native.Mathlib.Omega.{arith}
use Rattle.combinatorics.proofs.Basics.{before_or_not}
use Rattle.geometry.proofs.Definitions.{Blocks}
use Rattle.geometry.proofs.Search.{find}
use Rattle.check_simplices.proofs.Closed.{Closed}
use Rattle.check_simplices.proofs.Tests.{Below}

-- n closed sets, any two nested
pub record Sets (R : Blocks) (n : ℕ) (q : ℕ → ℕ → ℕ) : Type 0 where
  pub closed : (i : ℕ) → i < n → Closed R (q i)
  pub ones : (i : ℕ) → i < n → Below (q i) (λ k. 1)
  pub pairs : (i j : ℕ) → i < n → j < n → Below (q i) (q j) ⊎ Below (q j) (q i)

-- one of them has all others inside it
pub largest : {R : Blocks} {n : ℕ} {q : ℕ → ℕ → ℕ} → Sets R n q → (t : ℕ) → t < n
    → (i : ℕ) × (i < n) × ((j : ℕ) → j ≤ t → Below (q j) (q i))
largest S zero l = (0, l, (λ j x k. let e : j ≡ 0 = omega arith in rw e (omega arith)))
largest {q = q} S (suc t) l =
    let r = largest S t (omega arith) in
    ⊎_elim
    (λ (b : Below (q (suc t)) (q r.0)). (
      r.0,
      r.1,
      (λ j x. ⊎_elim (λ (y : j < suc t). r.2 j (omega arith))
          (λ (y : suc t ≤ j). let e : j ≡ suc t = omega arith in rw e b) (before_or_not j (suc t))),
    ))
    (λ (b : Below (q r.0) (q (suc t))). (
      suc t,
      l,
      (λ j x k. ⊎_elim (λ (y : j < suc t). omega (arith, r.2 j (omega arith) k, b k))
          (λ (y : suc t ≤ j). let e : j ≡ suc t = omega arith in rw e (omega arith)) (before_or_not j (suc t))),
    ))
    (S.pairs (suc t) r.0 l r.1)

-- of w and the sets that do not lie inside c, up to the t-th, the smallest
pub record Smallest (R : Blocks) (n : ℕ) (q : ℕ → ℕ → ℕ) (c w : ℕ → ℕ) (t : ℕ) : Type 0 where
  pub set : ℕ → ℕ
  pub closed : Closed R set
  pub ones : Below set (λ k. 1)
  pub above : Below c set
  pub within : Below set w
  pub new : (k : ℕ) × (c k < set k)
  pub compares : (i : ℕ) → i < n → Below (q i) set ⊎ Below set (q i)
  pub splits : (i : ℕ) → i < t → Below (q i) c ⊎ Below set (q i)

-- from m on every index is a block of its own
module _ (R : Blocks) (m : ℕ) (own : (k f : ℕ) → m ≤ k → R.block k ≡ R.block f → k ≡ f) where
  pub zero-from : {c : ℕ → ℕ} → Closed R c → (k : ℕ) → m ≤ k → c k ≡ 0
  zero-from {c} C k l = let z = C.zeros k in ap c (own k z.0 l (sym z.1)) ∙ z.2

  pub more_or : (c : ℕ → ℕ) {d : ℕ → ℕ} → Closed R d → ((k : ℕ) × (k < m) × (c k < d k)) ⊎ Below d c
  more_or c {d} D = ⊎_elim
      (λ w. inl (w.0, w.1, ltb-true _ _ w.2))
      (λ n. inr
      (λ k. ⊎_elim
      (λ (x : k < m). ltb-false _ _ (n k x))
      (λ (x : m ≤ k). omega (arith, zero-from D k x))
      (before_or_not k m)))
      (find (λ k. ltb (c k) (d k)) m)

  module _ {n : ℕ} {q : ℕ → ℕ → ℕ} (S : Sets R n q) {w : ℕ → ℕ} (W : Closed R w) (ones : Below w (λ k. 1))
      (above : (i : ℕ) → i < n → Below (q i) w)
      {c : ℕ → ℕ} (in_w : Below c w) (splits : (i : ℕ) → i < n → Below (q i) c ⊎ Below c (q i)) where
    pub smallest : (k : ℕ) → c k < w k → (t : ℕ) → t ≤ n → Smallest R n q c w t
    smallest k l zero x = record {
      set = w;
      closed = W;
      ones = ones;
      above = in_w;
      within = λ k. omega arith;
      new = (k, l);
      compares = λ i y. inl (above i y);
      splits = λ i y. absurd (omega arith);
    }
    smallest k l (suc t) x = go (smallest k l t (omega arith))
      where
        go : Smallest R n q c w t → Smallest R n q c w (suc t)
        go r =
            ⊎_elim (λ a. keep (inl a))
            (λ (a : Below c (q t)). ⊎_elim
            (λ k. ⊎_elim
            (λ (b : Below (q t) r.set). record {
              set = q t;
              closed = S.closed t x;
              ones = S.ones t x;
              above = a;
              within = above t x;
              new = (k.0, k.2);
              compares = λ i y. S.pairs i t y x;
              splits = λ i y. upto_t i y (inr (λ k. omega arith))
                  (λ z. ⊎_elim (λ e. inl e) (λ e. inr (λ k. omega (arith, b k, e k))) (r.splits i z));
            })
            (λ b. keep (inr b))
            (r.compares t x)) (λ e. keep (inl e)) (more_or c (S.closed t x)))
            (splits t x)
          where
            upto_t : {d : ℕ → ℕ} (i : ℕ) → i < suc t → Below (q t) c ⊎ Below d (q t)
                → (i < t → Below (q i) c ⊎ Below d (q i))
                → Below (q i) c ⊎ Below d (q i)
            upto_t i y a b = ⊎_elim b (λ (z : t ≤ i). let e : i ≡ t = omega arith in rw e a) (before_or_not i t)

            keep : Below (q t) c ⊎ Below r.set (q t) → Smallest R n q c w (suc t)
            keep a = record {
              set = r.set;
              closed = r.closed;
              ones = r.ones;
              above = r.above;
              within = r.within;
              new = r.new;
              compares = r.compares;
              splits = λ i y. upto_t i y a (r.splits i);
            }
