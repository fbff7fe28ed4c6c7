-- An index g outside T joins it: an index is left for its block, and after which point its coefficient rises.
-- Assumes nothing.
use mathlib.Core.Bool.{Bool, true, false}
use mathlib.Core.Logic.{⊎_elim}
use mathlib.Core.Path.{◌≡◌, sym, ap, ◌∙◌}
use Prim.Native.Nat.{ℕ, zero, suc, ◌-◌, ◌≤◌, ◌<◌}
use native.Mathlib.Omega.{arith}
use Rattle.combinatorics.proofs.Basics.{absurd_bool, same_or, before_or_not}
use Rattle.geometry.proofs.Bridge.{chain-place, zeros-yes, zeros-no, zeros-out}
use Rattle.geometry.proofs.Chains
use Rattle.geometry.proofs.Definitions.{back, Blocks, Chain, Free, plus, zeros, BackOutside}
use Rattle.geometry.proofs.Grow.{plus_is}
use Rattle.geometry.proofs.Moves.{next-run}

-- going forward and then back
back-forward : (R : Blocks) (n g i : ℕ) → i ≤ n → back R.previous i (back R.next n g) ≡ back R.next (n - i) g
back-forward R n g zero l = let w : n ≡ n - 0 = omega arith in ap (λ (m : ℕ). back R.next m g) w
back-forward R n g (suc i) l =
    let w : n - i ≡ suc (n - suc i) = omega arith in
    ap R.previous (back-forward R n g i (omega arith) ∙ ap (λ (m : ℕ). back R.next m g) w)
    ∙ R.previous-next (back R.next (n - suc i) g)

module _ {R : Blocks} {T : ℕ → Bool} {t : ℕ} {p : ℕ → ℕ → ℕ} {o : ℕ → ℕ} (K : Chain R T t p o) (g : ℕ)
    (out : T g ≡ false) where
  -- an index of g's block other than g, in neither T nor U, leaves room
  pub room : (k : ℕ) → R.block k ≡ R.block g → (k ≡ g → ⊥) → T k ≡ false → zeros R T (p 0) k ≡ false
      → Free R (plus T g) (p 0)
  room k b n e z h =
      let L = plus_is T g out in
      ⊎_elim (λ (q : R.block h ≡ R.block g). (k, b ∙ sym q, sym (L.rest k n) ∙ e, zeros-no K k z e))
      (λ q. let f = K.free h in (f.0, f.1, sym (L.rest f.0 (λ w. q (sym f.1 ∙ ap R.block w))) ∙ f.2, f.3))
      (same_or (R.block h) (R.block g))

  -- g in U leaves the index that there is
  pub room_in_U : zeros R T (p 0) g ≡ true → Free R (plus T g) (p 0)
  room_in_U u =
      let f = K.free g in
      let z = zeros-out K f.0 f.2 f.3 in
      room f.0 f.1 (λ e. absurd_bool (sym u ∙ ap (zeros R T (p 0)) (sym e) ∙ z)) f.2 z

  -- g is in U, and the n-th index going forward from it is the first that is not
  module _ (u : zeros R T (p 0) g ≡ true) (n : ℕ)
      (skipped : (j : ℕ) → 0 < j → j < n → zeros R T (p 0) (back R.next j g) ≡ true) where
    passed : (j : ℕ) → j < n → zeros R T (p 0) (back R.next j g) ≡ true
    passed zero l = u
    passed (suc j) l = skipped (suc j) (omega arith) l

    -- it is in T: the coefficient at g rises at its step
    pub rises_with : 0 < n → (j : ℕ) → j < t → o j ≡ back R.next n g → p (suc j) g ≡ suc (p j g)
    rises_with some j l e =
        let w = (chain-place K).step j l in
        let B : BackOutside R (zeros R T (p 0)) (o j) w.0 = record {
          some = w.1.some;
          skipped = w.1.skipped;
          stops = w.1.stops;
        } in
        let at : (i : ℕ) → i ≤ n → back R.previous i (o j) ≡ back R.next (n - i) g = λ i m.
        ap (back R.previous i) e ∙ back-forward R n g i m in
        next-run K j l B g (
          n,
          ⊎_elim
              (λ m. m)
              (λ (m : w.0 ≤ n). absurd_bool
              (sym (passed (n - w.0) (omega (arith, w.1.some)))
              ∙ ap (zeros R T (p 0)) (sym (at w.0 m))
              ∙ w.1.stops))
              (before_or_not n w.0),
          at n (omega arith) ∙ (let z : n - n ≡ 0 = omega arith in ap (λ (m : ℕ). back R.next m g) z),
        )

    -- it is not: the coefficient at g stays 0
    pub stays_with : T (back R.next n g) ≡ false → zeros R T (p 0) (back R.next n g) ≡ false → (i : ℕ) → i ≤ t
        → p i g ≡ p 0 g
    stays_with e z i l = all i l ∙ sym (all 0 (omega arith))
      where
        go : (i : ℕ) → i ≤ t → (m : ℕ) → m ≤ n → p i (back R.next m g) ≡ 0 → p i g ≡ 0
        go i l zero a q = q
        go i l (suc m) a q =
            go i l m (omega arith) (omega (arith, q, K.tight i l (back R.next m g) (zeros-yes K _ (passed m a)).0))

        all : (i : ℕ) → i ≤ t → p i g ≡ 0
        all i l = go i l n (omega arith) (Chains.free-zero K _ e (zeros-no K _ z e) i l)
