-- U along a link of the geometry, U being the zeros of the first point outside T: where T is kept, U is kept, gains an
-- index or loses one; where an index comes into T, U is kept or loses that index. Assumes nothing.
use mathlib.Core.Bool.{Bool, true, false, ◌&&◌, ◌||◌}
use mathlib.Core.Logic.{◌⊎◌, inl, inr, ⊎_elim}
use mathlib.Core.Path.{◌≡◌, refl, sym, ap, ◌∙◌}
use Prim.Native.Nat.{ℕ, suc, ◌≤◌}
use borrow.Author.Tests.{eq-eqb, ne_eqb}
use lib.Dec.{eqb}
use native.Mathlib.Omega.{arith}
use Rattle.combinatorics.proofs.Basics.{true_or_false, same_or}
use Rattle.geometry.proofs.Bridge.{chain-place}
use Rattle.geometry.proofs.Definitions.{Blocks, Chain, Goes, BackOutside, Less, Beside, Grown, zeros}
use Rattle.geometry.proofs.FirstLeaves
use Rattle.geometry.proofs.Grow.{grown_at_lem}
use Rattle.geometry.proofs.Unique.{kind, goes_last, goes_first, stays}

-- a set of indices is kept, gains an index or loses one
abbrev pub Exchange : (ℕ → Bool) → (ℕ → Bool) → Type 0
Exchange U U' = ((k : ℕ) → U' k ≡ U k) ⊎ (((g : ℕ) × Less U' U g) ⊎ ((g : ℕ) × Less U U' g))

-- the second point as the first: U is kept, or gains an index
module _ {R : Blocks} {T : ℕ → Bool} {s : ℕ} {p : ℕ → ℕ → ℕ} {o : ℕ → ℕ} (K : Chain R T (suc s) p o) where
  next-zeros : ((k : ℕ) → zeros R T (p 1) k ≡ zeros R T (p 0) k)
      ⊎ ((g : ℕ) × Less (zeros R T (p 1)) (zeros R T (p 0)) g)
  next-zeros = go ((chain-place K).step 0 (omega arith))
    where
      go : (n : ℕ) × Goes R (zeros R T (p 0)) (o 0) (p 0) (p 1) n
          → ((k : ℕ) → zeros R T (p 1) k ≡ zeros R T (p 0) k) ⊎ ((g : ℕ) × Less (zeros R T (p 1)) (zeros R T (p 0)) g)
      go w = ⊎_elim joined (λ (f : J ≡ false). inl (λ k. N k ∙ (rw f (and_none k)))) (true_or_false J)
        where
          B : BackOutside R (zeros R T (p 0)) (o 0) w.0
          B = record { some = w.1.some; skipped = w.1.skipped; stops = w.1.stops }

          J : Bool
          J = FirstLeaves.joins K B

          b : ℕ
          b = FirstLeaves.b K B

          N : (k : ℕ) → zeros R T (p 1) k ≡ (eqb k b && J || zeros R T (p 0) k)
          N = FirstLeaves.zeros-next K B

          and_none : (k : ℕ) → (eqb k b && false || zeros R T (p 0) k) ≡ zeros R T (p 0) k
          and_none k = ⊎_elim (λ t. rw t) (λ f. rw f) (true_or_false (eqb k b))

          joined : J ≡ true
              → ((k : ℕ) → zeros R T (p 1) k ≡ zeros R T (p 0) k)
              ⊎ ((g : ℕ) × Less (zeros R T (p 1)) (zeros R T (p 0)) g)
          joined j = inr (
            b,
            record {
              has = N b ∙ (rw (j, eq-eqb b b refl));
              out = w.1.stops;
              rest = λ k n. sym (N k ∙ (rw (ne_eqb k b n)));
            },
          )

module _ {R : Blocks} {T : ℕ → Bool} {s : ℕ} {p : ℕ → ℕ → ℕ} {o : ℕ → ℕ} (K : Chain R T (suc s) p o) where
  -- a point is exchanged
  pub beside-zeros : {p' : ℕ → ℕ → ℕ} {o' : ℕ → ℕ} {i i' : ℕ} → i ≤ suc s → Beside R T s p i p' o' i'
      → Exchange (zeros R T (p 0)) (zeros R T (p' 0))
  beside-zeros {p'} {o'} {i} {i'} l B = ⊎_elim
      (λ (e : i ≡ 0).
      let A : Beside R T s p 0 p' o' i' = rw e at B in
      let w : i' ≡ suc s = goes_last K p' o' i' A in
      let q : p' 0 ≡ p 1 =
      sym (A.omits_there.lower 0 (omega arith) (omega arith)) ∙ A.omits_here.upper 0 (omega arith) (omega arith) in
      rw q (⊎_elim (λ k. inl k) (λ g. inr (inl g)) (next-zeros K)))
      (λ x. ⊎_elim
      (λ (e : i ≡ suc s).
      let A : Beside R T s p (suc s) p' o' i' = rw e at B in
      let w : i' ≡ 0 = goes_first K p' o' i' A in
      let q : p 0 ≡ p' 1 =
      sym (A.omits_here.lower 0 (omega arith) (omega arith)) ∙ A.omits_there.upper 0 (omega arith) (omega arith) in
      rw q (⊎_elim (λ k. inl (λ j. sym (k j))) (λ g. inr (inr g)) (next-zeros A.chain)))
      (λ a.
      let A : Beside R T s p (suc a.0) p' o' i' = rw a.2 at B in
      let w : i' ≡ suc a.0 = stays K p' o' i' a.1 A in
      let q : p' 0 ≡ p 0 =
      sym (A.omits_there.lower 0 (omega arith) (omega arith)) ∙ A.omits_here.lower 0 (omega arith) (omega arith) in
      inl (λ k. ap (λ (c : ℕ → ℕ). zeros R T c k) q))
      x)
      (kind s i l)

-- an index g comes into T: the first point stays, so U is kept or loses g
pub grown_zeros : {R : Blocks} {T T' : ℕ → Bool} {g s : ℕ} {q p : ℕ → ℕ → ℕ} {u o : ℕ → ℕ} {i : ℕ} → Less T T' g
    → Chain R T' s q u → Grown R T s q p o i
    → ((k : ℕ) → zeros R T (p 0) k ≡ zeros R T' (q 0) k) ⊎ Less (zeros R T' (q 0)) (zeros R T (p 0)) g
unfolding zeros
grown_zeros {R} {T} {T'} {g} {s} {q} {p} {u} {o} {i} L K G =
    let w = grown_at_lem L K G in
    let e : q 0 ≡ p 0 = G.cut.lower 0 (omega arith) (omega (arith, w.3)) in
    let rest : (k : ℕ) → (k ≡ g → ⊥) → zeros R T (p 0) k ≡ zeros R T' (q 0) k = λ k n. rw (e, L.rest k n) in
    ⊎_elim
    (λ (z : zeros R T' (q 0) g ≡ true). inr (record { has = z; out = rw L.has; rest = rest }))
    (λ (z : zeros R T' (q 0) g ≡ false).
    inl (λ k. ⊎_elim (λ (x : k ≡ g). rw (x, L.has) (sym z)) (rest k) (same_or k g)))
    (true_or_false (zeros R T' (q 0) g))
