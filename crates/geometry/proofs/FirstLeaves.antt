-- The first point leaves: the zeros of the next point, and the block that the facet fills, if any. Assumes nothing.
use mathlib.Core.Bool.{Bool, true, false, not, ◌&&◌, ◌||◌}
use mathlib.Core.Logic.{⊎_elim}
use mathlib.Core.Path.{◌≡◌, refl, sym, ap, ◌∙◌}
use Prim.Native.Nat.{ℕ, suc}
use borrow.Author.Tests.{eqb-true, eq-eqb, ne_eqb, not-true}
use lib.Dec.{eqb}
use native.Mathlib.Omega.{arith}
use Rattle.combinatorics.proofs.Basics.{true_or_false, absurd_bool, same_or, and_right, false_of}
use Rattle.geometry.proofs.Bridge.{zeros-yes, zeros-no}
use Rattle.geometry.proofs.Chains
use Rattle.geometry.proofs.Definitions.{back, Blocks, Chain, coord, zeros, Filled, Moved, BackOutside}
use Rattle.geometry.proofs.Grow.{zero-stays}
use Rattle.geometry.proofs.Moves.{next-moved}
use Rattle.geometry.proofs.Search.{block_back}

or_none : (a : Bool) → a ≡ (a || false)
or_none true = refl
or_none false = refl

module _ {R : Blocks} {T : ℕ → Bool} {s : ℕ} {p : ℕ → ℕ → ℕ} {o : ℕ → ℕ} (K : Chain R T (suc s) p o) {n : ℕ}
    (B : BackOutside R (zeros R T (p 0)) (o 0) n) where
  -- where its step takes 1 away
  abbrev pub b : ℕ
  b = back R.previous n (o 0)

  -- b joins U
  abbrev pub joins : Bool
  joins = eqb (coord R (p 0) b) 1 && not (T b)

  pub moved : Moved R (o 0) b (p 0) (p 1)
  moved = next-moved K 0 (omega arith) B

  -- outside T a coordinate falls at b alone
  else : (k : ℕ) → T k ≡ false → (k ≡ b → ⊥) → coord R (p 1) k ≡ coord R (p 0) k
  else k e x = moved.rest k (λ q. absurd_bool (sym (K.order.within 0 (omega arith)) ∙ ap T (sym q) ∙ e)) x

  joins_in : T b ≡ true → joins ≡ false
  joins_in e =
      false_of joins (λ g. absurd_bool (sym e ∙ not-true (T b) (and_right (eqb (coord R (p 0) b) 1) (not (T b)) g)))

  joins-is : T b ≡ false → joins ≡ eqb (coord R (p 1) b) 0
  joins-is e = ⊎_elim
      (λ (z : coord R (p 1) b ≡ 0).
      rw (e, eq-eqb (coord R (p 0) b) 1 (omega (arith, moved.gives)), eq-eqb (coord R (p 1) b) 0 z))
      (λ (z : coord R (p 1) b ≡ 0 → ⊥).
      rw (ne_eqb (coord R (p 0) b) 1 (λ q. z (omega (arith, moved.gives))), ne_eqb (coord R (p 1) b) 0 z))
      (same_or (coord R (p 1) b) 0)

  -- the zeros of the next point
  pub zeros-next : (k : ℕ) → zeros R T (p 1) k ≡ (eqb k b && joins || zeros R T (p 0) k)
  unfolding zeros
  zeros-next k =
      ⊎_elim (λ (t : T k ≡ true). rw t (in_T t)) (λ (t : T k ≡ false). rw t (out-T t)) (true_or_false (T k))
    where
      in_T : T k ≡ true → false ≡ (eqb k b && joins || false)
      in_T t =
          ⊎_elim (λ (q : k ≡ b). rw (eq-eqb k b q, joins_in (ap T (sym q) ∙ t))) (λ x. rw (ne_eqb k b x)) (same_or k b)

      out-T : T k ≡ false → eqb (coord R (p 1) k) 0 ≡ (eqb k b && joins || eqb (coord R (p 0) k) 0)
      out-T t = ⊎_elim
          (λ (q : k ≡ b). rw q (rw (eq-eqb b b refl, ne_eqb (coord R (p 0) b) 0 (λ z. omega (arith, moved.gives)))
          (sym (joins-is (ap T (sym q) ∙ t)) ∙ or_none joins)))
          (λ x. rw (ne_eqb k b x) (ap (λ (c : ℕ). eqb c 0) (else k t x)))
          (same_or k b)

  -- where b joins U and every other index of its block is in T or U, the block is filled
  pub filled : joins ≡ true → ((k : ℕ) → R.block k ≡ R.block b → (k ≡ b → ⊥) → T k ≡ false → zeros R T (p 0) k ≡ true)
      → Filled R T s p 0 b
  filled g f k e t j l x =
      ⊎_elim
      (λ (q : k ≡ b). let z : coord R (p 1) b ≡ 0 = eqb-true _ 0 (sym (joins-is (ap T (sym q) ∙ t)) ∙ g) in
      omega (
        arith,
        ap (coord R (p 1)) q,
        z,
        K.tight 1 (omega arith) k t,
        K.tight j l k t,
        Chains.rise K 1 j (let y : (j ≡ 0 → ⊥) = x in omega arith) l (R.next k),
      )) (λ q. zero-stays K k t (zeros-yes K k (f k e q t)).1 j l) (same_or k b)

  -- and only there
  pub filled-only : Filled R T s p 0 (o 0)
      → (joins ≡ true) × ((k : ℕ) → R.block k ≡ R.block b → (k ≡ b → ⊥) → T k ≡ false → zeros R T (p 0) k ≡ false → ⊥)
  filled-only F =
      let f = K.free (o 0) in
      let z : coord R (p 1) f.0 ≡ 0 = F f.0 f.1 f.2 1 (omega arith) (λ q. omega arith) in
      let q : f.0 ≡ b = ⊎_elim (λ q. q) (λ x. absurd (omega (arith, else f.0 f.2 x, z, f.3))) (same_or f.0 b) in (
        joins-is (ap T (sym q) ∙ f.2) ∙ eq-eqb _ 0 (ap (coord R (p 1)) (sym q) ∙ z),
        λ k e x t u. omega (
          arith,
          F k (e ∙ block_back R n (o 0)) t 1 (omega arith) (λ q. omega arith),
          else k t x,
          zeros-no K k u t,
        ),
      )
