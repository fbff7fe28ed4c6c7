-- Points in rising order: two lists that share all points but one of each share them in the same order, and a list
-- whose points are all in a list one longer is that list less one. Assumes nothing.
use mathlib.Core.Bool.{Bool}
use mathlib.Core.Logic.{◌⊎◌, inl, inr, ⊎_elim}
use mathlib.Core.Path.{◌≡◌, sym, ap, ◌∙◌, fun_ext}
use Prim.Native.Nat.{ℕ, zero, suc, ◌+◌, ◌-◌, ◌≤◌, ◌<◌}
use native.Mathlib.Omega.{arith}
use Rattle.geometry.proofs.Chains
use Rattle.combinatorics.proofs.Basics.{before_or_not}
use Rattle.geometry.proofs.Definitions.{Blocks, Chain, Omit, omit, Rising}
use Rattle.geometry.proofs.Labels.{from_omit, to_omit, miss}
use Rattle.geometry.proofs.Ways.{omit_is}

-- a rising map of the numbers below n to themselves moves none
module _ (n : ℕ) (f : ℕ → ℕ) (low : (j : ℕ) → j < n → f j < n) (mono : (i j : ℕ) → i < j → j < n → f i < f j) where
  fixed_from : (j : ℕ) → j < n → j ≤ f j
  fixed_from zero l = omega arith
  fixed_from (suc j) l = omega (arith, fixed_from j (omega arith), mono j (suc j) (omega arith) l)

  fixed_to : (d j : ℕ) → j + d < n → f j + d < n
  fixed_to zero j l = let e : j + 0 ≡ j = omega arith in omega (arith, low j (omega arith))
  fixed_to (suc d) j l = omega (arith, fixed_to d (suc j) (omega arith), mono j (suc j) (omega arith) (omega arith))

  pub fixed : (j : ℕ) → j < n → f j ≡ j
  fixed j l = omega (arith, fixed_from j l, fixed_to (n - 1 - j) j (omega arith))

module _ {n : ℕ} {q r : ℕ → ℕ → ℕ} (rq : Rising n q) (rr : Rising n r) (f : ℕ → ℕ) (f-low : (j : ℕ) → j < n → f j < n)
    (f-is : (j : ℕ) → j < n → r (f j) ≡ q j) where
  f_mono : (i j : ℕ) → i < j → j < n → f i < f j
  f_mono i j a b = ⊎_elim
      (λ x. x)
      (λ (x : f j ≤ f i). absurd (rq.new i j a b (⊎_elim
      (λ (y : f j < f i). fun_ext (λ k.
      let u = ap (λ (g : ℕ → ℕ). g k) (f-is i (omega arith)) in
      let w = ap (λ (g : ℕ → ℕ). g k) (f-is j b) in
      omega (arith, rq.up i j a b k, rr.up (f j) (f i) y (f-low i (omega arith)) k, u, w)))
      (λ (y : f i ≤ f j). let e : f i ≡ f j = omega arith in sym (f-is i (omega arith)) ∙ ap r e ∙ f-is j b)
      (before_or_not (f j) (f i)))))
      (before_or_not (f i) (f j))

  -- so the two go side by side
  pub side_by_side : (j : ℕ) → j < n → r j ≡ q j
  side_by_side j l = ap r (sym (fixed n f f-low f_mono j l)) ∙ f-is j l

rising_omit : {n i : ℕ} {p q : ℕ → ℕ → ℕ} → Omit n i p q → Rising (suc n) p → Rising n q
rising_omit {n} {i} {p} {q} m r = record {
  up = λ a b l h k. let u = from_omit a m (omega arith) in let w = from_omit b m h in
      let z = place a b l u.0 w.0 u.4 w.4 in
      omega (arith, r.up u.0 w.0 z w.2 k, ap (λ (g : ℕ → ℕ). g k) u.1, ap (λ (g : ℕ → ℕ). g k) w.1);
  new = λ a b l h e. let u = from_omit a m (omega arith) in let w = from_omit b m h in
      r.new u.0 w.0 (place a b l u.0 w.0 u.4 w.4) w.2 (sym u.1 ∙ e ∙ w.1);
}
  where
    place : (a b : ℕ) → a < b → (f g : ℕ) → ((a < i) × (f ≡ a)) ⊎ ((i ≤ a) × (f ≡ suc a))
        → ((b < i) × (g ≡ b)) ⊎ ((i ≤ b) × (g ≡ suc b)) → f < g
    place a b l f g (inl x) (inl y) = omega arith
    place a b l f g (inl x) (inr y) = omega arith
    place a b l f g (inr x) (inl y) = omega arith
    place a b l f g (inr x) (inr y) = omega arith

pub rising-chain : {R : Blocks} {T : ℕ → Bool} {t : ℕ} {p : ℕ → ℕ → ℕ} {o : ℕ → ℕ} → Chain R T t p o → Rising (suc t) p
rising-chain {R} {T} {t} {p} {o} K = record {
  up = λ i j a b k. Chains.rise K i j (omega arith) (omega arith) k;
  new = λ i j a b e. omega (
    arith,
    ap (λ (g : ℕ → ℕ). g (o i)) e,
    Chains.before_raise K i i (omega arith) (omega arith),
    Chains.after_raise K i j a (omega arith),
  );
}

-- a place for each j below n, from a proof that there is one
pub choose : (n : ℕ) (P : ℕ → ℕ → Type 0) → ((j : ℕ) → j < n → (i : ℕ) × P j i)
    → (f : ℕ → ℕ) × ((j : ℕ) → j < n → P j (f j))
choose n P h = (λ j. ⊎_elim (λ (x : j < n). (h j x).0) (λ x. 0) (before_or_not j n), λ j l. go j l (before_or_not j n))
  where
    go : (j : ℕ) → j < n → (s : (j < n) ⊎ (n ≤ j)) → P j (⊎_elim {C = ℕ} (λ (x : j < n). (h j x).0) (λ x. 0) s)
    go j l (inl x) = (h j x).1
    go j l (inr x) = absurd (omega arith)

-- p and p', of n + 1 points in rising order, share all but i and i': the rest go side by side
pub shares : {n : ℕ} (i i' : ℕ) {p p' : ℕ → ℕ → ℕ} → Rising (suc n) p → Rising (suc n) p' → i ≤ n → i' ≤ n
    → ((j : ℕ) → j ≤ n → (j ≡ i → ⊥) → (f : ℕ) × (f ≤ n) × (f ≡ i' → ⊥) × (p' f ≡ p j)) → Omit n i' p' (omit i p)
shares {n} i i' {p} {p'} rp rp' a b h =
    let m = omit_is n i p in
    let m' = omit_is n i' p' in
    let c = choose n (λ j f. (f < n) × (omit i' p' f ≡ omit i p j)) (λ j l.
    let u = from_omit j m l in
    let w = h u.0 (omega (arith, u.2)) u.3 in
    let z = to_omit w.0 m' b w.1 w.2 in
    (z.0, (z.1, z.2 ∙ w.3 ∙ sym u.1))) in
    let e = side_by_side (rising_omit m rp) (rising_omit m' rp') c.0 (λ j l. (c.1 j l).0) (λ j l. (c.1 j l).1) in
    record { lower = λ j l x. sym (e j l) ∙ m'.lower j l x; upper = λ j l x. sym (e j l) ∙ m'.upper j l x }

-- all n points of q are among the n + 1 of p, both in rising order: q is p less one
pub part_of : {n : ℕ} {p q : ℕ → ℕ → ℕ} → Rising (suc n) p → Rising n q
    → ((j : ℕ) → j < n → (f : ℕ) × (f ≤ n) × (p f ≡ q j))
    → (i : ℕ) × (i ≤ n) × Omit n i p q
part_of {n} {p} {q} rp rq h =
    go (choose n (λ j f. (f ≤ n) × (p f ≡ q j)) (λ j l. let w = h j l in (w.0, (w.1, w.2))))
  where
    go : (f : ℕ → ℕ) × ((j : ℕ) → j < n → (f j ≤ n) × (p (f j) ≡ q j)) → (i : ℕ) × (i ≤ n) × Omit n i p q
    go c =
        let M = miss n c.0 (λ j l. (c.1 j l).0) inj in
        let m = omit_is n M.0 p in
        let d = choose n
        (λ j g. (g < n) × (omit M.0 p g ≡ q j))
        (λ j l.
        let z = to_omit (c.0 j) m M.1.bound (c.1 j l).0 (M.1.never j l) in
        (z.0, (z.1, z.2 ∙ (c.1 j l).1))) in
        let e = side_by_side rq (rising_omit m rp) d.0 (λ j l. (d.1 j l).0) (λ j l. (d.1 j l).1) in (
          M.0,
          M.1.bound,
          record { lower = λ j l x. sym (e j l) ∙ m.lower j l x; upper = λ j l x. sym (e j l) ∙ m.upper j l x },
        )
      where
        inj : (i j : ℕ) → i < n → j < n → c.0 i ≡ c.0 j → i ≡ j
        inj i j a b e =
            let w : q i ≡ q j = sym (c.1 i a).1 ∙ ap p e ∙ (c.1 j b).1 in
            ⊎_elim
            (λ (x : i < j). absurd (rq.new i j x b w))
            (λ (x : j ≤ i).
            ⊎_elim (λ (y : j < i). absurd (rq.new j i y a (sym w))) (λ y. omega arith) (before_or_not j i))
            (before_or_not i j)
