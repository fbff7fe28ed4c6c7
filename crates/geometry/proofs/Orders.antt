-- Orders of T: rotated, with two neighbours exchanged, less an index, with one index more, each an order again.
-- Assumes nothing.
use mathlib.Core.Bool.{Bool, true, false}
use mathlib.Core.Logic.{◌⊎◌, inl, inr, ⊎_elim}
use mathlib.Core.Path.{◌≡◌, refl, sym, ap, ◌∙◌}
use Prim.Native.Nat.{ℕ, zero, suc, ◌-◌, ◌≤◌, ◌<◌}
use native.Mathlib.Omega.{arith}
use Rattle.combinatorics.proofs.Basics.{absurd_bool, same_or, before_or_not}
use Rattle.geometry.proofs.Definitions.{Order, Less, Omit, Rotate, Swap}

pub lt_or : (j s : ℕ) → j < suc s → (j < s) ⊎ (j ≡ s)
lt_or j s l = ⊎_elim (λ q. inl q) (λ q. inr (omega arith)) (before_or_not j s)

pub zero_or : (j : ℕ) → (j ≡ 0) ⊎ ((i : ℕ) × (j ≡ suc i))
zero_or zero = inl refl
zero_or (suc j) = inr (j, refl)

-- the entries of o in other places: entry j of q is entry f of o where P j f
permuted : {T : ℕ → Bool} {t : ℕ} {o q : ℕ → ℕ} (P : ℕ → ℕ → Type 0) → Order T t o
    → ((j : ℕ) → j < t → (f : ℕ) × (f < t) × (q j ≡ o f) × P j f) → ((i j f : ℕ) → P i f → P j f → i ≡ j)
    → ((f : ℕ) → f < t → (j : ℕ) × (j < t) × (q j ≡ o f)) → Order T t q
permuted P O from apart onto = record {
  within = λ j l. let f = from j l in rw f.2 (O.within f.0 f.1);
  once = λ i j a b e. let f = from i a in let g = from j b in
      let w : f.0 ≡ g.0 = O.once f.0 g.0 f.1 g.1 (sym f.2 ∙ e ∙ g.2) in
      apart i j g.0 (rw w at f.3) g.3;
  all = λ k e. let a = O.all k e in let j = onto a.0 a.1 in (j.0, j.1, j.2 ∙ a.2);
}

module _ {T : ℕ → Bool} {o q : ℕ → ℕ} where
  pub rotate_order : {s : ℕ} → Order T (suc s) o → Rotate s o q → Order T (suc s) q
  rotate_order {s} O r = permuted
      (λ j f. ((j < s) × (f ≡ suc j)) ⊎ ((j ≡ s) × (f ≡ 0)))
      O
      (λ j l. ⊎_elim
      (λ (x : j < s). (suc j, omega arith, r.back j x, inl (x, refl)))
      (λ (x : j ≡ s). (0, omega arith, ap q x ∙ r.last, inr (x, refl)))
      (lt_or j s l))
      (λ i j f x y. ⊎_elim
      (λ u. ⊎_elim (λ v. omega arith) (λ v. omega arith) y)
      (λ u. ⊎_elim (λ v. omega arith) (λ v. omega arith) y)
      x)
      (λ f l. ⊎_elim
      (λ (z : f ≡ 0). (s, omega arith, r.last ∙ ap o (sym z)))
      (λ z. (z.0, omega (arith, z.1), r.back z.0 (omega (arith, z.1)) ∙ ap o (sym z.1)))
      (zero_or f))

  -- o is q rotated: the last of o is the first of q
  pub unrotate_order : {s : ℕ} → Order T (suc s) o → Rotate s q o → Order T (suc s) q
  unrotate_order {s} O r = permuted
      (λ j f. ((j ≡ 0) × (f ≡ s)) ⊎ ((f < s) × (j ≡ suc f)))
      O
      (λ j l. ⊎_elim
      (λ (x : j ≡ 0). (s, omega arith, ap q x ∙ sym r.last, inl (x, refl)))
      (λ x. (
        x.0,
        omega (arith, x.1),
        ap q x.1 ∙ sym (r.back x.0 (omega (arith, x.1))),
        inr (omega (arith, x.1), x.1),
      ))
      (zero_or j))
      (λ i j f x y. ⊎_elim
      (λ u. ⊎_elim (λ v. omega arith) (λ v. omega arith) y)
      (λ u. ⊎_elim (λ v. omega arith) (λ v. omega arith) y)
      x)
      (λ f l. ⊎_elim
      (λ (x : f < s). (suc f, omega arith, sym (r.back f x)))
      (λ (x : f ≡ s). (0, omega arith, sym r.last ∙ ap o (sym x)))
      (lt_or f s l))

  pub swap_order : {t i : ℕ} → suc i < t → Order T t o → Swap i o q → Order T t q
  swap_order {t} {i} s O w = permuted Exchanged O
      (λ j l. ⊎_elim
      (λ (x : j ≡ i). (suc i, s, ap q x ∙ w.here, inl (x, refl)))
      (λ x. ⊎_elim
      (λ (y : j ≡ suc i). (i, omega arith, ap q y ∙ w.next, inr (inl (y, refl))))
      (λ y. (j, l, w.rest j x y, inr (inr (x, y, refl))))
      (same_or j (suc i)))
      (same_or j i))
      apart
      (λ f l. ⊎_elim
      (λ (z : f ≡ i). (suc i, s, w.next ∙ ap o (sym z)))
      (λ n. ⊎_elim
      (λ (z : f ≡ suc i). (i, omega arith, w.here ∙ ap o (sym z)))
      (λ z. (f, l, w.rest f n z))
      (same_or f (suc i)))
      (same_or f i))
    where
      Exchanged : ℕ → ℕ → Type 0
      Exchanged j f = ((j ≡ i) × (f ≡ suc i)) ⊎ (((j ≡ suc i) × (f ≡ i)) ⊎ ((j ≡ i → ⊥) × (j ≡ suc i → ⊥) × (f ≡ j)))

      apart : (a b f : ℕ) → Exchanged a f → Exchanged b f → a ≡ b
      apart a b f (inl u) (inl v) = omega arith
      apart a b f (inl u) (inr (inl v)) = omega arith
      apart a b f (inl u) (inr (inr v)) = omega arith
      apart a b f (inr (inl u)) (inl v) = omega arith
      apart a b f (inr (inl u)) (inr (inl v)) = omega arith
      apart a b f (inr (inl u)) (inr (inr v)) = omega arith
      apart a b f (inr (inr u)) (inl v) = omega arith
      apart a b f (inr (inr u)) (inr (inl v)) = omega arith
      apart a b f (inr (inr u)) (inr (inr v)) = omega arith

-- less an index
pub less_in : {T T' : ℕ → Bool} {b : ℕ} → Less T T' b → (k : ℕ) → T' k ≡ true → (T k ≡ true) × (k ≡ b → ⊥)
less_in {T} {T'} {b} L k e =
    let n : (k ≡ b → ⊥) = λ q. absurd_bool (sym e ∙ ap T' q ∙ L.out) in
    (sym (L.rest k n) ∙ e, n)

pub less_out : {T T' : ℕ → Bool} {b : ℕ} → Less T T' b → (k : ℕ) → T k ≡ false → T' k ≡ false
less_out {T} {T'} {b} L k e = L.rest k (λ q. absurd_bool (sym L.has ∙ ap T (sym q) ∙ e)) ∙ e

pub less_back : {T T' : ℕ → Bool} {b : ℕ} → Less T T' b → (k : ℕ) → T k ≡ true → (k ≡ b) ⊎ (T' k ≡ true)
less_back {T} {T'} {b} L k e = ⊎_elim (λ q. inl q) (λ n. inr (L.rest k n ∙ e)) (same_or k b)

module _ {T T' : ℕ → Bool} {o q : ℕ → ℕ} where
  -- q is o less its entry i
  pub omit_order : {s i : ℕ} → i ≤ s → Order T (suc s) o → Less T T' (o i) → Omit s i o q → Order T' s q
  omit_order {s} {i} le O L m = record { within = within; once = once; all = all }
    where
      from : (j : ℕ) → j < s
          → (f : ℕ) × (q j ≡ o f) × (f < suc s) × (f ≡ i → ⊥) × (((j < i) × (f ≡ j)) ⊎ ((i ≤ j) × (f ≡ suc j)))
      from j l = ⊎_elim
          (λ x. (j, m.lower j l x, omega arith, (λ e. omega arith), inl (x, refl)))
          (λ x. (suc j, m.upper j l x, omega arith, (λ e. omega arith), inr (x, refl)))
          (before_or_not j i)

      within : (j : ℕ) → j < s → T' (q j) ≡ true
      within j l =
          let f = from j l in
          rw f.1 (L.rest (o f.0) (λ e. f.3 (O.once f.0 i f.2 (omega arith) e)) ∙ O.within f.0 f.2)

      once : (j k : ℕ) → j < s → k < s → q j ≡ q k → j ≡ k
      once j k x y e =
          let f = from j x in
          let g = from k y in
          let w : f.0 ≡ g.0 = O.once f.0 g.0 f.2 g.2 (sym f.1 ∙ e ∙ g.1) in
          ⊎_elim
          (λ z. ⊎_elim (λ u. omega arith) (λ u. omega arith) g.4)
          (λ z. ⊎_elim (λ u. omega arith) (λ u. omega arith) g.4)
          f.4

      all : (k : ℕ) → T' k ≡ true → (j : ℕ) × (j < s) × (q j ≡ k)
      all k e =
          let z = less_in L k e in
          let a = O.all k z.0 in
          let n : (a.0 ≡ i → ⊥) = λ w. z.1 (sym a.2 ∙ ap o w) in
          ⊎_elim (λ (x : a.0 < i). (a.0, omega arith, m.lower a.0 (omega arith) x ∙ a.2))
          (λ (x : i ≤ a.0). let w : suc (a.0 - 1) ≡ a.0 = omega arith in
          (a.0 - 1, omega (arith, a.1), m.upper (a.0 - 1) (omega (arith, a.1)) (omega arith) ∙ ap o w ∙ a.2))
          (before_or_not a.0 i)

  -- o is q and one more entry, at i
  pub insert-order : {s i : ℕ} → i ≤ s → Order T' s q → Less T T' (o i) → Omit s i o q → Order T (suc s) o
  insert-order {s} {i} le O L m = record { within = within; once = once; all = all }
    where
      from : (j : ℕ) → j < suc s
          → (j ≡ i) ⊎ ((f : ℕ) × (o j ≡ q f) × (f < s) × (((f < i) × (j ≡ f)) ⊎ ((i ≤ f) × (j ≡ suc f))))
      from j l = ⊎_elim
          (λ (x : j < i). inr (j, sym (m.lower j (omega arith) x), omega arith, inl (x, refl)))
          (λ (x : i ≤ j). ⊎_elim
          (λ (e : j ≡ i). inl e)
          (λ n.
          let w : suc (j - 1) ≡ j = omega arith in
          inr (
            j - 1,
            ap o (sym w) ∙ sym (m.upper (j - 1) (omega arith) (omega arith)),
            omega arith,
            inr (omega arith, sym w),
          ))
          (same_or j i))
          (before_or_not j i)

      within : (j : ℕ) → j < suc s → T (o j) ≡ true
      within j l = ⊎_elim (λ e. rw e L.has) (λ f. rw f.1 (less_in L (q f.0) (O.within f.0 f.2)).0) (from j l)

      clash : (j k f : ℕ) → j ≡ i → f < s → o k ≡ q f → o j ≡ o k → ⊥
      clash j k f e l w d = (less_in L (q f) (O.within f l)).1 (sym w ∙ sym d ∙ ap o e)

      once : (j k : ℕ) → j < suc s → k < suc s → o j ≡ o k → j ≡ k
      once j k x y e = ⊎_elim
          (λ z. ⊎_elim (λ u. omega arith) (λ u. absurd (clash j k u.0 z u.2 u.1 e)) (from k y))
          (λ z. ⊎_elim
          (λ u. absurd (clash k j z.0 u z.2 z.1 (sym e)))
          (λ u.
          let w : z.0 ≡ u.0 = O.once z.0 u.0 z.2 u.2 (sym z.1 ∙ e ∙ u.1) in
          ⊎_elim
          (λ b. ⊎_elim (λ d. omega arith) (λ d. omega arith) u.3)
          (λ b. ⊎_elim (λ d. omega arith) (λ d. omega arith) u.3)
          z.3)
          (from k y))
          (from j x)

      all : (k : ℕ) → T k ≡ true → (j : ℕ) × (j < suc s) × (o j ≡ k)
      all k e =
          ⊎_elim (λ z. (i, omega arith, sym z))
          (λ z. let a = O.all k z in
          ⊎_elim (λ (x : a.0 < i). (a.0, omega arith, sym (m.lower a.0 a.1 x) ∙ a.2))
          (λ (x : i ≤ a.0). (suc a.0, omega arith, sym (m.upper a.0 a.1 x) ∙ a.2))
          (before_or_not a.0 i))
          (less_back L k e)
