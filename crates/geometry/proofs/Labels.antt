-- t + 1 points that carry all t labels of T: one label stands twice, or one is outside T. First, t numbers up to t that
-- differ leave out exactly one. Assumes nothing.
use mathlib.Core.Bool.{Bool, true, false}
use mathlib.Core.Logic.{◌⊎◌, inl, inr, ⊎_elim}
use mathlib.Core.Path.{◌≡◌, refl, sym, ap, ◌∙◌}
use Prim.Native.Nat.{ℕ, zero, suc, ◌-◌, ◌≤◌, ◌<◌}
use borrow.Author.Tests.{eqb-true, eqb-false}
use lib.Dec.{eqb}
use native.Mathlib.Omega.{arith}
use Rattle.combinatorics.proofs.Basics.{true_or_false, absurd_bool, same_or, before_or_not}
use Rattle.geometry.proofs.Search.{find}
use Rattle.geometry.proofs.Definitions.{Order, Omit, omit, Carries, Twice, Extra}
use Rattle.geometry.proofs.Ways.{omit_is}

-- where an element of a list less one stands
pub from_omit : {A : Type 0} {n i : ℕ} (j : ℕ) {p q : ℕ → A} → Omit n i p q → j < n
    → (f : ℕ) × (q j ≡ p f) × (f < suc n) × (f ≡ i → ⊥) × (((j < i) × (f ≡ j)) ⊎ ((i ≤ j) × (f ≡ suc j)))
from_omit {i} j m l =
    ⊎_elim (λ x. (j, m.lower j l x, omega arith, (λ e. omega arith), inl (x, refl)))
    (λ x. (suc j, m.upper j l x, omega arith, (λ e. omega arith), inr (x, refl)))
    (before_or_not j i)

pub to_omit : {A : Type 0} {n i : ℕ} (f : ℕ) {p q : ℕ → A} → Omit n i p q → i ≤ n → f ≤ n → (f ≡ i → ⊥)
    → (j : ℕ) × (j < n) × (q j ≡ p f)
to_omit {i} f {p} m a b x =
    ⊎_elim (λ (y : f < i). (f, omega arith, m.lower f (omega arith) y))
    (λ (y : i ≤ f). let z : suc (f - 1) ≡ f = omega (arith, x) in
    (f - 1, omega (arith, x), m.upper (f - 1) (omega (arith, x)) (omega (arith, x)) ∙ ap p z))
    (before_or_not f i)

-- two entries of a list less one stand in different places
apart_omit : (i j k f g : ℕ) → ((j < i) × (f ≡ j)) ⊎ ((i ≤ j) × (f ≡ suc j))
    → ((k < i) × (g ≡ k)) ⊎ ((i ≤ k) × (g ≡ suc k)) → f ≡ g → j ≡ k
apart_omit i j k f g (inl a) (inl b) e = omega arith
apart_omit i j k f g (inl a) (inr b) e = omega arith
apart_omit i j k f g (inr a) (inl b) e = omega arith
apart_omit i j k f g (inr a) (inr b) e = omega arith

abbrev Inj : ℕ → (ℕ → ℕ) → Type 0
Inj t f = (i j : ℕ) → i < t → j < t → f i ≡ f j → i ≡ j

inj_omit : {t x : ℕ} {f g : ℕ → ℕ} → Omit t x f g → Inj (suc t) f → Inj t g
inj_omit {t} {x} {f} {g} o inj i j a b e = go (from_omit i o a) (from_omit j o b)
  where
    go : (u : ℕ) × (g i ≡ f u) × (u < suc t) × (u ≡ x → ⊥) × (((i < x) × (u ≡ i)) ⊎ ((x ≤ i) × (u ≡ suc i)))
        → (w : ℕ) × (g j ≡ f w) × (w < suc t) × (w ≡ x → ⊥) × (((j < x) × (w ≡ j)) ⊎ ((x ≤ j) × (w ≡ suc j))) → i ≡ j
    go u w = apart_omit x i j u.0 w.0 u.4 w.4 (inj u.0 w.0 u.2 w.2 (sym u.1 ∙ e ∙ w.1))

below_omit : {t x : ℕ} {f g : ℕ → ℕ} → Omit t x f g → Inj (suc t) f → ((j : ℕ) → j < suc t → f j ≤ suc t) → x < suc t
    → f x ≡ suc t → (j : ℕ) → j < t → g j ≤ t
below_omit {t} {x} {f} {g} o inj b l e j m = go (from_omit j o m)
  where
    go : (w : ℕ) × (g j ≡ f w) × (w < suc t) × (w ≡ x → ⊥) × (((j < x) × (w ≡ j)) ⊎ ((x ≤ j) × (w ≡ suc j))) → g j ≤ t
    go w = let y : (f w.0 ≡ suc t → ⊥) = λ z. w.3 (inj w.0 x w.2 l (z ∙ sym e)) in omega (arith, b w.0 w.2, w.1, y)

-- m is the one number up to t that f leaves out
pub record Missed (t : ℕ) (f : ℕ → ℕ) (m : ℕ) : Type 0 where
  pub bound : m ≤ t
  pub never : (j : ℕ) → j < t → f j ≡ m → ⊥
  pub else : (i : ℕ) → i ≤ t → (i ≡ m → ⊥) → (j : ℕ) × (j < t) × (f j ≡ i)

-- the greatest is met, at x: leave x out
miss_hit : {t x : ℕ} {f g : ℕ → ℕ} → Omit t x f g → x < suc t → f x ≡ suc t → {m : ℕ} → Missed t g m
    → Missed (suc t) f m
miss_hit {t} {x} {f} {g} o l e r = record {
  bound = omega (arith, r.bound);
  never = λ j a z. ⊎_elim
      (λ (y : j ≡ x). omega (arith, r.bound, e, z, ap f y))
      (λ y. let w = to_omit j o (omega arith) (omega arith) y in r.never w.0 w.1 (w.2 ∙ z))
      (same_or j x);
  else = λ i a n. ⊎_elim (λ (y : i ≡ suc t). (x, l, e ∙ sym y))
      (λ (y : i ≡ suc t → ⊥). back (r.else i (omega (arith, y)) n)) (same_or i (suc t));
}
  where
    back : {i : ℕ} → (j : ℕ) × (j < t) × (g j ≡ i) → (j : ℕ) × (j < suc t) × (f j ≡ i)
    back w = let u = from_omit w.0 o w.1 in (u.0, u.2, sym u.1 ∙ w.2)

-- it is not: then the first t leave out what the last is
miss_none : {t : ℕ} {f : ℕ → ℕ} → ((j : ℕ) → j < suc t → f j ≤ t) → Inj (suc t) f → {m : ℕ} → Missed t f m
    → Missed (suc t) f (suc t)
miss_none {t} {f} low inj {m} r = record {
  bound = omega arith;
  never = λ j l z. omega (arith, low j l, z);
  else = λ i l n. ⊎_elim
      (λ (y : i ≡ m). (t, omega arith, last ∙ sym y))
      (λ y. let w = r.else i (omega (arith, n)) y in (w.0, omega (arith, w.1), w.2))
      (same_or i m);
}
  where
    last : f t ≡ m
    last = ⊎_elim
        (λ y. y)
        (λ y.
        let w = r.else (f t) (low t (omega arith)) y in
        absurd (omega (arith, w.1, inj w.0 t (omega (arith, w.1)) (omega arith) w.2)))
        (same_or (f t) m)

-- t numbers up to t, no two the same, leave out exactly one
pub miss : (t : ℕ) (f : ℕ → ℕ) → ((j : ℕ) → j < t → f j ≤ t) → Inj t f → (m : ℕ) × Missed t f m
miss zero f b inj = (
  0,
  record { bound = omega arith; never = λ j l e. omega arith; else = λ i l n. absurd (omega (arith, n)) },
)
miss (suc t) f b inj = ⊎_elim
    (λ w.
    let o = omit_is t w.0 f in
    let e : f w.0 ≡ suc t = eqb-true (f w.0) (suc t) w.2 in
    let r = miss t (omit w.0 f) (below_omit o inj b w.1 e) (inj_omit o inj) in
    (r.0, miss_hit o w.1 e r.1))
    (λ none.
    let low : (j : ℕ) → j < suc t → f j ≤ t = λ j l.
    let y : (f j ≡ suc t → ⊥) = eqb-false (f j) (suc t) (none j l) in
    omega (arith, y, b j l) in
    let r = miss t f (λ j l. low j (omega arith)) (λ i j x y. inj i j (omega arith) (omega arith)) in
    (suc t, miss_none low inj r.1))
    (find (λ j. eqb (f j) (suc t)) (suc t))

module _ {T : ℕ → Bool} {t : ℕ} {o l : ℕ → ℕ} (O : Order T t o)
    (cover : (k : ℕ) → T k ≡ true → (j : ℕ) × (j ≤ t) × (l j ≡ k)) where
  at : (j : ℕ) → j < t → (i : ℕ) × (i ≤ t) × (l i ≡ o j)
  at j x = cover (o j) (O.within j x)

  -- a point with label o j; any point beyond the order
  chosen_is : (j : ℕ) → j < t → (s : (j < t) ⊎ (t ≤ j))
      → (⊎_elim {C = ℕ} (λ (x : j < t). (at j x).0) (λ x. 0) s ≤ t)
      × (l (⊎_elim {C = ℕ} (λ (x : j < t). (at j x).0) (λ x. 0) s) ≡ o j)
  chosen_is j x (inl y) = ((at j y).1, (at j y).2)
  chosen_is j x (inr y) = absurd (omega arith)

  w : ℕ → ℕ
  w j = ⊎_elim (λ (x : j < t). (at j x).0) (λ x. 0) (before_or_not j t)

  w_is : (j : ℕ) → j < t → (w j ≤ t) × (l (w j) ≡ o j)
  unfolding w
  w_is j x = chosen_is j x (before_or_not j t)

  inj : (i j : ℕ) → i < t → j < t → w i ≡ w j → i ≡ j
  inj i j x y e = O.once i j x y (sym (w_is i x).1 ∙ ap l e ∙ (w_is j y).1)

  M : (m : ℕ) × Missed t w m
  M = miss t w (λ j x. (w_is j x).0) inj

  less_m : Carries T t l M.0
  less_m k e = let a = O.all k e in (w a.0, (w_is a.0 a.1).0, M.1.never a.0 a.1, (w_is a.0 a.1).1 ∙ a.2)

  -- a point other than the one left out is told by its label
  only-point : (i j : ℕ) → j < t → i ≤ t → (i ≡ M.0 → ⊥) → l i ≡ o j → i ≡ w j
  only-point i j x y n e =
      let a = M.1.else i y n in
      sym a.2 ∙ ap w (O.once a.0 j a.1 x (sym (w_is a.0 a.1).1 ∙ ap l a.2 ∙ e))

  go : (T (l M.0) ≡ true) ⊎ (T (l M.0) ≡ false) → ((a : ℕ) × (b : ℕ) × Twice T t l a b) ⊎ ((a : ℕ) × Extra T t l a)
  go (inl e) =
      let z = O.all (l M.0) e in
      inl (
        M.0,
        w z.0,
        record {
          first = M.1.bound;
          second = (w_is z.0 z.1).0;
          apart = λ x. M.1.never z.0 z.1 (sym x);
          same = sym z.2 ∙ sym (w_is z.0 z.1).1;
          all = λ j x. ⊎_elim
              (λ (y : j ≡ M.0). rw y e)
              (λ y. let a = M.1.else j x y in rw (← a.2) (rw (w_is a.0 a.1).1 (O.within a.0 a.1)))
              (same_or j M.0);
          less_first = less_m;
          less_second = λ k x.
              let a = O.all k x in
              ⊎_elim
              (λ (y : a.0 ≡ z.0). (
                M.0,
                M.1.bound,
                (λ q. M.1.never z.0 z.1 (sym q)),
                sym z.2 ∙ ap o (sym y) ∙ a.2,
              ))
              (λ y. (w a.0, (w_is a.0 a.1).0, (λ q. y (inj a.0 z.0 a.1 z.1 q)), (w_is a.0 a.1).1 ∙ a.2))
              (same_or a.0 z.0);
          only = λ i x C. ⊎_elim
              (λ (y : i ≡ M.0). inl y)
              (λ (y : i ≡ M.0 → ⊥). inr (let a = M.1.else i x y in
              let c = C (o a.0) (O.within a.0 a.1) in
              ⊎_elim
              (λ (q : c.0 ≡ M.0). sym a.2 ∙ ap w (O.once a.0 z.0 a.1 z.1 (sym (z.2 ∙ ap l (sym q) ∙ c.3))))
              (λ q. absurd (c.2 (only-point c.0 a.0 a.1 c.1 q c.3 ∙ a.2)))
              (same_or c.0 M.0)))
              (same_or i M.0);
        },
      )
  go (inr e) =
      inr (
        M.0,
        record {
          first = M.1.bound;
          out = e;
          rest = λ j x y. let a = M.1.else j x y in rw (← a.2) (rw (w_is a.0 a.1).1 (O.within a.0 a.1));
          less_first = less_m;
          only = λ i x C. ⊎_elim (λ (y : i ≡ M.0). y)
              (λ (y : i ≡ M.0 → ⊥).
              let a = M.1.else i x y in
              let c = C (o a.0) (O.within a.0 a.1) in
              ⊎_elim (λ (q : c.0 ≡ M.0). absurd_bool (sym (O.within a.0 a.1) ∙ ap T (sym c.3 ∙ ap l q) ∙ e))
              (λ q. absurd (c.2 (only-point c.0 a.0 a.1 c.1 q c.3 ∙ a.2))) (same_or c.0 M.0))
              (same_or i M.0);
        },
      )

  pub labels : ((a : ℕ) × (b : ℕ) × Twice T t l a b) ⊎ ((a : ℕ) × Extra T t l a)
  labels = go (true_or_false (T (l M.0)))
