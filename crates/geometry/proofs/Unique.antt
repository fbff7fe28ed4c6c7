-- Through every facet there is one way only. In order: two chains that share a facet differ in one point alone; one
-- chain beyond; no two of beyond, dropped and filled together. Assumes nothing.
use mathlib.Core.Bool.{Bool, true}
use mathlib.Core.Logic.{◌⊎◌, inl, inr, ⊎_elim}
use mathlib.Core.Path.{◌≡◌, refl, sym, ap, ◌∙◌, fun_ext}
use Prim.Native.Nat.{ℕ, zero, suc, ◌≤◌, ◌<◌}
use native.Mathlib.Omega.{arith}
use Rattle.geometry.proofs.Chains
use Rattle.combinatorics.proofs.Basics.{same_or, before_or_not}
use Rattle.geometry.proofs.Definitions.{Blocks, Tight, HasZeros, Step, Chain, Omit, Beside, Dropped, Next, Drops}
use Rattle.geometry.proofs.Definitions.{Fills}
use Rattle.geometry.proofs.Orders.{lt_or}
use Rattle.geometry.proofs.Tight.{decides}

pub kind : (s i : ℕ) → i ≤ suc s → (i ≡ 0) ⊎ ((i ≡ suc s) ⊎ ((a : ℕ) × (a < s) × (i ≡ suc a)))
kind s zero l = inl refl
kind s (suc i) l = inr (⊎_elim (λ x. inr (i, x, refl)) (λ (x : i ≡ s). inl (ap suc x)) (lt_or i s l))

-- the same facet by another name
pub facet-again : {A : Type 0} {n i i' : ℕ} {p p' q r : ℕ → A} → Omit n i p q → Omit n i p r → Omit n i' p' r
    → Omit n i' p' q
facet-again {A} {n} {i} {q} {r} a b c = record {
  lower = λ j l m. eq j l ∙ c.lower j l m;
  upper = λ j l m. eq j l ∙ c.upper j l m;
}
  where
    eq : (j : ℕ) → j < n → q j ≡ r j
    eq j l = ⊎_elim
        (λ x. a.lower j l x ∙ sym (b.lower j l x))
        (λ x. a.upper j l x ∙ sym (b.upper j l x))
        (before_or_not j i)

-- two points of the facet are next to each other unless the gap is between them
pub together : {A : Type 0} {s i' : ℕ} (a : ℕ) {p' q : ℕ → A} → Omit (suc s) i' p' q → a < s → (i' ≡ suc a → ⊥)
    → (x : ℕ) × (x < suc s) × (q a ≡ p' x) × (q (suc a) ≡ p' (suc x))
together {i'} a m l n = ⊎_elim
    (λ (x : suc a < i'). (a, omega arith, m.lower a (omega arith) (omega arith), m.lower (suc a) (omega arith) x))
    (λ (x : i' ≤ suc a).
    let y : i' ≤ a = omega (arith, n) in
    (suc a, omega arith, m.upper a (omega arith) y, m.upper (suc a) (omega arith) x))
    (before_or_not (suc a) i')

-- two tight lists a step by the same index after one list are the same
pub same_step : (R : Blocks) {T : ℕ → Bool} {h : ℕ} {c d e : ℕ → ℕ} → T h ≡ true → Tight R T d → Tight R T e
    → HasZeros R d → HasZeros R e → Step T h c d → Step T h c e → d ≡ e
same_step R {T} {h} {d} {e} w td te nd ne a b = fun_ext (decides R T td te nd ne
    (λ k t. ⊎_elim
    (λ (q : k ≡ h). rw q (a.raised ∙ sym b.raised))
    (λ n. a.unchanged k t n ∙ sym (b.unchanged k t n))
    (same_or k h)))

pub equal_at : {f g : ℕ → ℕ} → f ≡ g → (k : ℕ) → f k ≡ g k
equal_at e k = ap (λ (f : ℕ → ℕ). f k) e

module _ {R : Blocks} {T : ℕ → Bool} {s : ℕ} {p : ℕ → ℕ → ℕ} {o : ℕ → ℕ} (K : Chain R T (suc s) p o) {p' : ℕ → ℕ → ℕ}
    {o' : ℕ → ℕ} (K' : Chain R T (suc s) p' o') (q : ℕ → ℕ → ℕ) where
  -- a gap is in the same place in both
  pub gap : {a i' : ℕ} → a < s → Omit (suc s) (suc a) p q → Omit (suc s) i' p' q → i' ≡ suc a
  gap {a} {i'} l m m' =
      ⊎_elim (λ e. e)
      (λ n. let x = together a m' l n in
      let u : q a ≡ p a = m.lower a (omega arith) (omega arith) in
      let w : q (suc a) ≡ p (suc (suc a)) = m.upper (suc a) (omega arith) (omega arith) in
      let c : o a ≡ o' x.0 = Chains.changed K' x.0 x.1 (o a) (K.order.within a (omega arith))
      (λ e. omega (
        arith,
        e,
        equal_at x.2 (o a),
        equal_at x.3 (o a),
        equal_at u (o a),
        equal_at w (o a),
        Chains.before_raise K a a (omega arith) (omega arith),
        Chains.after_raise K a (suc (suc a)) (omega arith) (omega arith),
      )) in
      let d : o (suc a) ≡ o' x.0 = Chains.changed K' x.0 x.1 (o (suc a)) (K.order.within (suc a) (omega arith))
      (λ e. omega (
        arith,
        e,
        equal_at x.2 (o (suc a)),
        equal_at x.3 (o (suc a)),
        equal_at u (o (suc a)),
        equal_at w (o (suc a)),
        Chains.before_raise K (suc a) a (omega arith) (omega arith),
        Chains.after_raise K (suc a) (suc (suc a)) (omega arith) (omega arith),
      )) in
      absurd (omega (arith, K.order.once a (suc a) (omega arith) (omega arith) (c ∙ sym d)))) (same_or i' (suc a))

  pub both_first : Omit (suc s) 0 p q → Omit (suc s) 0 p' q → p' 0 ≡ p 0
  both_first m m' =
      let e : p' (suc s) ≡ p (suc s) =
      sym (m'.upper s (omega arith) (omega arith)) ∙ m.upper s (omega arith) (omega arith) in
      fun_ext (decides R T (K'.tight 0 (omega arith)) (K.tight 0 (omega arith)) (K'.has_zeros 0 (omega arith))
      (K.has_zeros 0 (omega arith))
      (λ k t. omega (arith, equal_at e k, Chains.last-one_more K k t, Chains.last-one_more K' k t)))

  pub both_last : Omit (suc s) (suc s) p q → Omit (suc s) (suc s) p' q → p' (suc s) ≡ p (suc s)
  both_last m m' =
      let e : p' 0 ≡ p 0 = sym (m'.lower 0 (omega arith) (omega arith)) ∙ m.lower 0 (omega arith) (omega arith) in
      fun_ext (decides R T (K'.tight (suc s) (omega arith)) (K.tight (suc s) (omega arith))
      (K'.has_zeros (suc s) (omega arith)) (K.has_zeros (suc s) (omega arith))
      (λ k t. omega (arith, equal_at e k, Chains.last-one_more K k t, Chains.last-one_more K' k t)))

  -- in a gap stands the old point, or the one by the second index first
  pub both_inner : {a : ℕ} → a < s → Omit (suc s) (suc a) p q → Omit (suc s) (suc a) p' q
      → (p' (suc a) ≡ p (suc a)) ⊎ Step T (o (suc a)) (p a) (p' (suc a))
  both_inner {a} l m m' =
      let u : p' a ≡ p a = sym (m'.lower a (omega arith) (omega arith)) ∙ m.lower a (omega arith) (omega arith) in
      let w : p' (suc (suc a)) ≡ p (suc (suc a)) =
      sym (m'.upper (suc a) (omega arith) (omega arith)) ∙ m.upper (suc a) (omega arith) (omega arith) in
      let st : Step T (o' a) (p a) (p' (suc a)) = rw u at (K'.step a (omega arith)) in
      let t : T (o' a) ≡ true = K'.order.within a (omega arith) in
      ⊎_elim
      (λ (e : o' a ≡ o a). inl
      (same_step R (K.order.within a (omega arith)) (K'.tight (suc a) (omega arith)) (K.tight (suc a) (omega arith))
      (K'.has_zeros (suc a) (omega arith)) (K.has_zeros (suc a) (omega arith)) (rw e at st) (K.step a (omega arith))))
      (λ (n : o' a ≡ o a → ⊥). ⊎_elim
      (λ (e : o' a ≡ o (suc a)). inr (rw e at st))
      (λ (x : o' a ≡ o (suc a) → ⊥). absurd (omega (
        arith,
        equal_at u (o' a),
        equal_at w (o' a),
        (K.step a (omega arith)).unchanged (o' a) t n,
        (K.step (suc a) (omega arith)).unchanged (o' a) t x,
        Chains.before_raise K' a a (omega arith) (omega arith),
        Chains.after_raise K' a (suc (suc a)) (omega arith) (omega arith),
      )))
      (same_or (o' a) (o (suc a))))
      (same_or (o' a) (o a))

module _ {R : Blocks} {T : ℕ → Bool} {s : ℕ} {p : ℕ → ℕ → ℕ} {o : ℕ → ℕ} (K : Chain R T (suc s) p o) (p' : ℕ → ℕ → ℕ)
    (o' : ℕ → ℕ) (i' : ℕ) where
  -- what leaves in front comes back behind, and the other way
  pub goes_last : Beside R T s p 0 p' o' i' → i' ≡ suc s
  goes_last B = ⊎_elim
      (λ (e : i' ≡ 0). absurd (B.new (rw e (both_first K B.chain B.facet B.omits_here (rw e at B.omits_there)))))
      (λ x.
      ⊎_elim (λ e. e) (λ a. absurd (omega (arith, gap B.chain K B.facet a.1 (rw a.2 at B.omits_there) B.omits_here))) x)
      (kind s i' B.bound)

  pub goes_first : Beside R T s p (suc s) p' o' i' → i' ≡ 0
  goes_first B = ⊎_elim
      (λ e. e)
      (λ x. ⊎_elim
      (λ (e : i' ≡ suc s). absurd (B.new (rw e (both_last K B.chain B.facet B.omits_here (rw e at B.omits_there)))))
      (λ a. absurd (omega (arith, a.1, gap B.chain K B.facet a.1 (rw a.2 at B.omits_there) B.omits_here)))
      x)
      (kind s i' B.bound)

  pub stays : {a : ℕ} → a < s → Beside R T s p (suc a) p' o' i' → i' ≡ suc a
  stays {a} l B = gap K B.chain B.facet l B.omits_here B.omits_there

  pub swaps : {a : ℕ} → a < s → Beside R T s p (suc a) p' o' (suc a) → Step T (o (suc a)) (p a) (p' (suc a))
  swaps {a} l B = ⊎_elim (λ e. absurd (B.new e)) (λ x. x) (both_inner K B.chain B.facet l B.omits_here B.omits_there)

module _ {R : Blocks} {T : ℕ → Bool} {s : ℕ} {p : ℕ → ℕ → ℕ} {o : ℕ → ℕ} (K : Chain R T (suc s) p o) where
  -- only one neighbour
  pub one-next : {i : ℕ} → i ≤ suc s → (a b : Next R T s p i) → (a.2 ≡ b.2) × (a.0 a.2 ≡ b.0 b.2)
  one-next {i} l a b =
      let A = a.3 in
      let B = b.3 in
      let y : Omit (suc s) b.2 b.0 A.facet = facet-again A.omits_here B.omits_here B.omits_there in
      ⊎_elim
      (λ (e : i ≡ 0).
      let u : a.2 ≡ suc s = goes_last K a.0 a.1 a.2 (rw e at A) in
      let w : b.2 ≡ suc s = goes_last K b.0 b.1 b.2 (rw e at B) in
      (u ∙ sym w, ap a.0 u ∙ both_last B.chain A.chain A.facet (rw w at y) (rw u at A.omits_there) ∙ ap b.0 (sym w)))
      (λ x. ⊎_elim
      (λ (e : i ≡ suc s).
      let u : a.2 ≡ 0 = goes_first K a.0 a.1 a.2 (rw e at A) in
      let w : b.2 ≡ 0 = goes_first K b.0 b.1 b.2 (rw e at B) in
      (u ∙ sym w, ap a.0 u ∙ both_first B.chain A.chain A.facet (rw w at y) (rw u at A.omits_there) ∙ ap b.0 (sym w)))
      (λ c.
      let A1 : Beside R T s p (suc c.0) a.0 a.1 a.2 = rw c.2 at A in
      let B1 : Beside R T s p (suc c.0) b.0 b.1 b.2 = rw c.2 at B in
      let u : a.2 ≡ suc c.0 = stays K a.0 a.1 a.2 c.1 A1 in
      let w : b.2 ≡ suc c.0 = stays K b.0 b.1 b.2 c.1 B1 in
      let su = swaps K a.0 a.1 a.2 c.1 (rw u at A1) in
      let sw = swaps K b.0 b.1 b.2 c.1 (rw w at B1) in
      let c1 : c.0 < s = c.1 in (
        u ∙ sym w,
        ap a.0 u
            ∙ same_step R (K.order.within (suc c.0) (omega arith)) (A.chain.tight (suc c.0) (omega arith))
            (B.chain.tight (suc c.0) (omega arith)) (A.chain.has_zeros (suc c.0) (omega arith))
            (B.chain.has_zeros (suc c.0) (omega arith)) su sw
            ∙ ap b.0 (sym w),
      ))
      x)
      (kind s i l)

  -- a dropped index is that of the step before the point that leaves
  pub drops_at : {i b : ℕ} {T' : ℕ → Bool} {u : ℕ → ℕ} → i ≤ suc s → Dropped R T s p i b T' u
      → (l : ℕ) × (l < suc s) × (o l ≡ b) × (i ≡ suc l)
  drops_at {i} {b} le d = let a = K.order.all b d.small.has in (a.0, a.1, a.2, go a.0 a.1 a.2)
    where
      -- the point after its own step is not in the facet, for it is not tight there
      go : (l : ℕ) → l < suc s → o l ≡ b → i ≡ suc l
      go l m e = ⊎_elim
          (λ q. q)
          (λ (n : i ≡ suc l → ⊥). absurd (Chains.loose_after K l m
          (rw e (⊎_elim
          (λ (x : suc l < i).
          rw (d.omits_here.lower (suc l) (omega arith) x) at (d.chain.tight (suc l) (omega arith) b d.small.out))
          (λ (x : i ≤ suc l).
          let y : i ≤ l = omega (arith, n) in
          rw (d.omits_here.upper l m y) at (d.chain.tight l (omega arith) b d.small.out))
          (before_or_not (suc l) i)))))
          (same_or i (suc l))

  -- where the first point stays, no block is filled
  pub not_filled : (a : ℕ) → Fills R T s p (suc a) → ⊥
  not_filled a e =
      let f = K.free e.0 in
      omega (arith, e.1 f.0 f.1 f.2 0 (omega arith) (λ x. omega arith), f.3)

  pub not_drops_fills : {i : ℕ} → i ≤ suc s → Drops R T s p i → Fills R T s p i → ⊥
  not_drops_fills {i} l d e =
      let w = drops_at l d.3 in
      not_filled w.0 (rw w.3 at e)

  pub not_next_fills : (i : ℕ) → i ≤ suc s → Next R T s p i → Fills R T s p i → ⊥
  not_next_fills zero l n e =
      let B = n.3 in
      let w : n.2 ≡ suc s = goes_last K n.0 n.1 n.2 B in
      let y : Omit (suc s) (suc s) n.0 B.facet = rw w at B.omits_there in
      let z : n.0 0 ≡ p 1 =
      sym (y.lower 0 (omega arith) (omega arith)) ∙ B.omits_here.upper 0 (omega arith) (omega arith) in
      let f = B.chain.free e.0 in
      omega (arith, e.1 f.0 f.1 f.2 1 (omega arith) (λ x. omega arith), f.3, equal_at z (R.next f.0))
  not_next_fills (suc a) l n e = not_filled a e

module _ {R : Blocks} {T : ℕ → Bool} {s : ℕ} {p : ℕ → ℕ → ℕ} {o : ℕ → ℕ} (K : Chain R T (suc s) p o) where
  pub not_next_drops : {i : ℕ} → i ≤ suc s → Next R T s p i → Drops R T s p i → ⊥
  not_next_drops {i} l n d =
      let B = n.3 in
      let D' : Dropped R T s n.0 n.2 d.0 d.1 d.2 = record {
        small = d.3.small;
        facet = d.3.facet;
        omits_here = facet-again d.3.omits_here B.omits_here B.omits_there;
        chain = d.3.chain;
      } in
      go (drops_at K l d.3) (drops_at B.chain B.bound D')
    where
      go : (a : ℕ) × (a < suc s) × (o a ≡ d.0) × (i ≡ suc a) → (a : ℕ) × (a < suc s) × (n.1 a ≡ d.0) × (n.2 ≡ suc a)
          → ⊥
      go x y =
          let B : Beside R T s p (suc x.0) n.0 n.1 n.2 = rw x.3 at n.3 in
          ⊎_elim
          (λ (v : x.0 < s).
          let e : n.2 ≡ suc x.0 = stays K n.0 n.1 n.2 v B in
          let f : y.0 ≡ x.0 = omega (arith, e, y.3) in
          let C : Beside R T s p (suc x.0) n.0 n.1 (suc x.0) = rw e at B in
          let g : n.1 x.0 ≡ o x.0 = ap n.1 (sym f) ∙ y.2 ∙ sym x.2 in
          let c : n.0 x.0 ≡ p x.0 = sym (C.omits_there.lower x.0 (omega arith) (omega arith))
          ∙ C.omits_here.lower x.0 (omega arith) (omega arith) in
          let st : Step T (o x.0) (p x.0) (n.0 (suc x.0)) = rw g at (rw c at (C.chain.step x.0 x.1)) in
          C.new (same_step R (K.order.within x.0 x.1) (C.chain.tight (suc x.0) x.1) (K.tight (suc x.0) x.1)
          (C.chain.has_zeros (suc x.0) x.1) (K.has_zeros (suc x.0) x.1) st (K.step x.0 x.1)))
          (λ (v : x.0 ≡ s).
          let w : suc x.0 ≡ suc s = ap suc v in
          omega (arith, y.3, goes_first K n.0 n.1 n.2 (rw w at B)))
          (lt_or x.0 s x.1)
