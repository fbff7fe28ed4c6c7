-- What determines a place. In order: coordinates determine coefficients; the points determine T, and T the order; the
-- first point and the order determine all; a place of one point is the start. Assumes nothing.
use mathlib.Core.Bool.{Bool, true, false}
use mathlib.Core.Logic.{⊎_elim}
use mathlib.Core.Path.{◌≡◌, refl, sym, ◌∙◌, fun_ext}
use Prim.Native.Nat.{ℕ, zero, suc, ◌≤◌, ◌<◌}
use native.Mathlib.Omega.{arith}
use Rattle.combinatorics.proofs.Basics.{true_or_false, absurd_bool}
use Rattle.geometry.proofs.Bridge.{chain-place}
use Rattle.geometry.proofs.Definitions.{Blocks, coord, Grid, HasZeros, Chain, zeros, Order}
use Rattle.geometry.proofs.Tight.{round, decides}
use Rattle.geometry.proofs.Unique.{same_step}

-- coordinates determine coefficients
pub coefficients : (R : Blocks) {c d : ℕ → ℕ} → Grid R c → Grid R d → HasZeros R c → HasZeros R d
    → ((k : ℕ) → coord R c k ≡ coord R d k) → c ≡ d
coefficients R {c} {d} gc gd nc nd e =
    fun_ext (λ k. omega (
      arith,
      round R (λ k. c k ≤ d k) (nc k).0 (omega (arith, (nc k).2)) (λ k ih. omega (arith, e k, gc k, gd k)) k (nc k).1,
      round R (λ k. d k ≤ c k) (nd k).0 (omega (arith, (nd k).2)) (λ k ih. omega (arith, e k, gc k, gd k)) k (nd k).1,
    ))

module _ {R : Blocks} {T T' : ℕ → Bool} {t : ℕ} {p : ℕ → ℕ → ℕ} {o o' : ℕ → ℕ} (K : Chain R T t p o)
    (K' : Chain R T' t p o') where
  into : (k : ℕ) → T k ≡ true → T' k ≡ true
  into k e =
      let P = chain-place K in
      let P' = chain-place K' in
      let m = P.moved k e in
      let u = P.used k m.0 in
      ⊎_elim (λ x. x)
      (λ (x : T' k ≡ false). absurd (⊎_elim
      (λ y. omega (arith, u.2, P'.unused k y u.0 u.1))
      (λ y. let w = m.1 in omega (arith, w.2, P'.unmoved k x y w.0 w.1))
      (true_or_false (zeros R T' (p 0) k))))
      (true_or_false (T' k))

-- the points determine T, and T the order
pub points_determine_T : {R : Blocks} {T T' : ℕ → Bool} {t : ℕ} {p : ℕ → ℕ → ℕ} {o o' : ℕ → ℕ} → Chain R T t p o
    → Chain R T' t p o' → T ≡ T'
points_determine_T {R} {T} {T'} {t} {p} {o} {o'} K K' = fun_ext
    (λ k. ⊎_elim
    (λ e. e ∙ sym (into K K' k e))
    (λ e. ⊎_elim (λ x. absurd_bool (sym (into K' K k x) ∙ e)) (λ x. e ∙ sym x) (true_or_false (T' k)))
    (true_or_false (T k)))

-- the first point and the order determine all
pub orders_determine_T : {T T' : ℕ → Bool} {t : ℕ} {o : ℕ → ℕ} → Order T t o → Order T' t o → T ≡ T'
orders_determine_T {T} {T'} {t} {o} O O' =
    fun_ext (λ k. ⊎_elim
    (λ e. e ∙ sym (go T T' O O' k e))
    (λ e. ⊎_elim (λ x. absurd_bool (sym (go T' T O' O k x) ∙ e)) (λ x. e ∙ sym x) (true_or_false (T' k)))
    (true_or_false (T k)))
  where
    go : (A B : ℕ → Bool) → Order A t o → Order B t o → (k : ℕ) → A k ≡ true → B k ≡ true
    go A B a b k e = let w = a.all k e in rw w.2 at (b.within w.0 w.1)

pub first_determines : {R : Blocks} {T : ℕ → Bool} {t : ℕ} {p p' : ℕ → ℕ → ℕ} {o o' : ℕ → ℕ} → Chain R T t p o
    → Chain R T t p' o' → p 0 ≡ p' 0 → ((j : ℕ) → j < t → o j ≡ o' j) → (j : ℕ) → j ≤ t → p j ≡ p' j
first_determines K K' e h zero l = e
first_determines {R} {T} {t} {p} {p'} {o} {o'} K K' e h (suc j) l =
    let ih : p j ≡ p' j = first_determines K K' e h j (omega arith) in
    same_step R (K.order.within j l) (K.tight (suc j) l) (K'.tight (suc j) l) (K.has_zeros (suc j) l)
    (K'.has_zeros (suc j) l) (K.step j l) (rw (ih, h j l) (K'.step j l))

-- the start: the one place with no index
module _ (R : Blocks) {T : ℕ → Bool} (none : (k : ℕ) → T k ≡ false) (o : ℕ → ℕ) where
  pub start-only : {p : ℕ → ℕ → ℕ} → Chain R T 0 p o → (k : ℕ) → p 0 k ≡ 0
  start-only {p} K =
      decides R T (K.tight 0 (omega arith)) (λ k e. omega arith) (K.has_zeros 0 (omega arith)) (λ h. (h, refl, refl))
      (λ k e. absurd_bool (sym e ∙ none k))
