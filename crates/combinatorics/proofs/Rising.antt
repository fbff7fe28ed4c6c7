-- Lists on which a number rises. Assumes nothing.
use mathlib.Core.Bool.{true, false}
use mathlib.Core.List.{List, [], ◌∷◌, map}
use mathlib.Core.Logic.{⊎_elim}
use mathlib.Core.Path.{◌≡◌, refl, sym, ap, ◌∙◌}
use Prim.Native.Nat.{ℕ, zero, suc, ◌<◌}
use borrow.Author.Tests.{ltb-true, lt-ltb}
use lib.Dec.{ltb}
use native.Mathlib.Omega.{arith}
use Rattle.combinatorics.proofs.Basics.{absurd_bool, and_both, and_left, and_right, false_of, both}
use Rattle.combinatorics.proofs.Lists.{in_here, in_later, in_cases, Equality}
use Rattle.combinatorics.specs.Edits.{remove_at}
use Rattle.combinatorics.specs.Lists.{is_in, distinct, rising}

-- a rising list less one element
pub rising_less : {A : Type 0} (f : A → ℕ) (i : ℕ) (xs : List A) → rising (map f xs) ≡ true
    → rising (map f (remove_at i xs)) ≡ true
rising_less f i [] r = r
rising_less f zero (x ∷ []) r = refl
rising_less f zero (x ∷ y ∷ ys) r = and_right (ltb (f x) (f y)) (rising (map f (y ∷ ys))) r
rising_less f (suc i) (x ∷ []) r = refl
rising_less f (suc zero) (x ∷ y ∷ []) r = refl
rising_less f (suc zero) (x ∷ y ∷ z ∷ zs) r =
    let later = and_right (ltb (f x) (f y)) (rising (map f (y ∷ z ∷ zs))) r in
    let first = ltb-true (f x) (f y) (and_left (ltb (f x) (f y)) (rising (map f (y ∷ z ∷ zs))) r) in
    let second = ltb-true (f y) (f z) (and_left (ltb (f y) (f z)) (rising (map f (z ∷ zs))) later) in
    and_both _ _ (lt-ltb (f x) (f z) (omega arith)) (and_right (ltb (f y) (f z)) (rising (map f (z ∷ zs))) later)
rising_less f (suc (suc i)) (x ∷ y ∷ ys) r =
    and_both _ _ (and_left (ltb (f x) (f y)) (rising (map f (y ∷ ys))) r)
    (rising_less f (suc i) (y ∷ ys) (and_right (ltb (f x) (f y)) (rising (map f (y ∷ ys))) r))

-- a rising list: its first number is below all the others
module _ {A : Type 0} (E : Equality A) (f : A → ℕ) where
  open E use {eq}

  pub rising-tail : (x : A) (xs : List A) → rising (map f (x ∷ xs)) ≡ true → rising (map f xs) ≡ true
  rising-tail x [] r = refl
  rising-tail x (y ∷ ys) r = and_right (ltb (f x) (f y)) (rising (map f (y ∷ ys))) r

  pub rising-below : (x : A) (xs : List A) → rising (map f (x ∷ xs)) ≡ true → (z : A) → is_in eq z xs ≡ true → f x < f z
  rising-below x [] r z m = absurd_bool (sym m)
  rising-below x (y ∷ ys) r z m =
      let c : f x < f y = ltb-true (f x) (f y) (and_left (ltb (f x) (f y)) (rising (map f (y ∷ ys))) r) in
      ⊎_elim
      (λ e. rw e c)
      (λ n. let d : f y < f z = rising-below y ys (rising-tail x (y ∷ ys) r) z n in omega arith)
      (in_cases E z y ys m)

  pub rising-distinct : (xs : List A) → rising (map f xs) ≡ true → distinct eq xs ≡ true
  rising-distinct [] r = refl
  rising-distinct (x ∷ xs) r =
      let n : is_in eq x xs ≡ false =
      false_of _ (λ m. let c : f x < f x = rising-below x xs r x m in absurd (omega arith)) in
      rw n (rising-distinct xs (rising-tail x xs r))

  -- two rising lists with the same elements are the same
  pub rising-same : (xs ys : List A) → rising (map f xs) ≡ true → rising (map f ys) ≡ true
      → ((z : A) → is_in eq z xs ≡ is_in eq z ys) → xs ≡ ys
  rising-same [] [] r s h = refl
  rising-same [] (y ∷ ys) r s h = absurd_bool (sym (h y ∙ in_here E y ys))
  rising-same (x ∷ xs) [] r s h = absurd_bool (sym (in_here E x xs) ∙ h x)
  rising-same (x ∷ xs) (y ∷ ys) r s h =
      let e : x ≡ y = ⊎_elim
      (λ q. q)
      (λ m. ⊎_elim
      (λ q. sym q)
      (λ n.
      let c : f y < f x = rising-below y ys s x m in
      let d : f x < f y = rising-below x xs r y n in
      absurd (omega arith))
      (in_cases E y x xs (h y ∙ in_here E y ys)))
      (in_cases E x y ys (sym (h x) ∙ in_here E x xs)) in
      let rest : xs ≡ ys = rising-same xs ys (rising-tail x xs r) (rising-tail y ys s)
      (λ z. both _ _
      (λ m. ⊎_elim
      (λ q. let c : f x < f z = rising-below x xs r z m in absurd (let k : f z ≡ f x = ap f (q ∙ sym e) in omega arith))
      (λ n. n)
      (in_cases E z y ys (sym (h z) ∙ in_later E z x xs m)))
      (λ m. ⊎_elim
      (λ q. let c : f y < f z = rising-below y ys s z m in absurd (let k : f z ≡ f y = ap f (q ∙ e) in omega arith))
      (λ n. n)
      (in_cases E z x xs (h z ∙ in_later E z y ys m)))) in
      cc
