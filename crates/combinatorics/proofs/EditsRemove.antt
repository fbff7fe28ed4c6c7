-- Elements and length of a list less an element, with two neighbours exchanged, or with its last element put first;
-- what a search in a list finds. Assumes nothing.
use mathlib.Core.Bool.{Bool, true, false, not, ◌&&◌, cond}
use mathlib.Core.List.{List, [], ◌∷◌}
use mathlib.Core.Logic.{⊎_elim}
use mathlib.Core.Path.{◌≡◌, refl, sym, ap, subst}
use Prim.Native.Nat.{ℕ, zero, suc, ◌+◌, ◌-◌, ◌≤◌, ◌<◌}
use borrow.Author.Tests.{eqb-true, eqb-false, eq-eqb, ne_eqb, not-true}
use lib.Dec.{eqb}
use lib.ListN.{length, get_or}
use native.Mathlib.Omega.{arith}
use Rattle.combinatorics.proofs.Basics.{absurd_bool, same_or, and_left, and_right}
use Rattle.combinatorics.specs.Edits.{remove_at, swap_at, last_or, but_last, rotate_right, found_from, found}

module _ {A : Type 0} where
  pub length-remove_at : (i : ℕ) (xs : List A) → i < length xs → suc (length (remove_at i xs)) ≡ length xs
  length-remove_at i [] l = absurd (omega arith)
  length-remove_at zero (x ∷ xs) l = refl
  length-remove_at (suc i) (x ∷ xs) l = ap suc (length-remove_at i xs (omega arith))

  pub length-swap_at : (i : ℕ) (xs : List A) → length (swap_at i xs) ≡ length xs
  length-swap_at i [] = refl
  length-swap_at i (x ∷ []) = refl
  length-swap_at zero (x ∷ y ∷ zs) = refl
  length-swap_at (suc i) (x ∷ y ∷ zs) = ap suc (length-swap_at i (y ∷ zs))

  length-but_last : (x : A) (xs : List A) → length (but_last (x ∷ xs)) ≡ length xs
  length-but_last x [] = refl
  length-but_last x (y ∷ ys) = ap suc (length-but_last y ys)

  pub length-rotate_right : (xs : List A) → length (rotate_right xs) ≡ length xs
  length-rotate_right [] = refl
  length-rotate_right (x ∷ xs) = ap suc (length-but_last x xs)

-- elements: d stands for what is past the last
module _ {A : Type 0} (d : A) where
  -- less element i
  pub remove_at-before : (i : ℕ) (xs : List A) (j : ℕ) → j < i → get_or (remove_at i xs) j d ≡ get_or xs j d
  remove_at-before i [] j l = refl
  remove_at-before zero (x ∷ xs) j l = absurd (omega arith)
  remove_at-before (suc i) (x ∷ xs) zero l = refl
  remove_at-before (suc i) (x ∷ xs) (suc j) l = remove_at-before i xs j (omega arith)

  pub remove_at-behind : (i : ℕ) (xs : List A) (j : ℕ) → i ≤ j → get_or (remove_at i xs) j d ≡ get_or xs (suc j) d
  remove_at-behind i [] j l = refl
  remove_at-behind zero (x ∷ xs) j l = refl
  remove_at-behind (suc i) (x ∷ xs) zero l = absurd (omega arith)
  remove_at-behind (suc i) (x ∷ xs) (suc j) l = remove_at-behind i xs j (omega arith)

  -- the elements i and i + 1 exchanged
  pub swap_at-here : (i : ℕ) (xs : List A) → suc i < length xs → get_or (swap_at i xs) i d ≡ get_or xs (suc i) d
  swap_at-here i [] l = absurd (omega arith)
  swap_at-here i (x ∷ []) l = absurd (omega arith)
  swap_at-here zero (x ∷ y ∷ zs) l = refl
  swap_at-here (suc i) (x ∷ y ∷ zs) l = swap_at-here i (y ∷ zs) (omega arith)

  pub swap_at-next : (i : ℕ) (xs : List A) → suc i < length xs → get_or (swap_at i xs) (suc i) d ≡ get_or xs i d
  swap_at-next i [] l = absurd (omega arith)
  swap_at-next i (x ∷ []) l = absurd (omega arith)
  swap_at-next zero (x ∷ y ∷ zs) l = refl
  swap_at-next (suc i) (x ∷ y ∷ zs) l = swap_at-next i (y ∷ zs) (omega arith)

  pub swap_at_else : (i : ℕ) (xs : List A) (j : ℕ) → (j ≡ i → ⊥) → (j ≡ suc i → ⊥) → get_or (swap_at i xs) j d ≡ get_or xs j d
  swap_at_else i [] j a b = refl
  swap_at_else i (x ∷ []) j a b = refl
  swap_at_else zero (x ∷ y ∷ zs) zero a b = absurd (a refl)
  swap_at_else zero (x ∷ y ∷ zs) (suc zero) a b = absurd (b refl)
  swap_at_else zero (x ∷ y ∷ zs) (suc (suc j)) a b = refl
  swap_at_else (suc i) (x ∷ y ∷ zs) zero a b = refl
  swap_at_else (suc i) (x ∷ y ∷ zs) (suc j) a b = swap_at_else i (y ∷ zs) j (λ e. a (ap suc e)) (λ e. b (ap suc e))

  -- the last element put first
  last_or-at : (x : A) (xs : List A) → last_or x xs ≡ get_or (x ∷ xs) (length xs) d
  last_or-at x [] = refl
  last_or-at x (y ∷ ys) = last_or-at y ys

  but_last-at : (x : A) (xs : List A) (j : ℕ) → j < length xs → get_or (but_last (x ∷ xs)) j d ≡ get_or (x ∷ xs) j d
  but_last-at x [] j l = absurd (omega arith)
  but_last-at x (y ∷ ys) zero l = refl
  but_last-at x (y ∷ ys) (suc j) l = but_last-at y ys j (omega arith)

  pub rotate_right-first : (xs : List A) → get_or (rotate_right xs) 0 d ≡ get_or xs (length xs - 1) d
  rotate_right-first [] = refl
  rotate_right-first (x ∷ xs) = let e : suc (length xs) - 1 ≡ length xs = omega arith in rw e (last_or-at x xs)

  pub rotate_right-later : (xs : List A) (j : ℕ) → suc j < length xs → get_or (rotate_right xs) (suc j) d ≡ get_or xs j d
  rotate_right-later [] j l = absurd (omega arith)
  rotate_right-later (x ∷ xs) j l = but_last-at x xs j (omega arith)

-- r is the number of the first element that is x, element `but` passed over
pub record Found (x but : ℕ) (ys : List ℕ) (r : ℕ) : Type 0 where
  pub inside : r < length ys
  pub is : get_or ys r 0 ≡ x
  pub other : r ≡ but → ⊥
  pub first : (j : ℕ) → j < r → get_or ys j 0 ≡ x → j ≡ but

-- the same, counted from k
abbrev FoundFrom : ℕ → ℕ → ℕ → List ℕ → ℕ → Type 0
FoundFrom k x but ys found = (r : ℕ) × (found ≡ k + r) × (r < length ys) × (get_or ys r 0 ≡ x) × (k + r ≡ but → ⊥)
    × ((i : ℕ) → i < r → get_or ys i 0 ≡ x → k + i ≡ but)

-- it is there where element j is x and not passed over
found-from : (k x but : ℕ) (ys : List ℕ) (j : ℕ) → j < length ys → get_or ys j 0 ≡ x → (k + j ≡ but → ⊥)
    → FoundFrom k x but ys (found_from k x but ys)
found-from k x but [] j l e n = absurd (omega arith)
found-from k x but (y ∷ ys) j l e n = go (eqb y x && not (eqb k but)) refl j l e n (found-from (suc k) x but ys)
  where
    passed : (eqb y x && not (eqb k but)) ≡ false → y ≡ x → k ≡ but
    passed q e = ⊎_elim (λ z. z) (λ z. absurd_bool (rw (eq-eqb y x e, ne_eqb k but z) at q)) (same_or k but)

    first : (eqb y x && not (eqb k but)) ≡ false → (r : ℕ) → ((i : ℕ) → i < r → get_or ys i 0 ≡ x → suc k + i ≡ but)
        → (i : ℕ) → i < suc r → get_or (y ∷ ys) i 0 ≡ x → k + i ≡ but
    first q r f zero m z = let v : k ≡ but = passed q z in omega arith
    first q r f (suc i) m z = omega (arith, f i (omega arith) z)

    go : (b : Bool) → (eqb y x && not (eqb k but)) ≡ b → (j : ℕ) → j < suc (length ys) → get_or (y ∷ ys) j 0 ≡ x
        → (k + j ≡ but → ⊥)
        → ((j : ℕ) → j < length ys → get_or ys j 0 ≡ x → (suc k + j ≡ but → ⊥)
        → FoundFrom (suc k) x but ys (found_from (suc k) x but ys))
        → FoundFrom k x but (y ∷ ys) (cond b k (found_from (suc k) x but ys))
    go true q j l e n later = (
      0,
      omega arith,
      omega arith,
      eqb-true y x (and_left (eqb y x) (not (eqb k but)) q),
      (λ z. eqb-false k but (not-true (eqb k but) (and_right (eqb y x) (not (eqb k but)) q)) (omega arith)),
      λ i m. absurd (omega arith),
    )
    go false q zero l e n later = absurd (n (let w : k ≡ but = passed q e in omega arith))
    go false q (suc j) l e n later =
        let w = later j (omega arith) e (λ z. n (omega arith)) in
        (suc w.0, omega (arith, w.1), omega (arith, w.2), w.3, (λ z. w.4 (omega arith)), first q w.0 w.5)

pub found-is : (x but : ℕ) (ys : List ℕ) (j : ℕ) → j < length ys → get_or ys j 0 ≡ x → (j ≡ but → ⊥)
    → Found x but ys (found x but ys)
found-is x but ys j l e n =
    let w = found-from 0 x but ys j l e (λ z. n (omega arith)) in
    let q : found x but ys ≡ w.0 = omega (arith, w.1) in
    subst (Found x but ys) (sym q)
    (record { inside = w.2; is = w.3; other = λ z. w.4 (omega arith); first = λ i m z. omega (arith, w.5 i m z) })
