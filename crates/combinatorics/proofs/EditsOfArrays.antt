-- Laws of the edits of a list that stands at the front of an array: its first n entries. Assumes nothing.
use mathlib.Core.Bool.{Bool, true, false, not, ◌&&◌, cond}
use mathlib.Core.List.{List, [], ◌∷◌, ◌++◌}
use mathlib.Core.Path.{◌≡◌, refl, ap, ◌∙◌}
use Prim.Native.Nat.{ℕ, zero, suc, min, ◌+◌, ◌-◌, ◌≤◌, ◌<◌}
use native.Mathlib.Numerals.{add-one}
use native.Mathlib.Omega.{arith}
use borrow.Author.Tests.{eqb-true, eq-eqb, ne_eqb}
use lib.Dec.{eqb}
use lib.ListN.{length, length-take, get_or, take, drop, drop_of_length-le, set}
use lib.Seq.{drop-cons, length-take-le, take-set-lt, get_or-take}
use Rattle.combinatorics.specs.Edits.{insert_at, remove_at, swap_at, rotate_left, last_or, but_last, rotate_right}
use Rattle.combinatorics.specs.Edits.{found_from}

-- a list at the front of an array that is longer has the length that was taken
pub counted : (l : List ℕ) (n : ℕ) → length l ≡ 16 → length (take n l) ≤ 15 → length (take n l) ≡ n
counted l n e h = rw length-take (let m : min n (length l) ≤ 15 = rw length-take at h in omega arith)

pub first-few : (n : ℕ) (l : List ℕ) → length (take n l) ≤ n
first-few n l = rw length-take (omega arith)

-- an element copied to the place behind it, and x stored in its place
swap_set : (l : List ℕ) (k x : ℕ) → suc k < length l → set (set l (suc k) (get_or l k 0)) k x ≡ swap_at k (set l (suc k) x)
swap_set [] k x h = absurd (omega arith)
swap_set (y ∷ []) k x h = absurd (omega arith)
swap_set (y ∷ z ∷ l) zero x h = refl
swap_set (y ∷ z ∷ l) (suc k) x h =
    ap (λ (m : List ℕ). y ∷ m) (swap_set (z ∷ l) k x (omega arith)) ∙ swap_cons y k (z ∷ l) x
  where
    swap_cons : (y k : ℕ) (l : List ℕ) (x : ℕ) → y ∷ swap_at k (set l (suc k) x) ≡ swap_at (suc k) (y ∷ set l (suc k) x)
    swap_cons y k [] x = refl
    swap_cons y k (z ∷ l) x = refl

pub take_swap : (n k : ℕ) (l : List ℕ) → suc k < n → take n (swap_at k l) ≡ swap_at k (take n l)
take_swap zero k l h = absurd (omega arith)
take_swap (suc zero) k l h = absurd (omega arith)
take_swap (suc (suc n)) k [] h = refl
take_swap (suc (suc n)) k (x ∷ []) h = refl
take_swap (suc (suc n)) zero (x ∷ y ∷ l) h = refl
take_swap (suc (suc n)) (suc k) (x ∷ y ∷ l) h = ap (λ (m : List ℕ). x ∷ m) (take_swap (suc n) k (y ∷ l) (omega arith))

-- what was put in, exchanged with the element before it
swap_insert : (k x : ℕ) (l : List ℕ) → k < length l → swap_at k (insert_at (suc k) x l) ≡ insert_at k x l
swap_insert k x [] h = absurd (omega arith)
swap_insert zero x (y ∷ l) h = refl
swap_insert (suc k) x (y ∷ []) h = absurd (omega arith)
swap_insert (suc k) x (y ∷ z ∷ l) h = ap (λ (m : List ℕ). y ∷ m) (swap_insert k x (z ∷ l) (omega arith))

pub insert-last : (n x : ℕ) (l : List ℕ) → n < length l → take (suc n) (set l n x) ≡ insert_at n x (take n l)
insert-last n x [] h = absurd (omega arith)
insert-last zero x (y ∷ l) h = refl
insert-last (suc n) x (y ∷ l) h = ap (λ (m : List ℕ). y ∷ m) (insert-last n x l (omega arith))

-- one turn of the loop that makes room: entry k - 1 is copied to k, and x would go to k - 1
pub insert-back : (l m : List ℕ) (n k x : ℕ) → 0 < k → k ≤ n → n < length l → n ≤ length m
    → take (suc n) (set l k x) ≡ insert_at k x m
    → take (suc n) (set (set l k (get_or l (k - 1) 0)) (k - 1) x) ≡ insert_at (k - 1) x m
insert-back l m n zero x a b c d e = absurd (omega arith)
insert-back l m n (suc k) x a b c d e =
    let z : suc k - 1 ≡ k = omega arith in
    rw (z, swap_set l k x (omega arith), take_swap (suc n) k (set l (suc k) x) (omega arith), e)
    (swap_insert k x m (omega arith))

-- an element is lost to the one behind it
remove_copy : (k : ℕ) (l : List ℕ) → suc k < length l → remove_at (suc k) (set l k (get_or l (suc k) 0)) ≡ remove_at k l
remove_copy k [] h = absurd (omega arith)
remove_copy zero (x ∷ []) h = absurd (omega arith)
remove_copy zero (x ∷ y ∷ l) h = refl
remove_copy (suc k) (x ∷ l) h = ap (λ (m : List ℕ). x ∷ m) (remove_copy k l (omega arith))

-- one turn of the loop that closes a gap: entry k + 1 is copied to k
pub remove_forward : (l : List ℕ) (n k : ℕ) → k + 1 < n → n ≤ length l
    → remove_at (k + 1) (take n (set l k (get_or l (k + 1) 0))) ≡ remove_at k (take n l)
remove_forward l n k h c =
    let low : suc k < n = omega arith in
    let fits : suc k < length (take n l) = rw (length-take-le n l c) low in
    rw (add-one, take-set-lt n l k (get_or l (suc k) 0) (omega arith), ← get_or-take n l (suc k) 0 low)
    (remove_copy k (take n l) fits)

pub remove_last : (n : ℕ) (l : List ℕ) → remove_at n (take (suc n) l) ≡ take n l
remove_last zero [] = refl
remove_last (suc n) [] = refl
remove_last zero (x ∷ l) = refl
remove_last (suc n) (x ∷ l) = ap (λ (m : List ℕ). x ∷ m) (remove_last n l)

pub rotate_left_lem : (l : List ℕ) → 0 < length l → remove_at 0 l ++ (get_or l 0 0 ∷ []) ≡ rotate_left l
rotate_left_lem [] h = absurd (omega arith)
rotate_left_lem (x ∷ l) h = refl

pub rotate_right_lem : (n : ℕ) (l : List ℕ) → n < length l → get_or l n 0 ∷ take n l ≡ rotate_right (take (suc n) l)
rotate_right_lem n [] h = absurd (omega arith)
rotate_right_lem n (x ∷ l) h = pair (last n x l (omega arith)) (but n x l (omega arith))
  where
    pair : {a b : ℕ} {l m : List ℕ} → a ≡ b → l ≡ m → a ∷ l ≡ b ∷ m
    pair e f = cc

    last : (n x : ℕ) (l : List ℕ) → n ≤ length l → get_or (x ∷ l) n 0 ≡ last_or x (take n l)
    last zero x l h = refl
    last (suc n) x [] h = absurd (omega arith)
    last (suc n) x (y ∷ l) h = last n y l (omega arith)

    but : (n x : ℕ) (l : List ℕ) → n ≤ length l → take n (x ∷ l) ≡ but_last (x ∷ take n l)
    but zero x l h = refl
    but (suc n) x [] h = absurd (omega arith)
    but (suc n) x (y ∷ l) h = ap (λ (m : List ℕ). x ∷ m) (but n y l (omega arith))

pub swap_two : (k : ℕ) (l : List ℕ) → suc k < length l
    → set (set l k (get_or l (suc k) 0)) (suc k) (get_or l k 0) ≡ swap_at k l
swap_two k [] h = absurd (omega arith)
swap_two k (x ∷ []) h = absurd (omega arith)
swap_two zero (x ∷ y ∷ l) h = refl
swap_two (suc k) (x ∷ y ∷ l) h = ap (λ (m : List ℕ). x ∷ m) (swap_two k (y ∷ l) (omega arith))

pub found_here : (x but k : ℕ) (l : List ℕ) → k < length l → get_or l k 0 ≡ x → (k ≡ but → ⊥)
    → found_from k x but (drop k l) ≡ k
found_here x but k l h e n = rw (drop-cons l k 0 h, eq-eqb (get_or l k 0) x e, ne_eqb k but n)

pub found_past : (x but k : ℕ) (l : List ℕ) → length l ≤ k → k ≡ found_from k x but (drop k l)
found_past x but k l e = rw (drop_of_length-le l e)

pub found-later : (x but k : ℕ) (l : List ℕ) → k < length l → (get_or l k 0 ≡ x → k ≡ but)
    → found_from k x but (drop k l) ≡ found_from (suc k) x but (drop (suc k) l)
found-later x but k l h e = rw (drop-cons l k 0 h, passed (get_or l k 0) x k but e)
  where
    passed : (y x k but : ℕ) → (y ≡ x → k ≡ but) → (eqb y x && not (eqb k but)) ≡ false
    passed y x k but f = go (eqb y x) refl
      where
        go : (b : Bool) → eqb y x ≡ b → (b && not (eqb k but)) ≡ false
        go true e = rw (eq-eqb k but (f (eqb-true y x e)))
        go false e = refl

pub found-low : (k x but : ℕ) (l : List ℕ) → found_from k x but l ≤ k + length l
found-low k x but [] = omega arith
found-low k x but (y ∷ l) = go (eqb y x && not (eqb k but)) (found-low (suc k) x but l)
  where
    go : (b : Bool) → found_from (suc k) x but l ≤ suc k + length l
        → cond b k (found_from (suc k) x but l) ≤ k + suc (length l)
    go true i = omega arith
    go false i = omega arith
