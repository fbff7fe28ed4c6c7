-- The elements of a list with one put in; what is not in a list is found past its last element. Assumes nothing.
use mathlib.Core.List.{List, [], ◌∷◌}
use mathlib.Core.Path.{◌≡◌, refl, ap, ◌∙◌}
use Prim.Native.Nat.{ℕ, zero, suc, ◌+◌, ◌≤◌, ◌<◌}
use borrow.Author.Tests.{ne_eqb}
use lib.ListN.{length, get_or}
use native.Mathlib.Omega.{arith}
use Rattle.combinatorics.specs.Edits.{insert_at, found_from, found}

pub length-insert_at : {A : Type 0} (i : ℕ) (x : A) (ys : List A) → length (insert_at i x ys) ≡ suc (length ys)
length-insert_at zero x ys = refl
length-insert_at (suc i) x [] = refl
length-insert_at (suc i) x (y ∷ ys) = ap suc (length-insert_at i x ys)

pub insert_at-before : {A : Type 0} (d : A) (i : ℕ) (x : A) (ys : List A) (j : ℕ) → i ≤ length ys → j < i
    → get_or (insert_at i x ys) j d ≡ get_or ys j d
insert_at-before d zero x ys j l m = absurd (omega arith)
insert_at-before d (suc i) x [] j l m = absurd (omega arith)
insert_at-before d (suc i) x (y ∷ ys) zero l m = refl
insert_at-before d (suc i) x (y ∷ ys) (suc j) l m = insert_at-before d i x ys j (omega arith) (omega arith)

pub insert_at-here : {A : Type 0} (d : A) (i : ℕ) (x : A) (ys : List A) → i ≤ length ys → get_or (insert_at i x ys) i d ≡ x
insert_at-here d zero x ys l = refl
insert_at-here d (suc i) x [] l = absurd (omega arith)
insert_at-here d (suc i) x (y ∷ ys) l = insert_at-here d i x ys (omega arith)

pub insert_at-behind : {A : Type 0} (d : A) (i : ℕ) (x : A) (ys : List A) (j : ℕ) → i ≤ length ys → i ≤ j
    → get_or (insert_at i x ys) (suc j) d ≡ get_or ys j d
insert_at-behind d zero x ys j l m = refl
insert_at-behind d (suc i) x [] j l m = absurd (omega arith)
insert_at-behind d (suc i) x (y ∷ ys) zero l m = absurd (omega arith)
insert_at-behind d (suc i) x (y ∷ ys) (suc j) l m = insert_at-behind d i x ys j (omega arith) (omega arith)

found-none-from : (k x but : ℕ) (ys : List ℕ) → ((j : ℕ) → j < length ys → get_or ys j 0 ≡ x → ⊥)
    → found_from k x but ys ≡ k + length ys
found-none-from k x but [] n = omega arith
found-none-from k x but (y ∷ ys) n = rw (ne_eqb y x (n 0 (omega arith)))
    (found-none-from (suc k) x but ys (λ j l. n (suc j) (omega arith)) ∙ omega arith)

pub found_none : (x but : ℕ) (ys : List ℕ) → ((j : ℕ) → j < length ys → get_or ys j 0 ≡ x → ⊥)
    → found x but ys ≡ length ys
found_none x but ys n = found-none-from 0 x but ys n ∙ omega arith
