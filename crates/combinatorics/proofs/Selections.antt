-- Ordered selections of at most n elements, and how many there are. Assumes nothing.
use mathlib.Core.Bool.{true, false, not}
use mathlib.Core.List.{List, [], ◌∷◌, map}
use mathlib.Core.Path.{◌≡◌, refl, sym, ap, ◌∙◌}
use Prim.Native.Nat.{ℕ, zero, suc, ◌+◌, ◌-◌, ◌*◌, ◌≤◌}
use borrow.Author.Tests.{eqb-true}
use lib.Dec.{eqb}
use lib.ListN.{length, length-map}
use native.Mathlib.Nat.{mul-add}
use native.Mathlib.Omega.{arith}
use Rattle.combinatorics.proofs.Basics.{absurd_bool, false_of}
use Rattle.combinatorics.proofs.Lists.{in_here, in_later, in_map, in_filter, distinct_filter, distinct-out}
use Rattle.combinatorics.proofs.Lists.{distinct_tail, in_concat_map, length-concat_map, length_without, on_numbers}
use Rattle.combinatorics.proofs.Lists.{on_lists}
use Rattle.combinatorics.specs.Counting.{falling}
use Rattle.combinatorics.specs.Lists.{filter, is_in, distinct, concat_map, up_from, sum, same, selections}

abbrev pub orders : ℕ → ℕ → ℕ
orders m n = sum (map (falling m) (up_from 0 (suc n)))

falling_shift : (m b k : ℕ) → sum (map (falling m) (up_from (suc b) k)) ≡ m * sum (map (falling (m - 1)) (up_from b k))
falling_shift m b zero = omega arith
falling_shift m b (suc k) = rw (mul-add, falling_shift m (suc b) k)

orders_suc : (m n : ℕ) → orders m (suc n) ≡ 1 + m * orders (m - 1) n
orders_suc m n = ap (λ (x : ℕ). 1 + x) (falling_shift m 0 (suc n))

pub length-selections : (n : ℕ) (xs : List ℕ) → distinct eqb xs ≡ true → length (selections n xs) ≡ orders (length xs) n
length-selections zero xs d = refl
length-selections (suc n) xs d =
    let e : length (concat_map (λ x. map (λ l. x ∷ l) (selections n (filter (λ y. not (eqb x y)) xs))) xs)
    ≡ length xs * orders (length xs - 1) n =
    length-concat_map on_numbers (on_lists on_numbers) (orders (length xs - 1) n)
    (λ x. map (λ l. x ∷ l) (selections n (filter (λ y. not (eqb x y)) xs)))
    xs
    (λ x m. length-map (selections n (filter (λ y. not (eqb x y)) xs)) (λ l. x ∷ l)
    ∙ length-selections n (filter (λ y. not (eqb x y)) xs) (distinct_filter on_numbers (λ y. not (eqb x y)) xs d)
    ∙ ap (λ (k : ℕ). orders k n)
    (let w : suc (length (filter (λ y. not (eqb x y)) xs)) ≡ length xs = length_without on_numbers x xs d m in
    omega arith)) in
    let f : orders (length xs) (suc n) ≡ 1 + length xs * orders (length xs - 1) n = orders_suc (length xs) n in
    omega arith

pub in_selections : (n : ℕ) (o xs : List ℕ) → distinct eqb o ≡ true
    → ((x : ℕ) → is_in eqb x o ≡ true → is_in eqb x xs ≡ true) → length o ≤ n
    → is_in (same eqb) o (selections n xs) ≡ true
in_selections zero [] xs d s h = refl
in_selections zero (x ∷ o) xs d s h = absurd (omega arith)
in_selections (suc n) [] xs d s h = refl
in_selections (suc n) (x ∷ o) xs d s h = in_concat_map on_numbers (on_lists on_numbers)
    (λ x. map (λ l. x ∷ l) (selections n (filter (λ y. not (eqb x y)) xs)))
    x (x ∷ o) xs (s x (in_here on_numbers x o))
    (in_map (on_lists on_numbers) (on_lists on_numbers) (λ l. x ∷ l) o (selections n (filter (λ y. not (eqb x y)) xs))
    (in_selections n o (filter (λ y. not (eqb x y)) xs) (distinct_tail eqb x o d)
    (λ z m. in_filter on_numbers (λ y. not (eqb x y)) z xs (s z (in_later on_numbers z x o m))
    (let q : eqb x z ≡ false =
    false_of _ (λ e. absurd_bool (sym m ∙ (rw (eqb-true x z e) at (distinct-out eqb x o d)))) in
    rw q))
    (omega arith)))
