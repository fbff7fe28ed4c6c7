-- Lists by position: membership, occurrences, sums, and what holds along the points of a place. Assumes nothing.
use mathlib.Core.Bool.{Bool, true, false}
use mathlib.Core.List.{List, [], ◌∷◌, map}
use mathlib.Core.Logic.{◌⊎◌, inl, inr, ⊎_elim}
use mathlib.Core.Path.{◌≡◌, refl, sym, ap, ◌∙◌}
use Prim.Native.Nat.{ℕ, zero, suc, ◌≤◌, ◌<◌}
use borrow.Author.Tests.{eqb-true, eq-eqb, lt-ltb}
use lib.Dec.{eqb}
use lib.ListN.{length, get_or}
use native.Mathlib.Omega.{arith}
use Rattle.combinatorics.proofs.Lists.{filter_cong, in_here, in_later, in_cases, in_filter, filter_in, distinct-out}
use Rattle.combinatorics.proofs.Lists.{distinct_tail, on_numbers, Equality}
use Rattle.combinatorics.proofs.Basics.{absurd_bool, true_or_false, and_both, and_left, and_right, false_of, both}
use Rattle.combinatorics.specs.Lists.{is_in, all, filter, distinct, sum, rising, first_or, occurrences}
use Rattle.geometry.proofs.LabelledChains.{tabulate}
use Rattle.geometry.proofs.Points.{nth}
use Rattle.grid_points.specs.Grid.{Grid, Point, at}
use Rattle.place.specs.Places.{Simplex, order, grown_at, goes_to, first_back_outside, each_goes_to_next}

-- lists by position
module _ {A : Type 0} (E : Equality A) (d : A) where
  open E use {eq}

  pub at_in : (xs : List A) (j : ℕ) → j < length xs → is_in eq (get_or xs j d) xs ≡ true
  at_in [] j l = absurd (omega arith)
  at_in (x ∷ xs) zero l = in_here E x xs
  at_in (x ∷ xs) (suc j) l = in_later E (get_or xs j d) x xs (at_in xs j (omega arith))

  pub in_at : (x : A) (xs : List A) → is_in eq x xs ≡ true → (j : ℕ) × (j < length xs) × (get_or xs j d ≡ x)
  in_at x [] m = absurd_bool (sym m)
  in_at x (y ∷ xs) m = ⊎_elim
      (λ e. (0, omega arith, sym e))
      (λ n. let i = in_at x xs n in (suc i.0, omega (arith, i.1), i.2))
      (in_cases E x y xs m)

  pub same_at : (xs : List A) → distinct eq xs ≡ true → (i j : ℕ) → i < length xs → j < length xs
      → get_or xs i d ≡ get_or xs j d → i ≡ j
  same_at [] u i j l m e = absurd (omega arith)
  same_at (x ∷ xs) u zero zero l m e = refl
  same_at (x ∷ xs) u zero (suc j) l m e =
      absurd_bool (sym (at_in xs j (omega arith)) ∙ (rw e at (distinct-out eq x xs u)))
  same_at (x ∷ xs) u (suc i) zero l m e = absurd_bool (sym (at_in xs i (omega arith)) ∙ (rw e (distinct-out eq x xs u)))
  same_at (x ∷ xs) u (suc i) (suc j) l m e =
      ap suc (same_at xs (distinct_tail eq x xs u) i j (omega arith) (omega arith) e)

  pub at-distinct : (xs : List A) → ((i j : ℕ) → i < length xs → j < length xs → get_or xs i d ≡ get_or xs j d → i ≡ j)
      → distinct eq xs ≡ true
  at-distinct [] h = refl
  at-distinct (x ∷ xs) h =
      let o : is_in eq x xs ≡ false = false_of _ (λ m.
      let i = in_at x xs m in
      absurd (omega (arith, h 0 (suc i.0) (omega arith) (omega (arith, i.1)) (sym i.2)))) in
      rw o (at-distinct xs
      (λ i j l m e. let w : suc i ≡ suc j = h (suc i) (suc j) (omega arith) (omega arith) e in omega arith))

pub never : (x : ℕ) (o : List ℕ) → is_in eqb x o ≡ false → occurrences x o ≡ 0
never x [] e = refl
never x (y ∷ o) e = ⊎_elim (λ t. absurd_bool (rw t at e)) (λ f. rw f (never x o (rw f at e))) (true_or_false (eqb x y))

pub occurs_once : (x : ℕ) (o : List ℕ) → distinct eqb o ≡ true → is_in eqb x o ≡ true → occurrences x o ≡ 1
occurs_once x [] d m = absurd_bool (sym m)
occurs_once x (y ∷ o) d m =
    ⊎_elim (λ t. rw t (ap suc (never x o (rw (eqb-true x y t) (distinct-out eqb y o d)))))
    (λ f. rw f (occurs_once x o (distinct_tail eqb y o d) (rw f at m)))
    (true_or_false (eqb x y))

-- sums
sum_le : (c d : List ℕ) → length c ≡ length d → ((k : ℕ) → k < length c → at c k ≤ at d k) → sum c ≤ sum d
sum_le [] [] e h = omega arith
sum_le [] (y ∷ d) e h = omega arith
sum_le (x ∷ c) [] e h = absurd (omega arith)
sum_le (x ∷ c) (y ∷ d) e h = omega (arith, h 0 (omega arith), sum_le c d (omega arith) (λ k l. h (suc k) (omega arith)))

pub sum_lt : (c d : List ℕ) → length c ≡ length d → ((k : ℕ) → k < length c → at c k ≤ at d k) → (i : ℕ) → i < length c
    → at c i < at d i → sum c < sum d
sum_lt [] d e h i l q = absurd (omega arith)
sum_lt (x ∷ c) [] e h i l q = absurd (omega arith)
sum_lt (x ∷ c) (y ∷ d) e h zero l q = omega (arith, sum_le c d (omega arith) (λ k l. h (suc k) (omega arith)))
sum_lt (x ∷ c) (y ∷ d) e h (suc i) l q =
    omega (arith, h 0 (omega arith), sum_lt c d (omega arith) (λ k l. h (suc k) (omega arith)) i (omega arith) q)

pub occurs_in : (x : ℕ) (o : List ℕ) → occurrences x o ≡ 1 → is_in eqb x o ≡ true
occurs_in x [] e = absurd (omega arith)
occurs_in x (y ∷ o) e = ⊎_elim (λ t. rw t) (λ f. rw f (occurs_in x o (rw f at e))) (true_or_false (eqb x y))

pub first_of : {q : ℕ → Bool} (xs : List ℕ) (h : ℕ) → is_in eqb h xs ≡ true → q h ≡ true
    → ((k : ℕ) → is_in eqb k xs ≡ true → q k ≡ true → k ≡ h)
    → first_or 0 (filter q xs) ≡ h
first_of {q} xs h m e only =
    go (filter q xs) (in_filter on_numbers q h xs m e) (λ k n. let i = filter_in on_numbers q k xs n in only k i.0 i.1)
  where
    go : (l : List ℕ) → is_in eqb h l ≡ true → ((k : ℕ) → is_in eqb k l ≡ true → k ≡ h) → first_or 0 l ≡ h
    go [] m o = absurd_bool (sym m)
    go (x ∷ l) m o = o x (in_here on_numbers x l)

pub set_of_lem : (q : ℕ → Bool) (xs : List ℕ) → filter q xs ≡ filter (λ k. is_in eqb k (filter q xs)) xs
set_of_lem q xs = filter_cong on_numbers xs
    (λ k m. both _ _ (λ e. in_filter on_numbers q k xs m e) (λ e. (filter_in on_numbers q k xs e).1))

-- a coordinate that is not 0 at all points: where it is positive
pub not_all : (k : ℕ) (s : Simplex) → all (λ y. eqb (at y k) 0) s ≡ false
    → (j : ℕ) × (j < length s) × (0 < at (nth s j) k)
not_all k [] e = absurd_bool e
not_all k (x ∷ s) e = go (at x k) refl
    (⊎_elim (λ w. inl w) (λ w. inr (not_all k s w)) (true_or_false (all (λ y. eqb (at y k) 0) s)))
  where
    go : (n : ℕ) → at x k ≡ n → (all (λ y. eqb (at y k) 0) s ≡ true) ⊎ ((j : ℕ) × (j < length s) × (0 < at (nth s j) k))
        → (j : ℕ) × (j < suc (length s)) × (0 < at (nth (x ∷ s) j) k)
    go zero q c = ⊎_elim
        (λ w. absurd_bool (sym (and_both _ _ (eq-eqb (at x k) 0 q) w) ∙ e))
        (λ i. (suc i.0, omega (arith, i.1), i.2))
        c
    go (suc n) q c = (0, omega arith, omega arith)

-- what goes along the points, by position
pub order-long : (g : Grid) (y : Point) (s : Simplex) → length (order g (y ∷ s)) ≡ length s
order-long g y [] = refl
order-long g y (z ∷ s) = ap suc (order-long g z s)

pub each_at : (g : Grid) (u : List ℕ) (s : Simplex) → each_goes_to_next g u s ≡ true → (j : ℕ) → j < length (order g s)
    → goes_to g (at (order g s) j) (first_back_outside g u (at (order g s) j)) (nth s j) (nth s (suc j)) ≡ true
each_at g u [] e j l = absurd (omega arith)
each_at g u (y ∷ []) e j l = absurd (omega arith)
each_at g u (y ∷ z ∷ s) e zero l = and_left _ _ e
each_at g u (y ∷ z ∷ s) e (suc j) l = each_at g u (z ∷ s)
    (and_right (goes_to g (grown_at g y z) (first_back_outside g u (grown_at g y z)) y z) (each_goes_to_next g u (z ∷ s)) e) j
    (omega arith)

pub at_each : (g : Grid) (u : List ℕ) (s : Simplex)
    → ((j : ℕ) → suc j < length s
    → goes_to g (grown_at g (nth s j) (nth s (suc j))) (first_back_outside g u (grown_at g (nth s j) (nth s (suc j))))
    (nth s j) (nth s (suc j))
    ≡ true)
    → each_goes_to_next g u s ≡ true
at_each g u [] h = refl
at_each g u (y ∷ []) h = refl
at_each g u (y ∷ z ∷ s) h =
    and_both _ _ (h 0 (omega arith)) (at_each g u (z ∷ s) (λ j l. h (suc j) (omega arith)))

pub at-order : (g : Grid) (s : Simplex) (t : ℕ) {o : ℕ → ℕ} → length s ≡ suc t
    → ((j : ℕ) → j < t → grown_at g (nth s j) (nth s (suc j)) ≡ o j)
    → order g s ≡ tabulate t o
at-order g [] t e h = absurd (omega arith)
at-order g (y ∷ []) zero e h = refl
at-order g (y ∷ []) (suc t) e h = absurd (omega arith)
at-order g (y ∷ z ∷ s) zero e h = absurd (omega arith)
at-order g (y ∷ z ∷ s) (suc t) {o} e h =
    let a = h 0 (omega arith) in
    let r = at-order g (z ∷ s) t (omega arith) (λ j l. h (suc j) (omega arith)) in
    rw (a, r)

pub at-rising : (f : Point → ℕ) (s : Simplex) → ((j : ℕ) → suc j < length s → f (nth s j) < f (nth s (suc j)))
    → rising (map f s) ≡ true
at-rising f [] h = refl
at-rising f (y ∷ []) h = refl
at-rising f (y ∷ z ∷ s) h =
    and_both _ _ (lt-ltb (f y) (f z) (h 0 (omega arith))) (at-rising f (z ∷ s) (λ j l. h (suc j) (omega arith)))
