-- Lists less another list: what is left, and how much. Assumes nothing.
use borrow.Author.Tests.{not-true}
use mathlib.Core.Bool.{true, false, not}
use mathlib.Core.List.{List, [], ◌∷◌, map}
use mathlib.Core.Logic.{⊎_elim}
use mathlib.Core.Path.{◌≡◌, refl, sym, ap, ◌∙◌}
use Prim.Native.Nat.{ℕ, ◌+◌, ◌≤◌}
use lib.Dec.{eqb}
use lib.ListN.{length}
use native.Mathlib.Omega.{arith}
use Rattle.combinatorics.proofs.Basics.{absurd_bool, true_or_false}
use Rattle.combinatorics.proofs.Lists.{Equality, in_here, in_filter, filter_in, distinct_filter, pigeon, only-list}
use Rattle.combinatorics.specs.Lists.{filter, is_in, distinct}
use Rattle.combinatorics.proofs.Lists.{length_passing, on_numbers}
use Rattle.grid_points.proofs.Points.{on_points}
use Rattle.grid_points.specs.Grid.{Point, same_point}
use Rattle.trail.specs.Change.{outside}

pub one_of : {A : Type 0} (xs : List A) → length xs ≡ 1 → (x : A) × (xs ≡ x ∷ [])
one_of [] e = absurd (omega arith)
one_of (x ∷ []) e = (x, refl)
one_of (x ∷ y ∷ xs) e = absurd (omega arith)

pub none_of : {A : Type 0} (xs : List A) → length xs ≡ 0 → xs ≡ []
none_of [] e = refl
none_of (x ∷ xs) e = absurd (omega arith)

module _ {A : Type 0} (E : Equality A) where
  pub in_outside : (x : A) (a b : List A) → is_in E.eq x a ≡ true → is_in E.eq x b ≡ false
      → is_in E.eq x (outside E.eq b a) ≡ true
  in_outside x a b m n = in_filter E (λ z. not (is_in E.eq z b)) x a m (rw n)

  pub outside_in : (x : A) (a b : List A) → is_in E.eq x (outside E.eq b a) ≡ true
      → (is_in E.eq x a ≡ true) × (is_in E.eq x b ≡ false)
  outside_in x a b m = let w = filter_in E (λ z. not (is_in E.eq z b)) x a m in (w.0, not-true _ w.1)

  -- the elements of a within b are counted alike from both sides
  shared_le : (a b : List A) → distinct E.eq a ≡ true
      → length (filter (λ x. is_in E.eq x b) a) ≤ length (filter (λ x. is_in E.eq x a) b)
  shared_le a b d = pigeon E (filter (λ x. is_in E.eq x b) a) (filter (λ x. is_in E.eq x a) b)
      (distinct_filter E (λ x. is_in E.eq x b) a d)
      (λ x m. let w = filter_in E (λ x. is_in E.eq x b) x a m in in_filter E (λ x. is_in E.eq x a) x b w.1 w.0)

  pub shared_same : (a b : List A) → distinct E.eq a ≡ true → distinct E.eq b ≡ true
      → length (filter (λ x. is_in E.eq x b) a) ≡ length (filter (λ x. is_in E.eq x a) b)
  shared_same a b da db = omega (arith, shared_le a b da, shared_le b a db)

  -- so two lists without repeats differ in length as they differ in elements
  pub outside-count : (a b : List A) → distinct E.eq a ≡ true → distinct E.eq b ≡ true
      → length (outside E.eq a b) + length a ≡ length (outside E.eq b a) + length b
  outside-count a b da db =
      omega (arith, shared_same a b da db, length_passing (λ x. is_in E.eq x b) a, length_passing (λ x. is_in E.eq x a) b)

  empty_of : (xs : List A) → ((x : A) → is_in E.eq x xs ≡ true → ⊥) → xs ≡ []
  empty_of [] h = refl
  empty_of (x ∷ xs) h = absurd (h x (in_here E x xs))

  -- all elements are in the other list
  pub outside-none : (a b : List A) → ((x : A) → is_in E.eq x a ≡ true → is_in E.eq x b ≡ true) → outside E.eq b a ≡ []
  outside-none a b h =
      empty_of (outside E.eq b a) (λ x m. let w = outside_in x a b m in absurd_bool (sym (h x w.0) ∙ w.1))

  -- all but one
  pub outside-one : (a b : List A) → distinct E.eq a ≡ true → (g : A) → is_in E.eq g a ≡ true → is_in E.eq g b ≡ false
      → ((x : A) → is_in E.eq x a ≡ true → is_in E.eq x b ≡ false → x ≡ g) → outside E.eq b a ≡ g ∷ []
  outside-one a b d g m n only =
      only-list E g (outside E.eq b a)
      (pigeon E (outside E.eq b a) (g ∷ []) (distinct_filter E (λ x. not (is_in E.eq x b)) a d)
      (λ x k. let w = outside_in x a b k in rw (only x w.0 w.1) (in_here E g [])))
      (in_outside g a b m n)

-- with nothing left out of one list by another, its numbers are all in the other
pub within-other : (u v : List ℕ) → outside eqb v u ≡ [] → (k : ℕ) → is_in eqb k u ≡ true → is_in eqb k v ≡ true
within-other u v q k m =
    ⊎_elim (λ y. y) (λ z. absurd_bool (sym (rw q at (in_outside on_numbers k u v m z)))) (true_or_false (is_in eqb k v))

-- a list of points that is mapped to one number has one point
pub mapped_one : (f : Point → ℕ) (l : List Point) (x : ℕ) → map f l ≡ x ∷ []
    → (y : Point) × (l ≡ y ∷ []) × (is_in same_point y l ≡ true) × (f y ≡ x)
mapped_one f [] x e = absurd (omega (arith, ap length e))
mapped_one f (y ∷ []) x e = (y, refl, in_here on_points y [], cc)
mapped_one f (y ∷ z ∷ l) x e = absurd (omega (arith, ap length e))
