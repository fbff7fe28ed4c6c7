-- The elements of a list, each where it stands first: what one list more adds to them. Assumes nothing.
use borrow.Author.Tests.{not-true}
use mathlib.Core.Bool.{Bool, true, false, not, ◌&&◌, ◌||◌, cond}
use mathlib.Core.List.{List, [], ◌∷◌, ◌++◌, append-nil}
use mathlib.Core.Logic.{⊎_elim}
use mathlib.Core.Path.{◌≡◌, refl, sym, ap, ◌∙◌}
use Rattle.combinatorics.proofs.Basics.{absurd_bool, both, false_of, true_or_false}
use Rattle.combinatorics.proofs.Lists.{Equality, distinct_filter, filter-all, filter-append, filter_cong, filter_in}
use Rattle.combinatorics.proofs.Lists.{in_cases, in_filter, in_first, in_later, filter-twice}
use Rattle.combinatorics.specs.Lists.{distinct, filter, is_in}
use Rattle.trail.proofs.Outside.{outside-none, outside-one}
use Rattle.trail.specs.Change.{outside}
use Rattle.nearest_visited.specs.Visited.{firsts}

neither : (a b : Bool) → (not a && not b) ≡ not (b || a)
neither true true = refl
neither true false = refl
neither false true = refl
neither false false = refl

module _ {A : Type 0} (E : Equality A) where
  open E use {eq, sound, self}

  turned : (x y : A) → eq x y ≡ eq y x
  turned x y = both (eq x y) (eq y x) (λ t. rw (sound x y t) (self y)) (λ t. rw (sound y x t) (self x))

  pub firsts_in : (x : A) (xs : List A) → is_in eq x (firsts eq xs) ≡ true → is_in eq x xs ≡ true
  firsts_in x [] m = m
  firsts_in x (y ∷ ys) m =
      ⊎_elim (λ e. in_first E _ y ys e)
      (λ n. in_later E x y ys (firsts_in x ys (filter_in E (λ z. not (eq y z)) x (firsts eq ys) n).0))
      (in_cases E x y (filter (λ z. not (eq y z)) (firsts eq ys)) m)

  pub in_firsts : (x : A) (xs : List A) → is_in eq x xs ≡ true → is_in eq x (firsts eq xs) ≡ true
  in_firsts x [] m = m
  in_firsts x (y ∷ ys) m =
      ⊎_elim (λ e. in_first E _ y (filter (λ z. not (eq y z)) (firsts eq ys)) e)
      (λ n. ⊎_elim (λ t. in_first E x y (filter (λ z. not (eq y z)) (firsts eq ys)) (sym (sound y x t)))
      (λ f. in_later E x y (filter (λ z. not (eq y z)) (firsts eq ys))
      (in_filter E (λ z. not (eq y z)) x (firsts eq ys) (in_firsts x ys n) (rw f))) (true_or_false (eq y x)))
      (in_cases E x y ys m)

  pub firsts-distinct : (xs : List A) → distinct eq (firsts eq xs) ≡ true
  firsts-distinct [] = refl
  firsts-distinct (x ∷ xs) =
      let out : is_in eq x (filter (λ z. not (eq x z)) (firsts eq xs)) ≡ false = false_of _ (λ m.
      absurd_bool (sym (self x) ∙ not-true (eq x x) (filter_in E (λ z. not (eq x z)) x (firsts eq xs) m).1)) in
      rw out (distinct_filter E (λ z. not (eq x z)) (firsts eq xs) (firsts-distinct xs))

  -- a second list adds its own that the first lacks
  pub firsts-append : (xs ys : List A) → firsts eq (xs ++ ys) ≡ firsts eq xs ++ outside eq xs (firsts eq ys)
  firsts-append [] ys = sym (filter-all E (firsts eq ys) (λ x m. refl))
  firsts-append (x ∷ xs) ys =
      ap (λ (l : List A). x ∷ l)
      (ap (filter (λ z. not (eq x z))) (firsts-append xs ys)
      ∙ filter-append (λ z. not (eq x z)) (firsts eq xs) (outside eq xs (firsts eq ys))
      ∙ ap (λ (l : List A). filter (λ z. not (eq x z)) (firsts eq xs) ++ l)
      (filter-twice (λ z. not (eq x z)) (λ z. not (is_in eq z xs)) (firsts eq ys)
      ∙ filter_cong E (firsts eq ys) (λ z m. rw (turned x z) (neither (is_in eq z xs) (eq z x)))))

  pub none_more : (xs ys : List A) → ((z : A) → is_in eq z ys ≡ true → is_in eq z xs ≡ true)
      → firsts eq (xs ++ ys) ≡ firsts eq xs
  none_more xs ys h =
      firsts-append xs ys
      ∙ ap (λ (l : List A). firsts eq xs ++ l) (outside-none E (firsts eq ys) xs (λ z m. h z (firsts_in z ys m)))
      ∙ append-nil (firsts eq xs)

  -- at most one that the first list lacks
  pub one_more : (xs ys : List A) (y : A) → is_in eq y ys ≡ true
      → ((z : A) → is_in eq z ys ≡ true → (z ≡ y → ⊥) → is_in eq z xs ≡ true)
      → firsts eq (xs ++ ys) ≡ firsts eq xs ++ cond (is_in eq y xs) [] (y ∷ [])
  one_more xs ys y m h = ⊎_elim
      (λ t. rw t
      (none_more xs ys
      (λ z n. ⊎_elim
      (λ q. rw (sound z y q) t)
      (λ q. h z n (λ e. absurd_bool (sym (rw e (self y)) ∙ q)))
      (true_or_false (eq z y)))
      ∙ sym (append-nil (firsts eq xs))))
      (λ f. rw f
      (firsts-append xs ys
      ∙ ap (λ (l : List A). firsts eq xs ++ l)
      (outside-one E (firsts eq ys) xs (firsts-distinct ys) y (in_firsts y ys m) f
      (λ z n o. ⊎_elim
      (λ q. sound z y q)
      (λ q. absurd_bool (sym (h z (firsts_in z ys n) (λ e. absurd_bool (sym (rw e (self y)) ∙ q))) ∙ o))
      (true_or_false (eq z y))))))
      (true_or_false (is_in eq y xs))
