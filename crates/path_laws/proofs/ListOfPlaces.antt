-- The list of places holds each place once: lists in order of the coefficient sum, their sublists, and the places among
-- them. Assumes nothing.
use mathlib.Core.Bool.{Bool, true, false, cond}
use mathlib.Core.List.{List, [], ◌∷◌, map}
use mathlib.Core.Logic.{◌⊎◌, inl, inr, ⊎_elim}
use mathlib.Core.Path.{◌≡◌, refl, sym, ap, ◌∙◌}
use Prim.Native.Nat.{ℕ, ◌≤◌, ◌<◌}
use borrow.Author.Tests.{leb-true, leb-false}
use lib.Dec.{leb}
use lib.ListN.{length}
use native.Mathlib.Omega.{arith}
use Rattle.combinatorics.proofs.Basics.{absurd_bool, false_of, true_or_false}
use Rattle.combinatorics.proofs.Lists.{in_first, in_here, in_later, in_cases, all_in, in_map, map_in, in_filter, distinct_filter}
use Rattle.combinatorics.proofs.Lists.{distinct-map, distinct_append, distinct-out, distinct_tail, in_append_left}
use Rattle.combinatorics.proofs.Lists.{in_append_right, append_in}
use Rattle.combinatorics.proofs.Rising.{rising-tail, rising-below}
use Rattle.combinatorics.specs.Lists.{all, is_in, distinct, rising, sublists}
use Rattle.grid_points.proofs.Points.{point_sound, point_self, on_points, distinct-points, in_points}
use Rattle.grid_points.specs.Grid.{Point, same_point, points, is_grid_point, num_blocks}
use Rattle.place.specs.Coefficients.{coefficient_sum}
use Rattle.place.specs.Path.{same_simplex}
use Rattle.place.specs.Places.{Simplex, is_place, places, insert, in_order}
use Rattle.place.specs.Problem.{Problem}
use Rattle.path_laws.proofs.LinkSymmetry.{parts}
use Rattle.path_laws.proofs.Simplices.{on_simplices}

nil_in : (l : List Point) → is_in same_simplex [] (sublists l) ≡ true
nil_in [] = refl
nil_in (x ∷ l) = in_append_right on_simplices [] (map (λ s. x ∷ s) (sublists l)) (sublists l) (nil_in l)

-- a sublist has only elements of the list
sublist_in : (l : List Point) (s : Simplex) → is_in same_simplex s (sublists l) ≡ true → (y : Point)
    → is_in same_point y s ≡ true
    → is_in same_point y l ≡ true
sublist_in [] s m y n = ⊎_elim (λ e. rw e at n) (λ k. absurd_bool (sym k)) (in_cases on_simplices s [] [] m)
sublist_in (x ∷ l) s m y n = ⊎_elim
    (λ k.
    let i = map_in on_simplices on_simplices (λ s. x ∷ s) s (sublists l) k in
    ⊎_elim
    (λ e. in_first on_points _ x l e)
    (λ a. in_later on_points y x l (sublist_in l i.0 i.1 y a))
    (in_cases on_points y x i.0 (rw i.2 at n)))
    (λ k. in_later on_points y x l (sublist_in l s k y n))
    (append_in on_simplices s (map (λ s. x ∷ s) (sublists l)) (sublists l) m)

distinct-sublists : (l : List Point) → distinct same_point l ≡ true → distinct same_simplex (sublists l) ≡ true
distinct-sublists [] d = refl
distinct-sublists (x ∷ l) d =
    let i : distinct same_simplex (sublists l) ≡ true = distinct-sublists l (distinct_tail same_point x l d) in
    distinct_append on_simplices (map (λ s. x ∷ s) (sublists l)) (sublists l)
    (distinct-map on_simplices on_simplices (λ s. x ∷ s) (sublists l) (λ a b m n e. cc) i) i
    (λ z a b. let j = map_in on_simplices on_simplices (λ s. x ∷ s) z (sublists l) a in
    absurd_bool (sym (sublist_in l z b x (rw j.2 (in_here on_points x j.0))) ∙ distinct-out same_point x l d))

module _ (p : Problem) where
  -- each coefficient sum at most those behind it
  abbrev sorted : List Point → Type 0
  sorted [] = Unit {0}
  sorted (x ∷ l) = ((z : Point) → is_in same_point z l ≡ true → coefficient_sum p x ≤ coefficient_sum p z) × sorted l

  insert_in : (y : Point) (l : List Point) (z : Point) → is_in same_point z (insert p y l) ≡ true
      → (z ≡ y) ⊎ (is_in same_point z l ≡ true)
  insert_in y [] z m = in_cases on_points z y [] m
  insert_in y (x ∷ l) z m =
      ⊎_elim (λ t. in_cases on_points z y (x ∷ l) (rw t at m))
      (λ f. ⊎_elim (λ e. inr (in_first on_points _ x l e))
      (λ n. ⊎_elim (λ e. inl e) (λ k. inr (in_later on_points z x l k)) (insert_in y l z n))
      (in_cases on_points z x (insert p y l) (rw f at m)))
      (true_or_false (leb (coefficient_sum p y) (coefficient_sum p x)))

  in_insert : (y : Point) (l : List Point) (z : Point) → (z ≡ y) ⊎ (is_in same_point z l ≡ true)
      → is_in same_point z (insert p y l) ≡ true
  in_insert y [] z m = ⊎_elim (λ e. in_first on_points _ y [] e) (λ n. absurd_bool (sym n)) m
  in_insert y (x ∷ l) z m =
      ⊎_elim (λ t. rw t (⊎_elim (λ e. in_first on_points _ y (x ∷ l) e) (λ n. in_later on_points z y (x ∷ l) n) m))
      (λ f. rw f (⊎_elim (λ e. in_later on_points z x (insert p y l) (in_insert y l z (inl e)))
      (λ n. ⊎_elim (λ e. in_first on_points _ x (insert p y l) e)
      (λ k. in_later on_points z x (insert p y l) (in_insert y l z (inr k)))
      (in_cases on_points z x l n)) m))
      (true_or_false (leb (coefficient_sum p y) (coefficient_sum p x)))

  insert_sorted : (y : Point) (l : List Point) → sorted l → sorted (insert p y l)
  insert_sorted y [] s = ((λ z m. absurd_bool (sym m)), tt)
  insert_sorted y (x ∷ l) s = go (leb (coefficient_sum p y) (coefficient_sum p x)) refl (insert_sorted y l s.1)
    where
      go : (b : Bool) → leb (coefficient_sum p y) (coefficient_sum p x) ≡ b → sorted (insert p y l)
          → sorted (cond b (y ∷ x ∷ l) (x ∷ insert p y l))
      go true e i =
          let c : coefficient_sum p y ≤ coefficient_sum p x = leb-true _ _ e in (
            (λ z m. ⊎_elim
                (λ q. rw q c)
                (λ n. let d : coefficient_sum p x ≤ coefficient_sum p z = s.0 z n in omega arith)
                (in_cases on_points z x l m)),
            s,
          )
      go false e i =
          let c : coefficient_sum p x < coefficient_sum p y = leb-false _ _ e in
          ((λ z m. ⊎_elim (λ q. rw q (omega arith)) (λ n. s.0 z n) (insert_in y l z m)), i)

  insert-distinct : (y : Point) (l : List Point) → is_in same_point y l ≡ false → distinct same_point l ≡ true
      → distinct same_point (insert p y l) ≡ true
  insert-distinct y [] o d = refl
  insert-distinct y (x ∷ l) o d = go (leb (coefficient_sum p y) (coefficient_sum p x))
      (insert-distinct y l (false_of _ (λ m. absurd_bool (sym (in_later on_points y x l m) ∙ o)))
      (distinct_tail same_point x l d))
    where
      out : is_in same_point x (insert p y l) ≡ false
      out = false_of _
          (λ m. ⊎_elim
          (λ e. let k : is_in same_point y (x ∷ l) ≡ true = in_first on_points y x l (sym e) in absurd_bool (sym k ∙ o))
          (λ n. absurd_bool (sym n ∙ distinct-out same_point x l d))
          (insert_in y l x m))

      go : (b : Bool) → distinct same_point (insert p y l) ≡ true
          → distinct same_point (cond b (y ∷ x ∷ l) (x ∷ insert p y l)) ≡ true
      go true i = rw o d
      go false i = rw out i

  order_in : (l : List Point) (z : Point) → is_in same_point z (in_order p l) ≡ true → is_in same_point z l ≡ true
  order_in [] z m = m
  order_in (x ∷ l) z m = ⊎_elim
      (λ e. in_first on_points _ x l e)
      (λ n. in_later on_points z x l (order_in l z n))
      (insert_in x (in_order p l) z m)

  in_order_lem : (l : List Point) (z : Point) → is_in same_point z l ≡ true → is_in same_point z (in_order p l) ≡ true
  in_order_lem [] z m = m
  in_order_lem (x ∷ l) z m =
      in_insert x (in_order p l) z (⊎_elim (λ e. inl e) (λ n. inr (in_order_lem l z n)) (in_cases on_points z x l m))

  order_sorted : (l : List Point) → sorted (in_order p l)
  order_sorted [] = tt
  order_sorted (x ∷ l) = insert_sorted x (in_order p l) (order_sorted l)

  order-distinct : (l : List Point) → distinct same_point l ≡ true → distinct same_point (in_order p l) ≡ true
  order-distinct [] d = refl
  order-distinct (x ∷ l) d = insert-distinct x (in_order p l)
      (false_of _ (λ m. absurd_bool (sym (order_in l x m) ∙ distinct-out same_point x l d)))
      (order-distinct l (distinct_tail same_point x l d))

  -- a rising list of elements of a sorted list is one of its sublists
  in_sublists : (l : List Point) → sorted l → (s : Simplex) → rising (map (coefficient_sum p) s) ≡ true
      → ((y : Point) → is_in same_point y s ≡ true → is_in same_point y l ≡ true) → is_in same_simplex s (sublists l) ≡ true
  in_sublists [] k [] r h = refl
  in_sublists [] k (y ∷ s) r h = absurd_bool (sym (h y (in_here on_points y s)))
  in_sublists (x ∷ l) k [] r h = nil_in (x ∷ l)
  in_sublists (x ∷ l) k (y ∷ s) r h = go (same_point y x) refl (in_sublists l k.1)
    where
      f : Point → ℕ
      f = coefficient_sum p

      below : (z : Point) → is_in same_point z s ≡ true → f y < f z
      below = rising-below on_points _ y s r

      go : (b : Bool) → same_point y x ≡ b
          → ((s : Simplex) → rising (map (coefficient_sum p) s) ≡ true
          → ((y : Point) → is_in same_point y s ≡ true → is_in same_point y l ≡ true)
          → is_in same_simplex s (sublists l) ≡ true)
          → is_in same_simplex (y ∷ s) (sublists (x ∷ l)) ≡ true
      go true e i =
          let q : y ≡ x = point_sound y x e in
          let rest : is_in same_simplex s (sublists l) ≡ true = i s (rising-tail on_points _ y s r)
          (λ z m. ⊎_elim
          (λ w. let c : f y < f z = below z m in let d : f z ≡ f y = ap f (w ∙ sym q) in absurd (omega arith))
          (λ n. n)
          (in_cases on_points z x l (h z (in_later on_points z y s m)))) in
          rw q (in_append_left on_simplices (x ∷ s) (map (λ s. x ∷ s) (sublists l)) (sublists l)
          (in_map on_simplices on_simplices (λ s. x ∷ s) s (sublists l) rest))
      go false e i =
          let ne : (y ≡ x → ⊥) = λ q. absurd_bool (sym (point_self x) ∙ (rw q at e)) in
          let later : is_in same_point y l ≡ true =
          ⊎_elim (λ q. absurd (ne q)) (λ n. n) (in_cases on_points y x l (h y (in_here on_points y s))) in
          in_append_right on_simplices (y ∷ s) (map (λ s. x ∷ s) (sublists l)) (sublists l) (i (y ∷ s) r
          (λ z m. ⊎_elim
          (λ w. absurd (⊎_elim
          (λ q. ne (sym q ∙ w))
          (λ n.
          let c : f y < f z = below z n in
          let d : f x ≤ f y = k.0 y later in
          let g : f z ≡ f x = ap f w in
          omega arith)
          (in_cases on_points z y s m)))
          (λ n. n)
          (in_cases on_points z x l (h z m))))

  pub places-distinct : distinct same_simplex (places p) ≡ true
  unfolding places
  places-distinct =
      distinct_filter on_simplices (is_place p) (sublists (in_order p (points p.grid)))
      (distinct-sublists (in_order p (points p.grid)) (order-distinct (points p.grid) (distinct-points p.grid)))

  -- every set of grid points, in order, is one of the sublists
  pub sets_all : length p.grid.divisions ≡ num_blocks p.grid → (s : Simplex) → all (is_grid_point p.grid) s ≡ true
      → rising (map (coefficient_sum p) s) ≡ true → is_in same_simplex s (sublists (in_order p (points p.grid))) ≡ true
  sets_all e s on r =
      in_sublists (in_order p (points p.grid)) (order_sorted (points p.grid)) s r
      (λ y m. in_order_lem (points p.grid) y (in_points p.grid y e (all_in on_points (is_grid_point p.grid) s on y m)))

  pub places-all : length p.grid.divisions ≡ num_blocks p.grid → (s : Simplex) → is_place p s ≡ true
      → is_in same_simplex s (places p) ≡ true
  unfolding places
  places-all e s h =
      let k = parts p s h in
      in_filter on_simplices (is_place p) s (sublists (in_order p (points p.grid))) (sets_all e s k.grid_points k.in_order) h
