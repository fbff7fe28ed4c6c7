-- A first point and an order are a place exactly if they meet the conditions, and every place is kept so, in one way
-- only. In order: with labels; without; every place; two kept places. Assumes nothing.
use mathlib.Core.Bool.{Bool, true, false, ◌&&◌, ◌||◌}
use mathlib.Core.List.{List, [], ◌∷◌, map}
use mathlib.Core.Logic.{⊎_elim}
use mathlib.Core.Path.{◌≡◌, refl, sym, ap, ◌∙◌}
use Prim.Native.Nat.{ℕ, suc, ◌+◌, ◌<◌}
use borrow.Author.Tests.{eq-eqb, ne_eqb, ltb-true}
use lib.Dec.{eqb, ltb}
use lib.ListN.{length, length-map}
use lib.Seq.{ext_get_or}
use native.Mathlib.Omega.{arith}
use Rattle.combinatorics.proofs.Basics.{absurd_bool, and_both, and_left, and_right, both, false_of, or_left, or_right}
use Rattle.combinatorics.proofs.Basics.{true_or_false}
use Rattle.combinatorics.proofs.Lists.{all_in, in_all, in_cases, in_first, in_here, in_later, in_map, map_in, on_numbers}
use Rattle.combinatorics.specs.Lists.{all, first_or, is_in}
use Rattle.grid_points.proofs.Points.{on_points}
use Rattle.grid_points.specs.Grid.{Grid, Point, at, indices, is_grid_point, num_indices, same_point}
use Rattle.place.specs.Coefficients.{coefficients}
use Rattle.place.specs.Places.{Simplex, each_goes_to_next, first_back_outside, goes_to, grown_at, is_place, is_unlabelled_place}
use Rattle.place.specs.Places.{label_set, order, set_u, unit, within}
use Rattle.place.specs.Problem.{Problem, label, with_labels}
use Rattle.path_laws.proofs.IndexSets.{goes_at, no-empty, order-within, T_not_U}
use Rattle.path_laws.proofs.LinkSymmetry.{parts}
use Rattle.path_laws.proofs.Local.{unlabelled-same}
use Rattle.path_laws.proofs.Meaning.{index_means, labels_mean, U_means}
use Rattle.path_laws.specs.Demand.{HasStart}
use Rattle.trail.proofs.Tables.{Names, has-start_with, some-index, some-table, table, table-labels}
use Rattle.walks.proofs.KeptForm.{back-same, grid-long, labelled, meets, order_is}
use Rattle.walks.proofs.KeptPlace.{Conditions, at-stepped, conditions_of, distinct-points, is_zero, kept-place}
use Rattle.walks.proofs.KeptPlace.{length-stepped, points-long, points_on, zero_is}
use Rattle.walks.specs.Kept.{is_kept, kept_points, points_by, stepped, zero_outside}

pub of_conditions : (p : Problem) (y : Point) (o : List ℕ) → Conditions p y o → is_kept p y o ≡ true
unfolding is_kept
of_conditions p y o k =
    and_both _ _ (and_both _ _ (and_both _ _ (and_both _ _ k.on_grid (and_both _ _ k.below k.different)) k.free)
    (in_all on_numbers _ (indices p.grid) (λ h m. known h ((index_means p.grid h).0 m)))) k.can
  where
    known : (h : ℕ) → h < num_indices p.grid
        → (is_in eqb h o || is_in eqb h (zero_outside p.grid o y) || eqb (at (coefficients p y) h) 0) ≡ true
    known h l =
        let t : Bool = is_in eqb h o in
        let v : Bool = is_in eqb h (zero_outside p.grid o y) in
        let c : Bool = eqb (at (coefficients p y) h) 0 in
        ⊎_elim
        (λ a. or_left (t || v) c (or_left t v a))
        (λ a. ⊎_elim
        (λ b. or_left (t || v) c (or_right t v b))
        (λ b. or_right (t || v) c (eq-eqb _ 0 (k.zero h l a b)))
        (true_or_false v))
        (true_or_false t)

-- a first point and an order are a place exactly if they meet the conditions and the indices of the order are labels
pub recognised : {p : Problem} → HasStart p → (y : Point) (o : List ℕ)
    → is_place p (kept_points p.grid y o) ≡ (is_kept p y o && within o (label_set p (kept_points p.grid y o)))
recognised {p} ok y o =
    let s = kept_points p.grid y o in
    both (is_place p s) (is_kept p y o && within o (label_set p s))
    (λ h. and_both _ _ (of_conditions p y o (meets p y o h)) (labelled p y o h))
    (λ h. kept-place ok y o (conditions_of p y o (and_left (is_kept p y o) (within o (label_set p s)) h))
    (and_right (is_kept p y o) (within o (label_set p s)) h))

-- the conditions look at no label
kept-same-labels : (p : Problem) (labels : List ℕ) (y : Point) (o : List ℕ)
    → is_kept (with_labels p labels) y o ≡ is_kept p y o
unfolding is_kept coefficients
kept-same-labels p labels y o = refl

-- labels for the points, by the order
module _ {p : Problem} (ok : HasStart p) (y : Point) (o : List ℕ) (k : Conditions p y o) where
  abbrev s : Simplex
  s = kept_points p.grid y o

  abbrev ls : List ℕ
  ls = 1 ∷ map suc o

  names : Names (num_indices p.grid) ls
  names l m =
      ⊎_elim (λ (e : l ≡ 1). (omega arith, omega (arith, some-index ok)))
      (λ n. let w = map_in on_numbers on_numbers suc l o n in
      let b = ltb-true w.0 _ (all_in on_numbers (λ h. ltb h (num_indices p.grid)) o k.below w.0 w.1) in
      (omega (arith, w.2), omega (arith, w.2)))
      (in_cases on_numbers l 1 (map suc o) m)

  pub shape : is_unlabelled_place p s ≡ true
  unfolding is_place
  shape =
      let q = with_labels p (table p.grid s ls) in
      let okq = has-start_with ok (table p.grid s ls) in
      let kq = conditions_of q y o (kept-same-labels p (table p.grid s ls) y o ∙ of_conditions p y o k) in
      let e : map (label q) s ≡ ls = table-labels ok s (points_on ok y o k) (distinct-points ok y o k) ls
      (ap suc (length-map o suc) ∙ sym (points-long ok y o k)) names in
      let w : within o (label_set q s) ≡ true = in_all on_numbers
      (λ h. is_in eqb h (label_set q s))
      o
      (λ h m.
      let i = map_in on_points on_numbers (label q) (suc h) s
      (rw e (in_later on_numbers (suc h) 1 (map suc o) (in_map on_numbers on_numbers suc h o m))) in
      (labels_mean q s h).1
      (ltb-true h _ (all_in on_numbers (λ h. ltb h (num_indices p.grid)) o k.below h m), (i.0, i.1, sym i.2))) in
      sym (unlabelled-same p (table p.grid s ls) s) ∙ and_left (is_unlabelled_place q s) _ (kept-place okq y o kq w)

-- they are a place over some table exactly if they meet the conditions
pub shape_recognised : {p : Problem} → HasStart p → (y : Point) (o : List ℕ)
    → is_unlabelled_place p (kept_points p.grid y o) ≡ is_kept p y o
shape_recognised {p} ok y o =
    both (is_unlabelled_place p (kept_points p.grid y o)) (is_kept p y o)
    (λ h. let t = some-table ok (kept_points p.grid y o) h 0 0 (some-point p.grid y o) (some-index ok) in
    sym (kept-same-labels p t.0 y o) ∙ of_conditions (with_labels p t.0) y o (meets (with_labels p t.0) y o t.1.place))
    (λ h. shape ok y o (conditions_of p y o h))
  where
    some-point : (g : Grid) (y : Point) (o : List ℕ) → 0 < length (kept_points g y o)
    some-point g y [] = omega arith
    some-point g y (h ∷ o) = omega arith

-- a place's points are those that its first point and its order give
module _ (p : Problem) where
  goes_on : (v : List ℕ) (z x : Point) (r : Simplex) → each_goes_to_next p.grid v (z ∷ x ∷ r) ≡ true
      → let h = grown_at p.grid z x in
      (k : ℕ) → k < num_indices p.grid → at x k + unit (first_back_outside p.grid v h) k ≡ at z k + unit h k
  goes_on v z x r e =
      let h = grown_at p.grid z x in
      goes_at p.grid h (first_back_outside p.grid v h) z x
      (and_left (goes_to p.grid h (first_back_outside p.grid v h) z x) (each_goes_to_next p.grid v (x ∷ r)) e)

  goes_later : (v : List ℕ) (z x : Point) (r : Simplex) → each_goes_to_next p.grid v (z ∷ x ∷ r) ≡ true
      → each_goes_to_next p.grid v (x ∷ r) ≡ true
  goes_later v z x r e =
      let h = grown_at p.grid z x in
      and_right (goes_to p.grid h (first_back_outside p.grid v h) z x) (each_goes_to_next p.grid v (x ∷ r)) e

  zero_along : (v : List ℕ) (k : ℕ) → k < num_indices p.grid → (z : Point) (r : Simplex)
      → each_goes_to_next p.grid v (z ∷ r) ≡ true → at z k ≡ 0 → is_in eqb k (order p.grid (z ∷ r)) ≡ false → (y : Point)
      → is_in same_point y (z ∷ r) ≡ true → at y k ≡ 0
  zero_along v k l z [] e q n y m =
      ⊎_elim (λ w. ap (λ (x : Point). at x k) w ∙ q) (λ w. absurd_bool (sym w)) (in_cases on_points y z [] m)
  zero_along v k l z (x ∷ r) e q n y m =
      let h = grown_at p.grid z x in
      let other : (k ≡ h → ⊥) = λ c. absurd_bool (sym (in_first on_numbers _ h (order p.grid (x ∷ r)) c) ∙ n) in
      let a : unit h k ≡ 0 = rw (ne_eqb k h other) in
      ⊎_elim (λ w. ap (λ (x : Point). at x k) w ∙ q)
      (λ w. zero_along v k l x r (goes_later v z x r e) (omega (arith, goes_on v z x r e k l))
      (false_of _ (λ c. absurd_bool (sym (in_later on_numbers k h (order p.grid (x ∷ r)) c) ∙ n))) y w)
      (in_cases on_points y z (x ∷ r) m)

  rebuilt : (u v : List ℕ) → ((k : ℕ) → is_in eqb k u ≡ is_in eqb k v) → (z : Point) (r : Simplex)
      → all (is_grid_point p.grid) r ≡ true → each_goes_to_next p.grid v (z ∷ r) ≡ true
      → points_by p.grid u z (order p.grid (z ∷ r)) ≡ z ∷ r
  rebuilt u v same z [] on e = refl
  rebuilt u v same z (x ∷ r) on e =
      let h = grown_at p.grid z x in
      let rest = and_right (is_grid_point p.grid x) (all (is_grid_point p.grid) r) on in
      let q : stepped p.grid u h z ≡ x = ext_get_or 0 (stepped p.grid u h z) x
      (length-stepped p u h z ∙ sym (grid-long p x (and_left (is_grid_point p.grid x) (all (is_grid_point p.grid) r) on)))
      (λ k l. let m : k < num_indices p.grid = omega (arith, length-stepped p u h z) in
      at-stepped p u h z k m ∙ (rw (back-same p.grid u v same h) (omega (arith, goes_on v z x r e k m)))) in
      ap (λ (l : Simplex). z ∷ l) (rw q (rebuilt u v same x r rest (goes_later v z x r e)))

-- every place is kept by its first point and its order,
pub kept_every : {p : Problem} → HasStart p → (s : Simplex) → is_place p s ≡ true
    → kept_points p.grid (first_or [] s) (order p.grid s) ≡ s
kept_every {p} ok [] h = absurd (no-empty p ok.some_block h)
kept_every {p} ok (y ∷ r) h =
    rebuilt p (zero_outside p.grid (order p.grid s) y) (set_u p.grid s) same y r
    (and_right (is_grid_point p.grid y) (all (is_grid_point p.grid) r) (parts p s h).grid_points) (parts p s h).steps
  where
    s : Simplex
    s = y ∷ r

    same : (k : ℕ) → is_in eqb k (zero_outside p.grid (order p.grid (y ∷ r)) y) ≡ is_in eqb k (set_u p.grid (y ∷ r))
    same k = both _ _
        (λ m.
        let w = zero_is p (order p.grid (y ∷ r)) y k m in
        (U_means p.grid (y ∷ r) k).1
        (w.0, zero_along p (set_u p.grid (y ∷ r)) k w.0 y r (parts p (y ∷ r) h).steps w.1 w.2))
        (λ m.
        let w = (U_means p.grid (y ∷ r) k).0 m in
        is_zero p (order p.grid (y ∷ r)) y k w.0 (w.1 y (in_here on_points y r))
        (false_of _ (λ t. absurd_bool (sym m ∙ T_not_U p (y ∷ r) h k (order-within p (y ∷ r) h k t)))))

-- and by no other: places with the same points are kept alike
pub kept-once : (p : Problem) (y z : Point) (o r : List ℕ) → is_place p (kept_points p.grid y o) ≡ true
    → kept_points p.grid y o ≡ kept_points p.grid z r → (y ≡ z) × (o ≡ r)
kept-once p y z o r h e = (
  sym (begins y o) ∙ ap (first_or []) e ∙ begins z r,
  sym (order_is p y o h) ∙ ap (order p.grid) e ∙ order_is p z r (rw e at h),
)
  where
    begins : (y : Point) (o : List ℕ) → first_or [] (kept_points p.grid y o) ≡ y
    begins y [] = refl
    begins y (h ∷ o) = refl
