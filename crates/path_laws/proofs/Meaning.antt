-- What the tests of document 01's sections say, as statements: U, T, the labels, the conditions of a place,
-- completeness. Assumes nothing.
use mathlib.Core.Bool.{Bool, true, false, not, ◌&&◌, ◌||◌}
use mathlib.Core.List.{List, map}
use mathlib.Core.Logic.{◌↔◌, ◌⊎◌, ⊎_elim}
use mathlib.Core.Path.{◌≡◌, sym}
use Prim.Native.Nat.{ℕ, suc, ◌<◌}
use borrow.Author.Tests.{eqb-true, eq-eqb, ltb-true, lt-ltb, not-true}
use lib.Dec.{eqb, ltb}
use native.Mathlib.Omega.{arith}
use Rattle.combinatorics.proofs.Lists.{any_in, in_any, Equality, all_in, in_all, in_filter, filter_in, in_map, map_in}
use Rattle.combinatorics.proofs.Lists.{on_numbers}
use Rattle.combinatorics.proofs.Basics.{and_both, and_left, and_right, or_cases, or_left, or_right}
use Rattle.combinatorics.proofs.Ranges.{in_up_from, up_from_in}
use Rattle.combinatorics.specs.Lists.{all, any, is_in}
use Rattle.grid_points.proofs.Points.{on_points}
use Rattle.grid_points.specs.Grid.{Grid, Point, at, blocks, indices, indices_of, num_blocks, num_indices, same_point}
use Rattle.place.specs.Coefficients.{coefficients}
use Rattle.place.specs.Ends.{is_complete}
use Rattle.place.specs.Places.{Simplex, every_block_free, is_place, is_unlabelled_place, label_set, set_t, set_u}
use Rattle.place.specs.Problem.{Problem, label}
use Rattle.path_laws.proofs.LinkSymmetry.{Parts, parts}

-- a test that holds at one element at least
module _ {A : Type 0} (E : Equality A) (q : A → Bool) where
  open E use {eq}

  any_means : (xs : List A) → (any q xs ≡ true) ↔ ((x : A) × (is_in eq x xs ≡ true) × (q x ≡ true))
  any_means xs = (any_in E q xs, (λ w. in_any E q w.0 xs w.1 w.2))

  all_means : (xs : List A) → (all q xs ≡ true) ↔ ((x : A) → is_in eq x xs ≡ true → q x ≡ true)
  all_means xs = (all_in E q xs, in_all E q xs)

-- the indices of the grid, and those of a block
pub index_means : (g : Grid) (h : ℕ) → (is_in eqb h (indices g) ≡ true) ↔ (h < num_indices g)
index_means g h = (
  (λ m. omega (arith, (up_from_in 0 (num_indices g) h m).1)),
  (λ l. in_up_from 0 (num_indices g) h (omega arith) (omega arith)),
)

-- "U is the set of indices h with y_h = 0 at all of them"
pub U_means : (g : Grid) (s : Simplex) (h : ℕ)
    → (is_in eqb h (set_u g s) ≡ true) ↔ ((h < num_indices g) × ((y : Point) → is_in same_point y s ≡ true → at y h ≡ 0))
unfolding set_u
U_means g s h = (
  (λ m. let w = filter_in on_numbers _ h (indices g) m in
      ((index_means g h).0 w.0, (λ y n. eqb-true _ _ (all_in on_points _ s w.1 y n)))),
  (λ w. in_filter on_numbers _ h
      (indices g) ((index_means g h).1 w.0) (in_all on_points _ s (λ y n. eq-eqb _ _ (w.1 y n)))),
)

module _ (p : Problem) (s : Simplex) where
  -- "T is the set of indices not in U whose coefficient is positive at one of them at least"
  pub T_means : (h : ℕ)
      → (is_in eqb h (set_t p s) ≡ true)
      ↔ ((h < num_indices p.grid) × (is_in eqb h (set_u p.grid s) ≡ false)
      × ((y : Point) × (is_in same_point y s ≡ true) × (0 < at (coefficients p y) h)))
  unfolding set_t
  T_means h = (
    (λ m.
        let w = filter_in on_numbers q h (indices p.grid) m in
        let v = (any_means on_points (λ c. ltb 0 (at c h)) (map (coefficients p) s)).0
        (and_right (not u) (any (λ c. ltb 0 (at c h)) (map (coefficients p) s)) w.1) in
        let i = map_in on_points on_points (coefficients p) v.0 s v.1 in (
          (index_means p.grid h).0 w.0,
          not-true u (and_left (not u) (any (λ c. ltb 0 (at c h)) (map (coefficients p) s)) w.1),
          (i.0, i.1, ltb-true _ _ (rw i.2 at v.2)),
        )),
    (λ w. in_filter on_numbers q h (indices p.grid) ((index_means p.grid h).1 w.0)
        (rw w.1 ((any_means on_points (λ c. ltb 0 (at c h)) (map (coefficients p) s)).1
        (coefficients p w.2.0, in_map on_points on_points (coefficients p) w.2.0 s w.2.1, lt-ltb _ _ w.2.2)))),
  )
    where
      u : Bool
      u = is_in eqb h (set_u p.grid s)

      q : ℕ → Bool
      q = λ h. not (is_in eqb h (set_u p.grid s)) && any (λ c. ltb 0 (at c h)) (map (coefficients p) s)

  -- an index is a label of one of the points
  pub labels_mean : (h : ℕ)
      → (is_in eqb h (label_set p s) ≡ true)
      ↔ ((h < num_indices p.grid) × ((y : Point) × (is_in same_point y s ≡ true) × (label p y ≡ suc h)))
  unfolding label_set
  labels_mean h = (
    (λ m.
        let w = filter_in on_numbers (λ h. is_in eqb (suc h) (map (label p) s)) h (indices p.grid) m in
        let i = map_in on_points on_numbers (label p) (suc h) s w.1 in
        ((index_means p.grid h).0 w.0, (i.0, i.1, sym i.2))),
    (λ w. in_filter on_numbers (λ h. is_in eqb (suc h) (map (label p) s)) h (indices p.grid) ((index_means p.grid h).1 w.0)
        (rw (← w.1.2) (in_map on_points on_numbers (label p) w.1.0 s w.1.1))),
  )

  -- "The points form a place if": its conditions, by name
  pub place_means : (is_place p s ≡ true) ↔ Parts p s
  unfolding is_place is_unlabelled_place
  place_means = (
    parts p s,
    (λ k. and_both _ _
        (and_both _ _ (and_both _ _ (and_both _ _ (and_both _ _ k.grid_points k.in_order) k.steps) k.once) k.free)
        k.labelled),
  )

  -- "every block has an index in neither T nor U"
  pub free_means : (t u : List ℕ)
      → (every_block_free p.grid t u ≡ true)
      ↔ ((j : ℕ) → j < num_blocks p.grid
      → (h : ℕ) × (is_in eqb h (indices_of p.grid j) ≡ true) × (is_in eqb h t ≡ false) × (is_in eqb h u ≡ false))
  unfolding every_block_free
  free_means t u = (
    (λ e j l.
        let w = (any_means on_numbers q (indices_of p.grid j)).0
        (all_in on_numbers (λ j. any q (indices_of p.grid j)) (blocks p.grid) e j
        (in_up_from 0 (num_blocks p.grid) j (omega arith) (omega arith))) in (
          w.0,
          w.1,
          not-true _ (and_left (not (is_in eqb w.0 t)) (not (is_in eqb w.0 u)) w.2),
          not-true _ (and_right (not (is_in eqb w.0 t)) (not (is_in eqb w.0 u)) w.2),
        )),
    (λ f. in_all on_numbers
        (λ j. any q (indices_of p.grid j))
        (blocks p.grid)
        (λ j m.
        let w = f j (omega (arith, (up_from_in 0 (num_blocks p.grid) j m).1)) in
        (any_means on_numbers q (indices_of p.grid j)).1 (w.0, w.1, rw (w.2, w.3)))),
  )
    where
      q : ℕ → Bool
      q = λ h. not (is_in eqb h t) && not (is_in eqb h u)

  -- "complete for block j if each index of the block is a label of one of its points or belongs to its U"
  pub complete_means : (j : ℕ)
      → (is_complete p s j ≡ true)
      ↔ ((h : ℕ) → is_in eqb h (indices_of p.grid j) ≡ true
      → (is_in eqb h (label_set p s) ≡ true) ⊎ (is_in eqb h (set_u p.grid s) ≡ true))
  unfolding is_complete
  complete_means j = (
    (λ e h m. or_cases (is_in eqb h (label_set p s)) (is_in eqb h (set_u p.grid s))
        (all_in on_numbers q (indices_of p.grid j) e h m)),
    (λ f. in_all on_numbers q (indices_of p.grid j)
        (λ h m. ⊎_elim (λ e. or_left _ _ e) (λ e. or_right (is_in eqb h (label_set p s)) _ e) (f h m))),
  )
    where
      q : ℕ → Bool
      q = λ h. is_in eqb h (label_set p s) || is_in eqb h (set_u p.grid s)
