-- Places that differ two by two are at most as many as the bound: T has at most n indices, and the first point and the
-- order of T determine a place. Assumes nothing.
use mathlib.Core.Bool.{Bool, true, not}
use mathlib.Core.List.{List, [], ◌∷◌, map}
use mathlib.Core.Logic.{⊎_elim}
use mathlib.Core.Path.{◌≡◌, sym, ap, ◌∙◌}
use Prim.Native.Nat.{ℕ, ◌+◌, ◌≤◌, ◌<◌}
use lib.Dec.{eqb}
use lib.ListN.{length, get_or, take, length-append, length-map}
use native.Mathlib.Omega.{arith}
use Rattle.combinatorics.proofs.Basics.{absurd_bool, and_both, and_left, and_right, or_left, or_right, or_cases}
use Rattle.combinatorics.proofs.Basics.{true_or_false}
use Rattle.combinatorics.proofs.Lists.{length-filter_le, in_map, map_in, in_filter, filter-append, distinct-map}
use Rattle.combinatorics.proofs.Lists.{in_concat_map, length-concat_map, pigeon, on_numbers, all_cong}
use Rattle.combinatorics.proofs.Ranges.{distinct-up_from, length-up_from, all_shift, up_from_add}
use Rattle.combinatorics.proofs.Selections.{orders, length-selections, in_selections}
use Rattle.combinatorics.specs.Lists.{filter, all, any, is_in, distinct, concat_map, up_from, sum, first_or, selections}
use Rattle.geometry.proofs.Graph.{code_determines}
use Rattle.grid_points.proofs.Points.{on_points, in_points}
use Rattle.grid_points.specs.Grid.{same_point, points, is_grid_point, num_blocks, num_indices, dimension, indices, blocks}
use Rattle.grid_points.specs.Grid.{indices_of, at, bound}
use Rattle.place.specs.Path.{same_simplex}
use Rattle.place.specs.Places.{Simplex, is_place, set_u, set_t, order, every_block_free}
use Rattle.place.specs.Problem.{Problem}
use Rattle.path_laws.proofs.ToChain.{coefficients_of, points_of, labelled_chain_of, points_of_coefficients_of}
use Rattle.path_laws.proofs.LinkSymmetry.{parts}
use Rattle.path_laws.proofs.IndexSets.{order-within, order-distinct, T-indices, T-distinct, no-empty}
use Rattle.path_laws.proofs.Simplices.{on_simplices}
use Rattle.path_laws.proofs.BlocksOfGrid.{coefficient_of}
use Rattle.path_laws.specs.Demand.{HasStart}

-- an index of each block left out
any_mono : {q r : ℕ → Bool} (xs : List ℕ) → ((x : ℕ) → q x ≡ true → r x ≡ true) → any q xs ≡ true → any r xs ≡ true
any_mono [] h e = e
any_mono {q} {r} (x ∷ xs) h e =
    ⊎_elim (λ k. or_left _ _ (h x k)) (λ k. or_right (r x) (any r xs) (any_mono xs h k)) (or_cases (q x) (any q xs) e)

all_mono : {q r : ℕ → Bool} (xs : List ℕ) → ((x : ℕ) → q x ≡ true → r x ≡ true) → all q xs ≡ true → all r xs ≡ true
all_mono [] h e = e
all_mono {q} {r} (x ∷ xs) h e =
    and_both _ _ (h x (and_left (q x) (all q xs) e)) (all_mono xs h (and_right (q x) (all q xs) e))

one_out : (q : ℕ → Bool) (xs : List ℕ) → any (λ h. not (q h)) xs ≡ true → length (filter q xs) < length xs
one_out q [] e = absurd_bool (sym e)
one_out q (x ∷ xs) e = ⊎_elim
    (λ t. rw t (omega (arith, one_out q xs (rw t at e))))
    (λ f. rw f (omega (arith, length-filter_le q xs)))
    (true_or_false (q x))

blocks-out : (q : ℕ → Bool) (ss : List ℕ) (b : ℕ)
    → all (λ j. any (λ h. not (q h)) (up_from (b + sum (take j ss)) (get_or ss j 0))) (up_from 0 (length ss)) ≡ true
    → length (filter q (up_from b (sum ss))) + length ss ≤ sum ss
blocks-out q [] b e = omega arith
blocks-out q (s ∷ ss) b e =
    let r : ℕ → ℕ → Bool = λ c j. any (λ h. not (q h)) (up_from (c + sum (take j ss)) (get_or ss j 0)) in
    let h0 : any (λ h. not (q h)) (up_from (b + 0) s) ≡ true = and_left (any (λ h. not (q h)) (up_from (b + 0) s)) _ e in
    let z : b + 0 ≡ b = omega arith in
    let k0 : length (filter q (up_from b s)) < length (up_from b s) = one_out q (up_from b s) (rw z at h0) in
    let e1 : all (λ j. any (λ h. not (q h)) (up_from (b + (s + sum (take j ss))) (get_or ss j 0))) (up_from 0 (length ss))
    ≡ true =
    sym (all_shift (λ j. any (λ h. not (q h)) (up_from (b + sum (take j (s ∷ ss))) (get_or (s ∷ ss) j 0))) 0 (length ss))
    ∙ and_right (any (λ h. not (q h)) (up_from (b + 0) s)) _ e in
    let e2 : all (r (b + s)) (up_from 0 (length ss)) ≡ true =
    sym (all_cong
    (λ j. any (λ h. not (q h)) (up_from (b + (s + sum (take j ss))) (get_or ss j 0)))
    (r (b + s)) (up_from 0 (length ss))
    (λ j. let w : b + (s + sum (take j ss)) ≡ b + s + sum (take j ss) = omega arith in rw w))
    ∙ e1 in
    let i : length (filter q (up_from (b + s) (sum ss))) + length ss ≤ sum ss = blocks-out q ss (b + s) e2 in
    rw (up_from_add b s (sum ss), filter-append q (up_from b s) (up_from (b + s) (sum ss)), length-append)
    (omega (arith, length-up_from b s))

module _ (p : Problem) (s : Simplex) (h : is_place p s ≡ true) where
  -- T has at most n indices
  pub T-few : length (set_t p s) + num_blocks p.grid ≤ num_indices p.grid
  unfolding every_block_free
  T-few =
      let t = set_t p s in
      let u = set_u p.grid s in
      let g = p.grid in
      let q : ℕ → Bool = λ x. is_in eqb x t in
      let e : all
      (λ j. any (λ x. not (q x)) (up_from (0 + sum (take j g.sizes)) (get_or g.sizes j 0)))
      (up_from 0 (length g.sizes))
      ≡ true =
      all_mono (blocks g)
      (λ j k.
      let z : 0 + sum (take j g.sizes) ≡ sum (take j g.sizes) = omega arith in
      rw z (any_mono (indices_of g j) (λ x w. and_left (not (q x)) (not (is_in eqb x u)) w) k))
      (parts p s h).free in
      let b : length (filter q (up_from 0 (sum g.sizes))) + length g.sizes ≤ sum g.sizes = blocks-out q g.sizes 0 e in
      let c : length t ≤ length (filter q (up_from 0 (sum g.sizes))) = pigeon on_numbers t
      (filter q (up_from 0 (sum g.sizes))) (T-distinct p s h)
      (λ z m. in_filter on_numbers q z (indices g) (T-indices p s h z m) m) in
      omega arith

  pub order-short : length (order p.grid s) ≤ dimension p.grid
  order-short =
      omega (arith, T-few, pigeon on_numbers (order p.grid s) (set_t p s) (order-distinct p s h) (order-within p s h))

  pub order_in : is_in same_point (order p.grid s) (selections (dimension p.grid) (indices p.grid)) ≡ true
  order_in = in_selections (dimension p.grid) (order p.grid s) (indices p.grid) (order-distinct p s h)
      (λ x m. T-indices p s h x (order-within p s h x m)) order-short

module _ (p : Problem) where
  abbrev key : Simplex → List (List ℕ)
  key s = first_or [] s ∷ order p.grid s ∷ []

  abbrev keys : List (List (List ℕ))
  keys = concat_map (λ y. map (λ o. y ∷ o ∷ []) (selections (dimension p.grid) (indices p.grid))) (points p.grid)

  length_keys : length keys ≡ bound p.grid
  unfolding bound
  length_keys =
      length-concat_map on_points on_simplices (orders (num_indices p.grid) (dimension p.grid))
      (λ y. map (λ o. y ∷ o ∷ []) (selections (dimension p.grid) (indices p.grid)))
      (points p.grid)
      (λ y m. length-map (selections (dimension p.grid) (indices p.grid))
      (λ o. y ∷ o ∷ []) ∙ length-selections
      (dimension p.grid) (indices p.grid) (distinct-up_from 0 (num_indices p.grid))
      ∙ ap (λ (k : ℕ). orders k (dimension p.grid)) (length-up_from 0 (num_indices p.grid)))

  module _ (ok : HasStart p) where
    key_in : (s : Simplex) → is_place p s ≡ true → is_in same_simplex (key s) keys ≡ true
    key_in [] h = absurd (no-empty p ok.some_block h)
    key_in (y ∷ a) h = in_concat_map on_points on_simplices
        (λ y. map (λ o. y ∷ o ∷ []) (selections (dimension p.grid) (indices p.grid)))
        y (key (y ∷ a)) (points p.grid)
        (in_points p.grid y ok.same_number
        (and_left (is_grid_point p.grid y) (all (is_grid_point p.grid) a) (parts p (y ∷ a) h).grid_points))
        (in_map on_points on_simplices (λ o. y ∷ o ∷ []) (order p.grid (y ∷ a))
        (selections (dimension p.grid) (indices p.grid)) (order_in p (y ∷ a) h))

    -- the first point and the order determine the place
    key_determines : (a b : Simplex) → is_place p a ≡ true → is_place p b ≡ true → key a ≡ key b → a ≡ b
    key_determines [] b h k e = absurd (no-empty p ok.some_block h)
    key_determines (x ∷ a) [] h k e = absurd (no-empty p ok.some_block k)
    key_determines (x ∷ a) (y ∷ b) h k e =
        let f : x ≡ y = cc in
        let o : order p.grid (y ∷ b) ≡ order p.grid (x ∷ a) = cc in
        let q : coefficients_of p (x ∷ a) ≡ coefficients_of p (y ∷ b) = code_determines (labelled_chain_of ok (x ∷ a) h)
        (rw (ap length o) at (labelled_chain_of ok (y ∷ b) k)) (ap (coefficient_of p) f)
        (λ j l. ap (λ (z : List ℕ). at z j) (sym o)) in
        sym (points_of_coefficients_of ok (x ∷ a) (parts p (x ∷ a) h).grid_points)
        ∙ ap (points_of p) q
        ∙ points_of_coefficients_of ok (y ∷ b) (parts p (y ∷ b) k).grid_points

    pub count : (l : List Simplex) → distinct same_simplex l ≡ true
        → ((s : Simplex) → is_in same_simplex s l ≡ true → is_place p s ≡ true)
        → length l ≤ bound p.grid
    count l d h =
        let a : length (map key l) ≤ length keys =
        pigeon on_simplices (map key l) keys
        (distinct-map on_simplices on_simplices key l (λ x y m n e. key_determines x y (h x m) (h y n) e) d)
        (λ z m. let i = map_in on_simplices on_simplices key z l m in rw i.2 (key_in i.0 (h i.0 i.1)))
        in
        omega (arith, length-map l key, length_keys)
