-- What a place shows of its set T, its order and its steps. Assumes nothing.
use mathlib.Core.Bool.{true, false, not, ◌&&◌}
use mathlib.Core.List.{[], map}
use mathlib.Core.Path.{◌≡◌, sym, ◌∙◌}
use Prim.Native.Nat.{ℕ, ◌+◌, ◌≤◌, ◌<◌}
use borrow.Author.Tests.{eqb-true}
use lib.Dec.{eqb, ltb}
use native.Mathlib.Omega.{arith}
use Rattle.combinatorics.proofs.Basics.{absurd_bool, and_left, and_right}
use Rattle.combinatorics.proofs.Lists.{all_in, distinct_filter, on_numbers, once-distinct}
use Rattle.combinatorics.proofs.Ranges.{up_from_in, in_up_from, distinct-up_from}
use Rattle.combinatorics.specs.Lists.{any, is_in, distinct, occurrences}
use Rattle.grid_points.specs.Grid.{Grid, Point, num_blocks, num_indices, indices, at, first_index, size}
use Rattle.grid_points.proofs.Round.{block-fits}
use Rattle.place.specs.Coefficients.{coefficients}
use Rattle.place.specs.Places.{Simplex, is_place, set_u, set_t, within, order, goes_to, unit}
use Rattle.place.specs.Problem.{Problem}
use Rattle.path_laws.proofs.Meaning.{index_means, U_means, T_means, free_means}
use Rattle.path_laws.proofs.LinkSymmetry.{parts}

module _ (p : Problem) (s : Simplex) (h : is_place p s ≡ true) where
  pub order-within : (x : ℕ) → is_in eqb x (order p.grid s) ≡ true → is_in eqb x (set_t p s) ≡ true
  order-within x m =
      let t = set_t p s in let o = order p.grid s in
      all_in on_numbers _ o (and_left (within o t) _ (parts p s h).once) x m

  pub order-distinct : distinct eqb (order p.grid s) ≡ true
  order-distinct =
      let t = set_t p s in let o = order p.grid s in
      once-distinct o
      (λ x m. let e : occurrences x o ≡ 1 = eqb-true _ _
      (all_in on_numbers _ t
      (and_right (within o t) _ (parts p s h).once) x (order-within x m)) in omega arith)

  pub T-indices : (x : ℕ) → is_in eqb x (set_t p s) ≡ true → is_in eqb x (indices p.grid) ≡ true
  T-indices x m = (index_means p.grid x).1 ((T_means p s x).0 m).0

  pub T_not_U : (x : ℕ) → is_in eqb x (set_t p s) ≡ true → is_in eqb x (set_u p.grid s) ≡ false
  T_not_U x m = ((T_means p s x).0 m).1

  pub T-distinct : distinct eqb (set_t p s) ≡ true
  unfolding set_t
  T-distinct = distinct_filter on_numbers
      (λ h. not (is_in eqb h (set_u p.grid s)) && any (λ c. ltb 0 (at c h)) (map (coefficients p) s))
      (indices p.grid) (distinct-up_from 0 (num_indices p.grid))

module _ (g : Grid) where
  pub goes_at : (h b : ℕ) (y z : Point) → goes_to g h b y z ≡ true → (k : ℕ) → k < num_indices g
      → at z k + unit b k ≡ at y k + unit h k
  unfolding goes_to
  goes_at h b y z e k c = eqb-true _ _ (all_in on_numbers
      (λ k. eqb (at z k + unit b k) (at y k + unit h k))
      (indices g) e k (in_up_from 0 (num_indices g) k (omega arith) (omega arith)))

module _ (p : Problem) (some_block : 1 ≤ num_blocks p.grid) where
  -- the empty set is no place: all indices are in its U
  pub no-empty : is_place p [] ≡ true → ⊥
  no-empty h =
      let g = p.grid in
      let w = (free_means p [] (set_t p []) (set_u g [])).0 (parts p [] h).free 0 some_block in
      let r = up_from_in (first_index g 0) (size g 0) w.0 w.1 in
      absurd_bool
      (sym ((U_means g [] w.0).1 (omega (arith, r.1, block-fits g.sizes 0), (λ y m. absurd_bool (sym m)))) ∙ w.3)
