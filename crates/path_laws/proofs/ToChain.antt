-- A place is a chain of the geometry that carries its labels. In order: labels as indices; the conditions of a place by
-- position; the place is a place of the geometry; the chain; points and coefficients determine each other.
-- Assumes nothing.
use mathlib.Core.Bool.{Bool, true, false, not, ◌&&◌, cond}
use mathlib.Core.List.{List, [], ◌∷◌, map}
use mathlib.Core.Logic.{⊎_elim}
use mathlib.Core.Path.{◌≡◌, refl, sym, ap, ◌∙◌}
use Prim.Native.Nat.{ℕ, suc, pred, ◌+◌, ◌-◌, ◌≤◌, ◌<◌}
use borrow.Author.Tests.{eqb-true, ne_eqb, leb-true, le-leb}
use lib.Dec.{eqb, ltb, leb}
use lib.ListN.{length, length-map}
use native.Mathlib.Omega.{arith}
use Rattle.combinatorics.proofs.Basics.{absurd_bool, before_or_not, and_both, and_left, and_right, false_of}
use Rattle.combinatorics.proofs.Basics.{true_or_false, same_or}
use Rattle.combinatorics.proofs.Lists.{all_in, on_numbers, at_all}
use Rattle.combinatorics.proofs.Ranges.{up_from_in}
use Rattle.combinatorics.specs.Lists.{is_in, all, any, filter, occurrences}
use Rattle.geometry.proofs.Bridge.{place-chain as chain_of}
use Rattle.geometry.proofs.Definitions.{back, coord, HasZeros, Grid as OnRing, Chain, Order, Goes, Place}
use Rattle.geometry.proofs.LabelledChains.{list_at, LabelledChain}
use Rattle.geometry.proofs.Links.{chain_ext}
use Rattle.geometry.proofs.Points.{nth, list_at-map}
use Rattle.grid_points.proofs.Points.{on_points}
use Rattle.grid_points.proofs.Round.{seat}
use Rattle.grid_points.specs.Grid.{Point, at, num_blocks, num_indices, first_index, size, indices, is_grid_point}
use Rattle.place.specs.Coefficients.{IsCoefficients, coefficients}
use Rattle.place.specs.Places.{Simplex, is_place, set_u, set_t, label_set, within, order, unit, every_block_free}
use Rattle.place.specs.Places.{all_labelled}
use Rattle.place.specs.Problem.{Problem, label}
use Rattle.path_laws.proofs.Meaning.{U_means, T_means, labels_mean, free_means}
use Rattle.path_laws.proofs.LinkSymmetry.{parts}
use Rattle.path_laws.proofs.IndexSets.{no-empty, goes_at, order-within, order-distinct, T_not_U}
use Rattle.path_laws.proofs.Positions.{at_in, in_at, same_at, occurs_in, set_of_lem, not_all, order-long, each_at}
use Rattle.path_laws.proofs.BlocksOfGrid.{blocks_of, point_of, coefficient_of, block_agrees, beyond, on_ring}
use Rattle.path_laws.proofs.BlocksOfGrid.{has_zeros}
use Rattle.path_laws.proofs.BlocksOfGrid.{coord_in, coord_out, coefficient_of_is, point-grid, coefficient_of_point}
use Rattle.path_laws.proofs.BlocksOfGrid.{point_coefficient_of, outside-before, back_below}
use Rattle.path_laws.specs.Demand.{HasStart}

abbrev pub in_t : Problem → Simplex → ℕ → Bool
in_t p s k = is_in eqb k (set_t p s)

abbrev pub in_u : Problem → Simplex → ℕ → Bool
in_u p s k = is_in eqb k (set_u p.grid s)

abbrev pub coefficients_of : Problem → Simplex → List (ℕ → ℕ)
coefficients_of p s = map (coefficient_of p) s

abbrev pub points_of : Problem → List (ℕ → ℕ) → Simplex
points_of p x = map (point_of p) x

-- the index that a label byte names; m, which is no index, where it names none
abbrev pub index_of : ℕ → ℕ → ℕ
index_of m l = cond (leb 1 l && leb l m) (pred l) m

pub index-suc : (m l : ℕ) → index_of m l < m → suc (index_of m l) ≡ l
index-suc m l c = ⊎_elim
    (λ t. let w : 1 ≤ l = leb-true 1 l (and_left _ (leb l m) t) in let z : suc (pred l) ≡ l = omega arith in rw t z)
    (λ f. absurd (omega (arith, rw f at c)))
    (true_or_false (leb 1 l && leb l m))

pub index_is : (m l : ℕ) → (leb 1 l && leb l m) ≡ true → (suc (index_of m l) ≡ l) × (index_of m l < m)
index_is m l e =
    let a : 1 ≤ l = leb-true 1 l (and_left (leb 1 l) (leb l m) e) in
    let b : l ≤ m = leb-true l m (and_right (leb 1 l) (leb l m) e) in
    let c : suc (pred l) ≡ l = omega arith in
    let d : pred l < m = omega arith in
    rw e (c, d)

-- the label of a point, as an index
abbrev pub label_of : Problem → (ℕ → ℕ) → ℕ
label_of p c = index_of (num_indices p.grid) (label p (point_of p c))

-- every block of the ring has an index in neither of two sets, if every block of the grid has one
pub free-index : (p : Problem) (t u : List ℕ) → every_block_free p.grid t u ≡ true
    → ((k : ℕ) → is_in eqb k t ≡ true → k < num_indices p.grid) → ((k : ℕ) → is_in eqb k u ≡ true → k < num_indices p.grid)
    → (i : ℕ)
    → (f : ℕ) × ((blocks_of p).block f ≡ (blocks_of p).block i) × (is_in eqb f t ≡ false) × (is_in eqb f u ≡ false)
free-index p t u every t-below u-below i =
    let g = p.grid in
    ⊎_elim
    (λ (l : i < num_indices g).
    let e = seat g i l in
    let f = (free_means p [] t u).0 every e.j e.block in
    let r = up_from_in (first_index g e.j) (size g e.j) f.0 f.1 in
    let q : f.0 ≡ first_index g e.j + (f.0 - first_index g e.j) = omega (arith, r.0) in (
      f.0,
      ap (blocks_of p).block q
          ∙ block_agrees p e.j (f.0 - first_index g e.j) (omega (arith, r.0, r.1))
          ∙ sym (ap (blocks_of p).block e.is ∙ block_agrees p e.j e.i e.inside),
      f.2,
      f.3,
    ))
    (λ (l : num_indices g ≤ i). (
      i,
      refl,
      false_of _ (λ m. absurd (omega (arith, t-below i m))),
      false_of _ (λ m. absurd (omega (arith, u-below i m))),
    ))
    (before_or_not i (num_indices g))

module _ {p : Problem} (ok : HasStart p) where
  pub size-positive : (j : ℕ) → j < num_blocks p.grid → 0 < size p.grid j
  size-positive j l = let w : 2 ≤ size p.grid j = leb-true 2 _ (at_all _ p.grid.sizes j ok.sizes l) in omega arith

  module _ (s : Simplex) (on : all (is_grid_point p.grid) s ≡ true) where
    pub grid-at : (j : ℕ) → j < length s → is_grid_point p.grid (nth s j) ≡ true
    grid-at j l = all_in on_points _ s on (nth s j) (at_in on_points [] s j l)

    -- each point has its coefficient list
    pub is_at : (j : ℕ) → j < length s → IsCoefficients p (nth s j) (coefficients p (nth s j))
    is_at j l = coefficient_of_is ok (nth s j) (grid-at j l)

    label-at : (j : ℕ) → j < length s
        → label_of p (list_at (coefficients_of p s) j) ≡ index_of (num_indices p.grid) (label p (nth s j))
    label-at j l =
        ap (label_of p) (list_at-map _ s j l)
        ∙ ap (λ (y : Point). index_of (num_indices p.grid) (label p y)) (point_coefficient_of ok (nth s j) (grid-at j l))

    -- the label set, by position
    pub in_labels : (j : ℕ) → j < length s → label_of p (list_at (coefficients_of p s) j) < num_indices p.grid
        → is_in eqb (label_of p (list_at (coefficients_of p s) j)) (label_set p s) ≡ true
    in_labels j l c =
        let m = num_indices p.grid in
        let e : suc (label_of p (list_at (coefficients_of p s) j)) ≡ label p (nth s j) =
        ap suc (label-at j l) ∙ index-suc m (label p (nth s j)) (omega (arith, label-at j l)) in
        (labels_mean p s (label_of p (list_at (coefficients_of p s) j))).1 (c, (nth s j, at_in on_points [] s j l, sym e))

    pub labels_in : (k : ℕ) → is_in eqb k (label_set p s) ≡ true
        → (j : ℕ) × (j < length s) × (label_of p (list_at (coefficients_of p s) j) ≡ k)
    labels_in k m =
        let n = num_indices p.grid in
        let i = (labels_mean p s k).0 m in
        let z = in_at on_points [] i.1.0 s i.1.1 in
        let e : suc (index_of n (suc k)) ≡ suc k =
        (index_is n (suc k) (and_both _ _ (le-leb 1 (suc k) (omega arith)) (le-leb (suc k) n i.0))).0 in (
          z.0,
          z.1,
          label-at z.0 z.1 ∙ ap (λ (w : Point). index_of n (label p w)) z.2 ∙ ap (index_of n) i.1.2 ∙ omega (arith, e),
        )

    -- where each point has a label, each label is an index
    pub labels-below : all_labelled p s ≡ true → (j : ℕ) → j < length s
        → label_of p (list_at (coefficients_of p s) j) < num_indices p.grid
    labels-below a j l =
        let w = index_is (num_indices p.grid) (label p (nth s j))
        (all_in on_points
        (λ y. leb 1 (label p y) && leb (label p y) (num_indices p.grid))
        s a (nth s j) (at_in on_points [] s j l)) in
        omega (arith, label-at j l, w.1)

  -- a place is a chain
  module _ (s : Simplex) (h : is_place p s ≡ true) where
    on : all (is_grid_point p.grid) s ≡ true
    on = (parts p s h).grid_points

    pub place-long : length s ≡ suc (length (order p.grid s))
    place-long = go s h
      where
        go : (s : Simplex) → is_place p s ≡ true → length s ≡ suc (length (order p.grid s))
        go [] h = absurd (no-empty p ok.some_block h)
        go (y ∷ s) h = ap suc (sym (order-long p.grid y s))

    in_coord : (j : ℕ) → j < length s → (k : ℕ) → k < num_indices p.grid
        → coord (blocks_of p) (coefficient_of p (nth s j)) k ≡ at (nth s j) k
    in_coord j l = coord_in p (is_at s on j l)

    out_coord : (j : ℕ) → j < length s → (k : ℕ) → num_indices p.grid ≤ k
        → coord (blocks_of p) (coefficient_of p (nth s j)) k ≡ 1
    out_coord j l = coord_out p (is_at s on j l)

    T-below : (k : ℕ) → in_t p s k ≡ true → k < num_indices p.grid
    T-below k m = ((T_means p s k).0 m).0

    order_is : Order (in_t p s) (length (order p.grid s)) (at (order p.grid s))
    order_is = record {
      within = λ j l. order-within p s h (at (order p.grid s) j) (at_in on_numbers 0 (order p.grid s) j l);
      once = λ i j l m e. same_at on_numbers 0 (order p.grid s) (order-distinct p s h) i j l m e;
      all = λ k m. in_at on_numbers 0 k (order p.grid s)
          (occurs_in k (order p.grid s)
          (eqb-true _ _ (all_in on_numbers
          (λ h. eqb (occurrences h (order p.grid s)) 1)
          (set_t p s)
          (and_right (within (order p.grid s) (set_t p s)) (all (λ h. eqb (occurrences h (order p.grid s)) 1) (set_t p s))
          (parts p s h).once)
          k m)));
    }

    U-below : (k : ℕ) → in_u p s k ≡ true → k < num_indices p.grid
    U-below k m = ((U_means p.grid s k).0 m).0

    U-zero : (k : ℕ) → in_u p s k ≡ true → (j : ℕ) → j < length s → at (nth s j) k ≡ 0
    U-zero k u j l = ((U_means p.grid s k).0 u).1 (nth s j) (at_in on_points [] s j l)

    U_not : (k : ℕ) → k < num_indices p.grid → in_u p s k ≡ false → (j : ℕ) × (j < length s) × (0 < at (nth s j) k)
    U_not k l u = not_all k s (false_of _
        (λ e. absurd_bool (sym ((U_means p.grid s k).1 (l, (λ y m. eqb-true _ _ (all_in on_points _ s e y m)))) ∙ u)))

    T_pos : (k : ℕ) → in_t p s k ≡ true → (j : ℕ) × (j < length s) × (0 < coefficient_of p (nth s j) k)
    T_pos k m =
        let w = ((T_means p s k).0 m).2 in
        let j = in_at on_points [] w.0 s w.1 in
        (j.0, j.1, rw j.2 w.2)

    T_not : (k : ℕ) → k < num_indices p.grid → in_t p s k ≡ false → in_u p s k ≡ false → (j : ℕ) → j < length s
        → coefficient_of p (nth s j) k ≡ 0
    T_not k l t u j m =
        ⊎_elim (λ z. z)
        (λ n. absurd_bool (sym ((T_means p s k).1 (l, u, (nth s j, at_in on_points [] s j m, omega (arith, n)))) ∙ t))
        (same_or (coefficient_of p (nth s j) k) 0)

    free-at : (i : ℕ)
        → (f : ℕ) × ((blocks_of p).block f ≡ (blocks_of p).block i) × (in_t p s f ≡ false) × (in_u p s f ≡ false)
    free-at = free-index p (set_t p s) (set_u p.grid s) (parts p s h).free T-below U-below

    goes : (j : ℕ) → j < length (order p.grid s)
        → (n : ℕ)
        × Goes (blocks_of p) (in_u p s) (at (order p.grid s) j) (coefficient_of p (nth s j))
        (coefficient_of p (nth s (suc j))) n
    goes j l =
        let g = p.grid in
        let i = at (order g s) j in
        let ti = order_is.within j l in
        let il = T-below i ti in
        let f = free-at i in
        let B =
        outside-before p (set_u g s) i f.0 il f.1 (λ e. absurd_bool (sym ti ∙ ap (in_t p s) (sym e) ∙ f.2)) f.3 in
        let go = goes_at g i _ (nth s j) _ (each_at g (set_u g s) s (parts p s h).steps j l) in
        let lj : j < length s = omega (arith, place-long) in
        let lj' : suc j < length s = omega (arith, place-long) in
        let b : ℕ = back (blocks_of p).previous B.0 i in (
          B.0,
          record {
            some = B.1.some;
            skipped = B.1.skipped;
            stops = B.1.stops;
            changes = λ k. ⊎_elim
                (λ (x : k < num_indices g).
                let e : at (nth s (suc j)) k + unit b k ≡ at (nth s j) k + unit i k = rw B.2 at (go k x) in
                omega (arith, in_coord j lj k x, in_coord (suc j) lj' k x))
                (λ (x : num_indices g ≤ k).
                let ub : unit b k ≡ 0 = rw (ne_eqb k b (λ e. omega (arith, back_below p B.0 i il))) in
                let ui : unit i k ≡ 0 = rw (ne_eqb k i (λ e. omega arith)) in
                omega (arith, out_coord j lj k x, out_coord (suc j) lj' k x))
                (before_or_not k (num_indices g));
          },
        )

    literal : Place (blocks_of p) (in_t p s) (in_u p s) (length (order p.grid s)) (λ j. coefficient_of p (nth s j))
        (at (order p.grid s))
    literal = record {
      grid = λ j l. on_ring p (is_at s on j (omega (arith, place-long)));
      has_zeros = λ j l. has_zeros p (is_at s on j (omega (arith, place-long)));
      unused = λ k u j l.
          let m : j < length s = omega (arith, place-long) in
          in_coord j m k (U-below k u) ∙ U-zero k u j m;
      used = λ k u. ⊎_elim
          (λ (l : k < num_indices p.grid).
          let w = U_not k l u in
          (w.0, omega (arith, w.1, place-long), omega (arith, w.2, in_coord w.0 w.1 k l)))
          (λ (l : num_indices p.grid ≤ k). (0, omega arith, omega (arith, out_coord 0 (omega (arith, place-long)) k l)))
          (before_or_not k (num_indices p.grid));
      moved = λ k t. let w = T_pos k t in (T_not_U p s h k t, (w.0, omega (arith, w.1, place-long), w.2));
      unmoved = λ k t u j l.
          let m : j < length s = omega (arith, place-long) in
          ⊎_elim
          (λ (x : k < num_indices p.grid). T_not k x t u j m)
          (λ (x : num_indices p.grid ≤ k). beyond p (is_at s on j m) k x)
          (before_or_not k (num_indices p.grid));
      order = order_is;
      step = goes;
      free = free-at;
    }

    pub place-chain : Chain (blocks_of p) (in_t p s) (length (order p.grid s)) (list_at (coefficients_of p s))
        (at (order p.grid s))
    place-chain = chain_ext (λ j l. sym (list_at-map _ s j (omega (arith, place-long)))) (chain_of literal)

    pub in_t_agrees : set_t p s ≡ filter (in_t p s) (indices p.grid)
    unfolding set_t
    in_t_agrees = set_of_lem
        (λ h. not (is_in eqb h (set_u p.grid s)) && any (λ c. ltb 0 (at c h)) (map (coefficients p) s))
        (indices p.grid)

    -- which carries its labels
    pub labelled_chain_of : LabelledChain (blocks_of p) (label_of p) (in_t p s) (length (order p.grid s))
        (at (order p.grid s)) (coefficients_of p s)
    labelled_chain_of = record {
      size = length-map s (coefficient_of p) ∙ place-long;
      chain = place-chain;
      covers = λ k m. let w = labels_in s on k (all_in on_numbers _ (set_t p s) (parts p s h).labelled k m) in
          (w.0, omega (arith, w.1, place-long), w.2);
    }

  -- points and coefficients determine each other
  pub points_of_coefficients_of : (s : Simplex) → all (is_grid_point p.grid) s ≡ true → points_of p (coefficients_of p s) ≡ s
  points_of_coefficients_of [] h = refl
  points_of_coefficients_of (y ∷ s) h =
      let e = point_coefficient_of ok y (and_left _ _ h) in
      let f = points_of_coefficients_of s (and_right (is_grid_point p.grid y) (all (is_grid_point p.grid) s) h) in
      cc

  pub coefficients_of_points_of : (x : List (ℕ → ℕ))
      → ((j : ℕ) → j < length x → OnRing (blocks_of p) (list_at x j) × HasZeros (blocks_of p) (list_at x j))
      → (coefficients_of p (points_of p x) ≡ x) × (all (is_grid_point p.grid) (points_of p x) ≡ true)
  coefficients_of_points_of [] h = (refl, refl)
  coefficients_of_points_of (c ∷ x) h =
      let r = coefficients_of_points_of x (λ j l. h (suc j) (omega arith)) in
      let z = h 0 (omega arith) in
      let e = coefficient_of_point ok z.0 z.1 in
      let f = r.0 in
      (cc, and_both _ _ (point-grid ok c z.0) r.1)
