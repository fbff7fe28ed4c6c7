-- A chain of the geometry that carries its labels is a place, with the same T. In order: its points and their
-- coefficients; U and T; its steps; the place. Assumes nothing.
use mathlib.Core.Bool.{Bool, true}
use mathlib.Core.List.{List, [], map}
use mathlib.Core.Logic.{⊎_elim}
use mathlib.Core.Path.{◌≡◌, sym, ap, ◌∙◌, fun_ext}
use Prim.Native.Nat.{ℕ, suc, ◌+◌, ◌≤◌, ◌<◌}
use borrow.Author.Tests.{eqb-true, eq-eqb, ne_eqb, lt-ltb, ltb-true}
use lib.Dec.{eqb}
use lib.ListN.{length, length-map}
use native.Mathlib.Omega.{arith}
use Rattle.combinatorics.proofs.Lists.{filter_cong, in_all, in_filter, filter_in, on_numbers, eqb_self}
use Rattle.combinatorics.proofs.Basics.{absurd_bool, true_or_false, before_or_not, and_both, both}
use Rattle.combinatorics.proofs.Ranges.{in_up_from, up_from_in}
use Rattle.combinatorics.specs.Lists.{is_in, all, filter, distinct, rising, occurrences}
use Rattle.geometry.proofs.Bridge.{chain-place}
use Rattle.geometry.proofs.Definitions.{back, coord, one_at, Place, zeros, BackOutside}
use Rattle.geometry.proofs.LabelledChains.{list_at, LabelledChain, tabulate}
use Rattle.geometry.proofs.Onward.{length_tabulate, get_d_tabulate}
use Rattle.geometry.proofs.Places.{coefficients as same-coefficients}
use Rattle.geometry.proofs.Points.{nth, in_range_lem, ring, list_at-map}
use Rattle.geometry.proofs.Sorted.{rising-chain}
use Rattle.grid_points.proofs.Points.{on_points}
use Rattle.grid_points.specs.Grid.{Point, at, num_indices, first_index, size, indices, is_grid_point}
use Rattle.place.specs.Coefficients.{IsCoefficients, coefficients, coefficient_sum}
use Rattle.place.specs.Places.{is_place, set_u, set_t, within, order, grown_at, goes_to, first_back_outside, unit}
use Rattle.place.specs.Places.{each_goes_to_next, every_block_free, uses_each_once, is_unlabelled_place}
use Rattle.place.specs.Problem.{Problem}
use Rattle.path_laws.proofs.ToChain.{in_t, in_u, coefficients_of, points_of, label_of, size-positive, in_labels}
use Rattle.path_laws.proofs.ToChain.{coefficients_of_points_of, is_at}
use Rattle.path_laws.proofs.Meaning.{T_means, U_means, free_means}
use Rattle.path_laws.proofs.Positions.{at_in, in_at, at-distinct, occurs_once, sum_lt, first_of, at_each}
use Rattle.path_laws.proofs.Positions.{at-order}
use Rattle.path_laws.proofs.Positions.{at-rising, set_of_lem}
use Rattle.path_laws.proofs.BlocksOfGrid.{blocks_of, point_of, coefficient_of, block_agrees, block_inside, coord_in}
use Rattle.path_laws.proofs.BlocksOfGrid.{coord_out, outside-before, before_same}
use Rattle.path_laws.specs.Demand.{HasStart}

-- a chain that carries its labels
module _ {p : Problem} (ok : HasStart p) where
  module _ {T : ℕ → Bool} {t : ℕ} {o : ℕ → ℕ} {x : List (ℕ → ℕ)}
      (S : LabelledChain (blocks_of p) (label_of p) T t o x) where
    both_ways : (coefficients_of p (points_of p x) ≡ x) × (all (is_grid_point p.grid) (points_of p x) ≡ true)
    both_ways = coefficients_of_points_of ok x
        (λ j l. let m : j ≤ t = omega (arith, S.size) in (S.chain.grid j m, S.chain.has_zeros j m))

    pub back-again : coefficients_of p (points_of p x) ≡ x
    back-again = both_ways.0

    pub points_of-grid : all (is_grid_point p.grid) (points_of p x) ≡ true
    points_of-grid = both_ways.1

    abbrev pub set_of : List ℕ
    set_of = filter T (indices p.grid)

    pub T-range : (k : ℕ) → T k ≡ true → k < num_indices p.grid
    unfolding ring
    T-range k e = omega (arith, in_range_lem p.grid.sizes (at p.start) (list_at x 0) S.chain.free k e)

    in_set : (k : ℕ) → is_in eqb k set_of ≡ T k
    in_set k = both _ _
        (λ m. (filter_in on_numbers T k (indices p.grid) m).1)
        (λ e. in_filter on_numbers T k (indices p.grid)
        (in_up_from 0 (num_indices p.grid) k (omega arith) (omega (arith, T-range k e))) e)

    pub coefficient_at : (j : ℕ) → j < length x → coefficient_of p (nth (points_of p x) j) ≡ list_at x j
    coefficient_at j l = sym (list_at-map (coefficient_of p) (points_of p x) j (omega (arith, length-map x (point_of p))))
        ∙ ap (λ (z : List (ℕ → ℕ)). list_at z j) back-again

    order-list : uses_each_once set_of (tabulate t o) ≡ true
    order-list =
        let u = set_of in
        let d : distinct eqb (tabulate t o) ≡ true = at-distinct on_numbers 0 (tabulate t o) (λ i j l m e.
        let il : i < t = omega (arith, length_tabulate t o) in
        let jl : j < t = omega (arith, length_tabulate t o) in
        S.chain.order.once i j il jl (sym (get_d_tabulate 0 t o i il) ∙ e ∙ get_d_tabulate 0 t o j jl)) in
        and_both (within (tabulate t o) u) (all (λ h. eqb (occurrences h (tabulate t o)) 1) u)
        (in_all on_numbers
        (λ h. is_in eqb h u)
        (tabulate t o)
        (λ z m.
        let i = in_at on_numbers 0 z (tabulate t o) m in
        let il : i.0 < t = omega (arith, i.1, length_tabulate t o) in
        rw (sym (get_d_tabulate 0 t o i.0 il) ∙ i.2) at (in_set (o i.0) ∙ S.chain.order.within i.0 il)))
        (in_all on_numbers
        (λ h. eqb (occurrences h (tabulate t o)) 1)
        u
        (λ z m.
        let w = S.chain.order.all z (sym (in_set z) ∙ m) in
        eq-eqb _ _ (occurs_once z (tabulate t o) d
        (rw (get_d_tabulate 0 t o w.0 w.1 ∙ w.2)
        at (at_in on_numbers 0 (tabulate t o) w.0 (omega (arith, w.1, length_tabulate t o)))))))

    -- document 01's U, T and b
    abbrev U : ℕ → Bool
    U = zeros (blocks_of p) T (list_at x 0)

    P : Place (blocks_of p) T U t (list_at x) o
    P = chain-place S.chain

    pub long : length (points_of p x) ≡ suc t
    long = length-map x (point_of p) ∙ S.size

    coefficients-at : (j : ℕ) → j ≤ t → IsCoefficients p (nth (points_of p x) j) (coefficients p (nth (points_of p x) j))
    coefficients-at j l = is_at ok (points_of p x) points_of-grid j (omega (arith, long))

    pub coord_as : (j : ℕ) → j ≤ t → (k : ℕ) → k < num_indices p.grid
        → coord (blocks_of p) (list_at x j) k ≡ at (nth (points_of p x) j) k
    coord_as j l k m = rw (← coefficient_at j (omega (arith, S.size))) (coord_in p (coefficients-at j l) k m)

    coord_beyond : (j : ℕ) → j ≤ t → (k : ℕ) → num_indices p.grid ≤ k → coord (blocks_of p) (list_at x j) k ≡ 1
    coord_beyond j l k m = rw (← coefficient_at j (omega (arith, S.size))) (coord_out p (coefficients-at j l) k m)

    pub in_U : (k : ℕ) → in_u p (points_of p x) k ≡ U k
    in_U k = both _ _
        (λ u.
        let w = (U_means p.grid (points_of p x) k).0 u in
        ⊎_elim
        (λ e. e)
        (λ e.
        let i = P.used k e in
        let z = w.1 (nth (points_of p x) i.0) (at_in on_points [] (points_of p x) i.0 (omega (arith, i.1, long))) in
        absurd (omega (arith, i.2, coord_as i.0 i.1 k w.0)))
        (true_or_false (U k)))
        (λ u.
        let kl : k < num_indices p.grid = ⊎_elim
        (λ l. l)
        (λ (l : num_indices p.grid ≤ k).
        absurd (omega (arith, P.unused k u 0 (omega arith), coord_beyond 0 (omega arith) k l)))
        (before_or_not k (num_indices p.grid)) in
        (U_means p.grid (points_of p x) k).1 (
          kl,
          (λ y m.
              let j = in_at on_points [] y (points_of p x) m in
              let jl : j.0 ≤ t = omega (arith, j.1, long) in
              ap (λ (z : Point). at z k) (sym j.2) ∙ sym (coord_as j.0 jl k kl) ∙ P.unused k u j.0 jl),
        ))

    pub set_is : set_t p (points_of p x) ≡ set_of
    unfolding set_t
    set_is = set_of_lem _ (indices p.grid)
        ∙ filter_cong on_numbers (indices p.grid)
        (λ k m. both _ _
        (λ e.
        let w = (T_means p (points_of p x) k).0 e in
        let a = in_at on_points [] w.2.0 (points_of p x) w.2.1 in
        let al : a.0 < length x = omega (arith, a.1, long, S.size) in
        let c : coefficient_of p w.2.0 k ≡ list_at x a.0 k =
        ap (λ (y : Point). coefficient_of p y k) (sym a.2) ∙ ap (λ (c : ℕ → ℕ). c k) (coefficient_at a.0 al) in
        ⊎_elim
        (λ t. t)
        (λ f. absurd (omega (arith, w.2.2, P.unmoved k f (sym (in_U k) ∙ w.1) a.0 (omega (arith, al, S.size)))))
        (true_or_false (T k)))
        (λ e.
        let w = P.moved k e in
        let a = w.1 in
        let c = ap (λ (c : ℕ → ℕ). c k) (coefficient_at a.0 (omega (arith, a.1, S.size))) in
        (T_means p (points_of p x) k).1 (
          T-range k e,
          in_U k ∙ w.0,
          (
            nth (points_of p x) a.0,
            at_in on_points [] (points_of p x) a.0 (omega (arith, a.1, long)),
            omega (arith, a.2),
          ),
        )))

    module _ (j : ℕ) (l : j < t) where
      abbrev y : Point
      y = nth (points_of p x) j

      abbrev z : Point
      z = nth (points_of p x) (suc j)

      order_below : o j < num_indices p.grid
      order_below = T-range (o j) (S.chain.order.within j l)

      abbrev b : ℕ
      b = back (blocks_of p).previous (P.step j l).0 (o j)

      changes : (k : ℕ) → k < num_indices p.grid → at z k + unit b k ≡ at y k + unit (o j) k
      changes k kl = omega (arith, (P.step j l).1.changes k, coord_as j (omega arith) k kl, coord_as (suc j) l k kl)

      apart : b ≡ o j → ⊥
      apart e =
          let s : list_at x j ≡ list_at x (suc j) = same-coefficients (blocks_of p) (S.chain.grid j (omega arith))
          (S.chain.grid (suc j) l) (S.chain.has_zeros j (omega arith)) (S.chain.has_zeros (suc j) l)
          (λ k. omega (arith, (P.step j l).1.changes k, ap (λ (i : ℕ). one_at i k) e)) in
          omega (arith, (S.chain.step j l).raised, ap (λ (c : ℕ → ℕ). c (o j)) s)

      grown : grown_at p.grid y z ≡ o j
      unfolding grown_at
      grown = first_of (indices p.grid) (o j)
          (in_up_from 0 (num_indices p.grid) (o j) (omega arith) (omega (arith, order_below)))
          (lt-ltb (at y (o j)) (at z (o j))
          (let ub : unit b (o j) ≡ 0 = rw (ne_eqb (o j) b (λ e. apart (sym e))) in
          let uo : unit (o j) (o j) ≡ 1 = rw (eqb_self (o j)) in
          omega (arith, changes (o j) order_below)))
          (λ k m e. ⊎_elim
          (λ w. eqb-true k (o j) w)
          (λ w. absurd (let u : unit (o j) k ≡ 0 = rw w in
          omega (
            arith,
            ltb-true (at y k) (at z k) e,
            changes k (omega (arith, (up_from_in 0 (num_indices p.grid) k m).1)),
          )))
          (true_or_false (eqb k (o j))))

      lends : first_back_outside p.grid (set_u p.grid (points_of p x)) (o j) ≡ b
      lends =
          let u = set_u p.grid (points_of p x) in
          let f = P.free (o j) in
          let B = outside-before p u (o j) f.0 order_below f.1
          (λ e. absurd_bool (sym (S.chain.order.within j l) ∙ ap T (sym e) ∙ f.2))
          (in_U f.0 ∙ f.3) in
          let G = (P.step j l).1 in
          let C : BackOutside (blocks_of p) (λ k. is_in eqb k u) (o j) (P.step j l).0 =
          record { some = G.some; skipped = λ i a c. in_U _ ∙ G.skipped i a c; stops = in_U b ∙ G.stops } in
          B.2 ∙ ap (λ (n : ℕ). back (blocks_of p).previous n (o j)) (before_same B.1 C)

      goes_on : goes_to p.grid (o j) (first_back_outside p.grid (set_u p.grid (points_of p x)) (o j)) y z ≡ true
      unfolding goes_to
      goes_on = in_all on_numbers
          (λ k.
          eqb (at z k + unit (first_back_outside p.grid (set_u p.grid (points_of p x)) (o j)) k) (at y k + unit (o j) k))
          (indices p.grid)
          (λ k m. eq-eqb _ _ (rw (← lends) at (changes k (omega (arith, (up_from_in 0 (num_indices p.grid) k m).1)))))

      sum-grows : coefficient_sum p y < coefficient_sum p z
      sum-grows =
          let cy = coefficients-at j (omega arith) in
          let cz = coefficients-at (suc j) l in
          let ey : coefficient_of p y ≡ list_at x j = coefficient_at j (omega (arith, S.size)) in
          let ez : coefficient_of p z ≡ list_at x (suc j) = coefficient_at (suc j) (omega (arith, S.size)) in
          let r = rising-chain S.chain in
          sum_lt (coefficients p y) (coefficients p z) (cy.numbers ∙ sym cz.numbers)
          (λ k m. omega (
            arith,
            r.up j (suc j) (omega arith) (omega arith) k,
            ap (λ (c : ℕ → ℕ). c k) ey,
            ap (λ (c : ℕ → ℕ). c k) ez,
          ))
          (o j) (omega (arith, cy.numbers, order_below))
          (omega (arith, (S.chain.step j l).raised, ap (λ (c : ℕ → ℕ). c (o j)) ey, ap (λ (c : ℕ → ℕ). c (o j)) ez))

    U-free : every_block_free p.grid set_of (set_u p.grid (points_of p x)) ≡ true
    U-free =
        let g = p.grid in
        (free_means p (points_of p x) set_of (set_u g (points_of p x))).1 (λ j lj.
        let f = P.free (first_index g j + 0) in
        let r = block_inside p j f.0 lj (size-positive ok j lj) (f.1 ∙ block_agrees p j 0 (size-positive ok j lj)) in
        (f.0, in_up_from (first_index g j) (size g j) f.0 r.0 r.1, in_set f.0 ∙ f.2, in_U f.0 ∙ f.3))

    unlabelled : is_unlabelled_place p (points_of p x) ≡ true
    unfolding is_unlabelled_place
    unlabelled =
        let g = p.grid in
        let r : rising (map (coefficient_sum p) (points_of p x)) ≡ true =
        at-rising (coefficient_sum p) (points_of p x) (λ j l. sum-grows j (omega (arith, long))) in
        let e : each_goes_to_next g (set_u g (points_of p x)) (points_of p x) ≡ true = at_each g (set_u g (points_of p x))
        (points_of p x)
        (λ j l. let m : j < t = omega (arith, long) in rw (grown j m) (goes_on j m)) in
        let q : order g (points_of p x) ≡ tabulate t o = at-order g (points_of p x) t long grown in
        rw (set_is, q, points_of-grid, r, e, order-list, U-free)

    pub T-is : in_t p (points_of p x) ≡ T
    T-is = fun_ext (λ k. ap (λ (u : List ℕ). is_in eqb k u) set_is ∙ in_set k)

    pub place_of : is_place p (points_of p x) ≡ true
    unfolding is_place
    place_of = and_both _ _ unlabelled
        (in_all on_numbers _ (set_t p (points_of p x)) (λ k m.
        let w = S.covers k (ap (λ (U : ℕ → Bool). U k) (sym T-is) ∙ m) in
        let l : w.0 < length (points_of p x) = omega (arith, w.1, S.size, length-map x (point_of p)) in
        rw (ap (λ (z : List (ℕ → ℕ)). label_of p (list_at z w.0)) back-again ∙ w.2)
        at (in_labels ok (points_of p x) points_of-grid w.0 l (omega (
          arith,
          ap (λ (z : List (ℕ → ℕ)). label_of p (list_at z w.0)) back-again,
          w.2,
          ((T_means p (points_of p x) k).0 m).0,
        )))))
