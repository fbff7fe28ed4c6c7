-- A place that is kept by its first point and an order meets the conditions, and the order is that of its points. In
-- order: going back, by the members of U; the steps of a kept place; its T and U; the conditions. Assumes nothing.
use mathlib.Core.Bool.{Bool, true, false}
use mathlib.Core.List.{List, [], ◌∷◌, map}
use mathlib.Core.Logic.{⊎_elim}
use mathlib.Core.Path.{◌≡◌, refl, sym, ap, ◌∙◌}
use Prim.Native.Nat.{ℕ, zero, suc, ◌+◌, ◌-◌, ◌≤◌, ◌<◌}
use borrow.Author.Tests.{eqb-true, le-ltb, lt-ltb, ltb-true, ne_eqb}
use lib.Dec.{eqb, ltb}
use lib.ListN.{length, get_or}
use lib.Seq.{ext_get_or}
use native.Mathlib.Omega.{arith}
use Rattle.combinatorics.proofs.Basics.{absurd_bool, and_both, and_left, and_right, before_or_not, both, false_of}
use Rattle.combinatorics.proofs.Basics.{same_or, true_or_false}
use Rattle.combinatorics.proofs.Lists.{all_in, in_all, in_cases, in_first, in_here, in_later, eqb_self, on_numbers}
use Rattle.combinatorics.specs.Lists.{all, is_in, occurrences, rising, sum}
use Rattle.grid_points.proofs.Points.{on_points}
use Rattle.grid_points.proofs.Round.{next-previous}
use Rattle.grid_points.specs.Grid.{Grid, Point, at, block_in, block_of, indices, is_grid_point, num_indices, previous}
use Rattle.grid_points.specs.Grid.{same_point}
use Rattle.grid_points.specs.Grid.{size}
use Rattle.place.specs.Coefficients.{coefficients, coefficient_sum}
use Rattle.place.specs.Places.{Simplex, each_goes_to_next, first_back_outside, goes_to, grown_at, is_place, label_set, order}
use Rattle.place.specs.Places.{search_back, set_t, set_u, unit, within}
use Rattle.place.specs.Problem.{Problem}
use Rattle.path_laws.proofs.IndexSets.{goes_at, order-distinct, order-within, T_not_U}
use Rattle.path_laws.proofs.LinkSymmetry.{parts}
use Rattle.path_laws.proofs.Meaning.{free_means, index_means, T_means, U_means}
use Rattle.path_laws.proofs.Positions.{first_of, occurs_in}
use Rattle.walks.proofs.KeptPlace.{Conditions, at-stepped, is_zero, length-stepped, zero_is, zero-stays}
use Rattle.walks.specs.Kept.{can_step, kept_points, points_by, stepped, zero_outside}

-- going back depends on the members of U only, stays among the indices, and beyond them does not move
search_same : (g : Grid) (u v : List ℕ) → ((k : ℕ) → is_in eqb k u ≡ is_in eqb k v) → (n h : ℕ)
    → search_back g u n h ≡ search_back g v n h
search_same g u v e zero h = refl
search_same g u v e (suc n) h = rw (e (previous g h), search_same g u v e n (previous g h))

pub back-same : (g : Grid) (u v : List ℕ) → ((k : ℕ) → is_in eqb k u ≡ is_in eqb k v) → (h : ℕ)
    → first_back_outside g u h ≡ first_back_outside g v h
unfolding first_back_outside
back-same g u v e h = search_same g u v e (size g (block_of g h)) h

search_below : (g : Grid) (u : List ℕ) (n h : ℕ) → h < num_indices g → search_back g u n h < num_indices g
search_below g u zero h l = l
search_below g u (suc n) h l =
    let k = (next-previous g h l).1 in
    ⊎_elim (λ t. rw t (search_below g u n (previous g h) k)) (λ f. rw f k) (true_or_false (is_in eqb (previous g h) u))

back_below : (g : Grid) (u : List ℕ) (h : ℕ) → h < num_indices g → first_back_outside g u h < num_indices g
unfolding first_back_outside
back_below g u h l = search_below g u (size g (block_of g h)) h l

no_block : (ss : List ℕ) (h : ℕ) → sum ss ≤ h → get_or ss (block_in ss h) 0 ≡ 0
no_block [] h l = refl
no_block (s ∷ ss) h l = let z : s ≤ h = omega arith in rw (le-ltb h s z) (no_block ss (h - s) (omega arith))

back-beyond : (g : Grid) (u : List ℕ) (h : ℕ) → num_indices g ≤ h → first_back_outside g u h ≡ h
unfolding first_back_outside
back-beyond g u h l = rw (no_block g.sizes h l)

-- the points behind the first
abbrev later : Grid → List ℕ → Point → List ℕ → Simplex
later g u z [] = []
later g u z (h ∷ r) = points_by g u (stepped g u h z) r

split : (g : Grid) (u : List ℕ) (z : Point) (r : List ℕ) → points_by g u z r ≡ z ∷ later g u z r
split g u z [] = refl
split g u z (h ∷ r) = refl

module _ (p : Problem) where
  pub grid-long : (z : Point) → is_grid_point p.grid z ≡ true → length z ≡ num_indices p.grid
  unfolding is_grid_point
  grid-long z h = eqb-true _ _ (and_left _ _ h)

  -- a step to another point is a step at an index, which takes from another
  module _ (u : List ℕ) (h : ℕ) (z : Point) (on : is_grid_point p.grid z ≡ true)
      (up : coefficient_sum p z < coefficient_sum p (stepped p.grid u h z)) where
    abbrev b : ℕ
    b = first_back_outside p.grid u h

    apart : b ≡ h → ⊥
    apart e =
        let q : stepped p.grid u h z ≡ z = ext_get_or 0 (stepped p.grid u h z) z
        (length-stepped p u h z ∙ sym (grid-long z on))
        (λ k l. at-stepped p u h z k (omega (arith, length-stepped p u h z)) ∙ (rw e (omega arith))) in
        omega (arith, ap (coefficient_sum p) q)

    own : h < num_indices p.grid
    own = ⊎_elim (λ l. l) (λ l. absurd (apart (back-beyond p.grid u h l))) (before_or_not h (num_indices p.grid))

    grown : grown_at p.grid z (stepped p.grid u h z) ≡ h
    unfolding grown_at
    grown = first_of (indices p.grid) h ((index_means p.grid h).1 own)
        (let a : unit h h ≡ 1 = rw (eqb_self h) in
        let c : unit b h ≡ 0 = rw (ne_eqb h b (λ e. apart (sym e))) in
        lt-ltb (at z h) (at (stepped p.grid u h z) h) (omega (arith, at-stepped p u h z h own)))
        (λ k m t. ⊎_elim
        (λ w. eqb-true k h w)
        (λ w. absurd (let a : unit h k ≡ 0 = rw w in
        omega (
          arith,
          ltb-true (at z k) (at (stepped p.grid u h z) k) t,
          at-stepped p u h z k ((index_means p.grid k).0 m),
        )))
        (true_or_false (eqb k h)))

  -- the order of the points is the order kept
  order-kept : (u : List ℕ) (z : Point) (r : List ℕ) → all (is_grid_point p.grid) (points_by p.grid u z r) ≡ true
      → rising (map (coefficient_sum p) (points_by p.grid u z r)) ≡ true → order p.grid (points_by p.grid u z r) ≡ r
  order-kept u z [] on up = refl
  order-kept u z (h ∷ r) on up =
      let w = stepped p.grid u h z in
      let q = split p.grid u w r in
      let i = order-kept u w r (and_right (is_grid_point p.grid z) (all (is_grid_point p.grid) (points_by p.grid u w r)) on)
      (up_rest (rw q at up)) in
      let g = grown u h z (and_left (is_grid_point p.grid z) (all (is_grid_point p.grid) (points_by p.grid u w r)) on)
      (up_first (rw q at up)) in
      rw (q, g) (ap (λ (l : List ℕ). h ∷ l) (rw q at i))
    where
      up_first : rising (map (coefficient_sum p) (z ∷ stepped p.grid u h z ∷ later p.grid u (stepped p.grid u h z) r))
          ≡ true
          → coefficient_sum p z < coefficient_sum p (stepped p.grid u h z)
      up_first e = ltb-true _ _ (and_left (ltb (coefficient_sum p z) (coefficient_sum p (stepped p.grid u h z))) _ e)

      up_rest : rising (map (coefficient_sum p) (z ∷ stepped p.grid u h z ∷ later p.grid u (stepped p.grid u h z) r))
          ≡ true
          → rising (map (coefficient_sum p) (points_by p.grid u (stepped p.grid u h z) r)) ≡ true
      up_rest e =
          rw (split p.grid u (stepped p.grid u h z) r)
          (and_right (ltb (coefficient_sum p z) (coefficient_sum p (stepped p.grid u h z))) _ e)

  -- and where the next point is as document 01's test has it, there is 1 to take
  can-kept : (u v : List ℕ) → ((k : ℕ) → is_in eqb k u ≡ is_in eqb k v) → (z : Point) (r : List ℕ)
      → all (is_grid_point p.grid) (points_by p.grid u z r) ≡ true
      → rising (map (coefficient_sum p) (points_by p.grid u z r)) ≡ true
      → each_goes_to_next p.grid v (points_by p.grid u z r) ≡ true
      → can_step p.grid u z r ≡ true
  can-kept u v same z [] on up goes = refl
  can-kept u v same z (h ∷ r) on up goes = go (points_by p.grid u (stepped p.grid u h z) r)
      (split p.grid u (stepped p.grid u h z) r) on up goes (can-kept u v same (stepped p.grid u h z) r)
    where
      w : Point
      w = stepped p.grid u h z

      go : (s : Simplex) → s ≡ stepped p.grid u h z ∷ later p.grid u (stepped p.grid u h z) r
          → all (is_grid_point p.grid) (z ∷ s) ≡ true → rising (map (coefficient_sum p) (z ∷ s)) ≡ true
          → each_goes_to_next p.grid v (z ∷ s) ≡ true
          → (all (is_grid_point p.grid) s ≡ true → rising (map (coefficient_sum p) s) ≡ true
          → each_goes_to_next p.grid v s ≡ true
          → can_step p.grid u (stepped p.grid u h z) r ≡ true)
          → can_step p.grid u z (h ∷ r) ≡ true
      go [] q on up goes rest = absurd_bool (cc)
      go (x ∷ s) q on up goes rest = step (let e : x ≡ stepped p.grid u h z = cc in e)
        where
          step : x ≡ stepped p.grid u h z → can_step p.grid u z (h ∷ r) ≡ true
          step e =
              let a : Bool = ltb (coefficient_sum p z) (coefficient_sum p x) in
              let k = grown_at p.grid z x in
              let c : Bool = goes_to p.grid k (first_back_outside p.grid v k) z x in
              let up_first : coefficient_sum p z < coefficient_sum p (stepped p.grid u h z) = rw e at (ltb-true
              (coefficient_sum p z) (coefficient_sum p x) (and_left a (rising (map (coefficient_sum p) (x ∷ s))) up)) in
              let on-z = and_left (is_grid_point p.grid z) (all (is_grid_point p.grid) (x ∷ s)) on in
              let t : goes_to p.grid k (first_back_outside p.grid v k) z x ≡ true =
              and_left c (each_goes_to_next p.grid v (x ∷ s)) goes in
              let j : k ≡ h = ap (grown_at p.grid z) e ∙ grown u h z on-z up_first in
              let b = first_back_outside p.grid u h in
              let f : first_back_outside p.grid v k ≡ b =
              ap (first_back_outside p.grid v) j ∙ sym (back-same p.grid u v same h) in
              let bl : b < num_indices p.grid = back_below p.grid u h (own u h z on-z up_first) in
              let g : at x b + unit b b ≡ at z b + unit h b =
              rw (f, j) at (goes_at p.grid k (first_back_outside p.grid v k) z x t b bl) in
              let bb : unit b b ≡ 1 = rw (eqb_self b) in
              let hb : unit h b ≡ 0 = rw (ne_eqb b h (apart u h z on-z up_first)) in
              and_both _ _ (lt-ltb 0 (at z b) (omega arith))
              (rest (and_right (is_grid_point p.grid z) (all (is_grid_point p.grid) (x ∷ s)) on)
              (and_right a (rising (map (coefficient_sum p) (x ∷ s))) up)
              (and_right c (each_goes_to_next p.grid v (x ∷ s)) goes))

  -- what is 0 outside T is 0 at all points
  zero-all : (u : List ℕ) (z : Point) (r : List ℕ) (k : ℕ) → k < num_indices p.grid → at z k ≡ 0 → is_in eqb k r ≡ false
      → (x : Point) → is_in same_point x (points_by p.grid u z r) ≡ true → at x k ≡ 0
  zero-all u z [] k l e n x m =
      ⊎_elim (λ q. ap (λ (y : Point). at y k) q ∙ e) (λ q. absurd_bool (sym q)) (in_cases on_points x z [] m)
  zero-all u z (h ∷ r) k l e n x m =
      let other : (k ≡ h → ⊥) = λ q. absurd_bool (sym (in_first on_numbers _ h r q) ∙ n) in
      let rest : is_in eqb k r ≡ false = false_of _ (λ q. absurd_bool (sym (in_later on_numbers k h r q) ∙ n)) in
      ⊎_elim (λ q. ap (λ (y : Point). at y k) q ∙ e)
      (λ q. zero-all u (stepped p.grid u h z) r k l (zero-stays p u h z k l e other) rest x q)
      (in_cases on_points x z (points_by p.grid u (stepped p.grid u h z) r) m)

-- a place kept so meets the conditions
module _ (p : Problem) (y : Point) (o : List ℕ) (place : is_place p (kept_points p.grid y o) ≡ true) where
  abbrev u : List ℕ
  u = zero_outside p.grid o y

  abbrev s : Simplex
  s = kept_points p.grid y o

  -- the order that is kept is the place's
  pub order_is : order p.grid s ≡ o
  order_is = order-kept p u y o (parts p s place).grid_points (parts p s place).in_order

  pub T-is : (k : ℕ) → is_in eqb k o ≡ is_in eqb k (set_t p s)
  T-is k = both _ _
      (λ m. order-within p s place k (rw order_is m))
      (λ m. rw order_is at (occurs_in k (order p.grid s)
      (eqb-true _ 1 (all_in on_numbers
      (λ h. eqb (occurrences h (order p.grid s)) 1)
      (set_t p s)
      (and_right (within (order p.grid s) (set_t p s)) (all (λ h. eqb (occurrences h (order p.grid s)) 1) (set_t p s))
      (parts p s place).once)
      k m))))

  first_in : is_in same_point y s ≡ true
  first_in = rw (split p.grid u y o) (in_here on_points y (later p.grid u y o))

  pub U-is : (k : ℕ) → is_in eqb k u ≡ is_in eqb k (set_u p.grid s)
  U-is k = both _ _
      (λ m. let w = zero_is p o y k m in (U_means p.grid s k).1 (w.0, zero-all p u y o k w.0 w.1 w.2))
      (λ m.
      let w = (U_means p.grid s k).0 m in
      is_zero p o y k w.0 (w.1 y first_in)
      (false_of _ (λ t. absurd_bool (sym m ∙ T_not_U p s place k (sym (T-is k) ∙ t)))))

  pub meets : Conditions p y o
  meets = record {
    on_grid = all_in on_points _ s (parts p s place).grid_points y first_in;
    below = in_all on_numbers _ o (λ k m. lt-ltb k _ ((T_means p s k).0 (sym (T-is k) ∙ m)).0);
    different = rw order_is at (order-distinct p s place);
    free = (free_means p s o u).1 (λ j l.
        let f = (free_means p s (set_t p s) (set_u p.grid s)).0 (parts p s place).free j l in
        (f.0, f.1, T-is f.0 ∙ f.2, U-is f.0 ∙ f.3));
    zero = λ k l n m. ⊎_elim
        (λ e. e)
        (λ e.
        absurd_bool (sym ((T_means p s k).1 (l, sym (U-is k) ∙ m, (y, first_in, omega (arith, e)))) ∙ sym (T-is k) ∙ n))
        (same_or (at (coefficients p y) k) 0);
    can = can-kept p u (set_u p.grid s) U-is y o (parts p s place).grid_points (parts p s place).in_order
        (parts p s place).steps;
  }

  pub labelled : within o (label_set p s) ≡ true
  labelled = in_all on_numbers _ o (λ k m.
      all_in on_numbers (λ h. is_in eqb h (label_set p s)) (set_t p s) (parts p s place).labelled k (sym (T-is k) ∙ m))
