-- A first point and an order that meet the conditions, with labels for T, are a place. In order: U and a step; the
-- chain that the steps make; the place. Assumes nothing.
use mathlib.Core.Bool.{Bool, true, false, not, ◌&&◌, ◌||◌}
use mathlib.Core.List.{List, [], ◌∷◌}
use mathlib.Core.Logic.{inr, ⊎_elim}
use mathlib.Core.Path.{◌≡◌, refl, sym, ap, ◌∙◌, subst}
use Prim.Native.Nat.{ℕ, zero, suc, ◌+◌, ◌-◌, ◌≤◌, ◌<◌}
use borrow.Author.Tests.{eqb-true, ltb-true, ne_eqb, not-true}
use lib.Dec.{eqb, ltb}
use lib.ListN.{length, length-map}
use lib.Seq.{ext_get_or}
use native.Mathlib.Omega.{arith}
use Rattle.combinatorics.proofs.Basics.{absurd_bool, and_both, and_left, and_right, before_or_not, false_of}
use Rattle.combinatorics.proofs.Basics.{or_cases, same_or, true_or_false}
use Rattle.combinatorics.proofs.Lists.{all_in, distinct-out, distinct_tail, filter_in, in_filter, in_here, in_later}
use Rattle.combinatorics.proofs.Lists.{on_numbers}
use Rattle.combinatorics.proofs.Ranges.{length-up_from}
use Rattle.combinatorics.proofs.Turns.{map_at}
use Rattle.combinatorics.specs.Lists.{all, distinct, is_in}
use Rattle.geometry.proofs.Bridge.{changes_of}
use Rattle.geometry.proofs.Definitions.{back, Blocks, BackOutside, BackToPositive, Chain, coord, Free, Grid as OnRing}
use Rattle.geometry.proofs.Definitions.{HasZeros, Moved, raise, Step, Tight, tight_of}
use Rattle.geometry.proofs.LabelledChains.{list_at, LabelledChain}
use Rattle.geometry.proofs.Links.{chain_ext}
use Rattle.geometry.proofs.Points.{at-point, list_at-map, nth, point-on}
use Rattle.geometry.proofs.Runs.{moved, positive-run, positive-stop, up_grid}
use Rattle.geometry.proofs.Search.{raise_at, raise_elsewhere, raise_step}
use Rattle.geometry.proofs.Tight.{bounded, lifted_le, lifted_on, lifted_tight, lifted_zeros}
use Rattle.geometry.proofs.Sorted.{rising-chain}
use Rattle.grid_points.proofs.Points.{on_points}
use Rattle.grid_points.specs.Grid.{Point, at, indices, is_grid_point, num_indices, same_point}
use Rattle.place.specs.Coefficients.{IsCoefficients, coefficients}
use Rattle.place.specs.Places.{Simplex, every_block_free, first_back_outside, is_place, label_set, unit, within}
use Rattle.place.specs.Problem.{Problem}
use Rattle.path_laws.proofs.BlocksOfGrid.{back_below, beyond, blocks_of, coefficient_of, coefficient_of_is}
use Rattle.path_laws.proofs.BlocksOfGrid.{coefficient_of_point, coord_in, has_zeros, next-outside, on_ring}
use Rattle.path_laws.proofs.BlocksOfGrid.{outside-before}
use Rattle.path_laws.proofs.BlocksOfGrid.{point-grid, point_of, start_outside}
use Rattle.path_laws.proofs.FromChain.{place_of}
use Rattle.path_laws.proofs.Meaning.{index_means}
use Rattle.path_laws.proofs.Positions.{at-distinct, at_in, in_at, same_at}
use Rattle.path_laws.proofs.ToChain.{coefficients_of, free-index, is_at, label_of, labels_in, points_of_coefficients_of}
use Rattle.path_laws.specs.Demand.{HasStart}
use Rattle.walks.specs.Kept.{can_step, is_kept, kept_points, points_by, stepped, zero_outside}

module _ (p : Problem) where
  -- U
  pub zero_is : (o : List ℕ) (y : Point) (k : ℕ) → is_in eqb k (zero_outside p.grid o y) ≡ true
      → (k < num_indices p.grid) × (at y k ≡ 0) × (is_in eqb k o ≡ false)
  unfolding zero_outside
  zero_is o y k m =
      let i = filter_in on_numbers (λ h. eqb (at y h) 0 && not (is_in eqb h o)) k (indices p.grid) m in
      let a : Bool = eqb (at y k) 0 in (
        (index_means p.grid k).0 i.0,
        eqb-true _ _ (and_left a (not (is_in eqb k o)) i.1),
        not-true _ (and_right a (not (is_in eqb k o)) i.1),
      )

  pub is_zero : (o : List ℕ) (y : Point) (k : ℕ) → k < num_indices p.grid → at y k ≡ 0 → is_in eqb k o ≡ false
      → is_in eqb k (zero_outside p.grid o y) ≡ true
  unfolding zero_outside
  is_zero o y k l z n = in_filter on_numbers
      (λ h. eqb (at y h) 0 && not (is_in eqb h o))
      k (indices p.grid) ((index_means p.grid k).1 l) (rw (z, n))

  -- a step
  pub at-stepped : (u : List ℕ) (h : ℕ) (y : Point) (k : ℕ) → k < num_indices p.grid
      → at (stepped p.grid u h y) k ≡ at y k + unit h k - unit (first_back_outside p.grid u h) k
  unfolding stepped
  at-stepped u h y k l =
      let z : 0 + k ≡ k = omega arith in
      rw z at (map_at (λ k. at y k + unit h k - unit (first_back_outside p.grid u h) k) 0 (num_indices p.grid) k l)

  pub length-stepped : (u : List ℕ) (h : ℕ) (y : Point) → length (stepped p.grid u h y) ≡ num_indices p.grid
  unfolding stepped
  length-stepped u h y = length-map (indices p.grid) (λ k. at y k + unit h k - unit (first_back_outside p.grid u h) k)
      ∙ length-up_from 0 (num_indices p.grid)

  -- what is 0 outside T stays 0
  pub zero-stays : (u : List ℕ) (h : ℕ) (y : Point) (k : ℕ) → k < num_indices p.grid → at y k ≡ 0 → (k ≡ h → ⊥)
      → at (stepped p.grid u h y) k ≡ 0
  zero-stays u h y k l z n = let w : unit h k ≡ 0 = rw (ne_eqb k h n) in omega (arith, at-stepped u h y k l)

-- the steps from the first point on
module _ {p : Problem} (ok : HasStart p) (y : Point) (o : List ℕ) (grid-y : is_grid_point p.grid y ≡ true) where
  abbrev u : List ℕ
  u = zero_outside p.grid o y

  abbrev T : ℕ → Bool
  T k = is_in eqb k o

  abbrev R : Blocks
  R = blocks_of p

  abbrev first : ℕ → ℕ
  first = coefficient_of p y

  module _ (tight-y : Tight R T first) (free : Free R T first) where
    -- what holds of a point z from which the indices r are still to be used
    record Stands (z : Point) (r : List ℕ) : Type 0 where
      on_grid : is_grid_point p.grid z ≡ true
      tight : Tight R T (coefficient_of p z)
      small : (k : ℕ) → T k ≡ true → coefficient_of p z k ≤ first k + 1
      fresh : (k : ℕ) → is_in eqb k r ≡ true → coefficient_of p z k ≡ first k
      zeros : (k : ℕ) → is_in eqb k u ≡ true → at z k ≡ 0

    module _ (z : Point) (h : ℕ) (r : List ℕ) (s : Stands z (h ∷ r))
        (part : (k : ℕ) → is_in eqb k (h ∷ r) ≡ true → T k ≡ true) (below : h < num_indices p.grid)
        (new : distinct eqb (h ∷ r) ≡ true) (gives : 0 < at z (first_back_outside p.grid u h)) where
      abbrev c : ℕ → ℕ
      c = coefficient_of p z

      is : IsCoefficients p z (coefficients p z)
      is = coefficient_of_is ok z s.on_grid

      own : T h ≡ true
      own = part h (in_here on_numbers h r)

      raised-small : (k : ℕ) → T k ≡ true → raise h c k ≤ first k + 1
      raised-small k t =
          ⊎_elim (λ (e : k ≡ h). rw e (omega (arith, raise_at h c, s.fresh h (in_here on_numbers h r))))
          (λ n. omega (arith, raise_elsewhere h c k n, s.small k t)) (same_or k h)

      abbrev d : ℕ → ℕ
      d = tight_of R T (raise h c)

      tight_d : Tight R T d
      tight_d = lifted_tight R (raise h c) tight-y raised-small free

      zeros_d : HasZeros R d
      zeros_d = lifted_zeros R (raise h c) tight-y raised-small free

      step : Step T h c d
      step = raise_step h c own (lifted_on R (raise h c) tight-y raised-small free)

      f : (f : ℕ) × (R.block f ≡ R.block h) × (T f ≡ false) × (first (R.next f) < R.start f)
      f = free h

      free-out : is_in eqb f.0 u ≡ false
      free-out = false_of _ (λ m.
          let w = zero_is p o y f.0 m in
          omega (arith, f.3, w.1, coord_in p (coefficient_of_is ok y grid-y) f.0 w.0))

      same_f : d f.0 ≡ c f.0
      same_f = omega (
        arith,
        f.3,
        s.tight f.0 f.2,
        tight_d f.0 f.2,
        bounded R T 1 s.tight tight-y s.small (has_zeros p is) (R.next f.0),
        lifted_le R (raise h c) tight-y raised-small free (R.next f.0),
      )

      search : (n : ℕ) × BackOutside R (λ k. is_in eqb k u) h n × (first_back_outside p.grid u h ≡ back R.previous n h)
      search = outside-before p u h f.0 below f.1 (λ e. absurd_bool (sym own ∙ ap T (sym e) ∙ f.2)) free-out

      abbrev n : ℕ
      n = search.0

      abbrev b : ℕ
      b = back R.previous n h

      positive : 0 < coord R c b
      positive = omega (arith, rw search.2 at gives, coord_in p is b (back_below p n h below))

      run : BackToPositive R T c h n
      run = record {
        some = search.1.some;
        skipped = λ i x y.
            let w = search.1.skipped i x y in (
              (zero_is p o _ (back R.previous i h) w).2,
              coord_in p is (back R.previous i h) (back_below p i h below) ∙ s.zeros (back R.previous i h) w,
            );
        stops = inr positive;
      }

      rises : (j : ℕ) → j < n → d (back R.previous j h) ≡ suc (c (back R.previous j h))
      rises = positive-run R s.tight tight_d step f.0 f.1 same_f n run

      ends : d b ≡ c b
      ends = positive-stop R s.tight tight_d step f.0 f.1 same_f n run

      grid_d : OnRing R d
      grid_d = up_grid R s.tight tight_d (has_zeros p is) zeros_d step n run.some rises ends (on_ring p is) positive

      moves : Moved R h b c d
      moves = moved R s.tight tight_d (has_zeros p is) zeros_d step n run.some rises ends (on_ring p is) grid_d

      next-is : stepped p.grid u h z ≡ point_of p d
      next-is = ext_get_or 0 (stepped p.grid u h z) (point_of p d)
          (length-stepped p u h z ∙ sym (point-on p.grid.sizes p.start d grid_d).size)
          (λ k l.
          let m : k < num_indices p.grid = omega (arith, length-stepped p u h z) in
          at-stepped p u h z k m
          ∙ (rw search.2 (omega (arith, changes_of moves k, coord_in p is k m, at-point p.grid.sizes p.start d k m))))

      next-coefficients : coefficient_of p (stepped p.grid u h z) ≡ d
      next-coefficients = ap (coefficient_of p) next-is ∙ coefficient_of_point ok grid_d zeros_d

      at_next : (k : ℕ) → coefficient_of p (stepped p.grid u h z) k ≡ d k
      at_next k = ap (λ (e : ℕ → ℕ). e k) next-coefficients

      stands-next : Stands (stepped p.grid u h z) r
      stands-next = record {
        on_grid = rw next-is (point-grid ok d grid_d);
        tight = subst (λ (e : ℕ → ℕ). Tight R T e) (sym next-coefficients) tight_d;
        small = λ k t. omega (arith, at_next k, lifted_le R (raise h c) tight-y raised-small free k);
        fresh = λ k m. at_next k
            ∙ step.unchanged k (part k (in_later on_numbers k h r m))
            (λ e. absurd_bool (sym (rw e at m) ∙ distinct-out eqb h r new))
            ∙ s.fresh k (in_later on_numbers k h r m);
        zeros = λ k m.
            let w = zero_is p o y k m in
            zero-stays p u h z k w.0 (s.zeros k m) (λ e. absurd_bool (sym own ∙ ap T (sym e) ∙ w.2));
      }

      step_next : Step T h c (coefficient_of p (stepped p.grid u h z))
      step_next = subst (λ (e : ℕ → ℕ). Step T h c e) (sym next-coefficients) step

    -- the points from z on, by position
    record Chained (z : Point) (r : List ℕ) : Type 0 where
      long : length (points_by p.grid u z r) ≡ suc (length r)
      on_grid : all (is_grid_point p.grid) (points_by p.grid u z r) ≡ true
      tight : (j : ℕ) → j ≤ length r → Tight R T (coefficient_of p (nth (points_by p.grid u z r) j))
      step : (j : ℕ) → j < length r
          → Step T (at r j) (coefficient_of p (nth (points_by p.grid u z r) j))
          (coefficient_of p (nth (points_by p.grid u z r) (suc j)))

    begins_with : (z : Point) (r : List ℕ) → nth (points_by p.grid u z r) 0 ≡ z
    begins_with z [] = refl
    begins_with z (h ∷ r) = refl

    chained : (z : Point) (r : List ℕ) → Stands z r → ((k : ℕ) → is_in eqb k r ≡ true → T k ≡ true)
        → all (λ h. ltb h (num_indices p.grid)) r ≡ true → distinct eqb r ≡ true → can_step p.grid u z r ≡ true
        → Chained z r
    chained z [] s part below new can = record {
      long = refl;
      on_grid = rw s.on_grid;
      tight = λ j l. let e : j ≡ 0 = omega arith in rw e s.tight;
      step = λ j l. absurd (omega arith);
    }
    chained z (h ∷ r) s part below new can =
        let m = num_indices p.grid in
        let hb = ltb-true h m (and_left (ltb h m) (all (λ h. ltb h m) r) below) in
        let rest = can_step p.grid u (stepped p.grid u h z) r in
        let give = ltb 0 (at z (first_back_outside p.grid u h)) in
        let g = ltb-true 0 _ (and_left give rest can) in
        let k = chained (stepped p.grid u h z) r (stands-next z h r s part hb new g)
        (λ k m. part k (in_later on_numbers k h r m))
        (and_right (ltb h m) (all (λ h. ltb h m) r) below) (distinct_tail eqb h r new) (and_right give rest can) in
        record {
          long = ap suc k.long;
          on_grid = and_both _ _ s.on_grid k.on_grid;
          tight = tight_at k;
          step = step_at_lem k (step_next z h r s part hb new g);
        }
      where
        tight_at : Chained (stepped p.grid u h z) r → (j : ℕ) → j ≤ length (h ∷ r)
            → Tight R T (coefficient_of p (nth (points_by p.grid u z (h ∷ r)) j))
        tight_at k zero l = s.tight
        tight_at k (suc j) l = k.tight j (omega arith)

        step_at_lem : Chained (stepped p.grid u h z) r
            → Step T h (coefficient_of p z) (coefficient_of p (stepped p.grid u h z)) → (j : ℕ) → j < length (h ∷ r)
            → Step T (at (h ∷ r) j) (coefficient_of p (nth (points_by p.grid u z (h ∷ r)) j))
            (coefficient_of p (nth (points_by p.grid u z (h ∷ r)) (suc j)))
        step_at_lem k e zero l = rw (begins_with (stepped p.grid u h z) r) e
        step_at_lem k e (suc j) l = k.step j (omega arith)

-- the conditions by name
pub record Conditions (p : Problem) (y : Point) (o : List ℕ) : Type 0 where
  pub on_grid : is_grid_point p.grid y ≡ true
  pub below : all (λ h. ltb h (num_indices p.grid)) o ≡ true
  pub different : distinct eqb o ≡ true
  pub free : every_block_free p.grid o (zero_outside p.grid o y) ≡ true
  pub zero : (k : ℕ) → k < num_indices p.grid → is_in eqb k o ≡ false → is_in eqb k (zero_outside p.grid o y) ≡ false
      → coefficient_of p y k ≡ 0
  pub can : can_step p.grid (zero_outside p.grid o y) y o ≡ true

pub conditions_of : (p : Problem) (y : Point) (o : List ℕ) → is_kept p y o ≡ true → Conditions p y o
unfolding is_kept
conditions_of p y o h =
    let g = p.grid in
    let u = zero_outside g o y in
    let a : Bool = is_grid_point g y in
    let b : Bool = all (λ h. ltb h (num_indices g)) o in
    let c : Bool = distinct eqb o in
    let d : Bool = every_block_free g o u in
    let q : ℕ → Bool = λ k. is_in eqb k o || is_in eqb k u || eqb (coefficient_of p y k) 0 in
    let e : Bool = all q (indices g) in
    let f : Bool = can_step g u y o in
    let h1 : (a && (b && c) && d && e) ≡ true = and_left (a && (b && c) && d && e) f h in
    let h2 : (a && (b && c) && d) ≡ true = and_left (a && (b && c) && d) e h1 in
    let h3 : (a && (b && c)) ≡ true = and_left (a && (b && c)) d h2 in
    record {
      on_grid = and_left a (b && c) h3;
      below = and_left b c (and_right a (b && c) h3);
      different = and_right b c (and_right a (b && c) h3);
      free = and_right (a && (b && c)) d h2;
      zero = λ k l n m. ⊎_elim
          (λ w. ⊎_elim
          (λ w. absurd_bool (sym w ∙ n))
          (λ w. absurd_bool (sym w ∙ m))
          (or_cases (is_in eqb k o) (is_in eqb k u) w))
          (λ w. eqb-true _ _ w)
          (or_cases (is_in eqb k o || is_in eqb k u) (eqb (coefficient_of p y k) 0)
          (all_in on_numbers q (indices g) (and_right (a && (b && c) && d) e h1) k ((index_means g k).1 l)));
      can = and_right (a && (b && c) && d && e) f h;
    }

module _ {p : Problem} (ok : HasStart p) (y : Point) (o : List ℕ) (k : Conditions p y o) where
  is_y : IsCoefficients p y (coefficients p y)
  is_y = coefficient_of_is ok y k.on_grid

  order_below : (h : ℕ) → is_in eqb h o ≡ true → h < num_indices p.grid
  order_below h m = ltb-true h _ (all_in on_numbers (λ h. ltb h (num_indices p.grid)) o k.below h m)

  -- an index in neither T nor U has a positive coordinate at the first point
  open_y : (f : ℕ) → is_in eqb f o ≡ false → is_in eqb f (zero_outside p.grid o y) ≡ false
      → (coefficient_of p y f ≡ 0) × (coefficient_of p y ((blocks_of p).next f) < (blocks_of p).start f)
  open_y f n m =
      ⊎_elim
      (λ (l : f < num_indices p.grid). let z = k.zero f l n m in
      let q : (at y f ≡ 0 → ⊥) = λ e. absurd_bool (sym (is_zero p o y f l e n) ∙ m) in
      (z, omega (arith, q, coord_in p is_y f l)))
      (λ (l : num_indices p.grid ≤ f). let z = beyond p is_y f l in
      (z, omega (arith, ap (coefficient_of p y) (next-outside p f l), start_outside p f l)))
      (before_or_not f (num_indices p.grid))

  tight_first : Tight (blocks_of p) (λ h. is_in eqb h o) (coefficient_of p y)
  tight_first h t =
      ⊎_elim (λ u. let w = zero_is p o y h u in omega (arith, w.1, coord_in p is_y h w.0, on_ring p is_y h))
      (λ u. let w = open_y h t u in omega (arith, w.0, w.1)) (true_or_false (is_in eqb h (zero_outside p.grid o y)))

  free-first : Free (blocks_of p) (λ h. is_in eqb h o) (coefficient_of p y)
  free-first h =
      let f = free-index p o (zero_outside p.grid o y) k.free order_below (λ i m. (zero_is p o y i m).0) h in
      (f.0, f.1, f.2, (open_y f.0 f.2 f.3).1)

  abbrev points : Simplex
  points = kept_points p.grid y o

  stands_y : Stands ok y o k.on_grid tight_first free-first y o
  stands_y = record {
    on_grid = k.on_grid;
    tight = tight_first;
    small = λ h t. omega arith;
    fresh = λ h m. refl;
    zeros = λ h m. (zero_is p o y h m).1;
  }

  K : Chained ok y o k.on_grid tight_first free-first y o
  K = chained ok y o k.on_grid tight_first free-first y o stands_y (λ h m. m) k.below k.different k.can

  chain : Chain (blocks_of p) (λ h. is_in eqb h o) (length o) (list_at (coefficients_of p points)) (at o)
  chain = chain_ext (λ j l. sym (list_at-map (coefficient_of p) points j (omega (arith, K.long)))) (record {
    tight = K.tight;
    grid = λ j l. on_ring p (is_at ok points K.on_grid j (omega (arith, K.long)));
    has_zeros = λ j l. has_zeros p (is_at ok points K.on_grid j (omega (arith, K.long)));
    step = K.step;
    order = record {
      within = λ j l. at_in on_numbers 0 o j l;
      once = λ i j l m e. same_at on_numbers 0 o k.different i j l m e;
      all = λ h m. in_at on_numbers 0 h o m;
    };
    free = rw (begins_with ok y o k.on_grid tight_first free-first y o) free-first;
  })

  pub points_on : all (is_grid_point p.grid) points ≡ true
  points_on = K.on_grid

  pub points-long : length points ≡ suc (length o)
  points-long = K.long

  pub distinct-points : distinct same_point points ≡ true
  distinct-points = at-distinct on_points [] points
      (λ i j l m e. ⊎_elim
      (λ b. absurd (apart i j b m e))
      (λ b. ⊎_elim (λ c. absurd (apart j i c l (sym e))) (λ c. omega arith) (before_or_not j i))
      (before_or_not i j))
    where
      apart : (i j : ℕ) → i < j → j < length points → nth points i ≡ nth points j → ⊥
      apart i j l m e = (rising-chain chain).new i j l (omega (arith, K.long))
          (list_at-map (coefficient_of p) points i (omega arith)
          ∙ ap (coefficient_of p) e
          ∙ sym (list_at-map (coefficient_of p) points j m))

  pub kept-place : within o (label_set p points) ≡ true → is_place p points ≡ true
  kept-place w =
      let S : LabelledChain (blocks_of p) (label_of p) (λ h. is_in eqb h o) (length o) (at o) (coefficients_of p points) =
      record {
        size = length-map points (coefficient_of p) ∙ K.long;
        chain = chain;
        covers = λ h m.
            let i = labels_in ok points K.on_grid h (all_in on_numbers (λ h. is_in eqb h (label_set p points)) o w h m) in
            (i.0, omega (arith, i.1, K.long), i.2);
      } in
      rw (points_of_coefficients_of ok points K.on_grid) at (place_of ok S)
