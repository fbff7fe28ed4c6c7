-- Points whose coefficients, with one of them as the start, are 0s and 1s, any two lists nested, lie in one simplex. In
-- order: sums of a set; one index more steps to the next point; sets grown index by index through all the points' sets
-- up to all indices but one of each block; the simplex. Assumes nothing.
use mathlib.Core.Bool.{true, false, not}
use mathlib.Core.List.{List, [], ◌∷◌}
use mathlib.Core.Logic.{◌⊎◌, inl, inr, ⊎_elim, ◌↔◌}
use mathlib.Core.Path.{◌≡◌, refl, sym, ap, subst, ◌∙◌, fun_ext}
use Prim.Native.Nat.{ℕ, zero, suc, ◌+◌, ◌-◌, ◌≤◌, ◌<◌}
use borrow.Author.Tests.{eq-eqb, ne_eqb}
use lib.Dec.{eqb}
use lib.ListN.{length}
use native.Mathlib.Omega.{arith}
use Rattle.combinatorics.proofs.Basics.{absurd_bool, true_or_false, before_or_not, same_or, and_both, false_of}
use Rattle.combinatorics.proofs.Lists.{in_all, in_first, in_here, in_later, in_cases, filter_cong, on_numbers}
use Rattle.combinatorics.proofs.Ranges.{in_up_from, up_from_in, distinct-up_from}
use Rattle.combinatorics.specs.Lists.{filter, all, is_in, distinct, occurrences}
use Rattle.geometry.proofs.Definitions.{Blocks, Grid as OnRing, raise}
use Rattle.geometry.proofs.Points.{nth, at-point}
use Rattle.geometry.proofs.Search.{raise_at, raise_elsewhere}
use Rattle.geometry.proofs.Sizes.{upto}
use Rattle.grid_points.proofs.Accepted.{InLimits, size-from-two}
use Rattle.grid_points.proofs.Points.{on_points}
use Rattle.grid_points.specs.Grid.{Grid, Point, at, num_blocks, num_indices, first_index, size, blocks, indices, indices_of}
use Rattle.grid_points.specs.Grid.{previous}
use Rattle.grid_points.specs.Grid.{is_grid_point, same_point}
use Rattle.place.specs.Places.{goes_to, unit}
use Rattle.path_laws.proofs.BlocksOfGrid.{blocks_of, point_of, next_agrees, block-own, block_agrees, block_inside}
use Rattle.path_laws.proofs.BlocksOfGrid.{on_ring}
use Rattle.path_laws.proofs.BlocksOfGrid.{has_zeros, point-grid}
use Rattle.path_laws.proofs.BlocksOfGrid.{point_coefficient_of}
use Rattle.path_laws.proofs.Meaning.{index_means}
use Rattle.path_laws.proofs.Positions.{in_at, occurs_once}
use Rattle.path_laws.proofs.Start.{start-place}
use Rattle.path_laws.proofs.ToChain.{place-chain}
use Rattle.path_laws.specs.Demand.{HasStart}
use Rattle.check_simplices.proofs.Along.{around}
use Rattle.check_simplices.proofs.Closed.{Closed, Whole, whole_of, More, more_of, raise_above}
use Rattle.check_simplices.proofs.Smallest.{Sets, largest, zero-from, more_or, Smallest, smallest}
use Rattle.check_simplices.proofs.Tests.{Below, Nested, set_at, has-start, index_at, on-at, is-list}
use Rattle.check_simplices.specs.Chains.{starting_at}
use Rattle.check_simplices.specs.Simplices.{is_step, is_order, each_stepped, is_simplex, InOneSimplex}

-- sums of a set
upto_le : {c d : ℕ → ℕ} → Below c d → (m : ℕ) → upto c m ≤ upto d m
upto_le b zero = omega arith
upto_le b (suc m) = omega (arith, upto_le b m, b m)

upto_lt : {c d : ℕ → ℕ} → Below c d → (m k : ℕ) → k < m → c k < d k → upto c m < upto d m
upto_lt b zero k l x = absurd (omega arith)
upto_lt b (suc m) k l x =
    ⊎_elim (λ (y : k < m). omega (arith, upto_lt b m k y x, b m))
    (λ (y : m ≤ k). let e : k ≡ m = omega arith in omega (arith, upto_le b m, rw e at x))
    (before_or_not k m)

raise_unit : (h : ℕ) (a : ℕ → ℕ) (k : ℕ) → raise h a k ≡ a k + unit h k
unfolding raise
raise_unit h a k = ⊎_elim (λ t. rw t (omega arith)) (λ f. rw f (omega arith)) (true_or_false (eqb k h))

count-one : (x : ℕ) (xs : List ℕ) → length (filter (λ k. eqb x k) xs) ≡ occurrences x xs
count-one x [] = refl
count-one x (y ∷ xs) =
    ⊎_elim (λ t. rw t (ap suc (count-one x xs))) (λ f. rw f (count-one x xs)) (true_or_false (eqb x y))

module _ {g : Grid} (A : InLimits g) (p : Point) (hp : is_grid_point g p ≡ true) where
  abbrev R : Blocks
  R = blocks_of (starting_at g p)

  abbrev point_at : (ℕ → ℕ) → Point
  point_at = point_of (starting_at g p)

  ok : HasStart (starting_at g p)
  ok = has-start g A p hp

  -- one index more steps to the next point
  one_step : (h : ℕ) (c : ℕ → ℕ) → h < num_indices g → OnRing R c → OnRing R (raise h c)
      → is_step g h (point_at c) (point_at (raise h c)) ≡ true
  unfolding goes_to
  one_step h c l a b =
      index_at g (λ k. eqb (at (point_at (raise h c)) k + unit (previous g h) k) (at (point_at c) k + unit h k)) (λ k x.
      eq-eqb (at (point_at (raise h c)) k + unit (previous g h) k) (at (point_at c) k + unit h k) (omega (
        arith,
        at-point g.sizes p c k x,
        at-point g.sizes p (raise h c) k x,
        a k,
        b k,
        raise_unit h c k,
        raise_unit h c (R.next k),
        ap (unit h) (next_agrees (starting_at g p) k x),
        around g h k l x,
      )))

  own : (k f : ℕ) → num_indices g ≤ k → R.block k ≡ R.block f → k ≡ f
  own k f l e = block-own (starting_at g p) k f l e

  -- from the set c on
  record Grown (n : ℕ) (q : ℕ → ℕ → ℕ) (w c : ℕ → ℕ) : Type 0 where
    order : List ℕ
    rest : List Point
    steps : each_stepped g order (point_at c ∷ rest) ≡ true
    on_grid : all (is_grid_point g) (point_at c ∷ rest) ≡ true
    once : distinct eqb order ≡ true
    members : (k : ℕ) → (is_in eqb k order ≡ true) ↔ (c k < w k)
    has : (i : ℕ) → i < n → Below c (q i) → is_in same_point (point_at (q i)) (point_at c ∷ rest) ≡ true

  module _ {n : ℕ} {q : ℕ → ℕ → ℕ} (S : Sets R n q) {w : ℕ → ℕ} (W : Closed R w) (ones : Below w (λ k. 1))
      (above : (i : ℕ) → i < n → Below (q i) w) where
    -- with so many indices to go
    abbrev From : ℕ → Type 0
    From fuel = (c : ℕ → ℕ) → Closed R c → Below c w → ((i : ℕ) → i < n → Below (q i) c ⊎ Below c (q i))
        → upto w (num_indices g) ≤ upto c (num_indices g) + fuel → Grown n q w c

    done : (c : ℕ → ℕ) → Closed R c → Below w c → Grown n q w c
    done c C b = record {
      order = [];
      rest = [];
      steps = refl;
      on_grid = and_both _ _ (point-grid ok c C.grid) refl;
      once = refl;
      members = λ k. ((λ m. absurd_bool (sym m)), (λ l. absurd (omega (arith, b k))));
      has = λ i l d.
          let e : q i ≡ c = fun_ext (λ k. omega (arith, d k, b k, above i l k)) in
          rw e (in_here on_points (point_at c) []);
    }

    module _ (fuel : ℕ) (go_on : From fuel) (c : ℕ → ℕ) (C : Closed R c) (B : Smallest R n q c w n)
        (enough : upto w (num_indices g) ≤ upto c (num_indices g) + suc fuel) where
      more : More R c B.set
      more = more_of R C.grid B.closed B.ones B.new.0 B.new.1

      abbrev h : ℕ
      h = more.index

      abbrev d : ℕ → ℕ
      d = raise h c

      small : Below d B.set
      small k =
          ⊎_elim (λ (e : k ≡ h). omega (arith, ap d e, raise_at h c, more.old, more.new, ap B.set e))
          (λ n. omega (arith, raise_elsewhere h c k n, B.above k)) (same_or k h)

      inside : h < num_indices g
      inside = ⊎_elim
          (λ l. l)
          (λ (l : num_indices g ≤ h). absurd (omega (arith, zero-from R (num_indices g) own B.closed h l, more.new)))
          (before_or_not h (num_indices g))

      later : Grown n q w d
      later = go_on d
          (record {
            grid = more.closed;
            zeros = λ a. let z = B.closed.zeros a in (z.0, z.1, omega (arith, small z.0, z.2));
          })
          (λ k. omega (arith, small k, B.within k))
          (λ i l. ⊎_elim
          (λ b. inl (λ k. omega (arith, raise_above h c k, b k)))
          (λ b. inr (λ k. omega (arith, small k, b k)))
          (B.splits i l))
          (omega (arith, upto_lt (raise_above h c) (num_indices g) h inside (omega (arith, raise_at h c))))

      step : Grown n q w c
      step =
          let out : is_in eqb h later.order ≡ false =
          false_of _ (λ x. absurd (omega (arith, (later.members h).0 x, raise_at h c, ones h))) in
          record {
            order = h ∷ later.order;
            rest = point_at d ∷ later.rest;
            steps = and_both _ _ (one_step h c inside C.grid more.closed) later.steps;
            on_grid = and_both _ _ (point-grid ok c C.grid) later.on_grid;
            once = rw out later.once;
            members = λ k. (
              (λ x. ⊎_elim
                  (λ (e : k ≡ h). omega (arith, ap c e, ap w e, more.old, more.new, B.within h))
                  (λ y. omega (arith, (later.members k).0 y, raise_above h c k))
                  (in_cases on_numbers k h later.order x)),
              (λ x. ⊎_elim
                  (λ (e : k ≡ h). in_first on_numbers _ h later.order e)
                  (λ y.
                  in_later on_numbers k h later.order ((later.members k).1 (omega (arith, raise_elsewhere h c k y))))
                  (same_or k h)),
            );
            has = λ i l b. ⊎_elim
                (λ a.
                let e : q i ≡ c = fun_ext (λ k. omega (arith, a k, b k)) in
                in_first on_points _ (point_at c) (point_at d ∷ later.rest) (ap point_at e))
                (λ a. in_later on_points (point_at (q i)) (point_at c) (point_at d ∷ later.rest)
                (later.has i l (λ k. omega (arith, small k, a k))))
                (B.splits i l);
          }

    grow : (fuel : ℕ) → From fuel
    grow zero c C in_w splits enough = ⊎_elim
        (λ k. absurd (omega (arith, upto_lt in_w (num_indices g) k.0 k.1 k.2)))
        (done c C) (more_or R (num_indices g) own c W)
    grow (suc fuel) c C in_w splits enough = ⊎_elim
        (λ k. step fuel (grow fuel) c C
        (smallest R (num_indices g) own S W ones above in_w splits k.0 k.2 n (omega arith)) enough)
        (done c C) (more_or R (num_indices g) own c W)

  -- the simplex
  positive : (h : ℕ) → (k : ℕ) × (R.block k ≡ R.block h) × (0 < R.start k)
  positive h = let f = (place-chain ok (p ∷ []) (start-place ok)).free h in (f.0, f.1, omega (arith, f.3))

  -- the indices where a set is not 0, one of each block left out, are an order
  order_of : {c : ℕ → ℕ} (W : Whole R c) (o : List ℕ) → distinct eqb o ≡ true
      → ((k : ℕ) → (is_in eqb k o ≡ true) ↔ (0 < W.set k)) → is_order g o ≡ true
  unfolding is_order
  order_of W o once members = and_both _ _
      (and_both _ _ (in_all on_numbers (λ h. is_in eqb h (indices g)) o (λ h x. (index_means g h).1 (inside h x))) once)
      (in_all on_numbers
      (λ j. eqb (length (filter (λ h. not (is_in eqb h o)) (indices_of g j))) 1)
      (blocks g)
      (λ j x. one j (omega (arith, (up_from_in 0 (num_blocks g) j x).1))))
    where
      inside : (h : ℕ) → is_in eqb h o ≡ true → h < num_indices g
      inside h x = ⊎_elim
          (λ l. l)
          (λ (l : num_indices g ≤ h).
          absurd (omega (arith, zero-from R (num_indices g) own W.closed h l, (members h).0 x)))
          (before_or_not h (num_indices g))

      one : (j : ℕ) → j < num_blocks g → eqb (length (filter (λ h. not (is_in eqb h o)) (indices_of g j))) 1 ≡ true
      one j l =
          let some : 0 < size g j = omega (arith, size-from-two g A j l) in
          let h = first_index g j + 0 in
          let bh : R.block h ≡ j = block_agrees (starting_at g p) j 0 some in
          let e = W.left h in
          let r = block_inside (starting_at g p) j e.0 l some (e.1 ∙ bh) in
          let here : is_in eqb e.0 (indices_of g j) ≡ true = in_up_from (first_index g j) (size g j) e.0 r.0 r.1 in
          let same : filter (λ k. not (is_in eqb k o)) (indices_of g j) ≡ filter (λ k. eqb e.0 k) (indices_of g j) =
          filter_cong on_numbers (indices_of g j) (λ k x.
          let s = up_from_in (first_index g j) (size g j) k x in
          let is : first_index g j + (k - first_index g j) ≡ k = omega (arith, s.0) in
          let bk : R.block k ≡ j =
          rw is at (block_agrees (starting_at g p) j (k - first_index g j) (omega (arith, s.1))) in
          ⊎_elim
          (λ (i : is_in eqb k o ≡ true). rw (i, ne_eqb e.0 k (λ q. omega (arith, (members k).0 i, ap W.set q, e.2))))
          (λ (i : is_in eqb k o ≡ false).
          let z : W.set k ≡ 0 = ⊎_elim
          (λ (y : 0 < W.set k). absurd_bool (sym ((members k).1 y) ∙ i))
          (λ y. omega arith)
          (before_or_not 0 (W.set k)) in
          rw (i, eq-eqb e.0 k (sym (e.3 k (bk ∙ sym bh) z))))
          (true_or_false (is_in eqb k o))) in
          eq-eqb _ 1
          (ap length same
          ∙ count-one e.0 (indices_of g j)
          ∙ occurs_once e.0 (indices_of g j) (distinct-up_from (first_index g j) (size g j)) here)

  module _ (zs : List Point) (on : all (is_grid_point g) zs ≡ true) (some : 0 < length zs) (N : Nested g zs p) where
    sets : Sets R (length zs) (set_at g zs p)
    sets = record {
      closed = λ i l.
          let c = is-list A zs on p hp i l in
          record { grid = on_ring (starting_at g p) c; zeros = has_zeros (starting_at g p) c };
      ones = N.ones;
      pairs = N.pairs;
    }

    big : (i : ℕ) × (i < length zs) × ((j : ℕ) → j ≤ length zs - 1 → Below (set_at g zs p j) (set_at g zs p i))
    big = largest sets (length zs - 1) (omega arith)

    whole : Whole R (set_at g zs p big.0)
    whole = whole_of R positive (sets.closed big.0 big.1) (N.ones big.0 big.1)

    grown : Grown (length zs) (set_at g zs p) whole.set (λ k. 0)
    grown = grow sets whole.closed whole.ones
        (λ i l k. omega (arith, big.2 i (omega arith) k, whole.above k))
        (upto whole.set (num_indices g))
        (λ k. 0)
        (record { grid = λ k. omega arith; zeros = λ h. (h, refl, refl) })
        (λ k. omega arith)
        (λ i l. inr (λ k. omega arith))
        (omega arith)

    points : List Point
    points = point_at (λ k. 0) ∷ grown.rest

    is-simplex : is_simplex g grown.order points ≡ true
    unfolding is_simplex points
    is-simplex =
        and_both _ _ (and_both _ _ (order_of whole grown.order grown.once grown.members) grown.steps) grown.on_grid

    has_all : (z : Point) → is_in same_point z zs ≡ true → is_in same_point z points ≡ true
    unfolding points
    has_all z x =
        let i = in_at on_points [] z zs x in
        let e : point_at (set_at g zs p i.0) ≡ z =
        point_coefficient_of ok (nth zs i.0) (on-at A zs on p hp i.0 i.1) ∙ i.2 in
        subst (λ (y : Point). is_in same_point y points ≡ true) e (grown.has i.0 i.1 (λ k. omega arith))

    pub in_simplex : InOneSimplex g zs
    in_simplex = record {
      order = grown.order;
      points = points;
      simplex = is-simplex;
      has = in_all on_points (λ z. is_in same_point z points) zs has_all;
    }
