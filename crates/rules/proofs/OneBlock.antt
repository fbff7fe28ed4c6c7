-- A grid of one block: the indices met going back, the sum of a point's coordinates from an index on by its
-- coefficients, and a point's position beside that of the first point. Assumes nothing.
use mathlib.Core.Bool.{Bool, true, cond}
use mathlib.Core.List.{List, map}
use mathlib.Core.Logic.{⊎_elim}
use mathlib.Core.Path.{◌≡◌, refl, sym, ap, ◌∙◌, subst}
use Prim.Native.Nat.{ℕ, zero, suc, ◌+◌, ◌-◌, ◌≤◌, ◌<◌}
use borrow.Author.Tests.{lt-ltb, le-ltb}
use lib.Dec.{ltb}
use lib.Seq.{get_or-take}
use native.Mathlib.Omega.{arith}
use Rattle.combinatorics.proofs.Basics.{absurd_bool, before_or_not}
use Rattle.combinatorics.specs.Lists.{sum, up_from}
use Rattle.geometry.proofs.Bridge.{chain-place}
use Rattle.geometry.proofs.Chains.{rise, one_more_at_most, before_raise, free-zero}
use Rattle.geometry.proofs.Definitions.{Grid as OnRing, back, coord, zeros, BackOutside, OnRun}
use Rattle.geometry.proofs.LabelledChains.{list_at}
use Rattle.geometry.proofs.Moves.{next_else}
use Rattle.grid_points.proofs.Round.{next-at, next-round}
use Rattle.grid_points.specs.Grid.{Point, at, num_blocks, num_indices, num_points, first_index, is_grid_point, position}
use Rattle.place.specs.Problem.{Problem}
use Rattle.path_laws.proofs.Accepted.{accepted-grid}
use Rattle.path_laws.proofs.BlocksOfGrid.{blocks_of, next_agrees, start-inside}
use Rattle.path_laws.specs.Demand.{HasStart}
use Rattle.path_laws.proofs.Filled.{FullyLabelled}
use Rattle.positions.proofs.ByTails.{all-indices, position-tells, tails_order}
use Rattle.positions.specs.Falls.{tail_from, Falls}
use Rattle.rules.proofs.Describes.{Describes}
use Rattle.rules.proofs.Range.{few, point-on}
use Rattle.rules.proofs.StatePoints.{after_is, moved_on, order_below, point-is}
use Rattle.rules.proofs.WaysRound.{in_block, source-from}
use Rattle.rules.specs.Read.{point_in, step_at, source_at, Falling}
use Rattle.rules.specs.Moves.{State, source_in}

module _ (p : Problem) (ok : HasStart p) (few_points : num_points p.grid ≤ 60000) (one : num_blocks p.grid ≡ 1) where
  next_up : (k : ℕ) → suc k < num_indices p.grid → (blocks_of p).next k ≡ suc k
  next_up k l =
      let z : first_index p.grid 0 + k ≡ k = omega arith in
      next_agrees p k (omega arith)
      ∙ (rw z at (next-at p.grid 0 k (omega (arith, all-indices p.grid (accepted-grid ok few_points) one))))
      ∙ omega arith

  next-first : (k : ℕ) → suc k ≡ num_indices p.grid → (blocks_of p).next k ≡ 0
  next-first k l =
      let z : first_index p.grid 0 + k ≡ k = omega arith in
      next_agrees p k (omega arith)
      ∙ (rw z at (next-round p.grid 0 k (omega (arith, all-indices p.grid (accepted-grid ok few_points) one))))
      ∙ omega arith

  back_down : (n h : ℕ) → n ≤ h → h < num_indices p.grid → back (blocks_of p).previous n h ≡ h - n
  back_down zero h l m = omega arith
  back_down (suc n) h l m =
      let e : suc (h - suc n) ≡ h - n = omega arith in
      ap (blocks_of p).previous (back_down n h (omega arith) m ∙ sym e ∙ sym (next_up (h - suc n) (omega arith)))
      ∙ (blocks_of p).previous-next (h - suc n)

  -- a step that takes from an index before its own does not go round: it passes over the indices between, which are
  -- in U
  module _ {U : ℕ → Bool} {h n : ℕ} (low : h < num_indices p.grid) (B : BackOutside (blocks_of p) U h n)
      (before : back (blocks_of p).previous n h < h) where
    abbrev b : ℕ
    b = back (blocks_of p).previous n h

    met : (k : ℕ) → k ≤ h → back (blocks_of p).previous (h - k) h ≡ k
    met k l = back_down (h - k) h (omega arith) low ∙ omega arith

    run_short : n ≤ h - b
    run_short = ⊎_elim
        (λ (q : h - b < n).
        absurd_bool (sym (B.skipped (h - b) (omega arith) q) ∙ ap U (met b (omega arith)) ∙ B.stops))
        (λ q. q)
        (before_or_not (h - b) n)

    passed_over : (k : ℕ) → b < k → k < h → U k ≡ true
    passed_over k l m = sym (ap U (met k (omega arith)))
        ∙ B.skipped (h - k) (omega arith) (omega (arith, back_down n h (omega (arith, run_short)) low))

    first-kept : OnRun (blocks_of p) h n 0 → ⊥
    first-kept r = omega (arith, r.1, r.2, back_down r.0 h (omega (arith, r.1, run_short)) low, run_short)

  -- the coordinates from an index on add up to what those of the start do, but for two coefficients
  tail_by_lem : (y : Point) (c : ℕ → ℕ) → OnRing (blocks_of p) c
      → ((k : ℕ) → k < num_indices p.grid → at y k ≡ coord (blocks_of p) c k) → (n i : ℕ) → i + suc n ≡ num_indices p.grid
      → sum (map (at y) (up_from i (suc n))) + c 0 ≡ sum (map (at p.start) (up_from i (suc n))) + c i
  tail_by_lem y c grid are zero i e =
      omega (arith, grid i, are i (omega arith), start-inside p i (omega arith), ap c (next-first i (omega arith)))
  tail_by_lem y c grid are (suc n) i e = omega (
    arith,
    grid i,
    are i (omega arith),
    start-inside p i (omega arith),
    ap c (next_up i (omega arith)),
    tail_by_lem y c grid are n (suc i) (omega arith),
  )

  tail-is : (y : Point) (c : ℕ → ℕ) → OnRing (blocks_of p) c
      → ((k : ℕ) → k < num_indices p.grid → at y k ≡ coord (blocks_of p) c k) → (k : ℕ) → k < num_indices p.grid
      → tail_from p.grid y k + c 0 ≡ tail_from p.grid p.start k + c k
  tail-is y c grid are k l =
      let e : suc (num_indices p.grid - suc k) ≡ num_indices p.grid - k = omega arith in
      subst
      (λ (n : ℕ). sum (map (at y) (up_from k n)) + c 0 ≡ sum (map (at p.start) (up_from k n)) + c k)
      e (tail_by_lem y c grid are (num_indices p.grid - suc k) k (omega arith))

module _ {p : Problem} (ok : FullyLabelled p) (few_points : num_points p.grid ≤ 60000) (one : num_blocks p.grid ≡ 1)
    {T : ℕ → Bool} {t : ℕ} {o : ℕ → ℕ} {x : List (ℕ → ℕ)} {s : State} (D : Describes p T t o x s) where
  on-grid : (i : ℕ) → i ≤ t → is_grid_point p.grid (point_in p s i) ≡ true
  on-grid i l = rw (point-is ok D i l) (point-on ok D.chain i l)

  coordinate_is : (i : ℕ) → i ≤ t → (k : ℕ) → k < num_indices p.grid
      → at (point_in p s i) k ≡ coord (blocks_of p) (list_at x i) k
  coordinate_is i l k m = get_or-take (num_indices p.grid) _ k 0 m ∙ (after_is ok D i l).1 k m

  tail_at : (i : ℕ) → i ≤ t → (k : ℕ) → k < num_indices p.grid
      → tail_from p.grid (point_in p s i) k + list_at x i 0 ≡ tail_from p.grid p.start k + list_at x i k
  tail_at i l k m =
      tail-is p ok.has_start few_points one (point_in p s i) (list_at x i) (D.chain.chain.grid i l) (coordinate_is i l)
      k m

  -- the first index's coefficient is 1 more than at the first point where the position is above the first's, and the
  -- same elsewhere
  pub lag_is : (i : ℕ) → i ≤ t
      → list_at x i 0 ≡ list_at x 0 0 + cond (ltb (position p.grid (point_in p s 0)) (position p.grid (point_in p s i))) 1 0
  lag_is i l =
      let K = D.chain.chain in
      let up = rise K 0 i (omega arith) l in
      let most = one_more_at_most K i l in
      ⊎_elim
      (λ (q : list_at x 0 0 < list_at x i 0).
      let low = tails_order p.grid (accepted-grid ok.has_start few_points) one (point_in p s i) (point_in p s 0)
      (on-grid i l) (on-grid 0 (omega arith))
      (λ k m. omega (arith, tail_at i l k m, tail_at 0 (omega arith) k m, most k, most 0)) in
      rw (lt-ltb (position p.grid (point_in p s 0)) (position p.grid (point_in p s i)) (omega (arith, low, apart q)))
      (omega (arith, most 0)))
      (λ (q : list_at x i 0 ≤ list_at x 0 0).
      let low = tails_order p.grid (accepted-grid ok.has_start few_points) one (point_in p s 0) (point_in p s i)
      (on-grid 0 (omega arith)) (on-grid i l)
      (λ k m. omega (arith, tail_at i l k m, tail_at 0 (omega arith) k m, up k, up 0)) in
      rw (le-ltb (position p.grid (point_in p s 0)) (position p.grid (point_in p s i)) low) (omega (arith, up 0)))
      (before_or_not (list_at x 0 0) (list_at x i 0))
    where
      apart : list_at x 0 0 < list_at x i 0 → position p.grid (point_in p s 0) ≡ position p.grid (point_in p s i) → ⊥
      apart q e =
          let K = D.chain.chain in
          let f = K.free 0 in
          let low : f.0 < num_indices p.grid = in_block ok D.round 0 f.0 (omega (arith, few ok D.chain)) f.1 in
          let same = position-tells p.grid (accepted-grid ok.has_start few_points) (point_in p s 0) (point_in p s i)
          (on-grid 0 (omega arith)) (on-grid i l) e in
          omega (
            arith,
            tail_at i l f.0 low,
            tail_at 0 (omega arith) f.0 low,
            ap (λ y. tail_from p.grid y f.0) same,
            free-zero K f.0 f.2 f.3 i l,
            free-zero K f.0 f.2 f.3 0 (omega arith),
          )

  module _ (j : ℕ) (l : j < t) (before : source_at s j < step_at s j) where
    order-at : at s.order j ≡ o j
    order-at = D.order_at j l

    low : o j < num_indices p.grid
    low = order_below ok D j l

    -- how far back the index is that the step takes from
    source : (n : ℕ) × (n ≤ 16) × BackOutside (blocks_of p) (zeros (blocks_of p) T (list_at x 0)) (o j) n
        × (source_in s (o j) ≡ back (blocks_of p).previous n (o j))
    source = source-from ok D (o j) low

    not_round : back (blocks_of p).previous source.0 (o j) < o j
    not_round = omega (arith, source.3, ap (source_in s) order-at, order-at)

    -- the first index keeps its coefficient
    pub first-same : list_at x (suc j) 0 ≡ list_at x j 0
    first-same = ⊎_elim
        (λ e. e)
        (λ r. absurd (first-kept p ok.has_start few_points one low source.2 not_round r))
        (next_else D.chain.chain j l source.2 0)

    falls_at : Falls p.grid (point_in p s j) (point_in p s (suc j)) (step_at s j) (source_at s j)
        (tail_from p.grid (point_in p s j) (at s.order j))
    falls_at = record {
      one = one;
      here = on-grid j (omega arith);
      there = on-grid (suc j) l;
      moved = moved_on ok D j l;
      low = rw order-at low;
      before = before;
      between = λ k u w. coordinate_is j (omega arith) k (omega (arith, low, order-at))
          ∙ (chain-place D.chain.chain).unused k
          (passed_over p ok.has_start few_points one low source.2 not_round k
          (omega (arith, source.3, ap (source_in s) order-at)) (omega (arith, order-at)))
          j (omega arith);
      tail = refl;
    }

    pub falling : (tails : List ℕ) → ((k : ℕ) → k < num_indices p.grid → at tails k ≡ tail_from p.grid p.start k)
        → (lag : ℕ) → list_at x j 0 ≡ list_at x 0 0 + lag
        → Falling p.grid tails s j lag
    falling tails are lag e = record {
      falls = falls_at;
      tail =
          rw order-at (omega (
            arith,
            e,
            are (o j) low,
            tail_at j (omega arith) (o j) low,
            before_raise D.chain.chain j j l (omega arith),
            D.coefficients_at 0 (omega (arith, low)),
            D.coefficients_at (o j) low,
          ));
    }
