-- The points of a first point and an order by counts of steps, from 16 on. In order: a point with counts; a step keeps
-- to the grid; one point after another. Assumes nothing.
use mathlib.Core.Bool.{true, false, ◌&&◌}
use mathlib.Core.List.{List, [], ◌∷◌, map}
use mathlib.Core.Logic.{◌⊎◌, ⊎_elim, inl, inr}
use mathlib.Core.Path.{◌≡◌, refl, sym, ap, ◌∙◌}
use Prim.Native.Nat.{ℕ, zero, suc, ◌+◌, ◌-◌, ◌≤◌, ◌<◌}
use borrow.Author.Tests.{eq-eqb, ne_eqb, eqb-true, le-ltb, lt-ltb}
use lib.Dec.{eqb, ltb}
use lib.ListN.{length, take, drop, get_or, set, replicate, length-map, length-set, length-take, get_or-replicate}
use lib.Seq.{drop-cons, ext_get_or, get_or-take, get_or-set_same, get_or-set_other}
use native.Mathlib.Numerals.{add-one}
use native.Mathlib.Omega.{arith}
use Rattle.combinatorics.proofs.Basics.{absurd_bool, and_both, and_right, before_or_not, same_or}
use Rattle.combinatorics.proofs.Lists.{all_in, in_all, on_numbers}
use Rattle.combinatorics.proofs.Ranges.{length-up_from, up_from_in}
use Rattle.combinatorics.proofs.Turns.{map_at}
use Rattle.combinatorics.specs.Lists.{all, is_in, sum, up_from}
use Rattle.grid.proofs.Fields.{made-accepted, made-indices}
use Rattle.grid_points.proofs.Points.{in_points, position_in_lem}
use Rattle.grid_points.proofs.Round.{block_at, block-fits, block_spans}
use Rattle.grid_points.specs.Grid.{Grid, Point, MovedBy, at, block_of, blocks, division, first_index, indices_of}
use Rattle.grid_points.specs.Grid.{is_grid_point}
use Rattle.grid_points.specs.Grid.{num_blocks, num_indices, num_points, points as grid_points, position, size}
use Rattle.grid.specs.Made.{IsMade, shape}
use Rattle.grid.specs.declared.Grid.{Grid as GridStruct}
use Rattle.arrays.specs.declared.holding.Held.{Held}
use Rattle.place.specs.Places.{Simplex, first_back_outside}
use Rattle.positions.proofs.ByTails.{hits, hits_in, hits_out, tail-moved}
use Rattle.positions.specs.Steps.{after_steps}
use Rattle.geometry.proofs.Definitions.{one_at}
use Rattle.rules.proofs.Shifted.{at_most_one, length-shifted, shifted_at}
use Rattle.rules.specs.Moves.{shifted}
use Rattle.walks.proofs.KeptPlace.{at-stepped, length-stepped}
use Rattle.walks.specs.Kept.{can_step, kept_points, points_by, stepped}
use Rattle.walk_recogniser.specs.Pieces.{CanMark, OnGrid, bare_mark, can_go, point_with, started_on, zero_on}

-- a point that is moved within a block stays on the grid
pub moved_on : (g : Grid) (y z : Point) (h b : ℕ) → length z ≡ num_indices g → is_grid_point g y ≡ true → MovedBy g y z h b
    → h < num_indices g → b < num_indices g
    → block_of g b ≡ block_of g h → is_grid_point g z ≡ true
unfolding is_grid_point
moved_on g y z h b e on m hl bl same =
    and_both _ _ (eq-eqb (length z) (num_indices g) e)
    (in_all on_numbers _ (blocks g) (λ j k. eq-eqb _ _
    (block j (omega (arith, (up_from_in 0 (num_blocks g) j k).1)) k)))
  where
    both_in : (j : ℕ) → hits h (first_index g j) (size g j) ≡ hits b (first_index g j) (size g j)
    both_in j =
        let p = block_spans g.sizes h hl in
        let q = block_spans g.sizes b bl in
        ⊎_elim (λ (r : block_of g h ≡ j).
        let p1 = rw r at p.1 in let p2 = rw r at p.2 in let q1 = rw (same ∙ r) at q.1 in
        let q2 = rw (same ∙ r) at q.2 in
        hits_in h (first_index g j) (size g j) p1 p2 ∙ sym (hits_in b (first_index g j) (size g j) q1 q2))
        (λ (r : block_of g h ≡ j → ⊥). hits_out h (first_index g j) (size g j) (away h j r) ∙ sym
        (hits_out b (first_index g j) (size g j) (away b j (λ s. r (sym same ∙ s)))))
        (same_or (block_of g h) j)
      where
        away : (x j : ℕ) → (block_of g x ≡ j → ⊥) → (x < first_index g j) ⊎ (first_index g j + size g j ≤ x)
        away x j r =
            ⊎_elim (λ (l : x < first_index g j). inl l)
            (λ (l : first_index g j ≤ x). ⊎_elim (λ (d : x < first_index g j + size g j). absurd (r
            (let i = x - first_index g j in let w : x ≡ first_index g j + i = omega arith in
            ap (block_of g) w ∙ block_at g.sizes j i (omega arith))))
            (λ d. inr d) (before_or_not x (first_index g j + size g j))) (before_or_not x (first_index g j))

    block : (j : ℕ) → j < num_blocks g → is_in eqb j (blocks g) ≡ true → sum (map (at z) (indices_of g j)) ≡ division g j
    block j l k =
        let f = block-fits g.sizes j in
        let t = tail-moved g y z h b m (first_index g j) (size g j) f in
        let o : sum (map (at y) (indices_of g j)) ≡ division g j = eqb-true _ _
        (all_in on_numbers (λ j. eqb (sum (map (at y) (indices_of g j))) (division g j)) (blocks g)
        (and_right (eqb (length y) (num_indices g)) (all (λ j. eqb (sum (map (at y) (indices_of g j))) (division g j))
        (blocks g)) on) j k) in
        omega (arith, t, both_in j, o)

-- the coordinates after counted steps
pub counted : (first steps : List ℕ) (k : ℕ) → k < 16 → at (after_steps first steps) k ≡ at first k + at steps k - 16
unfolding after_steps
counted first steps k l = let z : 0 + k ≡ k = omega arith in
    rw z at (map_at (λ k. at first k + at steps k - 16) 0 16 k l)

counted-long : (first steps : List ℕ) → length (after_steps first steps) ≡ 16
unfolding after_steps
counted-long first steps = length-map (up_from 0 16) (λ k. at first k + at steps k - 16) ∙ length-up_from 0 16

module _ (g : GridStruct) (made : IsMade g) where
  few : g.indices ≤ 16
  few = omega (arith, (made-accepted g made).few_indices, made-indices g made)

  with_long : (first steps : List ℕ) → length (point_with g first steps) ≡ g.indices
  with_long first steps = length-take g.indices (after_steps first steps) ∙ omega
      (arith, few, counted-long first steps)

  with_at : (first steps : List ℕ) (k : ℕ) → k < g.indices → at (point_with g first steps) k
      ≡ at first k + at steps k - 16
  with_at first steps k l = get_or-take g.indices (after_steps first steps) k 0 l ∙ counted first steps k
      (omega (arith, few))

  pub with_none : (first : List ℕ) → length first ≡ 16 → point_with g first (replicate 16 16) ≡ take g.indices first
  with_none first e =
      ext_get_or 0 (point_with g first (replicate 16 16)) (take g.indices first)
      (with_long first (replicate 16 16) ∙ sym (length-take g.indices first ∙ omega (arith, few)))
      (λ k l. let m : k < g.indices = omega (arith, with_long first (replicate 16 16)) in
      with_at first (replicate 16 16) k m ∙ omega (
        arith,
        get_or-replicate {A = ℕ} 16 k 16 0 (omega (arith, few)),
        get_or-take g.indices first k 0 m,
      ))

  -- a step of the counts is a step of the point
  with_step : (zs first steps : List ℕ) (h b : ℕ) → length steps ≡ 16 → b ≡ first_back_outside (shape g) zs h →
      b < g.indices → 0 < at steps b → OnGrid g first steps
      → point_with g first (shifted steps h b) ≡ stepped (shape g) zs h (point_with g first steps)
  with_step zs first steps h b e is low some ok =
      let p = started_on g [] in
      let z = point_with g first steps in
      let m = made-indices g made in
      ext_get_or 0 (point_with g first (shifted steps h b)) (stepped (shape g) zs h z)
      (with_long first (shifted steps h b) ∙ m ∙ sym (length-stepped p zs h z))
      (λ k l. let kl : k < g.indices = omega (arith, with_long first (shifted steps h b)) in
      with_at first (shifted steps h b) k kl ∙ sym (at-stepped p zs h z k (omega arith) ∙ (rw (← is)
      (omega (
        arith,
        with_at first steps k kl,
        ok.can k kl,
        shifted_at steps h b some k (omega (arith, few)),
        at_most_one b k,
        at_most_one h k,
      )))))

-- k steps are made, and the points before have their marks
pub record Reached (g : GridStruct) (held : Held) (n : ℕ) (marks steps : List ℕ) (k : ℕ) : Type 0 where
  pub long : length steps ≡ 16
  pub counts : (i : ℕ) → i < 16 → (16 ≤ at steps i + k) × (at steps i ≤ 16 + k)
  pub on : OnGrid g held.first steps
  pub rest : points_by (shape g) (zero_on g held n) (point_with g held.first steps) (drop k (take n held.order))
      ≡ drop k (kept_points (shape g) (take g.indices held.first) (take n held.order))
  pub can : can_step (shape g) (zero_on g held n) (point_with g held.first steps) (drop k (take n held.order))
      ≡ can_go g held n
  pub marks_long : length marks ≡ 16
  pub marked : (j : ℕ) → j < k → at marks j ≡ bare_mark (shape g)
      (get_or (kept_points (shape g) (take g.indices held.first) (take n held.order)) j [])

drop-first : (l : Simplex) (k : ℕ) (z : Point) (r : Simplex) → drop k l ≡ z ∷ r → get_or l k [] ≡ z
drop-first [] zero z r e = absurd_bool (cc)
drop-first [] (suc k) z r e = absurd_bool (cc)
drop-first (x ∷ l) zero z r e = cc
drop-first (x ∷ l) (suc k) z r e = drop-first l k z r e

drop-next : (l : Simplex) (k : ℕ) (z : Point) (r : Simplex) → drop k l ≡ z ∷ r → drop (suc k) l ≡ r
drop-next [] zero z r e = absurd_bool (cc)
drop-next [] (suc k) z r e = absurd_bool (cc)
drop-next (x ∷ l) zero z r e = cc
drop-next (x ∷ l) (suc k) z r e = drop-next l k z r e

module _ {g : GridStruct} (made : IsMade g) {held : Held} {n : ℕ} {from : ℕ → ℕ}
    (M : CanMark g from held n) where
  abbrev y : Point
  y = take g.indices held.first

  abbrev o : List ℕ
  o = take n held.order

  abbrev zeros : List ℕ
  zeros = zero_on g held n

  abbrev points : Simplex
  points = kept_points (shape g) y o

  pub reached-none : Reached g held n (replicate 16 0) (replicate 16 16) 0
  reached-none = record {
    long = refl;
    counts = λ i l. let w = get_or-replicate {A = ℕ} 16 i 16 0 l in (omega (arith, w), omega (arith, w));
    on = record {
      can = λ k l. omega (arith, get_or-replicate {A = ℕ} 16 k 16 0 (omega (arith, few g made)));
      point = rw
          (with_none g made held.first held.first_long) M.on_grid;
    };
    rest = ap (λ (z : Point). points_by (shape g) zeros z o) (with_none g made held.first held.first_long);
    can = ap (λ (z : Point). can_step (shape g) zeros z o) (with_none g made held.first held.first_long);
    marks_long = refl;
    marked = λ j l. absurd (omega arith);
  }

  module _ {marks steps : List ℕ} {k : ℕ} (R : Reached g held n marks steps k) (l : k < n) {h b : ℕ}
      (is_h : h ≡ at held.order k) (is_b : b ≡ from h) where
    abbrev z : Point
    z = point_with g held.first steps

    long-o : length o ≡ n
    long-o = length-take n held.order ∙ omega (arith, held.order_long, M.few)

    next-o : drop k o ≡ h ∷ drop (suc k) o
    next-o = drop-cons o k 0 (omega (arith, long-o)) ∙ ap (λ (x : ℕ). x ∷ drop (suc k) o)
        (get_or-take n held.order k 0 l ∙ sym is_h)

    source : b ≡ first_back_outside (shape g) zeros h
    source = is_b ∙ ap from is_h ∙ M.sources k l ∙ ap (first_back_outside (shape g) zeros) (sym is_h)

    low_h_lem : h < g.indices
    low_h_lem = omega (arith, M.below k l, is_h)

    low_b : b < g.indices
    low_b = omega (arith, M.sources_below k l, is_b ∙ ap from is_h)

    here-rest : drop k points ≡ z ∷ points_by (shape g) zeros (stepped (shape g) zeros h z) (drop (suc k) o)
    here-rest = sym R.rest ∙ ap (points_by (shape g) zeros z) next-o

    here-point : get_or points k [] ≡ z
    here-point = drop-first points k z _ here-rest

    here-can : can_step (shape g) zeros y o ≡ (ltb 0 (at z (first_back_outside (shape g) zeros h)) && can_step (shape g)
        zeros (stepped (shape g) zeros h z) (drop (suc k) o))
    here-can = sym R.can ∙ ap (can_step (shape g) zeros z) next-o

    -- where there is nothing to take the steps end
    pub cannot : at held.first b + at steps b ≤ 16 → can_step (shape g) zeros y o ≡ false
    cannot e = here-can ∙ rw (← source, le-ltb 0 (at z b) (omega (arith, with_at g made held.first steps b low_b)))

    module _ (some : 16 < at held.first b + at steps b) where
      pub count_b : 0 < at steps b
      count_b = let w = R.counts b (omega (arith, low_b, few g made)) in omega (arith, w.0, M.few)

      next-point : point_with g held.first (shifted steps h b) ≡ stepped (shape g) zeros h z
      next-point = with_step g made zeros held.first steps h b R.long source low_b count_b R.on

      can-next : (i : ℕ) → i < g.indices → 16 ≤ at held.first i + at (shifted steps h b) i
      can-next i m =
          let w = shifted_at steps h b count_b i (omega (arith, R.long, few g made)) in
          ⊎_elim (λ (e : i ≡ b). let q : one_at b i ≡ 1 = rw (eq-eqb i b e) in
          omega (arith, w, ap (at held.first) e, ap (at steps) e))
          (λ (e : i ≡ b → ⊥). let q : one_at b i ≡ 0 = rw (ne_eqb i b e) in omega (arith, w, R.on.can i m))
          (same_or i b)

      moves : MovedBy (shape g) z (point_with g held.first (shifted steps h b)) h b
      moves i il =
          let m : i < g.indices = omega (arith, made-indices g made) in
          omega (
            arith,
            with_at g made held.first steps i m,
            with_at g made held.first (shifted steps h b) i m,
            shifted_at steps h b count_b i (omega (arith, R.long, few g made)),
            R.on.can i m,
            can-next i m,
          )

      next-on : OnGrid g held.first (shifted steps h b)
      next-on = record {
        can = can-next;
        point = moved_on (shape g) z (point_with g held.first (shifted steps h b)) h b
            (with_long g made held.first (shifted steps h b) ∙ made-indices g made) R.on.point moves
            (omega (arith, low_h_lem, made-indices g made)) (omega (arith, low_b, made-indices g made))
            (ap (block_of (shape g)) (is_b ∙ ap from is_h) ∙ M.in_block k l ∙ ap (block_of (shape g)) (sym is_h));
      }

      pub reached_more : (r : ℕ) → r ≡ bare_mark (shape g) z → Reached g held n (set marks k r)
          (shifted steps h b) (k + 1)
      reached_more r e = record {
        long = length-shifted steps h b ∙ R.long;
        counts = λ i il. let w = shifted_at steps h b count_b i (omega (arith, R.long)) in
            let v = R.counts i il in (
              omega (arith, w, v.0, at_most_one b i, at_most_one h i),
              omega
                  (arith, w, v.1, at_most_one b i, at_most_one h i),
            );
        on = next-on;
        rest = rw (add-one k) (ap (λ (q : Point). points_by (shape g) zeros q (drop (suc k) o)) next-point ∙ sym
            (drop-next points k z _ here-rest));
        can = rw (add-one k) (ap (λ (q : Point). can_step (shape g) zeros q (drop (suc k) o)) next-point
            ∙ sym (here-can ∙ (rw (
              ← source,
              lt-ltb 0 (at z b)
                  (omega (arith, with_at g made held.first steps b low_b)),
            ))));
        marks_long = length-set marks k r ∙ R.marks_long;
        marked = λ j jl. ⊎_elim (λ (q : j ≡ k). rw q
            (get_or-set_same marks k r 0 (omega (arith, R.marks_long, M.few)) ∙ e ∙ ap (bare_mark (shape g))
            (sym here-point)))
            (λ (q : j ≡ k → ⊥). get_or-set_other marks k j r 0 q ∙ R.marked j (omega (arith, q))) (same_or j k);
      }

pub position-low : (g : GridStruct) → IsMade g → (y : Point) → is_grid_point (shape g) y ≡ true → position (shape g)
    y < num_points (shape g)
position-low g made y on = position_in_lem (grid_points (shape g)) y
    (in_points (shape g) y (made-accepted g made).same_number on)
