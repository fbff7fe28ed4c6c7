-- The answer to a sheet. In order: the test by coefficient lists gives it; every part of a place passes the test; the
-- answer does not depend on the order of the points; each end of a run gets yes, with its block; what yes tells.
-- Assumes nothing.
use mathlib.Core.Bool.{Bool, true, false, ◌&&◌, cond}
use mathlib.Core.List.{List, [], ◌∷◌}
use mathlib.Core.Logic.{inl, inr, ⊎_elim}
use mathlib.Core.Option.{Option, none, some}
use mathlib.Core.Path.{◌≡◌, refl, sym, ap, ◌∙◌}
use Prim.Native.Nat.{ℕ, zero, suc, pred, ◌≤◌, ◌<◌}
use borrow.Author.Tests.{ltb-true}
use lib.Dec.{eqb, ltb}
use lib.ListN.{length}
use native.Mathlib.Omega.{arith}
use Rattle.combinatorics.proofs.Basics.{absurd_bool, true_or_false, both, and_both, and_left, and_right}
use Rattle.combinatorics.proofs.Basics.{false_of}
use Rattle.combinatorics.proofs.Lists.{in_first, in_here, in_later, in_cases, in_filter, filter_in, filter_cong}
use Rattle.combinatorics.proofs.Lists.{distinct-out, distinct_tail, distinct-within, on_numbers}
use Rattle.combinatorics.proofs.Ranges.{in_up_from, up_from_in}
use Rattle.combinatorics.proofs.EditsRemove.{length-remove_at}
use Rattle.combinatorics.specs.Edits.{remove_at}
use Rattle.combinatorics.specs.Lists.{filter, all, is_in, distinct}
use Rattle.end_kinds.specs.declared.Kind.{Kind}
use Rattle.grid_points.proofs.Accepted.{InLimits}
use Rattle.grid_points.proofs.Points.{on_points}
use Rattle.grid_points.specs.Grid.{Grid, Point, num_blocks, dimension, blocks, is_grid_point, same_point, bound}
use Rattle.place.specs.Ends.{End, stop, is_complete, complete_for}
use Rattle.place.specs.Path.{answer, ended, outcome, path, path_length, spent}
use Rattle.place.specs.Places.{Simplex, is_place, is_unlabelled_place, set_u, label_set}
use Rattle.place.specs.Problem.{Problem, label}
use Rattle.path_laws.proofs.Facets.{one_less-at}
use Rattle.path_laws.proofs.LinkSymmetry.{place-distinct}
use Rattle.path_laws.proofs.Meaning.{U_means, labels_mean, complete_means}
use Rattle.path_laws.proofs.PathSteps.{trail, all-places, finish}
use Rattle.path_laws.proofs.Start.{start-place}
use Rattle.path_laws.proofs.ToChain.{place-long}
use Rattle.path_laws.proofs.Ways.{IsWay, by_place, by_facet, end_is, on_ends}
use Rattle.path_laws.specs.Demand.{HasStart, SamePoints, place_at}
use Rattle.check_simplices.proofs.Ends.{end-only}
use Rattle.check_simplices.proofs.Places.{grid_in_limits, place_in-simplex, unlabelled_in_simplex}
use Rattle.check_simplices.proofs.Search.{search_finds, few_in_simplex}
use Rattle.check_simplices.proofs.Theorem.{one-simplex, part_in, part_on_grid}
use Rattle.check_simplices.specs.Chains.{one_chain}
use Rattle.check_simplices.specs.Simplices.{InOneSimplex, in_one_simplex, labelled_by, first_of, verdict}

-- the test gives the answer
module _ {g : Grid} (A : InLimits g) (zs : List Point) (on : all (is_grid_point g) zs ≡ true)
    (some-point : 0 < length zs) where
  -- distinct and in one simplex, exactly if the test says so
  pub one-simplex_test : (distinct same_point zs && in_one_simplex g zs) ≡ one_chain g zs
  one-simplex_test = both _ _
      (λ h. (one-simplex A zs on some-point).1
      (and_left _ (in_one_simplex g zs) h, (search_finds g A zs).1 (and_right (distinct same_point zs) _ h)))
      (λ h. let w = (one-simplex A zs on some-point).0 h in and_both _ _ w.0 ((search_finds g A zs).0 w.1))

  pub answer_by_test : (labels : List ℕ)
      → verdict g labels zs ≡ cond (one_chain g zs) (first_of (complete_for (labelled_by g labels) zs)) none
  unfolding verdict
  answer_by_test labels = rw one-simplex_test

-- every part of a place, labels apart, passes the test
pub part_of_place : {p : Problem} → HasStart p → (s : Simplex) → is_unlabelled_place p s ≡ true → (ys : List Point)
    → 0 < length ys → distinct same_point ys ≡ true
    → ((y : Point) → is_in same_point y ys ≡ true → is_in same_point y s ≡ true)
    → one_chain p.grid ys ≡ true
part_of_place ok s h ys some-point d within =
    let I = part_in ys within (unlabelled_in_simplex ok s h) in
    (one-simplex (grid_in_limits ok) ys (part_on_grid I) some-point).1 (d, I)

-- the order of the points does not matter
module _ (p : Problem) (a b : Simplex) (ab : SamePoints a b) where
  complete-same : (j : ℕ) → is_complete p a j ≡ true → is_complete p b j ≡ true
  complete-same j h = (complete_means p b j).1
      (λ k m. ⊎_elim
      (λ e.
      let w = (labels_mean p a k).0 e in
      inl ((labels_mean p b k).1 (w.0, (w.1.0, sym (ab w.1.0) ∙ w.1.1, w.1.2))))
      (λ e. let w = (U_means p.grid a k).0 e in inr ((U_means p.grid b k).1 (w.0, (λ y n. w.1 y (ab y ∙ n)))))
      ((complete_means p a j).0 h k m))

pub order-free : {g : Grid} → InLimits g → (labels : List ℕ) (a b : Simplex) → SamePoints a b → length a ≡ length b
    → verdict g labels a ≡ verdict g labels b
unfolding verdict complete_for
order-free {g} A labels a b ab l =
    let ba : SamePoints b a = λ y. sym (ab y) in
    let d : distinct same_point a ≡ distinct same_point b = both _ _
    (λ h. distinct-within on_points b a h (λ z m. sym (ab z) ∙ m) (omega arith))
    (λ h. distinct-within on_points a b h (λ z m. ab z ∙ m) (omega arith)) in
    let i : in_one_simplex g a ≡ in_one_simplex g b = both _ _
    (λ h. (search_finds g A b).0 (part_in b (λ z m. ab z ∙ m) ((search_finds g A a).1 h)))
    (λ h. (search_finds g A a).0 (part_in a (λ z m. sym (ab z) ∙ m) ((search_finds g A b).1 h))) in
    let c : filter (is_complete (labelled_by g labels) a) (blocks g)
    ≡ filter (is_complete (labelled_by g labels) b) (blocks g) =
    filter_cong on_numbers (blocks g)
    (λ j m. both _ _ (complete-same (labelled_by g labels) a b ab j) (complete-same (labelled_by g labels) b a ba j)) in
    rw (d, i, c)

-- each end of a run
first-is : (q : ℕ → Bool) (xs : List ℕ) (j : ℕ) → is_in eqb j xs ≡ true → q j ≡ true
    → ((k : ℕ) → is_in eqb k xs ≡ true → q k ≡ true → k ≡ j)
    → first_of (filter q xs) ≡ some j
first-is q xs j m e only =
    go (filter q xs) (in_filter on_numbers q j xs m e) (λ k n. let i = filter_in on_numbers q k xs n in only k i.0 i.1)
  where
    go : (l : List ℕ) → is_in eqb j l ≡ true → ((k : ℕ) → is_in eqb k l ≡ true → k ≡ j) → first_of l ≡ some j
    go [] m o = absurd_bool (sym m)
    go (x ∷ l) m o = ap (λ (k : ℕ). some k) (o x (in_here on_numbers x l))

removed_in : (i : ℕ) (s : Simplex) (y : Point) → is_in same_point y (remove_at i s) ≡ true → is_in same_point y s ≡ true
removed_in i [] y m = m
removed_in zero (x ∷ s) y m = in_later on_points y x s m
removed_in (suc i) (x ∷ s) y m = ⊎_elim
    (λ e. in_first on_points _ x s e)
    (λ n. in_later on_points y x s (removed_in i s y n))
    (in_cases on_points y x (remove_at i s) m)

removed_distinct : (i : ℕ) (s : Simplex) → distinct same_point s ≡ true → distinct same_point (remove_at i s) ≡ true
removed_distinct i [] d = d
removed_distinct zero (x ∷ s) d = distinct_tail same_point x s d
removed_distinct (suc i) (x ∷ s) d =
    let out : is_in same_point x (remove_at i s) ≡ false = false_of _
    (λ m. absurd_bool (sym (removed_in i s x m) ∙ distinct-out same_point x s d)) in
    rw out (removed_distinct i s (distinct_tail same_point x s d))

module _ {p : Problem} (ok : HasStart p) where
  -- what an end of a place shows: distinct points, in one simplex, complete for a block
  record Shown (e : End) : Type 0 where
    nonempty : 1 ≤ length e.simplex
    apart : distinct same_point e.simplex ≡ true
    one : InOneSimplex p.grid e.simplex
    block : e.block < num_blocks p.grid
    complete : is_complete p e.simplex e.block ≡ true

  shown : (s : Simplex) (e : End) → is_place p s ≡ true → IsWay p s (stop e) → Shown e
  shown s e h (by_place j l c) = record {
    nonempty = omega (arith, place-long ok s h);
    apart = place-distinct p s h;
    one = place_in-simplex ok s h;
    block = l;
    complete = c;
  }
  shown s e h (by_facet f j m q l c) =
      ⊎_elim
      (λ t. let i = one_less-at s f (rw t at m) in
      record {
        nonempty = rw i.2 (omega (arith, length-remove_at i.0 s i.1, ltb-true 1 (length s) t));
        apart = rw i.2 (removed_distinct i.0 s (place-distinct p s h));
        one = rw i.2 (part_in (remove_at i.0 s) (removed_in i.0 s) (place_in-simplex ok s h));
        block = l;
        complete = c;
      })
      (λ n. absurd_bool (sym (rw n at m)))
      (true_or_false (ltb 1 (length s)))

  -- an end has 1 to n + 1 points, all on the grid
  pub stop-points : (s : Simplex) (e : End) → is_place p s ≡ true → IsWay p s (stop e)
      → (1 ≤ length e.simplex) × (length e.simplex ≤ suc (dimension p.grid))
      × (all (is_grid_point p.grid) e.simplex ≡ true)
  stop-points s e h way =
      let S = shown s e h way in
      (S.nonempty, few_in_simplex e.simplex S.apart S.one, part_on_grid S.one)

  -- an end of a place gets yes, with its block
  pub stop-answer : (s : Simplex) (e : End) → is_place p s ≡ true → IsWay p s (stop e)
      → verdict p.grid p.labels e.simplex ≡ some e.block
  unfolding verdict complete_for is_complete label_set set_u label
  stop-answer s e h way =
      let S = shown s e h way in
      rw (S.apart, (search_finds p.grid (grid_in_limits ok) e.simplex).0 S.one)
      (first-is (is_complete p e.simplex) (blocks p.grid) e.block
      (in_up_from 0 (num_blocks p.grid) e.block (omega arith) (omega (arith, S.block)))
      S.complete (λ k m c. end-only ok s h e way k (omega (arith, (up_from_in 0 (num_blocks p.grid) k m).1)) c))

  -- the path's end is one of its last place
  pub last-place : (e : End) → (path p).end ≡ some e → (s : Simplex) × (is_place p s ≡ true) × IsWay p s (stop e)
  unfolding path
  last-place e q =
      let t = trail p (bound p.grid) none (p.start ∷ []) in
      let f = finish p t e q in
      let n = pred (path_length p) in
      let s = place_at (path p).visited n in (
        s,
        all-places p t (start-place ok) n (omega (arith, f.nonempty)),
        end_is p s e (rw f.finishes.1 (in_here on_ends e f.finishes.0)),
      )

  -- "Each end we print gets yes", with its block, whatever labels other points have, or none
  pub end-answer : (e : End) → (path p).end ≡ some e → verdict p.grid p.labels e.simplex ≡ some e.block
  end-answer e q = let w = last-place e q in stop-answer w.0 e w.1 w.2

-- what a run announces is the path's end
pub record PathEnd (p : Problem) (block vertices : ℕ) (simplex : Simplex) : Type 0 where
  pub end : End
  pub ends : (path p).end ≡ some end
  pub named : block ≡ suc end.block
  pub many : vertices ≡ length end.simplex
  pub points : simplex ≡ end.simplex

pub announced-end : (p : Problem) (budget places read : ℕ) (kind : Kind) (block vertices : ℕ) (simplex : Simplex)
    → answer p budget ≡ ended places read kind block vertices simplex → PathEnd p block vertices simplex
unfolding answer
announced-end p budget places read kind block vertices simplex h =
    go (ltb budget (path_length p)) (path p).end refl h
  where
    go : (b : Bool) (o : Option End) → (path p).end ≡ o
        → cond b (spent budget) (outcome p (path p).visited o) ≡ ended places read kind block vertices simplex
        → PathEnd p block vertices simplex
    go true o q h = absurd_bool (cc)
    go false none q h = absurd_bool (cc)
    go false (some e) q h = record { end = e; ends = q; named = cc; many = cc; points = cc }

-- what yes tells of the points
first_in : (l : List ℕ) (j : ℕ) → first_of l ≡ some j → is_in eqb j l ≡ true
first_in [] j e = absurd_bool (cc)
first_in (x ∷ l) j e = let q : x ≡ j = cc in rw q (in_here on_numbers j l)

pub record Told (g : Grid) (labels : List ℕ) (zs : List Point) (j : ℕ) : Type 0 where
  pub one : in_one_simplex g zs ≡ true
  pub block : j < num_blocks g
  pub complete : is_complete (labelled_by g labels) zs j ≡ true

pub verdict-tells : (g : Grid) (labels : List ℕ) (zs : List Point) (j : ℕ) → verdict g labels zs ≡ some j
    → Told g labels zs j
unfolding verdict complete_for
verdict-tells g labels zs j h = go (distinct same_point zs && in_one_simplex g zs) refl h
  where
    go : (b : Bool) → (distinct same_point zs && in_one_simplex g zs) ≡ b
        → cond b (first_of (filter (is_complete (labelled_by g labels) zs) (blocks g))) none ≡ some j
        → Told g labels zs j
    go true e h =
        let i = filter_in on_numbers (is_complete (labelled_by g labels) zs) j (blocks g)
        (first_in (filter (is_complete (labelled_by g labels) zs) (blocks g)) j h) in
        record {
          one = and_right (distinct same_point zs) _ e;
          block = omega (arith, (up_from_in 0 (num_blocks g) j i.0).1);
          complete = i.1;
        }
    go false e h = absurd_bool (cc)
