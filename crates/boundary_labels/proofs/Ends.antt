-- Over the new table a place has no facet end, so every end of a path, and every end that a run announces, is a place
-- end; the new table is accepted where the old one is, and a run asks for labels of interior points only. Assumes
-- nothing.
use mathlib.Core.Bool.{Bool, true, false, cond}
use mathlib.Core.List.{List, [], ◌∷◌, map}
use mathlib.Core.Logic.{⊎_elim}
use mathlib.Core.Option.{Option, none, some}
use mathlib.Core.Path.{◌≡◌, refl, sym, ap, ◌∙◌}
use Prim.Native.Nat.{ℕ, ◌≤◌, ◌<◌}
use borrow.Author.Tests.{eqb-true, le-leb}
use lib.Dec.{eqb, leb, ltb}
use lib.ListN.{length, get_or, get_or-eq_default}
use native.Mathlib.Omega.{arith}
use Rattle.combinatorics.proofs.Basics.{absurd_bool, before_or_not, true_or_false}
use Rattle.combinatorics.proofs.Lists.{all_in, concat_map_in, filter_in, in_all, in_here, map_in, on_numbers, same_sound}
use Rattle.combinatorics.proofs.Ranges.{up_from_in}
use Rattle.combinatorics.specs.Lists.{all, filter, is_in, same}
use Rattle.end_kinds.specs.declared.Kind.{Kind}
use Rattle.end_kinds.specs.declared.Kind.TheVariants.{Facet as facet_end, Place as place_end}
use Rattle.grid_points.proofs.Points.{on_points, points_in_lem}
use Rattle.grid_points.specs.Grid.{Point, blocks, is_grid_point, num_blocks, num_indices, num_points, points}
use Rattle.path_laws.proofs.Accepted.{accepted-grid, accepted-is, accepted-table}
use Rattle.path_laws.proofs.Labels.{place-labelled}
use Rattle.path_laws.proofs.LinkSymmetry.{parts}
use Rattle.path_laws.proofs.Meaning.{free_means}
use Rattle.path_laws.proofs.Simplices.{on_simplices}
use Rattle.path_laws.proofs.Theorem.{demand3_holds}
use Rattle.path_laws.proofs.Ways.{IsWay, by_facet, by_place, on_ends}
use Rattle.path_laws.specs.Demand.{Accepted, HasStart, HasTable, NoGap, place_at}
use Rattle.place.specs.Ends.{End, complete_for, facet_ends, facets, is_complete, stop}
use Rattle.place.specs.Path.{answer, ended, outcome, path, path_length, same_simplex, spent, unknown}
use Rattle.place.specs.Places.{Simplex, is_place, label_set, set_t, set_u}
use Rattle.place.specs.Problem.{Problem, label}
use Rattle.check_simplices.proofs.Answers.{last-place, stop-points}
use Rattle.boundary_labels.proofs.Complete.{complete_by_labels}
use Rattle.boundary_labels.proofs.PointLabels.{table_kth}
use Rattle.boundary_labels.proofs.Tables.{new_byte, new-range, new-table}
use Rattle.boundary_labels.specs.Boundary.{boundary_label, boundary_table, is_interior, new_label}
use Rattle.boundary_labels.specs.Claims.{AcceptedAgain, KnownInside, OverNewTable}

module _ {p : Problem} (ok : HasStart p) (few : num_points p.grid ≤ 60000) (old : List ℕ)
    (is : p.labels ≡ boundary_table p.grid old) where
  -- the labels of a facet end are T, so T would have all indices of a block, and a place leaves one of each block free
  no-facet : (s : Simplex) → is_place p s ≡ true → (f : Simplex) → is_in same_simplex f (facets s) ≡ true
      → label_set p f ≡ set_t p s → (j : ℕ) → j < num_blocks p.grid → is_complete p f j ≡ true → ⊥
  no-facet s place f m e j l c =
      let o = stop-points ok s (record { kind = facet_end; block = j; simplex = f }) place (by_facet f j m e l c) in
      let w = (free_means p s (set_t p s) (set_u p.grid s)).0 (parts p s place).free j l in
      let k = (complete_by_labels p (accepted-grid ok few) old is f o.0 o.2 j l c).labels w.0 w.1 in
      absurd_bool (sym (rw e at k) ∙ w.2)

  empty : (es : List End) → ((e : End) → is_in on_ends.eq e es ≡ true → ⊥) → es ≡ []
  empty [] h = refl
  empty (e ∷ es) h = absurd (h e (in_here on_ends e es))

  no-facet-ends : (s : Simplex) → is_place p s ≡ true → facet_ends p s ≡ []
  unfolding facet_ends complete_for
  no-facet-ends s place =
      empty _ (λ e n.
      let i = concat_map_in on_simplices on_ends (λ f. map (at_facet f) (complete_for p f)) e (filter fits (facets s)) n in
      let k = filter_in on_simplices fits i.0 (facets s) i.1 in
      let j = map_in on_numbers on_ends (at_facet i.0) e (complete_for p i.0) i.2 in
      let c = filter_in on_numbers (is_complete p i.0) j.0 (blocks p.grid) j.1 in
      no-facet s place i.0 k.0 (same_sound eqb eqb-true (label_set p i.0) (set_t p s) k.1) j.0
      (omega (arith, (up_from_in 0 (num_blocks p.grid) j.0 c.0).1)) c.1)
    where
      at_facet : Simplex → ℕ → End
      at_facet f j = record { kind = facet_end; block = j; simplex = f }

      fits : Simplex → Bool
      fits f = same eqb (label_set p f) (set_t p s)

  stops-at-place : (s : Simplex) (e : End) → is_place p s ≡ true → IsWay p s (stop e) → e.kind ≡ place_end
  stops-at-place s e place (by_place j l c) = refl
  stops-at-place s e place (by_facet f j m q l c) = absurd (no-facet s place f m q j l c)

  path-end : (e : End) → (path p).end ≡ some e → e.kind ≡ place_end
  path-end e q = let w = last-place ok e q in stops-at-place w.0 e w.1 w.2

  announced-end : (budget places read : ℕ) (kind : Kind) (block vertices : ℕ) (simplex : Simplex)
      → answer p budget ≡ ended places read kind block vertices simplex → kind ≡ place_end
  unfolding answer
  announced-end budget places read kind block vertices simplex q = go (ltb budget (path_length p)) (path p).end refl q
    where
      go : (b : Bool) (o : Option End) → (path p).end ≡ o
          → cond b (spent budget) (outcome p (path p).visited o) ≡ ended places read kind block vertices simplex
          → kind ≡ place_end
      go true o e q = absurd_bool (cc)
      go false none e q = absurd_bool (cc)
      go false (some x) e q = let k : x.kind ≡ kind = cc in sym k ∙ path-end x e

  -- "so every end that a run announces is a place end"
  pub over-new-table : OverNewTable p
  over-new-table = record {
    complete = complete_by_labels p (accepted-grid ok few) old is;
    no_facet_ends = no-facet-ends;
    path_end = path-end;
    announced = announced-end;
  }

  module _ (long : length old ≡ num_points p.grid) (range : all (λ l. leb l (num_indices p.grid)) old ≡ true) where
    is-accepted : Accepted p
    is-accepted =
        let t = new-table p.grid (accepted-grid ok few) old in
        record {
          has_start = ok;
          points = few;
          table_length = ap length is ∙ t.whole;
          labels = rw is (new-range p.grid (accepted-grid ok few) old long range);
        }

    is-table : HasTable p
    is-table = accepted-table is-accepted

    asks-inside : (budget n i : ℕ) → answer p budget ≡ unknown n i → is_interior (get_or (points p.grid) i []) ≡ true
    unfolding is_interior
    asks-inside budget n i q =
        ⊎_elim
        (λ (l : i < num_points p.grid). inside l)
        (λ (l : num_points p.grid ≤ i). rw (get_or-eq_default (points p.grid) [] l))
        (before_or_not i (num_points p.grid))
      where
        y : Point
        y = get_or (points p.grid) i []

        inside : i < num_points p.grid → is_interior y ≡ true
        inside l =
            ⊎_elim
            (λ (t : is_interior y ≡ true). t)
            (λ (f : is_interior y ≡ false).
            let asked = ((demand3_holds is-table).asked budget n i q).2 in
            let z : get_or (boundary_table p.grid old) i 0 ≡ 0 = rw is at asked in
            let b : get_or (boundary_table p.grid old) i 0 ≡ boundary_label p.grid y =
            table_kth p.grid old i l y refl ∙ rw f in
            absurd (omega arith))
            (true_or_false (is_interior y))

    labelled : KnownInside p → (y : Point) → is_grid_point p.grid y ≡ true → 0 < label p y
    unfolding label
    labelled known y on =
        ⊎_elim
        (λ (t : is_interior y ≡ true). known y on t)
        (λ (f : is_interior y ≡ false).
        let w = (new-table p.grid (accepted-grid ok few) old).outside y on f in rw is (omega (arith, w.1)))
        (true_or_false (is_interior y))

    gap-free : KnownInside p → all (λ l. leb 1 l) p.labels ≡ true
    unfolding boundary_table label
    gap-free known =
        rw is (in_all on_numbers (λ l. leb 1 l) (map (new_label p.grid old) (points p.grid)) (λ l m.
        let i = map_in on_points on_numbers (new_label p.grid old) l (points p.grid) m in
        let on = points_in_lem p.grid i.0 i.1 in
        let e = new_byte p.grid (accepted-grid ok few) old i.0 on in
        rw (i.2, ← e, ← is) (le-leb 1 (label p i.0) (labelled known i.0 on))))

    no_gap : KnownInside p → NoGap p
    no_gap known i l =
        let s = place_at (path p).visited i in
        let h = (demand3_holds is-table).follows.places i l in
        let on = all_in on_points (is_grid_point p.grid) s (parts p s h).grid_points in
        place-labelled is-table s h (λ y m. labelled known y (on y m))

    -- the new table is accepted, asks for nothing on the boundary, and has a path that ends at a place where the
    -- interior is known
    pub accepted-again : AcceptedAgain p
    accepted-again = record {
      accepted = accepted-is is-accepted;
      asks_inside = asks-inside;
      known = λ k.
          let n = no_gap k in
          let e = (demand3_holds is-table).ended n in
          (gap-free k, n, record { ended = e; at_place = path-end e.end e.ends });
    }
