-- Theorem W: {v} has exactly one way out, every other place exactly two. In order: a place of two or more points; the
-- start, and that no other place has one point; theorem W; demand 3, and what a run needs. Assumes nothing.
use mathlib.Core.Bool.{true}
use mathlib.Core.List.{List, [], ◌∷◌}
use mathlib.Core.Logic.{◌↔◌, ◌⊎◌, inl, inr, ⊎_elim}
use mathlib.Core.Option.{some}
use mathlib.Core.Path.{◌≡◌, refl, sym, ap, ◌∙◌, fun_ext}
use Prim.Native.Nat.{ℕ, zero, suc, ◌+◌, ◌≤◌, ◌<◌}
use borrow.Author.Tests.{lt-ltb}
use lib.ListN.{length}
use native.Mathlib.Omega.{arith}
use Rattle.combinatorics.proofs.Basics.{absurd_bool, true_or_false, and_left}
use Rattle.combinatorics.specs.Edits.{remove_at}
use Rattle.combinatorics.specs.Lists.{is_in, all}
use Rattle.end_kinds.specs.declared.Kind.{Kind}
use Rattle.end_kinds.specs.declared.Kind.TheVariants.{Facet as facet_end, Place as place_end}
use Rattle.geometry.proofs.Exits.{kinds, inside_not_complete, inside_not_larger}
use Rattle.geometry.proofs.Definitions.{Carries, Twice, Extra}
use Rattle.geometry.proofs.Graph.{Through, Above, exit, through_one, above-one, larger, from-same, one}
use Rattle.geometry.proofs.LabelledChains.{list_at, LabelledChain, Link, FacetEnd, PlaceEnd}
use Rattle.geometry.proofs.Onward.{facet_way, up_way, above_not_end, through_determines, through_not_above}
use Rattle.geometry.proofs.Onward.{end_not_through, end-carries, one-place-end, one-facet-end, start-onward}
use Rattle.geometry.proofs.Onward.{start_not_both, start-one-end}
use Rattle.geometry.proofs.Places.{start-only}
use Rattle.grid_points.proofs.Round.{seat}
use Rattle.grid_points.specs.Grid.{Point, at, num_blocks, num_indices, first_index, is_grid_point}
use Rattle.place.specs.Ends.{End, Way, stop, link, ways, facets}
use Rattle.place.specs.Links.{linked}
use Rattle.place.specs.Path.{same_simplex, path, path_length}
use Rattle.place.specs.Places.{Simplex, is_place, order, all_labelled}
use Rattle.place.specs.Problem.{Problem}
use Rattle.path_laws.proofs.ToChain.{in_t, coefficients_of, points_of, label_of, size-positive, place-long}
use Rattle.path_laws.proofs.ToChain.{labelled_chain_of, points_of_coefficients_of}
use Rattle.path_laws.proofs.Facets.{one_less-at, at-one_less}
use Rattle.path_laws.proofs.ChainLinks.{link_of, of_link}
use Rattle.path_laws.proofs.LinkSymmetry.{parts}
use Rattle.path_laws.proofs.FromTwoWays.{Final, demand3, path-is, ends-known, no_gap, follows-path, whole-path}
use Rattle.path_laws.proofs.BlocksOfGrid.{blocks_of, point_of, coefficient_of, block_agrees, point_coefficient_of}
use Rattle.path_laws.proofs.Start.{start-place}
use Rattle.path_laws.proofs.ChainEnds.{complete-to, complete_of, complete-below, facet-end, end_below}
use Rattle.path_laws.proofs.ChainEnds.{end-complete}
use Rattle.path_laws.proofs.ChainEnds.{end-labels}
use Rattle.path_laws.proofs.Ways.{IsWay, by_place, by_facet, by_link, exactly_one, exactly_two}
use Rattle.path_laws.specs.Demand.{HasStart, HasTable, TwoWays, NoGap, Demand3, IsPath, Follows, place_at}
use Rattle.path_laws.specs.Demand.{left_at}

abbrev at_place : Simplex → ℕ → Way
at_place s j = stop (record { kind = place_end; block = j; simplex = s })

abbrev at_facet : Simplex → ℕ → Way
at_facet f j = stop (record { kind = facet_end; block = j; simplex = f })

abbrev kind_of : Way → Kind
kind_of (stop e) = e.kind
kind_of (link t) = place_end

-- the block of an index, among the problem's
pub block_of_lem : (p : Problem) (h : ℕ) → h < num_indices p.grid → (blocks_of p).block h < num_blocks p.grid
block_of_lem p h l =
    let s = seat p.grid h l in
    let e : (blocks_of p).block h ≡ s.j = ap (blocks_of p).block s.is ∙ block_agrees p s.j s.i s.inside in
    omega (arith, s.block)

facets-many : (s : Simplex) → 1 < length s → (f : Simplex) → is_in same_simplex f (facets s) ≡ true
    → (i : ℕ) × (i < length s) × (f ≡ remove_at i s)
facets-many s l f m = one_less-at s f (rw (lt-ltb 1 (length s) l) at m)

pub in_facets : (s : Simplex) → 1 < length s → (i : ℕ) → i < length s
    → is_in same_simplex (remove_at i s) (facets s) ≡ true
in_facets s l i m = rw (lt-ltb 1 (length s) l) (at-one_less s i m)

-- a place of two or more points
module _ {p : Problem} (ok : HasStart p) (s : Simplex) (h : is_place p s ≡ true) (own : all_labelled p s ≡ true) {n : ℕ}
    {o : ℕ → ℕ} (long : length s ≡ suc (suc n))
    (A : LabelledChain (blocks_of p) (label_of p) (in_t p s) (suc n) o (coefficients_of p s)) where
  abbrev label_at : ℕ → ℕ
  label_at j = label_of p (list_at (coefficients_of p s) j)

  abbrev Carry : ℕ → Type 0
  Carry i = Carries (in_t p s) (suc n) label_at i

  on : all (is_grid_point p.grid) s ≡ true
  on = (parts p s h).grid_points

  -- the way w goes through facet i
  data By (i : ℕ) (w : Way) : Type 0 where
    to_place : (x : List (ℕ → ℕ)) → Through (blocks_of p) (in_t p s) n (coefficients_of p s) i x
        → coefficients_of p (points_of p x) ≡ x → w ≡ link (points_of p x) → By i w
    to_facet : (b : ℕ) → FacetEnd (blocks_of p) (label_of p) (in_t p s) n (coefficients_of p s) i b
        → w ≡ at_facet (remove_at i s) ((blocks_of p).block b) → By i w

  -- or by a label outside T
  data Up (w : Way) : Type 0 where
    to_larger : (x : List (ℕ → ℕ)) → Above (blocks_of p) (label_of p) (in_t p s) (suc n) (coefficients_of p s) x
        → coefficients_of p (points_of p x) ≡ x → w ≡ link (points_of p x) → Up w
    to_end : (b : ℕ) → PlaceEnd (blocks_of p) (label_of p) (suc n) (coefficients_of p s) b
        → w ≡ at_place s ((blocks_of p).block b) → Up w

  by_one : {i : ℕ} → i ≤ suc n → {w w' : Way} → By i w → By i w' → w ≡ w'
  by_one l (to_place x X c q) (to_place x' X' c' q') =
      q ∙ ap (λ (z : List (ℕ → ℕ)). link (points_of p z)) (through_one (coefficients_of p s) A.chain l x x' X X') ∙ sym q'
  by_one l (to_place x X c q) (to_facet b F q') = absurd (end_not_through A F x X)
  by_one l (to_facet b F q) (to_place x X c q') = absurd (end_not_through A F x X)
  by_one {i} l (to_facet b F q) (to_facet b' F' q') =
      q ∙ ap (λ (j : ℕ). at_facet (remove_at i s) j) (one-facet-end A F F').1 ∙ sym q'

  by_determines : {i i' : ℕ} → i ≤ suc n → i' ≤ suc n → {w : Way} → By i w → By i' w → i ≡ i'
  by_determines {i'} l l' (to_place x X c q) (to_place x' X' c' q') =
      let e : points_of p x ≡ points_of p x' = cc in
      let f : x' ≡ x = sym c' ∙ ap (coefficients_of p) (sym e) ∙ c in
      through_determines A l l' x X (rw f at X')
  by_determines l l' (to_place x X c q) (to_facet b F q') = absurd_bool (cc)
  by_determines l l' (to_facet b F q) (to_place x X c q') = absurd_bool (cc)
  by_determines l l' (to_facet b F q) (to_facet b' F' q') = (one-facet-end A F F').0

  by_not_up : {i : ℕ} {w : Way} → By i w → Up w → ⊥
  by_not_up (to_place x X c q) (to_larger x' X' c' q') =
      let e : points_of p x ≡ points_of p x' = cc in
      let f : x' ≡ x = sym c' ∙ ap (coefficients_of p) (sym e) ∙ c in
      through_not_above A X (rw f at X')
  by_not_up (to_place x X c q) (to_end b F q') = absurd_bool (cc)
  by_not_up (to_facet b F q) (to_larger x X c q') = absurd_bool (cc)
  by_not_up (to_facet b F q) (to_end b' F' q') =
      let k : facet_end ≡ place_end = sym (ap kind_of q) ∙ ap kind_of q' in
      absurd_bool (cc)

  up_one : {m : ℕ} → Extra (in_t p s) (suc n) label_at m → {w w' : Way} → Up w → Up w' → w ≡ w'
  up_one X (to_larger x Y c q) (to_larger x' Y' c' q') =
      q ∙ ap (λ (z : List (ℕ → ℕ)). link (points_of p z)) (above-one A Y Y') ∙ sym q'
  up_one X (to_larger x Y c q) (to_end b F q') = absurd (above_not_end A X Y b F)
  up_one X (to_end b F q) (to_larger x Y c q') = absurd (above_not_end A X Y b F)
  up_one X (to_end b F q) (to_end b' F' q') = q ∙ ap (λ (j : ℕ). at_place s j) (one-place-end A b b' F F') ∙ sym q'

  inside_not_up : {a b : ℕ} → Twice (in_t p s) (suc n) label_at a b → {w : Way} → Up w → ⊥
  inside_not_up W (to_larger x f c q) =
      let L = larger A f.3 f.4 in
      inside_not_larger (label_of p) A.chain A.covers W.all L.1.1 f.4.covers
  inside_not_up W (to_end d F q) = inside_not_complete (label_of p) A.chain A.covers W.all d F

  -- every way is one of these
  cover : {w : Way} → IsWay p s w → ((i : ℕ) × (i ≤ suc n) × Carry i × By i w) ⊎ Up w
  cover (by_place j l c) =
      inr (to_end (first_index p.grid j + 0) (complete-to ok s on (suc n) long j l c)
      (ap (λ (k : ℕ). at_place s k) (sym (block_agrees p j 0 (size-positive ok j l)))))
  cover (by_facet f j m q l c) =
      let i = facets-many s (omega arith) f m in
      let il : i.0 ≤ suc n = omega (arith, i.1) in
      let F = facet-end ok s h n long i.0 il own j l (rw i.2 at q) (rw i.2 at c) in
      inl (
        i.0,
        il,
        end-carries A F,
        to_facet (first_index p.grid j + 0) F (let e = i.2 in let k = block_agrees p j 0 (size-positive ok j l) in cc),
      )
  cover (by_link t ht l) =
      let e : points_of p (coefficients_of p t) ≡ t = points_of_coefficients_of ok t (parts p t ht).grid_points in
      let f : link t ≡ link (points_of p (coefficients_of p t)) = ap (λ (z : Simplex). link z) (sym e) in
      ⊎_elim (λ X. inl (X.0, X.1, X.2, to_place (coefficients_of p t) X.3 (ap (coefficients_of p) e) f))
      (λ X. inr (to_larger (coefficients_of p t) X (ap (coefficients_of p) e) f))
      (exit A (from-same (blocks_of p) (label_of p) A (link_of ok s h own t ht l)))

  -- and each of these is a way
  link_way : {x : List (ℕ → ℕ)} → Link (blocks_of p) (label_of p) (coefficients_of p s) x
      → IsWay p s (link (points_of p x)) × (coefficients_of p (points_of p x) ≡ x)
  link_way {x} L = let r = of_link ok s h L in (by_link (points_of p x) r.0 r.1, r.2)

  through : (i : ℕ) → i ≤ suc n → Carry i → (w : Way) × IsWay p s w × By i w
  through i l c =
      ⊎_elim (λ X. let r = link_way X.2 in (link (points_of p X.0), r.0, to_place X.0 X.1 r.1 refl))
      (λ X.
      let b = X.0 in let F = X.1 in
      let lb = block_of_lem p b (end_below ok s h n long i l F own) in (
        at_facet (remove_at i s) ((blocks_of p).block b),
        by_facet (remove_at i s) ((blocks_of p).block b) (in_facets s (omega arith) i (omega arith))
            (end-labels ok s h n long i l F) lb (end-complete ok s h n long i l F ((blocks_of p).block b) lb refl),
        to_facet b F refl,
      )) (facet_way A i l c)

  upward : {m : ℕ} → Extra (in_t p s) (suc n) label_at m → (w : Way) × IsWay p s w × Up w
  upward {m} X =
      ⊎_elim (λ Y. let r = link_way Y.2 in (link (points_of p Y.0), r.0, to_larger Y.0 Y.1 r.1 refl))
      (λ c.
      let b : ℕ = label_at m in
      let lb = block_of_lem p b (complete-below ok s on (suc n) long own b c) in (
        at_place s ((blocks_of p).block b),
        by_place ((blocks_of p).block b) lb (complete_of ok s on (suc n) long b ((blocks_of p).block b) lb refl c),
        to_end b c refl,
      )) (up_way A X)

  pub two_ways_lem : length (ways p s) ≡ 2
  two_ways_lem = ⊎_elim twice extra (kinds (label_of p) A.chain A.covers)
    where
      twice : (a : ℕ) × (b : ℕ) × Twice (in_t p s) (suc n) label_at a b → length (ways p s) ≡ 2
      twice W =
          let a = W.0 in let b = W.1 in let X = W.2 in
          let U = through a X.first X.less_first in
          let Z = through b X.second X.less_second in
          exactly_two p s h ok.same_number U.1 Z.1 (λ e. X.apart (by_determines X.first X.second U.2 (rw e Z.2)))
          (λ w k. ⊎_elim (λ Y. ⊎_elim (λ (e : Y.0 ≡ a). inl (by_one X.first (rw e at Y.3) U.2))
          (λ (e : Y.0 ≡ b). inr (by_one X.second (rw e at Y.3) Z.2)) (X.only Y.0 Y.1 Y.2))
          (λ Y. absurd (inside_not_up X Y)) (cover k))

      extra : (a : ℕ) × Extra (in_t p s) (suc n) label_at a → length (ways p s) ≡ 2
      extra W =
          let a = W.0 in
          let X = W.1 in
          let U = through a X.first X.less_first in
          let Z = upward X in
          exactly_two p s h ok.same_number U.1 Z.1
          (λ e. by_not_up U.2 (rw e Z.2))
          (λ w k. ⊎_elim
          (λ Y. inl (by_one X.first (rw (X.only Y.0 Y.1 Y.2) at Y.3) U.2))
          (λ Y. inr (up_one X Y Z.2))
          (cover k))

module _ {p : Problem} (ok : HasStart p) where
  abbrev v : Simplex
  v = p.start ∷ []

  -- the start has one way out
  start-one : all_labelled p v ≡ true → length (ways p v) ≡ 1
  start-one own = ⊎_elim by_l by_e (start-onward A)
    where
      h : is_place p v ≡ true
      h = start-place ok

      A : LabelledChain (blocks_of p) (label_of p) (in_t p v) 0 (at (order p.grid v)) (coefficients_of p v)
      A = labelled_chain_of ok v h

      by_l : (x : List (ℕ → ℕ)) × Link (blocks_of p) (label_of p) (coefficients_of p v) x → length (ways p v) ≡ 1
      by_l X = go (of_link ok v h X.1)
        where
          go : (is_place p (points_of p X.0) ≡ true) × (linked p v (points_of p X.0) ≡ true)
              × (coefficients_of p (points_of p X.0) ≡ X.0)
              → length (ways p v) ≡ 1
          go r = exactly_one p v h ok.same_number (by_link (points_of p X.0) r.0 r.1) (λ w k. all w k)
            where
              all : (w : Way) → IsWay p v w → w ≡ link (points_of p X.0)
              all w (by_place j l c) = absurd (start_not_both A X.1 (first_index p.grid j + 0)
                  (complete-to ok v (parts p v h).grid_points 0 refl j l c))
              all w (by_facet f j m q l c) = absurd_bool (sym m)
              all w (by_link t ht l) =
                  let e : coefficients_of p t ≡ X.0 =
                  one (blocks_of p) (label_of p) refl (link_of ok v h own t ht l) X.1 in
                  ap (λ (z : Simplex). link z)
                  (sym (points_of_coefficients_of ok t (parts p t ht).grid_points) ∙ ap (points_of p) e)

      by_e : (b : ℕ) × PlaceEnd (blocks_of p) (label_of p) 0 (coefficients_of p v) b → length (ways p v) ≡ 1
      by_e X =
          let b = X.0 in
          let lb = block_of_lem p b (complete-below ok v (parts p v h).grid_points 0 refl own b X.1) in
          exactly_one p v h ok.same_number
          (by_place ((blocks_of p).block b) lb
          (complete_of ok v (parts p v h).grid_points 0 refl b ((blocks_of p).block b) lb refl X.1))
          (λ w k. all w k)
        where
          all : (w : Way) → IsWay p v w → w ≡ at_place v ((blocks_of p).block X.0)
          all w (by_place j l c) = ap (λ (k : ℕ). at_place v k)
              (sym (block_agrees p j 0 (size-positive ok j l))
              ∙ start-one-end A (first_index p.grid j + 0) X.0 (complete-to ok v (parts p v h).grid_points 0 refl j l c)
              X.1)
          all w (by_facet f j m q l c) = absurd_bool (sym m)
          all w (by_link t ht l) = absurd (start_not_both A (link_of ok v h own t ht l) X.0 X.1)

  -- a place of one point is the start
  pub zeroes : (y : Point) → is_place p (y ∷ []) ≡ true → coefficient_of p y ≡ (λ k. 0)
  zeroes y h =
      let A = labelled_chain_of ok (y ∷ []) h in
      fun_ext (start-only (blocks_of p)
      (λ k. ⊎_elim
      (λ e. absurd (let w = A.chain.order.all k e in omega (arith, w.1)))
      (λ e. e)
      (true_or_false (in_t p (y ∷ []) k)))
      (at (order p.grid (y ∷ []))) A.chain)

  only-start : (y : Point) → is_place p (y ∷ []) ≡ true → y ≡ p.start
  only-start y h =
      sym (point_coefficient_of ok y (and_left (is_grid_point p.grid y) true (parts p (y ∷ []) h).grid_points))
      ∙ ap (point_of p) (zeroes y h ∙ sym (zeroes p.start (start-place ok))) ∙ point_coefficient_of ok p.start ok.start

  pub single : (s : Simplex) → is_place p s ≡ true → length s ≡ 1 → s ≡ p.start ∷ []
  single [] h e = absurd (omega arith)
  single (y ∷ []) h e = ap (λ (z : Point). z ∷ []) (only-start y h)
  single (y ∷ z ∷ s) h e = absurd (omega arith)

  pub two_ways : TwoWays p
  two_ways = record { start = start-one; other = λ s h own ne. go s h own ne (length (order p.grid s)) refl }
    where
      go : (s : Simplex) → is_place p s ≡ true → all_labelled p s ≡ true → (s ≡ p.start ∷ [] → ⊥) → (t : ℕ)
          → length (order p.grid s) ≡ t
          → length (ways p s) ≡ 2
      go s h own ne zero e = absurd (ne (single s h (place-long ok s h ∙ ap suc e)))
      go s h own ne (suc n) e = two_ways_lem ok s h own (place-long ok s h ∙ ap suc e) (rw e at (labelled_chain_of ok s h))

-- demand 3, of every accepted table
pub demand3_holds : {p : Problem} → HasTable p → Demand3 p
demand3_holds {p} ok = demand3 ok (two_ways ok.has_start)

-- a path that reached an end
pub ended-path : {p : Problem} → HasTable p → {e : End} → (path p).end ≡ some e → IsPath p (path p).visited e × NoGap p
ended-path ok {e} q = (path-is ok (two_ways ok.has_start) e q, no_gap ok (two_ways ok.has_start) e q)

-- a path has no gap exactly if it has an end
pub gapless : {p : Problem} → HasTable p → NoGap p ↔ ((e : End) × ((path p).end ≡ some e))
gapless {p} ok = (ends-known ok (two_ways ok.has_start), (λ e. no_gap ok (two_ways ok.has_start) e.0 e.1))

-- what a run that goes from place to place needs: its places are the path's,
pub run-follows : {p : Problem} → HasTable p → (s : List Simplex) → Follows p s → (i : ℕ) → i < length s
    → (i < path_length p) × (place_at s i ≡ place_at (path p).visited i) × (left_at s i ≡ left_at (path p).visited i)
run-follows {p} ok = follows-path ok (two_ways ok.has_start)

-- and where they have come to an end or a gap, they are all of them
pub run-whole : {p : Problem} → HasTable p → (s : List Simplex) → Follows p s → Final p s → s ≡ (path p).visited
run-whole {p} ok = whole-path ok (two_ways ok.has_start)
