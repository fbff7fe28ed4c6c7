-- From single moves to the path of document 01: a state that stands at a place of the path goes on to the next place or
-- to the path's end. The run's proof cites of it `At`, `EndsAt`, `NextAt` and their laws: at_begin, at-below, at-spent,
-- at-T, at_U, at_reads, at_ready, at_next and ends-answer. Assumes nothing.
use mathlib.Core.Bool.{Bool, true, false, ◌&&◌, cond}
use mathlib.Core.List.{List, [], ◌∷◌, ◌++◌}
use mathlib.Core.Logic.{inl, inr, ⊎_elim}
use mathlib.Core.Option.{Option, none, some}
use mathlib.Core.Path.{◌≡◌, refl, sym, ap, ◌∙◌, subst}
use Prim.Native.Nat.{ℕ, zero, suc, pred, ◌+◌, ◌-◌, ◌≤◌, ◌<◌}
use borrow.Author.Tests.{lt-ltb, le-ltb, le-leb, lt-leb}
use lib.Dec.{eqb, leb, ltb}
use lib.ListN.{length, length-append, length-map, get_or-replicate, get_or-append}
use lib.Seq.{get_or_at}
use native.Mathlib.Omega.{arith}
use Rattle.combinatorics.proofs.Basics.{absurd_bool, true_or_false, before_or_not}
use Rattle.combinatorics.specs.Edits.{remove_at}
use Rattle.combinatorics.specs.Lists.{is_in}
use Rattle.end_kinds.specs.declared.Kind.{Kind}
use Rattle.end_kinds.specs.declared.Kind.TheVariants.{Facet as facet_end, Place as place_end}
use Rattle.geometry.proofs.Definitions.{zeros, Omit}
use Rattle.geometry.proofs.Search.{block_back}
use Rattle.geometry.proofs.Points.{nth}
use Rattle.geometry.proofs.LabelledChains.{list_at, LabelledChain, FacetEnd, PlaceEnd}
use Rattle.grid_points.proofs.Points.{on_points}
use Rattle.grid_points.specs.Grid.{at, num_blocks, num_indices, num_points, dimension, block_of, is_grid_point, position}
use Rattle.grid_points.specs.Grid.{same_point}
use Rattle.path_laws.proofs.BlocksOfGrid.{blocks_of, back_below, point_of, coefficient_of, coord_in, coord_out}
use Rattle.path_laws.proofs.BlocksOfGrid.{coefficient_of_is}
use Rattle.path_laws.proofs.Bound.{order-short}
use Rattle.path_laws.proofs.ChainEnds.{complete_of, complete-below, end_below, end-complete, end-labels}
use Rattle.path_laws.proofs.ChainLinks.{of_link}
use Rattle.path_laws.proofs.Filled.{FullyLabelled, full_table, full_place}
use Rattle.path_laws.proofs.FromChain.{back-again, place_of, long, points_of-grid, T-is, in_U}
use Rattle.path_laws.proofs.LabelsRead.{link-brings}
use Rattle.path_laws.proofs.LinkSymmetry.{parts}
use Rattle.path_laws.proofs.Positions.{at_in}
use Rattle.path_laws.proofs.Run.{below_length, not_start, ends-path, goes_on_lem}
use Rattle.path_laws.proofs.Start.{start-place}
use Rattle.path_laws.proofs.Theorem.{demand3_holds, run-follows, zeroes, single, block_of_lem, in_facets}
use Rattle.path_laws.proofs.ToChain.{in_t, coefficients_of, points_of, label_of, place-long, labelled_chain_of}
use Rattle.path_laws.proofs.ToChain.{points_of_coefficients_of}
use Rattle.path_laws.proofs.Ways.{IsWay, by_place, by_facet}
use Rattle.path_laws.specs.Demand.{Follows, place_at, left_at}
use Rattle.positions.specs.Falls.{tail_from}
use Rattle.place.specs.Coefficients.{IsCoefficients, coefficients}
use Rattle.place.specs.Ends.{stop}
use Rattle.place.specs.LabelsRead.{came_in, labels_read, point_came_in}
use Rattle.place.specs.Links.{linked}
use Rattle.place.specs.Path.{path, path_length, answer, spent, ended}
use Rattle.place.specs.Places.{Simplex, order, set_t, set_u, all_labelled}
use Rattle.place.specs.Problem.{Problem}
use Rattle.rules.specs.Mask.{bit}
use Rattle.rules.specs.Read.{array_of, point_gone, point_in, points_from, read, step_at, source_at, position_at, above}
use Rattle.rules.specs.Read.{MovedAt, Exchanged, FallsBeside, CanCompute}
use Rattle.rules.specs.Ready.{IsRound, Ready}
use Rattle.rules.specs.Moves.{State, After, goes, ends_at_place, ends_at_facet, mark_position, make_move, begun}
use Rattle.rules.specs.declared.Round.{Round}
use Rattle.rules.proofs.Describes.{Describes, mark_at, MarksBut, Came, begins, through, from_larger, Reached}
use Rattle.rules.proofs.Masks.{bit-none}
use Rattle.rules.proofs.Move.{Outcome, at_place_end, at_facet_end, goes_on, Onward, onward}
use Rattle.rules.proofs.Marks.{mark-position}
use Rattle.rules.proofs.OneBlock.{lag_is, first-same, falling}
use Rattle.rules.proofs.Range.{nth_points_of, point-on}
use Rattle.rules.proofs.Shifted.{shifted-moved}
use Rattle.rules.proofs.StatePoints.{order_below, after_is, ready-point, point-is, moved_on, all-points}
use Rattle.rules.proofs.StatePoints.{later-points}
use Rattle.rules.proofs.WaysRound.{block_same, source-from}

-- the place just left is that of the chain, if any
abbrev LeftIs : Problem → Option (List (ℕ → ℕ)) → Option Simplex → Type 0
LeftIs p none q = q ≡ none
LeftIs p (some l) q = (q ≡ some (points_of p l)) × (coefficients_of p (points_of p l) ≡ l)

-- the state describes a place to which some link has led, if any
pub record Stands (p : Problem) (s : State) : Type 0 where
  T : ℕ → Bool
  t : ℕ
  o : ℕ → ℕ
  x : List (ℕ → ℕ)
  describes : Describes p T t o x s
  left : Option (List (ℕ → ℕ))
  came : Came p T t x s left

-- the state stands at place number k, from 0, of a list of places that follows the path
pub record At (p : Problem) (s : State) (k : ℕ) : Type 0 where
  places : List Simplex
  many : length places ≡ suc k
  follows : Follows p places
  stands : Stands p s
  here : place_at places k ≡ points_of p stands.x
  before : LeftIs p stands.left (left_at places k)

-- the state e stands at the path's end, after k + 1 places: an end of the kind given, for the block of h, whose points
-- are those of e from number `from` on
pub record EndsAt (p : Problem) (kind : Kind) (from : ℕ) (e : State) (h k : ℕ) : Type 0 where
  pub first_length : length e.first ≡ 16
  pub index : h < num_indices p.grid
  pub few : length e.order ≤ dimension p.grid
  pub low : from ≤ length e.order
  pub points : CanCompute e (length e.order)
  pub end : (path p).end ≡ some (record { kind = kind; block = block_of p.grid h; simplex = points_from p e from })
  pub places : path_length p ≡ suc k

-- what a move from place number k gives: a state at the next place, or the path's end
pub data NextAt (p : Problem) (k : ℕ) : After → Type 0 where
  next_place : {e : State} → At p e (suc k) → NextAt p k (goes e)
  place_ends : {e : State} {h : ℕ} → EndsAt p place_end 0 e h k → NextAt p k (ends_at_place e h)
  facet_ends : {e : State} {h : ℕ} → EndsAt p facet_end 1 e h k → NextAt p k (ends_at_facet e h)

-- and so it is the answer, within the budget
pub ends-answer : {p : Problem} {kind : Kind} {from : ℕ} {e : State} {h k : ℕ} → EndsAt p kind from e h k → (budget : ℕ)
    → k < budget
    → answer p budget
    ≡ ended (suc k) (suc (came_in (path p).visited k)) kind (suc (block_of p.grid h)) (length (points_from p e from))
    (points_from p e from)
unfolding answer labels_read
ends-answer {p} E budget l = rw (E.end, le-ltb budget (path_length p) (omega (arith, E.places)), E.places)

-- a place end, and a facet end without the first point, are ways out of the place
module _ {p : Problem} (ok : FullyLabelled p) {T : ℕ → Bool} {t : ℕ} {o : ℕ → ℕ} {x : List (ℕ → ℕ)}
    (S : LabelledChain (blocks_of p) (label_of p) T t o x) (h : ℕ) where
  abbrev a : Simplex
  a = points_of p x

  own : all_labelled p a ≡ true
  own = full_place ok a (place_of ok.has_start S)

  pub place_way : PlaceEnd (blocks_of p) (label_of p) t x h
      → (h < num_indices p.grid) × IsWay p a (stop (record { kind = place_end; block = block_of p.grid h; simplex = a }))
  place_way c =
      let d : PlaceEnd (blocks_of p) (label_of p) t (coefficients_of p a) h = rw (back-again ok.has_start S) c in
      let l = complete-below ok.has_start a (points_of-grid ok.has_start S) t (long ok.has_start S) own h d in
      let j = block_of_lem p h l in (
        l,
        rw (← (block_same p h l))
            (by_place ((blocks_of p).block h) j
            (complete_of ok.has_start a (points_of-grid ok.has_start S) t (long ok.has_start S) h ((blocks_of p).block h) j
            refl d)),
      )

  pub facet_way : {n : ℕ} → t ≡ suc n → FacetEnd (blocks_of p) (label_of p) T n x 0 h
      → (h < num_indices p.grid)
      × IsWay p a (stop (record { kind = facet_end; block = block_of p.grid h; simplex = remove_at 0 a }))
  facet_way {n} e F =
      let q = place_of ok.has_start S in
      let many : length a ≡ suc (suc n) = long ok.has_start S ∙ ap suc e in
      let G : FacetEnd (blocks_of p) (label_of p) (in_t p a) n (coefficients_of p a) 0 h =
      rw (back-again ok.has_start S) (rw (T-is ok.has_start S) F)
      in
      let l = end_below ok.has_start a q n many 0 (omega arith) G own in
      let j = block_of_lem p h l in (
        l,
        rw (← (block_same p h l))
            (by_facet (remove_at 0 a) ((blocks_of p).block h) (in_facets a (omega arith) 0 (omega arith))
            (end-labels ok.has_start a q n many 0 (omega arith) G) j
            (end-complete ok.has_start a q n many 0 (omega arith) G ((blocks_of p).block h) j refl)),
      )

-- the place just left, as a list of points and as a chain
left_of : (p : Problem) (left : Option (List (ℕ → ℕ))) (q : Option Simplex) → LeftIs p left q → (l : List (ℕ → ℕ))
    → left ≡ some l
    → q ≡ some (points_of p l)
left_of p none q b l e = absurd_bool (cc)
left_of p (some d) q b l e = let z : d ≡ l = cc in b.0 ∙ ap (λ (x : List (ℕ → ℕ)). some (points_of p x)) z

left_determines : (p : Problem) (left : Option (List (ℕ → ℕ))) (q : Option Simplex) → LeftIs p left q
    → (y : List (ℕ → ℕ)) → coefficients_of p (points_of p y) ≡ y → q ≡ some (points_of p y) → left ≡ some y
left_determines p none q b y c e = absurd_bool (cc)
left_determines p (some l) q b y c e =
    let d = b.0 in
    let z : points_of p l ≡ points_of p y = cc in
    ap (λ (x : List (ℕ → ℕ)). some x) (sym b.1 ∙ ap (coefficients_of p) z ∙ c)

-- a list less one element has the others, and they stand in the list
kept : {A : Type 0} {n i : ℕ} {p q : ℕ → A} → Omit n i p q → i ≤ n → (j : ℕ) → j ≤ n → (j ≡ i → ⊥)
    → (f : ℕ) × (f < n) × (q f ≡ p j)
kept {n} {i} {p} m c j l ne =
    ⊎_elim (λ (d : j < i). (j, omega arith, m.lower j (omega arith) d))
    (λ (d : i ≤ j). let z : suc (pred j) ≡ j = omega (arith, ne) in
    (pred j, omega (arith, ne), m.upper (pred j) (omega (arith, ne)) (omega (arith, ne)) ∙ ap p z)) (before_or_not j i)

stands : {A : Type 0} {n i : ℕ} {p q : ℕ → A} → Omit n i p q → (f : ℕ) → f < n → (g : ℕ) × (g ≤ n) × (p g ≡ q f)
stands {n} {i} m f l = ⊎_elim
    (λ (d : f < i). (f, omega arith, sym (m.lower f l d)))
    (λ (d : i ≤ f). (suc f, omega arith, sym (m.upper f l d)))
    (before_or_not f i)

module _ (p : Problem) (T : ℕ → Bool) (t : ℕ) (x : List (ℕ → ℕ)) (s : State) where
  -- the place just left has every point but the one that has come in, and after rules 6 and 7 every one
  others : {left : Option (List (ℕ → ℕ))} → Came p T t x s left → (j : ℕ) → j ≤ t → (s.rule < 6 → j ≡ s.active → ⊥)
      → (l : List (ℕ → ℕ)) × (left ≡ some l) × (g : ℕ) × (g < length l) × (list_at l g ≡ list_at x j)
  others (begins e u r) j c ne = absurd (ne r (omega arith))
  others (through n l e low z r b carry (inl X) C) j c ne =
      let B = X.1.2 in
      let f = kept B.omits_here (omega arith) j (omega arith) (ne r) in
      let g = stands B.omits_there f.0 f.1 in
      (l, refl, g.0, omega (arith, X.0, g.1), g.2 ∙ f.2)
  others (through n l e low z r b carry (inr X) C) j c ne =
      let f = kept X.1.3 (omega arith) j (omega arith) (ne r) in
      (l, refl, f.0, omega (arith, X.0, f.1), f.2)
  others (from_larger l low r q b e X) j c ne =
      let w = X.4.part j c in
      (l, refl, w.0, omega (arith, w.1, X.3.size), w.2)

  active-at-most : {left : Option (List (ℕ → ℕ))} → Came p T t x s left → s.active ≤ t
  active-at-most (begins e u r) = omega arith
  active-at-most (through n l e low q r b carry X C) = low
  active-at-most (from_larger l low r q a e X) = low

-- the start
module _ {p : Problem} (ok : FullyLabelled p) where
  abbrev v : Simplex
  v = p.start ∷ []

  start-chain : LabelledChain (blocks_of p) (label_of p) (in_t p v) 0 (at (order p.grid v)) (coefficients_of p v)
  start-chain = labelled_chain_of ok.has_start v (start-place ok.has_start)

  start-coefficients : IsCoefficients p p.start (coefficients p p.start)
  start-coefficients = coefficient_of_is ok.has_start p.start ok.has_start.start

  start-T : (k : ℕ) → in_t p v k ≡ false
  start-T k = ⊎_elim
      (λ e. let w = start-chain.chain.order.all k e in absurd (omega (arith, w.1)))
      (λ e. e)
      (true_or_false (in_t p v k))

  start-U : (k : ℕ)
      → zeros (blocks_of p) (in_t p v) (coefficient_of p p.start) k ≡ (ltb k (num_indices p.grid) && eqb (at p.start k) 0)
  unfolding zeros
  start-U k =
      ⊎_elim (λ (l : k < num_indices p.grid). rw (start-T k, lt-ltb k _ l, coord_in p start-coefficients k l))
      (λ (l : num_indices p.grid ≤ k). rw (start-T k, le-ltb k _ l, coord_out p start-coefficients k l))
      (before_or_not k (num_indices p.grid))

  module _ {round : Round} (N : IsRound p.grid round) (first : List ℕ) (mask : ℕ) (size : length first ≡ 16)
      (same : (k : ℕ) → k < num_indices p.grid → at first k ≡ at p.start k)
      (zero-at : (k : ℕ) → k < 16 → bit mask k ≡ (ltb k (num_indices p.grid) && eqb (at p.start k) 0)) where
    start-zeros : (k : ℕ) → k < 16 → bit mask k ≡ zeros (blocks_of p) (in_t p v) (list_at (coefficients_of p v) 0) k
    start-zeros k l = zero-at k l ∙ sym (start-U k)

    pub start_describes : Describes p (in_t p v) 0 (at (order p.grid v)) (coefficients_of p v) (begun round first mask)
    start_describes = record {
      chain = start-chain;
      round = N;
      order_length = refl;
      order_at = λ j l. absurd (omega arith);
      first_length = size;
      first_at = λ k l. same k l ∙ sym (coord_in p start-coefficients k l);
      coefficients_length = refl;
      coefficients_at =
          λ k l. get_or-replicate 16 k 0 0 (omega (arith, ok.has_start.sixteen_indices))
          ∙ ap (λ (c : ℕ → ℕ). c k) (sym (zeroes ok.has_start p.start (start-place ok.has_start)));
      in_t = λ k l. bit-none k l ∙ sym (start-T k);
      in_u = start-zeros;
      marks_length = refl;
    }

    pub at_begin : At p (begun round first mask) 0
    at_begin = record {
      places = v ∷ [];
      many = refl;
      follows = record {
        nonempty = omega arith;
        begins = refl;
        places = λ i l. let e : i ≡ 0 = omega arith in rw e (start-place ok.has_start);
        links = λ i l. absurd (omega arith);
        onward = λ i l. absurd (omega arith);
        passes = λ i l. absurd (omega arith);
        known = λ i l. absurd (omega arith);
      };
      stands = record {
        T = in_t p v;
        t = 0;
        o = at (order p.grid v);
        x = coefficients_of p v;
        describes = start_describes;
        left = none;
        came = begins refl refl (omega arith);
      };
      here = sym (points_of_coefficients_of ok.has_start v (parts p v (start-place ok.has_start)).grid_points);
      before = refl;
    }

  -- the path has more than k places, so that a budget up to k is spent
  pub at_first : {s : State} {k : ℕ} → At p s k → length s.first ≡ 16
  at_first A = A.stands.describes.first_length

  pub at-below : {s : State} {k : ℕ} → At p s k → k < path_length p
  at-below {k} A = below_length (full_table ok) A.follows k A.many

  pub at-spent : {s : State} {k : ℕ} → At p s k → (budget : ℕ) → budget ≤ k → answer p budget ≡ spent budget
  at-spent {s} {k} A budget l = ((demand3_holds (full_table ok)).spends budget).1 (omega (arith, at-below A))

-- a place to which a link has led is one at which a state stands
abbrev pub reached-stands : {p : Problem} {x : List (ℕ → ℕ)} {s : State} {y : List (ℕ → ℕ)} → Reached p x s y
    → Stands p s
reached-stands {p} {x} {s} {y} R = record {
  T = R.T;
  t = R.t;
  o = R.o;
  x = y;
  describes = R.describes;
  left = some x;
  came = R.came;
}

module _ {p : Problem} (ok : FullyLabelled p) {s : State} (A : Stands p s) where
  -- the point whose label is to be read can be computed, and is a grid point
  pub stands-reads : CanCompute s s.active × (is_grid_point p.grid (point_in p s s.active) ≡ true)
  stands-reads =
      let low = active-at-most p A.T A.t A.x s A.came in (
        ready-point ok A.describes s.active low,
        rw (point-is ok A.describes s.active low) (point-on ok A.describes.chain s.active low),
      )

  abbrev D : Describes p A.T A.t A.o A.x s
  D = A.describes

  -- request 10: the place just left has more points exactly where no mark is to be read
  no_fewer : {left : Option (List (ℕ → ℕ))} → Came p A.T A.t A.x s left → (l : List (ℕ → ℕ)) → left ≡ some l
      → leb (length l) (length A.x) ≡ ltb s.rule 6
  no_fewer (begins e u r) l q = absurd_bool (cc)
  no_fewer (through n d e low z r b carry (inl X) C) l q =
      let w : d ≡ l = cc in
      le-leb (length l) (length A.x) (omega (arith, ap length w, X.0, D.chain.size)) ∙ sym (lt-ltb s.rule 6 r)
  no_fewer (through n d e low z r b carry (inr X) C) l q =
      let w : d ≡ l = cc in
      le-leb (length l) (length A.x) (omega (arith, ap length w, X.0, D.chain.size)) ∙ sym (lt-ltb s.rule 6 r)
  no_fewer (from_larger d low r m b e X) l q =
      let w : d ≡ l = cc in
      lt-leb (length l) (length A.x) (omega (arith, ap length w, X.3.size, X.4.sizes, D.chain.size))
      ∙ sym (le-ltb s.rule 6 r)

  -- where two steps have changed places, the marks of the others stand, and that of the point that left
  crossing : Came p A.T A.t A.x s A.left → s.rule ≡ 1 → 0 < s.active → s.active < A.t
      → MarksBut p A.t A.x s s.active × (1 ≤ at (array_of s (s.active - 1)) (source_at s s.active))
      × (is_grid_point p.grid (point_gone p.grid s) ≡ true)
      × (position_at s s.active ≡ position p.grid (point_gone p.grid s))
  crossing C one more low = go A.left C
    where
      go : (left : Option (List (ℕ → ℕ))) → Came p A.T A.t A.x s left
          → MarksBut p A.t A.x s s.active × (1 ≤ at (array_of s (s.active - 1)) (source_at s s.active))
          × (is_grid_point p.grid (point_gone p.grid s) ≡ true)
          × (position_at s s.active ≡ position p.grid (point_gone p.grid s))
      go _ (begins e u r) = absurd (omega arith)
      go _ (through n l e w q r b carry X C) = let d = C one more low in (b, d.0, d.1, d.2)
      go _ (from_larger l w r q b e X) = absurd (omega arith)

  own-position : (i : ℕ) → i ≤ A.t → at s.marks i ≡ mark_at p (list_at A.x i)
      → position_at s i ≡ position p.grid (point_in p s i)
  own-position i l e = ap mark_position e
      ∙ mark-position ok D.chain i l
      ∙ ap (position p.grid) (sym (point-is ok D i l ∙ nth_points_of p A.x i (omega (arith, D.chain.size))))

  marked-position : MarksBut p A.t A.x s s.active → (i : ℕ) → i ≤ A.t → (i ≡ s.active → ⊥)
      → position_at s i ≡ position p.grid (point_in p s i)
  marked-position b i l n = own-position i l (b i l n)

  -- there is a mark for each point,
  pub stands-long : length s.marks ≡ suc (length s.order)
  stands-long = D.marks_length ∙ ap suc (sym D.order_length)

  -- and each point but the one that has come in has its position in its mark
  pub stands-marks : (i : ℕ) → i ≤ length s.order → (s.rule < 6 → i ≡ s.active → ⊥)
      → position_at s i ≡ position p.grid (point_in p s i)
  stands-marks i c ne = go A.left A.came
    where
      low : i ≤ A.t
      low = omega (arith, D.order_length)

      go : (left : Option (List (ℕ → ℕ))) → Came p A.T A.t A.x s left → position_at s i ≡ position p.grid (point_in p s i)
      go _ (begins e u r) = absurd (ne r (omega arith))
      go _ (through n l e w q r b carry X C) = marked-position b i low (ne r)
      go _ (from_larger l w r q b e X) = own-position i low (b i low)

  pub stands-exchanged : s.rule ≡ 1 → 0 < s.active → s.active < length s.order → Exchanged p.grid s
  stands-exchanged one more few =
      let low : s.active < A.t = omega (arith, D.order_length) in
      let c = crossing A.came one more low in
      let z : suc (s.active - 1) ≡ s.active = omega arith in
      let y = after_is ok D (s.active - 1) (omega arith) in
      let on : (i : ℕ) → i ≤ A.t → is_grid_point p.grid (point_in p s i) ≡ true = λ i l.
      rw (point-is ok D i l) (point-on ok D.chain i l) in
      let mark = marked-position c.0 in
      record {
        low = few;
        near = on (s.active - 1) (omega arith);
        here = on s.active (omega arith);
        gone = c.2;
        far = on (suc s.active) (omega arith);
        to_here = subst
            (λ (i : ℕ). MovedAt p.grid s (s.active - 1) (point_in p s (s.active - 1)) (point_in p s i))
            z (moved_on ok D (s.active - 1) (omega arith));
        to_gone = shifted-moved (array_of s (s.active - 1)) (step_at s s.active) (source_at s s.active) (num_indices p.grid)
            c.1 (omega (arith, y.0, ok.has_start.sixteen_indices));
        to_far = moved_on ok D s.active low;
        indices = λ j l.
            let jl : j < A.t = omega (arith, D.order_length) in
            let h : at s.order j < num_indices p.grid = rw (D.order_at j jl) (order_below ok D j jl) in
            let w = source-from ok D (at s.order j) h in (
              h,
              rw w.3
                  (sym (block_same p _ (back_below p w.0 (at s.order j) h))
                  ∙ block_back (blocks_of p) w.0 (at s.order j)
                  ∙ block_same p (at s.order j) h),
            );
        near_mark = mark (s.active - 1) (omega arith) (λ q. omega arith);
        gone_mark = c.3;
        far_mark = mark (suc s.active) (omega arith) (λ q. omega arith);
      }

  -- in a grid of one block: the steps to and from the point whose label is to be read
  pub stands-beside : s.rule < 6 → num_points p.grid ≤ 60000 → num_blocks p.grid ≡ 1 → (tails : List ℕ)
      → ((k : ℕ) → k < num_indices p.grid → at tails k ≡ tail_from p.grid p.start k)
      → FallsBeside p.grid tails s
  stands-beside r few_points one tails are = go A.left A.came
    where
      go : (left : Option (List (ℕ → ℕ))) → Came p A.T A.t A.x s left → FallsBeside p.grid tails s
      go _ (begins e u q) = record {
        near_mark = λ l. absurd (omega arith);
        far_mark = λ l. absurd (omega (arith, D.order_length));
        from_near = λ l b. absurd (omega arith);
        to_far = λ l b. absurd (omega (arith, D.order_length));
      }
      go _ (through n l e w q m b carry X C) =
          let mark = marked-position b in
          let lag : (i : ℕ) → i ≤ A.t → (i ≡ s.active → ⊥) → 0 < s.active
          → list_at A.x i 0 ≡ list_at A.x 0 0 + above s i = λ i a u v.
          rw (mark i a u, mark 0 (omega arith) (λ z. omega arith)) (lag_is ok few_points one D i a) in
          record {
            near_mark = λ a. mark (s.active - 1) (omega arith) (λ z. omega arith);
            far_mark = λ a. mark (suc s.active) (omega (arith, D.order_length)) (λ z. omega arith);
            from_near = λ a c. falling ok few_points one D (s.active - 1) (omega arith) c tails are _
                (lag (s.active - 1) (omega arith) (λ z. omega arith) a);
            to_far = λ a c.
                let f : s.active < A.t = omega (arith, D.order_length) in
                falling ok few_points one D s.active f c tails are (cond (ltb 0 s.active) (above s (suc s.active)) 0)
                (⊎_elim
                (λ (z : 0 < s.active). rw (lt-ltb 0 s.active z)
                (sym (first-same ok few_points one D s.active f c) ∙ lag (suc s.active) f (λ u. omega arith) z))
                (λ (z : s.active ≤ 0).
                let y : s.active ≡ 0 = omega arith in
                rw (le-ltb 0 s.active z, y) (omega arith))
                (before_or_not 0 s.active));
          }
      go _ (from_larger l w q m b e X) = absurd (omega arith)

module _ {p : Problem} (ok : FullyLabelled p) {s : State} {k : ℕ} (A : At p s k) where
  pub at_reads : CanCompute s s.active × (is_grid_point p.grid (point_in p s s.active) ≡ true)
  at_reads = stands-reads ok A.stands

  pub at_long : length s.marks ≡ suc (length s.order)
  at_long = stands-long ok A.stands

  pub at-marks : (i : ℕ) → i ≤ length s.order → (s.rule < 6 → i ≡ s.active → ⊥)
      → position_at s i ≡ position p.grid (point_in p s i)
  at-marks = stands-marks ok A.stands

  pub at-exchanged : s.rule ≡ 1 → 0 < s.active → s.active < length s.order → Exchanged p.grid s
  at-exchanged = stands-exchanged ok A.stands

  pub at-beside : s.rule < 6 → num_points p.grid ≤ 60000 → num_blocks p.grid ≡ 1 → (tails : List ℕ)
      → ((k : ℕ) → k < num_indices p.grid → at tails k ≡ tail_from p.grid p.start k)
      → FallsBeside p.grid tails s
  at-beside = stands-beside ok A.stands

  -- "T and U are sets of at most 16 indices": bit h of each mask says whether index h is in the set of the path's place
  on-path : place_at (path p).visited k ≡ points_of p A.stands.x
  on-path = sym (run-follows (full_table ok) A.places A.follows k (omega (arith, A.many))).1 ∙ A.here

  pub at-T : (h : ℕ) → h < 16 → bit s.T h ≡ is_in eqb h (set_t p (place_at (path p).visited k))
  at-T h l = rw on-path
      (A.stands.describes.in_t h l ∙ sym (ap (λ (t : ℕ → Bool). t h) (T-is ok.has_start A.stands.describes.chain)))

  pub at_U : (h : ℕ) → h < 16 → bit s.U h ≡ is_in eqb h (set_u p.grid (place_at (path p).visited k))
  at_U h l = rw on-path (A.stands.describes.in_u h l ∙ sym (in_U ok.has_start A.stands.describes.chain h))

  abbrev described : Describes p A.stands.T A.stands.t A.stands.o A.stands.x s
  described = A.stands.describes

  here_place : (length (points_of p A.stands.x) ≡ suc A.stands.t)
      × (length (points_of p A.stands.x) ≡ suc (length (order p.grid (points_of p A.stands.x))))
  here_place = (
    long ok.has_start A.stands.describes.chain,
    place-long ok.has_start _ (place_of ok.has_start A.stands.describes.chain),
  )

  here-labelled : all_labelled p (place_at A.places k) ≡ true
  here-labelled = full_place ok _ (A.follows.places k (omega (arith, A.many)))

  move : Onward ok A.stands.T A.stands.t A.stands.o A.stands.x (read p s) A.stands.left
  move = onward ok A.stands.T A.stands.o A.stands.x s A.stands.t A.stands.describes A.stands.came (λ l q e.
      not_start (full_table ok) A.follows k A.many (points_of p l) (left_of p A.stands.left _ A.before l q)
      (A.here ∙ single ok.has_start _ (place_of ok.has_start A.stands.describes.chain) (here_place.0 ∙ ap suc e)))

  -- the path's place is that of the state
  pub at_place : place_at (path p).visited k ≡ points_from p s 0
  at_place = sym (run-follows (full_table ok) A.places A.follows k (omega (arith, A.many))).1
      ∙ A.here
      ∙ sym (all-points ok described)

  -- its points but the one that has come in are points of the path's place before
  pub at_others : (j : ℕ) → j ≤ length s.order → (s.rule < 6 → j ≡ s.active → ⊥)
      → (h : ℕ) × (suc h ≡ k) × (is_in same_point (point_in p s j) (place_at (path p).visited h) ≡ true)
  at_others j c ne = go k refl (left_of p A.stands.left _ A.before w.0 w.1)
    where
      low : j ≤ A.stands.t
      low = omega (arith, described.order_length)

      w : (l : List (ℕ → ℕ)) × (A.stands.left ≡ some l) × (g : ℕ) × (g < length l)
          × (list_at l g ≡ list_at A.stands.x j)
      w = others p A.stands.T A.stands.t A.stands.x s A.stands.came j low ne

      go : (i : ℕ) → k ≡ i → left_at A.places i ≡ some (points_of p w.0)
          → (h : ℕ) × (suc h ≡ k) × (is_in same_point (point_in p s j) (place_at (path p).visited h) ≡ true)
      go zero q e = absurd_bool (cc)
      go (suc h) q e =
          let z : place_at A.places h ≡ points_of p w.0 = cc in
          let f = (run-follows (full_table ok) A.places A.follows h (omega (arith, A.many))).1 in
          let y : point_in p s j ≡ nth (points_of p w.0) w.2 = point-is ok described j low
          ∙ nth_points_of p A.stands.x j (omega (arith, described.chain.size))
          ∙ ap (point_of p) (sym w.4)
          ∙ sym (nth_points_of p w.0 w.2 w.3) in (
            h,
            sym q,
            rw (← f, z, y) (at_in on_points [] (points_of p w.0) w.2 (omega (arith, w.3, length-map w.0 (point_of p)))),
          )

  -- the move keeps within its arrays and widths
  pub at_ready : Ready (read p s)
  at_ready = move.ready

  onto : {e : State} {y : List (ℕ → ℕ)} → (A.stands.left ≡ some y → ⊥) → Reached p A.stands.x e y → At p e (suc k)
  onto {e} {y} new R =
      let C = A.stands.describes.chain in
      let back = back-again ok.has_start C in
      let L = of_link ok.has_start _ (place_of ok.has_start C) (rw (← back) at R.link) in
      let joined : linked p (place_at A.places k) (points_of p y) ≡ true = rw A.here L.1 in
      record {
        places = A.places ++ (points_of p y ∷ []);
        many = length-append A.places (points_of p y ∷ []) ∙ omega (arith, A.many);
        follows = goes_on_lem (full_table ok) A.follows k A.many here-labelled (points_of p y) L.0 joined
            (λ q. new (left_determines p A.stands.left _ A.before y L.2 q));
        stands = reached-stands R;
        here = get_or_at A.places (points_of p y) [] [] (suc k) A.many;
        before = (
          ap (λ (z : Simplex). some z)
              (get_or-append A.places (points_of p y ∷ []) [] k (omega (arith, A.many)) ∙ A.here),
          back,
        );
      }

  -- at an end, that is the path's
  ends_at : (kind : Kind) (from : ℕ) (points : Simplex) (h : ℕ) → from ≤ A.stands.t
      → points_from p (read p s) from ≡ points
      → (h < num_indices p.grid)
      × IsWay p (points_of p A.stands.x) (stop (record { kind = kind; block = block_of p.grid h; simplex = points }))
      → EndsAt p kind from (read p s) h k
  ends_at kind from points h b c w =
      let D = move.describes in
      let r = ends-path (full_table ok) A.follows k A.many here-labelled
      (record { kind = kind; block = block_of p.grid h; simplex = points }) (rw A.here w.1) in
      record {
        first_length = D.first_length;
        index = w.0;
        few = omega (
          arith,
          D.order_length,
          here_place.0,
          here_place.1,
          order-short p _ (place_of ok.has_start A.stands.describes.chain),
        );
        low = omega (arith, D.order_length);
        points = ready-point ok D _ (omega (arith, D.order_length));
        end = rw c r.0;
        places = r.1;
      }

  pub at_next : NextAt p k (make_move (read p s))
  at_next = go move.outcome
    where
      go : {e : After} → Outcome p A.stands.T A.stands.t A.stands.x A.stands.left (read p s) e → NextAt p k e
      go (at_place_end h c) = place_ends (ends_at place_end 0 _ h (omega arith) (all-points ok move.describes)
          (place_way ok A.stands.describes.chain h c))
      go (at_facet_end h n z c) = facet_ends (ends_at facet_end 1 _ h (omega arith) (later-points ok move.describes)
          (facet_way ok A.stands.describes.chain h z c))
      go (goes_on y new R) = next_place (onto new R)

-- request 10: at a place behind the first a point has come in exactly where a mark is to be read
pub at_new : {p : Problem} → FullyLabelled p → {s : State} {k : ℕ} → At p s (suc k)
    → point_came_in (place_at (path p).visited k) (place_at (path p).visited (suc k)) ≡ ltb s.rule 6
at_new {p} ok {s} {k} A = go A.stands.left refl A.before
  where
    here : (i : ℕ) → i ≤ suc k → place_at A.places i ≡ place_at (path p).visited i
    here i l = (run-follows (full_table ok) A.places A.follows i (omega (arith, A.many))).1

    go : (left : Option (List (ℕ → ℕ))) → A.stands.left ≡ left → LeftIs p left (some (place_at A.places k))
        → point_came_in (place_at (path p).visited k) (place_at (path p).visited (suc k)) ≡ ltb s.rule 6
    go none e b = absurd_bool (cc)
    go (some l) e b =
        let a = place_at A.places k in
        let c = place_at A.places (suc k) in
        let linkage = A.follows.links k (omega (arith, A.many)) in
        let place = A.follows.places (suc k) (omega (arith, A.many)) in
        let left_is : a ≡ points_of p l = cc in
        let x : length a ≡ length l = ap length left_is ∙ length-map l (point_of p) in
        let y : length c ≡ length A.stands.x = ap length A.here ∙ length-map A.stands.x (point_of p) in
        rw (sym (here k (omega arith)), sym (here (suc k) (omega arith)))
        (link-brings p a c place linkage ∙ rw (x, y) (no_fewer ok A.stands A.stands.came l e))
