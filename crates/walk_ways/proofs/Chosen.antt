-- What the two moves from a recognised place give is what comes next. In order: the state lent; a way as a struct; the
-- way back; what is told. Assumes nothing.
use mathlib.Core.Bool.{Bool, true, false, ◌&&◌, cond}
use mathlib.Core.List.{List, [], ◌∷◌, map}
use mathlib.Core.Logic.{⊎_elim}
use mathlib.Core.Option.{some}
use mathlib.Core.Path.{◌≡◌, refl, sym, ap, ◌∙◌}
use Prim.Native.Nat.{ℕ, zero, suc, ◌+◌, ◌-◌, ◌*◌, ◌≤◌, ◌<◌}
use borrow.Author.Tests.{eqb-true, eq-eqb}
use lib.Dec.{eqb}
use lib.ListN.{length, get_or, take, length-map, length-take}
use lib.Seq.{get_or-take}
use native.Mathlib.Nat.{le_trans, mul-le-mul_left, mul-le-mul_right}
use native.Mathlib.Omega.{arith}
use Rattle.combinatorics.proofs.Basics.{absurd_bool, and_left, and_right, false_of, same_or, true_or_false}
use Rattle.combinatorics.proofs.Lists.{all_in}
use Rattle.combinatorics.proofs.Ranges.{length-up_from}
use Rattle.combinatorics.specs.Front.{front}
use Rattle.combinatorics.specs.Lists.{is_in, up_from}
use Rattle.end_kinds.specs.declared.Kind.TheVariants.{Facet as facet_end, Place as place_end}
use Rattle.grid.proofs.Fields.{made-indices}
use Rattle.grid_points.proofs.Points.{in_points, on_points, position_in_lem}
use Rattle.grid_points.specs.Grid.{Point, at, block_of, is_grid_point, num_indices, num_points, points, position}
use Rattle.grid.specs.Made.{shape}
use Rattle.grid.specs.declared.Grid.{Grid as GridStruct}
use Rattle.moves.specs.Held.{CanStep, state_of}
use Rattle.arrays.specs.declared.holding.Held.{Held}
use Rattle.path_laws.proofs.Accepted.{accepted_of, accepted-table}
use Rattle.path_laws.proofs.BlocksOfGrid.{back_below}
use Rattle.path_laws.proofs.Filled.{fill, filled_table, filled_full, filled-label}
use Rattle.path_laws.proofs.LinkSymmetry.{parts}
use Rattle.path_laws.proofs.Local.{set_t-same}
use Rattle.path_laws.proofs.Positions.{at_in}
use Rattle.path_laws.proofs.ToChain.{coefficients_of, points_of, points_of_coefficients_of}
use Rattle.path_laws.specs.Demand.{Accepted}
use Rattle.moves.specs.Room.{CanPut}
use Rattle.moves.specs.declared.Status.{Status}
use Rattle.place.specs.Ends.{link}
use Rattle.place.specs.Places.{Simplex, set_t, set_u}
use Rattle.place.specs.Problem.{Problem, label}
use Rattle.rules.proofs.Masks.{mask_t, mask_u}
use Rattle.rules.proofs.StatePoints.{ready-point}
use Rattle.rules.specs.Mask.{bit}
use Rattle.rules.specs.Read.{mark_of, point_in, points_from}
use Rattle.rules.specs.Ready.{Ready}
use Rattle.rules.proofs.Range.{index_below}
use Rattle.rules.proofs.WaysRound.{source-from}
use Rattle.rules.specs.Moves.{After, State, ends_at_facet, ends_at_place, goes, make_move, source_in}
use Rattle.rules.specs.declared.Round.{Round}
use Rattle.trail.specs.Change.{ByRule, change}
use Rattle.walks.proofs.Moved.{calls_hold}
use Rattle.walks.specs.Kept.{kept_points}
use Rattle.walks.specs.Next.{by_way, ended, move_answer, move_walk, moved, next_of, refused, rule_of}
use Rattle.walks.specs.Walk.{Walk}
use Rattle.walk_ways.proofs.Carried.{points-long}
use Rattle.walk_ways.proofs.Kept.{describes, full, place-filled}
use Rattle.walk_ways.proofs.ComesNext.{fits_a, fits_b, fits_v, ready_a, ready_b, ready_v}
use Rattle.walk_ways.proofs.Unknown.{unknown-only}
use Rattle.walk_ways.proofs.Ways.{Fits, described_masks}
use Rattle.walk_ways.specs.Lent.{LentPlace, kept_by, way_made}
use Rattle.walk_places.proofs.Alike.{place_same, same_place_lem}
use Rattle.walk_places.proofs.Held.{held-once, kept-before, stored-kept}
use Rattle.walk_ways.proofs.RuleMade.{rule-made}
use Rattle.walk_ways.proofs.RuleTold.{rule_told}
use Rattle.walk_ways.specs.Ends.{CanTellEnd, end_as, refused_as, told_as}
use Rattle.walk_ways.specs.Standing.{leads_back, next_in, IsRoundOf, Standing}
use Rattle.walk_places.specs.Walks.{before_of, kept_as, nowhere, place_of, same_place, stored, table_on, walk_on}
use Rattle.walk_ways.specs.Answers.{next_as}
use Rattle.walk_ways.specs.Ways.{CanTry, way_in}
use Rattle.walk_ways.specs.declared.Leads.TheVariants.{FacetEnd, PlaceEnd}
use Rattle.walk_places.specs.declared.Walk.{Walk as WalkStruct}

take_whole : (l : List ℕ) → take (length l) l ≡ l
take_whole [] = refl
take_whole (x ∷ l) = ap (λ (r : List ℕ). x ∷ r) (take_whole l)

map_fill : (ls : List ℕ) (i : ℕ) → i < length ls → get_or (map fill ls) i 0 ≡ fill (get_or ls i 0)
map_fill [] i l = absurd (omega arith)
map_fill (x ∷ ls) zero l = refl
map_fill (x ∷ ls) (suc i) l = map_fill ls i (omega arith)

module _ {g : GridStruct} {w : WalkStruct} {labels : List ℕ} {held : Held} {here : Status} {unknown : Bool}
    (S : Standing g w labels held here unknown) where
  abbrev pub p : Problem
  p = table_on g w labels

  abbrev pub y : Point
  y = take g.indices held.first

  abbrev pub o : List ℕ
  o = take here.count held.order

  abbrev s : Simplex
  s = kept_points (shape g) y o

  pub ok : Accepted p
  ok = accepted_of p S.asked

  pub m_is : g.indices ≡ num_indices (shape g)
  m_is = made-indices g S.made

  pub long-o : length o ≡ here.count
  long-o = length-take here.count held.order ∙ omega (arith, held.order_long, S.few)

  -- the label that is not yet known is that of the spare point
  pub only-unknown : (j : ℕ) → j ≤ here.count → label p (get_or s j []) ≡ 0 → j ≡ here.active
  only-unknown j l z = go here.count refl
    where
      go : (k : ℕ) → here.count ≡ k → j ≡ here.active
      go zero e = omega (arith, S.low)
      go (suc k) e =
          let low : here.active ≤ suc k = omega (arith, S.low) in
          unknown-only ok y o S.place k (long-o ∙ e) here.active j low (omega arith) S.spare z

  filled-mark : (j : ℕ) → j ≤ here.count
      → mark_of p (get_or s j []) + cond (unknown && eqb j here.active) 1 0 ≡ mark_of (filled_table p) (get_or s j [])
  unfolding label
  filled-mark j l =
      ⊎_elim (λ (z : label p (get_or s j []) ≡ 0).
      let e = only-unknown j l z in
      let un : unknown ≡ true = S.unknown_is ∙ eq-eqb _ 0 (ap (λ (i : ℕ). label p (get_or s i [])) (sym e) ∙ z) in
      let f : label (filled_table p) (get_or s j []) ≡ 1 =
      map_fill labels (position p.grid (get_or s j [])) low-position ∙ ap fill z in
      rw (un, eq-eqb j here.active e) (omega (arith, f, z)))
      (λ (z : label p (get_or s j []) ≡ 0 → ⊥).
      let f : label (filled_table p) (get_or s j []) ≡ label p (get_or s j []) =
      filled-label (accepted-table ok) (get_or s j [])
      (omega (arith, z)) in
      let c : (unknown && eqb j here.active) ≡ false = false_of _ (λ q. z (
      let un = and_left unknown (eqb j here.active) q in
      let e = eqb-true j here.active (and_right unknown (eqb j here.active) q) in
      ap (λ (i : ℕ). label p (get_or s i [])) e ∙ eqb-true _ 0 (sym S.unknown_is ∙ un))) in
      rw c (omega (arith, f)))
      (same_or (label p (get_or s j [])) 0)
    where
      low-position : position p.grid (get_or s j []) < length labels
      low-position = omega (arith, ok.table_length, position-low_of)
        where
          position-low_of : position p.grid (get_or s j []) < num_points p.grid
          position-low_of = position_in_lem (points p.grid) (get_or s j [])
              (in_points p.grid (get_or s j []) ok.has_start.same_number
              (all_in on_points (is_grid_point p.grid) s (parts p s S.place).grid_points (get_or s j [])
              (at_in on_points [] s j (omega (arith, points-long ok y o S.place, long-o)))))

  -- the state of a move
  module _ {round : Round} (N : IsRoundOf g round) where
    abbrev pub status_as : ℕ → Status
    status_as rule = record { rule = rule; count = here.count; t = here.t; u = here.u; active = here.active }

    abbrev pub state_as : ℕ → State
    state_as rule = state_of round held (status_as rule)

    pub lent : (rule : ℕ) → LentPlace p (filled_table p) y o (state_as rule)
    lent rule = record {
      round = N.0;
      order_is = refl;
      first_long = held.first_long;
      first_at = λ k l. sym (get_or-take g.indices held.first k 0 (omega (arith, m_is)));
      list_long = S.list_long;
      list_at = S.list_at;
      in_t = S.in_t;
      in_u = S.in_u;
      marks_long = length-take (suc here.count) held.marks ∙ omega (arith, S.marks_long, S.few, long-o);
      marked = λ j l. let jl : j ≤ here.count = omega (arith, long-o) in
          get_or-take (suc here.count) held.marks j 0 (omega arith) ∙ S.marked j jl ∙ filled-mark j jl;
    }

    abbrev pub q : Problem
    q = filled_table p

    -- what a move needs and gives
    pub record Tried (rule : ℕ) : Type 0 where
      pub ready : Ready (state_as rule)
      pub fits : Fits (full ok y o S.place) (state_as rule) (make_move (state_as rule))

    abbrev walk : Walk
    walk = walk_on (shape g) w

    pub tried_start : here.count ≡ 0 → here.active ≡ 0 → (rule : ℕ) → rule < 6 → Tried rule
    tried_start e f rule r = record {
      ready = ready_v walk labels ok y o S.present S.place S.counted (long-o ∙ e) (state_as rule) (lent rule) f r;
      fits = fits_v walk labels ok y o S.present S.place S.counted (long-o ∙ e) (state_as rule) (lent rule) f r;
    }

    module _ {k : ℕ} (e : here.count ≡ suc k) where
      low-point : here.active ≤ suc k
      low-point = omega (arith, S.low)

      pub tried_on : (rule : ℕ) → rule < 6 → Tried rule
      tried_on rule r = record {
        ready = ready_a walk labels ok y o S.present S.place S.counted k (long-o ∙ e) here.active low-point S.spare
            (state_as rule) (lent rule) refl r;
        fits = fits_a walk labels ok y o S.present S.place S.counted k (long-o ∙ e) here.active low-point S.spare
            (state_as rule) (lent rule) refl r;
      }

      pub tried_back : (rule : ℕ) → 6 ≤ rule → Tried rule
      tried_back rule r = record {
        ready = ready_b walk labels ok y o S.present S.place S.counted k (long-o ∙ e) here.active low-point S.spare
            (state_as rule) (lent rule) refl r;
        fits = fits_b walk labels ok y o S.present S.place S.counted k (long-o ∙ e) here.active low-point S.spare
            (state_as rule) (lent rule) refl r;
      }

    -- the way, as a struct
    module _ (rule : ℕ) (R : Tried rule) where
      abbrev pub a : State
      a = state_as rule

      can_try : CanTry a
      can_try = record { short = λ e z. (R.fits.moves e z).0 }

      pub can_move : CanStep a × CanTry a × (g.indices ≤ 16)
      can_move = (
        record {
          below = N.1;
          ready = R.ready;
        },
        can_try,
        omega (arith, m_is, ok.has_start.sixteen_indices),
      )

      can_put : (from : ℕ) → from ≤ here.count → CanPut a g.indices from 256
      can_put from l = record {
        below = N.1.backward;
        first_length = held.first_long;
        points = rw (ap length refl) (ready-point (full ok y o S.place) (describes ok y o S.place a (lent rule))
            (length o) (omega arith));
        short = omega (arith, m_is, ok.has_start.sixteen_indices);
        low = omega (arith, long-o);
        fits = product (suc (length o) - from) g.indices (omega (arith, long-o, S.few))
            (omega (arith, m_is, ok.has_start.sixteen_indices));
      }
        where
          product : (x m : ℕ) → x ≤ 16 → m ≤ 16 → x * m ≤ 256
          product x m a b = le_trans (mul-le-mul_left x b) (mul-le-mul_right 16 a)

      pub can_tell : CanTellEnd g a (way_in g.indices (make_move a))
      can_tell = record {
        place = λ h z. go_place (make_move a) refl h z;
        facet = λ h z. go_facet (make_move a) refl h z;
      }
        where
          go_place : (after : After) → make_move a ≡ after → (h : ℕ) → (way_in g.indices after).leads ≡ PlaceEnd h →
              (h < g.indices) × CanPut a g.indices 0 256
          go_place (goes e) x h z = absurd_bool (cc)
          go_place (ends_at_place d k) x h z = let r : k ≡ h = cc in
              (omega (arith, (R.fits.place d k x).1, m_is, r), can_put 0 (omega arith))
          go_place (ends_at_facet d k) x h z = absurd_bool (cc)

          go_facet : (after : After) → make_move a ≡ after → (h : ℕ) → (way_in g.indices after).leads ≡ FacetEnd h →
              (h < g.indices) × CanPut a g.indices 1 256
          go_facet (goes e) x h z = absurd_bool (cc)
          go_facet (ends_at_place d k) x h z = absurd_bool (cc)
          go_facet (ends_at_facet d k) x h z = let r : k ≡ h = cc in let f = R.fits.facet d k x in
              (omega (arith, f.1, m_is, r), can_put 1 (omega (arith, f.2, long-o)))

      -- it leads to the place before
      pub leads_there : length w.before.order ≡ 16 → leads_back (way_in g.indices (make_move a)) w.before
          ≡ true
          → (b : Simplex) × (before_of (shape g) w.before ≡ some b) × (way_made q (make_move a) ≡ link b)
      leads_there long z = go (make_move a) refl z
        where
          go : (after : After) → make_move a ≡ after → leads_back (way_in g.indices after) w.before ≡ true
              → (b : Simplex) × (before_of (shape g) w.before ≡ some b) × (way_made q after ≡ link b)
          go (goes e) x z =
              let f = R.fits.moves e x in
              let same : w.before ≡ kept_as g.indices e.first e.order (length e.order) = sym
              (same_place_lem _ w.before z) in
              let t : take (length e.order) e.order ≡ e.order = take_whole e.order in (
                kept_by q e,
                rw same (rw m_is (kept-before (shape g) e.first e.order (length e.order)
                    ok.has_start.sixteen_indices f.0 f.1 (omega arith))) ∙ ap
                    (λ (r : List ℕ). some (kept_points (shape g) (take (num_indices (shape g)) e.first) r)) t,
                refl,
              )
          go (ends_at_place d k) x z = absurd_bool (sym z)
          go (ends_at_facet d k) x z = absurd_bool (sym z)

      pub leads_elsewhere : length w.before.order ≡ 16 → leads_back (way_in g.indices (make_move a)) w.before
          ≡ false → (b : Simplex)
          → before_of (shape g) w.before ≡ some b → way_made q (make_move a) ≡ link b → ⊥
      leads_elsewhere long z b is = go (make_move a) refl z
        where
          held_b : place_of (shape g) w.before ≡ b
          held_b = ⊎_elim (λ t. absurd_bool (let c = rw t at is in cc)) (λ t. let c = rw t at is in cc)
              (true_or_false (same_place w.before nowhere))

          go : (after : After) → make_move a ≡ after → leads_back (way_in g.indices after) w.before ≡ false →
              way_made q after ≡ link b → ⊥
          go (ends_at_place d k) x z v = absurd_bool (cc)
          go (ends_at_facet d k) x z v = absurd_bool (cc)
          go (goes e) x z v =
              let f = R.fits.moves e x in
              let t : take (length e.order) e.order ≡ e.order = take_whole e.order in
              let k : kept_by q e ≡ b = cc in
              let c : w.before ≡ kept_as (num_indices (shape g)) e.first e.order (length e.order) =
              held-once q (filled_full (accepted-table ok)).has_start w.before long e.first e.order
              (length e.order)
              (ap length t) (rw t f.2) (rw t (held_b ∙ sym k)) in
              absurd_bool (sym (place_same (kept_as g.indices e.first e.order (length e.order)) w.before
              (rw m_is (sym c))) ∙ z)

      -- what is told of it is what comes next
      points-here : points_of q (coefficients_of q s) ≡ s
      points-here = points_of_coefficients_of (filled_full (accepted-table ok)).has_start s
          (parts q s (place-filled ok y o S.place)).grid_points

      masks : ((k : ℕ) → k < 16 → bit here.t k ≡ is_in eqb k (set_t p s)) ×
          ((k : ℕ) → k < 16 → bit here.u k ≡ is_in eqb k (set_u (shape g) s))
      masks = let m = described_masks (full ok y o S.place) (describes ok y o S.place a (lent rule)) in (
        λ k l. m.0 k l ∙ ap (λ (z : Simplex). is_in eqb k (set_t q z)) points-here ∙ ap (λ (z : List ℕ). is_in eqb k z)
            (set_t-same p (map fill labels) s),
        λ k l. m.1 k l ∙ ap (λ (z : Simplex). is_in eqb k (set_u (shape g) z)) points-here,
      )

      -- b of the first step is not in U
      outside : 1 ≤ length o → bit here.u (source_in a (at o 0)) ≡ false
      outside l =
          let D = describes ok y o S.place a (lent rule) in
          let low = index_below (full ok y o S.place) D.chain (at o 0)
          (D.chain.chain.order.within 0 (omega arith)) in
          let b = source-from (full ok y o S.place) D (at o 0) low in
          let few = back_below q b.0 (at o 0) low in
          rw b.3 (D.in_u _ (omega (arith, few, ok.has_start.sixteen_indices)) ∙ b.2.stops)

      rule-is : (e : State) → make_move a ≡ goes e → next_of walk labels ≡ moved (kept_by q e) → e.rule
          ≡ rule_of p (place_of (shape g) w.present) (kept_by q e)
      unfolding move_answer move_walk
      rule-is e x z =
          let f = R.fits.moves e x in
          let b = (calls_hold walk labels).rule (rule_of p walk.present (kept_by q e)) (rw z) in
          let c : ByRule (change p walk.present (kept_by q e)) (rule_of p walk.present (kept_by q e)) = rw z at b in
          let few = ok.has_start.sixteen_indices in
          sym (rule-made (lent rule) R.ready N.1.backward outside e x)
          ∙ rule_told p walk.present (kept_by q e)
          (mask_t p few _ here.t (λ k l. rw S.present (masks.0 k l)))
          (mask_t p few _ e.T (λ k l. f.3 k l ∙ ap (λ (r : List ℕ). is_in eqb k r)
          (set_t-same p (map fill labels) (kept_by q e))))
          (mask_u p few _ here.u (λ k l. rw S.present (masks.1 k l)))
          (mask_u p few _ e.U f.4) c

      long-points : (f : ℕ → Point) (b k : ℕ) → length (map f (up_from b k)) ≡ k
      long-points f b k = length-map (up_from b k) f ∙ length-up_from b k

      moved_told : (e : State) → make_move a ≡ goes e → next_of walk labels ≡ moved (kept_by q e) → told_as g a
          (way_in g.indices (goes e)) ≡ next_in g w labels
      unfolding next_as front
      moved_told e x z =
          let f = R.fits.moves e x in
          let t : take (length e.order) e.order ≡ e.order = take_whole e.order in
          let c : stored (shape g) (kept_by q e) ≡ kept_as g.indices e.first e.order (length e.order) =
          rw m_is (ap (λ (r : List ℕ). stored (shape g)
          (kept_points (shape g) (take (num_indices (shape g)) e.first) r)) (sym t)
          ∙ stored-kept q (filled_full (accepted-table ok)).has_start e.first e.order (length e.order)
          (ap length t)
          (rw t f.2)) in
          rw (z, ← rule-is e x z, c)

      place_told : (d : State) (k : ℕ) → d ≡ a → next_of walk labels ≡ ended place_end (suc (block_of (shape g) k))
          (points_from q d 0)
          → end_as g a place_end k 0 ≡ next_in g w labels
      unfolding next_as front
      place_told d k e z = rw (z, e, m_is, long-points (point_in q a) 0 (suc (length o) - 0))

      facet_told : (d : State) (k : ℕ) → d ≡ a → next_of walk labels ≡ ended facet_end (suc (block_of (shape g) k))
          (points_from q d 1)
          → end_as g a facet_end k 1 ≡ next_in g w labels
      unfolding next_as front
      facet_told d k e z = rw (z, e, m_is, long-points (point_in q a) 1 (suc (length o) - 1))

      pub told_is : next_of walk labels ≡ by_way (way_made q (make_move a) ∷ []) → told_as g a
          (way_in g.indices (make_move a)) ≡ next_in g w labels
      told_is z = go (make_move a) refl z
        where
          go : (after : After) → make_move a ≡ after → next_of walk labels ≡ by_way (way_made q after ∷ [])
              → told_as g a
              (way_in g.indices after) ≡ next_in g w labels
          go (goes e) x z = moved_told e x z
          go (ends_at_place d k) x z = place_told d k (R.fits.place d k x).0 z
          go (ends_at_facet d k) x z = facet_told d k (R.fits.facet d k x).0 z

pub refused-is : (g : GridStruct) (w : WalkStruct) (labels : List ℕ) (k : ℕ) → next_of (walk_on (shape g) w) labels
    ≡ refused k → refused_as k ≡ next_in g w labels
unfolding next_as front
refused-is g w labels k z = rw z
