-- The two moves of a state that holds an unlabelled place: a point leaves, or an index joins T. Each gives the only
-- place that a record could lead to, or there is none. Assumes nothing.
use mathlib.Core.Bool.{Bool, true, false}
use mathlib.Core.List.{List, [], ◌∷◌}
use mathlib.Core.Logic.{⊎_elim}
use mathlib.Core.Path.{◌≡◌, refl, sym, ap, ◌∙◌, subst}
use Prim.Native.Nat.{ℕ, zero, suc, ◌≤◌, ◌<◌}
use lib.Dec.{eqb}
use lib.ListN.{length, length-map}
use native.Mathlib.Omega.{arith}
use Rattle.combinatorics.proofs.Basics.{absurd_bool, false_of, same_or}
use Rattle.combinatorics.proofs.Lists.{in_here, on_numbers, only-list}
use Rattle.combinatorics.specs.Edits.{remove_at}
use Rattle.combinatorics.specs.Lists.{is_in}
use Rattle.geometry.proofs.Definitions.{Carries, Chain, Extra}
use Rattle.geometry.proofs.Exits.{kinds}
use Rattle.geometry.proofs.Graph.{Above, Through}
use Rattle.geometry.proofs.LabelledChains.{FacetEnd, PlaceEnd, list_at}
use Rattle.geometry.proofs.Points.{nth}
use Rattle.grid_points.proofs.Points.{on_points}
use Rattle.grid_points.specs.Grid.{num_indices, position, same_point}
use Rattle.place.specs.Ends.{is_complete}
use Rattle.place.specs.Places.{Simplex, label_set, set_t}
use Rattle.place.specs.Problem.{Problem, with_labels}
use Rattle.path_laws.proofs.BlocksOfGrid.{blocks_of, coefficient_of, point_of}
use Rattle.path_laws.proofs.ChainEnds.{complete-below, complete_of, end_below, end-complete, end-labels}
use Rattle.path_laws.proofs.Filled.{full_place}
use Rattle.path_laws.proofs.FromChain.{T-is, back-again, coefficient_at, long, place_of, points_of-grid}
use Rattle.path_laws.proofs.Positions.{at_in, in_at}
use Rattle.path_laws.proofs.Theorem.{block_of_lem, single}
use Rattle.path_laws.proofs.ToChain.{coefficients_of, in_t, label_of, points_of}
use Rattle.path_laws.specs.Demand.{HasStart}
use Rattle.rules.proofs.Describes.{AllMarks, Describes, Joined, Left, Reached, facet_ends, joined_on, labels_of}
use Rattle.rules.proofs.Describes.{left_on}
use Rattle.rules.proofs.Describes.{place_ends}
use Rattle.rules.proofs.Grow.{grow-ready, grows}
use Rattle.rules.proofs.Leaves.{leave-ready, leaves}
use Rattle.rules.proofs.Range.{nth_points_of}
use Rattle.rules.specs.Ready.{ReadyGrow, ReadyLeave}
use Rattle.rules.specs.Moves.{After, State, ends_at_facet, ends_at_place, goes, grow, leave}
use Rattle.trail.proofs.OneNext.{into_none, not_there, out_none, over-out}
use Rattle.trail.proofs.Outside.{in_outside, outside_in, outside-none}
use Rattle.trail.proofs.Reading.{T-alike}
use Rattle.trail.proofs.Shapes.{not_empty}
use Rattle.trail.proofs.Tables.{Labelled, has-start_with, some-index, some-table}
use Rattle.trail.proofs.Tells.{Moves, moves_of}
use Rattle.trail.specs.Change.{ByRule, Change, change, outside, rule1, rule2, rule3, rule4, rule5, rule6, rule7}
use Rattle.trail.specs.Trail.{is_move}
use Rattle.trail_steps.proofs.Reached.{Arrives, arrives, bare-state}
use Rattle.trail_steps.specs.Shows.{Shows}
use Rattle.trail_steps.proofs.Shows.{all-marked, carries, chain-over, describes, here_label, labelled, shows-at}
use Rattle.trail_steps.proofs.Shows.{shows-long}
use Rattle.trail_steps.proofs.Stripped.{LikewiseAfter, grow_like, leave_like}

-- a move by which point i leaves
abbrev pub TakesOut : Problem → Simplex → ℕ → Simplex → Type 0
TakesOut p a i b = (is_move p a b ≡ true) × (outside same_point b a ≡ nth a i ∷ [])

-- a move by which index h joins T, and no point leaves
abbrev pub BringsIn : Problem → Simplex → ℕ → Simplex → Type 0
BringsIn p a h b = (is_move p a b ≡ true) × (outside same_point b a ≡ [])
    × (outside eqb (set_t p a) (set_t p b) ≡ h ∷ [])

-- over a table where the points of the place but point i carry T
module _ {p : Problem} (ok : HasStart p) {a : Simplex} {s : State} (S : Shows p a s) {i h : ℕ} {labels : List ℕ}
    (L : Labelled p a i h labels) where
  abbrev q : Problem
  q = with_labels p labels

  module _ (il : i ≤ S.t) (n : ℕ) (e : S.t ≡ suc n) where
    sized : Describes q S.T (suc n) S.o S.x (labelled S L)
    sized = subst (λ (t : ℕ). Describes q S.T t S.o S.x (labelled S L)) e (describes S L)

    all-sized : AllMarks q (suc n) S.x (labelled S L)
    all-sized = subst (λ (t : ℕ). AllMarks q t S.x (labelled S L)) e (all-marked S L)

    carried : Carries S.T (suc n) (labels_of q S.x) i
    carried = subst (λ (t : ℕ). Carries S.T t (labels_of q S.x) i) e (carries S L)

    leave-table : ReadyLeave s i
    leave-table =
        let R = leave-ready L.full i sized (omega arith) in
        record {
          low = R.low;
          few = R.few;
          first = λ z.
              let F = R.first z in
              record { some = F.some; positive = F.positive; fits = F.fits; raised = F.raised };
          last = λ z. let F = R.last z in record { some = F.some; fits = F.fits; lowered = F.lowered };
        }

    left_over : Left q S.T n S.x (labelled S L) i (leave (labelled S L) i)
    left_over = leaves L.full S.T n S.o S.x (labelled S L) i sized all-sized (omega arith) carried

    -- the facet is an end over the table, so no move goes through it
    facet-none : {k : ℕ} → i ≡ 0 → FacetEnd (blocks_of q) (label_of q) S.T n S.x 0 k → (b : Simplex) → TakesOut p a i b
        → ⊥
    facet-none {k} z F b m =
        let C = chain-over S L in
        let ok' = L.full.has_start in
        let here = S.here in
        let c : Simplex = points_of q S.x in
        let hc = place_of ok' C in
        let many : length c ≡ suc (suc n) = long ok' C ∙ ap suc e in
        let G : FacetEnd (blocks_of q) (label_of q) (in_t q c) n (coefficients_of q c) 0 k =
        rw (back-again ok' C) (rw (T-is ok' C) F) in
        let own = full_place L.full c hc in
        let kl = end_below ok' c hc n many 0 (omega arith) G own in
        let j = block_of_lem q k kl in
        let labels-are : label_set q (remove_at 0 c) ≡ set_t q c = end-labels ok' c hc n many 0 (omega arith) G in
        let done : is_complete q (remove_at 0 c) ((blocks_of q).block k) ≡ true =
        end-complete ok' c hc n many 0 (omega arith) G ((blocks_of q).block k) j refl in
        out_none ok a S.place (omega (arith, il, shows-long S)) L ((blocks_of q).block k) j (rw (z, ← here) labels-are)
        (rw (z, ← here) done) b m.0 m.1

    -- the point that leaves is not at the next place
    out-point : (y : List (ℕ → ℕ)) → Through (blocks_of q) S.T n S.x i y → (b : Simplex) → points_of p y ≡ b
        → ((j : ℕ) → j < length y → coefficient_of q (nth b j) ≡ list_at y j)
        → is_in same_point (nth a i) b ≡ false
    out-point y X b w back = false_of _ (λ m.
        let v = in_at on_points [] (nth a i) b m in
        let vl : v.0 < length y = omega (arith, v.1, ap length w, length-map y (point_of p)) in
        let C = chain-over S L in
        let u : coefficient_of q (nth a i) ≡ list_at S.x i = subst
        (λ (c : Simplex). coefficient_of q (nth c i) ≡ list_at S.x i)
        S.here (coefficient_at L.full.has_start C i (omega (arith, il, S.size))) in
        let chain = subst (λ (t : ℕ). Chain (blocks_of q) S.T t (list_at S.x) S.o) e S.chain in
        not_there S.x chain (omega arith) y X v.0 vl
        (sym (back v.0 vl) ∙ ap (coefficient_of q) v.2 ∙ u))

  like : LikewiseAfter (leave (labelled S L) i) (leave s i)
  like = subst
      (λ (g : State). LikewiseAfter (leave (labelled S L) i) (leave g i))
      (bare-state ok S L) (leave_like (labelled S L) i)

  like_grow : (k : ℕ) → LikewiseAfter (grow (labelled S L) k) (grow s k)
  like_grow k = subst
      (λ (g : State). LikewiseAfter (grow (labelled S L) k) (grow g k))
      (bare-state ok S L) (grow_like (labelled S L) k)

  back_at : {e : State} {y : List (ℕ → ℕ)} → Reached q S.x e y → (j : ℕ) → j < length y
      → coefficient_of q (nth (points_of p y) j) ≡ list_at y j
  back_at R j l = coefficient_at L.full.has_start R.describes.chain j l

-- what a point that leaves leads to: a place, or none where the facet is an end
pub data LeavesTo (p : Problem) (a : Simplex) (i : ℕ) : After → Type 0 where
  leaves_on : {f : State} (b : Simplex) → Arrives p a b f → TakesOut p a i b → LeavesTo p a i (goes f)
  leaves_none : {f : State} {k : ℕ} → ((b : Simplex) → TakesOut p a i b → ⊥) → LeavesTo p a i (ends_at_facet f k)

module _ {p : Problem} (ok : HasStart p) {a : Simplex} {s : State} (S : Shows p a s) (i : ℕ) (il : i ≤ S.t) where
  some-labels : (labels : List ℕ) × Labelled p a i 0 labels
  some-labels = some-table ok a S.place i 0 (omega (arith, il, shows-long S)) (some-index ok)

  few-out : (b : Simplex) → Moves p a b → length (outside same_point b a) ≤ 1
  unfolding change
  few-out b M = omega (arith, M.few_out, length-map (outside same_point b a) (position p.grid))

  one_out : (b : Simplex) → is_move p a b ≡ true → is_in same_point (nth a i) b ≡ false
      → outside same_point b a ≡ nth a i ∷ []
  one_out b m n =
      only-list on_points (nth a i) (outside same_point b a) (few-out b (moves_of p a b m))
      (in_outside on_points (nth a i) a b (at_in on_points [] a i (omega (arith, il, shows-long S))) n)

  pub ready-leave : 1 ≤ S.t → ReadyLeave s i
  ready-leave some = go S.t refl
    where
      go : (t : ℕ) → S.t ≡ t → ReadyLeave s i
      go zero e = absurd (omega arith)
      go (suc n) e = leave-table ok S some-labels.1 il n e

  pub leave_leads : 1 ≤ S.t → LeavesTo p a i (leave s i)
  leave_leads some = go S.t refl
    where
      L : Labelled p a i 0 some-labels.0
      L = some-labels.1

      to : (n : ℕ) → S.t ≡ suc n → {after rest : After}
          → Left (with_labels p some-labels.0) S.T n S.x (labelled S L) i after → LikewiseAfter after rest
          → LeavesTo p a i rest
      to n e {rest = goes f} (facet_ends k z F) K = absurd K
      to n e {rest = ends_at_place f k} (facet_ends h z F) K = absurd K
      to n e {rest = ends_at_facet f k} (facet_ends h z F) K = leaves_none (facet-none ok S L il n e z F)
      to n e {rest = goes f} (left_on w) K =
          let A = arrives ok S L w.2 K in
          leaves_on (points_of p w.0) A (
            A.move,
            one_out (points_of p w.0) A.move
                (out-point ok S L il n e w.0 w.1 (points_of p w.0) refl (back_at ok S L w.2)),
          )
      to n e {rest = ends_at_place f k} (left_on w) K = absurd K
      to n e {rest = ends_at_facet f k} (left_on w) K = absurd K

      go : (t : ℕ) → S.t ≡ t → LeavesTo p a i (leave s i)
      go zero e = absurd (omega arith)
      go (suc n) e = to n e (left_over ok S L il n e) (like ok S L)

  -- the only point of a place does not leave
  pub alone : S.t ≡ 0 → (b : Simplex) → TakesOut p a i b → ⊥
  alone e b m =
      let t = some-labels in
      let B = over-out ok a S.place (omega (arith, il, shows-long S)) t.1 b m.0 m.1 in
      let some = not_empty ok b (moves_of p a b m.0).place in
      let one : length b ≡ 1 = omega (arith, B.1, shows-long S, some) in
      let z : a ≡ b = single (has-start_with ok t.0) a B.0.from (omega (arith, shows-long S))
      ∙ sym (single (has-start_with ok t.0) b B.0.to one) in
      let w = outside_in on_points (nth a i) a b (rw m.1 (in_here on_points (nth a i) [])) in
      absurd_bool (sym w.0 ∙ ap (λ (c : Simplex). is_in same_point (nth a i) c) z ∙ w.1)

-- what an index that joins T leads to
pub data JoinsTo (p : Problem) (a : Simplex) (h : ℕ) : After → Type 0 where
  joins_on : {f : State} (b : Simplex) → Arrives p a b f → BringsIn p a h b → JoinsTo p a h (goes f)
  joins_none : {f : State} {k : ℕ} → ((b : Simplex) → BringsIn p a h b → ⊥) → JoinsTo p a h (ends_at_place f k)

module _ {p : Problem} (ok : HasStart p) {a : Simplex} {s : State} (S : Shows p a s) (h : ℕ)
    (hl : h < num_indices p.grid)
    (out : S.T h ≡ false) where
  joining-labels : (labels : List ℕ) × Labelled p a 0 h labels
  joining-labels = some-table ok a S.place 0 h (omega (arith, shows-long S)) hl

  module _ {labels : List ℕ} (L : Labelled p a 0 h labels) where
    abbrev over : Problem
    over = with_labels p labels

    label_is : labels_of over S.x 0 ≡ h
    label_is = here_label S L (omega arith) hl

    -- the label of the first point is the only one outside T
    extra : Extra S.T S.t (labels_of over S.x) 0
    extra =
        let C = chain-over S L in
        let e : S.T (labels_of over S.x 0) ≡ false = ap S.T label_is ∙ out in
        ⊎_elim
        (λ w. absurd_bool (sym (w.2.all 0 (omega arith)) ∙ e))
        (λ w. ⊎_elim
        (λ (z : 0 ≡ w.0). subst (Extra S.T S.t (labels_of over S.x)) (sym z) w.1)
        (λ n. absurd_bool (sym (w.1.rest 0 (omega arith) n) ∙ e))
        (same_or 0 w.0))
        (kinds (label_of over) C.chain C.covers)

    join_table : ReadyGrow s h
    join_table =
        let R = subst (ReadyGrow (labelled S L)) label_is (grow-ready L.full (describes S L) (all-marked S L) extra) in
        record { low = R.low; few = R.few; room = R.room }

    joined-over : Joined over S.T S.t S.x (labelled S L) (grow (labelled S L) h)
    joined-over =
        subst (λ (k : ℕ). Joined over S.T S.t S.x (labelled S L) (grow (labelled S L) k)) label_is
        (grows L.full S.T S.t S.o S.x (labelled S L) 0 (describes S L) (all-marked S L) extra)

    -- the place is an end over the table, so no move brings the index into T
    place_none : (k : ℕ) → PlaceEnd (blocks_of over) (label_of over) S.t S.x k → (b : Simplex) → BringsIn p a h b → ⊥
    place_none k c b m =
        let C = chain-over S L in
        let ok' = L.full.has_start in
        let here = S.here in
        let v : Simplex = points_of over S.x in
        let hv = place_of ok' C in
        let own = full_place L.full v hv in
        let d : PlaceEnd (blocks_of over) (label_of over) S.t (coefficients_of over v) k = rw (back-again ok' C) c in
        let kl = complete-below ok' v (points_of-grid ok' C) S.t (long ok' C) own k d in
        let j = block_of_lem over k kl in
        let done : is_complete over v ((blocks_of over).block k) ≡ true =
        complete_of ok' v (points_of-grid ok' C) S.t (long ok' C) k ((blocks_of over).block k) j refl d in
        into_none ok a S.place (omega (arith, shows-long S)) L ((blocks_of over).block k) j (rw (← here) done) b m.0
        m.1 m.2

    module _ {y : List (ℕ → ℕ)} (X : Above (blocks_of over) (label_of over) S.T S.t S.x y) where
      abbrev next : Simplex
      next = points_of p y

      -- no point leaves,
      none_out : outside same_point next a ≡ []
      none_out = outside-none on_points a next (λ z m.
          let w = in_at on_points [] z a m in
          let wl : w.0 ≤ S.t = omega (arith, w.1, shows-long S) in
          let v = X.4.part w.0 wl in
          let vl : v.0 < length y = omega (arith, v.1, X.3.size) in
          let u : nth next v.0 ≡ z = nth_points_of p y v.0 vl ∙ ap (point_of p) v.2 ∙ sym (shows-at S w.0 wl) ∙ w.2 in
          rw (← u) (at_in on_points [] next v.0 (omega (arith, vl, length-map y (point_of p)))))

      -- and h, a label of the place, is in the next one's T
      has-index : is_in eqb h (set_t p next) ≡ true
      has-index =
          let e : X.0 h ≡ true = ap X.0 (sym label_is) ∙ X.4.inside 0 (omega arith) in
          subst (λ (u : List ℕ). is_in eqb h u ≡ true) (T-alike p labels next)
          (ap (λ (T : ℕ → Bool). T h) (T-is L.full.has_start X.3) ∙ e)

      not_before_lem : is_in eqb h (set_t p a) ≡ false
      not_before_lem = ap (λ (T : ℕ → Bool). T h) S.is_t ∙ out

      -- so it is what comes into T
      nothing_out : (z : ℕ) → (change p a next).points_out ≡ z ∷ [] → ⊥
      unfolding change
      nothing_out z e =
          omega (arith, ap length e, length-map (outside same_point next a) (position p.grid), ap length none_out)

      single_of : (k : ℕ) → (change p a next).into_t ≡ k ∷ [] → outside eqb (set_t p a) (set_t p next) ≡ h ∷ []
      unfolding change
      single_of k e =
          only-list on_numbers h (outside eqb (set_t p a) (set_t p next)) (omega (arith, ap length e))
          (in_outside on_numbers h (set_t p next) (set_t p a) has-index not_before_lem)

      one_into : {r : ℕ} → ByRule (change p a next) r → outside eqb (set_t p a) (set_t p next) ≡ h ∷ []
      one_into (rule1 w z e) = absurd (nothing_out z (ap (λ (c : Change). c.points_out) e))
      one_into (rule2 w z k e) = absurd (nothing_out z (ap (λ (c : Change). c.points_out) e))
      one_into (rule3 w z k e) = absurd (nothing_out z (ap (λ (c : Change). c.points_out) e))
      one_into (rule4 w k e) = single_of k (ap (λ (c : Change). c.into_t) e)
      one_into (rule5 w k e) = single_of k (ap (λ (c : Change). c.into_t) e)
      one_into (rule6 z k e) = absurd (nothing_out z (ap (λ (c : Change). c.points_out) e))
      one_into (rule7 z k e) = absurd (nothing_out z (ap (λ (c : Change). c.points_out) e))

  pub ready-grow : ReadyGrow s h
  ready-grow = join_table joining-labels.1

  pub grow_leads : JoinsTo p a h (grow s h)
  grow_leads = to (joined-over L) (like_grow ok S L h)
    where
      L : Labelled p a 0 h joining-labels.0
      L = joining-labels.1

      to : {after rest : After} → Joined (with_labels p joining-labels.0) S.T S.t S.x (labelled S L) after
          → LikewiseAfter after rest → JoinsTo p a h rest
      to {rest = goes f} (place_ends k c) K = absurd K
      to {rest = ends_at_place f j} (place_ends k c) K = joins_none (place_none L k c)
      to {rest = ends_at_facet f j} (place_ends k c) K = absurd K
      to {rest = goes f} (joined_on y Y R) K =
          let A = arrives ok S L R K in
          joins_on (points_of p y) A (A.move, none_out L Y, one_into L Y A.by_rule.1)
      to {rest = ends_at_place f j} (joined_on y Y R) K = absurd K
      to {rest = ends_at_facet f j} (joined_on y Y R) K = absurd K
