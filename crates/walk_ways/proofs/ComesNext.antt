-- What comes next on a walk, by the two moves from its present place. In order: refusals; the table with each gap
-- filled; {v}; any other place; a place with a gap. Assumes nothing.
use mathlib.Core.Bool.{true, false, ◌&&◌}
use mathlib.Core.List.{List, [], ◌∷◌, map}
use mathlib.Core.Logic.{◌⊎◌, ⊎_elim}
use mathlib.Core.Option.{Option, none, some}
use mathlib.Core.Path.{◌≡◌, refl, sym, ap, ◌∙◌, subst}
use Prim.Native.Nat.{ℕ, suc, ◌≤◌, ◌<◌}
use borrow.Author.Tests.{leb-true}
use lib.ListN.{length}
use native.Mathlib.Omega.{arith}
use Rattle.combinatorics.proofs.Basics.{absurd_bool, and_both, and_left, and_right, false_of}
use Rattle.combinatorics.proofs.Lists.{all_in}
use Rattle.geometry.proofs.Definitions.{Carries}
use Rattle.geometry.proofs.LabelledChains.{LabelledChain}
use Rattle.geometry.proofs.Points.{nth}
use Rattle.grid_points.proofs.Points.{on_points}
use Rattle.grid_points.specs.Grid.{Point, at, bound}
use Rattle.place.specs.Coefficients.{coefficients}
use Rattle.place.specs.Ends.{Way, link}
use Rattle.place.specs.Links.{linked}
use Rattle.place.specs.Path.{ways_on}
use Rattle.place.specs.Places.{Simplex, all_labelled, is_place, order, set_t}
use Rattle.place.specs.Problem.{Problem, has_label, label}
use Rattle.path_laws.proofs.Accepted.{accepted-table}
use Rattle.path_laws.proofs.BlocksOfGrid.{blocks_of}
use Rattle.path_laws.proofs.Filled.{fill, filled_table, filled_full, filled-label, full_accepted}
use Rattle.path_laws.proofs.FromTwoWays.{back}
use Rattle.path_laws.proofs.LinkSymmetry.{parts}
use Rattle.path_laws.proofs.Local.{Agree, known-local, map_same}
use Rattle.path_laws.proofs.Positions.{at_in}
use Rattle.path_laws.proofs.Theorem.{single}
use Rattle.path_laws.proofs.ToChain.{coefficients_of, in_t, label_of, points_of, points_of_coefficients_of}
use Rattle.path_laws.proofs.Ways.{IsWay}
use Rattle.path_laws.specs.Demand.{Accepted}
use Rattle.rules.proofs.Describes.{AllMarks, Describes, Left, labels_of}
use Rattle.rules.specs.Ready.{Ready}
use Rattle.rules.specs.Moves.{State, make_move}
use Rattle.walks.proofs.Local.{next-local}
use Rattle.walks.proofs.Meaning.{Came, Stands, begins, came, meets_16, meets_20, of_passes, stands_of}
use Rattle.walks.proofs.Moved.{next-onward, next-refused}
use Rattle.walks.specs.Kept.{kept_points}
use Rattle.walks.specs.Next.{by_way, next_of, refused}
use Rattle.walks.specs.Walk.{Walk, labels_of as labels_at, over}
use Rattle.walk_ways.proofs.Carried.{carried, points-long}
use Rattle.walk_ways.proofs.Choices.{came_by, from_start, not_linked, other-on}
use Rattle.walk_ways.proofs.Gap.{gap_back, gap_way}
use Rattle.walk_ways.proofs.Kept.{chain, describes, full, marks, order_same, place-filled}
use Rattle.walk_ways.proofs.Ways.{Fits, fits-back, fits-onward, fits-start, leaves_by, ready-leaves, ready_on}
use Rattle.walk_ways.proofs.Ways.{start-ready, start_way, way_back, way_onward, ways-apart}
use Rattle.walk_ways.specs.Counted.{Counted}
use Rattle.walk_ways.specs.Lent.{LentPlace, way_made}
use Rattle.walk_ways.specs.Spare.{Spare}

module _ (w : Walk) (labels : List ℕ) where
  pub no_walk : Accepted (over w labels) → (Stands (over w labels) w → ⊥) → next_of w labels ≡ refused 20
  no_walk ok n = next-refused w labels 20 (λ e. absurd (omega arith))
      (meets_20 w labels ok (false_of _ (λ h. n (stands_of (over w labels) w h))))

  pub no_place : Accepted (over w labels) → is_place (over w labels) w.present ≡ false → next_of w labels ≡ refused 20
  no_place ok f = no_walk ok (λ h. absurd_bool (sym h.place ∙ f))

  pub no-count : Accepted (over w labels) → (w.places ≡ 0) ⊎ (bound w.grid < w.places) → next_of w labels
      ≡ refused 20
  no-count ok c = no_walk ok (λ h. ⊎_elim (λ e. omega (arith, h.some, e)) (λ e. omega (arith, h.bounded, e)) c)

  pub no_read : Accepted (over w labels) → (w.read ≡ 0) ⊎ (w.places < w.read) → next_of w labels ≡ refused 20
  no_read ok c = no_walk ok (λ h. ⊎_elim (λ e. omega (arith, h.read, e)) (λ e. omega (arith, h.read_few, e)) c)

  pub not_carried : Accepted (over w labels) → (w.carried ≡ labels_at (over w labels) w.present → ⊥) → next_of w labels
      ≡ refused 20
  not_carried ok n = no_walk ok (λ h. n h.carries)

  pub gap : Accepted (over w labels) → Stands (over w labels) w → all_labelled (over w labels) w.present ≡ false →
      next_of w labels ≡ refused 16
  gap ok h f = next-refused w labels 16 (λ e. absurd (omega arith)) (meets_16 w labels ok h f)

-- the walk stands at a kept place
module _ (w : Walk) (labels : List ℕ) (ok : Accepted (over w labels)) (y : Point) (o : List ℕ)
    (is : w.present ≡ kept_points w.grid y o)
    (place : is_place (over w labels) (kept_points w.grid y o) ≡ true) (counted : Counted w labels) where
  abbrev p : Problem
  p = over w labels

  abbrev q : Problem
  q = filled_table p

  abbrev s : Simplex
  s = kept_points w.grid y o

  accepted-filled : Accepted q
  accepted-filled = full_accepted (filled_full (accepted-table ok)) ok.points

  here : is_place p w.present ≡ true
  here = rw is place

  long : length s ≡ suc (length o)
  long = points-long ok y o place

  pub is-start : length o ≡ 0 → s ≡ w.start ∷ []
  is-start e = single ok.has_start s place (omega (arith, long))

  pub not_start : (n : ℕ) → length o ≡ suc n → s ≡ w.start ∷ [] → ⊥
  not_start n e z = omega (arith, long, ap length z)

  stands : Came p w.before w.present → Stands p w
  stands c = record {
    place = here;
    came = c;
    some = counted.some;
    bounded = counted.most;
    carries = counted.carries;
    read = counted.read;
    read_few = counted.read_few;
  }

  pub start_with_one : (b : Simplex) → length o ≡ 0 → w.before ≡ some b → next_of w labels ≡ refused 20
  start_with_one b e z = no_walk w labels ok (λ h. go h.came z refl)
    where
      go : {l : Option Simplex} {r : Simplex} → Came p l r → l ≡ some b → r ≡ w.present → ⊥
      go begins z r = absurd_bool (cc)
      go (came k ne) z r = ne (r ∙ is ∙ is-start e)

  points-same : points_of q (coefficients_of q s) ≡ s
  points-same = points_of_coefficients_of (full ok y o place).has_start s
      (parts q s (place-filled ok y o place)).grid_points

  described : (t : ℕ) → length o ≡ t → (S : State) → LentPlace p q y o S → Describes q (in_t q s) t (at o)
      (coefficients_of q s) S
  described t e S L = subst (λ (t : ℕ). Describes q (in_t q s) t (at o) (coefficients_of q s) S) e
      (describes ok y o place S L)

  all-marked : (t : ℕ) → length o ≡ t → (S : State) → LentPlace p q y o S → AllMarks q t (coefficients_of q s) S
  all-marked t e S L = subst (λ (t : ℕ). AllMarks q t (coefficients_of q s) S) e (marks ok y o place S L)

  pub ready_v : length o ≡ 0 → (S : State) → LentPlace p q y o S → S.active ≡ 0 → S.rule < 6 → Ready S
  ready_v e S L a r = start-ready (full ok y o place) (described 0 e S L) (all-marked 0 e S L) a r

  -- over the table with each gap filled the same comes next
  module _ (own : all_labelled p s ≡ true) where
    agree : Agree p (map fill labels) w.present
    agree z m =
        let t = all_in on_points (has_label p) s own z (rw is at m) in
        filled-label (accepted-table ok) z (label-positive z t)
      where
        label-positive : (z : Point) → has_label p z ≡ true → 0 < label p z
        label-positive z t = leb-true 1 (label p z) (and_left _ _ t)

    known-filled : all_labelled q s ≡ true
    known-filled = let z : all_labelled p w.present ≡ true = rw is own in
        rw is at (known-local p (map fill labels) w.present agree ∙ z)

    same_next : next_of w (map fill labels) ≡ next_of w labels
    same_next = next-local w labels (map fill labels) ok accepted-filled agree

    onward : (way : Way) → Came q w.before w.present → ways_on q w.before w.present ≡ way ∷ [] → next_of w labels ≡ by_way
        (way ∷ [])
    onward way c e =
        sym same_next ∙ next-onward w (map fill labels) (of_passes w (map fill labels) (record {
          accepted = accepted-filled;
          stands = record {
            place = rw is (place-filled ok y o place);
            came = c;
            some = counted.some;
            bounded = counted.most;
            carries = counted.carries ∙ sym (map_same p (map fill labels) w.present agree);
            read = counted.read;
            read_few = counted.read_few;
          };
          known = rw is known-filled;
        })) ∙ ap by_way e

    -- {v}
    pub from_v : length o ≡ 0 → w.before ≡ none → (S : State) → LentPlace p q y o S → S.active ≡ 0 → S.rule < 6 →
        next_of w labels ≡ by_way (way_made q (make_move S) ∷ [])
    from_v e b S L a r = onward (way_made q (make_move S)) (rw (b, is, is-start e) begins)
        (rw (b, is) (from_start accepted-filled s (place-filled ok y o place) known-filled
        (way_made q (make_move S)) (is-start e) the_way))
      where
        the_way : IsWay q s (way_made q (make_move S))
        the_way = subst (λ (z : Simplex). IsWay q z (way_made q (make_move S))) points-same
            (start_way (full ok y o place) (described 0 e S L) (all-marked 0 e S L) a r)

  pub fits_v : length o ≡ 0 → (S : State) → LentPlace p q y o S → S.active ≡ 0 → S.rule < 6
      → Fits (full ok y o place) S
      (make_move S)
  fits_v e S L a r = fits-start (full ok y o place) (described 0 e S L) (all-marked 0 e S L) a r

  -- a place of two or more points, and the point whose label the others do not need
  module _ (n : ℕ) (e : length o ≡ suc n) (i : ℕ) (low : i ≤ suc n) (spare : Spare p s o i) where
    carries : Carries (in_t q s) (suc n) (labels_of q (coefficients_of q s)) i
    carries = subst (λ (t : ℕ). Carries (in_t q s) t (labels_of q (coefficients_of q s)) i) e
        (carried ok y o place i spare)

    carries-at : (S : State) → S.active ≡ i → Carries (in_t q s) (suc n) (labels_of q (coefficients_of q s)) S.active
    carries-at S a = rw a carries

    pub ready_a : (S : State) → LentPlace p q y o S → S.active ≡ i → S.rule < 6 → Ready S
    ready_a S L a r = ready_on (full ok y o place) (described (suc n) e S L) (all-marked (suc n) e S L) (omega arith)
        (carries-at S a) r

    pub ready_b : (S : State) → LentPlace p q y o S → S.active ≡ i → 6 ≤ S.rule → Ready S
    ready_b S L a r = ready-leaves (full ok y o place) (described (suc n) e S L) (all-marked (suc n) e S L)
        (omega arith) (carries-at S a) r

    pub fits_a : (S : State) → LentPlace p q y o S → S.active ≡ i → S.rule < 6 → Fits (full ok y o place) S
        (make_move S)
    fits_a S L a r = fits-onward (full ok y o place) (described (suc n) e S L) (all-marked (suc n) e S L) (omega arith)
        (carries-at S a) r

    pub fits_b : (S : State) → LentPlace p q y o S → S.active ≡ i → 6 ≤ S.rule → Fits (full ok y o place) S
        (make_move S)
    fits_b S L a r = fits-back (full ok y o place) (described (suc n) e S L) (all-marked (suc n) e S L) (omega arith)
        (carries-at S a) r

    way_a : (S : State) → LentPlace p q y o S → S.active ≡ i → S.rule < 6 → IsWay q s (way_made q (make_move S))
    way_a S L a r = subst (λ (z : Simplex). IsWay q z (way_made q (make_move S))) points-same
        (way_onward (full ok y o place) (described (suc n) e S L) (all-marked (suc n) e S L) (omega arith)
        (carries-at S a) r)

    way_b : (S : State) → LentPlace p q y o S → S.active ≡ i → 6 ≤ S.rule → IsWay q s (way_made q (make_move S))
    way_b S L a r = subst (λ (z : Simplex). IsWay q z (way_made q (make_move S))) points-same
        (way_back (full ok y o place) (described (suc n) e S L) (all-marked (suc n) e S L) (omega arith)
        (carries-at S a) r)

    different : (S S' : State) → LentPlace p q y o S → LentPlace p q y o S' → S.active ≡ i → S'.active ≡ i
        → S.rule < 6 →
        6 ≤ S'.rule
        → way_made q (make_move S) ≡ way_made q (make_move S') → ⊥
    different S S' L L' a a' r r' = ways-apart (full ok y o place) (described (suc n) e S L) (all-marked (suc n) e S L)
        (described (suc n) e S' L')
        (all-marked (suc n) e S' L') (omega arith) (carries-at S a) (a' ∙ sym a) r r'

    -- none before it
    pub without_one : w.before ≡ none → next_of w labels ≡ refused 20
    without_one z = no_walk w labels ok (λ h. go h.came z refl)
      where
        go : {l : Option Simplex} {r : Simplex} → Came p l r → l ≡ none → r ≡ w.present → ⊥
        go begins z r = not_start n e (sym is ∙ sym r)
        go (came k ne) z r = absurd_bool (cc)

    module _ (b : Simplex) (before : w.before ≡ some b) (S S' : State) (L : LentPlace p q y o S)
        (L' : LentPlace p q y o S')
        (a : S.active ≡ i) (a' : S'.active ≡ i)
        (r : S.rule < 6) (r' : 6 ≤ S'.rule) where
      -- the point has no label
      module _ (unknown : label p (nth s i) ≡ 0) where
        unknown-place : all_labelled p w.present ≡ false
        unknown-place = rw is (false_of _ (λ t. omega (
          arith,
          unknown,
          leb-true 1 (label p (nth s i))
              (and_left _ _ (all_in on_points (has_label p) s t (nth s i) (at_in on_points [] s i (omega (arith, long))))),
        )))

        size : length (order p.grid s) ≡ suc n
        size = ap length (order_same ok y o place) ∙ e

        chain_p : LabelledChain (blocks_of q) (label_of q) (in_t p s) (suc n) (at o) (coefficients_of p s)
        unfolding set_t coefficients
        chain_p = subst (λ (t : ℕ). LabelledChain (blocks_of q) (label_of q) (in_t q s) t (at o) (coefficients_of q s)) e
            (chain ok y o place)

        left_p : Left q (in_t p s) n (coefficients_of p s) S' i (make_move S')
        unfolding set_t coefficients
        left_p = subst (λ (j : ℕ). Left q (in_t q s) n (coefficients_of q s) S' j (make_move S')) a'
            (leaves_by (full ok y o place) (described (suc n) e S' L') (all-marked (suc n) e S' L') (omega arith)
            (carries-at S' a') r')

        pub back-unknown : way_made q (make_move S') ≡ link b → next_of w labels ≡ refused 16
        back-unknown z =
            let g = gap_way ok.has_start s place n size i low unknown (full ok y o place) refl (λ x. refl)
            chain_p b left_p z in
            gap w labels ok (stands (rw (before, is)
            (came (back s b (record { from = place; to = g.0; by = g.1 })) (not_start n e)))) unknown-place

        pub not_back_unknown : (way_made q (make_move S') ≡ link b → ⊥) → next_of w labels ≡ refused 20
        not_back_unknown never = no_walk w labels ok (λ h. go h.came refl refl)
          where
            go : {l : Option Simplex} {t : Simplex} → Came p l t → l ≡ w.before → t ≡ w.present → ⊥
            go begins z t = absurd_bool (cc)
            go (came {a = c} {s = t} k ne) z u =
                let d : c ≡ b = cc in let v : t ≡ s = u ∙ is in
                let j = back c t k in
                never (gap_back ok.has_start s place n size i low unknown (full ok y o place) refl (λ x. refl) chain_p b
                (rw d at j.to) (rw (v, d) at j.by) left_p)

      -- each point has one
      module _ (own : all_labelled p s ≡ true) where
        link_q : (is_place q b && linked q b s) ≡ true → Came q w.before w.present
        link_q t = rw (before, is) (came (record {
          from = and_left (is_place q b) (linked q b s) t;
          to =
              place-filled ok y o place;
          by = and_right (is_place q b) (linked q b s) t;
        }) (not_start n e))

        pub onward_a : way_made q (make_move S') ≡ link b → next_of w labels ≡ by_way (way_made q (make_move S) ∷ [])
        onward_a z = onward own (way_made q (make_move S)) (link_q
            (came_by accepted-filled s (place-filled ok y o place) (known-filled own) (not_start n e) b
            (way_made q (make_move S')) (way_b S' L' a' r') z))
            (rw (before, is) (other-on accepted-filled s (place-filled ok y o place) (known-filled own)
            (not_start n e) b (way_made q (make_move S')) (way_made q (make_move S))
            (way_b S' L' a' r') (way_a S L a r) (λ k. different S S' L L' a a' r r' (sym k)) z))

        pub onward_b : way_made q (make_move S) ≡ link b → next_of w labels ≡ by_way (way_made q (make_move S') ∷ [])
        onward_b z = onward own (way_made q (make_move S'))
            (link_q (came_by accepted-filled s (place-filled ok y o place) (known-filled own)
            (not_start n e) b (way_made q (make_move S)) (way_a S L a r) z))
            (rw (before, is) (other-on accepted-filled s (place-filled ok y o place) (known-filled own)
            (not_start n e) b (way_made q (make_move S)) (way_made q (make_move S'))
            (way_a S L a r) (way_b S' L' a' r') (different S S' L L' a a' r r') z))

        pub neither : (way_made q (make_move S) ≡ link b → ⊥) → (way_made q (make_move S') ≡ link b → ⊥) → next_of w labels
            ≡ refused 20
        neither ka kb = sym (same_next own) ∙ no_walk w (map fill labels) accepted-filled
            (λ h. go h.came refl refl)
          where
            none-linked : (is_place q b && linked q b s) ≡ false
            none-linked = not_linked accepted-filled s (place-filled ok y o place) (known-filled own)
                (not_start n e) b (way_made q (make_move S)) (way_made q (make_move S'))
                (way_a S L a r) (way_b S' L' a' r') (different S S' L L' a a' r r') ka kb

            go : {l : Option Simplex} {t : Simplex} → Came q l t → l ≡ w.before → t ≡ w.present → ⊥
            go begins z t = absurd_bool (cc)
            go (came {a = c} {s = t} k ne) z u =
                let d : c ≡ b = cc in let v : t ≡ s = u ∙ is in
                absurd_bool (sym (and_both (is_place q b) (linked q b s) (rw d at k.from) (rw (d, v) at k.by)) ∙
                none-linked)

  -- {v} without a label
  pub unknown_v : length o ≡ 0 → w.before ≡ none → label p (nth s 0) ≡ 0 → next_of w labels ≡ refused 16
  unknown_v e b z = gap w labels ok (stands (rw (b, is, is-start e) begins)) (rw is (false_of _ (λ t. omega (
    arith,
    z,
    leb-true 1 (label p (nth s 0))
        (and_left _ _ (all_in on_points (has_label p) s t (nth s 0) (at_in on_points [] s 0 (omega (arith, long))))),
  ))))
