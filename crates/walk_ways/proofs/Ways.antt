-- Each of the two moves from a lent place makes a way out of it, and they make different ones. In order: one move; two
-- moves; the moves of a run. Assumes nothing.
use mathlib.Core.Bool.{Bool, true, false}
use mathlib.Core.List.{List}
use mathlib.Core.Logic.{⊎_elim}
use mathlib.Core.Path.{◌≡◌, refl, sym, ap, ◌∙◌}
use Prim.Native.Nat.{ℕ, suc, ◌≤◌, ◌<◌}
use borrow.Author.Tests.{le-ltb, lt-ltb}
use lib.Dec.{eqb}
use lib.ListN.{length}
use native.Mathlib.Omega.{arith}
use Rattle.combinatorics.proofs.Basics.{absurd_bool, true_or_false}
use Rattle.combinatorics.specs.Lists.{is_in}
use Rattle.end_kinds.specs.declared.Kind.{Kind}
use Rattle.end_kinds.specs.declared.Kind.TheVariants.{Facet as facet_end, Place as place_end}
use Rattle.geometry.proofs.Definitions.{Carries}
use Rattle.geometry.proofs.LabelledChains.{LabelledChain}
use Rattle.geometry.proofs.Onward.{through_determines, through_not_above, start_extra}
use Rattle.grid_points.specs.Grid.{num_indices}
use Rattle.path_laws.proofs.BlocksOfGrid.{blocks_of}
use Rattle.path_laws.proofs.ChainLinks.{of_link}
use Rattle.path_laws.proofs.Filled.{FullyLabelled}
use Rattle.path_laws.proofs.FromChain.{T-is, back-again, in_U, place_of}
use Rattle.path_laws.proofs.ToChain.{coefficients_of, label_of, points_of}
use Rattle.path_laws.proofs.Ways.{IsWay, by_link}
use Rattle.place.specs.Ends.{Way, link, stop}
use Rattle.place.specs.Places.{is_place, set_t, set_u}
use Rattle.place.specs.Problem.{Problem}
use Rattle.rules.proofs.Describes.{AllMarks, Describes, Joined, Left, Reached, facet_ends, joined_on, labels_of, left_on}
use Rattle.rules.proofs.Describes.{place_ends}
use Rattle.rules.proofs.Follow.{facet_way, place_way}
use Rattle.rules.proofs.Grow.{grow-ready, grows}
use Rattle.rules.proofs.Leaves.{leave-ready, leaves}
use Rattle.rules.proofs.Move.{extra_at, label-bit, label-index, other, other-at-most, other-carries, other-found}
use Rattle.rules.proofs.Move.{ready_of}
use Rattle.rules.proofs.Range.{few}
use Rattle.rules.proofs.StatePoints.{all-points, later-points}
use Rattle.rules.specs.Mask.{bit}
use Rattle.rules.specs.Ready.{Ready}
use Rattle.rules.specs.Moves.{After, State, ends_at_facet, ends_at_place, goes, make_move}
use Rattle.walk_ways.proofs.Kept.{kept_described}
use Rattle.walk_ways.specs.Lent.{kept_by, way_made}

abbrev of_place : Kind → Bool
of_place place_end = true
of_place facet_end = false

abbrev at_place : Way → Bool
at_place (stop e) = of_place e.kind
at_place (link s) = false

module _ {q : Problem} (full : FullyLabelled q) where
  -- a place that is reached is linked
  reached_way : {T : ℕ → Bool} {t : ℕ} {o : ℕ → ℕ} {x : List (ℕ → ℕ)} → LabelledChain (blocks_of q) (label_of q) T t o x
      → {e : State} {y : List (ℕ → ℕ)} → Reached q x e y
      → IsWay q (points_of q x) (link (kept_by q e))
  reached_way {x} C {e} {y} R =
      let L = of_link full.has_start _ (place_of full.has_start C) (rw (← back-again full.has_start C) at R.link) in
      rw (kept_described full R.describes) (by_link (points_of q y) L.0 L.1)

  reached-points : {x : List (ℕ → ℕ)} {e : State} {y : List (ℕ → ℕ)} → Reached q x e y
      → coefficients_of q (kept_by q e) ≡ y
  reached-points R =
      ap (coefficients_of q) (kept_described full R.describes) ∙ back-again full.has_start R.describes.chain

  module _ {T : ℕ → Bool} {n : ℕ} {o : ℕ → ℕ} {x : List (ℕ → ℕ)} where
    left_way : {S : State} {i : ℕ} {after : After} → Describes q T (suc n) o x S → Left q T n x S i after
        → IsWay q (points_of q x) (way_made q after)
    left_way D (facet_ends h z F) = rw (later-points full D) (facet_way full D.chain h refl F).1
    left_way D (left_on w) = reached_way D.chain w.2

    -- two points that leave
    apart : {S S' : State} {i j : ℕ} {a b : After} → LabelledChain (blocks_of q) (label_of q) T (suc n) o x → i ≤ suc n
        → j ≤ suc n → (i ≡ j → ⊥) → Left q T n x S i a → Left q T n x S' j b → way_made q a ≡ way_made q b → ⊥
    apart C li lj ne (facet_ends h z F) (facet_ends k w G) e = ne (z ∙ sym w)
    apart C li lj ne (facet_ends h z F) (left_on w) e = absurd_bool (cc)
    apart C li lj ne (left_on w) (facet_ends h z F) e = absurd_bool (cc)
    apart {i} {j} C li lj ne (left_on {after = f} w) (left_on {after = g} v) e =
        let k : kept_by q f ≡ kept_by q g = cc in
        let r : w.0 ≡ v.0 = sym (reached-points w.2) ∙ ap (coefficients_of q) k ∙ reached-points v.2 in
        ne (through_determines C li lj w.0 w.1 (rw (← r) at v.1))

    -- a point that leaves, and a label that joins T
    apart-joined : {S S' : State} {i : ℕ} {a b : After} → LabelledChain (blocks_of q) (label_of q) T (suc n) o x
        → Left q T n x S i a → Joined q T (suc n) x S' b → way_made q a ≡ way_made q b → ⊥
    apart-joined C (facet_ends h z F) (place_ends k c) e = absurd_bool (sym (ap at_place e))
    apart-joined C (facet_ends h z F) (joined_on y Y R) e = absurd_bool (cc)
    apart-joined C (left_on w) (place_ends k c) e = absurd_bool (cc)
    apart-joined C (left_on {after = f} w) (joined_on {after = g} y Y R) e =
        let k : kept_by q f ≡ kept_by q g = cc in
        let r : w.0 ≡ y = sym (reached-points w.2) ∙ ap (coefficients_of q) k ∙ reached-points R in
        through_not_above C (rw r at w.1) Y

  joined_way : {T : ℕ → Bool} {t : ℕ} {o : ℕ → ℕ} {x : List (ℕ → ℕ)} {S : State} {after : After} → Describes q T t o x S
      → Joined q T t x S after
      → IsWay q (points_of q x) (way_made q after)
  joined_way D (place_ends h c) = rw (all-points full D) (place_way full D.chain h c).1
  joined_way D (joined_on y Y R) = reached_way D.chain R

  -- the point named leaves
  module _ {T : ℕ → Bool} {n : ℕ} {o : ℕ → ℕ} {x : List (ℕ → ℕ)} {S : State} (D : Describes q T (suc n) o x S)
      (A : AllMarks q (suc n) x S) (low : S.active ≤ suc n) (carry : Carries T (suc n) (labels_of q x) S.active) where
    pub leaves_by : 6 ≤ S.rule → Left q T n x S S.active (make_move S)
    unfolding make_move
    leaves_by r = rw (le-ltb S.rule 6 r) (leaves full T n o x S S.active D A low carry)

    pub ready-leaves : 6 ≤ S.rule → Ready S
    ready-leaves r = ready_of full D A low
        (λ z. absurd (omega arith))
        (λ z. absurd (omega arith))
        (λ z. leave-ready full S.active D low)

    -- or its label joins T, or the other point with it leaves
    pub joins_by : S.rule < 6 → T (labels_of q x S.active) ≡ false → Joined q T (suc n) x S (make_move S)
    unfolding make_move
    joins_by r e = rw (lt-ltb S.rule 6 r, label-bit full D A low ∙ e, label-index full D A low)
        (grows full T (suc n) o x S S.active D A (extra_at full D.chain S.active low e))

    pub other-leaves : S.rule < 6 → (e : T (labels_of q x S.active) ≡ true)
        → Left q T n x S (other full D A low carry e) (make_move S)
    unfolding make_move
    other-leaves r e = rw (lt-ltb S.rule 6 r, label-bit full D A low ∙ e)
        (leaves full T n o x S (other full D A low carry e) D A (other-at-most full D A low carry e)
        (other-carries full D A low carry e))

    pub ready_on : S.rule < 6 → Ready S
    ready_on r = ⊎_elim
        (λ e.
        let b = label-bit full D A low ∙ e in
        ready_of full D A low
        (λ z w. leave-ready full (other full D A low carry e) D (other-at-most full D A low carry e))
        (λ z w. absurd_bool (sym b ∙ w))
        (λ z. absurd (omega arith)))
        (λ e.
        let b = label-bit full D A low ∙ e in
        ready_of full D A low
        (λ z w. absurd_bool (sym w ∙ b))
        (λ z w. rw (label-index full D A low) (grow-ready full D A (extra_at full D.chain S.active low e)))
        (λ z. absurd (omega arith)))
        (true_or_false (T (labels_of q x S.active)))

    pub way_back : 6 ≤ S.rule → IsWay q (points_of q x) (way_made q (make_move S))
    way_back r = left_way D (leaves_by r)

    pub way_onward : S.rule < 6 → IsWay q (points_of q x) (way_made q (make_move S))
    way_onward r = ⊎_elim
        (λ e. left_way D (other-leaves r e))
        (λ e. joined_way D (joins_by r e))
        (true_or_false (T (labels_of q x S.active)))

  -- the two are different
  module _ {T : ℕ → Bool} {n : ℕ} {o : ℕ → ℕ} {x : List (ℕ → ℕ)} {S S' : State} (D : Describes q T (suc n) o x S)
      (A : AllMarks q (suc n) x S) (D' : Describes q T (suc n) o x S') (A' : AllMarks q (suc n) x S')
      (low : S.active ≤ suc n) (carry : Carries T (suc n) (labels_of q x) S.active)
      (same : S'.active ≡ S.active) where
    low' : S'.active ≤ suc n
    low' = omega arith

    carry' : Carries T (suc n) (labels_of q x) S'.active
    carry' = rw same carry

    pub ways-apart : S.rule < 6 → 6 ≤ S'.rule → way_made q (make_move S) ≡ way_made q (make_move S') → ⊥
    ways-apart r r' w =
        let L = leaves_by D' A' low' carry' r' in
        ⊎_elim
        (λ e. apart D.chain (other-at-most full D A low carry e) low'
        (λ z. (other-found full D A low carry e).other (z ∙ same))
        (other-leaves D A low carry r e) L w)
        (λ e. apart-joined D.chain L (joins_by D A low carry r e) (sym w))
        (true_or_false (T (labels_of q x S.active)))

  -- at {v} the label joins T
  module _ {T : ℕ → Bool} {o : ℕ → ℕ} {x : List (ℕ → ℕ)} {S : State} (D : Describes q T 0 o x S) (A : AllMarks q 0 x S)
      (first : S.active ≡ 0) (r : S.rule < 6) where
    start-low : S.active ≤ 0
    start-low = omega arith

    start-out : T (labels_of q x S.active) ≡ false
    start-out = ap (λ (i : ℕ). T (labels_of q x i)) first ∙ (start_extra D.chain).out

    pub start-ready : Ready S
    start-ready =
        let b = label-bit full D A start-low ∙ start-out in
        ready_of full D A start-low
        (λ z w. absurd_bool (sym w ∙ b))
        (λ z w.
        rw (label-index full D A start-low) (grow-ready full D A (extra_at full D.chain S.active start-low start-out)))
        (λ z. absurd (omega arith))

    pub start-joins : Joined q T 0 x S (make_move S)
    unfolding make_move
    start-joins = rw (lt-ltb S.rule 6 r, label-bit full D A start-low ∙ start-out, label-index full D A start-low)
        (grows full T 0 o x S S.active D A (extra_at full D.chain S.active start-low start-out))

    pub start_way : IsWay q (points_of q x) (way_made q (make_move S))
    start_way = joined_way D start-joins

-- what comes after a move fits its arrays, and an end names an index
module _ {q : Problem} (full : FullyLabelled q) where
  reached-fits : {x : List (ℕ → ℕ)} {e : State} {y : List (ℕ → ℕ)} → Reached q x e y
      → (length e.order ≤ 15) × (length e.first ≡ 16)
  reached-fits R = (
    omega (arith, R.describes.order_length, few full R.describes.chain, full.has_start.sixteen_indices),
    R.describes.first_length,
  )

  reached-place : {x : List (ℕ → ℕ)} {e : State} {y : List (ℕ → ℕ)} → Reached q x e y → is_place q (kept_by q e) ≡ true
  reached-place R = rw (kept_described full R.describes) (place_of full.has_start R.describes.chain)

  reached_masks : {x : List (ℕ → ℕ)} {e : State} {y : List (ℕ → ℕ)} → Reached q x e y
      → ((k : ℕ) → k < 16 → bit e.T k ≡ is_in eqb k (set_t q (kept_by q e)))
      × ((k : ℕ) → k < 16 → bit e.U k ≡ is_in eqb k (set_u q.grid (kept_by q e)))
  reached_masks {e} {y} R =
      let D = R.describes in (
        λ k l. rw (kept_described full D) (D.in_t k l ∙ sym (ap (λ (t : ℕ → Bool). t k) (T-is full.has_start D.chain))),
        λ k l. rw (kept_described full D) (D.in_u k l ∙ sym (in_U full.has_start D.chain k)),
      )

  -- what a move gives, whichever it is
  pub record Fits (S : State) (after : After) : Type 0 where
    pub moves : (e : State) → after ≡ goes e
        → (length e.order ≤ 15) × (length e.first ≡ 16) × (is_place q (kept_by q e) ≡ true)
        × ((k : ℕ) → k < 16 → bit e.T k ≡ is_in eqb k (set_t q (kept_by q e)))
        × ((k : ℕ) → k < 16 → bit e.U k ≡ is_in eqb k (set_u q.grid (kept_by q e)))
    pub place : (s : State) (h : ℕ) → after ≡ ends_at_place s h → (s ≡ S) × (h < num_indices q.grid)
    pub facet : (s : State) (h : ℕ) → after ≡ ends_at_facet s h → (s ≡ S) × (h < num_indices q.grid) × (1 ≤ length S.order)

  moves-fits : {x : List (ℕ → ℕ)} {f : State} {y : List (ℕ → ℕ)} {S : State} → Reached q x f y → Fits S (goes f)
  moves-fits {f = f} R = record {
    moves = λ e z.
        let r : f ≡ e = cc in
        rw (← r) (let a = reached-fits R in let m = reached_masks R in (a.0, a.1, reached-place R, m.0, m.1));
    place = λ s h z. absurd_bool (cc);
    facet = λ s h z. absurd_bool (cc);
  }

  left-fits : {T : ℕ → Bool} {n : ℕ} {o : ℕ → ℕ} {x : List (ℕ → ℕ)} {S : State} {i : ℕ} {after : After}
      → Describes q T (suc n) o x S → Left q T n x S i after → Fits S after
  left-fits {S = S} D (facet_ends h z F) = record {
    moves = λ e r. absurd_bool (cc);
    place = λ s k r. absurd_bool (cc);
    facet = λ s k r.
        let a : S ≡ s = cc in
        let b : h ≡ k = cc in
        (sym a, rw (← b) (facet_way full D.chain h refl F).0, omega (arith, D.order_length));
  }
  left-fits D (left_on w) = moves-fits w.2

  joined-fits : {T : ℕ → Bool} {t : ℕ} {o : ℕ → ℕ} {x : List (ℕ → ℕ)} {S : State} {after : After}
      → Describes q T t o x S → Joined q T t x S after → Fits S after
  joined-fits {S = S} D (place_ends h c) = record {
    moves = λ e r. absurd_bool (cc);
    place = λ s k r. let a : S ≡ s = cc in let b : h ≡ k = cc in (sym a, rw (← b) (place_way full D.chain h c).0);
    facet = λ s k r. absurd_bool (cc);
  }
  joined-fits D (joined_on y Y R) = moves-fits R

  module _ {T : ℕ → Bool} {n : ℕ} {o : ℕ → ℕ} {x : List (ℕ → ℕ)} {S : State} (D : Describes q T (suc n) o x S)
      (A : AllMarks q (suc n) x S) (low : S.active ≤ suc n) (carry : Carries T (suc n) (labels_of q x) S.active) where
    pub fits-back : 6 ≤ S.rule → Fits S (make_move S)
    fits-back r = left-fits D (leaves_by full D A low carry r)

    pub fits-onward : S.rule < 6 → Fits S (make_move S)
    fits-onward r = ⊎_elim
        (λ e. left-fits D (other-leaves full D A low carry r e))
        (λ e. joined-fits D (joins_by full D A low carry r e))
        (true_or_false (T (labels_of q x S.active)))

  pub fits-start : {T : ℕ → Bool} {o : ℕ → ℕ} {x : List (ℕ → ℕ)} {S : State} → Describes q T 0 o x S → AllMarks q 0 x S
      → S.active ≡ 0 → S.rule < 6 → Fits S (make_move S)
  fits-start D A first r = joined-fits D (start-joins full D A first r)

-- the masks of a state are the sets of its place
pub described_masks : {q : Problem} (full : FullyLabelled q) {T : ℕ → Bool} {t : ℕ} {o : ℕ → ℕ} {x : List (ℕ → ℕ)}
    {e : State}
    → Describes q T t o x e
    → ((k : ℕ) → k < 16 → bit e.T k ≡ is_in eqb k (set_t q (points_of q x)))
    × ((k : ℕ) → k < 16 → bit e.U k ≡ is_in eqb k (set_u q.grid (points_of q x)))
described_masks full D = (
  λ k l. D.in_t k l ∙ sym (ap (λ (t : ℕ → Bool). t k) (T-is full.has_start D.chain)),
  λ k l. D.in_u k l ∙ sym (in_U full.has_start D.chain k),
)
