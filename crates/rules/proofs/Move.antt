-- The move from a place, told by the label that came in: what it needs is there, and it ends or goes on to a place
-- other than the one just left. Assumes nothing.
use mathlib.Core.Bool.{Bool, true, false}
use mathlib.Core.List.{List, map}
use mathlib.Core.Logic.{⊎_elim}
use mathlib.Core.Option.{Option, none, some}
use mathlib.Core.Path.{◌≡◌, refl, sym, ap, ◌∙◌, subst}
use Prim.Native.Nat.{ℕ, zero, suc, ◌-◌, ◌≤◌, ◌<◌}
use borrow.Author.Tests.{lt-ltb, le-ltb}
use lib.ListN.{length, length-map, length-set}
use lib.Seq.{get_or-set_same, get_or-set_other}
use native.Mathlib.Omega.{arith}
use Rattle.combinatorics.proofs.Basics.{true_or_false, absurd_bool, same_or}
use Rattle.combinatorics.proofs.EditsRemove.{Found, found-is}
use Rattle.combinatorics.specs.Edits.{found}
use Rattle.geometry.proofs.Definitions.{Carries, Extra}
use Rattle.geometry.proofs.Exits.{kinds}
use Rattle.geometry.proofs.Graph.{Through, Above}
use Rattle.geometry.proofs.LabelledChains.{list_at, LabelledChain, FacetEnd, PlaceEnd}
use Rattle.geometry.proofs.Onward.{through_determines, through_not_above, start_extra}
use Rattle.grid_points.specs.Grid.{at}
use Rattle.place.specs.Problem.{Problem}
use Rattle.path_laws.proofs.BlocksOfGrid.{blocks_of}
use Rattle.path_laws.proofs.ToChain.{label_of}
use Rattle.path_laws.proofs.Filled.{FullyLabelled}
use Rattle.rules.specs.Mask.{bit}
use Rattle.rules.specs.Read.{mark_of, read}
use Rattle.rules.specs.Ready.{label_in, Ready, ReadyLeave, ReadyGrow}
use Rattle.rules.specs.Moves.{State, After, goes, ends_at_place, ends_at_facet, mark_label, leave, make_move, with_mark}
use Rattle.rules.proofs.Describes.{Describes, labels_of, mark_at, AllMarks, MarksBut, Came, begins, through}
use Rattle.rules.proofs.Describes.{from_larger, Reached, Left, facet_ends, left_on, Joined, place_ends, joined_on}
use Rattle.rules.proofs.Grow.{grows, grow-ready}
use Rattle.rules.proofs.Leaves.{leaves, leave-ready}
use Rattle.rules.proofs.Marks.{labels_in, mark-is, mark-label}
use Rattle.rules.proofs.Range.{index_below, label-below}
use Rattle.rules.proofs.StatePoints.{point-is}

-- the mark that is read is that of the point that has come in
module _ {p : Problem} {T : ℕ → Bool} {t : ℕ} {o : ℕ → ℕ} {x : List (ℕ → ℕ)} {s : State}
    (D : Describes p T t o x s) where
  marked_describes : (m : ℕ) → Describes p T t o x (with_mark s m)
  unfolding with_mark
  marked_describes m = record {
    chain = D.chain;
    round = D.round;
    order_length = D.order_length;
    order_at = D.order_at;
    first_length = D.first_length;
    first_at = D.first_at;
    coefficients_length = D.coefficients_length;
    coefficients_at = D.coefficients_at;
    in_t = D.in_t;
    in_u = D.in_u;
    marks_length = length-set s.marks s.active m ∙ D.marks_length;
  }

  marked-marks : s.active ≤ t → MarksBut p t x s s.active → AllMarks p t x (with_mark s (mark_at p (list_at x s.active)))
  unfolding with_mark
  marked-marks l b j m =
      let v = mark_at p (list_at x s.active) in
      ⊎_elim (λ (e : j ≡ s.active). rw e (get_or-set_same s.marks s.active v 0 (omega (arith, D.marks_length))))
      (λ n. get_or-set_other s.marks s.active j v 0 n ∙ b j m n) (same_or j s.active)

-- what a move from x gives: a place end, a facet end, or a place other than the one just left
pub data Outcome (p : Problem) (T : ℕ → Bool) (t : ℕ) (x : List (ℕ → ℕ)) (left : Option (List (ℕ → ℕ))) (s : State)
    : After → Type 0 where
  at_place_end : (h : ℕ) → PlaceEnd (blocks_of p) (label_of p) t x h → Outcome p T t x left s (ends_at_place s h)
  at_facet_end : (h n : ℕ) → t ≡ suc n → FacetEnd (blocks_of p) (label_of p) T n x 0 h
      → Outcome p T t x left s (ends_at_facet s h)
  goes_on : {e : State} (y : List (ℕ → ℕ)) → (left ≡ some y → ⊥) → Reached p x e y → Outcome p T t x left s (goes e)

module _ {p : Problem} (ok : FullyLabelled p) where
  -- a chain, the state with all its labels, what the move from it needs and gives
  pub record Onward (T : ℕ → Bool) (t : ℕ) (o : ℕ → ℕ) (x : List (ℕ → ℕ)) (s : State) (left : Option (List (ℕ → ℕ)))
      : Type 0 where
    pub describes : Describes p T t o x s
    pub ready : Ready s
    pub outcome : Outcome p T t x left s (make_move s)

  -- a point with a label outside T is the only one
  pub extra_at : {T : ℕ → Bool} {t : ℕ} {o : ℕ → ℕ} {x : List (ℕ → ℕ)} → LabelledChain (blocks_of p) (label_of p) T t o x
      → (i : ℕ) → i ≤ t → T (labels_of p x i) ≡ false
      → Extra T t (labels_of p x) i
  extra_at {T} {t} {x} A i l e =
      ⊎_elim (λ w. absurd_bool (sym (w.2.all i l) ∙ e))
      (λ w. ⊎_elim
      (λ (q : i ≡ w.0). rw q w.1)
      (λ n. absurd_bool (sym (w.1.rest i l n) ∙ e))
      (same_or i w.0))
      (kinds (label_of p) A.chain A.covers)

  -- a chain and a state whose points all have their labels
  module _ {T : ℕ → Bool} {t : ℕ} {o : ℕ → ℕ} {x : List (ℕ → ℕ)} {s : State} (D : Describes p T t o x s)
      (A : AllMarks p t x s) (low : s.active ≤ t) where
    pub label-at : (j : ℕ) → j ≤ t → mark_label (at s.marks j) ≡ suc (labels_of p x j)
    label-at j l = ap mark_label (A j l) ∙ mark-label ok D.chain j l

    pub label-index : label_in s - 1 ≡ labels_of p x s.active
    label-index = omega (arith, label-at s.active low)

    pub label-bit : bit s.T (label_in s - 1) ≡ T (labels_of p x s.active)
    label-bit = ap (bit s.T) label-index
        ∙ D.in_t (labels_of p x s.active)
        (omega (arith, label-below ok D.chain s.active low, ok.has_start.sixteen_indices))

    pub ready_of : (s.rule < 6 → bit s.T (label_in s - 1) ≡ true
        → ReadyLeave s (found (label_in s) s.active (map mark_label s.marks)))
        → (s.rule < 6 → bit s.T (label_in s - 1) ≡ false → ReadyGrow s (label_in s - 1))
        → (6 ≤ s.rule → ReadyLeave s s.active) → Ready s
    ready_of left joined later = record {
      order_below = λ j l.
          let w : j < t = omega (arith, D.order_length) in
          omega (
            arith,
            D.order_at j w,
            index_below ok D.chain (o j) (D.chain.chain.order.within j w),
            ok.has_start.sixteen_indices,
          );
      active = omega (arith, D.order_length);
      label = λ r. (
        omega (arith, label-at s.active low),
        omega (arith, label-at s.active low, label-below ok D.chain s.active low, ok.has_start.sixteen_indices),
      );
      leaves = left;
      grows = joined;
      goes_on = later;
    }

    -- the label that came in is outside T, and joins it
    outside-onward : s.rule < 6 → T (labels_of p x s.active) ≡ false → (left : Option (List (ℕ → ℕ)))
        → ((y : List (ℕ → ℕ)) → left ≡ some y → Above (blocks_of p) (label_of p) T t x y → ⊥) → Onward T t o x s left
    unfolding make_move
    outside-onward r e left new =
        let E = extra_at D.chain s.active low e in
        let b = label-bit ∙ e in
        record {
          describes = D;
          ready = ready_of
              (λ q z. absurd_bool (sym z ∙ b))
              (λ q z. rw label-index (grow-ready ok D A E))
              (λ q. absurd (omega arith));
          outcome = rw (lt-ltb s.rule 6 r, b, label-index) (go (grows ok T t o x s s.active D A E));
        }
      where
        go : {e : After} → Joined p T t x s e → Outcome p T t x left s e
        go (place_ends h c) = at_place_end h c
        go (joined_on y Y R) = goes_on y (λ z. new y z Y) R

    -- it is in T: the other point that has it
    module _ (carry : Carries T t (labels_of p x) s.active) (inside : T (labels_of p x s.active) ≡ true) where
      abbrev pub other : ℕ
      other = found (label_in s) s.active (map mark_label s.marks)

      labels-long : length (map mark_label s.marks) ≡ suc t
      labels-long = length-map s.marks mark_label ∙ D.marks_length

      carried : (j : ℕ) → j ≤ t → at (map mark_label s.marks) j ≡ suc (labels_of p x j)
      carried j l = labels_in s.marks j (omega (arith, D.marks_length)) ∙ label-at j l

      pub other-found : Found (label_in s) s.active (map mark_label s.marks) other
      other-found =
          let c = carry (labels_of p x s.active) inside in
          found-is _ s.active (map mark_label s.marks) c.0 (omega (arith, c.1, labels-long))
          (carried c.0 c.1 ∙ ap suc c.3 ∙ sym (label-at s.active low)) c.2

      pub other-at-most : other ≤ t
      other-at-most = omega (arith, other-found.inside, labels-long)

      pub other-carries : Carries T t (labels_of p x) other
      other-carries k e =
          let c = carry k e in
          let q : labels_of p x s.active ≡ labels_of p x other =
          omega (arith, carried other other-at-most, label-at s.active low, other-found.is) in
          ⊎_elim
          (λ (z : c.0 ≡ other). (
            s.active,
            low,
            (λ w. other-found.other (sym w)),
            q ∙ ap (labels_of p x) (sym z) ∙ c.3,
          ))
          (λ n. (c.0, c.1, n, c.3))
          (same_or c.0 other)

  module _ {T : ℕ → Bool} {n : ℕ} {o : ℕ → ℕ} {x : List (ℕ → ℕ)} {s : State} (D : Describes p T (suc n) o x s)
      (A : AllMarks p (suc n) x s) (low : s.active ≤ suc n) (l : List (ℕ → ℕ)) where
    -- point i leaves, and what lies beyond it is not l
    left-outcome : {i : ℕ} → i ≤ suc n → Carries T (suc n) (labels_of p x) i → (Through (blocks_of p) T n x i l → ⊥)
        → Outcome p T (suc n) x (some l) s (leave s i)
    left-outcome {i} il c new = go (leaves ok T n o x s i D A il c)
      where
        go : {e : After} → Left p T n x s i e → Outcome p T (suc n) x (some l) s e
        go (facet_ends h z F) = at_facet_end h n refl F
        go (left_on w) = goes_on w.0 (λ q. let z : w.0 ≡ l = cc in new (rw z at w.1)) w.2

    -- the path came through the facet opposite to the point that came in
    through_onward : s.rule < 6 → Carries T (suc n) (labels_of p x) s.active → Through (blocks_of p) T n x s.active l
        → Onward T (suc n) o x s (some l)
    unfolding make_move
    through_onward r carry X = ⊎_elim
        (λ e.
        let b = label-bit D A low ∙ e in
        let i = other D A low carry e in
        let il = other-at-most D A low carry e in
        record {
          describes = D;
          ready = ready_of D A low
              (λ q z. leave-ready ok i D il)
              (λ q z. absurd_bool (sym b ∙ z))
              (λ q. absurd (omega arith));
          outcome = rw (lt-ltb s.rule 6 r, b)
              (left-outcome il (other-carries D A low carry e)
              (λ Y. (other-found D A low carry e).other (through_determines D.chain il low l Y X)));
        })
        (λ e.
        outside-onward D A low r e (some l) (λ y q Y. let z : l ≡ y = cc in through_not_above D.chain (rw z at X) Y))
        (true_or_false (T (labels_of p x s.active)))

    -- T has lost an index, and the point with that label leaves
    larger_onward : 6 ≤ s.rule → T (labels_of p x s.active) ≡ false → Above (blocks_of p) (label_of p) T (suc n) x l
        → Onward T (suc n) o x s (some l)
    unfolding make_move
    larger_onward r e X = record {
      describes = D;
      ready = ready_of D A low
          (λ q z. absurd (omega arith))
          (λ q z. absurd (omega arith))
          (λ q. leave-ready ok s.active D low);
      outcome = rw (le-ltb s.rule 6 r)
          (left-outcome low (extra_at D.chain s.active low e).less_first (λ Y. through_not_above D.chain Y X));
    }

  module _ (T : ℕ → Bool) (o : ℕ → ℕ) (x : List (ℕ → ℕ)) (s : State) where
    read-label : {t : ℕ} → Describes p T t o x s → s.active ≤ t → s.rule < 6
        → read p s ≡ with_mark s (mark_at p (list_at x s.active))
    unfolding read
    read-label {t} D low r = rw (lt-ltb s.rule 6 r)
        (ap (λ (m : ℕ). with_mark s m)
        (ap (mark_of p) (point-is ok D s.active low) ∙ sym (mark-is ok D.chain s.active low)))

    read_none : 6 ≤ s.rule → read p s ≡ s
    unfolding read
    read_none r = rw (le-ltb s.rule 6 r)

    begin_onward : Describes p T 0 o x s → s.active ≡ 0 → s.rule < 6 → Onward T 0 o x (read p s) none
    unfolding with_mark
    begin_onward D u r =
        let l = mark_at p (list_at x s.active) in
        let low : s.active ≤ 0 = omega arith in
        let E = start_extra D.chain in
        rw (read-label D low r)
        (outside-onward (marked_describes D l) (marked-marks D low (λ j a b. absurd (b (omega arith)))) low r
        (ap (λ (i : ℕ). T (labels_of p x i)) u ∙ E.out) none (λ y q Y. absurd_bool (cc)))

    came_through : {n : ℕ} (l : List (ℕ → ℕ)) → Describes p T (suc n) o x s → s.active ≤ suc n → s.rule < 6
        → MarksBut p (suc n) x s s.active → Carries T (suc n) (labels_of p x) s.active
        → Through (blocks_of p) T n x s.active l
        → Onward T (suc n) o x (read p s) (some l)
    unfolding with_mark
    came_through {n} l D low r b carry X =
        let v = mark_at p (list_at x s.active) in
        rw (read-label D low r) (through_onward (marked_describes D v) (marked-marks D low b) low l r carry X)

    -- however the path came; it does not come back to a place of one point
    pub onward : (t : ℕ) {left : Option (List (ℕ → ℕ))} → Describes p T t o x s → Came p T t x s left
        → ((l : List (ℕ → ℕ)) → left ≡ some l → t ≡ 0 → ⊥) → Onward T t o x (read p s) left
    onward t D (begins e u r) m =
        rw e (begin_onward (rw e at D) u r)
    onward t D (through n l e low q r b carry X C) m = subst
        (λ (t : ℕ). Describes p T t o x s → s.active ≤ t → MarksBut p t x s s.active
        → Carries T t (labels_of p x) s.active
        → Onward T t o x (read p s) (some l))
        (sym e)
        (λ D low b carry. came_through l D low r b carry X)
        D low b carry
    onward zero D (from_larger l low r q A e X) m = absurd (m l refl refl)
    onward (suc n) D (from_larger l low r q A e X) m = rw (read_none r) (larger_onward D A low l r e X)
