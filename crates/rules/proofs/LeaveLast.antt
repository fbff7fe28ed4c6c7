-- The last point leaves: the state goes on through its facet, to the place that a new first point makes or to the facet
-- itself; and the move keeps within its arrays and the width of its numbers. Assumes nothing.
use mathlib.Core.Bool.{Bool, true, false, cond}
use mathlib.Core.List.{List}
use mathlib.Core.Logic.{inl, inr, ◌⊎◌, ⊎_elim}
use mathlib.Core.Path.{◌≡◌, refl, sym, ap, ◌∙◌}
use Prim.Native.Nat.{ℕ, zero, suc, pred, ◌+◌, ◌-◌, ◌≤◌, ◌<◌}
use borrow.Author.Tests.{eqb-true, eqb-false, eq-eqb, ne_eqb, lt-ltb, le-ltb}
use lib.Dec.{eqb, ltb}
use lib.ListN.{length}
use native.Mathlib.Omega.{arith}
use Rattle.combinatorics.proofs.Basics.{true_or_false, absurd_bool, same_or}
use Rattle.combinatorics.proofs.EditsRemove.{length-rotate_right, rotate_right-first, rotate_right-later}
use Rattle.combinatorics.specs.Edits.{rotate_right}
use Rattle.geometry.proofs.Bridge.{changes_of}
use Rattle.geometry.proofs.Definitions.{back, Blocks, Chain, coord, zeros, Carries, BackToZero, Moved, OnRun}
use Rattle.geometry.proofs.LabelledChains.{list_at, tabulate}
use Rattle.geometry.proofs.Moves.{last-run, last_else, last-moved}
use Rattle.geometry.proofs.Onward.{Beyond, next-link, list_at_tabulate}
use Rattle.geometry.proofs.Ways.{last_z, last_p, last-o, last-first, last-later, last_rotate, last-beside}
use Rattle.geometry.proofs.Ways.{last_tight_at, dropped}
use Rattle.grid_points.specs.Grid.{at, num_indices}
use Rattle.place.specs.Problem.{Problem}
use Rattle.path_laws.proofs.BlocksOfGrid.{blocks_of, back_below}
use Rattle.path_laws.proofs.ToChain.{label_of}
use Rattle.path_laws.proofs.Filled.{FullyLabelled}
use Rattle.rules.specs.Mask.{bit, without_index}
use Rattle.rules.specs.Ready.{IsRound, ReadyLast}
use Rattle.rules.specs.Moves.{State, goes, shrink, shifted, first_outside_or_zero, changed_before, leave, leave_last}
use Rattle.rules.proofs.Describes.{Describes, mark_at, AllMarks, MarksBut, labels_of, through, GoesOn, Left}
use Rattle.rules.proofs.Describes.{left_on}
use Rattle.rules.proofs.Masks.{bit_without}
use Rattle.rules.proofs.Range.{index_below, coord_below}
use Rattle.rules.proofs.Shifted.{length-shifted, shifted_at}
use Rattle.rules.proofs.Shrink.{shrunk}
use Rattle.rules.proofs.WaysRound.{Before, ChangedOn, before-zero, changed, tested, backward, previous-below}
use Rattle.rules.proofs.WaysRound.{chain-to-zero}

-- a new first point, with 1 more at b and 1 less at h
abbrev new_first : State → ℕ → ℕ → State
new_first s h b = record {
  round = s.round;
  first = shifted s.first b h;
  coefficients = changed_before pred s.round.previous b 16 h s.coefficients;
  order = rotate_right s.order;
  marks = rotate_right s.marks;
  T = s.T;
  U = without_index s.U b;
  active = 0;
  rule = cond (bit s.U b) 3 1;
}

module _ {p : Problem} (ok : FullyLabelled p) {T : ℕ → Bool} {n : ℕ} {o : ℕ → ℕ} {x : List (ℕ → ℕ)} {s : State}
    (D : Describes p T (suc n) o x s) where
  abbrev R : Blocks
  R = blocks_of p

  abbrev N : IsRound p.grid s.round
  N = D.round

  K : Chain R T (suc n) (list_at x) o
  K = D.chain.chain

  last-below : o n < num_indices p.grid
  last-below = index_below ok D.chain (o n) (K.order.within n (omega arith))

  -- the run from the last index
  run : (m : ℕ) × (m ≤ 16) × BackToZero R T (list_at x 0) (o n) m
      × (first_outside_or_zero s.round s.U s.coefficients (o n) ≡ back R.previous m (o n))
  run = chain-to-zero ok N K s.U D.in_u s.coefficients D.coefficients_at (o n) last-below

  b : ℕ
  b = back R.previous run.0 (o n)

  end_below : b < num_indices p.grid
  unfolding b
  end_below = back_below p run.0 (o n) last-below

  last-index : at s.order (length s.order - 1) ≡ o n
  last-index = let i : length s.order - 1 ≡ n = omega (arith, D.order_length) in rw i (D.order_at n (omega arith))

  -- a new first point
  module _ (positive : 0 < coord R (list_at x 0) (o n)) (some : 0 < list_at x 0 (o n)) where
    inside : list_at x 0 (R.next (o n)) < R.start (o n) + list_at x 0 (o n)
    inside = omega arith

    abbrev z : ℕ → ℕ
    z = last_z K

    moves : Moved R (o n) b z (list_at x 0)
    unfolding b
    moves = last-moved K some inside run.2

    before : Before R.previous (o n) b run.0
    unfolding b
    before = before-zero run.2 moves.apart

    falls : (j : ℕ) → j < run.0 → list_at x 0 (back R.previous j (o n)) ≡ suc (z (back R.previous j (o n)))
    falls = last-run K some inside run.2

    lowered : ChangedOn R.previous pred (o n) run.0 s.coefficients
        (changed_before pred s.round.previous b 16 (o n) s.coefficients)
    lowered =
        changed s.round.previous _ (backward ok N) (previous-below ok N) pred 16 run.0 s.coefficients last-below
        (omega (arith, D.coefficients_length, ok.has_start.sixteen_indices)) run.1 before

    coefficients-at : (k : ℕ) → k < num_indices p.grid
        → at (changed_before pred s.round.previous b 16 (o n) s.coefficients) k ≡ z k
    coefficients-at k m = ⊎_elim
        (λ (q : list_at x 0 k ≡ z k).
        lowered.off k (λ j l e. omega (arith, falls j l, ap (list_at x 0) e, ap z e)) ∙ D.coefficients_at k m ∙ q)
        (λ (r : OnRun R (o n) run.0 k). rw (← r.2) (omega (
          arith,
          lowered.on r.0 r.1,
          D.coefficients_at (back R.previous r.0 (o n)) (back_below p r.0 (o n) last-below),
          falls r.0 r.1,
        )))
        (last_else K some inside run.2 k)

    first-at : (k : ℕ) → k < num_indices p.grid → at (shifted s.first b (o n)) k ≡ coord R z k
    first-at k m = omega (
      arith,
      shifted_at s.first b (o n) (omega (arith, D.first_at (o n) last-below)) k
          (omega (arith, D.first_length, ok.has_start.sixteen_indices)),
      changes_of moves k,
      D.first_at k m,
    )

    -- of the zeros outside T, b alone goes
    zeros-end : zeros R T z b ≡ false
    unfolding zeros
    zeros-end = ⊎_elim
        (λ (t : T b ≡ true). rw t)
        (λ (t : T b ≡ false). rw t (ne_eqb (coord R z b) 0 (λ q. omega (arith, moves.gives))))
        (true_or_false (T b))

    zeros_else : (k : ℕ) → (k ≡ b → ⊥) → zeros R T (list_at x 0) k ≡ zeros R T z k
    unfolding zeros
    zeros_else k q =
        ⊎_elim (λ (t : T k ≡ true). rw t)
        (λ (t : T k ≡ false). ap (λ (v : ℕ). cond (T k) false (eqb v 0))
        (moves.rest k (λ e. absurd_bool (sym (K.order.within n (omega arith)) ∙ ap T (sym e) ∙ t)) q))
        (true_or_false (T k))

    in_U : (k : ℕ) → k < 16 → bit (without_index s.U b) k ≡ zeros R T z k
    in_U k m =
        let w = bit_without s.U b k (omega (arith, end_below, ok.has_start.sixteen_indices)) m in
        ⊎_elim (λ (q : k ≡ b). rw (eq-eqb k b q) at w ∙ sym (ap (zeros R T z) q ∙ zeros-end))
        (λ q. rw (ne_eqb k b q) at w ∙ D.in_u k m ∙ zeros_else k q)
        (same_or k b)

    module _ (L : AllMarks p (suc n) x s) (c : Carries T (suc n) (labels_of p x) (suc n)) where
      y : List (ℕ → ℕ)
      y = tabulate (suc (suc n)) (last_p K)

      beyond : Beyond R (label_of p) T n x (suc n) (last-o K) y 0
      unfolding y
      beyond = next-link D.chain (suc n) (omega arith) c (last-beside K some inside)

      first : list_at y 0 ≡ z
      unfolding y
      first = list_at_tabulate (suc (suc n)) (last_p K) 0 (omega arith) ∙ last-first K

      later : (j : ℕ) → j ≤ n → list_at y (suc j) ≡ list_at x j
      unfolding y
      later j m = list_at_tabulate (suc (suc n)) (last_p K) (suc j) (omega arith) ∙ last-later K j

      order-at : (j : ℕ) → j < suc n → at (rotate_right s.order) j ≡ last-o K j
      order-at zero m = rotate_right-first 0 s.order ∙ last-index ∙ (last_rotate K).last
      order-at (suc j) m = rotate_right-later 0 s.order j (omega (arith, D.order_length))
          ∙ D.order_at j (omega arith)
          ∙ (last_rotate K).back j (omega arith)

      marks_but : MarksBut p (suc n) y (new_first s (o n) b) 0
      marks_but zero m q = absurd (q refl)
      marks_but (suc j) m q =
          rotate_right-later 0 s.marks j (omega (arith, D.marks_length)) ∙ L j (omega arith)
          ∙ ap (mark_at p) (sym (later j (omega arith)))

      enters : GoesOn p T n x (suc n) (new_first s (o n) b)
      enters = (
        y,
        beyond.through,
        record {
          T = T;
          t = suc n;
          o = last-o K;
          describes = record {
            chain = beyond.place;
            round = D.round;
            order_length = length-rotate_right s.order ∙ D.order_length;
            order_at = order-at;
            first_length = length-shifted s.first b (o n) ∙ D.first_length;
            first_at = λ k m. first-at k m ∙ ap (λ (f : ℕ → ℕ). coord R f k) (sym first);
            coefficients_length = lowered.size ∙ D.coefficients_length;
            coefficients_at = λ k m. coefficients-at k m ∙ ap (λ (f : ℕ → ℕ). f k) (sym first);
            in_t = D.in_t;
            in_u = λ k m. in_U k m ∙ ap (λ (f : ℕ → ℕ). zeros R T f k) (sym first);
            marks_length = length-rotate_right s.marks ∙ D.marks_length;
          };
          came = through n x refl (omega arith) (rule-is (bit s.U b)).0 (rule-is (bit s.U b)).1 marks_but
              beyond.carries beyond.back (λ _ l _. absurd (omega arith));
          link = beyond.link;
        },
      )
        where
          rule-is : (t : Bool) → (0 < cond t 3 1) × (cond t 3 1 < 6)
          rule-is true = (omega arith, omega arith)
          rule-is false = (omega arith, omega arith)

  -- the facet is a place
  drops : AllMarks p (suc n) x s → Carries T (suc n) (labels_of p x) (suc n)
      → (list_at x 0 (o n) ≡ 0) ⊎ (R.start (o n) + list_at x 0 (o n) ≤ list_at x 0 (R.next (o n))) → (into : Bool)
      → eqb (coord R (list_at x 0) (o n)) 0 ≡ into → GoesOn p T n x (suc n) (shrink s (suc n) n into)
  drops L c w into e =
      shrunk ok D L (omega arith) c (dropped K n (omega arith) (λ j m q. last_tight_at K w j (omega (arith, q)))) into e

  move : leave s (suc n) ≡ goes (cond (eqb (coord R (list_at x 0) (o n)) 0) (shrink s (suc n) n true)
      (cond (eqb (list_at x 0 (o n)) 0) (shrink s (suc n) n false) (new_first s (o n) b)))
  unfolding leave leave_last b
  move =
      let i : suc n - 1 ≡ n = omega arith in
      rw (
        ne_eqb (suc n) 0 (λ q. omega arith),
        D.order_length,
        le-ltb (suc n) (suc n) (omega arith),
        i,
        D.order_at n (omega arith),
        run.3,
        D.first_at (o n) last-below,
        D.coefficients_at (o n) last-below,
      ) refl

  pub leave-last : AllMarks p (suc n) x s → Carries T (suc n) (labels_of p x) (suc n)
      → Left p T n x s (suc n) (leave s (suc n))
  leave-last L c = rw move (left_on (go (eqb (coord R (list_at x 0) (o n)) 0) refl (eqb (list_at x 0 (o n)) 0) refl))
    where
      go : (t : Bool) → eqb (coord R (list_at x 0) (o n)) 0 ≡ t → (u : Bool) → eqb (list_at x 0 (o n)) 0 ≡ u
          → GoesOn p T n x (suc n)
          (cond t (shrink s (suc n) n true) (cond u (shrink s (suc n) n false) (new_first s (o n) b)))
      go true e u f = drops L c (inr (omega (arith, eqb-true (coord R (list_at x 0) (o n)) 0 e))) true e
      go false e true f = drops L c (inl (eqb-true _ 0 f)) false e
      go false e false f = enters (omega (arith, eqb-false (coord R (list_at x 0) (o n)) 0 e))
          (omega (arith, eqb-false (list_at x 0 (o n)) 0 f)) L c

  pub ready-last : ReadyLast s (at s.order (length s.order - 1))
  unfolding b
  ready-last = rw last-index (record {
    some = omega (arith, D.order_length);
    fits = λ g h. rw run.3 (omega (arith, D.first_at b end_below, coord_below ok D.chain 0 (omega arith) b end_below));
    lowered = λ g h. rw run.3 (let g' : 0 < coord R (list_at x 0) (o n) = omega (arith, D.first_at (o n) last-below) in
        let h' : 0 < list_at x 0 (o n) = omega (arith, D.coefficients_at (o n) last-below) in
        tested s.round.previous (num_indices p.grid) (backward ok N) (previous-below ok N)
        (λ c. ltb 0 c)
        pred 16 run.0 s.coefficients last-below run.1 (before g' h')
        (λ j m. lt-ltb 0 (at s.coefficients (back R.previous j (o n))) (omega (
          arith,
          falls g' h' j m,
          D.coefficients_at (back R.previous j (o n)) (back_below p j (o n) last-below),
        ))));
  })
