-- A state without positions moves as one with positions: no move looks at a position. Assumes nothing.
use mathlib.Core.Bool.{Bool, true, false, not, ◌&&◌, cond}
use mathlib.Core.List.{List, [], ◌∷◌, map}
use mathlib.Core.Logic.{⊎_elim}
use mathlib.Core.Path.{◌≡◌, refl, sym, ap}
use Prim.Native.Nat.{ℕ, zero, suc, ◌-◌, ◌≤◌, ◌<◌}
use borrow.Author.Tests.{eq-eqb, le-ltb, lt-ltb, ne_eqb}
use lib.Dec.{eqb, ltb}
use lib.ListN.{length, set}
use native.Mathlib.Omega.{arith}
use Rattle.combinatorics.proofs.Basics.{before_or_not, same_or, true_or_false}
use Rattle.combinatorics.proofs.Turns.{map-append}
use Rattle.combinatorics.specs.Edits.{but_last, found, insert_at, last_or, remove_at, rotate_left, rotate_right}
use Rattle.grid_points.specs.Grid.{at}
use Rattle.rules.specs.Mask.{bit}
use Rattle.rules.specs.Ready.{Ready, ReadyLeave, label_in}
use Rattle.rules.specs.Moves.{State, goes, first_outside, grow, is_filled, leave, leave_first, leave_last}
use Rattle.rules.specs.Moves.{leave_middle, make_move, mark_label, shrink, source_in}
use Rattle.solve_pass.specs.Bare.{bare_state, bare_after}

-- edits of lists, and a function on each element
module _ (f : ℕ → ℕ) where
  map-left : (l : List ℕ) → rotate_left (map f l) ≡ map f (rotate_left l)
  map-left [] = refl
  map-left (x ∷ l) = sym (map-append f l (x ∷ []))

  map_last : (d : ℕ) (l : List ℕ) → last_or (f d) (map f l) ≡ f (last_or d l)
  map_last d [] = refl
  map_last d (x ∷ l) = map_last x l

  map_but : (l : List ℕ) → but_last (map f l) ≡ map f (but_last l)
  map_but [] = refl
  map_but (x ∷ []) = refl
  map_but (x ∷ y ∷ l) = ap (λ (r : List ℕ). f x ∷ r) (map_but (y ∷ l))

  map-right : (l : List ℕ) → rotate_right (map f l) ≡ map f (rotate_right l)
  map-right [] = refl
  map-right (x ∷ l) = rw (map_last x l, map_but (x ∷ l))

  map_remove : (i : ℕ) (l : List ℕ) → remove_at i (map f l) ≡ map f (remove_at i l)
  map_remove i [] = refl
  map_remove zero (x ∷ l) = refl
  map_remove (suc i) (x ∷ l) = ap (λ (r : List ℕ). f x ∷ r) (map_remove i l)

  map-insert : (i y : ℕ) (l : List ℕ) → insert_at i (f y) (map f l) ≡ map f (insert_at i y l)
  map-insert zero y l = refl
  map-insert (suc i) y [] = refl
  map-insert (suc i) y (x ∷ l) = ap (λ (r : List ℕ). f x ∷ r) (map-insert i y l)

  pub map-set : (l : List ℕ) (i y : ℕ) → set (map f l) i (f y) ≡ map f (set l i y)
  map-set [] i y = refl
  map-set (x ∷ l) zero y = refl
  map-set (x ∷ l) (suc i) y = ap (λ (r : List ℕ). f x ∷ r) (map-set l i y)

twice : (l : List ℕ) → map mark_label (map mark_label l) ≡ map mark_label l
twice [] = refl
twice (m ∷ l) = let e : mark_label (mark_label m) ≡ mark_label m = omega arith in rw (e, twice l)

label-at : (l : List ℕ) (i : ℕ) → mark_label (at (map mark_label l) i) ≡ mark_label (at l i)
label-at [] i = refl
label-at (m ∷ l) zero = omega arith
label-at (m ∷ l) (suc i) = label-at l i

module _ (s : State) where
  shrink-bare : (i e : ℕ) (into_u : Bool) → shrink (bare_state s) i e into_u ≡ bare_state (shrink s i e into_u)
  unfolding shrink
  shrink-bare i e into_u = rw (map_remove mark_label i s.marks, twice (remove_at i s.marks))

  first-bare : leave_first (bare_state s) ≡ bare_after (leave_first s)
  unfolding leave_first
  first-bare =
      let b = source_in s (at s.order 0) in
      ⊎_elim (λ e. rw e) (λ e. rw e (rw (map-left mark_label s.marks)))
      (true_or_false ((eqb (at s.first b) 1 && not (bit s.T b)) && is_filled s.round s.T s.U b))

  middle_bare : (i : ℕ) → leave_middle (bare_state s) i ≡ bare_state (leave_middle s i)
  unfolding leave_middle
  middle_bare i =
      let b = source_in s (at s.order i) in
      ⊎_elim (λ e. rw e (shrink-bare i (i - 1) true)) (λ e. rw e)
      (true_or_false (eqb (at s.order (i - 1)) b && eqb (at s.first b) 0))

  last-bare : leave_last (bare_state s) ≡ bare_state (leave_last s)
  unfolding leave_last
  last-bare =
      let t = length s.order in
      let h = at s.order (t - 1) in
      ⊎_elim
      (λ e. rw e (shrink-bare t (t - 1) true))
      (λ e. rw e (⊎_elim
      (λ f. rw f (shrink-bare t (t - 1) false))
      (λ f. rw f (rw (map-right mark_label s.marks)))
      (true_or_false (eqb (at s.coefficients h) 0))))
      (true_or_false (eqb (at s.first h) 0))

  leave-bare : (i : ℕ) → leave (bare_state s) i ≡ bare_after (leave s i)
  unfolding leave
  leave-bare i =
      ⊎_elim (λ (z : i ≡ 0). rw (eq-eqb i 0 z) first-bare)
      (λ z. rw (ne_eqb i 0 z)
      (⊎_elim
      (λ (l : i < length s.order). rw (lt-ltb i (length s.order) l) (ap goes (middle_bare i)))
      (λ (l : length s.order ≤ i). rw (le-ltb i (length s.order) l) (ap goes last-bare))
      (before_or_not i (length s.order))))
      (same_or i 0)

  grow-bare : (h : ℕ) → grow (bare_state s) h ≡ bare_after (grow s h)
  unfolding grow
  grow-bare h =
      let ahead = first_outside s.round.next s.round.sizes s.U h in
      let i = cond (bit s.U h) (found ahead 16 s.order) (length s.order) in
      ⊎_elim (λ e. rw e) (λ e. rw e (rw (map-insert mark_label (suc i) 0 s.marks)))
      (true_or_false (not (bit s.U h) && is_filled s.round s.T s.U h))

  pub move_bare : make_move (bare_state s) ≡ bare_after (make_move s)
  unfolding make_move
  move_bare =
      ⊎_elim
      (λ e. rw e (rw (label-at s.marks s.active)
      (⊎_elim
      (λ f. rw f (rw (twice s.marks) (leave-bare (found (label_in s) s.active (map mark_label s.marks)))))
      (λ f. rw f (grow-bare (label_in s - 1)))
      (true_or_false (bit s.T (label_in s - 1))))))
      (λ e. rw e (leave-bare s.active))
      (true_or_false (ltb s.rule 6))

  ready-leave : (i : ℕ) → ReadyLeave s i → ReadyLeave (bare_state s) i
  ready-leave i R = record {
    low = R.low;
    few = R.few;
    first = λ z. let F = R.first z in
        record { some = F.some; positive = F.positive; fits = F.fits; raised = F.raised };
    last = λ z. let L = R.last z in record { some = L.some; fits = L.fits; lowered = L.lowered };
  }

  pub ready-bare : Ready s → Ready (bare_state s)
  ready-bare R = record {
    order_below = R.order_below;
    active = R.active;
    label = λ r. rw (label-at s.marks s.active) (R.label r);
    leaves = λ r t. rw (label-at s.marks s.active, twice s.marks)
        (ready-leave _ (R.leaves r (rw (label-at s.marks s.active) at t)));
    grows = λ r t. rw (label-at s.marks s.active)
        (let G = R.grows r (rw (label-at s.marks s.active) at t) in
        record { low = G.low; few = G.few; room = G.room });
    goes_on = λ r. ready-leave s.active (R.goes_on r);
  }
