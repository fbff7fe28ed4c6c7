-- A state without labels moves as one with labels: no move looks at a label, but for the point that leaves next after
-- rules 6 and 7. Assumes nothing.
use mathlib.Core.Bool.{Bool, true, false, not, ◌&&◌, cond}
use mathlib.Core.List.{List, [], ◌∷◌, ◌++◌, map}
use mathlib.Core.Logic.{⊎_elim}
use mathlib.Core.Path.{◌≡◌, refl, sym, ap}
use Prim.Native.Nat.{ℕ, zero, suc, ◌-◌, ◌<◌, ◌≤◌}
use borrow.Author.Tests.{eq-eqb, le-ltb, lt-ltb, ne_eqb}
use lib.Dec.{eqb}
use lib.ListN.{length}
use native.Mathlib.Omega.{arith}
use Rattle.combinatorics.proofs.Basics.{before_or_not, same_or, true_or_false}
use Rattle.combinatorics.specs.Edits.{but_last, found, insert_at, last_or, remove_at, rotate_left, rotate_right}
use Rattle.grid_points.specs.Grid.{at}
use Rattle.rules.specs.Mask.{bit}
use Rattle.rules.specs.Moves.{State, After, goes, ends_at_place, ends_at_facet, first_outside, grow}
use Rattle.rules.specs.Moves.{is_filled, leave, leave_first, leave_last, leave_middle, mark, mark_position, shrink}
use Rattle.rules.specs.Moves.{source_in}
use Rattle.moves.specs.Held.{with_marks}

-- a mark without its label
abbrev pub strip : ℕ → ℕ
strip m = mark (mark_position m) 0

abbrev pub stripped : State → State
stripped s = with_marks s (map strip s.marks)

-- the same state with another point that leaves next
abbrev pub with_active : State → ℕ → State
with_active s active = record {
  round = s.round;
  first = s.first;
  coefficients = s.coefficients;
  order = s.order;
  marks = s.marks;
  T = s.T;
  U = s.U;
  active = active;
  rule = s.rule;
}

-- f is e without labels, but for the point that leaves next after rules 6 and 7
pub record Likewise (e f : State) : Type 0 where
  pub rest : f ≡ with_active (stripped e) f.active
  pub active : f.rule < 6 → f.active ≡ e.active

abbrev pub LikewiseAfter : After → After → Type 0
LikewiseAfter (goes e) (goes f) = Likewise e f
LikewiseAfter (goes e) (ends_at_place f h) = ⊥
LikewiseAfter (goes e) (ends_at_facet f h) = ⊥
LikewiseAfter (ends_at_place e h) (goes f) = ⊥
LikewiseAfter (ends_at_place e h) (ends_at_place f k) = h ≡ k
LikewiseAfter (ends_at_place e h) (ends_at_facet f k) = ⊥
LikewiseAfter (ends_at_facet e h) (goes f) = ⊥
LikewiseAfter (ends_at_facet e h) (ends_at_place f k) = ⊥
LikewiseAfter (ends_at_facet e h) (ends_at_facet f k) = h ≡ k

-- edits of lists, and a function on each element
module _ (f : ℕ → ℕ) where
  map-append : (a b : List ℕ) → map f (a ++ b) ≡ map f a ++ map f b
  map-append [] b = refl
  map-append (x ∷ a) b = ap (λ (l : List ℕ). f x ∷ l) (map-append a b)

  map-left : (l : List ℕ) → rotate_left (map f l) ≡ map f (rotate_left l)
  map-left [] = refl
  map-left (x ∷ l) = sym (map-append l (x ∷ []))

  map_last : (d : ℕ) (l : List ℕ) → last_or (f d) (map f l) ≡ f (last_or d l)
  map_last d [] = refl
  map_last d (x ∷ l) = map_last x l

  map_but : (l : List ℕ) → but_last (map f l) ≡ map f (but_last l)
  map_but [] = refl
  map_but (x ∷ []) = refl
  map_but (x ∷ y ∷ l) = ap (λ (r : List ℕ). f x ∷ r) (map_but (y ∷ l))

  map-right : (l : List ℕ) → rotate_right (map f l) ≡ map f (rotate_right l)
  map-right [] = refl
  map-right (x ∷ l) = rw (map_last x l, map_but (x ∷ l))

  map_remove : (i : ℕ) (l : List ℕ) → remove_at i (map f l) ≡ map f (remove_at i l)
  map_remove i [] = refl
  map_remove zero (x ∷ l) = refl
  map_remove (suc i) (x ∷ l) = ap (λ (r : List ℕ). f x ∷ r) (map_remove i l)

  map-insert : (i y : ℕ) (l : List ℕ) → insert_at i (f y) (map f l) ≡ map f (insert_at i y l)
  map-insert zero y l = refl
  map-insert (suc i) y [] = refl
  map-insert (suc i) y (x ∷ l) = ap (λ (r : List ℕ). f x ∷ r) (map-insert i y l)

module _ (s : State) where
  shrink_like : (i e : ℕ) (into_u : Bool) → Likewise (shrink s i e into_u) (shrink (stripped s) i e into_u)
  unfolding shrink
  shrink_like i e into_u = record { rest = rw (map_remove strip i s.marks); active = λ r. absurd (large into_u r) }
    where
      large : (b : Bool) → cond b 6 7 < 6 → ⊥
      large true r = omega arith
      large false r = omega arith

  first_like : LikewiseAfter (leave_first s) (leave_first (stripped s))
  unfolding leave_first
  first_like =
      let b = source_in s (at s.order 0) in
      ⊎_elim (λ e. rw e refl) (λ e. rw e (record { rest = rw (map-left strip s.marks); active = λ r. refl }))
      (true_or_false ((eqb (at s.first b) 1 && not (bit s.T b)) && is_filled s.round s.T s.U b))

  middle_like : (i : ℕ) → Likewise (leave_middle s i) (leave_middle (stripped s) i)
  unfolding leave_middle
  middle_like i =
      let b = source_in s (at s.order i) in
      ⊎_elim (λ e. rw e (shrink_like i (i - 1) true)) (λ e. rw e (record { rest = refl; active = λ r. refl }))
      (true_or_false (eqb (at s.order (i - 1)) b && eqb (at s.first b) 0))

  last_like : Likewise (leave_last s) (leave_last (stripped s))
  unfolding leave_last
  last_like =
      let t = length s.order in
      let h = at s.order (t - 1) in
      ⊎_elim
      (λ e. rw e (shrink_like t (t - 1) true))
      (λ e. rw e (⊎_elim
      (λ f. rw f (shrink_like t (t - 1) false))
      (λ f. rw f (record { rest = rw (map-right strip s.marks); active = λ r. refl }))
      (true_or_false (eqb (at s.coefficients h) 0))))
      (true_or_false (eqb (at s.first h) 0))

  pub leave_like : (i : ℕ) → LikewiseAfter (leave s i) (leave (stripped s) i)
  unfolding leave
  leave_like i =
      ⊎_elim (λ (z : i ≡ 0). rw (eq-eqb i 0 z) first_like)
      (λ z. rw (ne_eqb i 0 z)
      (⊎_elim (λ (l : i < length s.order). rw (lt-ltb i (length s.order) l) (middle_like i))
      (λ (l : length s.order ≤ i). rw (le-ltb i (length s.order) l) last_like) (before_or_not i (length s.order))))
      (same_or i 0)

  pub grow_like : (h : ℕ) → LikewiseAfter (grow s h) (grow (stripped s) h)
  unfolding grow
  grow_like h =
      let ahead = first_outside s.round.next s.round.sizes s.U h in
      let i = cond (bit s.U h) (found ahead 16 s.order) (length s.order) in
      ⊎_elim
      (λ e. rw e refl)
      (λ e. rw e (record { rest = rw (map-insert strip (suc i) 0 s.marks); active = λ r. refl }))
      (true_or_false (not (bit s.U h) && is_filled s.round s.T s.U h))
