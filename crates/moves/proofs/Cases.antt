-- The cases of a move: what it gives where its tests come out one way. Assumes nothing.
use mathlib.Core.Bool.{Bool, true, false, not, ◌&&◌, cond}
use mathlib.Core.List.{List, map}
use mathlib.Core.Logic.{◌⊎◌, inr, ⊎_elim}
use mathlib.Core.Path.{◌≡◌, refl}
use Prim.Native.Nat.{ℕ, suc, pred, ◌+◌, ◌-◌, ◌≤◌, ◌<◌}
use native.Mathlib.Numerals.{add-one}
use native.Mathlib.Omega.{arith}
use borrow.Author.Tests.{eqb-true, eq-eqb, ne_eqb, lt-ltb, le-ltb}
use lib.Dec.{eqb}
use lib.ListN.{length, take}
use Rattle.combinatorics.proofs.Basics.{false_of, and_left, and_right}
use Rattle.combinatorics.specs.Edits.{remove_at, swap_at, rotate_left, rotate_right, found}
use Rattle.grid_points.specs.Grid.{at}
use Rattle.rules.specs.Mask.{bit, with_index, without_index}
use Rattle.moves.specs.Held.{state_of, state_with}
use Rattle.rules.specs.Ready.{ReadyLeave, label_in, Ready}
use Rattle.rules.specs.Moves.{State, goes, ends_at_place, ends_at_facet, mark_label, first_outside, source_in}
use Rattle.rules.specs.declared.Round.{Round}
use Rattle.rules.specs.Moves.{first_outside_or_zero, is_filled, shifted, changed_before, shrink, joined, grow, leave_first}
use Rattle.rules.specs.Moves.{leave_middle, leave_last, leave, make_move}
use Rattle.arrays.specs.declared.holding.Held.{Held}
use Rattle.moves.specs.declared.Status.{Status}

-- states that agree in what a move changes
pub same-state : {first coefficients order marks first' coefficients' order' marks' : List ℕ}
    {T U active T' U' active' : ℕ} (round : Round) (rule : ℕ)
    → first ≡ first' → coefficients ≡ coefficients' → order ≡ order' → marks ≡ marks' → T ≡ T' → U ≡ U'
    → active ≡ active'
    → ◌≡◌ {A = State}
    (record {
      round = round;
      first = first;
      coefficients = coefficients;
      order = order;
      marks = marks;
      T = T;
      U = U;
      active = active;
      rule = rule;
    })
    (record {
      round = round;
      first = first';
      coefficients = coefficients';
      order = order';
      marks = marks';
      T = T';
      U = U';
      active = active';
      rule = rule;
    })
same-state round rule f c o l t u e = cc

-- what is held once point i and entry e are taken out
pub shrinks : (round : Round) (held : Held) (order' marks' : List ℕ) (s : Status) (i e : ℕ)
    → e < s.count → {T U active rule : ℕ} (h : ℕ) (into_u : Bool) → h ≡ at (take s.count held.order) e
    → take (s.count - 1) order' ≡ remove_at e (take s.count held.order)
    → take (s.count + 1 - 1) marks' ≡ remove_at i (take (s.count + 1) held.marks)
    → active ≡ found (h + 1) 16 (map mark_label (take s.count marks')) → T ≡ without_index s.t h
    → U ≡ cond into_u (with_index s.u h) s.u → rule ≡ cond into_u 6 7
    → state_with round held.first held.coefficients order' marks'
    (record { rule = rule; count = s.count - 1; t = T; u = U; active = active })
    ≡ shrink (state_of round held s) i e into_u
unfolding shrink
shrinks round held order' marks' s i e low h into_u x o l f t u r =
    let n = s.count in
    let rest : take n marks' ≡ remove_at i (take (suc n) held.marks) = rw (all n, add-one n) at l in
    let z : suc (n - 1) ≡ n = omega arith in
    rw r (same-state round (cond into_u 6 7) refl refl o (rw z rest) (rw (← x) t) (rw (← x) u)
    (rw (← x, ← rest, ← add-one) f))
  where
    all : (n : ℕ) → n + 1 - 1 ≡ n
    all n = omega arith

module _ (s : State) (h : ℕ) where
  pub joins-from-U : (i : ℕ) → bit s.U h ≡ true
      → i ≡ found (first_outside s.round.next s.round.sizes s.U h) 16 s.order
      → goes (joined s i h 5) ≡ grow s h
  unfolding grow
  joins-from-U i e f = rw (e, f)

  pub place_end : bit s.U h ≡ false → is_filled s.round s.T s.U h ≡ true → ends_at_place s h ≡ grow s h
  unfolding grow
  place_end e f = rw (e, f)

  pub joins-from-outside : (i : ℕ) → bit s.U h ≡ false → is_filled s.round s.T s.U h ≡ false
      → i ≡ length s.order
      → goes (joined s i h 4) ≡ grow s h
  unfolding grow
  joins-from-outside i e f g = rw (e, f, g)

module _ (s : State) {h b : ℕ} (at_h : h ≡ at s.order 0) (at_b : b ≡ source_in s h) where
  -- the second point is the new first
  abbrev pub forward : ℕ → ℕ → State
  forward U rule = record {
    round = s.round;
    first = shifted s.first h b;
    coefficients = changed_before suc s.round.previous b 16 h s.coefficients;
    order = rotate_left s.order;
    marks = rotate_left s.marks;
    T = s.T;
    U = U;
    active = length s.order;
    rule = rule;
  }

  pub facet-end : (eqb (at s.first b) 1 && not (bit s.T b)) ≡ true → is_filled s.round s.T s.U b ≡ true
      → ends_at_facet s b ≡ leave_first s
  unfolding leave_first
  facet-end e f = rw (← at_h, ← at_b, e, f)

  pub U-gains : (eqb (at s.first b) 1 && not (bit s.T b)) ≡ true → is_filled s.round s.T s.U b ≡ false
      → goes (forward (with_index s.U b) 2) ≡ leave_first s
  unfolding leave_first
  U-gains e f = rw (← at_h, ← at_b, e, f)

  pub first-leaves : (eqb (at s.first b) 1 && not (bit s.T b)) ≡ false → goes (forward s.U 1) ≡ leave_first s
  unfolding leave_first
  first-leaves e = rw (← at_h, ← at_b, e)

module _ (s : State) (i h w b : ℕ) (at_h : h ≡ at s.order i) (at_w : w ≡ at s.order (i - 1))
    (at_b : b ≡ source_in s h) where
  pub middle_to_U : w ≡ b → at s.first b ≡ 0 → shrink s i (i - 1) true ≡ leave_middle s i
  unfolding leave_middle
  middle_to_U e f = rw (← at_h, ← at_b, ← at_w, eq-eqb w b e, f)

  pub steps-exchanged : (w ≡ b → at s.first b ≡ 0 → ⊥)
      → ◌≡◌ {A = State}
      (record {
        round = s.round;
        first = s.first;
        coefficients = s.coefficients;
        order = swap_at (i - 1) s.order;
        marks = s.marks;
        T = s.T;
        U = s.U;
        active = i;
        rule = 1;
      })
      (leave_middle s i)
  unfolding leave_middle
  steps-exchanged e =
      let stays : (eqb w b && eqb (at s.first b) 0) ≡ false = false_of _
      (λ t. e (eqb-true w b (and_left (eqb w b) _ t)) (eqb-true (at s.first b) 0 (and_right (eqb w b) _ t))) in
      rw (← at_h, ← at_b, ← at_w, stays)

module _ (s : State) {n h : ℕ} (at_n : n ≡ length s.order) (at_h : h ≡ at s.order (n - 1)) where
  pub last-to-U : at s.first h ≡ 0 → shrink s n (n - 1) true ≡ leave_last s
  unfolding leave_last
  last-to-U e = rw (← at_n, ← at_h, e)

  pub T-loses : (at s.first h ≡ 0 → ⊥) → at s.coefficients h ≡ 0 → shrink s n (n - 1) false ≡ leave_last s
  unfolding leave_last
  T-loses e f = rw (← at_n, ← at_h, ne_eqb (at s.first h) 0 e, f)

  module _ {b : ℕ} (at_b : b ≡ first_outside_or_zero s.round s.U s.coefficients h) where
    -- a new first point comes in
    abbrev pub backward : ℕ → State
    backward rule = record {
      round = s.round;
      first = shifted s.first b h;
      coefficients = changed_before pred s.round.previous b 16 h s.coefficients;
      order = rotate_right s.order;
      marks = rotate_right s.marks;
      T = s.T;
      U = without_index s.U b;
      active = 0;
      rule = rule;
    }

    pub last-leaves : (at s.first h ≡ 0 → ⊥) → (at s.coefficients h ≡ 0 → ⊥) → (rule : ℕ)
        → cond (bit s.U b) 3 1 ≡ rule → backward rule ≡ leave_last s
    unfolding leave_last
    last-leaves e f rule g =
        rw (← at_n, ← at_h, ne_eqb (at s.first h) 0 e, ne_eqb (at s.coefficients h) 0 f, ← at_b, g)

module _ (s : State) (i : ℕ) where
  pub is-first : i ≡ 0 → leave_first s ≡ leave s i
  unfolding leave
  is-first e = rw e

  pub is_middle : (i ≡ 0 → ⊥) → i < length s.order → goes (leave_middle s i) ≡ leave s i
  unfolding leave
  is_middle e f = rw (ne_eqb i 0 e, lt-ltb i (length s.order) f)

  pub is_last : (i ≡ 0 → ⊥) → length s.order ≤ i → goes (leave_last s) ≡ leave s i
  unfolding leave
  is_last e f = rw (ne_eqb i 0 e, le-ltb i (length s.order) f)

-- i is the point that leaves: after rules 6 and 7 the one named, otherwise the other one with the label that came in
abbrev pub Leaving : State → ℕ → Type 0
Leaving s i = ((6 ≤ s.rule) × (i ≡ s.active))
    ⊎ ((s.rule < 6) × (bit s.T (label_in s - 1) ≡ true)
    × (i ≡ found (label_in s) s.active (map mark_label s.marks)))

module _ (s : State) where
  pub leaving-ready : (i : ℕ) → Ready s → Leaving s i → ReadyLeave s i
  leaving-ready i r l = ⊎_elim (λ w. rw w.1 (r.goes_on w.0)) (λ w. rw w.2 (r.leaves w.0 w.1)) l

  pub leaving-leaves : (i : ℕ) → Leaving s i → leave s i ≡ make_move s
  unfolding make_move
  leaving-leaves i l =
      ⊎_elim (λ w. rw (w.1, le-ltb s.rule 6 w.0)) (λ w. rw (w.2, lt-ltb s.rule 6 w.0, w.1)) l

  module _ (label h : ℕ) (at_label : label ≡ label_in s) (at_h : h ≡ label - 1) (read : s.rule < 6) where
    pub other-leaving : (i : ℕ) → bit s.T h ≡ true → i ≡ found label s.active (map mark_label s.marks)
        → Leaving s i
    other-leaving i e f = inr (read, rw (← at_label, ← at_h) e, rw (← at_label) f)

    pub label-joins : bit s.T h ≡ false → grow s h ≡ make_move s
    unfolding make_move
    label-joins e = rw (lt-ltb s.rule 6 read, ← at_label, ← at_h, e)
