-- The way that the labels tell: it is a point that leaves or a label that joins T, the move that it names is the step,
-- and it can be made where the step can. Assumes nothing.
use mathlib.Core.Bool.{false}
use mathlib.Core.List.{map}
use mathlib.Core.Logic.{◌⊎◌, inl, inr, ⊎_elim}
use mathlib.Core.Path.{◌≡◌, refl, sym, ap, ◌∙◌, subst}
use Prim.Native.Nat.{ℕ, ◌-◌, ◌≤◌, ◌<◌}
use borrow.Author.Tests.{lt-ltb, le-ltb}
use lib.ListN.{length, take}
use native.Mathlib.Omega.{arith}
use Rattle.combinatorics.proofs.Basics.{before_or_not, true_or_false}
use Rattle.combinatorics.proofs.EditsOfArrays.{counted}
use Rattle.combinatorics.specs.Edits.{found}
use Rattle.moves.proofs.Cases.{Leaving, label-joins, leaving-leaves, leaving-ready}
use Rattle.moves.specs.Held.{state_of}
use Rattle.arrays.specs.declared.holding.Held.{Held}
use Rattle.moves.specs.declared.Status.{Status}
use Rattle.rules.specs.Mask.{bit}
use Rattle.rules.specs.Read.{position_at}
use Rattle.rules.specs.Ready.{Ready, label_in}
use Rattle.rules.specs.Moves.{State, mark_label, make_move}
use Rattle.rules.specs.declared.Round.{Round}
use Rattle.ways.specs.Ways.{CanMove, CanTell, gone_by, held_marks, way_after, way_here}
use Rattle.ways.specs.declared.Way.{Way}
use Rattle.ways.specs.declared.Way.TheVariants.{Joins, Leaves, Nothing}

module _ (a : State) where
  -- the label that came in joins T
  abbrev pub Joining : ℕ → Type 0
  Joining h = (a.rule < 6) × (bit a.T (label_in a - 1) ≡ false) × (h ≡ label_in a - 1)

  pub here-leaves : (i : ℕ) → Leaving a i → Leaves i ≡ way_here a
  unfolding way_here
  here-leaves i l =
      ⊎_elim (λ w. rw (le-ltb a.rule 6 w.0, w.1)) (λ w. rw (lt-ltb a.rule 6 w.0, w.1, w.2)) l

  pub here-joins : (h : ℕ) → Joining h → Joins h ≡ way_here a
  unfolding way_here
  here-joins h j = rw (lt-ltb a.rule 6 j.0, j.1, j.2)

  -- one of the two
  pub leaves_or_joins : ((i : ℕ) × Leaving a i) ⊎ ((h : ℕ) × Joining h)
  leaves_or_joins = ⊎_elim
      (λ (l : a.rule < 6). ⊎_elim
      (λ e. inl (found (label_in a) a.active (map mark_label a.marks), inr (l, e, refl)))
      (λ e. inr (label_in a - 1, (l, e, refl)))
      (true_or_false (bit a.T (label_in a - 1))))
      (λ (l : 6 ≤ a.rule). inl (a.active, inl (l, refl)))
      (before_or_not a.rule 6)

  pub here-steps : way_after a (way_here a) ≡ make_move a
  here-steps = ⊎_elim
      (λ (w : (i : ℕ) × Leaving a i). ap (way_after a) (sym (here-leaves w.0 w.1)) ∙ leaving-leaves a w.0
      w.1)
      (λ (w : (h : ℕ) × Joining h). ap (way_after a) (sym (here-joins w.0 w.1))
      ∙ label-joins a (label_in a) w.0 refl w.1.2 w.1.0 (rw w.1.2 w.1.1))
      leaves_or_joins

  pub here-moves : Ready a → CanMove a (way_here a)
  here-moves r = ⊎_elim
      (λ (w : (i : ℕ) × Leaving a i). subst (CanMove a) (here-leaves w.0 w.1) (record {
        leaves = λ i e. let q : w.0 ≡ i = cc in rw (← q) (leaving-ready a w.0 r w.1);
        joins = λ h e. absurd (let z : ◌≡◌ {A = ℕ} 0 1 = cc in omega arith);
      }))
      (λ (w : (h : ℕ) × Joining h). subst (CanMove a) (here-joins w.0 w.1) (record {
        leaves = λ i e. absurd (let z : ◌≡◌ {A = ℕ} 0 1 = cc in omega arith);
        joins = λ h e. let q : label_in a - 1 ≡ h = cc in rw (← q) (r.grows w.1.0 w.1.1);
      }))
      leaves_or_joins

  -- the point that leaves is one of the place
  pub here-low : (s : Status) → CanTell a s → a.rule ≡ s.rule → a.active ≡ s.active → (i : ℕ)
      → way_here a ≡ Leaves i → i ≤ s.count
  here-low s C r e i q = ⊎_elim
      (λ (w : (i : ℕ) × Leaving a i). let z : w.0 ≡ i = let f = here-leaves w.0 w.1 in cc in rw (← z)
      (low w.0 w.1))
      (λ (w : (h : ℕ) × Joining h). absurd
      (let f = here-joins w.0 w.1 in let z : ◌≡◌ {A = ℕ} 0 1 = cc in omega arith))
      leaves_or_joins
    where
      low : (i : ℕ) → Leaving a i → i ≤ s.count
      low i l =
          ⊎_elim (λ w. omega (arith, C.active, w.1)) (λ w. rw w.2 (C.other (omega (arith, w.0)) w.1)) l

  -- the position of the point that leaves, or none where the label joins T
  pub gone-leaving : (i : ℕ) → Leaving a i → position_at a i ≡ gone_by a (way_here a)
  gone-leaving i l = ap (gone_by a) (here-leaves i l)

  pub gone-joining : (h : ℕ) → Joining h → ◌≡◌ {A = ℕ} 0 (gone_by a (way_here a))
  gone-joining h j = ap (gone_by a) (here-joins h j)

-- the ways round the blocks, the first point and the order have no part in it
module _ (round : Round) (held : Held) (s : Status) where
  pub same_way : way_here (held_marks held.marks s) ≡ way_here (state_of round held s)
  unfolding way_here
  same_way = refl

  pub same-gone : (way : Way) → gone_by (held_marks held.marks s) way ≡ gone_by (state_of round held s) way
  same-gone (Leaves i) = refl
  same-gone (Joins h) = refl
  same-gone Nothing = refl

-- a state that is ready for its move has few points, and tells the way on
module _ (round : Round) (held : Held) (s : Status) (r : Ready (state_of round held s)) where
  few-steps : length (take s.count held.order) ≤ 15
  few-steps =
      ⊎_elim
      (λ (l : s.rule < 6). ⊎_elim (λ e. (r.leaves l e).few) (λ e. (r.grows l e).few)
      (true_or_false (bit s.t (label_in (state_of round held s) - 1))))
      (λ (l : 6 ≤ s.rule). (r.goes_on l).few) (before_or_not s.rule 6)

  steps-counted : length (take s.count held.order) ≡ s.count
  steps-counted = counted held.order s.count held.order_long few-steps

  pub can_tell : CanTell (held_marks held.marks s) s
  can_tell = record {
    active = omega (arith, r.active, steps-counted);
    few = omega (arith, steps-counted, few-steps);
    label = r.label;
    other = λ l e. omega (arith, (r.leaves l e).low, steps-counted);
  }
