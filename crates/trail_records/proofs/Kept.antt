-- The marks that a move keeps: where a point leaves, those of the others; where a label joins T, all. Assumes nothing.
use mathlib.Core.Bool.{Bool, true, false, not, ◌&&◌, cond}
use mathlib.Core.Logic.{⊎_elim}
use mathlib.Core.Path.{◌≡◌, refl, sym, ◌∙◌, subst}
use Prim.Native.Nat.{ℕ, suc, ◌-◌, ◌≤◌, ◌<◌}
use borrow.Author.Tests.{eq-eqb, ne_eqb, lt-ltb, le-ltb}
use lib.Dec.{eqb}
use lib.ListN.{length}
use native.Mathlib.Omega.{arith}
use Rattle.combinatorics.proofs.Basics.{before_or_not, same_or, true_or_false}
use Rattle.combinatorics.proofs.EditsInsert.{insert_at-before, insert_at-behind, length-insert_at}
use Rattle.combinatorics.proofs.EditsOfArrays.{found-low}
use Rattle.combinatorics.proofs.EditsRemove.{length-remove_at, length-rotate_right, length-swap_at, remove_at-before}
use Rattle.combinatorics.proofs.EditsRemove.{remove_at-behind, rotate_right-later}
use Rattle.combinatorics.proofs.EditsRotate.{length-rotate_left, rotate_left-before}
use Rattle.combinatorics.specs.Edits.{found}
use Rattle.grid_points.specs.Grid.{at}
use Rattle.rules.specs.Mask.{bit}
use Rattle.rules.specs.Moves.{State, After, goes, ends_at_place, ends_at_facet, first_outside, grow}
use Rattle.rules.specs.Moves.{is_filled, joined, leave, leave_first, leave_last, leave_middle, shrink, source_in}

-- mark j of s is a mark of e, and not that of a point which has come in
pub record Kept (s e : State) (j : ℕ) : Type 0 where
  pub to : ℕ
  pub low : to ≤ length e.order
  pub other : e.rule < 6 → to ≡ e.active → ⊥
  pub same : at e.marks to ≡ at s.marks j

abbrev KeptAfter : State → ℕ → After → Type 0
KeptAfter s j (goes e) = Kept s e j
KeptAfter s j (ends_at_place e h) = ◌≡◌ {A = ℕ} 0 0
KeptAfter s j (ends_at_facet e h) = ◌≡◌ {A = ℕ} 0 0

pub kept_of : {s e : State} {j : ℕ} {after : After} → KeptAfter s j after → after ≡ goes e → Kept s e j
kept_of {s} {e} {j} {after} K q = subst (KeptAfter s j) q K

module _ (s : State) (j : ℕ) (marked : length s.marks ≡ suc (length s.order)) (low : j ≤ length s.order) where
  -- point i and entry e go
  shrink-kept : (i e : ℕ) (into_u : Bool) → i ≤ length s.order → e < length s.order → (j ≡ i → ⊥)
      → Kept s (shrink s i e into_u) j
  unfolding shrink
  shrink-kept i e into_u il el n =
      ⊎_elim
      (λ (b : j < i). record {
        to = j;
        low = omega (arith, length-remove_at e s.order el);
        other = λ r. absurd (large into_u r);
        same = remove_at-before 0 i s.marks j b;
      })
      (λ (b : i ≤ j). let z : suc (j - 1) ≡ j = omega (arith, n) in record {
        to = j - 1;
        low = omega (arith, n, length-remove_at e s.order el);
        other = λ r. absurd (large into_u r);
        same = remove_at-behind 0 i s.marks (j - 1) (omega (arith, n)) ∙ (rw z);
      })
      (before_or_not j i)
    where
      large : (b : Bool) → cond b 6 7 < 6 → ⊥
      large true r = omega arith
      large false r = omega arith

  first-kept : 1 ≤ length s.order → (j ≡ 0 → ⊥) → KeptAfter s j (leave_first s)
  unfolding leave_first
  first-kept some n =
      let h = at s.order 0 in
      let b = source_in s h in
      let z : suc (j - 1) ≡ j = omega (arith, n) in
      ⊎_elim
      (λ e. rw e refl)
      (λ e. rw e (record {
        to = j - 1;
        low = omega (arith, n, length-rotate_left s.order);
        other = λ r q. omega (arith, n);
        same = rotate_left-before 0 s.marks (j - 1) (omega (arith, n)) ∙ (rw z);
      }))
      (true_or_false ((eqb (at s.first b) 1 && not (bit s.T b)) && is_filled s.round s.T s.U b))

  middle_kept : (i : ℕ) → 0 < i → i < length s.order → (j ≡ i → ⊥) → Kept s (leave_middle s i) j
  unfolding leave_middle
  middle_kept i more less n =
      let b = source_in s (at s.order i) in
      ⊎_elim
      (λ e. rw e (shrink-kept i (i - 1) true (omega arith) (omega arith) n))
      (λ e.
      rw e (record { to = j; low = omega (arith, length-swap_at (i - 1) s.order); other = λ r. n; same = refl }))
      (true_or_false (eqb (at s.order (i - 1)) b && eqb (at s.first b) 0))

  last-kept : 1 ≤ length s.order → (j ≡ length s.order → ⊥) → Kept s (leave_last s) j
  unfolding leave_last
  last-kept some n =
      let t = length s.order in
      let h = at s.order (t - 1) in
      ⊎_elim
      (λ e. rw e (shrink-kept t (t - 1) true (omega arith) (omega arith) n))
      (λ e. rw e (⊎_elim
      (λ f. rw f (shrink-kept t (t - 1) false (omega arith) (omega arith) n))
      (λ f. rw f (record {
        to = suc j;
        low = omega (arith, n, length-rotate_right s.order);
        other = λ r q. omega arith;
        same = rotate_right-later 0 s.marks j (omega (arith, n));
      }))
      (true_or_false (eqb (at s.coefficients h) 0))))
      (true_or_false (eqb (at s.first h) 0))

  pub leave-kept : (i : ℕ) → 1 ≤ length s.order → i ≤ length s.order → (j ≡ i → ⊥) → KeptAfter s j (leave s i)
  unfolding leave
  leave-kept i some il n =
      ⊎_elim
      (λ (z : i ≡ 0). rw (eq-eqb i 0 z) (first-kept some (λ e. n (e ∙ sym z))))
      (λ z. rw (ne_eqb i 0 z)
      (⊎_elim
      (λ (l : i < length s.order). rw (lt-ltb i (length s.order) l) (middle_kept i (omega (arith, z)) l n))
      (λ (l : length s.order ≤ i). rw (le-ltb i (length s.order) l) (last-kept some (λ e. n (omega arith))))
      (before_or_not i (length s.order))))
      (same_or i 0)

  joined-kept : (i h rule : ℕ) → i ≤ length s.order → Kept s (joined s i h rule) j
  joined-kept i h rule il =
      ⊎_elim
      (λ (b : j < suc i). record {
        to = j;
        low = omega (arith, length-insert_at i h s.order);
        other = λ r q. omega arith;
        same = insert_at-before 0 (suc i) 0 s.marks j (omega arith) b;
      })
      (λ (b : suc i ≤ j). record {
        to = suc j;
        low = omega (arith, length-insert_at i h s.order);
        other = λ r q. omega arith;
        same = insert_at-behind 0 (suc i) 0 s.marks j (omega arith) b;
      })
      (before_or_not j (suc i))

  pub grow-kept : (h : ℕ) → KeptAfter s j (grow s h)
  unfolding grow
  grow-kept h =
      let ahead = first_outside s.round.next s.round.sizes s.U h in
      let i = cond (bit s.U h) (found ahead 16 s.order) (length s.order) in
      let il : i ≤ length s.order = ⊎_elim
      (λ f. rw f (omega (arith, found-low 0 ahead 16 s.order)))
      (λ f. rw f (omega arith))
      (true_or_false (bit s.U h)) in
      ⊎_elim
      (λ e. rw e refl)
      (λ e. rw e (joined-kept i h (cond (bit s.U h) 5 4) il))
      (true_or_false (not (bit s.U h) && is_filled s.round s.T s.U h))
