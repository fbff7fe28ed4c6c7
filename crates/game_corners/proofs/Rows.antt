-- Rows of 16 integers: what is added to totals, and what is written into a table of rows. Assumes nothing.
use mathlib.Core.List.{List, ◌++◌}
use mathlib.Core.Logic.{⊎_elim}
use mathlib.Core.Path.{◌≡◌, sym, ◌∙◌, subst}
use Prim.Native.Nat.{ℕ, ◌+◌, ◌*◌, ◌≤◌, ◌<◌}
use lib.IntN.{ℤ, pos, ◌+ℤ◌, ◌*ℤ◌}
use lib.ListN.{length, get_or, take, drop, set, get_or-append}
use lib.Seq.{length-take-le, get_or-take, get_or-append-add, get_or-set_same, get_or-set_other}
use native.Mathlib.Nat.{mul-le-mul}
use native.Mathlib.Omega.{arith}
use Rattle.combinatorics.proofs.Basics.{same_or}
use Rattle.game_corners.proofs.Blends.{blend_ℤ-next}
use Rattle.game_corners.specs.Corners.{signed_at, column}

-- what holds of each entry before h and of v at h, once v stands there
pub entry_next : (P : ℕ → ℤ → Type 0) (l : List ℤ) (h : ℕ) (v : ℤ) → h < length l
    → ((i : ℕ) → i < h → P i (signed_at l i))
    → P h v → (i : ℕ) → i < h + 1
    → P i (signed_at (set l h v) i)
entry_next P l h v inside before new i b = ⊎_elim
    (λ s. rw s (subst (P h) (sym (get_or-set_same l h v (pos 0) inside)) new))
    (λ n. rw (get_or-set_other l h i v (pos 0) n) (before i (omega arith)))
    (same_or i h)

-- x times the row is added to the totals before place h
pub record Added (old row : List ℤ) (x : ℤ) (h : ℕ) (totals : List ℤ) : Type 0 where
  pub done : (i : ℕ) → i < h → signed_at totals i ≡ signed_at old i +ℤ x *ℤ signed_at row i
  pub left : (i : ℕ) → h ≤ i → signed_at totals i ≡ signed_at old i

module _ (old row : List ℤ) (x : ℤ) where
  pub added_turn : (h : ℕ) (totals : List ℤ) (v : ℤ) → h < length totals → v ≡ signed_at old h +ℤ x *ℤ signed_at row h
      → Added old row x h totals
      → Added old row x (h + 1) (set totals h v)
  added_turn h totals v l e a = record {
    done = entry_next (λ i z. z ≡ signed_at old i +ℤ x *ℤ signed_at row i) totals h v l a.done e;
    left = λ i b. get_or-set_other totals h i v (pos 0) (λ s. omega arith) ∙ a.left i (omega arith);
  }

-- one row more
pub column-next : (mix : List ℕ) (rows : List ℤ) (k h : ℕ) → k < length mix
    → column (take (k + 1) mix) rows h ≡ column (take k mix) rows h +ℤ pos (get_or mix k 0) *ℤ signed_at rows (k * 16 + h)
column-next mix rows k h inside = blend_ℤ-next mix k (λ i. signed_at rows (i * 16 + h)) inside

-- a row's number is below 2^16 * 2^32, so that k rows come to at most k * 2^48
pub total-low : (total x row k : ℕ) → total ≤ k * 281474976710656 → x < 65536 → row < 4294967296
    → total + x * row ≤ (k + 1) * 281474976710656
total-low total x row k t a b =
    omega (arith, mul-le-mul {n₁ = x} {m₁ = row} {n₂ = 65536} {m₂ = 4294967296} (omega arith) (omega arith))

-- what stands where a part of a list is replaced
module _ (old new : List ℤ) (from n : ℕ) (inside : from ≤ length old) where
  pub part_before : (i : ℕ) → i < from → signed_at (take from old ++ (new ++ drop n (drop from old))) i ≡ signed_at old i
  part_before i h = get_or-append (take from old) _ (pos 0) i (rw (length-take-le from old inside) h)
      ∙ get_or-take from old i (pos 0) h

  pub part_within : (i : ℕ) → i < length new
      → signed_at (take from old ++ (new ++ drop n (drop from old))) (from + i) ≡ signed_at new i
  part_within i h =
      let e : from + i ≡ length (take from old) + i = rw (length-take-le from old inside) in
      rw e
      (get_or-append-add (take from old) (new ++ drop n (drop from old)) i (pos 0)
      ∙ get_or-append new (drop n (drop from old)) (pos 0) i h)
