-- Laws of a buffer that is filled from the front. Assumes nothing.
use mathlib.Core.Path.{◌≡◌, refl, sym, ap, ◌∙◌}
use mathlib.Core.List.{List, [], ◌∷◌, ◌++◌, append-nil}
use Prim.Native.Nat.{ℕ, ◌+◌, ◌≤◌, ◌<◌, ◌-◌}
use native.Mathlib.Omega.{arith}
use native.Mathlib.Numerals.{add-one}
use lib.ListN.{length, take, drop, set, get_or, length-append, length-drop, get_or-append}
use lib.Seq.{paste, take-append_seam, drop-append-add, drop-drop, drop-length, take-suc, take-length, length-take-le}
use lib.Seq.{get_or-append-add, get_or-drop}
use Rattle.combinatorics.specs.Front.{front}

pub front-none : (old : List ℕ) → front [] old ≡ old
unfolding front
front-none old = refl

pub front_length : (new old : List ℕ) → length new ≤ length old → length (front new old) ≡ length old
unfolding front
front_length new old h = simp (length-append, length-drop) (omega arith)

front_store : (new old : List ℕ) (x : ℕ) → length new < length old
    → set (front new old) (length new) x ≡ front (new ++ (x ∷ [])) old
unfolding front
front_store [] [] x h = absurd (omega arith)
front_store [] (y ∷ old) x h = refl
front_store (z ∷ new) [] x h = absurd (omega arith)
front_store (z ∷ new) (y ∷ old) x h = ap (λ (l : List ℕ). z ∷ l) (front_store new old x (omega arith))

-- a store at a place that is known to be the length
pub front_put : (new old : List ℕ) (i x : ℕ) → i ≡ length new → i < length old
    → set (front new old) i x ≡ front (new ++ (x ∷ [])) old
front_put new old i x e h = rw e (front_store new old x (omega arith))

-- a copy, one element a turn
pub front-copy : (s old : List ℕ) (i : ℕ) → i < length s → i < length old
    → set (front (take i s) old) i (get_or s i 0) ≡ front (take (i + 1) s) old
front-copy s old i h l =
    rw (add-one, take-suc s i 0) (front_put (take i s) old i (get_or s i 0) (sym (length-take-le i s (omega arith))) l)

pub front-whole : (s old : List ℕ) (i : ℕ) → i ≡ length s → front (take i s) old ≡ front s old
front-whole s old i e = rw (e, take-length)

-- a front as long as its buffer
pub front_full : (new old : List ℕ) → length new ≡ length old → front new old ≡ new
unfolding front
front_full new old e = rw (e, drop-length old, append-nil new)

-- a list pasted at the place where the front ends
pub front_paste : (new old row : List ℕ) (i : ℕ) → i ≡ length new → i + length row ≤ length old
    → paste (front new old) i row (length row) ≡ front (new ++ row) old
unfolding front
front_paste new old row i e h =
    rw (e, take-append_seam, take-length, drop-append-add, drop-drop, length-append)

-- what was written is read there
pub front_at : (new old : List ℕ) (i : ℕ) → i < length new → get_or (front new old) i 0 ≡ get_or new i 0
unfolding front
front_at new old i h = get_or-append new (drop (length new) old) 0 i h

pub front_taken : (new old : List ℕ) → take (length new) (front new old) ≡ new
unfolding front
front_taken new old = take-append_seam new (drop (length new) old)

pub front-behind : (new old : List ℕ) (i : ℕ) → length new ≤ i → get_or (front new old) i 0 ≡ get_or old i 0
unfolding front
front-behind new old i h =
    let e : i ≡ length new + (i - length new) = omega arith in
    rw e
    (get_or-append-add new (drop (length new) old) (i - length new) 0 ∙ get_or-drop (length new) old (i - length new) 0)
