-- Consecutive blocks of given sizes are blocks that go round: next and previous undo each other and keep the block, and
-- going back reaches every index of the block. Assumes nothing.
use mathlib.Core.Bool.{cond}
use mathlib.Core.List.{List, [], ◌∷◌}
use mathlib.Core.Logic.{⊎_elim}
use mathlib.Core.Path.{◌≡◌, refl, sym, ap, ◌∙◌, subst}
use Prim.Native.Nat.{ℕ, zero, suc, ◌+◌, ◌-◌, ◌≤◌, ◌<◌}
use borrow.Author.Tests.{eq-eqb, ne_eqb, lt-ltb, le-ltb, le-leb, lt-leb}
use lib.Dec.{leb}
use native.Mathlib.Omega.{arith}
use Rattle.combinatorics.specs.Lists.{sum}
use Rattle.combinatorics.proofs.Basics.{same_or, before_or_not}
use Rattle.geometry.proofs.Definitions.{back, Blocks}
use Rattle.geometry.proofs.Orders.{zero_or}
use Rattle.geometry.proofs.Sizes.{next_of, previous_of, block_number, distance_of, start_of}

-- next and previous inside the first block, and beyond it
pub next_wrap : (s : ℕ) (ss : List ℕ) (k : ℕ) → suc k ≡ s → next_of (s ∷ ss) k ≡ 0
next_wrap s ss k e = rw (lt-ltb k s (omega arith), eq-eqb (suc k) s e)

pub next-inside : (s : ℕ) (ss : List ℕ) (k : ℕ) → suc k < s → next_of (s ∷ ss) k ≡ suc k
next-inside s ss k l = rw (lt-ltb k s (omega arith), ne_eqb (suc k) s (λ e. omega arith))

pub next-outside : (s : ℕ) (ss : List ℕ) (k : ℕ) → s ≤ k → next_of (s ∷ ss) k ≡ s + next_of ss (k - s)
next-outside s ss k l = rw (le-ltb k s l)

previous_wrap : (s : ℕ) (ss : List ℕ) → 0 < s → previous_of (s ∷ ss) 0 ≡ s - 1
previous_wrap s ss l = rw (lt-ltb 0 s l)

previous-inside : (s : ℕ) (ss : List ℕ) (k : ℕ) → suc k < s → previous_of (s ∷ ss) (suc k) ≡ k
previous-inside s ss k l =
    let e : suc k - 1 ≡ k = omega arith in
    rw (lt-ltb (suc k) s l, ne_eqb (suc k) 0 (λ e. omega arith), e)

pub previous-outside : (s : ℕ) (ss : List ℕ) (k : ℕ) → s ≤ k → previous_of (s ∷ ss) k ≡ s + previous_of ss (k - s)
previous-outside s ss k l = rw (le-ltb k s l)

pub next-previous_of : (ss : List ℕ) (k : ℕ) → next_of ss (previous_of ss k) ≡ k
next-previous_of [] k = refl
next-previous_of (s ∷ ss) k = ⊎_elim
    (λ (l : k < s). ⊎_elim
    (λ (e : k ≡ 0). rw (e, previous_wrap s ss (omega arith)) (next_wrap s ss (s - 1) (omega arith)))
    (λ w. let e : suc w.0 < s = omega (arith, w.1) in rw (w.1, previous-inside s ss w.0 e) (next-inside s ss w.0 e))
    (zero_or k))
    (λ (l : s ≤ k).
    let e : s + previous_of ss (k - s) - s ≡ previous_of ss (k - s) = omega arith in
    rw (
      previous-outside s ss k l,
      next-outside s ss (s + previous_of ss (k - s)) (omega arith),
      e,
      next-previous_of ss (k - s),
    ) (omega arith))
    (before_or_not k s)

pub previous-next_of : (ss : List ℕ) (k : ℕ) → previous_of ss (next_of ss k) ≡ k
previous-next_of [] k = refl
previous-next_of (s ∷ ss) k = ⊎_elim
    (λ (l : k < s). ⊎_elim
    (λ (e : suc k ≡ s). rw (next_wrap s ss k e, previous_wrap s ss (omega arith)) (omega arith))
    (λ (n : suc k ≡ s → ⊥).
    let m : suc k < s = omega (arith, n) in
    rw (next-inside s ss k m) (previous-inside s ss k m))
    (same_or (suc k) s))
    (λ (l : s ≤ k).
    let e : s + next_of ss (k - s) - s ≡ next_of ss (k - s) = omega arith in
    rw (
      next-outside s ss k l,
      previous-outside s ss (s + next_of ss (k - s)) (omega arith),
      e,
      previous-next_of ss (k - s),
    ) (omega arith))
    (before_or_not k s)

previous-below : (s : ℕ) (ss : List ℕ) (k : ℕ) → k < s → previous_of (s ∷ ss) k < s
previous-below s ss zero l = omega (arith, previous_wrap s ss l)
previous-below s ss (suc k) l = omega (arith, previous-inside s ss k l)

pub block-previous_of : (ss : List ℕ) (k : ℕ) → block_number ss (previous_of ss k) ≡ block_number ss k
block-previous_of [] k = refl
block-previous_of (s ∷ ss) k = ⊎_elim
    (λ (l : k < s). rw (lt-ltb _ s (previous-below s ss k l), lt-ltb k s l))
    (λ (l : s ≤ k).
    let e : s + previous_of ss (k - s) - s ≡ previous_of ss (k - s) = omega arith in
    rw (
      previous-outside s ss k l,
      le-ltb (s + previous_of ss (k - s)) s (omega arith),
      le-ltb k s l,
      e,
      block-previous_of ss (k - s),
    ))
    (before_or_not k s)

-- n steps back
pub back_add : (f : ℕ → ℕ) (a b h : ℕ) → back f (a + b) h ≡ back f a (back f b h)
back_add f zero b h = let e : 0 + b ≡ b = omega arith in rw e
back_add f (suc a) b h = let e : suc a + b ≡ suc (a + b) = omega arith in rw (e, back_add f a b h)

back_in : (s : ℕ) (ss : List ℕ) (n k : ℕ) → n + k < s → back (previous_of (s ∷ ss)) n (n + k) ≡ k
back_in s ss zero k l = omega arith
back_in s ss (suc n) k l =
    let e : suc n + k ≡ n + suc k = omega arith in
    rw e (rw (back_in s ss n (suc k) (omega arith)) (previous-inside s ss k (omega arith)))

back-out : (s : ℕ) (ss : List ℕ) (n h : ℕ) → back (previous_of (s ∷ ss)) n (s + h) ≡ s + back (previous_of ss) n h
back-out s ss zero h = refl
back-out s ss (suc n) h =
    let e : s + back (previous_of ss) n h - s ≡ back (previous_of ss) n h = omega arith in
    rw (back-out s ss n h) (rw (previous-outside s ss (s + back (previous_of ss) n h) (omega arith), e))

back-first : (s : ℕ) (ss : List ℕ) (h k : ℕ) → h < s → k < s
    → back (previous_of (s ∷ ss)) (cond (leb k h) (h - k) (h + s - k)) h ≡ k
back-first s ss h k a b = ⊎_elim
    (λ (l : h < k).
    let e : h + s - k ≡ (s - 1 - k) + (1 + h) = omega arith in
    let z : back (previous_of (s ∷ ss)) h h ≡ 0 =
    let w : h + 0 ≡ h = omega arith in
    rw w at (back_in s ss h 0 (omega arith)) in
    let y : back (previous_of (s ∷ ss)) (1 + h) h ≡ s - 1 =
    back_add (previous_of (s ∷ ss)) 1 h h ∙ ap (previous_of (s ∷ ss)) z ∙ previous_wrap s ss (omega arith) in
    let x : (s - 1 - k) + k ≡ s - 1 = omega arith in
    rw (lt-leb k h l, e)
    (back_add (previous_of (s ∷ ss)) (s - 1 - k) (1 + h) h
    ∙ ap (back (previous_of (s ∷ ss)) (s - 1 - k)) (y ∙ sym x)
    ∙ back_in s ss (s - 1 - k) k (omega arith)))
    (λ (l : k ≤ h).
    let w : (h - k) + k ≡ h = omega arith in
    rw (le-leb k h l) (rw w at (back_in s ss (h - k) k (omega arith))))
    (before_or_not h k)

pub reached_of : (ss : List ℕ) (h k : ℕ) → block_number ss h ≡ block_number ss k
    → back (previous_of ss) (distance_of ss h k) h ≡ k
reached_of [] h k e = e
reached_of (s ∷ ss) h k e = ⊎_elim
    (λ (a : h < s). ⊎_elim
    (λ (b : k < s). rw (lt-ltb h s a) (back-first s ss h k a b))
    (λ (b : s ≤ k). absurd (omega (arith, rw (lt-ltb h s a, le-ltb k s b) at e)))
    (before_or_not k s))
    (λ (a : s ≤ h). ⊎_elim
    (λ (b : k < s). absurd (omega (arith, rw (le-ltb h s a, lt-ltb k s b) at e)))
    (λ (b : s ≤ k).
    let x : s + (h - s) ≡ h = omega arith in
    let y : suc (block_number ss (h - s)) ≡ suc (block_number ss (k - s)) = rw (le-ltb h s a, le-ltb k s b) at e in
    let d : distance_of (s ∷ ss) h k ≡ distance_of ss (h - s) (k - s) = rw (le-ltb h s a) in
    rw d (subst
    (λ (i : ℕ). back (previous_of (s ∷ ss)) (distance_of ss (h - s) (k - s)) i ≡ k)
    x
    (back-out s ss (distance_of ss (h - s) (k - s)) (h - s)
    ∙ ap (λ (i : ℕ). s + i) (reached_of ss (h - s) (k - s) (omega arith))
    ∙ omega arith)))
    (before_or_not k s))
    (before_or_not h s)

pub distance-below_of : (ss : List ℕ) (h k : ℕ) → distance_of ss h k ≤ sum ss + sum ss
distance-below_of [] h k = omega arith
distance-below_of (s ∷ ss) h k = ⊎_elim
    (λ (a : h < s). rw (lt-ltb h s a) (⊎_elim
    (λ (b : h < k). rw (lt-leb k h b) (omega arith))
    (λ (b : k ≤ h). rw (le-leb k h b) (omega arith))
    (before_or_not h k)))
    (λ (a : s ≤ h). rw (le-ltb h s a) (omega (arith, distance-below_of ss (h - s) (k - s))))
    (before_or_not h s)

unfoldable pub blocks_of_sizes : List ℕ → (ℕ → ℕ) → Blocks
blocks_of_sizes ss v = record {
  next = next_of ss;
  previous = previous_of ss;
  block = block_number ss;
  start = start_of ss v;
  most = suc (sum ss + sum ss);
  distance = distance_of ss;
  next-previous = next-previous_of ss;
  previous-next = previous-next_of ss;
  block-previous = block-previous_of ss;
  distance-below = λ h k. omega (arith, distance-below_of ss h k);
  reached = reached_of ss;
}
