-- Sets of indices round blocks, as functions with values 0 and 1. A set is closed if it has each index whose start is 0
-- and whose next index it has: `Grid` of the geometry. In order: an index to leave out of each block; all indices but
-- those; one more index for a closed set inside another. Assumes nothing.
use mathlib.Core.Bool.{Bool, true, false, ◌&&◌, cond}
use mathlib.Core.Logic.{◌⊎◌, inl, inr, ⊎_elim}
use mathlib.Core.Path.{◌≡◌, sym, ap, ◌∙◌}
use Prim.Native.Nat.{ℕ, zero, suc, ◌+◌, ◌≤◌, ◌<◌}
use borrow.Author.Tests.{eqb-true, eq-eqb, ne_eqb, ltb-true, lt-ltb}
use lib.Dec.{eqb, ltb}
use native.Mathlib.Omega.{arith}
use Rattle.combinatorics.proofs.Basics.{absurd_bool, before_or_not, same_or, and_both, and_left, and_right}
use Rattle.geometry.proofs.Definitions.{Blocks, back, Grid, HasZeros, raise}
use Rattle.geometry.proofs.Search.{find, find_in, raise_at, raise_elsewhere}
use Rattle.geometry.proofs.Tight.{round, block-next}
use Rattle.path_laws.proofs.BlocksOfGrid.{back_shift}
use Rattle.check_simplices.proofs.Tests.{Below}

-- closed, with an index of each block outside
pub record Closed (R : Blocks) (c : ℕ → ℕ) : Type 0 where
  pub grid : Grid R c
  pub zeros : HasZeros R c

-- all indices but one of each block, closed
pub record Whole (R : Blocks) (c : ℕ → ℕ) : Type 0 where
  pub set : ℕ → ℕ
  pub closed : Closed R set
  pub ones : Below set (λ k. 1)
  pub above : Below c set
  pub left : (h : ℕ)
      → (l : ℕ) × (R.block l ≡ R.block h) × (set l ≡ 0) × ((k : ℕ) → R.block k ≡ R.block h → set k ≡ 0 → k ≡ l)

module _ (R : Blocks) (positive : (h : ℕ) → (k : ℕ) × (R.block k ≡ R.block h) × (0 < R.start k)) {c : ℕ → ℕ}
    (C : Closed R c) (ones : Below c (λ k. 1)) where
  -- outside the set, with a positive start
  abbrev free : ℕ → Bool
  free k = eqb (c k) 0 && ltb 0 (R.start k)

  -- an index to leave out: else each index after one outside the set were outside too, and so the whole block, with the
  -- start 0
  some-free : (h : ℕ) → (l : ℕ) × (R.block l ≡ R.block h) × (free l ≡ true)
  some-free h = ⊎_elim
      (λ w. w)
      (λ n.
      let z = C.zeros h in
      let t = positive h in
      let taken : (k : ℕ) → R.block k ≡ R.block h → (c k ≡ 0) → R.start k ≡ 0 = λ k e q. ⊎_elim
      (λ (x : 0 < R.start k). absurd_bool (sym (and_both _ _ (eq-eqb (c k) 0 q) (lt-ltb 0 _ x)) ∙ n k e))
      (λ x. omega arith)
      (before_or_not 0 (R.start k)) in
      let out : c t.0 ≡ 0 = round R
      (λ k. R.block k ≡ R.block h → c k ≡ 0 → c t.0 ≡ 0)
      t.0
      (λ e q. q)
      (λ k ih e q. ih (block-next R k ∙ e) (omega (arith, C.grid k, taken k e q)))
      z.0 (t.1 ∙ sym z.1) z.1 z.2 in
      absurd (omega (arith, t.2, taken t.0 t.1 out)))
      (find_in R free h)

  -- the least of each block
  record Left (h : ℕ) : Type 0 where
    index : ℕ
    in_block : R.block index ≡ R.block h
    outside : c index ≡ 0
    positive-start : 0 < R.start index
    least : (j : ℕ) → j < index → R.block j ≡ R.block h → free j ≡ false

  left : (h : ℕ) → Left h
  left h =
      let t : ℕ → Bool = λ k. eqb (R.block k) (R.block h) && free k in
      let s = some-free h in
      ⊎_elim
      (λ w. record {
        index = w.0;
        in_block = eqb-true _ _ (and_left _ (free w.0) w.2);
        outside = eqb-true (c w.0) 0
            (and_left _ (ltb 0 (R.start w.0)) (and_right (eqb (R.block w.0) (R.block h)) (free w.0) w.2));
        positive-start = ltb-true 0 _ (and_right (eqb (c w.0) 0) (ltb 0 (R.start w.0))
            (and_right (eqb (R.block w.0) (R.block h)) (free w.0) w.2));
        least = λ j l e. rw (eq-eqb _ _ e) at (w.3 j l);
      })
      (λ n. absurd_bool (sym (and_both _ _ (eq-eqb _ _ s.1) s.2) ∙ n s.0 (omega arith)))
      (find t (suc s.0))

  left-same : (h k : ℕ) → R.block h ≡ R.block k → (left h).index ≡ (left k).index
  left-same h k e = ⊎_elim
      (λ (x : (left h).index < (left k).index). absurd_bool (sym (is_free h) ∙ (left k).least _ x ((left h).in_block ∙ e)))
      (λ (x : (left k).index ≤ (left h).index). ⊎_elim
      (λ (y : (left k).index < (left h).index).
      absurd_bool (sym (is_free k) ∙ (left h).least _ y ((left k).in_block ∙ sym e)))
      (λ y. omega arith)
      (before_or_not (left k).index (left h).index))
      (before_or_not (left h).index (left k).index)
    where
      is_free : (h : ℕ) → free (left h).index ≡ true
      is_free h = and_both _ _ (eq-eqb _ 0 (left h).outside) (lt-ltb 0 _ (left h).positive-start)

  -- all indices but those
  whole : ℕ → ℕ
  whole k = cond (eqb k (left k).index) 0 1

  whole-left : (k : ℕ) → k ≡ (left k).index → whole k ≡ 0
  unfolding whole
  whole-left k e = rw (eq-eqb k _ e)

  whole-other : (k : ℕ) → (k ≡ (left k).index → ⊥) → whole k ≡ 1
  unfolding whole
  whole-other k n = rw (ne_eqb k _ n)

  left_out : (h : ℕ) → whole (left h).index ≡ 0
  left_out h = whole-left _ (left-same h _ (sym (left h).in_block))

  only-left : (k h : ℕ) → R.block k ≡ R.block h → whole k ≡ 0 → k ≡ (left h).index
  only-left k h e z =
      ⊎_elim (λ q. q ∙ left-same k h e) (λ n. absurd (omega (arith, whole-other k n))) (same_or k (left k).index)

  whole-ones : Below whole (λ k. 1)
  whole-ones k =
      ⊎_elim (λ e. omega (arith, whole-left k e)) (λ n. omega (arith, whole-other k n)) (same_or k (left k).index)

  pub whole_of : Whole R c
  whole_of = record {
    set = whole;
    closed = record {
      grid = λ k. ⊎_elim
          (λ (e : k ≡ (left k).index). omega (arith, whole-ones (R.next k), (left k).positive-start, ap R.start e))
          (λ n. omega (arith, whole-ones (R.next k), whole-other k n))
          (same_or k (left k).index);
      zeros = λ h. ((left h).index, (left h).in_block, left_out h);
    };
    ones = whole-ones;
    above = λ k. ⊎_elim
        (λ (e : k ≡ (left k).index). omega (arith, (left k).outside, ap c e))
        (λ n. omega (arith, whole-other k n, ones k))
        (same_or k (left k).index);
    left = λ h. ((left h).index, (left h).in_block, left_out h, (λ k e z. only-left k h e z));
  }

-- an index more for the set a, inside b
pub record More (R : Blocks) (a b : ℕ → ℕ) : Type 0 where
  pub index : ℕ
  pub old : a index ≡ 0
  pub new : 0 < b index
  pub closed : Grid R (raise index a)

pub raise_above : (h : ℕ) (a : ℕ → ℕ) → Below a (raise h a)
raise_above h a k = ⊎_elim
    (λ (e : k ≡ h). omega (arith, ap a e, ap (raise h a) e, raise_at h a))
    (λ n. omega (arith, raise_elsewhere h a k n))
    (same_or k h)

module _ (R : Blocks) {a b : ℕ → ℕ} (A : Grid R a) (B : Closed R b) (ones : Below b (λ k. 1)) where
  -- going back from an index of b that a has not: the first whose index before has a positive start or is in a
  one_more : (n h z : ℕ) → back R.previous n h ≡ z → b z ≡ 0 → a h ≡ 0 → 0 < b h → More R a b
  one_more zero h z e o x y = absurd (omega (arith, ap b e))
  one_more (suc n) h z e o x y =
      go (before_or_not 0 (R.start g + a g)) (one_more n g z (back_shift R.previous n h ∙ e) o)
    where
      g : ℕ
      g = R.previous h

      ng : R.next g ≡ h
      ng = R.next-previous h

      go : (0 < R.start g + a g) ⊎ (R.start g + a g ≤ 0) → (a g ≡ 0 → 0 < b g → More R a b) → More R a b
      go (inl l) r = record {
        index = h;
        old = x;
        new = y;
        closed = λ k. ⊎_elim
            (λ (q : R.next k ≡ h).
            let w : k ≡ g = sym (R.previous-next k) ∙ ap R.previous q in
            omega (arith, ap (raise h a) q, raise_at h a, ap R.start w, ap a w, raise_above h a k))
            (λ q. ⊎_elim
            (λ (w : k ≡ h).
            omega (arith, raise_elsewhere h a (R.next k) q, A k, ap (raise h a) w, raise_at h a, ap a w))
            (λ w. omega (arith, raise_elsewhere h a (R.next k) q, raise_elsewhere h a k w, A k))
            (same_or k h))
            (same_or (R.next k) h);
      }
      go (inr l) r = r (omega arith) (omega (arith, B.grid g, ap b ng))

  pub more_of : (h : ℕ) → a h < b h → More R a b
  more_of h l =
      let z = B.zeros h in
      one_more (R.distance h z.0) h z.0 (R.reached h z.0 (sym z.1)) z.2 (omega (arith, ones h)) (omega arith)
