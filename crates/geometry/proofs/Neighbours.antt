-- The chain beyond a facet, where the first, an inner or the last point is exchanged for a new one; and the facet that
-- is a chain itself, over T less an index. Assumes nothing.
use mathlib.Core.Bool.{Bool, true}
use mathlib.Core.Logic.{⊎_elim}
use mathlib.Core.Path.{◌≡◌, sym, ◌∙◌}
use Prim.Native.Nat.{ℕ, zero, suc, ◌+◌, ◌-◌, ◌≤◌, ◌<◌}
use native.Mathlib.Omega.{arith}
use Rattle.geometry.proofs.Chains
use Rattle.combinatorics.proofs.Basics.{same_or, before_or_not}
use Rattle.geometry.proofs.Definitions.{Blocks, Tight, Grid, HasZeros, Free, Step, Chain, Less, Omit, Rotate}
use Rattle.geometry.proofs.Definitions.{Swap}
use Rattle.geometry.proofs.Orders.{lt_or, rotate_order, unrotate_order, swap_order, omit_order, less_in}
use Rattle.geometry.proofs.Orders.{less_out}
use Rattle.geometry.proofs.Tight.{bounded, step_up, grid-all}

-- the first point leaves: a new last point
module _ {R : Blocks} {T : ℕ → Bool} {s : ℕ} {p : ℕ → ℕ → ℕ} {o : ℕ → ℕ} (K : Chain R T (suc s) p o) {p' : ℕ → ℕ → ℕ}
    {o' : ℕ → ℕ} (same : (j : ℕ) → j < suc s → p' j ≡ p (suc j)) (turn : Rotate s o o') where
  first-lists : (Q : (ℕ → ℕ) → Type 0) → ((j : ℕ) → j ≤ suc s → Q (p j)) → Q (p' (suc s)) → (j : ℕ) → j ≤ suc s
      → Q (p' j)
  first-lists Q a z j l = ⊎_elim
      (λ (x : j < suc s). rw (same j (omega arith)) (a (suc j) (omega arith)))
      (λ (x : j ≡ suc s). rw x z)
      (lt_or j (suc s) (omega arith))

  pub first_next : Tight R T (p' (suc s)) → HasZeros R (p' (suc s)) → Step T (o 0) (p (suc s)) (p' (suc s))
      → Free R T (p 1)
      → Chain R T (suc s) p' o'
  first_next tz nz sz fr = record {
    tight = first-lists (Tight R T) K.tight tz;
    grid = first-lists (Grid R) K.grid
        (grid-all R T tz (λ k e. omega (arith, le (R.next k), K.grid 1 (omega arith) k, on1 k e)));
    has_zeros = first-lists (HasZeros R) K.has_zeros nz;
    step = λ j l. ⊎_elim
        (λ (x : j < s).
        rw (same j (omega arith), same (suc j) (omega arith), turn.back j x) (K.step (suc j) (omega arith)))
        (λ (x : j ≡ s). rw (x, same s (omega arith), turn.last) sz)
        (lt_or j s l);
    order = rotate_order K.order turn;
    free = rw (same 0 (omega arith)) fr;
  }
    where
      -- on T the last point is the first and 1
      on1 : (k : ℕ) → T k ≡ true → p' (suc s) k ≡ suc (p 1 k)
      on1 k e = ⊎_elim
          (λ (q : k ≡ o 0). rw q (omega (
            arith,
            sz.raised,
            Chains.after_raise K 0 (suc s) (omega arith) (omega arith),
            (K.step 0 (omega arith)).raised,
          )))
          (λ n.
          omega (arith, sz.unchanged k e n, Chains.last-one_more K k e, (K.step 0 (omega arith)).unchanged k e n))
          (same_or k (o 0))

      le : (k : ℕ) → p' (suc s) k ≤ p 1 k + 1
      le = bounded R T 1 tz (K.tight 1 (omega arith)) (λ k e. omega (arith, on1 k e)) nz

-- an inner point leaves: the two steps at it change places
module _ {R : Blocks} {T : ℕ → Bool} {t : ℕ} {p : ℕ → ℕ → ℕ} {o : ℕ → ℕ} (K : Chain R T t p o) {p' : ℕ → ℕ → ℕ}
    {o' : ℕ → ℕ} {i : ℕ} (inner : suc i < t) (same : (j : ℕ) → (j ≡ suc i → ⊥) → p' j ≡ p j) (turn : Swap i o o') where
  inner_lists : (Q : (ℕ → ℕ) → Type 0) → ((j : ℕ) → j ≤ t → Q (p j)) → Q (p' (suc i)) → (j : ℕ) → j ≤ t → Q (p' j)
  inner_lists Q a z j l = ⊎_elim (λ (x : j ≡ suc i). rw x z) (λ n. rw (same j n) (a j l)) (same_or j (suc i))

  apart : o i ≡ o (suc i) → ⊥
  apart e = omega (arith, K.order.once i (suc i) (omega arith) inner e)

  -- the second step from the new point
  pub second : Step T (o (suc i)) (p i) (p' (suc i)) → Step T (o i) (p' (suc i)) (p (suc (suc i)))
  second sz = record {
    raised = omega (
      arith,
      (K.step (suc i) inner).unchanged (o i) (K.order.within i (omega arith)) apart,
      (K.step i (omega arith)).raised,
      sz.unchanged (o i) (K.order.within i (omega arith)) apart,
    );
    unchanged = λ k e n. ⊎_elim
        (λ (q : k ≡ o (suc i)). rw q (omega (
          arith,
          (K.step (suc i) inner).raised,
          (K.step i (omega arith)).unchanged (o (suc i)) (K.order.within (suc i) inner) (λ w. apart (sym w)),
          sz.raised,
        )))
        (λ q. omega (
          arith,
          (K.step (suc i) inner).unchanged k e q,
          (K.step i (omega arith)).unchanged k e n,
          sz.unchanged k e q,
        ))
        (same_or k (o (suc i)));
  }

  pub inner_next : Tight R T (p' (suc i)) → HasZeros R (p' (suc i)) → Step T (o (suc i)) (p i) (p' (suc i))
      → p' (suc i) (R.next (o i)) ≤ R.start (o i) + p i (o i) → Chain R T t p' o'
  inner_next tz nz sz gz = record {
    tight = inner_lists (Tight R T) K.tight tz;
    grid = inner_lists (Grid R) K.grid
        (grid-all R T tz
        (λ k e. ⊎_elim
        (λ (q : k ≡ o i). rw q (omega (arith, gz, sz.unchanged (o i) (K.order.within i (omega arith)) apart)))
        (λ n. omega (
          arith,
          step_up R T tz (K.tight (suc (suc i)) inner) nz (second sz) (R.next k),
          K.grid (suc (suc i)) inner k,
          (second sz).unchanged k e n,
        ))
        (same_or k (o i))));
    has_zeros = inner_lists (HasZeros R) K.has_zeros nz;
    step = λ j l. ⊎_elim
        (λ (x : j ≡ i). rw (x, same i (λ e. omega arith), turn.here) sz)
        (λ (x : j ≡ i → ⊥). ⊎_elim
        (λ (y : j ≡ suc i). rw (y, same (suc (suc i)) (λ e. omega arith), turn.next) (second sz))
        (λ y. rw (same j y, same (suc j) (λ e. x (omega arith)), turn.rest j x y) (K.step j l))
        (same_or j (suc i)))
        (same_or j i);
    order = swap_order inner K.order turn;
    free = rw (same 0 (λ e. omega arith)) K.free;
  }

-- the last point leaves: a new first point
module _ {R : Blocks} {T : ℕ → Bool} {s : ℕ} {p : ℕ → ℕ → ℕ} {o : ℕ → ℕ} (K : Chain R T (suc s) p o) (p' : ℕ → ℕ → ℕ)
    {o' : ℕ → ℕ} (same : (j : ℕ) → j < suc s → p' (suc j) ≡ p j) (turn : Rotate s o' o) where
  last-lists : (Q : (ℕ → ℕ) → Type 0) → ((j : ℕ) → j ≤ suc s → Q (p j)) → Q (p' 0) → (j : ℕ) → j ≤ suc s → Q (p' j)
  last-lists Q a z zero l = z
  last-lists Q a z (suc j) l = rw (same j l) (a j (omega arith))

  last-steps : Step T (o s) (p' 0) (p 0) → (j : ℕ) → j < suc s → Step T (o' j) (p' j) (p' (suc j))
  last-steps sz zero l = rw (same 0 (omega arith), ← turn.last) sz
  last-steps sz (suc j) l =
      rw (same j (omega arith), same (suc j) l, ← (turn.back j (omega arith))) (K.step j (omega arith))

  pub last-next : Tight R T (p' 0) → HasZeros R (p' 0) → Step T (o s) (p' 0) (p 0)
      → p 0 (R.next (o s)) ≤ R.start (o s) + p' 0 (o s)
      → Chain R T (suc s) p' o'
  last-next tz nz sz gz = record {
    tight = last-lists (Tight R T) K.tight tz;
    grid = last-lists (Grid R) K.grid (grid-all R T tz (λ k e.
        ⊎_elim (λ (q : k ≡ o s). rw q (omega (arith, gz, up (R.next (o s)))))
        (λ n. omega (arith, up (R.next k), K.grid 0 (omega arith) k, sz.unchanged k e n)) (same_or k (o s))));
    has_zeros = last-lists (HasZeros R) K.has_zeros nz;
    step = last-steps sz;
    order = unrotate_order K.order turn;
    free = λ h. let f = K.free h in (f.0, f.1, f.2, omega (arith, up (R.next f.0), f.3));
  }
    where
      up : (k : ℕ) → p' 0 k ≤ p 0 k
      up = step_up R T tz (K.tight 0 (omega arith)) nz sz

-- a facet less the point after the step of b, tight at b: a chain over T less b
module _ {R : Blocks} {T T' : ℕ → Bool} {s : ℕ} {p : ℕ → ℕ → ℕ} {o : ℕ → ℕ} (K : Chain R T (suc s) p o) {i : ℕ}
    (here : i < suc s) {q : ℕ → ℕ → ℕ} {u : ℕ → ℕ} (mp : Omit (suc s) (suc i) p q) (mo : Omit s i o u)
    (L : Less T T' (o i)) where
  drop-lists : (Q : (ℕ → ℕ) → Type 0) → ((j : ℕ) → j ≤ suc s → Q (p j)) → (j : ℕ) → j ≤ s → Q (q j)
  drop-lists Q a j l =
      ⊎_elim (λ x. rw (mp.lower j (omega arith) x) (a j (omega arith)))
      (λ x. rw (mp.upper j (omega arith) x) (a (suc j) (omega arith)))
      (before_or_not j (suc i))

  less_step : {h : ℕ} {c d : ℕ → ℕ} → Step T h c d → Step T' h c d
  less_step w = record { raised = w.raised; unchanged = λ k e n. w.unchanged k (less_in L k e).0 n }

  across : i < s → Step T' (o (suc i)) (p i) (p (suc (suc i)))
  across l = record {
    raised = omega (
      arith,
      (K.step (suc i) (omega arith)).raised,
      (K.step i here).unchanged (o (suc i)) (K.order.within (suc i) (omega arith))
          (λ e. omega (arith, K.order.once (suc i) i (omega arith) here e)),
    );
    unchanged = λ k e n. let z = less_in L k e in
        omega (arith, (K.step (suc i) (omega arith)).unchanged k z.0 n, (K.step i here).unchanged k z.0 z.1);
  }

  drop_step : (j : ℕ) → j < s → Step T' (u j) (q j) (q (suc j))
  drop_step j l = ⊎_elim
      (λ (x : j < i). rw (
        mp.lower j (omega arith) (omega arith),
        mp.lower (suc j) (omega arith) (omega arith),
        mo.lower j l x,
      ) (less_step (K.step j (omega arith))))
      (λ (x : i ≤ j). ⊎_elim
      (λ (y : j ≡ i). rw (
        y,
        mp.lower i (omega arith) (omega arith),
        mp.upper (suc i) (omega arith) (omega arith),
        mo.upper i (omega arith) (omega arith),
      ) (across (omega arith)))
      (λ n. rw (mp.upper j (omega arith) (omega arith), mp.upper (suc j) (omega arith) (omega arith), mo.upper j l x)
      (less_step (K.step (suc j) (omega arith))))
      (same_or j i))
      (before_or_not j i)

  pub drop : ((j : ℕ) → j ≤ s → q j (o i) ≡ q j (R.next (o i)) - R.start (o i)) → Chain R T' s q u
  drop tt' = record {
    tight = λ j l k e. ⊎_elim
        (λ (x : k ≡ o i). rw x (tt' j l))
        (λ n. drop-lists (Tight R T) K.tight j l k (sym (L.rest k n) ∙ e))
        (same_or k (o i));
    grid = drop-lists (Grid R) K.grid;
    has_zeros = drop-lists (HasZeros R) K.has_zeros;
    step = drop_step;
    order = omit_order (omega arith) K.order L mo;
    free =
        rw (mp.lower 0 (omega arith) (omega arith)) (λ h. let f = K.free h in (f.0, f.1, less_out L f.0 f.2, f.3));
  }
