-- What a move computes from U. In order: the run over U gives the list after a step; it is on the grid exactly where
-- the end of the run is positive; the next point; an inner point exchanged; a new first point; where an index that
-- joins T rises. Assumes nothing.
use mathlib.Core.Bool.{Bool, false}
use mathlib.Core.Logic.{◌⊎◌, inl, inr, ⊎_elim}
use mathlib.Core.Path.{◌≡◌, sym, ◌∙◌}
use Prim.Native.Nat.{ℕ, suc, ◌+◌, ◌-◌, ◌≤◌, ◌<◌}
use native.Mathlib.Omega.{arith}
use Rattle.geometry.proofs.Chains
use Rattle.combinatorics.proofs.Basics.{true_or_false, same_or, before_or_not}
use Rattle.geometry.proofs.Bridge.{zeros-yes, zeros-no}
use Rattle.geometry.proofs.Definitions.{back, Blocks, coord, Tight, Grid, HasZeros, Step, Chain, BackToPositive}
use Rattle.geometry.proofs.Definitions.{BackToZero, Moved, BackOutside, OnRun, zeros}
use Rattle.geometry.proofs.Grow.{zero-stays}
use Rattle.geometry.proofs.Runs.{next-back, run_by, positive-stop, zero-run, zero-stop, moved, on-run, both}
use Rattle.geometry.proofs.Runs.{up_grid}
use Rattle.geometry.proofs.Tight.{step_up}
use Rattle.geometry.proofs.Ways.{inner_z, inner_tight, inner_zeros, inner_le, inner_step, inner_beside, last_z}
use Rattle.geometry.proofs.Ways.{last_tight, last-zeros, last_step, last-grid}

-- a step from point j of a chain, by an index h of T, to a tight list z at most 1 above the first point: its run goes
-- over U
module _ {R : Blocks} {T : ℕ → Bool} {t : ℕ} {p : ℕ → ℕ → ℕ} {o : ℕ → ℕ} (K : Chain R T t p o) (j : ℕ) (l : j ≤ t)
    {h : ℕ} {z : ℕ → ℕ} (tz : Tight R T z) (nz : HasZeros R z) (low : (k : ℕ) → z k ≤ p 0 k + 1) (st : Step T h (p j) z)
    {n : ℕ} (B : BackOutside R (zeros R T (p 0)) h n) where
  free-same : z (K.free h).0 ≡ p j (K.free h).0
  free-same =
      let f = K.free h in
      omega (arith, Chains.free-zero K f.0 f.2 f.3 j l, tz f.0 f.2, low (R.next f.0), f.3)

  skipped_zero : (i : ℕ) → 0 < i → i < n → (T (back R.previous i h) ≡ false) × (coord R (p j) (back R.previous i h) ≡ 0)
  skipped_zero i a b = let w = zeros-yes K _ (B.skipped i a b) in (w.0, zero-stays K _ w.0 w.1 j l)

  -- the coefficients rise on the run
  pub run_rises : (i : ℕ) → i < n → z (back R.previous i h) ≡ suc (p j (back R.previous i h))
  run_rises = run_by R (K.tight j l) tz st (K.free h).0 (K.free h).1 free-same n n skipped_zero

  next_rises : z (R.next (back R.previous n h)) ≡ suc (p j (R.next (back R.previous n h)))
  next_rises =
      let w : suc (n - 1) ≡ n = omega (arith, B.some) in
      rw (← w) (rw (next-back R (n - 1) h) (run_rises (n - 1) (omega (arith, B.some))))

  pub run-positive : BackToPositive R T (p j) h n
  run-positive = record {
    some = B.some;
    skipped = skipped_zero;
    stops = ⊎_elim (λ e. inl e)
        (λ e. inr (omega (arith, zeros-no K _ B.stops e, next_rises, low (R.next (back R.previous n h)))))
        (true_or_false (T (back R.previous n h)));
  }

  pub stop-unchanged : z (back R.previous n h) ≡ p j (back R.previous n h)
  stop-unchanged = positive-stop R (K.tight j l) tz st (K.free h).0 (K.free h).1 free-same n run-positive

  -- and nowhere else
  pub else_unchanged : (k : ℕ) → (z k ≡ p j k) ⊎ OnRun R h n k
  else_unchanged = on-run R (K.tight j l) tz (K.has_zeros j l) nz st n B.some run_rises stop-unchanged

  pub run_moved : Grid R z → Moved R h (back R.previous n h) (p j) z
  run_moved g = moved R (K.tight j l) tz (K.has_zeros j l) nz st n B.some run_rises stop-unchanged (K.grid j l) g

  -- the new list is on the grid exactly where the end of the run has something to give
  pub grid_if_positive : 0 < coord R (p j) (back R.previous n h) → Grid R z
  grid_if_positive g =
      up_grid R (K.tight j l) tz (K.has_zeros j l) nz st n B.some run_rises stop-unchanged (K.grid j l) g

  pub off_if_zero : coord R (p j) (back R.previous n h) ≡ 0 → Grid R z → ⊥
  off_if_zero e g = omega (arith, e, g (back R.previous n h), next_rises, stop-unchanged)

  -- away from the run's two ends it is there anyhow
  pub grid_elsewhere : (k : ℕ) → (k ≡ h → ⊥) → (k ≡ back R.previous n h → ⊥) → z (R.next k) ≤ R.start k + z k
  grid_elsewhere k x y =
      ⊎_elim (λ w. omega (arith, w.0, w.1, K.grid j l k)) (λ w. omega (arith, w.0, w.1, K.grid j l k))
      (both R (K.tight j l) tz (K.has_zeros j l) nz st n B.some run_rises stop-unchanged k x y)

-- along a chain: the next point, and where the coefficient of an index rises
module _ {R : Blocks} {T : ℕ → Bool} {t : ℕ} {p : ℕ → ℕ → ℕ} {o : ℕ → ℕ} (K : Chain R T t p o) (j : ℕ) (l : j < t)
    {n : ℕ} (B : BackOutside R (zeros R T (p 0)) (o j) n) where
  pub next-moved : Moved R (o j) (back R.previous n (o j)) (p j) (p (suc j))
  next-moved = run_moved K j (omega arith) (K.tight (suc j) l) (K.has_zeros (suc j) l)
      (Chains.one_more_at_most K (suc j) l) (K.step j l) B (K.grid (suc j) l)

  pub next-run : (k : ℕ) → OnRun R (o j) n k → p (suc j) k ≡ suc (p j k)
  next-run k r = rw r.2 at (run_rises K j (omega arith) (K.tight (suc j) l) (K.has_zeros (suc j) l)
      (Chains.one_more_at_most K (suc j) l) (K.step j l) B r.0 r.1)

  pub next_else : (k : ℕ) → (p (suc j) k ≡ p j k) ⊎ OnRun R (o j) n k
  next_else = else_unchanged K j (omega arith) (K.tight (suc j) l) (K.has_zeros (suc j) l)
      (Chains.one_more_at_most K (suc j) l) (K.step j l) B

-- an inner point: the two steps change places exactly where the run of the second from the point before ends at a
-- positive coordinate
module _ {R : Blocks} {T : ℕ → Bool} {s : ℕ} {p : ℕ → ℕ → ℕ} {o : ℕ → ℕ} (K : Chain R T (suc s) p o) (i : ℕ) (l : i < s)
    {n : ℕ} (B : BackOutside R (zeros R T (p 0)) (o (suc i)) n) where
  apart : o i ≡ o (suc i) → ⊥
  apart e = omega (arith, K.order.once i (suc i) (omega arith) (omega arith) e)

  z_same : inner_z K i (o i) ≡ p i (o i)
  z_same = (inner_step K i l).unchanged (o i) (K.order.within i (omega arith)) apart

  pub inner_if_positive : 0 < coord R (p i) (back R.previous n (o (suc i)))
      → inner_z K i (R.next (o i)) ≤ R.start (o i) + p i (o i)
  inner_if_positive g = omega (
    arith,
    z_same,
    grid_if_positive K i (omega arith) (inner_tight K i l) (inner_zeros K i l) (inner_le K i l) (inner_step K i l) B g
        (o i),
  )

  pub inner_if_zero : coord R (p i) (back R.previous n (o (suc i))) ≡ 0
      → R.start (o i) + p i (o i) < inner_z K i (R.next (o i))
  inner_if_zero e = ⊎_elim
      (λ x. x)
      (λ x. absurd (off_if_zero K i (omega arith) (inner_tight K i l) (inner_zeros K i l) (inner_le K i l)
      (inner_step K i l) B e (inner_grid x)))
      (before_or_not (R.start (o i) + p i (o i)) (inner_z K i (R.next (o i))))
    where
      inner_grid : inner_z K i (R.next (o i)) ≤ R.start (o i) + p i (o i) → Grid R (inner_z K i)
      inner_grid x = rw (Rattle.geometry.proofs.Ways.inner_here K i)
          at ((inner_beside K i l x).chain.grid (suc i) (omega arith))

  -- where they do not, the run ends at the first of the two, whose coordinate is 0 at the first point too
  pub inner_stuck : coord R (p i) (back R.previous n (o (suc i))) ≡ 0
      → (o i ≡ back R.previous n (o (suc i))) × (coord R (p 0) (o i) ≡ 0)
  inner_stuck e = (
    ⊎_elim
        (λ x. x)
        (λ x. absurd (omega (
          arith,
          inner_if_zero e,
          z_same,
          grid_elsewhere K i (omega arith) (inner_tight K i l) (inner_zeros K i l) (inner_le K i l) (inner_step K i l) B
              (o i) apart x,
        )))
        (same_or (o i) (back R.previous n (o (suc i)))),
    omega (
      arith,
      inner_if_zero e,
      inner_le K i l (R.next (o i)),
      Chains.before_raise K i i (omega arith) (omega arith),
    ),
  )

  pub inner_unstuck : o i ≡ back R.previous n (o (suc i)) → coord R (p 0) (o i) ≡ 0
      → coord R (p i) (back R.previous n (o (suc i))) ≡ 0
  inner_unstuck e x =
      rw (← e) (omega (
        arith,
        x,
        Chains.before_raise K i i (omega arith) (omega arith),
        Chains.rise K 0 i (omega arith) (omega arith) (R.next (o i)),
      ))

-- the last point leaves: the new first point takes 1 off the run over positive coefficients
module _ {R : Blocks} {T : ℕ → Bool} {s : ℕ} {p : ℕ → ℕ → ℕ} {o : ℕ → ℕ} (K : Chain R T (suc s) p o) (a : 0 < p 0 (o s))
    (b : p 0 (R.next (o s)) < R.start (o s) + p 0 (o s))
    {n : ℕ} (B : BackToZero R T (p 0) (o s) n) where
  last-same : p 0 (K.free (o s)).0 ≡ last_z K (K.free (o s)).0
  last-same = let f = K.free (o s) in
      omega (
        arith,
        Chains.free-zero K f.0 f.2 f.3 0 (omega arith),
        step_up R T (last_tight K) (K.tight 0 (omega arith)) (last-zeros K) (last_step K a) f.0,
      )

  pub last-run : (j : ℕ) → j < n → p 0 (back R.previous j (o s)) ≡ suc (last_z K (back R.previous j (o s)))
  last-run = zero-run R (last_tight K) (K.tight 0 (omega arith)) (last_step K a) (K.free (o s)).0 (K.free (o s)).1
      last-same n B

  last-stop : p 0 (back R.previous n (o s)) ≡ last_z K (back R.previous n (o s))
  last-stop = zero-stop R (last_tight K) (K.tight 0 (omega arith)) (last_step K a) (K.free (o s)).0
      (K.free (o s)).1 last-same n B
      (step_up R T (last_tight K) (K.tight 0 (omega arith)) (last-zeros K) (last_step K a))

  pub last_else : (k : ℕ) → (p 0 k ≡ last_z K k) ⊎ OnRun R (o s) n k
  last_else = on-run R (last_tight K) (K.tight 0 (omega arith)) (last-zeros K) (K.has_zeros 0 (omega arith))
      (last_step K a) n B.some last-run last-stop

  pub last-moved : Moved R (o s) (back R.previous n (o s)) (last_z K) (p 0)
  last-moved = moved R (last_tight K) (K.tight 0 (omega arith)) (last-zeros K) (K.has_zeros 0 (omega arith))
      (last_step K a) n B.some last-run last-stop (last-grid K a b) (K.grid 0 (omega arith))

-- where a new index g is put into the order: before the step at which its coefficient rises, or last (`Grow`,
-- grow-chain, takes these as `below` and `above`)
module _ {R : Blocks} {T : ℕ → Bool} {t : ℕ} {p : ℕ → ℕ → ℕ} {o : ℕ → ℕ} (K : Chain R T t p o) (g : ℕ) where
  pub rises_here : (j : ℕ) → j < t → p (suc j) g ≡ suc (p j g)
      → ((i : ℕ) → i ≤ j → p i g ≡ p 0 g) × ((i : ℕ) → j < i → i ≤ t → p i g ≡ suc (p 0 g))
  rises_here j l e = (
    (λ i m. omega (
      arith,
      e,
      Chains.one_more_at_most K (suc j) l g,
      Chains.rise K 0 i (omega arith) (omega arith) g,
      Chains.rise K i j m (omega arith) g,
    )),
    (λ i m n. omega (
      arith,
      e,
      Chains.one_more_at_most K i n g,
      Chains.rise K (suc j) i m n g,
      Chains.rise K 0 j (omega arith) (omega arith) g,
    )),
  )

  pub never_rises : T g ≡ false → zeros R T (p 0) g ≡ false → (i : ℕ) → i ≤ t → p i g ≡ p 0 g
  never_rises e f i l =
      let z = zeros-no K g f e in
      Chains.free-zero K g e z i l ∙ sym (Chains.free-zero K g e z 0 (omega arith))
