-- One step, by the run of indices going back from h: coefficients rise on the run and nowhere else, and the point gains
-- 1 at h and loses 1 where the run ends. Assumes nothing.
use mathlib.Core.Bool.{Bool, true, false}
use mathlib.Core.Logic.{◌⊎◌, inl, inr, ⊎_elim}
use mathlib.Core.Path.{◌≡◌, sym, ap, ◌∙◌, subst}
use Prim.Native.Nat.{ℕ, zero, suc, ◌-◌, ◌≤◌, ◌<◌}
use native.Mathlib.Omega.{arith}
use Rattle.combinatorics.proofs.Basics.{true_or_false, absurd_bool, same_or, before_or_not}
use Rattle.geometry.proofs.Search.{block_back, find, other-block_le}
use Rattle.geometry.proofs.Definitions.{back, Blocks, coord, Tight, Grid, HasZeros, Step, BackToPositive}
use Rattle.geometry.proofs.Definitions.{BackToZero, Moved}
use Rattle.geometry.proofs.Orders.{zero_or}
use Rattle.geometry.proofs.Tight.{round, still, step_up}

pub next-back : (R : Blocks) (n h : ℕ) → R.next (back R.previous (suc n) h) ≡ back R.previous n h
next-back R n h = R.next-previous (back R.previous n h)

-- n is the length of a run: c rises on it and not at its end
module _ (R : Blocks) {T : ℕ → Bool} {h : ℕ} {c d : ℕ → ℕ} (tc : Tight R T c) (td : Tight R T d) (nc : HasZeros R c)
    (nd : HasZeros R d) (st : Step T h c d) (n : ℕ) (pos : 0 < n)
    (run : (j : ℕ) → j < n → d (back R.previous j h) ≡ suc (c (back R.previous j h)))
    (stop : d (back R.previous n h) ≡ c (back R.previous n h)) where
  end-apart : back R.previous n h ≡ h → ⊥
  end-apart e = omega (arith, st.raised, rw e at stop)

  after_raise : d (R.next h) ≡ c (R.next h)
  after_raise = still R T tc td st _ (block_back R n h) stop

  -- an index is unchanged or on the run
  pub on-run : (k : ℕ) → (d k ≡ c k) ⊎ ((j : ℕ) × (j < n) × (back R.previous j h ≡ k))
  on-run k = ⊎_elim
      (λ (e : R.block k ≡ R.block h). round R
      (λ k. (d k ≡ c k) ⊎ ((j : ℕ) × (j < n) × (back R.previous j h ≡ k)))
      (back R.previous n h) (inl stop)
      (λ k ih. ⊎_elim
      (λ (x : k ≡ h). inr (0, pos, sym x))
      (λ (x : k ≡ h → ⊥). ⊎_elim
      (λ q. inl (⊎_elim (λ t. st.unchanged k t x) (λ f. omega (arith, tc k f, td k f)) (true_or_false (T k))))
      (λ w.
      let e : back R.previous (suc w.0) h ≡ k = ap R.previous w.2 ∙ R.previous-next k in
      ⊎_elim
      (λ (y : suc w.0 < n). inr (suc w.0, y, e))
      (λ (y : n ≤ suc w.0).
      let z : suc w.0 ≡ n = omega (arith, w.1) in
      inl (subst (λ (i : ℕ). d i ≡ c i) (ap (λ (i : ℕ). back R.previous i h) (sym z) ∙ e) stop))
      (before_or_not (suc w.0) n))
      ih)
      (same_or k h))
      k (block_back R n h ∙ sym e))
      (λ x. inl (omega (arith, other-block_le R tc td nd st k x, step_up R T tc td nc st k)))
      (same_or (R.block k) (R.block h))

  -- away from h and the end, both or none of an index and the next change
  pub both : (k : ℕ) → (k ≡ h → ⊥) → (k ≡ back R.previous n h → ⊥)
      → ((d k ≡ c k) × (d (R.next k) ≡ c (R.next k))) ⊎ ((d k ≡ suc (c k)) × (d (R.next k) ≡ suc (c (R.next k))))
  both k x y = ⊎_elim
      (λ (q : d (R.next k) ≡ c (R.next k)). inl (
        ⊎_elim (λ t. st.unchanged k t x) (λ f. omega (arith, tc k f, td k f)) (true_or_false (T k)),
        q,
      ))
      (λ (w : (j : ℕ) × (j < n) × (back R.previous j h ≡ R.next k)).
      let e : back R.previous (suc w.0) h ≡ k = ap R.previous w.2 ∙ R.previous-next k in
      ⊎_elim
      (λ (l : suc w.0 < n). inr (rw e at (run (suc w.0) l), rw w.2 at (run w.0 w.1)))
      (λ (l : n ≤ suc w.0).
      let z : suc w.0 ≡ n = omega (arith, w.1) in
      absurd (y (sym e ∙ ap (λ (i : ℕ). back R.previous i h) z)))
      (before_or_not (suc w.0) n))
      (on-run (R.next k))

  end-next : d (R.next (back R.previous n h)) ≡ suc (c (R.next (back R.previous n h)))
  end-next =
      let z : suc (n - 1) ≡ n = omega arith in
      rw (← z) (rw (next-back R (n - 1) h) (run (n - 1) (omega arith)))

  pub moved : Grid R c → Grid R d → Moved R h (back R.previous n h) c d
  moved gc gd = record {
    apart = end-apart;
    gains = omega (arith, after_raise, st.raised, gc h);
    gives = omega (arith, stop, end-next, gd (back R.previous n h));
    rest = λ k x y. ⊎_elim (λ w. omega (arith, w.0, w.1)) (λ w. omega (arith, w.0, w.1)) (both k x y);
  }

  -- d is on the grid where c is and the end can give; c is where d is and h can give
  pub up_grid : Grid R c → 0 < coord R c (back R.previous n h) → Grid R d
  up_grid g l k = ⊎_elim
      (λ (x : k ≡ h). rw x (omega (arith, after_raise, st.raised, g h)))
      (λ (x : k ≡ h → ⊥). ⊎_elim
      (λ (y : k ≡ back R.previous n h). rw y (omega (arith, stop, end-next, l)))
      (λ y. ⊎_elim (λ w. omega (arith, w.0, w.1, g k)) (λ w. omega (arith, w.0, w.1, g k)) (both k x y))
      (same_or k (back R.previous n h)))
      (same_or k h)

-- the run of a step, told from c or from d; f is an index of h's block where neither rises
module _ (R : Blocks) {T : ℕ → Bool} {h : ℕ} {c d : ℕ → ℕ} (tc : Tight R T c) (td : Tight R T d) (st : Step T h c d)
    (f : ℕ) (fb : R.block f ≡ R.block h) (fs : d f ≡ c f) (n : ℕ) where
  not_back : 0 < n → ((j : ℕ) → j < n → d (back R.previous j h) ≡ suc (c (back R.previous j h)))
      → back R.previous n h ≡ h → ⊥
  not_back pos run e =
      let z : suc (n - 1) ≡ n = omega arith in
      let w : R.next h ≡ back R.previous (n - 1) h =
      ap R.next (sym e) ∙ ap (λ (i : ℕ). R.next (back R.previous i h)) (sym z) ∙ next-back R (n - 1) h in
      omega (arith, run (n - 1) (omega arith), rw w at (still R T tc td st f fb fs))

  pub run_by : (m : ℕ)
      → ((j : ℕ) → 0 < j → j < m → (T (back R.previous j h) ≡ false) × (coord R c (back R.previous j h) ≡ 0)) → (j : ℕ)
      → j < m
      → d (back R.previous j h) ≡ suc (c (back R.previous j h))
  run_by m l zero x = st.raised
  run_by m l (suc j) x =
      let w = l (suc j) (omega arith) x in
      let k = back R.previous (suc j) h in
      let e = next-back R j h in
      omega (arith, tc k w.0, td k w.0, w.1, run_by m l j (omega arith), ap c e, ap d e)

  module _ (l : BackToPositive R T c h n) where
    pub positive-run : (j : ℕ) → j < n → d (back R.previous j h) ≡ suc (c (back R.previous j h))
    positive-run = run_by n l.skipped

    pub positive-stop : d (back R.previous n h) ≡ c (back R.previous n h)
    positive-stop =
        let b = back R.previous n h in
        ⊎_elim
        (λ t. st.unchanged b t (not_back l.some positive-run))
        (λ t. ⊎_elim
        (λ x. st.unchanged b x (not_back l.some positive-run))
        (λ x.
        let z : suc (n - 1) ≡ n = omega (arith, l.some) in
        let e : R.next b ≡ back R.previous (n - 1) h =
        ap (λ (i : ℕ). R.next (back R.previous i h)) (sym z) ∙ next-back R (n - 1) h in
        omega (arith, t, tc b x, td b x, positive-run (n - 1) (omega (arith, l.some)), ap c e, ap d e))
        (true_or_false (T b)))
        l.stops

  module _ (l : BackToZero R T d h n) where
    pub zero-run : (j : ℕ) → j < n → d (back R.previous j h) ≡ suc (c (back R.previous j h))
    zero-run zero m = st.raised
    zero-run (suc j) m =
        let w = l.skipped (suc j) (omega arith) m in
        let k = back R.previous (suc j) h in
        let e = next-back R j h in
        omega (arith, tc k w.0, td k w.0, w.1, zero-run j (omega arith), ap c e, ap d e)

    pub zero-stop : ((k : ℕ) → c k ≤ d k) → d (back R.previous n h) ≡ c (back R.previous n h)
    zero-stop up =
        ⊎_elim (λ t. st.unchanged (back R.previous n h) t (not_back l.some zero-run))
        (λ t. omega (arith, t, up (back R.previous n h))) l.stops

-- the first index going back from h where the test holds, f being one
pub search_back_lem : (R : Blocks) (P : ℕ → Bool) (h f : ℕ) → R.block f ≡ R.block h → P f ≡ true → (h ≡ f → ⊥)
    → (n : ℕ) × (0 < n) × (P (back R.previous n h) ≡ true) × ((j : ℕ) → 0 < j → j < n → P (back R.previous j h) ≡ false)
search_back_lem R P h f e t x = ⊎_elim
    (λ w. (
      suc w.0,
      omega arith,
      w.2,
      λ j a b. let z : suc (j - 1) ≡ j = omega arith in rw (← z) (w.3 (j - 1) (omega arith)),
    ))
    (λ none. absurd (⊎_elim
    (λ (z : R.distance h f ≡ 0). x (sym (ap (λ (i : ℕ). back R.previous i h) z) ∙ reached))
    (λ w. absurd_bool
    (sym t
    ∙ ap P (sym reached ∙ ap (λ (i : ℕ). back R.previous i h) w.1)
    ∙ none w.0 (omega (arith, w.1, R.distance-below h f))))
    (zero_or (R.distance h f))))
    (find (λ j. P (back R.previous (suc j) h)) R.most)
  where
    reached : back R.previous (R.distance h f) h ≡ f
    reached = R.reached h f (sym e)
