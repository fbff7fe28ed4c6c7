-- A chain is a place of document 01, labels apart, and a place is a chain. In order: the steps of a chain move one
-- unit; a chain is a place; coefficients of a place rise on the run of a step alone; a place is a chain.
-- Assumes nothing.
use mathlib.Core.Bool.{Bool, true, false, not, cond}
use mathlib.Core.Logic.{◌⊎◌, inl, inr, ⊎_elim}
use mathlib.Core.Path.{◌≡◌, refl, sym, ap, ◌∙◌}
use Prim.Native.Nat.{ℕ, zero, suc, ◌+◌, ◌-◌, ◌≤◌, ◌<◌}
use borrow.Author.Tests.{eqb-true, eqb-false, eq-eqb, ne_eqb, not-true, not-false}
use lib.Dec.{eqb}
use native.Mathlib.Omega.{arith}
use Rattle.geometry.proofs.Chains
use Rattle.combinatorics.proofs.Basics.{true_or_false, absurd_bool, same_or, before_or_not}
use Rattle.geometry.proofs.Search.{block_back}
use Rattle.geometry.proofs.Definitions.{OnRun, back, Blocks, coord, Tight, Step, Chain, BackToPositive, Moved}
use Rattle.geometry.proofs.Definitions.{one_at, Goes, Place, zeros}
use Rattle.geometry.proofs.Grow.{zero-stays}
use Rattle.geometry.proofs.Orders.{zero_or}
use Rattle.geometry.proofs.Runs.{next-back, run_by, positive-stop, search_back_lem, moved}
use Rattle.geometry.proofs.Tight.{round, block-next, step_up}

one-at_it : (b : ℕ) → one_at b b ≡ 1
one-at_it b = rw (eq-eqb b b refl)

one_elsewhere : (b k : ℕ) → (k ≡ b → ⊥) → one_at b k ≡ 0
one_elsewhere b k n = rw (ne_eqb k b n)

pub changes_of : {R : Blocks} {h b : ℕ} {c d : ℕ → ℕ} → Moved R h b c d → (k : ℕ)
    → coord R d k + one_at b k ≡ coord R c k + one_at h k
changes_of {h} {b} m k =
    ⊎_elim (λ (x : k ≡ h). rw x (omega (arith, m.gains, one-at_it h, one_elsewhere b h (λ e. m.apart (sym e)))))
    (λ (x : k ≡ h → ⊥). ⊎_elim (λ (y : k ≡ b). rw y (omega (arith, m.gives, one-at_it b, one_elsewhere h b m.apart)))
    (λ y. omega (arith, m.rest k x y, one_elsewhere b k y, one_elsewhere h k x)) (same_or k b))
    (same_or k h)

-- from a chain to a place
module _ {R : Blocks} {T : ℕ → Bool} {t : ℕ} {p : ℕ → ℕ → ℕ} {o : ℕ → ℕ} (K : Chain R T t p o) where
  pub zeros-yes : (k : ℕ) → zeros R T (p 0) k ≡ true → (T k ≡ false) × (coord R (p 0) k ≡ 0)
  unfolding zeros
  zeros-yes k e = go (T k) refl e
    where
      go : (b : Bool) → T k ≡ b → cond b false (eqb (coord R (p 0) k) 0) ≡ true → (T k ≡ false) × (coord R (p 0) k ≡ 0)
      go true w e = absurd_bool (sym e)
      go false w e = (w, eqb-true _ 0 e)

  pub zeros_in : (k : ℕ) → T k ≡ true → zeros R T (p 0) k ≡ false
  unfolding zeros
  zeros_in k e = rw e

  pub zeros-no : (k : ℕ) → zeros R T (p 0) k ≡ false → T k ≡ false → p 0 (R.next k) < R.start k
  unfolding zeros
  zeros-no k e f =
      let w : eqb (coord R (p 0) k) 0 ≡ false = rw f at e in
      let n : (coord R (p 0) k ≡ 0 → ⊥) = eqb-false _ 0 w in
      omega (arith, n, K.tight 0 (omega arith) k f)

  pub zeros-out : (k : ℕ) → T k ≡ false → p 0 (R.next k) < R.start k → zeros R T (p 0) k ≡ false
  unfolding zeros
  zeros-out k f l = rw f (ne_eqb (coord R (p 0) k) 0 (λ e. omega arith))

  -- after its own step an index of T has a positive coordinate
  raise_positive : (j : ℕ) → j < t → 0 < coord R (p (suc j)) (o j)
  raise_positive j l = omega (arith, Chains.next-unchanged K j l, (K.step j l).raised, K.grid j (omega arith) (o j))

  goes : (j : ℕ) → j < t → (n : ℕ) × Goes R (zeros R T (p 0)) (o j) (p j) (p (suc j)) n
  goes j l = (
    n,
    record {
      some = w.1;
      skipped = λ i a b. not-false (zeros R T (p 0) (back R.previous i h)) (w.3 i a b);
      stops = ends;
      changes = changes_of mv;
    },
  )
    where
      h : ℕ
      h = o j

      f : (f : ℕ) × (R.block f ≡ R.block h) × (T f ≡ false) × (p 0 (R.next f) < R.start f)
      f = K.free h

      w : (n : ℕ) × (0 < n) × (not (zeros R T (p 0) (back R.previous n h)) ≡ true)
          × ((i : ℕ) → 0 < i → i < n → not (zeros R T (p 0) (back R.previous i h)) ≡ false)
      w = search_back_lem R (λ k. not (zeros R T (p 0) k)) h f.0 f.1 (rw (zeros-out f.0 f.2 f.3) refl)
          (λ e. absurd_bool (sym (K.order.within j l) ∙ ap T e ∙ f.2))

      n : ℕ
      n = w.0

      ends : zeros R T (p 0) (back R.previous n h) ≡ false
      ends = not-true _ w.2

      same : p (suc j) f.0 ≡ p j f.0
      same = Chains.free-zero K f.0 f.2 f.3 (suc j) l ∙ sym (Chains.free-zero K f.0 f.2 f.3 j (omega arith))

      skip : (i : ℕ) → 0 < i → i < n → (T (back R.previous i h) ≡ false) × (coord R (p j) (back R.previous i h) ≡ 0)
      skip i a b = let z = zeros-yes _ (not-false (zeros R T (p 0) (back R.previous i h)) (w.3 i a b)) in
          (z.0, zero-stays K _ z.0 z.1 j (omega arith))

      run : (i : ℕ) → i < n → p (suc j) (back R.previous i h) ≡ suc (p j (back R.previous i h))
      run = run_by R (K.tight j (omega arith)) (K.tight (suc j) l) (K.step j l) f.0 f.1 same n n skip

      len : BackToPositive R T (p j) h n
      len = record {
        some = w.1;
        skipped = skip;
        stops = ⊎_elim
            (λ e. inl e)
            (λ e. inr (let z : suc (n - 1) ≡ n = omega (arith, w.1) in
            let x : R.next (back R.previous n h) ≡ back R.previous (n - 1) h =
            ap (λ (i : ℕ). R.next (back R.previous i h)) (sym z) ∙ next-back R (n - 1) h in
            omega (
              arith,
              zeros-no _ ends e,
              run (n - 1) (omega (arith, w.1)),
              ap (p j) x,
              ap (p (suc j)) x,
              ap (p 0) x,
              Chains.one_more_at_most K (suc j) l (back R.previous (n - 1) h),
              Chains.rise K 0 j (omega arith) (omega arith) (back R.previous (n - 1) h),
            )))
            (true_or_false (T (back R.previous n h)));
      }

      mv : Moved R h (back R.previous n h) (p j) (p (suc j))
      mv = moved R (K.tight j (omega arith)) (K.tight (suc j) l) (K.has_zeros j (omega arith)) (K.has_zeros (suc j) l)
          (K.step j l) n w.1 run
          (positive-stop R (K.tight j (omega arith)) (K.tight (suc j) l) (K.step j l) f.0 f.1 same n len)
          (K.grid j (omega arith)) (K.grid (suc j) l)

  pub chain-place : Place R T (zeros R T (p 0)) t p o
  chain-place = record {
    grid = K.grid;
    has_zeros = K.has_zeros;
    unused = λ k e. let z = zeros-yes k e in zero-stays K k z.0 z.1;
    used = λ k e. ⊎_elim
        (λ x. let a = K.order.all k x in (suc a.0, a.1, rw a.2 at (raise_positive a.0 a.1)))
        (λ x. (0, omega arith, omega (arith, zeros-no k e x))) (true_or_false (T k));
    moved = λ k e. (zeros_in k e, (t, omega arith, omega (arith, Chains.last-one_more K k e)));
    unmoved = λ k x e. Chains.free-zero K k x (zeros-no k e x);
    order = K.order;
    step = goes;
    free = λ h. let f = K.free h in (f.0, f.1, f.2, zeros-out f.0 f.2 f.3);
  }

-- from a place to a chain
module _ {R : Blocks} {T U : ℕ → Bool} {t : ℕ} {p : ℕ → ℕ → ℕ} {o : ℕ → ℕ} (P : Place R T U t p o) where
  place_tight : (j : ℕ) → j ≤ t → Tight R T (p j)
  place_tight j l k e = ⊎_elim
      (λ x. omega (arith, P.unused k x j l, P.grid j l k))
      (λ x. omega (arith, P.unmoved k e x j l, P.grid j l k))
      (true_or_false (U k))

  -- the difference of two coefficients moves on as the coordinates do
  module _ (j : ℕ) (l : j < t) {n : ℕ} (g : Goes R U (o j) (p j) (p (suc j)) n) where
    balance : (k : ℕ)
        → p (suc j) k + p j (R.next k) + one_at (back R.previous n (o j)) k
        ≡ p j k + p (suc j) (R.next k) + one_at (o j) k
    balance k = omega (arith, g.changes k, P.grid j (omega arith) k, P.grid (suc j) l k)

    run_index : (i : ℕ) → i < n → U (back R.previous i (o j)) ≡ false → i ≡ 0
    run_index i m e = ⊎_elim
        (λ (x : i ≡ 0). x)
        (λ x. absurd_bool (sym (g.skipped i (let y : (i ≡ 0 → ⊥) = x in omega arith) m) ∙ e))
        (same_or i 0)

    own_used : U (o j) ≡ false
    own_used = (P.moved (o j) (P.order.within j l)).0

    free_not_on_run : (i : ℕ) → i < n → (f : ℕ) → T f ≡ false → U f ≡ false → back R.previous i (o j) ≡ f → ⊥
    free_not_on_run i m f x y e =
        let z : i ≡ 0 = run_index i m (ap U e ∙ y) in
        absurd_bool (sym (P.order.within j l) ∙ ap T (ap (λ (a : ℕ). back R.previous a (o j)) (sym z) ∙ e) ∙ x)

    -- going back from h the end comes before h again, since a free index does
    end-apart : back R.previous n (o j) ≡ o j → ⊥
    end-apart e = all-run (P.free (o j))
      where
        -- if the end were h, the whole block would be on the run
        cover : (k : ℕ) → R.block (o j) ≡ R.block k → (i : ℕ) × (i < n) × (back R.previous i (o j) ≡ k)
        cover k = round R (λ k. (i : ℕ) × (i < n) × (back R.previous i (o j) ≡ k)) (o j) (0, g.some, refl)
            (λ k w. let x : back R.previous (suc w.0) (o j) ≡ k = ap R.previous w.2 ∙ R.previous-next k in
            ⊎_elim (λ (y : suc w.0 < n). (suc w.0, y, x))
            (λ (y : n ≤ suc w.0). let z : suc w.0 ≡ n = omega (arith, w.1) in
            (0, g.some, sym e ∙ ap (λ (a : ℕ). back R.previous a (o j)) (sym z) ∙ x)) (before_or_not (suc w.0) n)) k

        all-run : (f : ℕ) × (R.block f ≡ R.block (o j)) × (T f ≡ false) × (U f ≡ false) → ⊥
        all-run f = let w = cover f.0 (sym f.1) in free_not_on_run w.0 w.1 f.0 f.2 f.3 w.2

    -- an index that the step leaves as it was, off the run, and one that it raises, on it
    abbrev Unchanged : ℕ → Type 0
    Unchanged k = (p (suc j) k ≡ p j k) × (OnRun R (o j) n k → ⊥)

    abbrev Raised : ℕ → Type 0
    Raised k = (p (suc j) k ≡ suc (p j k)) × OnRun R (o j) n k

    abbrev Either : ℕ → Type 0
    Either k = Unchanged k ⊎ Raised k

    run_step : (k : ℕ) → Either (R.next k) → Either k
    run_step k ih =
        ⊎_elim (λ (x : k ≡ o j). ⊎_elim
        (λ (w : Unchanged (R.next k)). inr (
          omega (arith, w.0, balance k, hit k x, miss k x),
          (0, g.some, sym x),
        )) (λ (w : Raised (R.next k)). absurd (wrap k x w.1)) ih)
        (λ (x : k ≡ o j → ⊥). ⊎_elim (λ y. ⊎_elim
        (λ (w : Unchanged (R.next k)). absurd (w.1 (before k y)))
        (λ (w : Raised (R.next k)). inl (
          omega (
            arith,
            w.0,
            balance k,
            one_elsewhere (o j) k x,
            end-one k y,
          ),
          off k y,
        )) ih)
        (λ y. ⊎_elim
        (λ (w : Unchanged (R.next k)). inl (
          omega (
            arith,
            w.0,
            balance k,
            one_elsewhere (o j) k x,
            one_elsewhere _ k y,
          ),
          λ r. w.1 (down k x r),
        ))
        (λ (w : Raised (R.next k)). inr (
          omega (
            arith,
            w.0,
            balance k,
            one_elsewhere (o j) k x,
            one_elsewhere _ k y,
          ),
          up k y w.1,
        )) ih) (same_or k (back R.previous n (o j)))) (same_or k (o j))
      where
        hit : (k : ℕ) → k ≡ o j → one_at (o j) k ≡ 1
        hit k x = rw x (one-at_it (o j))

        miss : (k : ℕ) → k ≡ o j → one_at (back R.previous n (o j)) k ≡ 0
        miss k x = one_elsewhere _ k (λ e. end-apart (sym e ∙ x))

        end-one : (k : ℕ) → k ≡ back R.previous n (o j) → one_at (back R.previous n (o j)) k ≡ 1
        end-one k y = rw y (one-at_it (back R.previous n (o j)))

        -- the index after h is not on the run
        wrap : (k : ℕ) → k ≡ o j → OnRun R (o j) n (R.next k) → ⊥
        wrap k x r =
            let e : back R.previous (suc r.0) (o j) ≡ k = ap R.previous r.2 ∙ R.previous-next k in
            ⊎_elim
            (λ (y : suc r.0 < n). omega (arith, run_index (suc r.0) y (ap U (e ∙ x) ∙ own_used)))
            (λ (y : n ≤ suc r.0).
            let z : suc r.0 ≡ n = omega (arith, r.1) in
            end-apart (ap (λ (a : ℕ). back R.previous a (o j)) (sym z) ∙ e ∙ x))
            (before_or_not (suc r.0) n)

        before : (k : ℕ) → k ≡ back R.previous n (o j) → OnRun R (o j) n (R.next k)
        before k y =
            let z : suc (n - 1) ≡ n = omega (arith, g.some) in (
              n - 1,
              omega (arith, g.some),
              sym (next-back R (n - 1) (o j)) ∙ ap (λ (a : ℕ). R.next (back R.previous a (o j))) z ∙ ap R.next (sym y),
            )

        off : (k : ℕ) → k ≡ back R.previous n (o j) → OnRun R (o j) n k → ⊥
        off k y r =
            let z : r.0 ≡ 0 = run_index r.0 r.1 (ap U (r.2 ∙ y) ∙ g.stops) in
            end-apart (sym y ∙ sym r.2 ∙ ap (λ (a : ℕ). back R.previous a (o j)) z)

        down : (k : ℕ) → (k ≡ o j → ⊥) → OnRun R (o j) n k → OnRun R (o j) n (R.next k)
        down k x r =
            ⊎_elim (λ (z : r.0 ≡ 0). absurd (x (sym r.2 ∙ ap (λ (a : ℕ). back R.previous a (o j)) z)))
            (λ w. (
              w.0,
              omega (arith, w.1, r.1),
              sym (next-back R w.0 (o j)) ∙ ap (λ (a : ℕ). R.next (back R.previous a (o j))) (sym w.1)
                  ∙ ap R.next r.2,
            )) (zero_or r.0)

        up : (k : ℕ) → (k ≡ back R.previous n (o j) → ⊥) → OnRun R (o j) n (R.next k) → OnRun R (o j) n k
        up k y r =
            let e : back R.previous (suc r.0) (o j) ≡ k = ap R.previous r.2 ∙ R.previous-next k in
            ⊎_elim
            (λ (x : suc r.0 < n). (suc r.0, x, e))
            (λ (x : n ≤ suc r.0).
            let z : suc r.0 ≡ n = omega (arith, r.1) in
            absurd (y (sym e ∙ ap (λ (a : ℕ). back R.previous a (o j)) z)))
            (before_or_not (suc r.0) n)

    in_block : (k : ℕ) → R.block k ≡ R.block (o j) → Either k
    in_block k e =
        let f = P.free (o j) in
        round R Either f.0
        (inl (
          P.unmoved f.0 f.2 f.3 (suc j) l ∙ sym (P.unmoved f.0 f.2 f.3 j (omega arith)),
          λ r. free_not_on_run r.0 r.1 f.0 f.2 f.3 r.2,
        ))
        run_step k (f.1 ∙ sym e)

    other_block : (k : ℕ) → (R.block k ≡ R.block (o j) → ⊥)
        → p (suc j) k + p j (R.next k) ≡ p j k + p (suc j) (R.next k)
    other_block k x = omega (
      arith,
      balance k,
      one_elsewhere (o j) k (λ e. x (ap R.block e)),
      one_elsewhere _ k (λ e. x (ap R.block e ∙ block_back R n (o j))),
    )

    out-block : (k : ℕ) → (R.block k ≡ R.block (o j) → ⊥) → p (suc j) k ≡ p j k
    out-block k x =
        let a = P.has_zeros j (omega arith) k in
        let b = P.has_zeros (suc j) l k in
        omega (
          arith,
          round R (λ k. (R.block k ≡ R.block (o j) → ⊥) → p j k ≤ p (suc j) k) a.0
              (λ y. omega (arith, a.2))
              (λ k ih y. omega (arith, ih (λ e. y (sym (block-next R k) ∙ e)), other_block k y)) k a.1 x,
          round R (λ k. (R.block k ≡ R.block (o j) → ⊥) → p (suc j) k ≤ p j k) b.0
              (λ y. omega (arith, b.2))
              (λ k ih y. omega (arith, ih (λ e. y (sym (block-next R k) ∙ e)), other_block k y)) k b.1 x,
        )

    place_step : Step T (o j) (p j) (p (suc j))
    place_step = record {
      raised = ⊎_elim
          (λ (w : Unchanged (o j)). absurd (w.1 (0, g.some, refl)))
          (λ (w : Raised (o j)). w.0)
          (in_block (o j) refl);
      unchanged = λ k e x. ⊎_elim
          (λ y. ⊎_elim (λ (w : Unchanged k). w.0)
          (λ (w : Raised k). let r = w.1 in
          let z : r.0 ≡ 0 = run_index r.0 r.1 (ap U r.2 ∙ (P.moved k e).0) in
          absurd (x (sym r.2 ∙ ap (λ (a : ℕ). back R.previous a (o j)) z))) (in_block k y))
          (λ y. out-block k y) (same_or (R.block k) (R.block (o j)));
    }

  steps : (j : ℕ) → j < t → Step T (o j) (p j) (p (suc j))
  steps j l = let w = P.step j l in place_step j l w.1

  above-first : (j : ℕ) → j ≤ t → (k : ℕ) → p 0 k ≤ p j k
  above-first zero l k = omega arith
  above-first (suc j) l k =
      omega (
        arith,
        above-first j (omega arith) k,
        step_up R T (place_tight j (omega arith)) (place_tight (suc j) l) (P.has_zeros j (omega arith)) (steps j l) k,
      )

  pub place-chain : Chain R T t p o
  place-chain = record {
    tight = place_tight;
    grid = P.grid;
    has_zeros = P.has_zeros;
    step = steps;
    order = P.order;
    free = λ h. let f = P.free h in let u = P.used f.0 f.3 in
        (f.0, f.1, f.2, omega (arith, u.2, P.unmoved f.0 f.2 f.3 u.0 u.1, above-first u.0 u.1 (R.next f.0)));
  }
