-- Through every facet there is a way: a chain beyond it, or the facet is a chain, or a block is filled. In order: the
-- first point leaves, an inner one, the last; a facet that drops an index; all facets. Assumes nothing.
use mathlib.Core.Bool.{Bool, true, cond}
use mathlib.Core.Logic.{◌⊎◌, inl, inr, ⊎_elim}
use mathlib.Core.Path.{◌≡◌, refl, sym, ap, ◌∙◌}
use Prim.Native.Nat.{ℕ, zero, suc, ◌+◌, ◌-◌, ◌≤◌, ◌<◌}
use borrow.Author.Tests.{eq-eqb, ne_eqb, lt-ltb, le-ltb}
use lib.Dec.{eqb, ltb}
use native.Mathlib.Omega.{arith}
use Rattle.geometry.proofs.Chains
use Rattle.combinatorics.proofs.Basics.{same_or, before_or_not}
use Rattle.geometry.proofs.Search.{free_or, other-block_le, raise_at, raise_elsewhere, lower_at, lower_elsewhere}
use Rattle.geometry.proofs.Search.{raise_step, lower_step}
use Rattle.geometry.proofs.Definitions.{back, Blocks, Tight, Grid, HasZeros, Free, Step, Chain, Less, Omit}
use Rattle.geometry.proofs.Definitions.{Rotate, Swap, tight_of, raise, lower, less, omit, Beside, Dropped, Filled}
use Rattle.geometry.proofs.Definitions.{Next, Drops, Fills}
use Rattle.geometry.proofs.Neighbours.{first_next, inner_next, last-next, second, drop}
use Rattle.geometry.proofs.Orders.{lt_or}
use Rattle.geometry.proofs.Tight.{block-next, step_up, lifted_on, lifted_tight, lifted_le, lifted_zeros}

less_is : (T : ℕ → Bool) (b : ℕ) → T b ≡ true → Less T (less T b) b
unfolding less
less_is T b e = record { has = e; out = rw (eq-eqb b b refl); rest = λ k n. rw (ne_eqb k b n) }

pub omit_is : {A : Type 0} (n i : ℕ) (p : ℕ → A) → Omit n i p (omit i p)
unfolding omit
omit_is n i p = record { lower = λ j l m. rw (lt-ltb j i m); upper = λ j l m. rw (le-ltb j i m) }

module _ {R : Blocks} {T : ℕ → Bool} {s : ℕ} {p : ℕ → ℕ → ℕ} {o : ℕ → ℕ} (K : Chain R T (suc s) p o) where
  -- the first point leaves
  pub first_or_lem : Free R T (p 1) ⊎ Filled R T s p 0 (o 0)
  first_or_lem = ⊎_elim
      (λ w. inl
      (λ h. ⊎_elim
      (λ e. (w.0, w.1 ∙ sym e, w.2, w.3))
      (λ n.
      let f = K.free h in (
        f.0,
        f.1,
        f.2,
        omega (
          arith,
          f.3,
          other-block_le R (K.tight 0 (omega arith)) (K.tight 1 (omega arith)) (K.has_zeros 1 (omega arith))
              (K.step 0 (omega arith)) (R.next f.0)
              (λ e. n (sym f.1 ∙ sym (block-next R f.0) ∙ e)),
        ),
      ))
      (same_or (R.block h) (R.block (o 0)))))
      (λ n. inr
      (λ k b e j y x. omega (
        arith,
        n k b e,
        Chains.rise K 1 j (let w : (j ≡ 0 → ⊥) = x in omega arith) y (R.next k),
        K.tight j y k e,
      )))
      (free_or R T (p 1) (o 0))

  first_small : (k : ℕ) → T k ≡ true → raise (o 0) (p (suc s)) k ≤ p 1 k + 1
  first_small k e = ⊎_elim
      (λ (q : k ≡ o 0). rw q (omega (
        arith,
        raise_at (o 0) (p (suc s)),
        Chains.after_raise K 0 (suc s) (omega arith) (omega arith),
        (K.step 0 (omega arith)).raised,
      )))
      (λ n. omega (
        arith,
        raise_elsewhere (o 0) (p (suc s)) k n,
        Chains.last-one_more K k e,
        (K.step 0 (omega arith)).unchanged k e n,
      ))
      (same_or k (o 0))

  -- the new last point, its chain and its order
  pub first_z : ℕ → ℕ
  first_z = tight_of R T (raise (o 0) (p (suc s)))

  pub first_p : ℕ → ℕ → ℕ
  first_p j = cond (ltb j (suc s)) (p (suc j)) first_z

  pub first-o : ℕ → ℕ
  first-o j = cond (ltb j s) (o (suc j)) (o 0)

  pub first-later : (j : ℕ) → j < suc s → first_p j ≡ p (suc j)
  unfolding first_p
  first-later j l = rw (lt-ltb j (suc s) l)

  pub first_rotate : Rotate s o first-o
  unfolding first-o
  first_rotate = record { back = λ j l. rw (lt-ltb j s l); last = rw (le-ltb s s (omega arith)) }

  pub first-beside : Free R T (p 1) → Beside R T s p 0 first_p first-o (suc s)
  unfolding first_p first-o first_z
  first-beside fr =
      let on = lifted_on R _ (K.tight 1 (omega arith)) first_small fr in
      let st : Step T (o 0) (p (suc s)) first_z = raise_step (o 0) (p (suc s)) (K.order.within 0 (omega arith)) on in
      let top : first_p (suc s) ≡ first_z = rw (le-ltb (suc s) (suc s) (omega arith)) in
      record {
        chain = first_next K first-later first_rotate
            (rw top (lifted_tight R _ (K.tight 1 (omega arith)) first_small fr))
            (rw top (lifted_zeros R _ (K.tight 1 (omega arith)) first_small fr)) (rw top st) fr;
        bound = omega arith;
        facet = λ j. p (suc j);
        omits_here = record { lower = λ j l m. absurd (omega arith); upper = λ j l m. refl };
        omits_there = record { lower = λ j l m. sym (first-later j l); upper = λ j l m. absurd (omega arith) };
        new = λ e. omega (
          arith,
          ap (λ (f : ℕ → ℕ). f (o 0)) (sym top ∙ e),
          st.raised,
          Chains.after_raise K 0 (suc s) (omega arith) (omega arith),
        );
      }

  -- an inner point leaves
  inner_small : (i : ℕ) → i < s → (k : ℕ) → T k ≡ true → raise (o (suc i)) (p i) k ≤ p 0 k + 1
  inner_small i l k e = ⊎_elim
      (λ (q : k ≡ o (suc i)).
      rw q (omega (arith, raise_at (o (suc i)) (p i), Chains.before_raise K (suc i) i (omega arith) (omega arith))))
      (λ n. omega (arith, raise_elsewhere (o (suc i)) (p i) k n, Chains.one_more_at_most K i (omega arith) k))
      (same_or k (o (suc i)))

  pub inner_z : ℕ → ℕ → ℕ
  inner_z i = tight_of R T (raise (o (suc i)) (p i))

  pub inner_p : ℕ → ℕ → ℕ → ℕ
  inner_p i j = cond (eqb j (suc i)) (inner_z i) (p j)

  pub inner_o : ℕ → ℕ → ℕ
  inner_o i j = cond (eqb j i) (o (suc i)) (cond (eqb j (suc i)) (o i) (o j))

  pub inner_tight : (i : ℕ) → i < s → Tight R T (inner_z i)
  unfolding inner_z
  inner_tight i l = lifted_tight R _ (K.tight 0 (omega arith)) (inner_small i l) K.free

  pub inner_zeros : (i : ℕ) → i < s → HasZeros R (inner_z i)
  unfolding inner_z
  inner_zeros i l = lifted_zeros R _ (K.tight 0 (omega arith)) (inner_small i l) K.free

  pub inner_le : (i : ℕ) → i < s → (k : ℕ) → inner_z i k ≤ p 0 k + 1
  unfolding inner_z
  inner_le i l = lifted_le R _ (K.tight 0 (omega arith)) (inner_small i l) K.free

  pub inner_step : (i : ℕ) → i < s → Step T (o (suc i)) (p i) (inner_z i)
  unfolding inner_z
  inner_step i l =
      raise_step (o (suc i)) (p i) (K.order.within (suc i) (omega arith))
      (lifted_on R _ (K.tight 0 (omega arith)) (inner_small i l) K.free)

  pub inner_same : (i j : ℕ) → (j ≡ suc i → ⊥) → inner_p i j ≡ p j
  unfolding inner_p
  inner_same i j n = rw (ne_eqb j (suc i) n)

  pub inner_here : (i : ℕ) → inner_p i (suc i) ≡ inner_z i
  unfolding inner_p
  inner_here i = rw (eq-eqb (suc i) (suc i) refl)

  pub inner_swap : (i : ℕ) → Swap i o (inner_o i)
  unfolding inner_o
  inner_swap i = record {
    here = rw (eq-eqb i i refl);
    next = rw (ne_eqb (suc i) i (λ e. omega arith), eq-eqb (suc i) (suc i) refl);
    rest = λ j a b. rw (ne_eqb j i a, ne_eqb j (suc i) b);
  }

  pub inner_beside : (i : ℕ) → i < s → inner_z i (R.next (o i)) ≤ R.start (o i) + p i (o i)
      → Beside R T s p (suc i) (inner_p i) (inner_o i) (suc i)
  inner_beside i l g = record {
    chain = inner_next K (omega arith) (inner_same i) (inner_swap i) (rw (inner_here i) (inner_tight i l))
        (rw (inner_here i) (inner_zeros i l)) (rw (inner_here i) (inner_step i l)) (rw (inner_here i) g);
    bound = omega arith;
    facet = omit (suc i) p;
    omits_here = omit_is (suc s) (suc i) p;
    omits_there = record {
      lower = λ j a b. (omit_is (suc s) (suc i) p).lower j a b ∙ sym (inner_same i j (λ e. omega arith));
      upper = λ j a b. (omit_is (suc s) (suc i) p).upper j a b ∙ sym (inner_same i (suc j) (λ e. omega arith));
    };
    new = λ e. omega (
      arith,
      ap (λ (f : ℕ → ℕ). f (o i)) (sym (inner_here i) ∙ e),
      (K.step i (omega arith)).raised,
      (inner_step i l).unchanged (o i) (K.order.within i (omega arith))
          (λ w. omega (arith, K.order.once i (suc i) (omega arith) (omega arith) w)),
    );
  }

  -- or the facet is tight at the first of the two indices
  pub inner_tight_at : (i : ℕ) → i < s → R.start (o i) + p i (o i) < inner_z i (R.next (o i)) → (j : ℕ) → j ≤ suc s
      → (j ≡ suc i → ⊥)
      → p j (o i) ≡ p j (R.next (o i)) - R.start (o i)
  inner_tight_at i l h j m n =
      ⊎_elim (λ (x : j < suc i). omega (
        arith,
        top,
        bot,
        p_i,
        K.grid i (omega arith) (o i),
        Chains.before_raise K i j (omega arith) (omega arith),
        Chains.rise K 0 j (omega arith) m (R.next (o i)),
        Chains.rise K j i (omega arith) (omega arith) (R.next (o i)),
      ))
      (λ (x : suc i ≤ j). let y : suc (suc i) ≤ j = omega (arith, n) in
      omega (
        arith,
        top,
        K.grid j m (o i),
        Chains.after_raise K i j (omega arith) m,
        p_i,
        Chains.rise K (suc (suc i)) j y m (R.next (o i)),
      )) (before_or_not j (suc i))
    where
      p_i : p i (o i) ≡ p 0 (o i)
      p_i = Chains.before_raise K i i (omega arith) (omega arith)

      up : inner_z i (R.next (o i)) ≤ p (suc (suc i)) (R.next (o i))
      up = rw (inner_here i)
          at (step_up R T (rw (inner_here i) (inner_tight i l)) (K.tight (suc (suc i)) (omega arith))
          (rw (inner_here i) (inner_zeros i l))
          (second K (omega arith) (inner_same i) (inner_swap i) (rw (inner_here i) (inner_step i l))) (R.next (o i)))

      top : p (suc (suc i)) (R.next (o i)) ≡ R.start (o i) + suc (p 0 (o i))
      top = omega (
        arith,
        up,
        h,
        p_i,
        K.grid (suc (suc i)) (omega arith) (o i),
        Chains.after_raise K i (suc (suc i)) (omega arith) (omega arith),
      )

      bot : R.start (o i) + p 0 (o i) ≤ p 0 (R.next (o i))
      bot = omega (arith, top, Chains.one_more_at_most K (suc (suc i)) (omega arith) (R.next (o i)))

  -- the last point leaves
  pub last_z : ℕ → ℕ
  last_z = tight_of R T (lower (o s) (p 0))

  pub last_p : ℕ → ℕ → ℕ
  last_p zero = last_z
  last_p (suc j) = p j

  pub last-o : ℕ → ℕ
  last-o zero = o s
  last-o (suc j) = o j

  pub last-first : last_p 0 ≡ last_z
  unfolding last_p
  last-first = refl

  pub last-later : (j : ℕ) → last_p (suc j) ≡ p j
  unfolding last_p
  last-later j = refl

  pub last_rotate : Rotate s last-o o
  unfolding last-o
  last_rotate = record { back = λ j l. refl; last = refl }

  last-small : (k : ℕ) → T k ≡ true → lower (o s) (p 0) k ≤ p 0 k + 1
  last-small k e = ⊎_elim
      (λ (q : k ≡ o s). rw q (omega (arith, lower_at (o s) (p 0))))
      (λ n. omega (arith, lower_elsewhere (o s) (p 0) k n))
      (same_or k (o s))

  pub last_tight : Tight R T last_z
  unfolding last_z
  last_tight = lifted_tight R _ (K.tight 0 (omega arith)) last-small K.free

  pub last-zeros : HasZeros R last_z
  unfolding last_z
  last-zeros = lifted_zeros R _ (K.tight 0 (omega arith)) last-small K.free

  pub last_step : 0 < p 0 (o s) → Step T (o s) last_z (p 0)
  unfolding last_z
  last_step a = lower_step (o s) (p 0) (K.order.within s (omega arith)) a
      (lifted_on R _ (K.tight 0 (omega arith)) last-small K.free)

  pub last-beside : 0 < p 0 (o s) → p 0 (R.next (o s)) < R.start (o s) + p 0 (o s)
      → Beside R T s p (suc s) last_p last-o 0
  unfolding last_p last-o last_z
  last-beside a b =
      let st : Step T (o s) last_z (p 0) = lower_step (o s) (p 0) (K.order.within s (omega arith)) a
      (lifted_on R _ (K.tight 0 (omega arith)) last-small K.free) in
      record {
        chain = last-next K last_p (λ j l. refl) last_rotate
            (lifted_tight R _ (K.tight 0 (omega arith)) last-small K.free)
            (lifted_zeros R _ (K.tight 0 (omega arith)) last-small K.free) st (omega (arith, st.raised));
        bound = omega arith;
        facet = p;
        omits_here = record { lower = λ j l m. refl; upper = λ j l m. absurd (omega arith) };
        omits_there = record { lower = λ j l m. absurd (omega arith); upper = λ j l m. refl };
        new = λ e. omega (
          arith,
          ap (λ (f : ℕ → ℕ). f (o s)) e,
          st.raised,
          Chains.after_raise K s (suc s) (omega arith) (omega arith),
        );
      }

  pub last-grid : 0 < p 0 (o s) → p 0 (R.next (o s)) < R.start (o s) + p 0 (o s) → Grid R last_z
  unfolding last_p
  last-grid a b = (last-beside a b).chain.grid 0 (omega arith)

  pub last_tight_at : (p 0 (o s) ≡ 0) ⊎ (R.start (o s) + p 0 (o s) ≤ p 0 (R.next (o s))) → (j : ℕ) → j ≤ s
      → p j (o s) ≡ p j (R.next (o s)) - R.start (o s)
  last_tight_at w j l =
      let e = Chains.before_raise K s j (omega arith) l in
      let g = K.grid j (omega arith) (o s) in
      ⊎_elim (λ (z : p 0 (o s) ≡ 0). omega (arith, e, g))
      (λ z. omega (arith, e, g, Chains.rise K 0 j (omega arith) (omega arith) (R.next (o s)))) w

  -- less the point after the step i, where all of it is tight at o i
  pub dropped : (i : ℕ) → i ≤ s
      → ((j : ℕ) → j ≤ suc s → (j ≡ suc i → ⊥) → p j (o i) ≡ p j (R.next (o i)) - R.start (o i))
      → Dropped R T s p (suc i) (o i) (less T (o i)) (omit i o)
  dropped i l h = record {
    small = small;
    facet = omit (suc i) p;
    omits_here = cut;
    chain = drop K (omega arith) cut (omit_is s i o) small
        (λ j m. ⊎_elim
        (λ (x : j < suc i). rw (cut.lower j (omega arith) x) (h j (omega arith) (λ e. omega arith)))
        (λ (x : suc i ≤ j). rw (cut.upper j (omega arith) x) (h (suc j) (omega arith) (λ e. omega arith)))
        (before_or_not j (suc i)));
  }
    where
      small : Less T (less T (o i)) (o i)
      small = less_is T (o i) (K.order.within i (omega arith))

      cut : Omit (suc s) (suc i) p (omit (suc i) p)
      cut = omit_is (suc s) (suc i) p

  first_way : Next R T s p 0 ⊎ (Drops R T s p 0 ⊎ Fills R T s p 0)
  first_way = ⊎_elim (λ f. inl (first_p, first-o, suc s, first-beside f)) (λ f. inr (inr (o 0, f))) first_or_lem

  inner_way : (i : ℕ) → i < s → Next R T s p (suc i) ⊎ (Drops R T s p (suc i) ⊎ Fills R T s p (suc i))
  inner_way i l =
      ⊎_elim (λ h. inr (inl (o i, less T (o i), omit i o, dropped i (omega arith) (inner_tight_at i l h))))
      (λ h. inl (inner_p i, inner_o i, suc i, inner_beside i l h))
      (before_or_not (R.start (o i) + p i (o i)) (inner_z i (R.next (o i))))

  last_way : Next R T s p (suc s) ⊎ (Drops R T s p (suc s) ⊎ Fills R T s p (suc s))
  last_way = ⊎_elim
      (λ z. inr (inl (
        o s,
        less T (o s),
        omit s o,
        dropped s (omega arith) (λ j l n. last_tight_at (inl z) j (omega (arith, n))),
      )))
      (λ z. ⊎_elim
      (λ h. inl (last_p, last-o, 0, last-beside (omega (arith, z)) h))
      (λ h. inr (inl (
        o s,
        less T (o s),
        omit s o,
        dropped s (omega arith) (λ j l n. last_tight_at (inr h) j (omega (arith, n))),
      )))
      (before_or_not (p 0 (R.next (o s))) (R.start (o s) + p 0 (o s))))
      (same_or (p 0 (o s)) 0)

  -- through every facet one way at least
  pub way : (i : ℕ) → i ≤ suc s → Next R T s p i ⊎ (Drops R T s p i ⊎ Fills R T s p i)
  way zero l = first_way
  way (suc i) l = ⊎_elim (λ (x : i < s). inner_way i x) (λ (x : i ≡ s). rw x last_way) (lt_or i s l)
