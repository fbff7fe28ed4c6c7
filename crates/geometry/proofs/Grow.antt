-- A chain over T less g is all but one point of exactly one chain over T, unless the block of g is filled. In order:
-- after which point the coefficient at g rises; the larger chain; there is one only; there is none where the block is
-- filled. Assumes nothing.
use mathlib.Core.Bool.{Bool, true, false}
use mathlib.Core.Logic.{◌⊎◌, inl, inr, ⊎_elim}
use mathlib.Core.Path.{◌≡◌, refl, sym, ap, ◌∙◌}
use Prim.Native.Nat.{ℕ, zero, suc, ◌+◌, ◌-◌, ◌≤◌, ◌<◌}
use borrow.Author.Tests.{eq-eqb, ne_eqb, lt-ltb, le-ltb}
use native.Mathlib.Omega.{arith}
use Rattle.geometry.proofs.Chains
use Rattle.combinatorics.proofs.Basics.{same_or, before_or_not}
use Rattle.geometry.proofs.Search.{free_or, raise_at, raise_elsewhere, raise_step}
use Rattle.geometry.proofs.Definitions.{Blocks, coord, Tight, Grid, HasZeros, Free, Step, Chain, Less, Omit}
use Rattle.geometry.proofs.Definitions.{tight_of, raise, plus, insert, Grown}
use Rattle.geometry.proofs.Orders.{insert-order, less_in, less_out, less_back}
use Rattle.geometry.proofs.Tight.{bounded, step_up, grid-all, lifted_on, lifted_tight, lifted_zeros}
use Rattle.geometry.proofs.Unique.{equal_at, same_step, drops_at}

pub plus_is : (T : ℕ → Bool) (g : ℕ) → T g ≡ false → Less (plus T g) T g
unfolding plus
plus_is T g e = record { has = rw (eq-eqb g g refl); out = e; rest = λ k n. rw (ne_eqb k g n) }

pub insert-is : {A : Type 0} (n i : ℕ) (z : A) (q : ℕ → A) → Omit n i (insert i z q) q
unfolding insert
insert-is n i z q = record {
  lower = λ j l m. sym (rw (lt-ltb j i m));
  upper = λ j l m.
      let e : suc j - 1 ≡ j = omega arith in
      sym (rw (le-ltb (suc j) i (omega arith), ne_eqb (suc j) i (λ x. omega arith), e));
}

pub insert-here : {A : Type 0} (i : ℕ) (z : A) (q : ℕ → A) → insert i z q i ≡ z
unfolding insert
insert-here i z q = rw (le-ltb i i (omega arith), eq-eqb i i refl)

module _ {R : Blocks} {T : ℕ → Bool} {t : ℕ} {p : ℕ → ℕ → ℕ} {o : ℕ → ℕ} (K : Chain R T t p o) where
  -- a coordinate that is 0 at the first point, outside T, is 0 at all
  pub zero-stays : (k : ℕ) → T k ≡ false → coord R (p 0) k ≡ 0 → (j : ℕ) → j ≤ t → coord R (p j) k ≡ 0
  zero-stays k e z j l =
      omega (arith, z, K.tight 0 (omega arith) k e, K.tight j l k e, Chains.rise K 0 j (omega arith) l (R.next k))

  -- where the coefficient at g rises: after point a
  pub rises_after : (g : ℕ)
      → (a : ℕ) × (a ≤ t) × ((j : ℕ) → j ≤ a → p j g ≡ p 0 g) × ((j : ℕ) → a < j → j ≤ t → p j g ≡ suc (p 0 g))
  rises_after g = go t (omega arith) (λ j a b. absurd (omega arith))
    where
      go : (a : ℕ) → a ≤ t → ((j : ℕ) → a < j → j ≤ t → p j g ≡ suc (p 0 g))
          → (a : ℕ) × (a ≤ t) × ((j : ℕ) → j ≤ a → p j g ≡ p 0 g) × ((j : ℕ) → a < j → j ≤ t → p j g ≡ suc (p 0 g))
      go zero l h = (0, l, (λ j m. let e : j ≡ 0 = omega arith in rw e), h)
      go (suc a) l h =
          ⊎_elim
          (λ (e : p (suc a) g ≡ p 0 g). (
            suc a,
            l,
            (λ j m. omega (arith, e, Chains.rise K 0 j (omega arith) (omega arith) g, Chains.rise K j (suc a) m l g)),
            h,
          ))
          (λ (n : p (suc a) g ≡ p 0 g → ⊥).
          go a (omega arith) (λ j x y. ⊎_elim (λ (w : suc a < j). h j w y)
          (λ (w : j ≤ suc a). let e : j ≡ suc a = omega arith in
          rw e (omega (arith, n, Chains.one_more_at_most K (suc a) l g, Chains.rise K 0 (suc a) (omega arith) l g)))
          (before_or_not (suc a) j)))
          (same_or (p (suc a) g) (p 0 g))

module _ {R : Blocks} {T T' : ℕ → Bool} {g : ℕ} (L : Less T T' g) {s : ℕ} {q : ℕ → ℕ → ℕ} {u : ℕ → ℕ}
    (K : Chain R T' s q u) where
  -- an index is left for T, or g's block is filled
  pub room_or : Free R T (q 0)
      ⊎ ((k : ℕ) → R.block k ≡ R.block g → T k ≡ false → (j : ℕ) → j ≤ s → coord R (q j) k ≡ 0)
  room_or = ⊎_elim
      (λ w. inl
      (λ h. ⊎_elim
      (λ (e : R.block h ≡ R.block g). (w.0, w.1 ∙ sym e, w.2, w.3))
      (λ n. let f = K.free h in (f.0, f.1, sym (L.rest f.0 (λ e. n (sym f.1 ∙ ap R.block e))) ∙ f.2, f.3))
      (same_or (R.block h) (R.block g))))
      (λ n. inr
      (λ k b e. zero-stays K k (less_out L k e) (omega (arith, n k b e, K.tight 0 (omega arith) k (less_out L k e)))))
      (free_or R T (q 0) g)

  tight_larger : (j : ℕ) → j ≤ s → Tight R T (q j)
  tight_larger j l k e = K.tight j l k (less_out L k e)

  module _ (fr : Free R T (q 0)) (a : ℕ) (le : a ≤ s) (below : (j : ℕ) → j ≤ a → q j g ≡ q 0 g)
      (above : (j : ℕ) → a < j → j ≤ s → q j g ≡ suc (q 0 g))
      {z : ℕ → ℕ} (tz : Tight R T z) (nz : HasZeros R z) (sz : Step T g (q a) z) where
    new-on : (k : ℕ) → T' k ≡ true → z k ≡ q a k
    new-on k e = let w = less_in L k e in sz.unchanged k w.0 w.1

    new_le : (k : ℕ) → z k ≤ q 0 k + 1
    new_le = bounded R T 1 tz (tight_larger 0 (omega arith))
        (λ k e. ⊎_elim
        (λ (x : k ≡ g). rw x (omega (arith, sz.raised, below a (omega arith))))
        (λ (x : T' k ≡ true). omega (arith, new-on k x, Chains.one_more_at_most K a le k))
        (less_back L k e))
        nz

    -- the step from the new point
    grow_second : a < s → Step T (u a) z (q (suc a))
    grow_second l = record {
      raised = omega (arith, (K.step a l).raised, new-on (u a) (K.order.within a l));
      unchanged = λ k e n. ⊎_elim
          (λ (x : k ≡ g). rw x (omega (arith, above (suc a) (omega arith) l, sz.raised, below a (omega arith))))
          (λ (x : T' k ≡ true). (K.step a l).unchanged k x n ∙ sym (new-on k x))
          (less_back L k e);
    }

    grow-grid : Grid R z
    grow-grid = grid-all R T tz
        (λ k e. ⊎_elim
        (λ (x : k ≡ g).
        rw x (omega (arith, new_le (R.next g), K.grid 0 (omega arith) g, sz.raised, below a (omega arith))))
        (λ (x : T' k ≡ true). let w = K.order.all k x in late k x w.0 w.1 w.2)
        (less_back L k e))
      where
        late : (k : ℕ) → T' k ≡ true → (l : ℕ) → l < s → u l ≡ k → z (R.next k) ≤ R.start k + z k
        late k x l m e = ⊎_elim
            (λ (y : l < a).
            let w : q a k ≡ suc (q 0 k) = rw e at (Chains.after_raise K l a y le) in
            omega (arith, new_le (R.next k), K.grid 0 (omega arith) k, new-on k x, w))
            (λ (y : a ≤ l).
            let up = step_up R T tz (tight_larger (suc a) (omega arith)) nz (grow_second (omega arith)) (R.next k) in
            ⊎_elim
            (λ (n : k ≡ u a).
            let st : q (suc a) (R.next k) ≡ q a (R.next k) = rw n (Chains.next-unchanged K a (omega arith)) in
            omega (arith, up, st, K.grid a le k, new-on k x))
            (λ n.
            omega (arith, up, K.grid (suc a) (omega arith) k, new-on k x, (K.step a (omega arith)).unchanged k x n))
            (same_or k (u a)))
            (before_or_not l a)

    -- a step that does not change g
    step_without : (j : ℕ) → j < s → q (suc j) g ≡ q j g → Step T (u j) (q j) (q (suc j))
    step_without j l e =
        record {
          raised = (K.step j l).raised;
          unchanged = λ k t n. ⊎_elim
              (λ (x : k ≡ g). rw x e)
              (λ (x : T' k ≡ true). (K.step j l).unchanged k x n)
              (less_back L k t);
        }

    module _ {p : ℕ → ℕ → ℕ} {o : ℕ → ℕ} (mp : Omit (suc s) (suc a) p q) (mo : Omit s a o u) (here : p (suc a) ≡ z)
        (there : o a ≡ g) where
      grow-points : (Q : (ℕ → ℕ) → Type 0) → ((j : ℕ) → j ≤ s → Q (q j)) → Q z → (j : ℕ) → j ≤ suc s → Q (p j)
      grow-points Q b c j l = ⊎_elim
          (λ (x : j < suc a). rw (← (mp.lower j (omega arith) x)) (b j (omega arith)))
          (λ (x : suc a ≤ j). ⊎_elim
          (λ (y : j ≡ suc a). rw (y, here) c)
          (λ n.
          let w : suc (j - 1) ≡ j = omega arith in
          rw (← w) (rw (← (mp.upper (j - 1) (omega arith) (omega (arith, n)))) (b (j - 1) (omega arith))))
          (same_or j (suc a)))
          (before_or_not j (suc a))

      grow-steps : (j : ℕ) → j < suc s → Step T (o j) (p j) (p (suc j))
      grow-steps j l = ⊎_elim
          (λ (x : j < a). rw (
            ← (mp.lower j (omega arith) (omega arith)),
            ← (mp.lower (suc j) (omega arith) (omega arith)),
            ← (mo.lower j (omega arith) x),
          ) (step_without j (omega arith) (below (suc j) x ∙ sym (below j (omega arith)))))
          (λ (x : a ≤ j). ⊎_elim
          (λ (y : j ≡ a). rw (y, here, there, ← (mp.lower a (omega arith) (omega arith))) sz)
          (λ (n : j ≡ a → ⊥). ⊎_elim
          (λ (y : j ≡ suc a). rw (
            y,
            here,
            ← (mp.upper (suc a) (omega arith) (omega arith)),
            ← (mo.upper a (omega arith) (omega arith)),
          ) (grow_second (omega arith)))
          (λ (m : j ≡ suc a → ⊥). after (j - 1) (omega arith) (omega arith) (omega (arith, n, m)))
          (same_or j (suc a)))
          (same_or j a))
          (before_or_not j a)
        where
          after : (i : ℕ) → suc i ≡ j → i < s → a < i → Step T (o j) (p j) (p (suc j))
          after i e m b =
              rw (
                ← e,
                ← (mp.upper i (omega arith) (omega arith)),
                ← (mp.upper (suc i) (omega arith) (omega arith)),
                ← (mo.upper i m (omega arith)),
              ) (step_without i m (above (suc i) (omega arith) (omega arith) ∙ sym (above i b (omega arith))))

      pub grow-chain : Chain R T (suc s) p o
      grow-chain = record {
        tight = grow-points (Tight R T) tight_larger tz;
        grid = grow-points (Grid R) K.grid grow-grid;
        has_zeros = grow-points (HasZeros R) K.has_zeros nz;
        step = grow-steps;
        order = insert-order le K.order (rw there L) mo;
        free = rw (← (mp.lower 0 (omega arith) (omega arith))) fr;
      }

  -- the larger chain, where the coefficient at g rises after point a
  pub grow-at : Free R T (q 0) → (a : ℕ) → a ≤ s → ((j : ℕ) → j ≤ a → q j g ≡ q 0 g)
      → ((j : ℕ) → a < j → j ≤ s → q j g ≡ suc (q 0 g))
      → Grown R T s q (insert (suc a) (tight_of R T (raise g (q a))) q) (insert a g u) (suc a)
  grow-at fr a le below above =
      let z : ℕ → ℕ = tight_of R T (raise g (q a)) in
      record {
        chain = grow-chain fr a le below above (lifted_tight R (raise g (q a)) (tight_larger 0 (omega arith)) small fr)
            (lifted_zeros R (raise g (q a)) (tight_larger 0 (omega arith)) small fr)
            (raise_step g (q a) L.has (lifted_on R (raise g (q a)) (tight_larger 0 (omega arith)) small fr))
            {p = insert (suc a) z q} (insert-is (suc s) (suc a) z q) (insert-is s a g u) (insert-here (suc a) z q)
            (insert-here a g u);
        bound = omega arith;
        cut = insert-is (suc s) (suc a) z q;
      }
    where
      small : (k : ℕ) → T k ≡ true → raise g (q a) k ≤ q 0 k + 1
      small k e =
          ⊎_elim (λ (x : k ≡ g). rw x (omega (arith, raise_at g (q a), below a (omega arith))))
          (λ n. omega (arith, raise_elsewhere g (q a) k n, Chains.one_more_at_most K a le k)) (same_or k g)

  -- exactly one larger chain
  pub grow : Free R T (q 0) → (p : ℕ → ℕ → ℕ) × (o : ℕ → ℕ) × (i : ℕ) × Grown R T s q p o i
  grow fr =
      let w = rises_after K g in
      (insert (suc w.0) (tight_of R T (raise g (q w.0))) q, insert w.0 g u, suc w.0, grow-at fr w.0 w.1 w.2 w.3)

  -- the place of the new point in a larger chain
  pub grown_at_lem : {p : ℕ → ℕ → ℕ} {o : ℕ → ℕ} {i : ℕ} → Grown R T s q p o i
      → (l : ℕ) × (l < suc s) × (o l ≡ g) × (i ≡ suc l)
  grown_at_lem {p} {o} {i} G = drops_at G.chain G.bound (record { small = L; facet = q; omits_here = G.cut; chain = K })

  rises_at : {p : ℕ → ℕ → ℕ} {o : ℕ → ℕ} {l : ℕ} → l < suc s → o l ≡ g → Chain R T (suc s) p o
      → Omit (suc s) (suc l) p q
      → ((j : ℕ) → j ≤ l → q j g ≡ q 0 g) × ((j : ℕ) → l < j → j ≤ s → q j g ≡ suc (q 0 g)) × Step T g (q l) (p (suc l))
  rises_at {p} {o} {l} m e C cut =
      let z : q 0 ≡ p 0 = cut.lower 0 (omega arith) (omega arith) in (
        (λ j x. rw (cut.lower j (omega arith) (omega arith), z) (rw e at (Chains.before_raise C l j m x))),
        (λ j x y. rw (cut.upper j (omega arith) x, z)
            (rw e at (Chains.after_raise C l (suc j) (omega arith) (omega arith)))),
        rw (cut.lower l m (omega arith), ← e) (C.step l m),
      )

  pub grow-one : {p : ℕ → ℕ → ℕ} {o : ℕ → ℕ} {i : ℕ} → Grown R T s q p o i → {p' : ℕ → ℕ → ℕ} {o' : ℕ → ℕ} {i' : ℕ}
      → Grown R T s q p' o' i'
      → (i ≡ i') × (p i ≡ p' i')
  grow-one {p} {o} {i} G {p'} {o'} {i'} G' = go (grown_at_lem G) (grown_at_lem G')
    where
      go : (l : ℕ) × (l < suc s) × (o l ≡ g) × (i ≡ suc l) → (l : ℕ) × (l < suc s) × (o' l ≡ g) × (i' ≡ suc l)
          → (i ≡ i') × (p i ≡ p' i')
      go x y =
          let A = rises_at x.1 x.2 G.chain (rw x.3 at G.cut) in
          let B = rises_at y.1 y.2 G'.chain (rw y.3 at G'.cut) in
          same x.0 y.0 x.1 y.1 x.3 y.3 A B
        where
          same : (l m : ℕ) → l < suc s → m < suc s → i ≡ suc l → i' ≡ suc m
              → ((j : ℕ) → j ≤ l → q j g ≡ q 0 g) × ((j : ℕ) → l < j → j ≤ s → q j g ≡ suc (q 0 g))
              × Step T g (q l) (p (suc l))
              → ((j : ℕ) → j ≤ m → q j g ≡ q 0 g) × ((j : ℕ) → m < j → j ≤ s → q j g ≡ suc (q 0 g))
              × Step T g (q m) (p' (suc m))
              → (i ≡ i') × (p i ≡ p' i')
          same l m a b c d A B =
              let e : l ≡ m = ⊎_elim
              (λ (w : l < m). absurd (omega (arith, A.1 m w (omega arith), B.0 m (omega arith))))
              (λ (w : m ≤ l). ⊎_elim
              (λ (v : m < l). absurd (omega (arith, B.1 l v (omega arith), A.0 l (omega arith))))
              (λ (v : l ≤ m). omega arith)
              (before_or_not m l))
              (before_or_not l m) in
              let st : Step T g (q l) (p' (suc l)) = rw (sym e) at B.2 in (
                omega arith,
                ap p c
                    ∙ same_step R L.has (G.chain.tight (suc l) a) (G'.chain.tight (suc l) a)
                    (G.chain.has_zeros (suc l) a) (G'.chain.has_zeros (suc l) a) A.2 st
                    ∙ ap (λ (k : ℕ). p' (suc k)) e
                    ∙ ap p' (sym d),
              )

  -- and none where g's block is filled
  pub grown_not_filled : {p : ℕ → ℕ → ℕ} {o : ℕ → ℕ} {i : ℕ} → Grown R T s q p o i
      → ((k : ℕ) → R.block k ≡ R.block g → T k ≡ false → coord R (q 0) k ≡ 0) → ⊥
  grown_not_filled {p} {o} {i} G h =
      let w = grown_at_lem G in
      let f = G.chain.free g in
      omega (arith, h f.0 f.1 f.2, f.3, equal_at (G.cut.lower 0 (omega arith) (omega (arith, w.3))) (R.next f.0))
