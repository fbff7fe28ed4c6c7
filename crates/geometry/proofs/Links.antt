-- Chains that share points. In order: a part of a chain drops an index; different facets lead to different places; a
-- facet end is the facet without the first point. Assumes nothing.
use mathlib.Core.Bool.{Bool, true, false}
use mathlib.Core.Logic.{⊎_elim}
use mathlib.Core.Path.{◌≡◌, refl, sym, ap, ◌∙◌}
use Prim.Native.Nat.{ℕ, zero, suc, ◌≤◌, ◌<◌}
use native.Mathlib.Omega.{arith}
use Rattle.combinatorics.proofs.Basics.{true_or_false, absurd_bool, same_or, before_or_not}
use Rattle.geometry.proofs.Search.{other-block_le}
use Rattle.geometry.proofs.Bridge.{chain-place}
use Rattle.geometry.proofs.Definitions.{Blocks, coord, Chain, Less, Omit, Beside, Drops, Fills, Place, zeros}
use Rattle.geometry.proofs.Definitions.{Filled, Rising}
use Rattle.geometry.proofs.Labels.{from_omit, to_omit, miss, Missed}
use Rattle.geometry.proofs.Sorted.{choose}
use Rattle.geometry.proofs.Tight.{block-next}
use Rattle.geometry.proofs.Unique.{not_filled}

-- a chain whose points are all but one of another's is one over T less an index
module _ {R : Blocks} {T T' : ℕ → Bool} {s : ℕ} {p q : ℕ → ℕ → ℕ} {o u : ℕ → ℕ} (K : Chain R T (suc s) p o)
    (K' : Chain R T' s q u) {i : ℕ} (m : Omit (suc s) i p q) where
  part_in : (k : ℕ) → T' k ≡ true → T k ≡ true
  part_in k e =
      let P = chain-place K in
      let Q = chain-place K' in
      let a = Q.moved k e in
      go P Q (Q.used k a.0) a.1
    where
      go : Place R T (zeros R T (p 0)) (suc s) p o → Place R T' (zeros R T' (q 0)) s q u
          → (j : ℕ) × (j ≤ s) × (0 < coord R (q j) k) → (j : ℕ) × (j ≤ s) × (0 < q j k) → T k ≡ true
      go P Q b c =
          ⊎_elim (λ x. x)
          (λ (x : T k ≡ false). absurd (⊎_elim
          (λ (y : zeros R T (p 0) k ≡ true).
          let w = from_omit b.0 m (omega (arith, b.1)) in
          let z : coord R (q b.0) k ≡ 0 = rw w.1 (P.unused k y w.0 (omega (arith, w.2))) in
          omega (arith, b.2, z))
          (λ (y : zeros R T (p 0) k ≡ false).
          let w = from_omit c.0 m (omega (arith, c.1)) in
          omega (arith, c.2, ap (λ (g : ℕ → ℕ). g k) w.1, P.unmoved k x y w.0 (omega (arith, w.2))))
          (true_or_false (zeros R T (p 0) k))))
          (true_or_false (T k))

  pub part_less : (b : ℕ) × Less T T' b
  part_less = go (choose s
      (λ j f. (f ≤ s) × (o f ≡ u j))
      (λ j l.
      let w = K.order.all (u j) (part_in (u j) (K'.order.within j l)) in
      (w.0, (omega (arith, w.1), w.2))))
    where
      go : (f : ℕ → ℕ) × ((j : ℕ) → j < s → (f j ≤ s) × (o (f j) ≡ u j)) → (b : ℕ) × Less T T' b
      go c = end (miss s c.0
          (λ j l. (c.1 j l).0)
          (λ i j a b e. K'.order.once i j a b (sym (c.1 i a).1 ∙ ap o e ∙ (c.1 j b).1)))
        where
          end : (m : ℕ) × Missed s c.0 m → (b : ℕ) × Less T T' b
          end M = (
            o M.0,
            record {
              has = K.order.within M.0 (omega (arith, M.1.bound));
              out = ⊎_elim
                  (λ (e : T' (o M.0) ≡ true).
                  let w = K'.order.all (o M.0) e in
                  absurd (M.1.never w.0 w.1
                  (K.order.once (c.0 w.0) M.0 (omega (arith, (c.1 w.0 w.1).0)) (omega (arith, M.1.bound))
                  ((c.1 w.0 w.1).1 ∙ w.2))))
                  (λ e. e)
                  (true_or_false (T' (o M.0)));
              rest = λ k n. ⊎_elim
                  (λ (e : T k ≡ true).
                  let w = K.order.all k e in
                  let z = M.1.else w.0 (omega (arith, w.1)) (λ x. n (sym w.2 ∙ ap o x)) in
                  (rw (sym (c.1 z.0 z.1).1 ∙ ap o z.2 ∙ w.2) at (K'.order.within z.0 z.1)) ∙ sym e)
                  (λ (e : T k ≡ false). ⊎_elim
                  (λ (x : T' k ≡ true). absurd_bool (sym (part_in k x) ∙ e))
                  (λ x. x ∙ sym e)
                  (true_or_false (T' k)))
                  (true_or_false (T k));
            },
          )

  -- so it is what drops
  pub part_drops : Drops R T s p i
  part_drops = let b = part_less in (b.0, T', u, record { small = b.1; facet = q; omits_here = m; chain = K' })

-- only the points up to t count
pub chain_ext : {R : Blocks} {T : ℕ → Bool} {t : ℕ} {p p' : ℕ → ℕ → ℕ} {o : ℕ → ℕ} → ((j : ℕ) → j ≤ t → p j ≡ p' j)
    → Chain R T t p o → Chain R T t p' o
chain_ext {T} {t} {p} {p'} {o} e K = record {
  tight = λ j l. rw (e j l) at (K.tight j l);
  grid = λ j l. rw (e j l) at (K.grid j l);
  has_zeros = λ j l. rw (e j l) at (K.has_zeros j l);
  step = λ j l. let l' : j ≤ t = omega arith in rw (e j l') at (rw (e (suc j) l) at (K.step j l));
  order = K.order;
  free = rw (e 0 (omega arith)) at K.free;
}

-- different ways lead to different places
pub facet_determines : {n a b : ℕ} {p q : ℕ → ℕ → ℕ} → Rising (suc n) p → Omit n a p q → Omit n b p q → a ≤ n → b ≤ n
    → a ≡ b
facet_determines {a} {b} r x y la lb = ⊎_elim
    (λ (l : a < b). absurd (r.new a (suc a) (omega arith) (omega arith)
    (sym (y.lower a (omega arith) l) ∙ x.upper a (omega arith) (omega arith))))
    (λ (l : b ≤ a). ⊎_elim
    (λ (m : b < a). absurd (r.new b (suc b) (omega arith) (omega arith)
    (sym (x.lower b (omega arith) m) ∙ y.upper b (omega arith) (omega arith))))
    (λ m. omega arith)
    (before_or_not b a))
    (before_or_not a b)

pub beside_determines : {R : Blocks} {T : ℕ → Bool} {s a b : ℕ} {p p' : ℕ → ℕ → ℕ} {o' o'' : ℕ → ℕ} {i j : ℕ}
    → Rising (suc (suc s)) p → a ≤ suc s → b ≤ suc s → Beside R T s p a p' o' i → Beside R T s p b p' o'' j → a ≡ b
beside_determines {s} {a} {b} {p} {p'} {i} {j} r la lb A B =
    ⊎_elim (λ e. e)
    (λ n.
    let x = to_omit a B.omits_here lb la n in
    let y = from_omit x.0 B.omits_there x.1 in
    let e : p' y.0 ≡ p a = sym y.1 ∙ x.2 in
    let z = to_omit y.0 A.omits_there A.bound (omega (arith, y.2)) (λ (q : y.0 ≡ i). A.new (ap p' (sym q) ∙ e)) in
    let w = from_omit z.0 A.omits_here z.1 in
    let f : p w.0 ≡ p a = sym w.1 ∙ z.2 ∙ e in
    absurd (clash w.0 w.2 w.3 f)) (same_or a b)
  where
    clash : (w : ℕ) → w < suc (suc s) → (w ≡ a → ⊥) → p w ≡ p a → ⊥
    clash w l n e = ⊎_elim
        (λ (x : w < a). r.new w a x (omega arith) e)
        (λ (x : a ≤ w). r.new a w (omega (arith, n)) l (sym e))
        (before_or_not w a)

-- a facet end: the first point leaves, and only the block of the first index is filled
pub fills_first : {R : Blocks} {T : ℕ → Bool} {s : ℕ} {p : ℕ → ℕ → ℕ} {o : ℕ → ℕ} → Chain R T (suc s) p o → (i : ℕ)
    → Fills R T s p i → i ≡ 0
fills_first K zero f = refl
fills_first {R} {T} {s} {p} {o} K (suc i) f = absurd (not_filled K i f)

pub fills-block : {R : Blocks} {T : ℕ → Bool} {s : ℕ} {p : ℕ → ℕ → ℕ} {o : ℕ → ℕ} → Chain R T (suc s) p o → (h : ℕ)
    → Filled R T s p 0 h
    → R.block h ≡ R.block (o 0)
fills-block {R} {T} {p} {o} K h F = ⊎_elim
    (λ e. e)
    (λ n.
    let f = K.free h in
    absurd (omega (
      arith,
      f.3,
      F f.0 f.1 f.2 1 (omega arith) (λ e. omega arith),
      other-block_le R (K.tight 0 (omega arith)) (K.tight 1 (omega arith)) (K.has_zeros 1 (omega arith))
          (K.step 0 (omega arith)) (R.next f.0)
          (λ e. n (sym f.1 ∙ sym (block-next R f.0) ∙ e)),
    )))
    (same_or (R.block h) (R.block (o 0)))
