-- Every link goes through a facet or up to a larger place, and there is one place through each facet and one above. T
-- and the number of points are the place's own; the first point and the order determine a place. Assumes nothing.
use mathlib.Core.Bool.{Bool}
use mathlib.Core.List.{List}
use mathlib.Core.Logic.{◌⊎◌, inl, inr, ⊎_elim}
use mathlib.Core.Path.{◌≡◌, sym, ap, ◌∙◌, fun_ext}
use Prim.Native.Nat.{ℕ, zero, suc, ◌-◌, ◌≤◌, ◌<◌}
use lib.ListN.{length}
use lib.Seq.{ext_get_or}
use native.Mathlib.Omega.{arith}
use Rattle.combinatorics.proofs.Basics.{same_or, before_or_not}
use Rattle.geometry.proofs.Exits.{kinds, facet-carry, larger_is, inside_not_larger}
use Rattle.geometry.proofs.Definitions.{Blocks, Chain, Less, Omit, omit, Beside, Grown, Drops, Carries, Covers}
use Rattle.geometry.proofs.Definitions.{Order}
use Rattle.geometry.proofs.Grow.{grow-one}
use Rattle.geometry.proofs.LabelledChains.{list_at, LabelledChain, Swapped, Extended, LinkTo, Link}
use Rattle.geometry.proofs.Links.{part_less, part_drops}
use Rattle.geometry.proofs.Places.{points_determine_T, orders_determine_T, first_determines}
use Rattle.geometry.proofs.Sorted.{rising-chain, part_of, shares}
use Rattle.geometry.proofs.Tight.{decides}
use Rattle.geometry.proofs.Unique.{one-next, not_next_drops, facet-again}
use Rattle.geometry.proofs.Ways.{omit_is}

-- lists by their points
list_ext : (n : ℕ) (a b : List (ℕ → ℕ)) → length a ≡ n → length b ≡ n → ((j : ℕ) → j < n → list_at a j ≡ list_at b j)
    → a ≡ b
list_ext n a b x y h = ext_get_or (λ k. 0) a b (x ∙ sym y) (λ j l. h j (omega arith))

omit_ext : {A : Type 0} {n i : ℕ} {p p' q : ℕ → A} → i ≤ n → Omit n i p q → Omit n i p' q → p i ≡ p' i → (j : ℕ)
    → j < suc n → p j ≡ p' j
omit_ext {n} {i} {p} {p'} b m m' e j l = ⊎_elim
    (λ (x : j < i). sym (m.lower j (omega arith) x) ∙ m'.lower j (omega arith) x)
    (λ (x : i ≤ j). ⊎_elim
    (λ (y : j ≡ i). ap p y ∙ e ∙ ap p' (sym y))
    (λ (n : j ≡ i → ⊥).
    let w : suc (j - 1) ≡ j = omega (arith, n) in
    ap p (sym w)
    ∙ sym (m.upper (j - 1) (omega (arith, n)) (omega (arith, n)))
    ∙ m'.upper (j - 1) (omega (arith, n)) (omega (arith, n))
    ∙ ap p' w)
    (same_or j i))
    (before_or_not j i)

-- through facet i of a to x
abbrev pub Through : Blocks → (ℕ → Bool) → ℕ → List (ℕ → ℕ) → ℕ → List (ℕ → ℕ) → Type 0
Through R T s a i x =
    ((length x ≡ suc (suc s)) × ((o' : ℕ → ℕ) × (i' : ℕ) × Beside R T s (list_at a) i (list_at x) o' i'))
    ⊎ ((length x ≡ suc s)
    × ((T' : ℕ → Bool) × (u : ℕ → ℕ) × Chain R T' s (list_at x) u × Omit (suc s) i (list_at a) (list_at x)))

module _ {R : Blocks} {T : ℕ → Bool} {s : ℕ} (a : List (ℕ → ℕ)) {o : ℕ → ℕ} (K : Chain R T (suc s) (list_at a) o) where
  pub drops_of : {i : ℕ} (x : List (ℕ → ℕ)) {T' : ℕ → Bool} {u : ℕ → ℕ} → Chain R T' s (list_at x) u
      → Omit (suc s) i (list_at a) (list_at x)
      → Drops R T s (list_at a) i
  drops_of {i} x {T'} {u} C m = part_drops K C m

  -- one way through a facet leads to one place
  pub through_one : {i : ℕ} → i ≤ suc s → (x y : List (ℕ → ℕ)) → Through R T s a i x → Through R T s a i y → x ≡ y
  through_one {i} l x y (inl A) (inl B) =
      go (one-next K l (list_at x, A.1.0, A.1.1, A.1.2) (list_at y, B.1.0, B.1.1, B.1.2))
    where
      P : Beside R T s (list_at a) i (list_at x) A.1.0 A.1.1
      P = A.1.2

      Q : Beside R T s (list_at a) i (list_at y) B.1.0 B.1.1
      Q = B.1.2

      go : (A.1.1 ≡ B.1.1) × (list_at x A.1.1 ≡ list_at y B.1.1) → x ≡ y
      go e =
          let m : Omit (suc s) B.1.1 (list_at y) P.facet = facet-again P.omits_here Q.omits_here Q.omits_there in
          let m' : Omit (suc s) A.1.1 (list_at y) P.facet = rw (← e.0) at m in
          list_ext (suc (suc s)) x y A.0 B.0 (omit_ext P.bound P.omits_there m' (e.1 ∙ ap (list_at y) (sym e.0)))
  through_one {i} l x y (inl A) (inr B) =
      absurd (not_next_drops K l (list_at x, A.1.0, A.1.1, A.1.2) (drops_of y B.1.2 B.1.3))
  through_one {i} l x y (inr A) (inl B) =
      absurd (not_next_drops K l (list_at y, B.1.0, B.1.1, B.1.2) (drops_of x A.1.2 A.1.3))
  through_one {i} l x y (inr A) (inr B) = list_ext (suc s) x y A.0 B.0 (λ j m.
      let e = omit_is (suc s) i (list_at a) in
      ⊎_elim
      (λ z. A.1.3.lower j m z ∙ sym (B.1.3.lower j m z))
      (λ z. A.1.3.upper j m z ∙ sym (B.1.3.upper j m z))
      (before_or_not j i))

module _ {R : Blocks} {label_of : (ℕ → ℕ) → ℕ} {T : ℕ → Bool} {t : ℕ} {o : ℕ → ℕ} {a : List (ℕ → ℕ)}
    (A : LabelledChain R label_of T t o a) where
  -- a larger place by its point
  pub larger : {T' : ℕ → Bool} {t' : ℕ} {o' : ℕ → ℕ} {x : List (ℕ → ℕ)} → LabelledChain R label_of T' t' o' x
      → Extended label_of T t a T' t' x
      → (length x ≡ suc (suc t)) × ((g : ℕ) × Less T' T g × ((i : ℕ) × Grown R T' t (list_at a) (list_at x) o' i))
  larger {T'} {o'} {x} S E =
      let C : Chain R T' (suc t) (list_at x) o' = rw E.sizes at S.chain in
      let w = part_of (rising-chain C) (rising-chain A.chain)
      (λ j l. let z = E.part j (omega arith) in (z.0, omega (arith, z.1, E.sizes), z.2)) in
      let b = part_less C A.chain w.2 in
      (S.size ∙ ap suc E.sizes, (b.0, b.1, (w.0, record { chain = C; bound = w.1; cut = w.2 })))

  larger_one : {T1 : ℕ → Bool} {t1 : ℕ} {o1 : ℕ → ℕ} {x : List (ℕ → ℕ)} → LabelledChain R label_of T1 t1 o1 x
      → Extended label_of T t a T1 t1 x → {T2 : ℕ → Bool} {t2 : ℕ} {o2 : ℕ → ℕ} {y : List (ℕ → ℕ)}
      → LabelledChain R label_of T2 t2 o2 y → Extended label_of T t a T2 t2 y → x ≡ y
  larger_one {T1} {t1} {o1} {x} S E {T2} {t2} {o2} {y} S' E' = go (larger S E) (larger S' E')
    where
      go : (length x ≡ suc (suc t)) × ((g : ℕ) × Less T1 T g × ((i : ℕ) × Grown R T1 t (list_at a) (list_at x) o1 i))
          → (length y ≡ suc (suc t)) × ((g : ℕ) × Less T2 T g × ((i : ℕ) × Grown R T2 t (list_at a) (list_at y) o2 i))
          → x ≡ y
      go X Y = end (grow-one X.1.1 A.chain X.1.2.1 (rw (← sets) at Y.1.2.1))
        where
          same_g : X.1.0 ≡ Y.1.0
          same_g = ⊎_elim
              (λ w. absurd (inside_not_larger label_of A.chain A.covers w.2.all X.1.1 E.covers))
              (λ w. larger_is label_of A.chain A.covers w.1 X.1.1 E.covers
              ∙ sym (larger_is label_of A.chain A.covers w.1 Y.1.1 E'.covers))
              (kinds label_of A.chain A.covers)

          sets : T1 ≡ T2
          sets = fun_ext
              (λ k. ⊎_elim
              (λ (e : k ≡ X.1.0). ap T1 e ∙ X.1.1.has ∙ sym (ap T2 (e ∙ same_g) ∙ Y.1.1.has))
              (λ n. sym (X.1.1.rest k n) ∙ Y.1.1.rest k (λ e. n (e ∙ sym same_g)))
              (same_or k X.1.0))

          end : (X.1.2.0 ≡ Y.1.2.0) × (list_at x X.1.2.0 ≡ list_at y Y.1.2.0) → x ≡ y
          end e =
              let m : Omit (suc t) X.1.2.0 (list_at y) (list_at a) = rw e.0 Y.1.2.1.cut in
              list_ext (suc (suc t)) x y X.0 Y.0 (omit_ext X.1.2.1.bound X.1.2.1.cut m (e.1 ∙ ap (list_at y) (sym e.0)))

abbrev pub Above : Blocks → ((ℕ → ℕ) → ℕ) → (ℕ → Bool) → ℕ → List (ℕ → ℕ) → List (ℕ → ℕ) → Type 0
Above R label_of T t a x =
    (T' : ℕ → Bool) × (t' : ℕ) × (o' : ℕ → ℕ) × LabelledChain R label_of T' t' o' x × Extended label_of T t a T' t' x

pub above-one : {R : Blocks} {label_of : (ℕ → ℕ) → ℕ} {T : ℕ → Bool} {t : ℕ} {o : ℕ → ℕ} {a : List (ℕ → ℕ)}
    → LabelledChain R label_of T t o a → {x y : List (ℕ → ℕ)} → Above R label_of T t a x → Above R label_of T t a y → x ≡ y
above-one {R} {label_of} {T} {t} {o} {a} A {x} {y} X Y = larger_one A X.3 X.4 Y.3 Y.4

module _ {R : Blocks} {label_of : (ℕ → ℕ) → ℕ} {T : ℕ → Bool} {s : ℕ} {o : ℕ → ℕ} {a : List (ℕ → ℕ)}
    (A : LabelledChain R label_of T (suc s) o a) where
  abbrev pub Facet : List (ℕ → ℕ) → Type 0
  Facet x = (i : ℕ) × (i ≤ suc s) × Carries T (suc s) (λ j. label_of (list_at a j)) i × Through R T s a i x

  pub swapped_facet : {T' : ℕ → Bool} {t' : ℕ} {o' : ℕ → ℕ} {x : List (ℕ → ℕ)} → LabelledChain R label_of T' t' o' x
      → Swapped label_of T (suc s) a T' t' x → Facet x
  swapped_facet {t'} {o'} {x} S W =
      let C : Chain R T (suc s) (list_at x) o' = rw W.sizes at (rw W.same_t at S.chain) in (
        W.i,
        W.i_bound,
        W.carry,
        inl (
          S.size ∙ ap suc W.sizes,
          (
            o',
            W.i',
            record {
              chain = C;
              bound = W.i'_bound;
              facet = omit W.i (list_at a);
              omits_here = omit_is (suc s) W.i (list_at a);
              omits_there = shares W.i W.i' (rising-chain A.chain) (rising-chain C) W.i_bound W.i'_bound W.shared;
              new = W.new;
            },
          ),
        ),
      )

  smaller_facet : {T' : ℕ → Bool} {t' : ℕ} {o' : ℕ → ℕ} {x : List (ℕ → ℕ)} → LabelledChain R label_of T' t' o' x
      → Extended label_of T' t' x T (suc s) a → Facet x
  smaller_facet {T'} {t'} {o'} {x} S E =
      let e : t' ≡ s = omega (arith, E.sizes) in
      let C : Chain R T' s (list_at x) o' = rw e at S.chain in
      let w =
      part_of (rising-chain A.chain) (rising-chain C) (λ j l. let z = E.part j (omega arith) in (z.0, z.1, z.2)) in
      let v : Covers label_of T s (list_at x) = rw e at E.covers in
      (w.0, w.1, facet-carry label_of w.2 v, inr (S.size ∙ ap suc e, (T', o', C, w.2)))

  pub exit : {x : List (ℕ → ℕ)} → LinkTo R label_of T (suc s) a x → Facet x ⊎ Above R label_of T (suc s) a x
  exit {x} F =
      ⊎_elim (λ W. inl (swapped_facet F.3 W))
      (λ W. ⊎_elim
      (λ E. inr (F.0, F.1, F.2, F.3, E))
      (λ E. inl (smaller_facet F.3 E)) W)
      F.4

-- the place with one point
module _ {R : Blocks} {label_of : (ℕ → ℕ) → ℕ} {T : ℕ → Bool} {o : ℕ → ℕ} {a : List (ℕ → ℕ)}
    (A : LabelledChain R label_of T 0 o a) where
  pub start_exit : {x : List (ℕ → ℕ)} → LinkTo R label_of T 0 a x → Above R label_of T 0 a x
  start_exit {x} F = ⊎_elim
      (λ W.
      let C : Chain R T 0 (list_at x) F.2 = rw W.sizes at (rw W.same_t at F.3.chain) in
      let e : list_at x 0 ≡ list_at a 0 = fun_ext (decides R T (C.tight 0 (omega arith))
      (A.chain.tight 0 (omega arith)) (C.has_zeros 0 (omega arith)) (A.chain.has_zeros 0 (omega arith))
      (λ k t. let w = C.order.all k t in absurd (omega (arith, w.1)))) in
      let i0 : W.i ≡ 0 = omega (arith, W.i_bound) in
      let i1 : W.i' ≡ 0 = omega (arith, W.i'_bound) in
      absurd (W.new (ap (list_at x) i1 ∙ e ∙ ap (list_at a) (sym i0))))
      (λ W. ⊎_elim (λ E. (F.0, F.1, F.2, F.3, E)) (λ E. absurd (omega (arith, E.sizes))) W)
      F.4

module _ (R : Blocks) (label_of : (ℕ → ℕ) → ℕ) where
  -- T and the number of points are the place's own
  pub same-T : {a : List (ℕ → ℕ)} {T : ℕ → Bool} {t : ℕ} {o : ℕ → ℕ} → LabelledChain R label_of T t o a
      → {T' : ℕ → Bool} {t' : ℕ} {o' : ℕ → ℕ} → LabelledChain R label_of T' t' o' a → (T' ≡ T) × (t' ≡ t)
  same-T {a} {T} {t} {o} A {T'} {t'} {o'} A' =
      let e : t' ≡ t = omega (arith, A.size, A'.size) in
      (points_determine_T (rw e at A'.chain) A.chain, e)

  pub from-same : {a x : List (ℕ → ℕ)} {T : ℕ → Bool} {t : ℕ} {o : ℕ → ℕ} → LabelledChain R label_of T t o a
      → Link R label_of a x
      → LinkTo R label_of T t a x
  from-same {a} {x} {T} {t} {o} A L =
      let e = same-T A L.place in
      rw e.1 at (rw e.0 at L.onto)

  pub one : {a : List (ℕ → ℕ)} → length a ≡ 1 → {x y : List (ℕ → ℕ)} → Link R label_of a x → Link R label_of a y → x ≡ y
  one {a} l {x} {y} X Y = go X.t (omega (arith, X.place.size)) X.place X.onto (from-same X.place Y)
    where
      go : (t : ℕ) → t ≡ 0 → LabelledChain R label_of X.T t X.o a → LinkTo R label_of X.T t a x
          → LinkTo R label_of X.T t a y → x ≡ y
      go zero e A f g = above-one A (start_exit A f) (start_exit A g)
      go (suc s) e A f g = absurd (omega arith)

-- the first point and the order determine the place
pub code_determines : {R : Blocks} {label_of : (ℕ → ℕ) → ℕ} {a b : List (ℕ → ℕ)} {T T' : ℕ → Bool} {t : ℕ} {o o' : ℕ → ℕ}
    → LabelledChain R label_of T t o a → LabelledChain R label_of T' t o' b → list_at a 0 ≡ list_at b 0
    → ((j : ℕ) → j < t → o j ≡ o' j) → a ≡ b
code_determines {R} {a} {b} {T} {T'} {t} {o} {o'} A B e h =
    let O' : Order T' t o = record {
      within = λ j l. rw (h j l) (B.chain.order.within j l);
      once = λ i j x y z. A.chain.order.once i j x y z;
      all = λ k x. let w = B.chain.order.all k x in (w.0, w.1, h w.0 w.1 ∙ w.2);
    } in
    let q : T' ≡ T = orders_determine_T O' A.chain.order in
    list_ext (suc t) a b A.size B.size (λ j l. first_determines A.chain (rw q at B.chain) e h j (omega arith))
