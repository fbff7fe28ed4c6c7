-- Theorem W on lists of points. In order: through a facet that carries T a link or a facet end; up by a label outside T
-- a link or a place end; never two of these; the start. Assumes nothing.
use mathlib.Core.Bool.{Bool}
use mathlib.Core.List.{List}
use mathlib.Core.Logic.{◌⊎◌, inl, inr, ⊎_elim}
use mathlib.Core.Path.{◌≡◌, refl, sym, ap, ◌∙◌}
use Prim.Native.Nat.{ℕ, zero, suc, ◌≤◌, ◌<◌}
use lib.ListN.{length, get_or}
use native.Mathlib.Omega.{arith}
use Rattle.geometry.proofs.Exits.{kinds, facet-carry, carry-facet, carries_cover, labels_in, inside_not_complete}
use Rattle.geometry.proofs.Exits.{larger_is, larger_covers, larger_inside, complete-at, up_or, up_not_complete}
use Rattle.geometry.proofs.Exits.{fills-complete, complete-fills}
use Rattle.geometry.proofs.Definitions.{Blocks, Chain, Less, Omit, Beside, Dropped, Grown, Filled, Carries}
use Rattle.geometry.proofs.Definitions.{Covers, Twice, Extra, plus}
use Rattle.geometry.proofs.Graph.{Through, Above, larger, start_exit, from-same, drops_of}
use Rattle.geometry.proofs.Grow.{plus_is}
use Rattle.geometry.proofs.Labels.{from_omit, to_omit}
use Rattle.geometry.proofs.LabelledChains.{list_at, LabelledChain, Swapped, Extended, Link, tabulate, FacetEnd}
use Rattle.geometry.proofs.LabelledChains.{PlaceEnd}
use Rattle.geometry.proofs.Links.{chain_ext, facet_determines, beside_determines, fills_first, fills-block}
use Rattle.geometry.proofs.Orders.{less_in}
use Rattle.geometry.proofs.Sorted.{rising-chain}
use Rattle.geometry.proofs.Unique.{not_next_fills, not_drops_fills}
use Rattle.geometry.proofs.Ways.{omit_is, way}

pub length_tabulate {ℓ} : {A : Type ℓ} (n : ℕ) (f : ℕ → A) → length (tabulate n f) ≡ n
length_tabulate zero f = refl
length_tabulate (suc n) f = ap suc (length_tabulate n _)

pub get_d_tabulate {ℓ} : {A : Type ℓ} (d : A) (n : ℕ) (f : ℕ → A) (j : ℕ) → j < n → get_or (tabulate n f) j d ≡ f j
get_d_tabulate d zero f j l = absurd (omega arith)
get_d_tabulate d (suc n) f zero l = refl
get_d_tabulate d (suc n) f (suc j) l = get_d_tabulate d n _ j (omega arith)

pub list_at_tabulate : (n : ℕ) (p : ℕ → ℕ → ℕ) (j : ℕ) → j < n → list_at (tabulate n p) j ≡ p j
list_at_tabulate n p j l = get_d_tabulate (λ k. 0) n p j l

covers_ext : (label_of : (ℕ → ℕ) → ℕ) {T : ℕ → Bool} (t : ℕ) {p p' : ℕ → ℕ → ℕ} → ((j : ℕ) → j ≤ t → p j ≡ p' j)
    → Covers label_of T t p
    → Covers label_of T t p'
covers_ext label_of t e c k x = let w = c k x in (w.0, w.1, ap label_of (sym (e w.0 w.1)) ∙ w.2)

-- a chain that carries its set stands as the list of its points
chain_tabulate : {R : Blocks} (label_of : (ℕ → ℕ) → ℕ) {T : ℕ → Bool} {t : ℕ} {p : ℕ → ℕ → ℕ} {o : ℕ → ℕ}
    → Chain R T t p o → Covers label_of T t p
    → LabelledChain R label_of T t o (tabulate (suc t) p)
chain_tabulate {R} label_of {T} {t} {p} {o} K c =
    let e : (j : ℕ) → j ≤ t → p j ≡ list_at (tabulate (suc t) p) j = λ j l.
    sym (list_at_tabulate (suc t) p j (omega arith)) in
    record { size = length_tabulate (suc t) p; chain = chain_ext e K; covers = covers_ext label_of t e c }

omit_tabulate : {n : ℕ} {i : ℕ} {p p' q : ℕ → ℕ → ℕ} → ((j : ℕ) → j < suc n → p j ≡ p' j) → Omit n i p q → Omit n i p' q
omit_tabulate {n} {i} {p} {p'} {q} e m = record {
  lower = λ j l x. m.lower j l x ∙ e j (omega arith);
  upper = λ j l x. m.upper j l x ∙ e (suc j) (omega arith);
}

-- x lies beyond facet i of a: its facet i' is that facet
pub record Beyond (R : Blocks) (label_of : (ℕ → ℕ) → ℕ) (T : ℕ → Bool) (s : ℕ) (a : List (ℕ → ℕ)) (i : ℕ) (o' : ℕ → ℕ)
    (x : List (ℕ → ℕ)) (i' : ℕ) : Type 0 where
  pub place : LabelledChain R label_of T (suc s) o' x
  pub through : Through R T s a i x
  pub back : Through R T s x i' a
  pub carries : Carries T (suc s) (λ j. label_of (list_at x j)) i'
  pub link : Link R label_of a x

-- x is facet i of a, over T'
pub record Beneath (R : Blocks) (label_of : (ℕ → ℕ) → ℕ) (T : ℕ → Bool) (s : ℕ) (a : List (ℕ → ℕ)) (i : ℕ)
    (T' : ℕ → Bool) (u : ℕ → ℕ) (x : List (ℕ → ℕ)) : Type 0 where
  pub place : LabelledChain R label_of T' s u x
  pub through : Through R T s a i x
  pub extended : Extended label_of T' s x T (suc s) a
  pub link : Link R label_of a x

-- x, over T+, is a and one point more, point i
pub record Enlarged (R : Blocks) (label_of : (ℕ → ℕ) → ℕ) (T : ℕ → Bool) (t : ℕ) (a : List (ℕ → ℕ)) (T+ : ℕ → Bool)
    (o+ : ℕ → ℕ) (x : List (ℕ → ℕ)) (i : ℕ) : Type 0 where
  pub place : LabelledChain R label_of T+ (suc t) o+ x
  pub above : Above R label_of T t a x
  pub back : Through R T+ t x i a
  pub carries : Carries T+ (suc t) (λ j. label_of (list_at x j)) i
  pub link : Link R label_of a x

module _ {R : Blocks} {label_of : (ℕ → ℕ) → ℕ} {T : ℕ → Bool} {s : ℕ} {o : ℕ → ℕ} {a : List (ℕ → ℕ)}
    (A : LabelledChain R label_of T (suc s) o a) where
  abbrev label_at : ℕ → ℕ
  label_at j = label_of (list_at a j)

  module _ (i : ℕ) (l : i ≤ suc s) (c : Carries T (suc s) label_at i) where
    pub next-link : {p' : ℕ → ℕ → ℕ} {o' : ℕ → ℕ} {i' : ℕ} → Beside R T s (list_at a) i p' o' i'
        → Beyond R label_of T s a i o' (tabulate (suc (suc s)) p') i'
    next-link {p'} {o'} {i'} B = record {
      place = S;
      through = inl (
        S.size,
        (
          o',
          i',
          record {
            chain = S.chain;
            bound = B.bound;
            facet = B.facet;
            omits_here = B.omits_here;
            omits_there = there;
            new = diff;
          },
        ),
      );
      back = inl (
        A.size,
        (
          o,
          i,
          record {
            chain = A.chain;
            bound = l;
            facet = B.facet;
            omits_here = there;
            omits_there = B.omits_here;
            new = λ q. diff (sym q);
          },
        ),
      );
      carries = facet-carry label_of there (carry-facet label_of l B.omits_here c);
      link = record { T = T; t = suc s; o = o; place = A; onto = (T, suc s, o', S, inl W) };
    }
      where
        x : List (ℕ → ℕ)
        x = tabulate (suc (suc s)) p'

        e : (j : ℕ) → j < suc (suc s) → p' j ≡ list_at x j
        e j m = sym (list_at_tabulate (suc (suc s)) p' j m)

        cov : Covers label_of T (suc s) p'
        cov =
            carries_cover label_of (suc s) i' p' (facet-carry label_of B.omits_there (carry-facet label_of l B.omits_here c))

        S : LabelledChain R label_of T (suc s) o' x
        S = chain_tabulate label_of B.chain cov

        there : Omit (suc s) i' (list_at x) B.facet
        there = omit_tabulate e B.omits_there

        diff : list_at x i' ≡ list_at a i → ⊥
        diff q = B.new (e i' (omega (arith, B.bound)) ∙ q)

        W : Swapped label_of T (suc s) a T (suc s) x
        W = record {
          same_t = refl;
          sizes = refl;
          i = i;
          i' = i';
          i_bound = l;
          i'_bound = B.bound;
          new = diff;
          carry = c;
          shared = λ j m n. let u = to_omit j B.omits_here l m n in
              let w = from_omit u.0 there u.1 in
              (w.0, omega (arith, w.2), w.3, sym w.1 ∙ u.2);
        }

    pub drop-link : {b : ℕ} {T' : ℕ → Bool} {u : ℕ → ℕ} (D : Dropped R T s (list_at a) i b T' u)
        → Beneath R label_of T s a i T' u (tabulate (suc s) D.facet)
    drop-link {b} {T'} {u} D =
        record {
          place = S;
          through = inr (S.size, (T', u, S.chain, m));
          extended = E;
          link = record { T = T; t = suc s; o = o; place = A; onto = (T', s, u, S, inr (inr E)) };
        }
      where
        q : ℕ → ℕ → ℕ
        q = D.facet

        x : List (ℕ → ℕ)
        x = tabulate (suc s) q

        cov : Covers label_of T s q
        cov = carry-facet label_of l D.omits_here c

        S : LabelledChain R label_of T' s u x
        S = chain_tabulate label_of D.chain (λ k e. cov k (less_in D.small k e).0)

        e : (j : ℕ) → j < suc s → q j ≡ list_at x j
        e j b = sym (list_at_tabulate (suc s) q j b)

        m : Omit (suc s) i (list_at a) (list_at x)
        m = record {
          lower = λ j b y. sym (e j b) ∙ D.omits_here.lower j b y;
          upper = λ j b y. sym (e j b) ∙ D.omits_here.upper j b y;
        }

        E : Extended label_of T' s x T (suc s) a
        E = record {
          sizes = refl;
          part = λ j b.
              let y : j < suc s = omega arith in
              let w = from_omit j m y in
              (w.0, omega (arith, w.2), sym w.1);
          covers = covers_ext label_of s (λ j b. e j (omega arith)) cov;
          inside = λ j b.
              let y : j < suc s = omega arith in
              let w = from_omit j m y in
              let z : w.0 ≤ suc s = omega (arith, w.2) in
              ap (λ (f : ℕ → ℕ). T (label_of f)) w.1 ∙ labels_in label_of A.chain A.covers i l c w.0 z w.3;
        }

  pub fill_end : (i : ℕ) → i ≤ suc s → Carries T (suc s) label_at i → (h : ℕ) → Filled R T s (list_at a) i h
      → FacetEnd R label_of T s a i h
  fill_end i l c h f =
      let m = omit_is (suc s) i (list_at a) in
      let cov = carry-facet label_of l m c in
      record {
        bound = l;
        covers = cov;
        complete = fills-complete R label_of T l m cov h f;
        inside = λ j b.
            let y : j < suc s = omega arith in
            let w = from_omit j m y in
            let z : w.0 ≤ suc s = omega (arith, w.2) in
            ap (λ (f : ℕ → ℕ). T (label_of f)) w.1 ∙ labels_in label_of A.chain A.covers i l c w.0 z w.3;
      }

  end_fill : {i h : ℕ} → FacetEnd R label_of T s a i h → Filled R T s (list_at a) i h
  end_fill {i} {h} F = complete-fills R label_of T F.bound (omit_is (suc s) i (list_at a)) F.inside h F.complete

  pub end-carries : {i h : ℕ} → FacetEnd R label_of T s a i h → Carries T (suc s) label_at i
  end-carries {i} F = facet-carry label_of (omit_is (suc s) i (list_at a)) F.covers

  -- through a facet that carries T: a link or a facet end
  pub facet_way : (i : ℕ) → i ≤ suc s → Carries T (suc s) label_at i
      → ((x : List (ℕ → ℕ)) × Through R T s a i x × Link R label_of a x) ⊎ ((h : ℕ) × FacetEnd R label_of T s a i h)
  facet_way i l c =
      ⊎_elim (λ N. let B = next-link i l c N.3 in inl (tabulate (suc (suc s)) N.0, B.through, B.link))
      (λ W. ⊎_elim (λ D. let B = drop-link i l c D.3 in inl (tabulate (suc s) D.3.facet, B.through, B.link))
      (λ F. inr (F.0, fill_end i l c F.0 F.1)) W)
      (way A.chain i l)

  through_not_filled : {i : ℕ} → i ≤ suc s → (x : List (ℕ → ℕ)) → Through R T s a i x → (h : ℕ)
      → Filled R T s (list_at a) i h → ⊥
  through_not_filled {i} l x (inl X) h f = not_next_fills A.chain i l (list_at x, X.1.0, X.1.1, X.1.2) (h, f)
  through_not_filled {i} l x (inr X) h f = not_drops_fills A.chain l (drops_of a A.chain x X.1.2 X.1.3) (h, f)

  -- different facets lead to different places
  pub through_determines : {i j : ℕ} → i ≤ suc s → j ≤ suc s → (x : List (ℕ → ℕ)) → Through R T s a i x
      → Through R T s a j x → i ≡ j
  through_determines {i} {j} l m x (inl X) (inl Y) = beside_determines (rising-chain A.chain) l m X.1.2 Y.1.2
  through_determines l m x (inl X) (inr Y) = absurd (omega (arith, X.0, Y.0))
  through_determines l m x (inr X) (inl Y) = absurd (omega (arith, X.0, Y.0))
  through_determines {i} {j} l m x (inr X) (inr Y) = facet_determines (rising-chain A.chain) X.1.3 Y.1.3 l m

  pub through_not_above : {i : ℕ} {x : List (ℕ → ℕ)} → Through R T s a i x → Above R label_of T (suc s) a x → ⊥
  through_not_above (inl X) Y = omega (arith, X.0, Y.3.size, Y.4.sizes)
  through_not_above (inr X) Y = omega (arith, X.0, Y.3.size, Y.4.sizes)

-- up from any place with a label outside T
module _ {R : Blocks} {label_of : (ℕ → ℕ) → ℕ} {T : ℕ → Bool} {t : ℕ} {o : ℕ → ℕ} {a : List (ℕ → ℕ)}
    (A : LabelledChain R label_of T t o a) {m : ℕ} (X : Extra T t (λ j. label_of (list_at a j)) m) where
  abbrev T+ : ℕ → Bool
  T+ = plus T (label_of (list_at a m))

  L : Less T+ T (label_of (list_at a m))
  L = plus_is T _ X.out

  pub up_link : {p+ : ℕ → ℕ → ℕ} {o+ : ℕ → ℕ} {i : ℕ} → Grown R T+ t (list_at a) p+ o+ i
      → Enlarged R label_of T t a T+ o+ (tabulate (suc (suc t)) p+) i
  up_link {p+} {o+} {i} G = record {
    place = S;
    above = (T+, suc t, o+, S, E);
    back = inr (A.size, (T, o, A.chain, cut));
    carries = facet-carry label_of cut cov;
    link = record { T = T; t = t; o = o; place = A; onto = (T+, suc t, o+, S, inr (inl E)) };
  }
    where
      x : List (ℕ → ℕ)
      x = tabulate (suc (suc t)) p+

      cov : Covers label_of T+ t (list_at a)
      cov = larger_covers label_of A.chain A.covers X L

      S : LabelledChain R label_of T+ (suc t) o+ x
      S = chain_tabulate label_of G.chain (carries_cover label_of (suc t) i p+ (facet-carry label_of G.cut cov))

      cut : Omit (suc t) i (list_at x) (list_at a)
      cut = omit_tabulate (λ j l. sym (list_at_tabulate (suc (suc t)) p+ j l)) G.cut

      E : Extended label_of T t a T+ (suc t) x
      E = record {
        sizes = refl;
        part = λ j b.
            let y : j < suc t = omega arith in
            let w = from_omit j cut y in
            (w.0, omega (arith, w.2), sym w.1);
        covers = cov;
        inside = larger_inside label_of A.chain A.covers X L;
      }

  pub up_way : ((x : List (ℕ → ℕ)) × Above R label_of T t a x × Link R label_of a x)
      ⊎ PlaceEnd R label_of t a (label_of (list_at a m))
  up_way =
      ⊎_elim (λ G. let B = up_link G.3 in inl (tabulate (suc (suc t)) G.0, B.above, B.link))
      (λ c. inr c)
      (up_or label_of A.chain A.covers X L)

  pub above_not_end : {x : List (ℕ → ℕ)} → Above R label_of T t a x → (h : ℕ) → PlaceEnd R label_of t a h → ⊥
  above_not_end {x} Y h c = go (larger A Y.3 Y.4)
    where
      go : (length x ≡ suc (suc t)) × ((g : ℕ) × Less Y.0 T g × ((i : ℕ) × Grown R Y.0 t (list_at a) (list_at x) Y.2 i))
          → ⊥
      go G =
          let e : G.1.0 ≡ label_of (list_at a m) = larger_is label_of A.chain A.covers X G.1.1 Y.4.covers in
          up_not_complete label_of A.chain A.covers X (rw e at G.1.1) G.1.2.1 h c

-- a place of two or more points, reached from b
module _ {R : Blocks} {label_of : (ℕ → ℕ) → ℕ} {T : ℕ → Bool} {s : ℕ} {o : ℕ → ℕ} {a : List (ℕ → ℕ)}
    (A : LabelledChain R label_of T (suc s) o a) where
  -- a place end stands only where a label is outside T
  pub end_extra : (h : ℕ) → PlaceEnd R label_of (suc s) a h → (m : ℕ) × Extra T (suc s) (λ j. label_of (list_at a j)) m
  end_extra h c =
      ⊎_elim (λ (w : (m : ℕ) × (n : ℕ) × Twice T (suc s) (λ j. label_of
      (list_at a j)) m n). absurd (inside_not_complete label_of A.chain A.covers w.2.all h c))
      (λ w. w) (kinds label_of A.chain A.covers)

  pub end_not_through : {i h : ℕ} → FacetEnd R label_of T s a i h → (x : List (ℕ → ℕ)) → Through R T s a i x → ⊥
  end_not_through {i} {h} F x X = through_not_filled A F.bound x X h (end_fill A F)

  -- one end at most, by kind, block and points
  pub one-place-end : (h h' : ℕ) → PlaceEnd R label_of (suc s) a h → PlaceEnd R label_of (suc s) a h'
      → R.block h ≡ R.block h'
  one-place-end h h' c c' =
      let w = end_extra h c in
      complete-at label_of A.chain A.covers w.1 h c ∙ sym (complete-at label_of A.chain A.covers w.1 h' c')

  pub one-facet-end : {i h i' h' : ℕ} → FacetEnd R label_of T s a i h → FacetEnd R label_of T s a i' h'
      → (i ≡ i') × (R.block h ≡ R.block h')
  one-facet-end {i} {h} {i'} {h'} F F' =
      let f = end_fill A F in
      let f' = end_fill A F' in
      let e : i ≡ 0 = fills_first A.chain i (h, f) in
      let e' : i' ≡ 0 = fills_first A.chain i' (h', f') in
      (e ∙ sym e', fills-block A.chain h (rw e at f) ∙ sym (fills-block A.chain h' (rw e' at f')))

-- the place of one point: one link or one place end
module _ {R : Blocks} {label_of : (ℕ → ℕ) → ℕ} {T : ℕ → Bool} {o : ℕ → ℕ} {a : List (ℕ → ℕ)}
    (A : LabelledChain R label_of T 0 o a) where
  pub start_extra : Extra T 0 (λ j. label_of (list_at a j)) 0
  start_extra =
      ⊎_elim (λ w. let z = A.chain.order.all (label_of (list_at a w.0))
      (w.2.all w.0 w.2.first) in absurd (omega (arith, z.1)))
      (λ w. let e : w.0 ≡ 0 = omega (arith, w.1.first) in rw e at w.1)
      (kinds label_of A.chain A.covers)

  pub start-onward : ((x : List (ℕ → ℕ)) × Link R label_of a x) ⊎ ((h : ℕ) × PlaceEnd R label_of 0 a h)
  start-onward =
      ⊎_elim (λ Y. inl (Y.0, Y.2))
      (λ c. inr (label_of (list_at a 0), c))
      (up_way A start_extra)

  pub start_not_both : {x : List (ℕ → ℕ)} → Link R label_of a x → (h : ℕ) → PlaceEnd R label_of 0 a h → ⊥
  start_not_both {x} L h c = above_not_end A start_extra (start_exit A (from-same R label_of A L)) h c

  pub start-one-end : (h h' : ℕ) → PlaceEnd R label_of 0 a h → PlaceEnd R label_of 0 a h' → R.block h ≡ R.block h'
  start-one-end h h' c c' = complete-at label_of A.chain A.covers start_extra h c
      ∙ sym (complete-at label_of A.chain A.covers start_extra h' c')
