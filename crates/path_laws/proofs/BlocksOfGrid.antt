-- The blocks of a grid as blocks of the geometry. In order: next, previous, block and start agree; going back from an
-- index; a point and its coefficients as a function determine each other. Assumes nothing.
use mathlib.Core.Bool.{Bool, true, false, not}
use mathlib.Core.List.{List, [], ◌∷◌, map}
use mathlib.Core.Logic.{⊎_elim}
use mathlib.Core.Path.{◌≡◌, refl, sym, ap, ◌∙◌, fun_ext}
use Prim.Native.Nat.{ℕ, zero, suc, ◌+◌, ◌-◌, ◌≤◌, ◌<◌}
use borrow.Author.Tests.{eqb-true, eq-eqb, ne_eqb, lt-ltb, le-ltb, lt-leb, le-leb, not-true, not-false}
use lib.Dec.{eqb}
use lib.ListN.{length, get_or, take, get_or-eq_default}
use lib.Seq.{ext_get_or}
use native.Mathlib.Omega.{arith}
use Rattle.combinatorics.proofs.Basics.{same_or, absurd_bool, before_or_not, and_both, and_left, and_right}
use Rattle.combinatorics.proofs.Lists.{in_all, all_in, on_numbers}
use Rattle.combinatorics.specs.Lists.{sum, all, is_in, up_from}
use Rattle.geometry.proofs.Search.{find}
use Rattle.geometry.proofs.Definitions.{Blocks, back, coord, HasZeros, Grid as OnRing, BackOutside}
use Rattle.geometry.proofs.Places.{coefficients as same-coefficients}
use Rattle.geometry.proofs.Points.{own_block, ring, point, next-beyond, point-on, at-point}
use Rattle.geometry.proofs.BlocksOfSizes.{blocks_of_sizes, next_wrap, next-inside, next-outside as nx-later}
use Rattle.geometry.proofs.Sizes.{next_of, block_number, distance_of, upto, shift, SameSums}
use Rattle.grid_points.proofs.Round.{next-first, next-later, block_at, block-fits, seat, next-previous}
use Rattle.grid_points.specs.Grid.{Point, at, num_blocks, num_indices, first_index, size, division, blocks, indices_of}
use Rattle.grid_points.specs.Grid.{lent}
use Rattle.grid_points.specs.Grid.{block_in}
use Rattle.grid_points.specs.Grid.{block_of, next, previous, is_grid_point}
use Rattle.place.specs.Coefficients.{IsCoefficients, coefficients}
use Rattle.place.specs.Places.{search_back, first_back_outside}
use Rattle.place.specs.Problem.{Problem}
use Rattle.path_laws.proofs.Coefficients.{coefficients-are}
use Rattle.path_laws.specs.Demand.{HasStart}

next-is : (ss ds : List ℕ) (k : ℕ) → k < sum ss → next_of ss k ≡ next (lent ss ds) k
next-is [] ds k l = absurd (omega arith)
next-is (s ∷ ss) ds k l = ⊎_elim
    (λ (a : k < s). ⊎_elim
    (λ (e : suc k ≡ s). next_wrap s ss k e ∙ sym (next-first s ss ds k a ∙ (rw (eq-eqb (suc k) (0 + s) (omega arith)))))
    (λ (n : suc k ≡ s → ⊥). next-inside s ss k (omega (arith, n))
    ∙ sym (next-first s ss ds k a ∙ (rw (ne_eqb (suc k) (0 + s) (λ e. n (omega arith))))))
    (same_or (suc k) s))
    (λ (a : s ≤ k).
    let e : s + (k - s) ≡ k = omega arith in
    nx-later s ss k a
    ∙ ap (λ (i : ℕ). s + i) (next-is ss ds (k - s) (omega arith))
    ∙ sym (next-later s ss ds ds (k - s))
    ∙ ap (next (lent (s ∷ ss) ds)) e)
    (before_or_not k s)

block-is : (ss : List ℕ) (k : ℕ) → k < sum ss → block_number ss k ≡ block_in ss k
block-is [] k l = absurd (omega arith)
block-is (s ∷ ss) k l = ⊎_elim
    (λ (a : k < s). rw (lt-ltb k s a))
    (λ (a : s ≤ k). rw (le-ltb k s a) (ap suc (block-is ss (k - s) (omega arith))))
    (before_or_not k s)

-- how far it is back inside a block: less than its size
distance-near : (ss : List ℕ) (h k : ℕ) → h < sum ss → block_number ss h ≡ block_number ss k
    → distance_of ss h k < get_or ss (block_number ss h) 0
distance-near [] h k l e = absurd (omega arith)
distance-near (s ∷ ss) h k l e = ⊎_elim
    (λ (a : h < s). ⊎_elim
    (λ (b : k < s). rw (lt-ltb h s a) (⊎_elim
    (λ (c : h < k). rw (lt-leb k h c) (omega arith))
    (λ (c : k ≤ h). rw (le-leb k h c) (omega arith))
    (before_or_not h k)))
    (λ (b : s ≤ k). absurd (omega (arith, rw (lt-ltb h s a, le-ltb k s b) at e)))
    (before_or_not k s))
    (λ (a : s ≤ h). ⊎_elim
    (λ (b : k < s). absurd (omega (arith, rw (le-ltb h s a, lt-ltb k s b) at e)))
    (λ (b : s ≤ k).
    let x : suc (block_number ss (h - s)) ≡ suc (block_number ss (k - s)) = rw (le-ltb h s a, le-ltb k s b) at e in
    rw (le-ltb h s a) (distance-near ss (h - s) (k - s) (omega arith) (omega arith)))
    (before_or_not k s))
    (before_or_not h s)

pub back_shift : (f : ℕ → ℕ) (n h : ℕ) → back f n (f h) ≡ f (back f n h)
back_shift f zero h = refl
back_shift f (suc n) h = ap f (back_shift f n h)

-- the first index going back that is not in U is one
pub before_same : {R : Blocks} {U : ℕ → Bool} {h n m : ℕ} → BackOutside R U h n → BackOutside R U h m → n ≡ m
before_same {n} {m} a b = ⊎_elim
    (λ (l : n < m). absurd_bool (sym (b.skipped n a.some l) ∙ a.stops))
    (λ (l : m ≤ n).
    ⊎_elim (λ (k : m < n). absurd_bool (sym (a.skipped m b.some k) ∙ b.stops)) (λ k. omega arith) (before_or_not m n))
    (before_or_not n m)

upto_cong : {f g : ℕ → ℕ} → ((k : ℕ) → f k ≡ g k) → (n : ℕ) → upto f n ≡ upto g n
upto_cong e n = ap (λ (h : ℕ → ℕ). upto h n) (fun_ext e)

upto_front : (f : ℕ → ℕ) (n : ℕ) → upto f (suc n) ≡ f 0 + upto (λ k. f (suc k)) n
upto_front f zero = omega arith
upto_front f (suc n) = omega (arith, upto_front f n)

sum_upto : (f : ℕ → ℕ) (b n : ℕ) → sum (map f (up_from b n)) ≡ upto (λ k. f (b + k)) n
sum_upto f b zero = refl
sum_upto f b (suc n) =
    let e : b + 0 ≡ b = omega arith in
    omega (
      arith,
      sum_upto f (suc b) n,
      upto_front (λ k. f (b + k)) n,
      ap f e,
      upto_cong (λ k. let w : suc b + k ≡ b + suc k = omega arith in ap f w) n,
    )

sums_at : (ss : List ℕ) (v y : ℕ → ℕ) → SameSums ss v y → (j : ℕ)
    → upto (λ k. v (sum (take j ss) + k)) (get_or ss j 0) ≡ upto (λ k. y (sum (take j ss) + k)) (get_or ss j 0)
sums_at [] v y e j = refl
sums_at (s ∷ ss) v y e zero = upto_cong (λ k. let w : 0 + k ≡ k = omega arith in ap v w) s
    ∙ e.0
    ∙ upto_cong (λ k. let w : k ≡ 0 + k = omega arith in ap y w) s
sums_at (s ∷ ss) v y e (suc j) =
    let x : ℕ = sum (take j ss) in
    upto_cong (λ k. let w : s + x + k ≡ s + (x + k) = omega arith in ap v w) (get_or ss j 0)
    ∙ sums_at ss (shift s v) (shift s y) e.1 j
    ∙ upto_cong (λ k. let w : s + (x + k) ≡ s + x + k = omega arith in ap y w) (get_or ss j 0)

-- the ring of a problem, and a point's coefficients as a function
abbrev pub blocks_of : Problem → Blocks
blocks_of p = ring p.grid.sizes p.start

abbrev pub point_of : Problem → (ℕ → ℕ) → Point
point_of p = point p.grid.sizes p.start

abbrev pub coefficient_of : Problem → Point → ℕ → ℕ
coefficient_of p y = at (coefficients p y)

module _ (p : Problem) where
  pub next_agrees : (k : ℕ) → k < num_indices p.grid → (blocks_of p).next k ≡ next p.grid k
  unfolding ring blocks_of_sizes
  next_agrees k l = next-is p.grid.sizes p.grid.divisions k l

  pub next-outside : (k : ℕ) → num_indices p.grid ≤ k → (blocks_of p).next k ≡ k
  unfolding ring blocks_of_sizes
  next-outside k l = next-beyond p.grid.sizes k (omega arith)

  pub start-inside : (k : ℕ) → k < num_indices p.grid → (blocks_of p).start k ≡ at p.start k
  unfolding ring blocks_of_sizes
  start-inside k l = rw (lt-ltb k (sum p.grid.sizes) (omega arith))

  pub start_outside : (k : ℕ) → num_indices p.grid ≤ k → (blocks_of p).start k ≡ 1
  unfolding ring blocks_of_sizes
  start_outside k l = rw (le-ltb k (sum p.grid.sizes) (omega arith))

  pub block_agrees : (j i : ℕ) → i < size p.grid j → (blocks_of p).block (first_index p.grid j + i) ≡ j
  unfolding ring blocks_of_sizes
  block_agrees j i l = block-is p.grid.sizes _ (omega (arith, block-fits p.grid.sizes j)) ∙ block_at p.grid.sizes j i l

  -- beyond the blocks every index is a block of its own
  pub block-own : (k f : ℕ) → num_indices p.grid ≤ k → (blocks_of p).block k ≡ (blocks_of p).block f → k ≡ f
  unfolding ring blocks_of_sizes
  block-own k f l e = own_block p.grid.sizes k f (omega arith) e

  -- an index of block j by its ring
  pub block_inside : (j k : ℕ) → j < num_blocks p.grid → 0 < size p.grid j → (blocks_of p).block k ≡ j
      → (first_index p.grid j ≤ k) × (k < first_index p.grid j + size p.grid j)
  block_inside j k lj ls e =
      let g = p.grid in
      ⊎_elim
      (λ (l : k < num_indices g). let s = seat g k l in
      let q : s.j ≡ j = sym (block_agrees s.j s.i s.inside) ∙ ap (blocks_of p).block (sym s.is) ∙ e in
      rw (← q) (omega (arith, s.is), omega (arith, s.is, s.inside)))
      (λ (l : num_indices g ≤ k).
      let q : k ≡ first_index g j + 0 = block-own k _ l (e ∙ sym (block_agrees j 0 ls)) in
      absurd (omega (arith, block-fits g.sizes j))) (before_or_not k (num_indices g))

  pub previous_agrees : (k : ℕ) → k < num_indices p.grid → (blocks_of p).previous k ≡ previous p.grid k
  previous_agrees k l = let e = next-previous p.grid k l in
      ap (blocks_of p).previous (sym e.0 ∙ sym (next_agrees _ e.1)) ∙ (blocks_of p).previous-next (previous p.grid k)

  pub back_below : (n h : ℕ) → h < num_indices p.grid → back (blocks_of p).previous n h < num_indices p.grid
  back_below zero h l = l
  back_below (suc n) h l = let i = back_below n h l in
      omega (arith, previous_agrees _ i, (next-previous p.grid _ i).1)

  search_back_lem : (u : List ℕ) (fuel n h : ℕ) → h < num_indices p.grid → n < fuel
      → ((j : ℕ) → j < n → is_in eqb (back (blocks_of p).previous (suc j) h) u ≡ true)
      → is_in eqb (back (blocks_of p).previous (suc n) h) u ≡ false
      → search_back p.grid u fuel h ≡ back (blocks_of p).previous (suc n) h
  search_back_lem u zero n h l c s o = absurd (omega arith)
  search_back_lem u (suc fuel) zero h l c s o =
      let e = previous_agrees h l in
      let m : is_in eqb (previous p.grid h) u ≡ false = rw e at o in
      rw m (sym e)
  search_back_lem u (suc fuel) (suc n) h l c s o =
      let e = previous_agrees h l in
      let m : is_in eqb (previous p.grid h) u ≡ true = rw e at (s 0 (omega arith)) in
      let w : (j : ℕ)
      → back (blocks_of p).previous (suc j) (previous p.grid h) ≡ back (blocks_of p).previous (suc (suc j)) h =
      λ j. ap (back (blocks_of p).previous (suc j)) (sym e) ∙ back_shift (blocks_of p).previous (suc j) h in
      rw m (search_back_lem u fuel n (previous p.grid h) (next-previous p.grid h l).1 (omega arith)
      (λ j d. rw (w j) (s (suc j) (omega arith)))
      (rw (w n) o) ∙ w n)

  pub near-block : (h f : ℕ) → h < num_indices p.grid → (blocks_of p).block f ≡ (blocks_of p).block h
      → (blocks_of p).distance h f < size p.grid (block_of p.grid h)
  unfolding ring blocks_of_sizes
  near-block h f l e = rw (block-is p.grid.sizes h l) at (distance-near p.grid.sizes h f l (sym e))

  -- document 01's b, where some other index of the block is not in u
  pub outside-before : (u : List ℕ) (h f : ℕ) → h < num_indices p.grid → (blocks_of p).block f ≡ (blocks_of p).block h
      → (f ≡ h → ⊥) → is_in eqb f u ≡ false
      → (n : ℕ) × BackOutside (blocks_of p) (λ k. is_in eqb k u) h n
      × (first_back_outside p.grid u h ≡ back (blocks_of p).previous n h)
  unfolding first_back_outside
  outside-before u h f l e n o =
      let R = blocks_of p in
      let d : ℕ = R.distance h f in
      let w : back R.previous d h ≡ f = R.reached h f (sym e) in
      let d0 : (d ≡ 0 → ⊥) = λ z. n (sym w ∙ ap (λ (i : ℕ). back R.previous i h) z) in
      let dl : d < size p.grid (block_of p.grid h) = near-block h f l e in
      let x : suc (d - 1) ≡ d = omega (arith, d0) in
      ⊎_elim
      (λ i.
      let out : is_in eqb (back R.previous (suc i.0) h) u ≡ false = not-true _ i.2 in
      let on : (j : ℕ) → j < i.0 → is_in eqb (back R.previous (suc j) h) u ≡ true = λ j m.
      not-false (is_in eqb (back R.previous (suc j) h) u) (i.3 j m) in (
        suc i.0,
        record {
          some = omega arith;
          skipped = λ j a b. let y : suc (j - 1) ≡ j = omega arith in rw y at (on (j - 1) (omega arith));
          stops = out;
        },
        search_back_lem u (size p.grid (block_of p.grid h)) i.0 h l (omega (arith, i.1)) on out,
      ))
      (λ i. absurd_bool
      (sym (not-false (is_in eqb (back R.previous (suc (d - 1)) h) u) (i (d - 1) (omega (arith, d0))))
      ∙ (rw x (ap (λ (k : ℕ). is_in eqb k u) w ∙ o))))
      (find (λ j. not (is_in eqb (back R.previous (suc j) h) u)) d)

  -- coefficients on the ring
  module _ {y : Point} {c : List ℕ} (hc : IsCoefficients p y c) where
    pub beyond : (k : ℕ) → num_indices p.grid ≤ k → at c k ≡ 0
    beyond k l = get_or-eq_default c 0 (omega (arith, hc.numbers))

    pub on_ring : OnRing (blocks_of p) (at c)
    on_ring k = ⊎_elim
        (λ (l : k < num_indices p.grid). omega (arith, hc.rule k l, ap (at c) (next_agrees k l), start-inside k l))
        (λ (l : num_indices p.grid ≤ k). omega (arith, ap (at c) (next-outside k l)))
        (before_or_not k (num_indices p.grid))

    pub has_zeros : HasZeros (blocks_of p) (at c)
    has_zeros h =
        let g = p.grid in
        ⊎_elim
        (λ (l : h < num_indices g). let s = seat g h l in let z = hc.zero s.j s.block in
        let q : z.0 ≡ first_index g s.j + (z.0 - first_index g s.j) = omega (arith, z.1) in (
          z.0,
          ap (blocks_of p).block q ∙ block_agrees s.j _ (omega (arith, z.1, z.2))
              ∙ sym (ap (blocks_of p).block s.is ∙ block_agrees s.j s.i s.inside),
          z.3,
        )) (λ (l : num_indices g ≤ h). (h, refl, beyond h l)) (before_or_not h (num_indices g))

    pub coord_in : (k : ℕ) → k < num_indices p.grid → coord (blocks_of p) (at c) k ≡ at y k
    coord_in k l = omega (arith, hc.rule k l, ap (at c) (next_agrees k l), start-inside k l)

    pub coord_out : (k : ℕ) → num_indices p.grid ≤ k → coord (blocks_of p) (at c) k ≡ 1
    coord_out k l = omega (arith, ap (at c) (next-outside k l), start_outside k l)

module _ {p : Problem} (ok : HasStart p) where
  pub coefficient_of_is : (y : Point) → is_grid_point p.grid y ≡ true → IsCoefficients p y (coefficients p y)
  coefficient_of_is y h = coefficients-are p y ok.same_number ok.sizes ok.start h

  -- what has coefficients is a grid point
  pub point-grid : (c : ℕ → ℕ) → OnRing (blocks_of p) c → is_grid_point p.grid (point_of p c) ≡ true
  unfolding is_grid_point
  point-grid c g =
      let o = point-on p.grid.sizes p.start c g in
      let y = point_of p c in
      let G = p.grid in
      and_both _ _ (eq-eqb _ _ o.size)
      (in_all on_numbers _ (blocks G) (λ j m.
      let s : sum (map (at p.start) (indices_of G j)) ≡ division G j = eqb-true _ _
      (all_in on_numbers
      (λ j. eqb (sum (map (at p.start) (indices_of G j))) (division G j))
      (blocks G) (and_right (eqb (length p.start) (num_indices G))
      (all (λ j. eqb (sum (map (at p.start) (indices_of G j))) (division G j)) (blocks G)) ok.start) j m) in
      eq-eqb _ _ (sum_upto (at y) _ (size G j) ∙ sym (sums_at G.sizes (at p.start) (at y) o.sums j)
      ∙ sym (sum_upto (at p.start) _ (size G j)) ∙ s)))

  -- there and back
  pub coefficient_of_point : {c : ℕ → ℕ} → OnRing (blocks_of p) c → HasZeros (blocks_of p) c
      → coefficient_of p (point_of p c) ≡ c
  coefficient_of_point {c} g n =
      let y = point_of p c in
      let hc = coefficient_of_is y (point-grid c g) in
      same-coefficients (blocks_of p) (on_ring p hc) g (has_zeros p hc) n
      (λ k. ⊎_elim
      (λ (l : k < num_indices p.grid). coord_in p hc k l ∙ at-point p.grid.sizes p.start c k (omega arith))
      (λ (l : num_indices p.grid ≤ k).
      coord_out p hc k l ∙ sym (omega (arith, ap c (next-outside p k l), start_outside p k l)))
      (before_or_not k (num_indices p.grid)))

  pub point_coefficient_of : (y : Point) → is_grid_point p.grid y ≡ true → point_of p (coefficient_of p y) ≡ y
  unfolding is_grid_point
  point_coefficient_of y h =
      let hc = coefficient_of_is y h in
      let o = point-on p.grid.sizes p.start _ (on_ring p hc) in
      let ly : length y ≡ num_indices p.grid = eqb-true _ _ (and_left _ _ h) in
      ext_get_or 0 (point_of p (coefficient_of p y)) y (o.size ∙ sym ly) (λ k l.
      let m : k < sum p.grid.sizes = omega (arith, o.size) in
      at-point p.grid.sizes p.start _ k m ∙ coord_in p hc k (omega arith))
