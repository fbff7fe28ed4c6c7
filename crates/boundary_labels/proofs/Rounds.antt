-- Round a block: what holds of one index and goes from each index to the one before it holds of all. So a grid point
-- with a 0 has an index with a 0 behind a positive number. Assumes nothing.
use mathlib.Core.Bool.{Bool, true, false}
use mathlib.Core.List.{map}
use mathlib.Core.Logic.{⊎_elim}
use mathlib.Core.Path.{◌≡◌, refl, sym, ◌∙◌}
use Prim.Native.Nat.{ℕ, zero, suc, pred, ◌+◌, ◌-◌, ◌≤◌, ◌<◌}
use borrow.Author.Tests.{eq-eqb, eqb-true, leb-true, lt-ltb, ltb-true}
use lib.Dec.{eqb, leb, ltb}
use lib.ListN.{length}
use native.Mathlib.Omega.{arith}
use Rattle.combinatorics.proofs.Basics.{absurd_bool, and_both, and_left, and_right, before_or_not, false_of, same_or}
use Rattle.combinatorics.proofs.Basics.{true_or_false}
use Rattle.combinatorics.proofs.Lists.{any_in, at_all, in_any, on_numbers}
use Rattle.combinatorics.specs.Lists.{any, sum, up_from}
use Rattle.grid_points.proofs.Accepted.{Accepted}
use Rattle.grid_points.proofs.Round.{block-fits, previous-at, previous-round, seat}
use Rattle.grid_points.specs.Grid.{Grid, Point, at, division, first_index, indices, is_grid_point, num_blocks, num_indices}
use Rattle.grid_points.specs.Grid.{previous, size}
use Rattle.path_laws.proofs.Meaning.{index_means}
use Rattle.points_in_order.proofs.Blocks.{block-sum}
use Rattle.boundary_labels.specs.Boundary.{is_zero_behind_positive}

-- an index of block j by its place in it
abbrev pub index_at : Grid → ℕ → ℕ → ℕ
index_at g j i = first_index g j + i

module _ (g : Grid) (j : ℕ) where
  -- the index before, and the one behind, by their places in the block
  pub previous_in : (i : ℕ) → i < size g j → (k : ℕ) × (k < size g j) × (previous g (index_at g j i) ≡ index_at g j k)
  previous_in zero c = (pred (size g j), omega arith, previous-round g j c)
  previous_in (suc i) c = (i, omega arith, previous-at g j i c)

  pub next_in_lem : (i : ℕ) → i < size g j → (k : ℕ) × (k < size g j) × (previous g (index_at g j k) ≡ index_at g j i)
  next_in_lem i c =
      ⊎_elim
      (λ (m : suc i < size g j). (suc i, m, previous-at g j i m))
      (λ (m : size g j ≤ suc i).
      let e : i ≡ pred (size g j) = omega arith in (0, omega arith, rw e (previous-round g j (omega arith))))
      (before_or_not (suc i) (size g j))

  module _ (Q : ℕ → Type 0) (back : (i : ℕ) → i < size g j → Q (index_at g j i) → Q (previous g (index_at g j i))) where
    down : (n i : ℕ) → n + i < size g j → Q (index_at g j (n + i)) → Q (index_at g j i)
    down zero i l q = let z : 0 + i ≡ i = omega arith in rw z at q
    down (suc n) i l q =
        let z : suc n + i ≡ suc (n + i) = omega arith in
        let r : Q (index_at g j (suc (n + i))) = rw z at q in
        down n i (omega arith) (rw (previous-at g j (n + i) (omega arith)) at (back (suc (n + i)) (omega arith) r))

    pub round : (k : ℕ) → k < size g j → Q (index_at g j k) → (i : ℕ) → i < size g j → Q (index_at g j i)
    round k l q i m =
        let z : k + 0 ≡ k = omega arith in
        let first : Q (index_at g j 0) = down k 0 (omega arith) (rw z q) in
        let behind = back 0 (omega arith) first in
        let last : Q (index_at g j (pred (size g j))) = rw (previous-round g j (omega arith)) at behind in
        let n : ℕ = pred (size g j) - i in
        let e : n + i ≡ pred (size g j) = omega arith in
        down n i (omega arith) (rw e last)

-- numbers that add up to something are not all 0
zero-sum : (y : Point) (b n : ℕ) → ((i : ℕ) → i < n → at y (b + i) ≡ 0) → sum (map (at y) (up_from b n)) ≡ 0
zero-sum y b zero z = refl
zero-sum y b (suc n) z =
    let e : b + 0 ≡ b = omega arith in
    let h : at y b ≡ 0 = rw e at (z 0 (omega arith)) in
    omega (
      arith,
      h,
      zero-sum y (suc b) n (λ i l.
          let f : b + suc i ≡ suc b + i = omega arith in rw f at (z (suc i) (omega arith))),
    )

-- what the test of rule (1.3) says
module _ (g : Grid) (y : Point) (h : ℕ) where
  pub behind_means : is_zero_behind_positive g y h ≡ true → (at y h ≡ 0) × (0 < at y (previous g h))
  unfolding is_zero_behind_positive
  behind_means t = (
    eqb-true _ _ (and_left (eqb (at y h) 0) (ltb 0 (at y (previous g h))) t),
    ltb-true _ _ (and_right (eqb (at y h) 0) (ltb 0 (at y (previous g h))) t),
  )

  pub means_behind : at y h ≡ 0 → 0 < at y (previous g h) → is_zero_behind_positive g y h ≡ true
  unfolding is_zero_behind_positive
  means_behind z p = and_both _ _ (eq-eqb (at y h) 0 z) (lt-ltb 0 (at y (previous g h)) p)

module _ (g : Grid) (a : Accepted g) (y : Point) (on : is_grid_point g y ≡ true) where
  -- a block is not 0 throughout
  pub not_all_zero : (j : ℕ) → j < num_blocks g → ((i : ℕ) → i < size g j → at y (index_at g j i) ≡ 0) → ⊥
  not_all_zero j l z =
      let s = block-sum g a y on j l in
      let inside : j < length g.divisions = omega (arith, a.same_number) in
      let d : leb 1 (division g j) ≡ true = at_all (λ d. leb 1 d) g.divisions j a.divisions_one inside in
      omega (arith, zero-sum y (first_index g j) (size g j) z, leb-true 1 (division g j) d)

  -- where no index has a 0 behind a positive number, a 0 has a 0 before it, and so there is no 0
  pub none-zero : ((h : ℕ) → h < num_indices g → is_zero_behind_positive g y h ≡ false)
      → (h : ℕ) → h < num_indices g → 0 < at y h
  none-zero none h l =
      let t = seat g h l in
      let e = t.is in
      ⊎_elim
      (λ (z : at y h ≡ 0).
      absurd (not_all_zero t.j t.block (round g t.j (λ k. at y k ≡ 0)
      (λ i m q. zero-before (index_at g t.j i) (omega (arith, block-fits g.sizes t.j)) q)
      t.i t.inside (rw e at z))))
      (λ (n : at y h ≡ 0 → ⊥). omega (arith, n))
      (same_or (at y h) 0)
    where
      zero-before : (k : ℕ) → k < num_indices g → at y k ≡ 0 → at y (previous g k) ≡ 0
      zero-before k c z =
          ⊎_elim
          (λ (p : 0 < at y (previous g k)). absurd_bool (sym (means_behind g y k z p) ∙ none k c))
          (λ (n : at y (previous g k) ≤ 0). omega arith)
          (before_or_not 0 (at y (previous g k)))

  -- "a grid point with a 0 has such an index"
  pub has-index : (h : ℕ) → h < num_indices g → at y h ≡ 0
      → (k : ℕ) × (k < num_indices g) × (is_zero_behind_positive g y k ≡ true)
  has-index h l z =
      ⊎_elim
      (λ (t : any q (indices g) ≡ true).
      let w = any_in on_numbers q (indices g) t in (w.0, (index_means g w.0).0 w.1, w.2))
      (λ (f : any q (indices g) ≡ false). absurd (let p = none-zero (unless f) h l in omega arith))
      (true_or_false (any q (indices g)))
    where
      q : ℕ → Bool
      q = is_zero_behind_positive g y

      unless : any q (indices g) ≡ false → (k : ℕ) → k < num_indices g → q k ≡ false
      unless f k m = false_of _ (λ t. absurd_bool (sym (in_any on_numbers q k (indices g) ((index_means g k).1 m) t) ∙ f))
