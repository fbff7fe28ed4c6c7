-- Blocks and indices: the block of an index, the next and the previous index round the block. Assumes nothing.
use mathlib.Core.Bool.{Bool, true, false, cond}
use mathlib.Core.List.{List, [], ◌∷◌}
use mathlib.Core.Logic.{⊎_elim}
use mathlib.Core.Path.{◌≡◌, refl, ap, ◌∙◌}
use Prim.Native.Nat.{ℕ, zero, suc, ◌+◌, ◌-◌, ◌≤◌, ◌<◌, pred}
use borrow.Author.Tests.{eqb-true, eq-eqb, ne_eqb, lt-ltb, le-ltb}
use lib.Dec.{eqb}
use lib.ListN.{length, get_or, take}
use native.Mathlib.Omega.{arith}
use Rattle.combinatorics.proofs.Basics.{before_or_not, both}
use Rattle.combinatorics.specs.Lists.{sum}
use Rattle.grid_points.specs.Grid.{Grid, block_in, first_index, lent, next, num_blocks, num_indices, previous, size}

-- next round the block, by the list of sizes
pub next-first : (s : ℕ) (ss ds : List ℕ) (h : ℕ) → h < s
    → next (lent (s ∷ ss) ds) h ≡ cond (eqb (suc h) (0 + s)) 0 (suc h)
unfolding next
next-first s ss ds h c = rw (lt-ltb h s c)

pub next-later : (s : ℕ) (ss ds es : List ℕ) (k : ℕ) → next (lent (s ∷ ss) ds) (s + k) ≡ s + next (lent ss es) k
unfolding next
next-later s ss ds es k =
    let z : s + k - s ≡ k = omega arith in
    let f : ℕ = sum (take (block_in ss k) ss) in
    let n : ℕ = get_or ss (block_in ss k) 0 in
    let t : eqb (suc (s + k)) (s + f + n) ≡ eqb (suc k) (f + n) = both _ _
    (λ e. eq-eqb (suc k) (f + n) (let w : suc (s + k) ≡ s + f + n = eqb-true _ _ e in omega arith))
    (λ e. eq-eqb (suc (s + k)) (s + f + n) (let w : suc k ≡ f + n = eqb-true _ _ e in omega arith)) in
    rw (le-ltb (s + k) s (omega arith), z, t) (go (eqb (suc k) (f + n)) f)
  where
    go : (b : Bool) (f : ℕ) → cond b (s + f) (suc (s + k)) ≡ s + cond b f (suc k)
    go true f = refl
    go false f = omega arith

-- an index and its block
pub find_block : (ss : List ℕ) (h : ℕ) → h < sum ss
    → (j : ℕ) × (i : ℕ) × (j < length ss) × (i < get_or ss j 0) × (h ≡ sum (take j ss) + i)
find_block [] h c = absurd (omega arith)
find_block (s ∷ ss) h c = ⊎_elim
    (λ l. (0, h, omega arith, l, omega arith))
    (λ l.
    let r = find_block ss (h - s) (omega arith) in
    (suc r.0, r.1, omega (arith, r.2), r.3, omega (arith, r.4)))
    (before_or_not h s)

pub block_at : (ss : List ℕ) (j i : ℕ) → i < get_or ss j 0 → block_in ss (sum (take j ss) + i) ≡ j
block_at [] j i c = absurd (omega arith)
block_at (s ∷ ss) zero i c = let z : 0 + i ≡ i = omega arith in rw (z, lt-ltb i s c)
block_at (s ∷ ss) (suc j) i c =
    let z : s + sum (take j ss) + i - s ≡ sum (take j ss) + i = omega arith in
    rw (le-ltb (s + sum (take j ss) + i) s (omega arith), z) (ap suc (block_at ss j i c))

pub block-fits : (ss : List ℕ) (j : ℕ) → sum (take j ss) + get_or ss j 0 ≤ sum ss
block-fits [] zero = omega arith
block-fits [] (suc j) = omega arith
block-fits (s ∷ ss) zero = omega arith
block-fits (s ∷ ss) (suc j) = omega (arith, block-fits ss j)

pub next-at : (g : Grid) (j i : ℕ) → suc i < size g j → next g (first_index g j + i) ≡ first_index g j + suc i
unfolding next
next-at g j i c =
    let ss = g.sizes in
    let f : ℕ = sum (take j ss) in
    rw (block_at ss j i (omega arith), ne_eqb (suc (f + i)) (f + get_or ss j 0) (λ e. omega arith)) (omega arith)

module _ (g : Grid) where
  pub next-round : (j i : ℕ) → suc i ≡ size g j → next g (first_index g j + i) ≡ first_index g j
  unfolding next
  next-round j i c = rw (
    block_at g.sizes j i (omega arith),
    eq-eqb (suc (first_index g j + i)) (first_index g j + size g j) (omega arith),
  )

  pub previous-at : (j i : ℕ) → suc i < size g j → previous g (first_index g j + suc i) ≡ first_index g j + i
  unfolding previous
  previous-at j i c =
      let f : ℕ = first_index g j in
      let e : pred (f + suc i) ≡ f + i = omega arith in
      rw (block_at g.sizes j (suc i) c, ne_eqb (f + suc i) f (λ e. omega arith)) e

  pub previous-round : (j : ℕ) → 0 < size g j → previous g (first_index g j + 0) ≡ first_index g j + pred (size g j)
  unfolding previous
  previous-round j c =
      let f : ℕ = first_index g j in
      let e : pred (f + size g j) ≡ f + pred (size g j) = omega arith in
      rw (block_at g.sizes j 0 c, eq-eqb (f + 0) f (omega arith)) e

  -- an index by its block and its place in it
  pub record Seat (h : ℕ) : Type 0 where
    pub j : ℕ
    pub i : ℕ
    pub block : j < num_blocks g
    pub inside : i < size g j
    pub is : h ≡ first_index g j + i

  pub seat : (h : ℕ) → h < num_indices g → Seat h
  seat h c = let r = find_block g.sizes h c in record { j = r.0; i = r.1; block = r.2; inside = r.3; is = r.4 }

  pub next-previous : (h : ℕ) → h < num_indices g → (next g (previous g h) ≡ h) × (previous g h < num_indices g)
  next-previous h c = go (seat h c)
    where
      at_seat : (j i : ℕ) → i < size g j
          → (next g (previous g (first_index g j + i)) ≡ first_index g j + i)
          × (previous g (first_index g j + i) < num_indices g)
      at_seat j zero l = rw (previous-round j l, next-round j (pred (size g j)) (omega arith))
          (omega arith, omega (arith, block-fits g.sizes j))
      at_seat j (suc i) l = rw (previous-at j i l, next-at g j i l) (refl, omega (arith, block-fits g.sizes j))

      go : Seat h → (next g (previous g h) ≡ h) × (previous g h < num_indices g)
      go s = rw s.is (at_seat s.j s.i s.inside)

  pub next_low : (h : ℕ) → h < num_indices g → next g h < num_indices g
  next_low h c = go (seat h c)
    where
      at_seat : (j i : ℕ) → i < size g j → next g (first_index g j + i) < num_indices g
      at_seat j i l = ⊎_elim
          (λ (m : suc i < size g j). rw (next-at g j i m) (omega (arith, block-fits g.sizes j)))
          (λ (m : size g j ≤ suc i). rw (next-round j i (omega arith)) (omega (arith, block-fits g.sizes j)))
          (before_or_not (suc i) (size g j))

      go : Seat h → next g h < num_indices g
      go s = rw s.is (at_seat s.j s.i s.inside)

-- an index stands between the first of its block and the first of the next
pub block_spans : (ss : List ℕ) (h : ℕ) → h < sum ss
    → (block_in ss h < length ss) × (sum (take (block_in ss h) ss) ≤ h)
    × (h < sum (take (block_in ss h) ss) + get_or ss (block_in ss h) 0)
block_spans ss h c =
    let r = find_block ss h c in
    let e : block_in ss h ≡ r.0 = ap (block_in ss) r.4 ∙ block_at ss r.0 r.1 r.3 in
    rw e (r.2, omega (arith, r.4), omega (arith, r.3, r.4))
