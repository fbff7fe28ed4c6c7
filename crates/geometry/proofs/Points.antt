-- Points as lists of coordinates over blocks of given sizes: a list of coefficients gives a grid point with those
-- coordinates. Assumes nothing.
use mathlib.Core.Bool.{Bool, true, false}
use mathlib.Core.List.{List, [], ◌∷◌, map}
use mathlib.Core.Logic.{⊎_elim}
use mathlib.Core.Path.{◌≡◌, refl, sym, ap, ◌∙◌}
use Prim.Native.Nat.{ℕ, zero, suc, ◌-◌, ◌<◌, ◌+◌, ◌≤◌}
use borrow.Author.Tests.{lt-ltb}
use lib.ListN.{length, get_or}
use native.Mathlib.Omega.{arith}
use Rattle.combinatorics.specs.Lists.{sum}
use Rattle.combinatorics.proofs.Basics.{absurd_bool, before_or_not, same_or}
use Rattle.geometry.proofs.Definitions.{back, Free, Blocks, Grid, coord}
use Rattle.geometry.proofs.LabelledChains.{list_at, tabulate}
use Rattle.geometry.proofs.Onward.{length_tabulate, get_d_tabulate}
use Rattle.geometry.proofs.BlocksOfSizes.{blocks_of_sizes, reached_of, previous-outside, next_wrap, next-inside}
use Rattle.geometry.proofs.BlocksOfSizes.{next-outside}
use Rattle.geometry.proofs.Sizes.{SameSums, previous_of, block_number, distance_of, next_of, upto, shift, start_of}

abbrev pub at : List ℕ → ℕ → ℕ
at y k = get_or y k 0

-- y has a number for each index, and each block adds up as in the start
pub record OnGrid (ss v y : List ℕ) : Type 0 where
  pub size : length y ≡ sum ss
  pub sums : SameSums ss (at v) (at y)

abbrev pub nth : List (List ℕ) → ℕ → List ℕ
nth ps j = get_or ps j []

pub list_at-map : (f : List ℕ → ℕ → ℕ) (ps : List (List ℕ)) (j : ℕ) → j < length ps → list_at (map f ps) j ≡ f (nth ps j)
list_at-map f [] j l = absurd (omega arith)
list_at-map f (y ∷ ps) zero l = refl
list_at-map f (y ∷ ps) (suc j) l = list_at-map f ps j (omega arith)

-- beyond the last block every index is a block of its own
previous-beyond : (ss : List ℕ) (k : ℕ) → sum ss ≤ k → previous_of ss k ≡ k
previous-beyond [] k l = refl
previous-beyond (s ∷ ss) k l = previous-outside s ss k (omega arith)
    ∙ ap (λ (i : ℕ). s + i) (previous-beyond ss (k - s) (omega arith))
    ∙ omega arith

back-beyond : (ss : List ℕ) (k n : ℕ) → sum ss ≤ k → back (previous_of ss) n k ≡ k
back-beyond ss k zero l = refl
back-beyond ss k (suc n) l = ap (previous_of ss) (back-beyond ss k n l) ∙ previous-beyond ss k l

pub own_block : (ss : List ℕ) (k f : ℕ) → sum ss ≤ k → block_number ss k ≡ block_number ss f → k ≡ f
own_block ss k f l e = sym (back-beyond ss k (distance_of ss k f) l) ∙ reached_of ss k f e

module _ (ss : List ℕ) (v : ℕ → ℕ) {T : ℕ → Bool} (c : ℕ → ℕ) (free : Free (blocks_of_sizes ss v) T c) where
  free-is : (h : ℕ) → (f : ℕ) × (block_number ss f ≡ block_number ss h) × (T f ≡ false)
  unfolding blocks_of_sizes
  free-is h = let f = free h in (f.0, f.1, f.2)

  pub in_range_lem : (k : ℕ) → T k ≡ true → k < sum ss
  in_range_lem k e = ⊎_elim
      (λ l. l)
      (λ (l : sum ss ≤ k). let f = free-is k in absurd_bool (sym e ∙ ap T (own_block ss k f.0 l (sym f.1)) ∙ f.2))
      (before_or_not k (sum ss))

-- and the other way: coordinates from coefficients add up as the start does
telescope : (s : ℕ) (ss : List ℕ) (v c y : ℕ → ℕ) → ((k : ℕ) → k < s → y k + c (next_of (s ∷ ss) k) ≡ v k + c k)
    → (n : ℕ) → n < s
    → upto y n + c n ≡ upto v n + c 0
telescope s ss v c y h zero l = omega arith
telescope s ss v c y h (suc n) l =
    omega (arith, telescope s ss v c y h n (omega arith), h n (omega arith), ap c (next-inside s ss n l))

sums_of : (ss : List ℕ) (v c y : ℕ → ℕ) → ((k : ℕ) → k < sum ss → y k + c (next_of ss k) ≡ v k + c k)
    → SameSums ss v y
sums_of [] v c y h = tt
sums_of (s ∷ ss) v c y h = (
  ⊎_elim
      (λ (z : s ≡ 0). rw z refl)
      (λ (n : s ≡ 0 → ⊥).
      let w : suc (s - 1) ≡ s = omega (arith, n) in
      let a : upto v s ≡ upto v (s - 1) + v (s - 1) = ap (upto v) (sym w) in
      let b : upto y s ≡ upto y (s - 1) + y (s - 1) = ap (upto y) (sym w) in
      omega (
        arith,
        a,
        b,
        telescope s ss v c y (λ k l. h k (omega arith)) (s - 1) (omega arith),
        h (s - 1) (omega arith),
        ap c (next_wrap s ss (s - 1) w),
      ))
      (same_or s 0),
  sums_of ss (shift s v) (shift s c) (shift s y) (λ k l.
      let e : s + k - s ≡ k = omega arith in
      let x : next_of (s ∷ ss) (s + k) ≡ s + next_of ss k =
      next-outside s ss (s + k) (omega arith) ∙ ap (λ (i : ℕ). s + next_of ss i) e in
      omega (arith, h (s + k) (omega arith), ap c x)),
)

-- beyond the last block every index is next to itself
pub next-beyond : (ss : List ℕ) (k : ℕ) → sum ss ≤ k → next_of ss k ≡ k
next-beyond [] k l = refl
next-beyond (s ∷ ss) k l =
    next-outside s ss k (omega arith) ∙ ap (λ (i : ℕ). s + i) (next-beyond ss (k - s) (omega arith)) ∙ omega arith

module _ (ss v : List ℕ) where
  unfoldable pub ring : Blocks
  ring = blocks_of_sizes ss (at v)

  -- the point with coefficients c
  pub point : (ℕ → ℕ) → List ℕ
  point c = tabulate (sum ss) (coord ring c)

  pub at-point : (c : ℕ → ℕ) (k : ℕ) → k < sum ss → at (point c) k ≡ coord ring c k
  unfolding point
  at-point c k l = get_d_tabulate 0 (sum ss) _ k l

  coord_is : (c : ℕ → ℕ) (k : ℕ) → coord ring c k ≡ start_of ss (at v) k + c k - c (next_of ss k)
  unfolding ring blocks_of_sizes
  coord_is c k = refl

  grid-is : (c : ℕ → ℕ) → Grid ring c → (k : ℕ) → c (next_of ss k) ≤ start_of ss (at v) k + c k
  unfolding ring blocks_of_sizes
  grid-is c g = g

  point-long : (c : ℕ → ℕ) → length (point c) ≡ sum ss
  unfolding point
  point-long c = length_tabulate (sum ss) _

  pub point-on : (c : ℕ → ℕ) → Grid ring c → OnGrid ss v (point c)
  point-on c g = record {
    size = point-long c;
    sums = sums_of ss (at v) c _ (λ k l.
        let e : start_of ss (at v) k ≡ at v k = rw (lt-ltb k (sum ss) l) in
        omega (arith, at-point c k l, coord_is c k, grid-is c g k, e));
  }
