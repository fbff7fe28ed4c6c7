-- Every division, and so every coordinate of a grid point, is below the number of grid points; and where no division is
-- above a number, no coordinate is. Assumes nothing.
use mathlib.Core.Bool.{true}
use mathlib.Core.List.{List, [], ◌∷◌}
use mathlib.Core.Logic.{⊎_elim}
use mathlib.Core.Path.{◌≡◌, refl, subst}
use Prim.Native.Nat.{ℕ, zero, suc, pred, ◌+◌, ◌-◌, ◌*◌, ◌≤◌, ◌<◌}
use borrow.Author.Tests.{leb-true, le-leb}
use lib.Dec.{leb}
use lib.ListN.{length, get_or, get_or-append}
use lib.Seq.{get_or-append-add}
use native.Mathlib.Nat.{mul-le-mul}
use native.Mathlib.Omega.{arith}
use Rattle.combinatorics.proofs.Basics.{before_or_not, and_both, and_left, and_right}
use Rattle.combinatorics.specs.Counting.{choose, binomial_product}
use Rattle.combinatorics.specs.Lists.{all}
use Rattle.combinatorics.proofs.Binomials.{choose-positive}
use Rattle.grid_counts.proofs.SizeRange.{at_sum}
use Rattle.grid_points.proofs.Accepted.{Accepted, InLimits}
use Rattle.grid_points.proofs.Listing.{num_points-is}
use Rattle.grid_points.proofs.Points.{Fits, none, block, fits_of}
use Rattle.grid_points.specs.Grid.{Grid, Point, at, num_blocks, num_points, division, is_grid_point}

choose-many : (d n : ℕ) → d < choose (d + suc n) (suc n)
choose-many zero n = choose-positive 0 (suc n)
choose-many (suc d) n =
    let w : suc d + suc n ≡ suc (d + suc n) = omega arith in
    let v : suc d + n ≡ d + suc n = omega arith in
    rw w (omega (arith, choose-many d n, rw v at (choose-positive (suc d) n)))

divisions-below : (ss ds : List ℕ) → all (λ s. leb 2 s) ss ≡ true → length ds ≡ length ss → (j : ℕ)
    → get_or ds j 0 < binomial_product ss ds
divisions-below [] [] h e j = omega arith
divisions-below [] (d ∷ ds) h e j = absurd (omega arith)
divisions-below (s ∷ ss) [] h e j = absurd (omega arith)
divisions-below (s ∷ ss) (d ∷ ds) h e j =
    go j (divisions-below ss ds (and_right (leb 2 s) (all (λ s. leb 2 s) ss) h) (omega arith))
  where
    c : ℕ
    c = choose (d + pred s) (pred s)

    many : d < c
    many =
        let two : 2 ≤ s = leb-true 2 s (and_left (leb 2 s) (all (λ s. leb 2 s) ss) h) in
        let w : suc (pred s - 1) ≡ pred s = omega arith in
        subst (λ (n : ℕ). d < choose (d + n) n) w (choose-many d (pred s - 1))

    go : (j : ℕ) → ((j : ℕ) → get_or ds j 0 < binomial_product ss ds) → get_or (d ∷ ds) j 0 < c * binomial_product ss ds
    go zero rest =
        let l : c * 1 ≤ c * binomial_product ss ds = mul-le-mul (omega arith) (omega (arith, rest 0)) in
        omega (arith, many)
    go (suc j) rest =
        let l : 1 * binomial_product ss ds ≤ c * binomial_product ss ds =
        mul-le-mul (omega (arith, many)) (omega arith) in
        omega (arith, rest j)

pub division-below : (g : Grid) → all (λ s. leb 2 s) g.sizes ≡ true → length g.divisions ≡ num_blocks g → (j : ℕ)
    → division g j < num_points g
division-below g h e j = rw (num_points-is g h) (divisions-below g.sizes g.divisions h e j)

in_division : {ss ds y : List ℕ} → Fits ss ds y → (k : ℕ) → (j : ℕ) × (at y k ≤ get_or ds j 0)
in_division none k = (0, omega arith)
in_division (block a l p q f) k = ⊎_elim
    (λ (x : k < length a). (0, omega (arith, get_or-append a l 0 k x, at_sum a k)))
    (λ (x : length a ≤ k).
    let e : length a + (k - length a) ≡ k = omega arith in
    let w = in_division f (k - length a) in
    (suc w.0, omega (arith, rw e at (get_or-append-add a l (k - length a) 0), w.1)))
    (before_or_not k (length a))

pub coordinate_below : (g : Grid) → all (λ s. leb 2 s) g.sizes ≡ true → length g.divisions ≡ num_blocks g
    → (y : Point) → is_grid_point g y ≡ true → (k : ℕ) → at y k < num_points g
coordinate_below g h e y o k =
    let w = in_division (fits_of g y e o) k in
    omega (arith, w.1, division-below g h e w.0)

-- divisions of at most n, and so coordinates
pub division-low : (n : ℕ) (ds : List ℕ) → all (λ d. leb d n) ds ≡ true → (j : ℕ) → get_or ds j 0 ≤ n
division-low n [] a j = omega arith
division-low n (d ∷ ds) a zero = leb-true d n (and_left (leb d n) (all (λ d. leb d n) ds) a)
division-low n (d ∷ ds) a (suc j) = division-low n ds (and_right (leb d n) (all (λ d. leb d n) ds) a) j

pub coordinate_low : (g : Grid) (n : ℕ) → all (λ d. leb d n) g.divisions ≡ true → length g.divisions ≡ num_blocks g
    → (y : Point) → is_grid_point g y ≡ true → (k : ℕ) → at y k ≤ n
coordinate_low g n a e y o k =
    let w = in_division (fits_of g y e o) k in
    omega (arith, w.1, division-low n g.divisions a w.0)

-- an accepted grid has no division above 60,000
pub low-divisions : (g : Grid) → Accepted g → all (λ d. leb d 60000) g.divisions ≡ true
low-divisions g a =
    go g.divisions (λ j. omega (arith, division-below g a.sizes_two a.same_number j, a.few_points))
  where
    go : (ds : List ℕ) → ((j : ℕ) → get_or ds j 0 ≤ 60000) → all (λ d. leb d 60000) ds ≡ true
    go [] l = refl
    go (d ∷ ds) l = and_both _ _ (le-leb d 60000 (l 0)) (go ds (λ j. l (suc j)))

pub in_limits : (g : Grid) → Accepted g → InLimits g
in_limits g a = record {
  some_block = a.some_block;
  few_blocks = a.few_blocks;
  sizes_two = a.sizes_two;
  few_indices = a.few_indices;
  same_number = a.same_number;
  divisions_one = a.divisions_one;
  low = low-divisions g a;
}
