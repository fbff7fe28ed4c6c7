-- The list of grid points holds each grid point once, and nothing else. Assumes nothing.
use mathlib.Core.Bool.{Bool, true, false, cond}
use mathlib.Core.List.{List, [], ◌∷◌, ◌++◌, map}
use mathlib.Core.Logic.{⊎_elim}
use mathlib.Core.Path.{◌≡◌, refl, sym, ap, subst, ◌∙◌}
use Prim.Native.Nat.{ℕ, suc, ◌+◌, zero, ◌-◌, ◌<◌}
use borrow.Author.Tests.{eqb-true, eq-eqb}
use lib.Dec.{eqb}
use lib.ListN.{length, length-append, get_or, take, drop, length-drop, take-append-drop}
use lib.Seq.{take-append_seam, drop-append_seam, length-take-le}
use native.Mathlib.Omega.{arith}
use Rattle.combinatorics.proofs.Basics.{absurd_bool, and_left, and_right, and_both}
use Rattle.combinatorics.proofs.Lists.{Equality, in_cases, concat_map_in, distinct-concat_map, in_concat_map, map_in}
use Rattle.combinatorics.proofs.Lists.{distinct-map, in_map, on_numbers, all_cong, on_lists}
use Rattle.combinatorics.proofs.Ranges.{in_up_from, up_from_in, distinct-up_from, all_shift}
use Rattle.combinatorics.specs.Lists.{all, is_in, distinct, up_from, sum}
use Rattle.grid_points.specs.Grid.{Point, same_point, Grid, is_grid_point, points, block_points, product_points, at}
use Rattle.grid_points.specs.Grid.{num_indices, num_blocks, blocks, position_in}

abbrev pub on_points : Equality Point
on_points = on_lists on_numbers

pub point_sound : (y z : Point) → same_point y z ≡ true → y ≡ z
point_sound = on_points.sound

pub point_self : (y : Point) → same_point y y ≡ true
point_self = on_points.self

-- one block
pub in_block : (s d : ℕ) (l : List ℕ) → length l ≡ s → sum l ≡ d → is_in same_point l (block_points s d) ≡ true
in_block zero zero [] a b = refl
in_block zero (suc d) [] a b = absurd (omega arith)
in_block zero zero (x ∷ l) a b = absurd (omega arith)
in_block zero (suc d) (x ∷ l) a b = absurd (omega arith)
in_block (suc s) d [] a b = absurd (omega arith)
in_block (suc s) d (k ∷ l) a b =
    in_concat_map on_numbers on_points (λ k. map (λ l. k ∷ l) (block_points s (d - k))) k (k ∷ l) (up_from 0 (suc d))
    (in_up_from 0 (suc d) k (omega arith) (omega arith))
    (in_map on_points on_points (λ l. k ∷ l) l (block_points s (d - k)) (in_block s (d - k) l (omega arith) (omega arith)))

pub block_in : (s d : ℕ) (l : List ℕ) → is_in same_point l (block_points s d) ≡ true → (length l ≡ s) × (sum l ≡ d)
block_in zero zero l m = ⊎_elim (λ e. rw e (refl, refl)) (λ n. absurd_bool (sym n)) (in_cases on_points l [] [] m)
block_in zero (suc d) l m = absurd_bool (sym m)
block_in (suc s) d l m =
    let i = concat_map_in on_numbers on_points (λ k. map (λ l. k ∷ l) (block_points s (d - k))) l (up_from 0 (suc d)) m in
    let k = i.0 in
    let c : k < 0 + suc d = (up_from_in 0 (suc d) k i.1).1 in
    let j = map_in on_points on_points (λ l. k ∷ l) l (block_points s (d - k)) i.2 in
    let h = block_in s (d - k) j.0 j.1 in
    rw j.2 (ap suc h.0, omega (arith, h.1))

distinct-block : (s d : ℕ) → distinct same_point (block_points s d) ≡ true
distinct-block zero zero = refl
distinct-block zero (suc d) = refl
distinct-block (suc s) d = distinct-concat_map on_numbers on_points
    (λ k. map (λ l. k ∷ l) (block_points s (d - k)))
    (up_from 0 (suc d)) (distinct-up_from 0 (suc d))
    (λ k m.
    distinct-map on_points on_points (λ l. k ∷ l) (block_points s (d - k)) (λ x y a b e. cc) (distinct-block s (d - k)))
    (λ x y b m n a c.
    let i = map_in on_points on_points (λ l. x ∷ l) b (block_points s (d - x)) a in
    let j = map_in on_points on_points (λ l. y ∷ l) b (block_points s (d - y)) c in
    cc (i.2, j.2))

-- all blocks, one after the other
pub data Fits : List ℕ → List ℕ → List ℕ → Type 0 where
  none : {ds : List ℕ} → Fits [] ds []
  block : {s d : ℕ} {ss ds : List ℕ} (a l : List ℕ) → length a ≡ s → sum a ≡ d → Fits ss ds l
      → Fits (s ∷ ss) (d ∷ ds) (a ++ l)

pub in_product : {ss ds y : List ℕ} → Fits ss ds y → is_in same_point y (product_points ss ds) ≡ true
in_product none = refl
in_product (block {s = s} {d = d} {ss = ss} {ds = ds} a l p q f) = in_concat_map on_points on_points
    (λ a. map (λ l. a ++ l) (product_points ss ds))
    a (a ++ l) (block_points s d) (in_block s d a p q)
    (in_map on_points on_points (λ l. a ++ l) l (product_points ss ds) (in_product f))

product_in : (ss ds y : List ℕ) → is_in same_point y (product_points ss ds) ≡ true → Fits ss ds y
product_in [] ds y m = ⊎_elim (λ e. rw e none) (λ n. absurd_bool (sym n)) (in_cases on_points y [] [] m)
product_in (s ∷ ss) [] y m = absurd_bool (sym m)
product_in (s ∷ ss) (d ∷ ds) y m =
    let i = concat_map_in on_points on_points (λ a. map (λ l. a ++ l) (product_points ss ds)) y (block_points s d) m in
    let j = map_in on_points on_points (λ l. i.0 ++ l) y (product_points ss ds) i.2 in
    let k = block_in s d i.0 i.1 in
    rw j.2 (block i.0 j.0 k.0 k.1 (product_in ss ds j.0 j.1))

pub append-head : (a b l k : List ℕ) → length a ≡ length b → a ++ l ≡ b ++ k → a ≡ b
append-head a b l k e q =
    sym (take-append_seam a l) ∙ ap (λ (z : List ℕ). take (length a) z) q ∙ rw (e, take-append_seam b k)

pub append-tail : (a l k : List ℕ) → a ++ l ≡ a ++ k → l ≡ k
append-tail a l k q = sym (drop-append_seam a l) ∙ ap (λ (z : List ℕ). drop (length a) z) q ∙ drop-append_seam a k

distinct-product : (ss ds : List ℕ) → distinct same_point (product_points ss ds) ≡ true
distinct-product [] ds = refl
distinct-product (s ∷ ss) [] = refl
distinct-product (s ∷ ss) (d ∷ ds) = distinct-concat_map on_points on_points
    (λ a. map (λ l. a ++ l) (product_points ss ds))
    (block_points s d) (distinct-block s d)
    (λ a m. distinct-map on_points on_points
    (λ l. a ++ l)
    (product_points ss ds)
    (λ x y p q e. append-tail a x y e)
    (distinct-product ss ds))
    (λ x y b m n u w.
    let i = map_in on_points on_points (λ l. x ++ l) b (product_points ss ds) u in
    let j = map_in on_points on_points (λ l. y ++ l) b (product_points ss ds) w in
    append-head x y i.0 j.0 ((block_in s d x m).0 ∙ sym (block_in s d y n).0) (sym i.2 ∙ j.2))

pub distinct-points : (g : Grid) → distinct same_point (points g) ≡ true
unfolding points
distinct-points g = distinct-product g.sizes g.divisions

-- the coordinates of a block
shift_one : (x b k : ℕ) (r : List ℕ) → map (at (x ∷ r)) (up_from (suc b) k) ≡ map (at r) (up_from b k)
shift_one x b zero r = refl
shift_one x b (suc k) r = ap (λ l. at r b ∷ l) (shift_one x (suc b) k r)

pub shift_append : (a l : List ℕ) (b k : ℕ) → map (at (a ++ l)) (up_from (length a + b) k) ≡ map (at l) (up_from b k)
shift_append [] l b k = let z : 0 + b ≡ b = omega arith in rw z
shift_append (x ∷ a) l b k =
    let z : suc (length a) + b ≡ suc (length a + b) = omega arith in
    rw z (shift_one x (length a + b) k (a ++ l) ∙ shift_append a l b k)

pub first-append : (a l : List ℕ) → map (at (a ++ l)) (up_from 0 (length a)) ≡ a
first-append [] l = refl
first-append (x ∷ a) l = ap (λ r. x ∷ r) (shift_one x 0 (length a) (a ++ l) ∙ first-append a l)

abbrev pub block_sum : List ℕ → List ℕ → List ℕ → ℕ → Bool
block_sum ss ds y j = eqb (sum (map (at y) (up_from (sum (take j ss)) (get_or ss j 0)))) (get_or ds j 0)

block_shift : (ss ds a l : List ℕ) (d j : ℕ) → block_sum (length a ∷ ss) (d ∷ ds) (a ++ l) (suc j) ≡ block_sum ss ds l j
block_shift ss ds a l d j =
    ap (λ (r : List ℕ). eqb (sum r) (get_or ds j 0)) (shift_append a l (sum (take j ss)) (get_or ss j 0))

blocks_shift : (ss ds a l : List ℕ) (d n : ℕ)
    → all (block_sum (length a ∷ ss) (d ∷ ds) (a ++ l)) (up_from 1 n) ≡ all (block_sum ss ds l) (up_from 0 n)
blocks_shift ss ds a l d n =
    all_shift (block_sum (length a ∷ ss) (d ∷ ds) (a ++ l)) 0 n ∙ all_cong _ _ (up_from 0 n) (block_shift ss ds a l d)

fits-sums : {ss ds y : List ℕ} → Fits ss ds y
    → (length y ≡ sum ss) × (all (block_sum ss ds y) (up_from 0 (length ss)) ≡ true)
fits-sums none = (refl, refl)
fits-sums (block {d = d} {ss = ss} {ds = ds} a l r q f) =
    let i = fits-sums f in
    let here : block_sum (length a ∷ ss) (d ∷ ds) (a ++ l) 0 ≡ true = rw (first-append a l) (eq-eqb (sum a) d q) in
    subst (λ (s : ℕ). (length (a ++ l) ≡ s + sum ss)
    × (all (block_sum (s ∷ ss) (d ∷ ds) (a ++ l)) (up_from 0 (suc (length ss))) ≡ true)) r (
      rw length-append (omega (arith, i.0)),
      and_both (block_sum (length a ∷ ss) (d ∷ ds) (a ++ l) 0)
          (all (block_sum (length a ∷ ss) (d ∷ ds) (a ++ l)) (up_from 1 (length ss))) here
          (blocks_shift ss ds a l d (length ss) ∙ i.1),
    )

sums-fit : (ss ds y : List ℕ) → length ds ≡ length ss → length y ≡ sum ss
    → all (block_sum ss ds y) (up_from 0 (length ss)) ≡ true → Fits ss ds y
sums-fit [] ds [] e p h = none
sums-fit [] ds (x ∷ y) e p h = absurd (omega arith)
sums-fit (s ∷ ss) [] y e p h = absurd (omega arith)
sums-fit (s ∷ ss) (d ∷ ds) y e p h =
    let a : List ℕ = take s y in
    let l : List ℕ = drop s y in
    let q : a ++ l ≡ y = take-append-drop s y in
    let la : length a ≡ s = length-take-le s y (omega arith) in
    let h' : all (block_sum (length a ∷ ss) (d ∷ ds) (a ++ l)) (up_from 0 (suc (length ss))) ≡ true =
    subst (λ (z : List ℕ). all (block_sum (length a ∷ ss) (d ∷ ds) z) (up_from 0 (suc (length ss))) ≡ true) (sym q)
    (subst (λ (n : ℕ). all (block_sum (n ∷ ss) (d ∷ ds) y) (up_from 0 (suc (length ss))) ≡ true) (sym la) h) in
    let ll : length l ≡ sum ss = omega (arith, length-drop s y) in
    rw (← q) (block a l la
    (sym (ap sum (first-append a l)) ∙ eqb-true _ d (and_left (block_sum (length a ∷ ss) (d ∷ ds) (a ++ l) 0) _ h'))
    (sums-fit ss ds l (omega arith) ll
    (sym (blocks_shift ss ds a l d (length ss)) ∙ and_right (block_sum (length a ∷ ss) (d ∷ ds) (a ++ l) 0) _ h')))

pub fits_of : (g : Grid) (y : Point) → length g.divisions ≡ num_blocks g → is_grid_point g y ≡ true
    → Fits g.sizes g.divisions y
unfolding is_grid_point
fits_of g y e h = sums-fit g.sizes g.divisions y e
    (eqb-true _ _ (and_left (eqb (length y) (num_indices g)) (all (block_sum g.sizes g.divisions y) (blocks g)) h))
    (and_right (eqb (length y) (num_indices g)) (all (block_sum g.sizes g.divisions y) (blocks g)) h)

fits-is : (g : Grid) (y : Point) → Fits g.sizes g.divisions y → is_grid_point g y ≡ true
unfolding is_grid_point
fits-is g y f = let i = fits-sums f in and_both _ _ (eq-eqb _ _ i.0) i.1

-- the list has every grid point, and nothing else
pub in_points : (g : Grid) (y : Point) → length g.divisions ≡ num_blocks g → is_grid_point g y ≡ true
    → is_in same_point y (points g) ≡ true
unfolding points
in_points g y e h = in_product (fits_of g y e h)

pub points_in_lem : (g : Grid) (y : Point) → is_in same_point y (points g) ≡ true → is_grid_point g y ≡ true
unfolding points
points_in_lem g y m = fits-is g y (product_in g.sizes g.divisions y m)

pub position_in_lem : (xs : List Point) (y : Point) → is_in same_point y xs ≡ true → position_in xs y < length xs
position_in_lem [] y m = absurd_bool (sym m)
position_in_lem (x ∷ xs) y m = go (same_point x y) refl (position_in_lem xs y)
  where
    go : (b : Bool) → same_point x y ≡ b → (is_in same_point y xs ≡ true → position_in xs y < length xs)
        → cond b 0 (suc (position_in xs y)) < suc (length xs)
    go true e i = omega arith
    go false e i = omega (
      arith,
      i (⊎_elim (λ q. absurd_bool (sym (point_self x) ∙ (rw q at e))) (λ n. n) (in_cases on_points y x xs m)),
    )

-- a grid point has m numbers
pub point-long : (g : Grid) (y : Point) → is_grid_point g y ≡ true → length y ≡ num_indices g
unfolding is_grid_point
point-long g y h = eqb-true (length y) (num_indices g) (and_left _ _ h)

pub points-long : (g : Grid) (ys : List Point) → all (is_grid_point g) ys ≡ true
    → all (λ y. eqb (length y) (num_indices g)) ys ≡ true
points-long g [] a = refl
points-long g (y ∷ ys) a = and_both _ _ (eq-eqb _ _ (point-long g y (and_left (is_grid_point g y) _ a)))
    (points-long g ys (and_right (is_grid_point g y) _ a))
