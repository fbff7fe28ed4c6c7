-- The loss table of a game, taken apart by player, and the room that a player's losses need. Assumes nothing.
use mathlib.Core.Bool.{Bool, true}
use mathlib.Core.List.{List, [], ◌∷◌}
use mathlib.Core.Path.{◌≡◌, refl}
use Prim.Native.Nat.{ℕ, zero, suc, ◌+◌, ◌-◌, ◌*◌, ◌≤◌, ◌<◌}
use borrow.Author.Tests.{leb-true}
use lib.Dec.{leb}
use lib.ListN.{length, get_or, take, drop}
use native.Mathlib.Nat.{le_trans, mul-le-mul_left, mul_assoc}
use native.Mathlib.Omega.{arith}
use Rattle.combinatorics.proofs.Agreement.{all_drop, all_take}
use Rattle.combinatorics.proofs.Basics.{and_both, and_left, and_right}
use Rattle.combinatorics.proofs.Lists.{all_in, at_all, on_numbers}
use Rattle.combinatorics.proofs.Ranges.{in_up_from}
use Rattle.combinatorics.specs.Lists.{all, sum, up_from}
use Rattle.grid_points.specs.Grid.{Grid, num_blocks}
use Rattle.game_losses.specs.Game.{product, losses_of}
use Rattle.game_losses.specs.Table.{in_range, IsTable}

pub low-all : (l : List ℕ) → all in_range l ≡ true → all (λ v. leb v 1000) l ≡ true
low-all [] a = refl
low-all (x ∷ l) a = and_both _ _ (and_right (leb 1 x) (leb x 1000) (and_left (in_range x) (all in_range l) a))
    (low-all l (and_right (in_range x) (all in_range l) a))

module _ (g : Grid) (losses : List ℕ) (t : IsTable g losses) (j : ℕ) (h : j < num_blocks g) where
  pub part_low : all (λ v. leb v 1000) (losses_of g losses j) ≡ true
  part_low = low-all (losses_of g losses j)
      (all_take in_range (product g.sizes) (drop (j * product g.sizes) losses)
      (all_drop in_range (j * product g.sizes) losses t.range))

-- the largest product of numbers that add up to m, at place m
largest : List ℕ
largest = 1 ∷ 1 ∷ 2 ∷ 3 ∷ 4 ∷ 6 ∷ 9 ∷ 12 ∷ 18 ∷ 27 ∷ 36 ∷ 54 ∷ 81 ∷ 108 ∷ 162 ∷ 243 ∷ 324 ∷ []

abbrev largest_is : ℕ → ℕ → Bool
largest_is s m = leb (s * get_or largest m 0) (get_or largest (s + m) 0)

-- a number more, at all sums up to 16
one_more : all (λ s. all (largest_is s) (up_from 0 (17 - s))) (up_from 0 17) ≡ true
unfolding largest
one_more = refl

largest_all : all (λ v. leb v 324) largest ≡ true
unfolding largest
largest_all = refl

products : (ss : List ℕ) → sum ss ≤ 16 → product ss ≤ get_or largest (sum ss) 0
unfolding largest
products [] h = omega arith
products (s ∷ ss) h =
    let a = all_in on_numbers
    (λ s. all (largest_is s) (up_from 0 (17 - s)))
    (up_from 0 17) one_more s (in_up_from 0 17 s (omega arith) (omega arith)) in
    let b = all_in on_numbers (largest_is s) (up_from 0 (17 - s)) a (sum ss)
    (in_up_from 0 (17 - s) (sum ss) (omega arith) (omega arith)) in
    le_trans (mul-le-mul_left s (products ss (omega arith)))
    (leb-true (s * get_or largest (sum ss) 0) (get_or largest (s + sum ss) 0) b)

pub product-few : (ss : List ℕ) → sum ss ≤ 16 → product ss ≤ 324
unfolding largest
product-few ss h = le_trans (products ss h)
    (leb-true (get_or largest (sum ss) 0) 324 (at_all (λ v. leb v 324) largest (sum ss) largest_all (omega arith)))

-- the product of the sizes of the first blocks, one block more a turn
pub product-next : (ss : List ℕ) (i : ℕ) → i < length ss → product (take i ss) * get_or ss i 0 ≡ product (take (i + 1) ss)
product-next [] i h = absurd (omega arith)
product-next (s ∷ ss) zero h = omega arith
product-next (s ∷ ss) (suc i) h =
    let e : product (take i ss) * get_or ss i 0 ≡ product (take (i + 1) ss) = product-next ss i (omega arith) in
    let z : suc i + 1 ≡ suc (i + 1) = omega arith in
    rw (z, mul_assoc s (product (take i ss)) (get_or ss i 0), e)

sum_drop : (k : ℕ) (xs : List ℕ) → sum (drop k xs) ≤ sum xs
sum_drop zero xs = omega arith
sum_drop (suc k) [] = omega arith
sum_drop (suc k) (x ∷ xs) = omega (arith, sum_drop k xs)

pub part_few : (ss : List ℕ) (k : ℕ) → sum ss ≤ 16 → product (drop k ss) ≤ 324
part_few ss k h = product-few (drop k ss) (omega (arith, sum_drop k ss))

sum_take : (k : ℕ) (xs : List ℕ) → sum (take k xs) ≤ sum xs
sum_take zero xs = omega arith
sum_take (suc k) [] = omega arith
sum_take (suc k) (x ∷ xs) = omega (arith, sum_take k xs)

pub first_few : (ss : List ℕ) (k : ℕ) → sum ss ≤ 16 → product (take k ss) ≤ 324
first_few ss k h = product-few (take k ss) (omega (arith, sum_take k ss))
