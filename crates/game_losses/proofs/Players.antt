-- A player and the opponents, in a grid that is accepted. Assumes nothing.
use mathlib.Core.Bool.{true, not}
use mathlib.Core.List.{List, [], ◌∷◌, ◌++◌, map}
use mathlib.Core.Path.{◌≡◌, refl, sym, ap, ◌∙◌, subst}
use Prim.Native.Nat.{ℕ, zero, suc, ◌+◌, ◌-◌, ◌*◌, ◌≤◌, ◌<◌}
use borrow.Author.Tests.{ne_eqb, leb-true}
use lib.Dec.{eqb, leb}
use lib.ListN.{length, get_or, take, drop, length-drop}
use lib.Seq.{split_at, take_all}
use native.Mathlib.Nat.{mul_assoc, mul_left_comm, mul-le-mul}
use native.Mathlib.Omega.{arith}
use Rattle.combinatorics.proofs.Basics.{and_left, and_right}
use Rattle.combinatorics.proofs.Lists.{filter-append, eqb_self}
use Rattle.combinatorics.proofs.Ranges.{up_from_add}
use Rattle.combinatorics.proofs.Turns.{map-append}
use Rattle.combinatorics.specs.Lists.{all, filter, sum, up_from}
use Rattle.grid_points.proofs.Accepted.{Accepted, points-are}
use Rattle.grid_points.proofs.Round.{block-fits}
use Rattle.grid_points.specs.Grid.{Grid, at, lent}
use Rattle.combinatorics.specs.Counting.{binomial_product}
use Rattle.points_in_order.proofs.Blocks.{at_part, division-below}
use Rattle.game_losses.specs.Game.{product, mix}

-- all numbers but j
abbrev others : ℕ → ℕ → List ℕ
others j n = filter (λ i. not (eqb i j)) (up_from 0 n)

kept : (j b k : ℕ) → ((i : ℕ) → b ≤ i → i < b + k → i ≡ j → ⊥) → filter (λ i. not (eqb i j)) (up_from b k) ≡ up_from b k
kept j b zero h = refl
kept j b (suc k) h = rw (ne_eqb b j (h b (omega arith) (omega arith)))
    (ap (λ l. b ∷ l) (kept j (suc b) k (λ i p q. h i (omega arith) (omega arith))))

others_split : (j k : ℕ) → others j (j + suc k) ≡ up_from 0 j ++ up_from (suc j) k
others_split j k =
    let z : 0 + j ≡ j = omega arith in
    rw (
      up_from_add 0 j (suc k),
      filter-append,
      z,
      eqb_self j,
      kept j 0 j (λ i p q e. omega arith),
      kept j (suc j) k (λ i p q e. omega arith),
    )

others_are : (j n : ℕ) → j < n → others j n ≡ up_from 0 j ++ up_from (suc j) (n - suc j)
others_are j n h =
    let e : j + suc (n - suc j) ≡ n = omega arith in
    subst (λ (k : ℕ). others j k ≡ up_from 0 j ++ up_from (suc j) (n - suc j)) e (others_split j (n - suc j))

pub product-append : (u v : List ℕ) → product (u ++ v) ≡ product u * product v
product-append [] v = omega arith
product-append (x ∷ u) v = rw (product-append u v) (sym (mul_assoc x (product u) (product v)))

-- a number of a list, and the product of the others
pub product-own : (xs : List ℕ) (j : ℕ) → j < length xs
    → product xs ≡ get_or xs j 0 * product (map (at xs) (others j (length xs)))
product-own xs j h =
    let u : List ℕ = take j xs in
    let v : List ℕ = drop (suc j) xs in
    let e : map (at xs) (others j (length xs)) ≡ u ++ v = rw (
      others_are j (length xs) h,
      map-append,
      at_part xs 0 j (omega arith),
      at_part xs (suc j) (length xs - suc j) (omega arith),
    ) (ap (λ (l : List ℕ). u ++ l) (take_all (length xs - suc j) v (omega (arith, length-drop (suc j) xs)))) in
    rw (e, product-append u v)
    (ap product (split_at xs j 0 h)
    ∙ product-append u (get_or xs j 0 ∷ v)
    ∙ mul_left_comm (product u) (get_or xs j 0) (product v))

pub product-positive : (xs : List ℕ) → all (λ x. leb 1 x) xs ≡ true → 1 ≤ product xs
product-positive [] a = omega arith
product-positive (x ∷ xs) a =
    let p : 1 ≤ x = leb-true 1 x (and_left (leb 1 x) (all (λ x. leb 1 x) xs) a) in
    let m : 1 * 1 ≤ x * product xs =
    mul-le-mul p (product-positive xs (and_right (leb 1 x) (all (λ x. leb 1 x) xs) a)) in
    omega arith

divisions-below : (ss ds : List ℕ) → all (λ s. leb 2 s) ss ≡ true → length ds ≡ length ss
    → product ds ≤ binomial_product ss ds
divisions-below [] [] a e = omega arith
divisions-below [] (d ∷ ds) a e = absurd (omega arith)
divisions-below (s ∷ ss) [] a e = absurd (omega arith)
divisions-below (s ∷ ss) (d ∷ ds) a e = mul-le-mul
    (division-below s d (leb-true 2 s (and_left (leb 2 s) (all (λ s. leb 2 s) ss) a)))
    (divisions-below ss ds (and_right (leb 2 s) (all (λ s. leb 2 s) ss) a) (omega arith))

module _ (g : Grid) (a : Accepted g) where
  pub divisions-few : product g.divisions ≤ 60000
  divisions-few = omega (
    arith,
    divisions-below g.sizes g.divisions a.sizes_two a.same_number,
    points-are g a,
    a.few_points,
  )

-- the part of a point that is lent for a block is the block's mix
pub lent-mix : (ss y : List ℕ) (i first s : ℕ) → first ≡ sum (take i ss) → s ≡ get_or ss i 0 → sum ss ≡ length y
    → take (first + s - first) (drop first y) ≡ mix (lent ss []) y i
lent-mix ss y i first s e f h =
    let z : first + s - first ≡ s = omega arith in
    rw (z, e, f) (sym (at_part y (sum (take i ss)) (get_or ss i 0) (omega (arith, block-fits ss i))))
