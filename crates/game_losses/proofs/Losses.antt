-- That a player's expected and replaced losses fit. Assumes nothing.
use mathlib.Core.Bool.{true, not}
use mathlib.Core.List.{List, [], ◌∷◌, map}
use mathlib.Core.Path.{◌≡◌, refl, ap, ◌∙◌}
use Prim.Native.Nat.{ℕ, zero, suc, ◌*◌, ◌≤◌, ◌<◌}
use borrow.Author.Tests.{leb-true, le-leb, lt-ltb, ltb-true}
use lib.Dec.{eqb, leb, ltb}
use lib.ListN.{length, drop}
use native.Mathlib.Nat.{mul-le-mul_left, mul-le-mul_right, mul_assoc}
use native.Mathlib.Omega.{arith}
use Rattle.combinatorics.proofs.Agreement.{all_drop, map-agree, map-map}
use Rattle.combinatorics.proofs.Basics.{and_left, and_right, and_both}
use Rattle.combinatorics.proofs.Lists.{in_all, filter_in, on_numbers}
use Rattle.combinatorics.proofs.Ranges.{up_from_in}
use Rattle.combinatorics.specs.Lists.{all, sum}
use Rattle.grid_points.proofs.Accepted.{Accepted}
use Rattle.grid_points.specs.Grid.{Grid, Point, num_blocks, division, size, is_grid_point, blocks}
use Rattle.game_losses.proofs.Players.{product-own, divisions-few}
use Rattle.points_in_order.proofs.Blocks.{block-sum}
use Rattle.game_losses.proofs.Weights.{sum-weights, dot-bound}
use Rattle.game_losses.specs.Game.{product, dot, mix, opponents}
use Rattle.game_losses.specs.Weights.{weighed, weights, fit, strategy_losses}

all-weighed : (n b : ℕ) (u t : List ℕ) → all (λ v. leb v b) t ≡ true
    → all (λ v. leb v (sum u * b)) (weighed n u t) ≡ true
all-weighed zero b u t a = refl
all-weighed (suc n) b u t a = and_both _ _ (le-leb (dot u t) (sum u * b) (dot-bound b u t a))
    (all-weighed n b u (drop (length u) t) (all_drop _ (length u) t a))

fit-times : (d b : ℕ) (t : List ℕ) → all (λ v. leb v b) t ≡ true → d * b < 4294967296 → fit (map (λ v. d * v) t) ≡ true
fit-times d b [] a h = refl
fit-times d b (x ∷ t) a h =
    let m : d * x ≤ d * b = mul-le-mul_left d (leb-true x b (and_left (leb x b) (all (λ v. leb v b) t) a)) in
    and_both _ _ (lt-ltb (d * x) 4294967296 (omega arith))
    (fit-times d b t (and_right (leb x b) (all (λ v. leb v b) t) a) h)

module _ (g : Grid) (j : ℕ) where
  opponents-below : all (λ i. ltb i (num_blocks g)) (opponents g j) ≡ true
  opponents-below = in_all on_numbers _ (opponents g j)
      (λ i m. lt-ltb i (num_blocks g)
      (omega (arith, (up_from_in 0 (num_blocks g) i (filter_in on_numbers (λ i. not (eqb i j)) i (blocks g) m).0).1)))

  module _ (a : Accepted g) (y : Point) (p : is_grid_point g y ≡ true) (h : j < num_blocks g) where
    opponents-sums : map sum (map (mix g y) (opponents g j)) ≡ map (division g) (opponents g j)
    opponents-sums = map-map sum (mix g y) (opponents g j)
        ∙ map-agree
        (λ i. ltb i (num_blocks g))
        (λ i. sum (mix g y i))
        (division g) (opponents g j) opponents-below
        (λ i b. block-sum g a y p i (ltb-true i _ b))

    -- the losses of the strategies, times the division of the player
    all_strategies : (n : ℕ) (losses : List ℕ) → all (λ v. leb v 1000) losses ≡ true
        → all
        (λ v. leb v (sum (weights (map (mix g y) (opponents g j))) * 1000))
        (weighed n (weights (map (mix g y) (opponents g j))) losses)
        ≡ true
    all_strategies n losses b = all-weighed n 1000 (weights (map (mix g y) (opponents g j))) losses b

    own-few : division g j * (sum (weights (map (mix g y) (opponents g j))) * 1000) ≤ 60000000
    own-few =
        let w : sum (weights (map (mix g y) (opponents g j))) ≡ product (map (division g) (opponents g j)) =
        sum-weights (map (mix g y) (opponents g j)) ∙ ap product opponents-sums in
        let e : product g.divisions ≡ division g j * product (map (division g) (opponents g j)) =
        rw a.same_number at (product-own g.divisions j (omega (arith, a.same_number))) in
        rw (w, ← mul_assoc (division g j) (product (map (division g) (opponents g j))) 1000, ← e)
        (omega (arith, mul-le-mul_right 1000 (divisions-few g a)))

    pub expected_fits_lem : (losses : List ℕ) → all (λ v. leb v 1000) losses ≡ true
        → dot (mix g y j) (strategy_losses g y j losses) < 4294967296
    expected_fits_lem losses b =
        let d = dot-bound (sum (weights (map (mix g y) (opponents g j))) * 1000) (mix g y j)
        (strategy_losses g y j losses) (all_strategies (size g j) losses b) in
        let o = own-few in
        let m = rw (block-sum g a y p j h) at d in
        omega arith

    pub replaced-fit : (losses : List ℕ) → all (λ v. leb v 1000) losses ≡ true
        → fit (map (λ v. division g j * v) (strategy_losses g y j losses)) ≡ true
    replaced-fit losses b =
        let o = own-few in
        fit-times (division g j) (sum (weights (map (mix g y) (opponents g j))) * 1000) (strategy_losses g y j losses)
        (all_strategies (size g j) losses b) (omega arith)
