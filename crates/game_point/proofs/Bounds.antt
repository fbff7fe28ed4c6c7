-- The products of the opponents' mixes add up to the product of their divisions, so sums of losses fit. Assumes
-- nothing.
use mathlib.Core.Bool.{not}
use mathlib.Core.List.{List, ◌∷◌, map}
use mathlib.Core.Logic.{⊎_elim}
use mathlib.Core.Path.{◌≡◌, sym, ◌∙◌}
use Prim.Native.Nat.{ℕ, zero, suc, ◌-◌, ◌*◌, ◌≤◌, ◌<◌}
use borrow.Author.Tests.{eqb-true, eq-eqb, ne_eqb, leb-true, lt-ltb, ltb-true}
use lib.Dec.{eqb, leb, ltb}
use lib.ListN.{length}
use native.Mathlib.Nat.{mul-le-mul_right}
use native.Mathlib.Omega.{arith}
use Rattle.combinatorics.proofs.Agreement.{map-agree, map-map}
use Rattle.combinatorics.proofs.Basics.{and_right, same_or}
use Rattle.combinatorics.proofs.Lists.{all_in, in_all, at_all, filter_in, on_numbers}
use Rattle.combinatorics.proofs.Ranges.{in_up_from, up_from_in}
use Rattle.combinatorics.specs.Lists.{sum}
use Rattle.grid_counts.proofs.SizeRange.{size-range}
use Rattle.grid_points.specs.Grid.{Grid, Point, num_blocks, num_indices, size, division, blocks, is_grid_point}
use Rattle.game_losses.proofs.Players.{product-own}
use Rattle.game_losses.proofs.Weights.{sum-weights}
use Rattle.game_losses.specs.Game.{product, mix, opponents}
use Rattle.game_losses.specs.Weights.{weights}
use Rattle.game_point.specs.Label.{GameAt}
use Rattle.game_point.specs.Weighing.{weights_from, opponents_from}

pub all-opponents : (g : Grid) (y : Point) (j : ℕ) → weights_from g y j 0 ≡ weights (map (mix g y) (opponents g j))
all-opponents g y j = let z : num_blocks g - 0 ≡ num_blocks g = omega arith in rw z

module _ {g : Grid} {firsts owners losses : List ℕ} {y : Point} (G : GameAt g firsts owners losses y) where
  pub block-sum : (j : ℕ) → j < num_blocks g → sum (mix g y j) ≡ division g j
  unfolding is_grid_point
  block-sum j h =
      let each = and_right (eqb (length y) (num_indices g)) _ G.is_point in
      let inside = in_up_from 0 (num_blocks g) j (omega arith) (omega arith) in
      eqb-true _ _ (all_in on_numbers (λ i. eqb (sum (mix g y i)) (division g i)) (blocks g) each j inside)

  division-some : (j : ℕ) → j < num_blocks g → 1 ≤ division g j
  division-some j h = leb-true 1 _
      (at_all (λ d. leb 1 d) g.divisions j G.grid.divisions_one (omega (arith, G.grid.same_number)))

  pub size-two : (j : ℕ) → j < num_blocks g → 2 ≤ size g j
  size-two j h = (size-range g.sizes j G.grid.sizes_two G.grid.few_indices h).0

  module _ (j : ℕ) (h : j < num_blocks g) where
    opponents-sums : map sum (map (mix g y) (opponents g j)) ≡ map (division g) (opponents g j)
    opponents-sums = map-map sum (mix g y) (opponents g j)
        ∙ map-agree
        (λ i. ltb i (num_blocks g))
        (λ i. sum (mix g y i))
        (division g) (opponents g j)
        (in_all on_numbers _ (opponents g j) (λ i m. lt-ltb i (num_blocks g)
        (omega (arith, (up_from_in 0 (num_blocks g) i (filter_in on_numbers (λ i. not (eqb i j)) i (blocks g) m).0).1))))
        (λ i b. block-sum i (ltb-true i _ b))

    pub own-sum : division g j * sum (weights_from g y j 0) ≡ product g.divisions
    own-sum =
        let e : product g.divisions ≡ division g j * product (map (division g) (opponents g j)) =
        rw G.grid.same_number at (product-own g.divisions j (omega (arith, G.grid.same_number))) in
        rw (all-opponents g y j, sum-weights (map (mix g y) (opponents g j)), opponents-sums) (sym e)

    -- with one block less there is no more
    fewer : (l : ℕ) → l < num_blocks g → sum (weights_from g y j (suc l)) ≤ sum (weights_from g y j l)
    fewer l b =
        let z : num_blocks g - l ≡ suc (num_blocks g - suc l) = omega arith in
        ⊎_elim
        (λ e. rw (z, eq-eqb l j e) (omega arith))
        (λ n. rw (
          z,
          ne_eqb l j n,
          sum-weights (mix g y l ∷ map (mix g y) (opponents_from g j (suc l))),
          sum-weights (map (mix g y) (opponents_from g j (suc l))),
        )
        (let m = mul-le-mul_right (product (map sum (map (mix g y) (opponents_from g j (suc l))))) (division-some l b) in
        rw (block-sum l b) (omega arith)))
        (same_or l j)

    pub from_fewer : (l : ℕ) → l ≤ num_blocks g → sum (weights_from g y j l) ≤ sum (weights_from g y j 0)
    from_fewer zero b = omega arith
    from_fewer (suc l) b = omega (arith, from_fewer l (omega arith), fewer l (omega arith))

    pub own-fits : division g j * (sum (weights_from g y j 0) * 1000) ≤ 9000000000000000000
    own-fits =
        let w = sum (weights_from g y j 0) in
        let few : division g j * w ≤ 9000000000000000 = omega (arith, own-sum, G.grid.few) in
        let m : division g j * w * 1000 ≤ 9000000000000000 * 1000 = mul-le-mul_right 1000 few in
        omega arith

    pub from-fits : (l : ℕ) → l ≤ num_blocks g → sum (weights_from g y j l) * 1000 ≤ 9000000000000000000
    from-fits l b =
        let w = sum (weights_from g y j 0) in
        let m : 1 * (w * 1000) ≤ division g j * (w * 1000) = mul-le-mul_right (w * 1000) (division-some j h) in
        omega (arith, own-fits, from_fewer l b)
