-- The coordinates of a block of a grid point. Assumes nothing.
use mathlib.Core.Bool.{true}
use mathlib.Core.List.{List, ◌∷◌, map}
use mathlib.Core.Path.{◌≡◌, refl, ap}
use Prim.Native.Nat.{ℕ, zero, suc, ◌+◌, ◌≤◌, ◌<◌, pred}
use borrow.Author.Tests.{eqb-true}
use lib.Dec.{eqb}
use lib.ListN.{length, get_or, take, drop, length-map}
use lib.Seq.{drop-cons}
use native.Mathlib.Omega.{arith}
use Rattle.combinatorics.proofs.Basics.{and_left, and_right}
use Rattle.combinatorics.proofs.Binomials.{choose-grows, choose_one}
use Rattle.combinatorics.proofs.Lists.{all_in, on_numbers}
use Rattle.combinatorics.proofs.Ranges.{in_up_from, length-up_from}
use Rattle.combinatorics.specs.Counting.{choose}
use Rattle.combinatorics.specs.Lists.{sum, up_from}
use Rattle.grid_points.proofs.Accepted.{Accepted, count-few, size-two}
use Rattle.grid_points.proofs.Round.{block-fits}
use Rattle.grid_points.specs.Grid.{Grid, Point, at, num_blocks, num_indices, division, size, first_index, blocks}
use Rattle.grid_points.specs.Grid.{indices_of}
use Rattle.grid_points.specs.Grid.{is_grid_point}

-- the coordinates at some indices that follow one another
pub at_part : (y : List ℕ) (b n : ℕ) → b + n ≤ length y → map (at y) (up_from b n) ≡ take n (drop b y)
at_part y b zero h = refl
at_part y b (suc n) h =
    rw (drop-cons y b 0 (omega arith)) (ap (λ (l : List ℕ). get_or y b 0 ∷ l) (at_part y (suc b) n (omega arith)))

-- a block has more points than its division
pub division-below : (s d : ℕ) → 2 ≤ s → d ≤ choose (d + pred s) (pred s)
division-below s d h = omega (arith, choose_one d, choose-grows d d 1 (pred s) (omega arith) (omega arith))

-- the coordinates of block j
abbrev pub of_block : Grid → Point → ℕ → List ℕ
of_block g y j = map (at y) (indices_of g j)

pub block-length : (g : Grid) (y : Point) (j : ℕ) → length (of_block g y j) ≡ size g j
block-length g y j = rw (length-map, length-up_from)

module _ (g : Grid) (a : Accepted g) where
  pub division-few : (j : ℕ) → j < num_blocks g → division g j ≤ 60000
  division-few j h = omega (arith, division-below (size g j) (division g j) (size-two g a j h).0, count-few g a j h)

  module _ (y : Point) (p : is_grid_point g y ≡ true) where
    pub point-length : length y ≡ num_indices g
    unfolding is_grid_point
    point-length = eqb-true _ _ (and_left (eqb (length y) (num_indices g)) _ p)

    pub block-sum : (j : ℕ) → j < num_blocks g → sum (of_block g y j) ≡ division g j
    unfolding is_grid_point
    block-sum j h =
        let each = and_right (eqb (length y) (num_indices g)) _ p in
        let inside = in_up_from 0 (num_blocks g) j (omega arith) (omega arith) in
        eqb-true _ _ (all_in on_numbers (λ i. eqb (sum (of_block g y i)) (division g i)) (blocks g) each j inside)

    pub block_part : (j : ℕ) → of_block g y j ≡ take (size g j) (drop (first_index g j) y)
    block_part j = at_part y (first_index g j) (size g j) (omega (arith, block-fits g.sizes j, point-length))
