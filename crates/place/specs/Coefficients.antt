-- Document 01, "Places": the coefficient list of a grid point. Assumes nothing.
use Rattle.std.specs.Prelude.{List, [], ◌∷◌, ◌++◌, map, ◌≡◌, ℕ, zero, ◌+◌, ◌-◌, min, ◌≤◌, ◌<◌, length, take, drop}
use Rattle.combinatorics.specs.Lists.{sum}
use Rattle.grid_points.specs.Grid.{Point, at, num_indices, num_blocks, first_index, size, next}
use Rattle.place.specs.Problem.{Problem}

-- "whole numbers c, none negative, at least one zero in each block,
-- with y_h = v_h + c_h - c_(h+1) for every h, h + 1 taken round the block"
pub record IsCoefficients (p : Problem) (y : Point) (c : List ℕ) : Type 0 where
  pub numbers : length c ≡ num_indices p.grid
  pub zero : (j : ℕ) → j < num_blocks p.grid
      → (h : ℕ) × (first_index p.grid j ≤ h) × (h < first_index p.grid j + size p.grid j) × (at c h ≡ 0)
  pub rule : (h : ℕ) → h < num_indices p.grid → at y h + at c (next p.grid h) ≡ at p.start h + at c h

-- In a block, c_(h+1) = c_h + v_h - y_h: the numbers that follow so from e,
abbrev pub run_on : ℕ → List ℕ → List ℕ → List ℕ
run_on e [] y = []
run_on e (v ∷ vs) [] = []
run_on e (v ∷ vs) (y ∷ ys) = e ∷ run_on (e + v - y) vs ys

abbrev pub least : ℕ → List ℕ → ℕ
least a [] = a
least a (x ∷ xs) = least (min a x) xs

-- from the division on none of them is negative; less the smallest, one of them is zero
abbrev pub block_coefficients : ℕ → List ℕ → List ℕ → List ℕ
block_coefficients d v y = let e = run_on d v y in let a = least d e in map (λ x. x - a) e

abbrev pub product_coefficients : List ℕ → List ℕ → List ℕ → List ℕ → List ℕ
product_coefficients [] ds v y = []
product_coefficients (s ∷ ss) [] v y = []
product_coefficients (s ∷ ss) (d ∷ ds) v y =
    block_coefficients d (take s v) (take s y) ++ product_coefficients ss ds (drop s v) (drop s y)

-- "Each grid point y has one coefficient list": IsCoefficients holds of it and of no other
unfoldable pub coefficients : Problem → Point → List ℕ
coefficients p y = product_coefficients p.grid.sizes p.grid.divisions p.start y

abbrev pub coefficient_sum : Problem → Point → ℕ
coefficient_sum p y = sum (coefficients p y)
