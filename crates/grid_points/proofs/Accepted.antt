-- What the questions about a grid tell when all are answered yes. Assumes nothing.
use mathlib.Core.Bool.{true}
use mathlib.Core.List.{List, [], ◌∷◌}
use mathlib.Core.Path.{◌≡◌}
use Prim.Native.Nat.{ℕ, ◌≤◌, ◌<◌}
use borrow.Author.Tests.{leb-true, eqb-true}
use lib.Dec.{leb, eqb}
use lib.ListN.{length}
use native.Mathlib.Omega.{arith}
use Rattle.combinatorics.proofs.Basics.{and_left, and_right}
use Rattle.combinatorics.specs.Lists.{all, sum}
use Rattle.questions.proofs.Answers.{first-yes}
use Rattle.questions.specs.Questions.{first_no}
use Rattle.grid_points.proofs.Listing.{num_points-is}
use Rattle.grid_counts.proofs.Products.{count-below}
use Rattle.grid_counts.proofs.SizeRange.{size-range}
use Rattle.grid_points.specs.Grid.{Grid, num_blocks, num_indices, num_points, size, block_count}
use Rattle.combinatorics.specs.Counting.{binomial_product}
use Rattle.grid_points.specs.Questions.{grid_questions, question1, question2, question3, question4}

-- questions 1 to 3 are answered yes, and no division is above 60,000; the number of grid points is not asked for
pub record InLimits (g : Grid) : Type 0 where
  pub some_block : 1 ≤ num_blocks g
  pub few_blocks : num_blocks g ≤ 6
  pub sizes_two : all (λ s. leb 2 s) g.sizes ≡ true
  pub few_indices : num_indices g ≤ 16
  pub same_number : length g.divisions ≡ num_blocks g
  pub divisions_one : all (λ d. leb 1 d) g.divisions ≡ true
  pub low : all (λ d. leb d 60000) g.divisions ≡ true

pub size-from-two : (g : Grid) → InLimits g → (j : ℕ) → j < num_blocks g → 2 ≤ size g j
size-from-two g a j h = (size-range g.sizes j a.sizes_two a.few_indices h).0

-- questions 1 to 4 are answered yes
pub record Accepted (g : Grid) : Type 0 where
  pub some_block : 1 ≤ num_blocks g
  pub few_blocks : num_blocks g ≤ 6
  pub sizes_two : all (λ s. leb 2 s) g.sizes ≡ true
  pub few_indices : num_indices g ≤ 16
  pub same_number : length g.divisions ≡ num_blocks g
  pub divisions_one : all (λ d. leb 1 d) g.divisions ≡ true
  pub few_points : num_points g ≤ 60000

pub accepted : (g : Grid) → first_no (grid_questions g) ≡ 0 → Accepted g
accepted g e =
    let a = first-yes (question1 g) (question2 g ∷ question3 g ∷ question4 g ∷ []) (omega arith) e in
    let b = first-yes (question2 g) (question3 g ∷ question4 g ∷ []) (omega arith) a.1 in
    let c = first-yes (question3 g) (question4 g ∷ []) (omega arith) b.1 in
    let d = first-yes (question4 g) [] (omega arith) c.1 in
    record {
      some_block = leb-true 1 (num_blocks g) (and_left (leb 1 (num_blocks g)) (leb (num_blocks g) 6) a.0);
      few_blocks = leb-true (num_blocks g) 6 (and_right (leb 1 (num_blocks g)) (leb (num_blocks g) 6) a.0);
      sizes_two = and_left (all (λ s. leb 2 s) g.sizes) (leb (num_indices g) 16) b.0;
      few_indices =
          leb-true (num_indices g) 16 (and_right (all (λ s. leb 2 s) g.sizes) (leb (num_indices g) 16) b.0);
      same_number = eqb-true (length g.divisions) (num_blocks g)
          (and_left (eqb (length g.divisions) (num_blocks g)) (all (λ d. leb 1 d) g.divisions) c.0);
      divisions_one = and_right (eqb (length g.divisions) (num_blocks g)) (all (λ d. leb 1 d) g.divisions) c.0;
      few_points = leb-true (num_points g) 60000 d.0;
    }

-- where each block has an index there are at least as many indices as blocks
pub blocks-at-most : (ss : List ℕ) → all (λ s. leb 2 s) ss ≡ true → length ss ≤ sum ss
blocks-at-most [] h = omega arith
blocks-at-most (s ∷ ss) h =
    let two : 2 ≤ s = leb-true 2 s (and_left (leb 2 s) (all (λ s. leb 2 s) ss) h) in
    omega (arith, blocks-at-most ss (and_right (leb 2 s) (all (λ s. leb 2 s) ss) h))

module _ (g : Grid) (a : Accepted g) where
  pub points-are : num_points g ≡ binomial_product g.sizes g.divisions
  points-are = num_points-is g a.sizes_two

  -- a block has no more points than the grid
  pub count-few : (j : ℕ) → j < num_blocks g → block_count g j ≤ 60000
  count-few j h =
      let f = a.few_points in
      omega (arith, points-are, count-below g.sizes g.divisions j h a.same_number)

  -- each block has an index, so there are at least as many indices
  pub blocks-few : num_blocks g ≤ num_indices g
  blocks-few = blocks-at-most g.sizes a.sizes_two

  pub size-two : (j : ℕ) → j < num_blocks g → (2 ≤ size g j) × (size g j ≤ 16)
  size-two j h = size-range g.sizes j a.sizes_two a.few_indices h
