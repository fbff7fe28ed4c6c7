-- The refusals of the checker: which of questions 6, 7 and 19 is the first that is answered no, and what holds where
-- none is. Assumes nothing.
use mathlib.Core.Bool.{true, false}
use mathlib.Core.List.{List}
use mathlib.Core.Path.{◌≡◌}
use Prim.Native.Nat.{ℕ, suc, ◌+◌, ◌-◌, ◌*◌, ◌≤◌, ◌<◌}
use borrow.Author.Tests.{eq-eqb, le-leb, lt-leb, ne_eqb}
use lib.Dec.{leb}
use lib.ListN.{length}
use native.Mathlib.Omega.{arith}
use Rattle.combinatorics.specs.Lists.{all}
use Rattle.questions.specs.Questions.{first_no}
use Rattle.grid_points.proofs.Accepted.{blocks-few}
use Rattle.grid.proofs.Fields.{made-accepted, made-blocks, made-indices}
use Rattle.grid_points.specs.Grid.{Grid, dimension, is_grid_point, num_indices, num_points}
use Rattle.grid.specs.Made.{IsMade, shape}
use Rattle.grid.specs.declared.Grid.{Grid as GridStruct}
use Rattle.checker.specs.Check.{question19, whole_points, listed_points, list_questions}

-- question 19
module _ (g : Grid) (numbers : List ℕ) where
  pub list-empty : length numbers < 1 → false ≡ (question19 g numbers).answered_yes
  list-empty l = rw (lt-leb 1 (length numbers) l)

  module _ (some : 1 ≤ length numbers) where
    pub list_parted : (whole_points g numbers * num_indices g ≡ length numbers → ⊥)
        → false ≡ (question19 g numbers).answered_yes
    list_parted n =
        rw (le-leb 1 (length numbers) some, ne_eqb (whole_points g numbers * num_indices g) (length numbers) n)

    module _ (whole : whole_points g numbers * num_indices g ≡ length numbers) where
      pub list-long : suc (dimension g) < whole_points g numbers → false ≡ (question19 g numbers).answered_yes
      list-long l = rw (
        le-leb 1 (length numbers) some,
        eq-eqb (whole_points g numbers * num_indices g) (length numbers) whole,
        lt-leb (whole_points g numbers) (suc (dimension g)) l,
      )

      pub list-points : whole_points g numbers ≤ suc (dimension g)
          → all (is_grid_point g) (listed_points g numbers) ≡ (question19 g numbers).answered_yes
      list-points l = rw (
        le-leb 1 (length numbers) some,
        eq-eqb (whole_points g numbers * num_indices g) (length numbers) whole,
        le-leb (whole_points g numbers) (suc (dimension g)) l,
      )

-- questions 6, 7 and 19 in order
module _ (g : Grid) (labels numbers : List ℕ) where
  pub no_length : (length labels ≡ num_points g → ⊥) → 6 ≡ first_no (list_questions g labels numbers)
  unfolding first_no
  no_length n = rw (ne_eqb (length labels) (num_points g) n)

  module _ (whole : length labels ≡ num_points g) where
    pub no_label : all (λ l. leb l (num_indices g)) labels ≡ false → 7 ≡ first_no (list_questions g labels numbers)
    unfolding first_no
    no_label e = rw (eq-eqb (length labels) (num_points g) whole, e)

    module _ (within : all (λ l. leb l (num_indices g)) labels ≡ true) where
      pub no-list : (question19 g numbers).answered_yes ≡ false → 19 ≡ first_no (list_questions g labels numbers)
      unfolding first_no
      no-list e = rw (eq-eqb (length labels) (num_points g) whole, within, e)

      pub none-no : (question19 g numbers).answered_yes ≡ true → ◌≡◌ {A = ℕ} 0 (first_no (list_questions g labels numbers))
      unfolding first_no
      none-no e = rw (eq-eqb (length labels) (num_points g) whole, within, e)

-- the numbers of question 19 as the program works them out
module _ (s : GridStruct) (made : IsMade s) where
  pub some-index : 0 < s.indices
  some-index =
      omega (arith, blocks-few (shape s) (made-accepted s made), (made-accepted s made).some_block, made-indices s made)

  pub fewer_blocks : s.blocks ≤ s.indices
  fewer_blocks = omega (arith, blocks-few (shape s) (made-accepted s made), made-blocks s made, made-indices s made)

  pub most-is : s.indices - s.blocks + 1 ≡ suc (dimension (shape s))
  most-is = omega (arith, made-blocks s made, made-indices s made)

  pub most-few : suc (dimension (shape s)) ≤ 16
  most-few = omega (
    arith,
    blocks-few (shape s) (made-accepted s made),
    (made-accepted s made).some_block,
    (made-accepted s made).few_indices,
  )
