-- The indices that are labels of some points or belong to their U, as a mask, and the first block that has all of its
-- own. Assumes nothing.
use Rattle.std.specs.Prelude.{true, ◌||◌, cond, List, map, ◌≡◌, ℕ, suc, ◌-◌, ◌<◌, eqb, leb, length}
use Rattle.std.proofs.Math.Option.{Option}
use Rattle.combinatorics.specs.Lists.{all, filter, is_in}
use Rattle.grid_points.specs.Grid.{Grid, Point, at, blocks, indices_of, num_indices, num_points}
use Rattle.grid.specs.Made.{shape}
use Rattle.grid.specs.declared.Grid.{Grid as GridStruct}
use Rattle.rules.specs.Mask.{bit, with_index}
use Rattle.place.specs.Problem.{label}
use Rattle.check_simplices.specs.Simplices.{first_of, labelled_by}

-- "each index of the block is a label of one of its points or belongs to its U": for each index whether it is one or
-- the other
pub record IsCovered (g : Grid) (labels : List ℕ) (zs : List Point) (covered : ℕ) : Type 0 where
  pub bits : (h : ℕ) → h < num_indices g
      → bit covered h ≡ (is_in eqb (suc h) (map (label (labelled_by g labels)) zs) || all (λ y. eqb (at y h) 0) zs)

-- the first block whose indices all belong to the mask
abbrev pub first_whole : Grid → ℕ → Option ℕ
first_whole g covered = first_of (filter (λ j. all (bit covered) (indices_of g j)) (blocks g))

-- the table has a label or a gap for each point
pub record Labelled (g : GridStruct) (labels : List ℕ) : Type 0 where
  pub whole : length labels ≡ num_points (shape g)
  pub within : all (λ l. leb l (num_indices (shape g))) labels ≡ true

-- the set with the index that a label names; 0 names none
abbrev pub with_label : ℕ → ℕ → ℕ
with_label set label = cond (eqb label 0) set (with_index set (label - 1))
