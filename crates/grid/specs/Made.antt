-- The grid that the constructor makes of sizes and divisions, and what it stands for. Assumes nothing.
use Rattle.std.specs.Prelude.{◌≡◌, cond, map, eqb, take, replicate}
use Rattle.combinatorics.specs.Front.{padded}
use Rattle.questions.specs.Questions.{first_no}
use Rattle.grid_points.specs.Grid.{Grid, block_count, block_of, blocks, first_index, indices, next, num_blocks, num_indices}
use Rattle.grid_points.specs.Grid.{num_points, previous}
use Rattle.grid_points.specs.Questions.{grid_questions}
use Rattle.grid.specs.declared.Grid.{Grid as GridStruct}
use Rattle.grid.specs.declared.Made.{Made}

unfoldable pub grid_of : Grid → GridStruct
grid_of g = record {
  sizes = padded 6 g.sizes;
  divisions = padded 6 g.divisions;
  firsts = padded 6 (map (first_index g) (blocks g));
  counts = padded 6 (map (block_count g) (blocks g));
  block = padded 16 (map (block_of g) (indices g));
  previous = padded 16 (map (previous g) (indices g));
  next = padded 16 (map (next g) (indices g));
  blocks = num_blocks g;
  indices = num_indices g;
  points = num_points g;
}

-- nothing: what stands beside a refusal
abbrev pub no_grid : GridStruct
no_grid = record {
  sizes = replicate 6 0;
  divisions = replicate 6 0;
  firsts = replicate 6 0;
  counts = replicate 6 0;
  block = replicate 16 0;
  previous = replicate 16 0;
  next = replicate 16 0;
  blocks = 0;
  indices = 0;
  points = 0;
}

-- the constructor's answer: the number of the first of questions 1 to 4 that is answered no, or 0 and the grid
unfoldable pub made_of : Grid → Made
made_of g =
    let number = first_no (grid_questions g) in
    record { code = number; grid = cond (eqb number 0) (grid_of g) no_grid }

-- the grid that a struct stands for
abbrev pub shape : GridStruct → Grid
shape s = record { sizes = take s.blocks s.sizes; divisions = take s.blocks s.divisions }

-- the struct is one that the constructor makes
pub record IsMade (s : GridStruct) : Type 0 where
  pub accepted : first_no (grid_questions (shape s)) ≡ 0
  pub made : s ≡ grid_of (shape s)
