-- The kiosk's sheet of every slip: the bytes that it prints for the bytes that it reads. Assumes nothing.
use Rattle.std.specs.Prelude.{cond, List, map, ℕ, eqb}
use Rattle.grid_points.specs.Grid.{Grid, division, block_of, indices, bound}
use Rattle.place.specs.Path.{PathAnswer, spent, ended, unknown, answer}
use Rattle.sheet_lines.specs.Sheet.{end_sheet, refused_sheet, spent_sheet, unknown_sheet}
use Rattle.slip_fields.specs.Slip.{slip_grid, slip_problem, slip_budget, slip_refusal}

-- "vertices times d_j": the division of each index's block
abbrev pub index_divisions : Grid → List ℕ
index_divisions g = map (λ h. division g (block_of g h)) (indices g)

-- "end place" or "end facet"

-- "The answer has the places, the kind of end, the block, the number of vertices, and the vertices"; of a budget that
-- is spent, "9 adds a "places" line"; request 02: of a label that is not yet known, "its sheet adds a "places" and a
-- "position" line"
abbrev pub answer_sheet : Grid → PathAnswer → List ℕ
answer_sheet g (spent places) = spent_sheet places
answer_sheet g (unknown places place) = unknown_sheet places place
answer_sheet g (ended places read kind block vertices simplex) =
    end_sheet places read (bound g) kind block simplex (index_divisions g)

-- "The kiosk program reads a slip from standard input. For the bytes .. it prints": a slip asks 13, 1 to 4, 14,
-- 15, 11, 5, 7, and then runs, and "A refusal prints one line"
unfoldable pub sheet_of : List ℕ → List ℕ
sheet_of slip = cond (eqb (slip_refusal slip) 0)
    (answer_sheet (slip_grid slip) (answer (slip_problem slip) (slip_budget slip))) (refused_sheet (slip_refusal slip))
