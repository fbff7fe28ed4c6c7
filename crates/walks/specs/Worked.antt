-- Walks over document 01's sheet, "2 2; 1 1; 1 0 1 0; 2 2 2 4", as the customer's stored cases have them.
-- Assumes nothing.
use Rattle.std.specs.Prelude.{List, [], ◌∷◌, ℕ, zero, suc, length}
use Rattle.std.proofs.Math.Option.{Option, none, some}
use Rattle.end_kinds.specs.declared.Kind.TheVariants.{Facet as facet_end}
use Rattle.grid_points.specs.Grid.{Point}
use Rattle.place.specs.Places.{Simplex}
use Rattle.place.specs.Problem.{problem_of}
use Rattle.walks.specs.Next.{Outcome, refused, ended, moved, move_answer, move_walk, after_calls}
use Rattle.walks.specs.Walk.{Walk, labels_of}

-- a walk, a table, what call after call gives, and the walk after them
pub record Row : Type 0 where
  pub walk : Walk
  pub labels : List ℕ
  pub answers : List (Outcome ℕ)
  pub after : Walk

abbrev pub answers_of : ℕ → Walk → List ℕ → List (Outcome ℕ)
answers_of zero w labels = []
answers_of (suc n) w labels = move_answer w labels ∷ answers_of n (move_walk w labels) labels

abbrev pub given : Row → List (Outcome ℕ) × Walk
given r = let n = length r.answers in (answers_of n r.walk r.labels, after_calls n r.walk r.labels)

-- a walk that carries labels, and one that carries those of a table
abbrev pub carrying : List ℕ → Simplex → Option Simplex → ℕ → ℕ → Walk
carrying carried present before places read = record {
  grid = record { sizes = 2 ∷ 2 ∷ []; divisions = 1 ∷ 1 ∷ [] };
  start = 1 ∷ 0 ∷ 1 ∷ 0 ∷ [];
  present = present;
  before = before;
  places = places;
  carried = carried;
  read = read;
}

abbrev pub on : List ℕ → Simplex → Option Simplex → ℕ → ℕ → Walk
on labels present before places read = carrying
    (labels_of (problem_of (2 ∷ 2 ∷ []) (1 ∷ 1 ∷ []) (1 ∷ 0 ∷ 1 ∷ 0 ∷ []) labels) present) present before places read

abbrev pub row : Walk → List ℕ → List (Outcome ℕ) → Walk → Row
row w labels answers after = record { walk = w; labels = labels; answers = answers; after = after }

-- refused, and so unchanged
abbrev pub row_refused : Walk → List ℕ → ℕ → Row
row_refused w labels number = row w labels (refused number ∷ []) w

-- the grid's points, in the order of the table, and the places of the sheet's path
abbrev pub point0 : Point
point0 = 0 ∷ 1 ∷ 0 ∷ 1 ∷ []

abbrev pub point1 : Point
point1 = 0 ∷ 1 ∷ 1 ∷ 0 ∷ []

abbrev pub point2 : Point
point2 = 1 ∷ 0 ∷ 0 ∷ 1 ∷ []

abbrev pub point3 : Point
point3 = 1 ∷ 0 ∷ 1 ∷ 0 ∷ []

abbrev pub place1 : Simplex
place1 = point3 ∷ []

abbrev pub place2 : Simplex
place2 = point3 ∷ point2 ∷ []

abbrev pub place3 : Simplex
place3 = point3 ∷ point2 ∷ point0 ∷ []

abbrev pub place4 : Simplex
place4 = point3 ∷ point1 ∷ point0 ∷ []

abbrev pub place5 : Simplex
place5 = point3 ∷ point1 ∷ []

abbrev pub sheet_labels : List ℕ
sheet_labels = 2 ∷ 2 ∷ 2 ∷ 4 ∷ []

abbrev pub ones : List ℕ
ones = 1 ∷ 1 ∷ 1 ∷ 1 ∷ []

-- without the label of {v}'s point, and of the point that comes in first
abbrev pub unknown_start : List ℕ
unknown_start = 2 ∷ 2 ∷ 2 ∷ 0 ∷ []

abbrev pub unknown_next : List ℕ
unknown_next = 2 ∷ 2 ∷ 0 ∷ 4 ∷ []

abbrev pub table : List Row
table =
    -- to the end, and once more; back from the last place but one onto {v}, and once more
    row (on sheet_labels place1 none 1 1) sheet_labels
    (moved 5 ∷ moved 5 ∷ moved 1 ∷ moved 6 ∷ ended facet_end 1 (point1 ∷ []) ∷ ended facet_end 1 (point1 ∷ []) ∷ [])
    (on sheet_labels place5 (some place4) 5 4)
    ∷ row (on sheet_labels place4 (some place5) 5 2) sheet_labels (moved 1 ∷ moved 6 ∷ moved 6 ∷ refused 20 ∷ [])
    (on sheet_labels place1 (some place2) 8 3)
    -- the count is asked to be from 1 to the bound, 68, and no more; the labels read from 1 to the count, and no more
    ∷ row (on sheet_labels place1 none 7 7) sheet_labels (moved 5 ∷ []) (on sheet_labels place2 (some place1) 8 8)
    ∷ row (on sheet_labels place4 (some place3) 68 1) sheet_labels (moved 6 ∷ refused 20 ∷ [])
    (on sheet_labels place5 (some place4) 69 1)
    ∷ row_refused (on sheet_labels place1 none 0 1) sheet_labels 20
    ∷ row_refused (on sheet_labels place2 (some place1) 69 1) sheet_labels 20
    ∷ row_refused (on sheet_labels place1 none 1 0) sheet_labels 20
    ∷ row_refused (on sheet_labels place2 (some place1) 2 3) sheet_labels 20
    -- the one before
    ∷ row_refused (on sheet_labels place2 none 2 1) sheet_labels 20
    ∷ row_refused (on sheet_labels place1 (some place1) 2 1) sheet_labels 20
    ∷ row_refused (on sheet_labels place3 (some place1) 3 1) sheet_labels 20
    -- no place: no step, no point, a point twice, an index of T that is no label
    ∷ row_refused (on sheet_labels (point3 ∷ point0 ∷ []) (some place1) 2 1) sheet_labels 20
    ∷ row_refused (on sheet_labels [] none 1 1) sheet_labels 20
    ∷ row_refused (on sheet_labels (point3 ∷ point2 ∷ point2 ∷ []) (some place1) 2 1) sheet_labels 20
    ∷ row_refused (on ones place2 (some place1) 2 1) ones 20
    -- labels that are not the table's: others, those of other points, too few, and 0 where the table has a label
    ∷ row_refused (carrying (2 ∷ []) place1 none 1 1) sheet_labels 20
    ∷ row_refused (carrying (2 ∷ 4 ∷ []) place2 (some place1) 2 2) sheet_labels 20
    ∷ row_refused (carrying (4 ∷ []) place2 (some place1) 2 2) sheet_labels 20
    ∷ row_refused (carrying (4 ∷ 0 ∷ []) place2 (some place1) 2 2) sheet_labels 20
    -- a label 0 in the present place, behind 20 and behind 7; one that comes in
    ∷ row_refused (on unknown_start place1 none 1 1) unknown_start 16
    ∷ row_refused (on unknown_next place2 (some place3) 2 1) unknown_next 20
    ∷ row_refused (carrying (4 ∷ 2 ∷ []) place2 (some place1) 2 2) unknown_next 20
    ∷ row_refused (on sheet_labels (point3 ∷ point0 ∷ []) none 0 1) (5 ∷ 2 ∷ 2 ∷ 4 ∷ []) 7
    ∷ row (on unknown_next place1 none 1 1) unknown_next (moved 5 ∷ refused 16 ∷ [])
    (on unknown_next place2 (some place1) 2 2)
    ∷ []
