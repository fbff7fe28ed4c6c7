-- Request 12, what holds over the new table, in the order of the customer's sentences. Assumes nothing.
use Rattle.std.specs.Prelude.{true, false, List, [], ◌≡◌, ℕ, ◌≤◌, ◌<◌, eqb, leb, length, get_or}
use Rattle.std.proofs.Math.Option.{some}
use Rattle.combinatorics.specs.Lists.{all, is_in}
use Rattle.end_kinds.specs.declared.Kind.{Kind}
use Rattle.end_kinds.specs.declared.Kind.TheVariants.{Place as place_end}
use Rattle.path_laws.specs.Demand.{Ended, NoGap}
use Rattle.questions.specs.Questions.{first_no}
use Rattle.grid_points.specs.Grid.{Grid, Point, at, indices_of, is_grid_point, num_blocks, num_indices, num_points, points}
use Rattle.grid_points.specs.Grid.{previous}
use Rattle.place.specs.Ends.{End, facet_ends, is_complete}
use Rattle.place.specs.Path.{answer, ended, path, unknown}
use Rattle.place.specs.Places.{Simplex, is_place, label_set, set_u}
use Rattle.place.specs.Problem.{Problem}
use Rattle.place.specs.Questions.{table_questions}
use Rattle.boundary_labels.specs.Boundary.{boundary_index, boundary_label, boundary_table, byte_of, is_interior}

-- "the first index h with y_h = 0 and the number before it, round the block, positive"
pub record IsFirstIndex (g : Grid) (y : Point) (h : ℕ) : Type 0 where
  pub index : h < num_indices g
  pub zero : at y h ≡ 0
  pub behind_positive : 0 < at y (previous g h)
  pub first : (k : ℕ) → k < num_indices g → at y k ≡ 0 → 0 < at y (previous g k) → h ≤ k

-- the new table of a grid whose questions 1 to 4 are answered yes
pub record NewTable (g : Grid) (old : List ℕ) : Type 0 where
  pub whole : length (boundary_table g old) ≡ num_points g
  -- "whose interior labels are the old ones"; "labels 0 are kept in the interior"
  pub inside : (y : Point) → is_grid_point g y ≡ true → is_interior y ≡ true
      → byte_of g (boundary_table g old) y ≡ byte_of g old y
  -- "whose boundary points have the label of rule (1.3)": there is such an index, so the boundary has no gap
  pub outside : (y : Point) → is_grid_point g y ≡ true → is_interior y ≡ false
      → IsFirstIndex g y (boundary_index g y) × (byte_of g (boundary_table g old) y ≡ boundary_label g y)
  -- to write it twice is to write it once
  pub twice : boundary_table g (boundary_table g old) ≡ boundary_table g old

-- "every set of points complete for a block": of one or more grid points. It is false of no points: they are complete
-- for every block, since U has every index, and have no label (`none-complete`).
pub record CompleteByLabels (p : Problem) (s : Simplex) (j : ℕ) : Type 0 where
  -- "has all that block's indices as labels"
  pub labels : (h : ℕ) → is_in eqb h (indices_of p.grid j) ≡ true → is_in eqb h (label_set p s) ≡ true
  -- and none of them is in its U
  pub not_u : (h : ℕ) → is_in eqb h (indices_of p.grid j) ≡ true → is_in eqb h (set_u p.grid s) ≡ false

-- over a boundary table, from any start of the grid, also where the interior has gaps
pub record OverNewTable (p : Problem) : Type 0 where
  pub complete : (s : Simplex) → 1 ≤ length s → all (is_grid_point p.grid) s ≡ true → (j : ℕ) → j < num_blocks p.grid
      → is_complete p s j ≡ true → CompleteByLabels p s j
  -- "so every end that a run announces is a place end": no place has a facet end, on the path or off it,
  pub no_facet_ends : (s : Simplex) → is_place p s ≡ true → facet_ends p s ≡ []
  -- so the path's end is a place end,
  pub path_end : (e : End) → (path p).end ≡ some e → e.kind ≡ place_end
  -- and so is what a run announces, whatever its budget
  pub announced : (budget places read : ℕ) (kind : Kind) (block vertices : ℕ) (simplex : Simplex)
      → answer p budget ≡ ended places read kind block vertices simplex → kind ≡ place_end

-- the same of a path that ends
pub record EndsAtPlace (p : Problem) : Type 0 where
  pub ended : Ended p
  pub at_place : ended.end.kind ≡ place_end

-- the interior has no gap
abbrev pub KnownInside : Problem → Type 0
KnownInside p = (y : Point) → is_grid_point p.grid y ≡ true → is_interior y ≡ true → 1 ≤ byte_of p.grid p.labels y

-- where the old table is one that 6 and 7 let pass
pub record AcceptedAgain (p : Problem) : Type 0 where
  -- a run's questions 1 to 7 are answered yes of the new one
  pub accepted : first_no (table_questions p) ≡ 0
  -- a label that a run asks for, with 16, is that of an interior point
  pub asks_inside : (budget n i : ℕ) → answer p budget ≡ unknown n i → is_interior (get_or (points p.grid) i []) ≡ true
  -- where the interior has no gap, the table has none, so no place on the path has one, and the path ends, at a place
  pub known : KnownInside p → (all (λ l. leb 1 l) p.labels ≡ true) × NoGap p × EndsAtPlace p
