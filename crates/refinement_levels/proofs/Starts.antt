-- Each level's start is a point of its grid, and its run ends. Assumes nothing.
use mathlib.Core.Bool.{true}
use mathlib.Core.List.{List, [], ◌∷◌, map}
use mathlib.Core.Path.{◌≡◌, sym, ap, ◌∙◌, subst}
use Prim.Native.Nat.{ℕ, zero, suc, ◌*◌, ◌≤◌, ◌<◌}
use borrow.Author.Tests.{eqb-true, eq-eqb}
use lib.Dec.{eqb}
use lib.ListN.{length, length-map}
use native.Mathlib.Nat.{mul-add}
use native.Mathlib.Omega.{arith}
use Rattle.combinatorics.proofs.Basics.{and_both, and_left, and_right}
use Rattle.combinatorics.proofs.Lists.{all_in, in_all, on_numbers}
use Rattle.combinatorics.specs.Lists.{all, first_or, sum}
use Rattle.game_labels.proofs.AllLabels.{labels_length}
use Rattle.grid_points.proofs.Accepted.{InLimits, accepted, blocks-at-most}
use Rattle.grid_points.proofs.CoordinatesBelow.{in_limits}
use Rattle.grid_points.specs.Grid.{Grid, Point, at, blocks, division, indices_of, is_grid_point, num_indices}
use Rattle.grid_points.specs.Questions.{grid_questions}
use Rattle.game_losses.specs.Game.{labels}
use Rattle.place.specs.Path.{path}
use Rattle.place.specs.Places.{Simplex}
use Rattle.place.specs.Problem.{Problem}
use Rattle.path_laws.proofs.EndPoints.{IsSimplex, end-simplex}
use Rattle.path_laws.proofs.Filled.{FullyLabelled, full_table, full_place}
use Rattle.path_laws.proofs.Theorem.{demand3_holds}
use Rattle.path_laws.specs.Demand.{Ended, NoGap, place_at}
use Rattle.questions.specs.Questions.{first_no}
use Rattle.refinement_levels.specs.Levels.{Refinement, end_of, finer, first_vertex, game_problem, level_grid}
use Rattle.refinement_levels.specs.Levels.{level_problem}
use Rattle.refinement_levels.specs.Levels.{level_start, times, answer_vertices}
use Rattle.refinement_levels.proofs.GameLabels.{labels-range}
use Rattle.refinement_levels.proofs.Grids.{level_first, level_next, times-at}

-- k times a grid point, on the grid whose divisions are k times as large
module _ (k : ℕ) (g : Grid) where
  sum-times : (y is : List ℕ) → sum (map (at (times k y)) is) ≡ k * sum (map (at y) is)
  sum-times y [] = omega arith
  sum-times y (i ∷ is) = rw (times-at k y i, sum-times y is) (sym (mul-add k (at y i) (sum (map (at y) is))))

  pub times-on-grid : (y : Point) → is_grid_point g y ≡ true → is_grid_point (finer k g) (times k y) ≡ true
  unfolding is_grid_point
  times-on-grid y h =
      let long = eqb-true (length y) (num_indices g) (and_left (eqb (length y) (num_indices g)) _ h) in
      let sums = and_right (eqb (length y) (num_indices g)) _ h in
      and_both _ _ (eq-eqb (length (times k y)) (num_indices g) (length-map y (λ x. k * x) ∙ long))
      (in_all on_numbers _ (blocks g) (λ j m.
      let s =
      eqb-true _ _ (all_in on_numbers (λ j. eqb (sum (map (at y) (indices_of g j))) (division g j)) (blocks g) sums j
      m)
      in
      eq-eqb _ _ (sum-times y (indices_of g j) ∙ ap (λ (x : ℕ). k * x) s ∙ sym (times-at k g.divisions j))))

-- the run of a table without gaps
module _ {p : Problem} (ok : FullyLabelled p) where
  pub no_gap : NoGap p
  no_gap i h = full_place ok (place_at (path p).visited i) ((demand3_holds (full_table ok)).follows.places i h)

  pub full_ended : Ended p
  full_ended = (demand3_holds (full_table ok)).ended no_gap

  -- it reaches the end of its path, a simplex of the grid
  pub vertices-are : answer_vertices (end_of p) ≡ full_ended.end.simplex
  vertices-are = ap answer_vertices full_ended.reaches

  pub is-simplex : IsSimplex p (answer_vertices (end_of p))
  is-simplex = rw vertices-are (end-simplex p ok.has_start full_ended.is_path)

  pub first-on-grid : is_grid_point p.grid (first_vertex p) ≡ true
  first-on-grid = go (answer_vertices (end_of p)) is-simplex.some is-simplex.on_grid
    where
      go : (s : Simplex) → 1 ≤ length s → all (is_grid_point p.grid) s ≡ true
          → is_grid_point p.grid (first_or [] s) ≡ true
      go [] l a = absurd (omega arith)
      go (y ∷ s) l a = and_left (is_grid_point p.grid y) (all (is_grid_point p.grid) s) a

-- a grid, a start on it and a game
pub full_game : (g : Grid) (start : Point) (losses : List ℕ) → InLimits g → is_grid_point g start ≡ true
    → FullyLabelled (game_problem g start losses)
full_game g start losses a on =
    let some : 1 ≤ num_indices g = omega (arith, a.some_block, blocks-at-most g.sizes a.sizes_two) in
    record {
      has_start = record {
        some_block = a.some_block;
        six_blocks = a.few_blocks;
        sizes = a.sizes_two;
        sixteen_indices = a.few_indices;
        same_number = a.same_number;
        divisions = a.divisions_one;
        low = a.low;
        start = on;
      };
      table_length = labels_length g losses;
      labels = labels-range g some losses;
    }

pub game_full : (g : Grid) (start : Point) (losses : List ℕ) → first_no (grid_questions g) ≡ 0
    → is_grid_point g start ≡ true
    → FullyLabelled (game_problem g start losses)
game_full g start losses e on = full_game g start losses (in_limits g (accepted g e)) on

-- levels whose grids are within the limits
module _ (r : Refinement) (n : ℕ) (each : (i : ℕ) → i < n → InLimits (level_grid r i))
    (on : is_grid_point r.grid r.start ≡ true) where
  pub start-within : (i : ℕ) → i < n → is_grid_point (level_grid r i) (level_start r i) ≡ true
  unfolding level_start
  start-within zero h = rw (level_first r.grid r.factor) on
  start-within (suc i) h =
      let y = first_vertex (level_problem r i) in
      let full =
      full_game (level_grid r i) (level_start r i) r.losses (each i (omega arith)) (start-within i (omega arith))
      in
      subst (λ (g : Grid). is_grid_point g (times r.factor y) ≡ true) (sym (level_next r.grid r.factor i))
      (times-on-grid r.factor (level_grid r i) y (first-on-grid full))

  pub level_within : (i : ℕ) → i < n → FullyLabelled (level_problem r i)
  level_within i h = full_game (level_grid r i) (level_start r i) r.losses (each i h) (start-within i h)

-- the levels of a refinement whose grids are accepted
module _ (r : Refinement) (n : ℕ) (each : (i : ℕ) → i < n → first_no (grid_questions (level_grid r i)) ≡ 0)
    (on : is_grid_point r.grid r.start ≡ true) where
  within : (i : ℕ) → i < n → InLimits (level_grid r i)
  within i h = in_limits (level_grid r i) (accepted (level_grid r i) (each i h))

  pub start-on-grid : (i : ℕ) → i < n → is_grid_point (level_grid r i) (level_start r i) ≡ true
  start-on-grid = start-within r n within on

  pub level_full : (i : ℕ) → i < n → FullyLabelled (level_problem r i)
  level_full = level_within r n within on
