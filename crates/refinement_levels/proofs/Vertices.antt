-- The numbers that a level writes: they fit its room, and its first vertex stands in front, from which the next level
-- starts. Assumes nothing.
use mathlib.Core.Bool.{true}
use mathlib.Core.List.{List, [], ◌∷◌, ◌++◌, append_assoc}
use mathlib.Core.Path.{◌≡◌, refl, sym, ap, ◌∙◌}
use Prim.Native.Nat.{ℕ, suc, ◌+◌, ◌*◌, ◌≤◌, ◌<◌}
use borrow.Author.Tests.{le-leb}
use lib.Dec.{leb}
use lib.ListN.{length, get_or, drop, length-append, take}
use lib.Seq.{drop_at, length-take-le, take_at}
use native.Mathlib.Nat.{mul-le-mul}
use native.Mathlib.Omega.{arith}
use Rattle.combinatorics.proofs.Basics.{and_both, and_left, and_right}
use Rattle.combinatorics.specs.Front.{front}
use Rattle.combinatorics.specs.Lists.{all, concat_map, first_or}
use Rattle.grid_points.proofs.Accepted.{accepted}
use Rattle.grid_points.proofs.CoordinatesBelow.{coordinate_below}
use Rattle.grid_points.specs.Grid.{Grid, is_grid_point, num_indices}
use Rattle.grid_points.specs.Questions.{grid_questions}
use Rattle.grid_points.proofs.Points.{point-long}
use Rattle.place.specs.Places.{Simplex}
use Rattle.place.specs.Problem.{Problem}
use Rattle.path_laws.proofs.Filled.{FullyLabelled}
use Rattle.questions.specs.Questions.{first_no}
use Rattle.refinement_levels.specs.Buffers.{level_numbers, numbers_after}
use Rattle.refinement_levels.specs.Levels.{Refinement, end_of, first_vertex, level_grid, level_problem, level_start}
use Rattle.refinement_levels.specs.Levels.{times}
use Rattle.refinement_levels.specs.Levels.{answer_vertices}
use Rattle.refinement_levels.specs.Questions.{level_room}
use Rattle.refinement_levels.proofs.Buffers.{after-length, after_next}
use Rattle.refinement_levels.proofs.Grids.{times-at}
use Rattle.refinement_levels.proofs.Starts.{first-on-grid, is-simplex, level_full, start-on-grid}

-- the numbers of points of the grid
numbers-long : (g : Grid) (s : Simplex) → all (is_grid_point g) s ≡ true
    → length (concat_map (λ y. y) s) ≡ length s * num_indices g
numbers-long g [] a = omega arith
numbers-long g (y ∷ s) a =
    let e = point-long g y (and_left (is_grid_point g y) (all (is_grid_point g) s) a) in
    let rest = numbers-long g s (and_right (is_grid_point g y) (all (is_grid_point g) s) a) in
    omega (arith, length-append y (concat_map (λ y. y) s), e, rest)

module _ {p : Problem} (ok : FullyLabelled p) where
  -- the numbers of the end
  pub numbers-few : length (concat_map (λ y. y) (answer_vertices (end_of p))) ≤ level_room p.grid
  numbers-few =
      let i = is-simplex ok in
      let m : length (answer_vertices (end_of p)) * num_indices p.grid ≤ level_room p.grid =
      mul-le-mul i.few (omega arith)
      in
      omega (arith, numbers-long p.grid (answer_vertices (end_of p)) i.on_grid, m)

  -- the first vertex in front of what they are written over
  pub first_in_front : (old : List ℕ)
      → take (num_indices p.grid) (front (concat_map (λ y. y) (answer_vertices (end_of p))) old) ≡ first_vertex p
  unfolding front
  first_in_front old =
      go (answer_vertices (end_of p)) (is-simplex ok).some (point-long p.grid (first_vertex p) (first-on-grid ok))
    where
      go : (s : Simplex) → 1 ≤ length s → length (first_or [] s) ≡ num_indices p.grid
          → take (num_indices p.grid) (concat_map (λ y. y) s ++ drop (length (concat_map (λ y. y) s)) old) ≡ first_or []
          s
      go [] h e = absurd (omega arith)
      go (y ∷ s) h e =
          let rest = drop (length (y ++ concat_map (λ y. y) s)) old in
          rw (append_assoc y (concat_map (λ y. y) s) rest)
          (take_at y (concat_map (λ y. y) s ++ rest) (num_indices p.grid) e)

each-small : (k : ℕ) (y : List ℕ) → ((j : ℕ) → k * get_or y j 0 ≤ 65535) → all (λ x. leb (k * x) 65535) y ≡ true
each-small k [] h = refl
each-small k (x ∷ y) h = and_both _ _ (le-leb (k * x) 65535 (h 0)) (each-small k y (λ j. h (suc j)))

-- the levels of a refinement whose grids are accepted
module _ (r : Refinement) (n : ℕ) (each : (i : ℕ) → i < n → first_no (grid_questions (level_grid r i)) ≡ 0)
    (on : is_grid_point r.grid r.start ≡ true) where
  pub level_few : (i : ℕ) → i < n → length (level_numbers r i) ≤ level_room r.grid
  level_few i h = numbers-few (level_full r n each on i h)

  -- the first vertex of level i, read where it was written
  pub first_read : (i : ℕ) (old : List ℕ) → i < n → 0 < level_room r.grid → (i + 1) * level_room r.grid ≤ length old
      → take (num_indices r.grid) (drop (i * level_room r.grid) (numbers_after r (i + 1) old)) ≡ first_vertex
      (level_problem r i)
  first_read i old h some fits =
      let room = level_room r.grid in
      let before = numbers_after r i old in
      let head : length (take (i * room) before) ≡ i * room =
      length-take-le (i * room) before (omega (arith, fits, after-length r some old i))
      in
      ap (λ (l : List ℕ). take (num_indices r.grid) (drop (i * room) l))
      (sym (after_next r some old i fits (level_few i h)))
      ∙ ap (take (num_indices r.grid)) (drop_at (take (i * room) before)
      (front (level_numbers r i) (drop (i * room) before)) (i * room) head)
      ∙ first_in_front (level_full r n each on i h) (drop (i * room) before)

  -- k times its numbers fit 16 bits where there is a next level
  pub restart_small : (i : ℕ) → suc i < n → all (λ x. leb (r.factor * x) 65535) (first_vertex (level_problem r i)) ≡ true
  unfolding level_start
  restart_small i h =
      let g = level_grid r (suc i) in
      let a = accepted g (each (suc i) h) in
      let y = first_vertex (level_problem r i) in
      each-small r.factor y (λ j.
      omega (
        arith,
        times-at r.factor y j,
        a.few_points,
        coordinate_below g a.sizes_two a.same_number
            (times r.factor y) (start-on-grid r n each on (suc i) h) j,
      ))
