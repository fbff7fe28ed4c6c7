-- One level in its part of both buffers. Assumes nothing.
use mathlib.Core.List.{List, [], ◌++◌, append-nil}
use mathlib.Core.Path.{◌≡◌, sym, ap, ◌∙◌}
use Prim.Native.Nat.{ℕ, ◌-◌, ◌*◌, ◌≤◌}
use lib.ListN.{length, drop, drop_of_length-le, length-drop, replicate, take}
use lib.Seq.{length-take-le, take_all}
use native.Mathlib.Omega.{arith}
use Rattle.combinatorics.proofs.Fronts.{front_length, front_taken}
use Rattle.combinatorics.specs.Front.{front, padded}
use Rattle.finder.specs.Run.{case_of}
use Rattle.game_labels.proofs.AllLabels.{labels_length}
use Rattle.grid.proofs.Fields.{indices-few, made-indices, made-points}
use Rattle.grid.specs.Made.{shape}
use Rattle.grid.specs.declared.Grid.{Grid as GridStruct}
use Rattle.grid_points.proofs.Points.{point-long}
use Rattle.refinement_levels.specs.Levels.{end_of, game_problem}
use Rattle.refinement_levels.specs.Questions.{level_room}
use Rattle.game_losses.specs.Game.{labels}
use Rattle.refinement.specs.Answer.{level_of}
use Rattle.refinement.specs.Runs.{CanRunLevel, CanSolve, level_start_from, numbers_in, problem_at, written_at}
use Rattle.refinement.specs.declared.Level.{Level}

-- the part of a list from a on, whole, and put back
part_whole : (a : ℕ) (xs : List ℕ) → a ≤ length xs → take (length xs - a) (drop a xs) ≡ drop a xs
part_whole a xs h = take_all (length xs - a) (drop a xs) (omega (arith, length-drop a xs))

pub put_back : (a : ℕ) (xs ys new : List ℕ) → a ≤ length xs → new ≡ front ys (take (length xs - a) (drop a xs))
    → take a xs ++ (new ++ drop (length xs - a) (drop a xs)) ≡ take a xs ++ front ys (drop a xs)
put_back a xs ys new h e =
    let none : drop (length xs - a) (drop a xs) ≡ [] =
    drop_of_length-le (drop a xs) {i = length xs - a} (omega (arith, length-drop a xs))
    in
    let is : new ≡ front ys (drop a xs) = e ∙ ap (front ys) (part_whole a xs h) in
    ap (λ (l : List ℕ). take a xs ++ l) (ap (λ (l : List ℕ). new ++ l) none ∙ append-nil new ∙ is)

module _ (g : GridStruct) (level : ℕ) (start losses : List ℕ) (k : ℕ) (buffer answer : List ℕ)
    (ok : CanSolve g level start losses k buffer answer) (room : ℕ) (is : room ≡ level_room (shape g))
    (first : List ℕ) (f : first ≡ padded 16 (level_start_from (shape g) level start k answer)) where
  first-long : length (level_start_from (shape g) level start k answer) ≡ g.indices
  first-long =
      point-long (shape g) (level_start_from (shape g) level start k answer) ok.on_grid
      ∙ sym (made-indices g ok.made)

  pub first-inside : g.indices ≤ length first
  first-inside =
      let few : length (level_start_from (shape g) level start k answer) ≤ 16 =
      omega (arith, first-long, indices-few g ok.made)
      in
      let l : length (padded 16 (level_start_from (shape g) level start k answer)) ≡ 16 =
      front_length (level_start_from (shape g) level start k answer) (replicate 16 0) few
      in
      omega (arith, few, first-long, ap length f ∙ l)

  start_is : take g.indices first ≡ level_start_from (shape g) level start k answer
  start_is =
      ap (take g.indices) f
      ∙ ap (λ (n : ℕ). take n (padded 16 (level_start_from (shape g) level start k answer))) (sym first-long)
      ∙ front_taken (level_start_from (shape g) level start k answer) (replicate 16 0)

  pub begins : level * room ≤ length answer
  begins = rw is (omega (arith, ok.room))

  pub can-run : CanRunLevel g (take g.indices first) losses (length (take g.points buffer))
      (length (take (length answer - level * room) (drop (level * room) answer)))
  can-run = record {
    made = ok.made;
    on_grid = rw start_is ok.on_grid;
    table = ok.table;
    whole = length-take-le g.points buffer ok.points;
    enough =
        rw (part_whole (level * room) answer begins)
        (omega (arith, length-drop (level * room) answer, ap (λ (n : ℕ). level * n) is, ok.room));
  }

  pub level_told : (r : Level) → r ≡ level_of (case_of (end_of (game_problem (shape g) (take g.indices first) losses)))
      → r ≡ level_of (case_of (end_of (problem_at (shape g) level start losses k answer)))
  level_told r e = e ∙ ap (λ (y : List ℕ). level_of (case_of (end_of (game_problem (shape g) y losses)))) start_is

  pub labels_told : (new : List ℕ) → new ≡ labels (shape g) losses
      → new ++ drop g.points buffer ≡ front (labels (shape g) losses) buffer
  unfolding front
  labels_told new e = rw (e, made-points g ok.made, ← labels_length (shape g) losses)

  pub answer_told : (new : List ℕ)
      → new ≡ front (numbers_in (game_problem (shape g) (take g.indices first) losses))
      (take (length answer - level * room) (drop (level * room) answer))
      → take (level * room) answer ++ (new ++ drop (length answer - level * room) (drop (level * room) answer))
      ≡ written_at (shape g) level (problem_at (shape g) level start losses k answer) answer
  answer_told new e =
      put_back (level * room) answer (numbers_in (game_problem (shape g) (take g.indices first) losses)) new begins e
      ∙ ap (λ (y : List ℕ). take (level * room) answer ++ front (numbers_in (game_problem (shape g) y losses))
      (drop (level * room) answer)) start_is
      ∙ ap (λ (n : ℕ). take (level * n) answer ++ front (numbers_in (problem_at (shape g) level start losses k answer))
      (drop (level * n) answer)) is
