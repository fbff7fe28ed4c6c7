-- The levels one after another: what each finds in both buffers, and what it leaves there. Assumes nothing.
use mathlib.Core.List.{List, [], ◌∷◌, map}
use mathlib.Core.Logic.{⊎_elim}
use mathlib.Core.Path.{◌≡◌, refl, sym, ap, ◌∙◌}
use Prim.Native.Nat.{ℕ, zero, suc, pred, ◌+◌, ◌*◌, ◌≤◌, ◌<◌}
use borrow.Author.Tests.{le-ltb, lt-ltb}
use lib.ListN.{length, get_or, drop, length-map, length-set, set, take}
use lib.Seq.{ext_get_or, get_or-set_other, get_or-set_same}
use native.Mathlib.Nat.{mul-le-mul}
use native.Mathlib.Numerals.{add-one}
use native.Mathlib.Omega.{arith}
use Rattle.combinatorics.proofs.Basics.{before_or_not, same_or}
use Rattle.combinatorics.proofs.Fronts.{front_full, front_length}
use Rattle.combinatorics.proofs.Ranges.{length-up_from}
use Rattle.combinatorics.specs.Front.{front}
use Rattle.combinatorics.specs.Lists.{up_from}
use Rattle.finder.specs.Run.{case_of}
use Rattle.game_labels.proofs.AllLabels.{labels_length}
use Rattle.grid_points.proofs.Accepted.{Accepted, accepted, blocks-few}
use Rattle.grid.proofs.Fields.{is_made, made-points, shape_of}
use Rattle.grid_points.specs.Grid.{Grid, dimension, num_indices, num_points}
use Rattle.grid.specs.Made.{IsMade, grid_of, shape}
use Rattle.grid_points.specs.Questions.{grid_questions}
use Rattle.grid_points.proofs.Points.{point-long}
use Rattle.grid.specs.declared.Grid.{Grid as GridStruct}
use Rattle.refinement_levels.proofs.Buffers.{after-length, after_next, after_none}
use Rattle.refinement_levels.proofs.Grids.{level_first, levels_yes, points-grow}
use Rattle.refinement_levels.proofs.Starts.{first-on-grid, level_full, start-on-grid}
use Rattle.refinement_levels.proofs.Vertices.{first_read, level_few, restart_small}
use Rattle.refinement_levels.specs.Buffers.{numbers_after}
use Rattle.refinement_levels.specs.Levels.{Refinement, end_of, first_vertex, game_problem, level_end, level_grid}
use Rattle.refinement_levels.specs.Levels.{level_problem}
use Rattle.refinement_levels.specs.Levels.{level_start, times}
use Rattle.refinement_levels.specs.Questions.{last_grid, level_room}
use Rattle.game_losses.specs.Game.{labels}
use Rattle.place.specs.Problem.{Problem}
use Rattle.questions.specs.Questions.{first_no}
use Rattle.refinement.specs.Answer.{entry_of, level_of, levels_of, no_level}
use Rattle.refinement.specs.Runs.{CanRunAll, CanSolve, CanStart, level_start_from, problem_at, written_at}
use Rattle.refinement.specs.declared.Level.{Level}

-- the array of the levels, one more a turn
at-range : {A : Type 0} (f : ℕ → A) (b n j : ℕ) (d : A) → j < n → get_or (map f (up_from b n)) j d ≡ f (b + j)
at-range f b zero j d h = absurd (omega arith)
at-range f b (suc n) zero d h = let e : b + 0 ≡ b = omega arith in rw e
at-range f b (suc n) (suc j) d h =
    let e : suc b + j ≡ b + suc j = omega arith in at-range f (suc b) n j d (omega arith) ∙ ap f e

pub levels_none : (r : Refinement)
    → levels_of r 0 ≡ no_level ∷ no_level ∷ no_level ∷ no_level ∷ no_level ∷ no_level ∷ no_level ∷ no_level ∷ []
unfolding levels_of
levels_none r = refl

pub levels_long : (r : Refinement) (i : ℕ) → length (levels_of r i) ≡ 8
unfolding levels_of
levels_long r i = length-map (up_from 0 8) (entry_of r i) ∙ length-up_from 0 8

pub level_at : (r : Refinement) (i j : ℕ) → j < 8 → get_or (levels_of r i) j no_level ≡ entry_of r i j
unfolding levels_of
level_at r i j h = let e : 0 + j ≡ j = omega arith in at-range (entry_of r i) 0 8 j no_level h ∙ ap (entry_of r i) e

pub levels_next : (r : Refinement) (i : ℕ) (v : Level) → i < 8 → v ≡ level_of (case_of (level_end r i))
    → set (levels_of r i) i v ≡ levels_of r (i + 1)
levels_next r i v h e =
    ext_get_or no_level (set (levels_of r i) i v) (levels_of r (i + 1))
    (length-set (levels_of r i) i v ∙ levels_long r i ∙ sym (levels_long r (i + 1)))
    (λ j l.
    let w : j < 8 = omega (arith, length-set (levels_of r i) i v, levels_long r i) in
    ⊎_elim
    (λ (q : j ≡ i). let o : i < length (levels_of r i) = omega (arith, levels_long r i) in
    rw q (get_or-set_same (levels_of r i) i v no_level o ∙ e ∙ entry_now r i) ∙ sym (level_at r (i + 1) j w))
    (λ (q : j ≡ i → ⊥). get_or-set_other (levels_of r i) i j v no_level q ∙ level_at r i j w ∙ entry_other r i j q ∙ sym
    (level_at r (i + 1) j w))
    (same_or j i))
  where
    entry_now : (r : Refinement) (i : ℕ) → level_of (case_of (level_end r i)) ≡ entry_of r (i + 1) i
    entry_now r i = rw (lt-ltb i (i + 1) (omega arith))

    entry_other : (r : Refinement) (i j : ℕ) → (j ≡ i → ⊥) → entry_of r i j ≡ entry_of r (i + 1) j
    entry_other r i j q =
        ⊎_elim
        (λ (l : j < i). rw (lt-ltb j i l, lt-ltb j (i + 1) (omega arith)))
        (λ (l : i ≤ j). rw (le-ltb j i l, le-ltb j (i + 1) (omega arith)))
        (before_or_not j i)

-- the label buffer, one level more a turn
abbrev pub labels_after : Refinement → ℕ → List ℕ → List ℕ
labels_after r zero buffer = buffer
labels_after r (suc i) buffer = front (labels (level_grid r i) r.losses) (labels_after r i buffer)

module _ (r : Refinement) (levels : ℕ) (grids : List GridStruct) (buffer answer : List ℕ)
    (ok : CanRunAll r levels grids buffer answer) where
  each : (i : ℕ) → i < levels → first_no (grid_questions (level_grid r i)) ≡ 0
  each = levels_yes r.grid r.factor levels ok.yes

  first-accepted : Accepted r.grid
  first-accepted =
      accepted r.grid (ap (λ (g : Grid). first_no (grid_questions g)) (sym (level_first r.grid r.factor)) ∙ each
      0 (omega (arith, ok.some.0)))

  room-some : 0 < level_room r.grid
  room-some =
      let a = first-accepted in
      let m : 1 * 1 ≤ suc (dimension r.grid) * num_indices r.grid =
      mul-le-mul {n₁ = 1} {m₁ = 1} {n₂ = suc (dimension r.grid)} {m₂ = num_indices r.grid} (omega arith)
      (omega (arith, a.some_block, blocks-few r.grid a))
      in
      omega arith

  -- a level's P is at most the last one's
  points-room : (i : ℕ) → i < levels → num_points (level_grid r i) ≤ length buffer
  points-room i h =
      let p =
      points-grow r.grid r.factor (omega (arith, ok.factor.0)) i (pred levels) (omega arith)
      first-accepted.sizes_two
      in
      omega (arith, p, ok.exact)

  pub labels-long : (i : ℕ) → i ≤ levels → length (labels_after r i buffer) ≡ length buffer
  labels-long zero h = refl
  labels-long (suc i) h =
      let l = labels-long i (omega arith) in
      front_length (labels (level_grid r i) r.losses) (labels_after r i buffer)
      (omega (arith, labels_length (level_grid r i) r.losses, points-room i (omega arith), l)) ∙ l

  pub labels-last : labels_after r levels buffer ≡ labels (last_grid r levels) r.losses
  labels-last = go levels refl
    where
      go : (n : ℕ) → n ≡ levels → labels_after r n buffer ≡ labels (last_grid r n) r.losses
      go zero e = absurd (omega (arith, ok.some.0))
      go (suc i) e =
          let p : num_points (level_grid r i) ≡ num_points (last_grid r levels) =
          ap (λ (n : ℕ). num_points (level_grid r (pred n))) e
          in
          front_full (labels (level_grid r i) r.losses) (labels_after r i buffer)
          (omega (arith, labels_length (level_grid r i) r.losses, p, ok.exact, labels-long i (omega arith)))

  pub answer-long : (i : ℕ) → length (numbers_after r i answer) ≡ length answer
  answer-long i = after-length r room-some answer i

  pub answer-first : numbers_after r 0 answer ≡ answer
  answer-first = after_none r room-some answer

  -- where a level starts: the first vertex of the level before stands where it was written
  level_fits : (i : ℕ) → i < levels → (i + 1) * level_room r.grid ≤ length answer
  level_fits i h =
      let p : (i + 1) * level_room r.grid ≤ levels * level_room r.grid = mul-le-mul (omega arith) (omega arith) in
      omega (arith, p, ok.room)

  vertex-read : (i : ℕ) → suc i < levels
      → take (num_indices r.grid) (drop (i * level_room r.grid) (numbers_after r (suc i) answer)) ≡ first_vertex
      (level_problem r i)
  vertex-read i h =
      rw (add-one i) at (first_read r levels each ok.on_grid i answer (omega arith) room-some
      (level_fits i (omega arith)))

  starts-at : (i : ℕ) → i < levels
      → level_start_from (level_grid r i) i r.start r.factor (numbers_after r i answer) ≡ level_start r i
  unfolding level_start
  starts-at zero h = refl
  starts-at (suc i) h = ap (times r.factor) (vertex-read i h)

  can-start : (i : ℕ) → i < levels → CanStart (level_grid r i) i r.start r.factor (numbers_after r i answer)
  can-start i h = record {
    long = point-long r.grid r.start ok.on_grid;
    room =
        let p : i * level_room r.grid ≤ (i + 1) * level_room r.grid = mul-le-mul (omega arith) (omega arith) in
        omega (arith, p, level_fits i h, answer-long i);
    few = omega (arith, ok.some.1);
    fit = λ j e.
        let w : suc j < levels = omega arith in
        rw (e, vertex-read j w) (record {
          few =
              omega (
                arith,
                point-long (level_grid r j) (first_vertex (level_problem r j))
                    (first-on-grid (level_full r levels each ok.on_grid j (omega arith))),
                first-accepted.few_indices,
              );
          factor = ok.factor.1;
          small = restart_small r levels each ok.on_grid j w;
        });
  }

  -- a level, with its grid
  module _ (i : ℕ) (h : i < levels) (g other : GridStruct) (is : g ≡ get_or grids i other) where
    grid-is : g ≡ grid_of (level_grid r i)
    grid-is = is ∙ ok.are i h other

    shape_is : shape g ≡ level_grid r i
    shape_is = ap shape grid-is ∙ shape_of (level_grid r i) (accepted (level_grid r i) (each i h)).same_number

    grid-made : IsMade g
    grid-made = rw grid-is (is_made (level_grid r i) (each i h))

    pub can_solve : CanSolve g i r.start r.losses r.factor (labels_after r i buffer) (numbers_after r i answer)
    can_solve = record {
      made = grid-made;
      starts = rw shape_is (can-start i h);
      on_grid = rw (shape_is, starts-at i h) (start-on-grid r levels each ok.on_grid i h);
      table = rw shape_is (record { whole = ok.table.whole; range = ok.table.range });
      points =
          omega (arith, made-points g grid-made ∙ ap num_points shape_is, points-room i h, labels-long i (omega arith));
      room =
          let e =
          ap (λ (s : Grid). suc i * level_room s) shape_is ∙ ap (λ (n : ℕ). n * level_room r.grid)
          (sym (add-one i))
          in
          omega (arith, e, level_fits i h, answer-long i);
    }

    problem-is : problem_at (shape g) i r.start r.losses r.factor (numbers_after r i answer) ≡ level_problem r i
    problem-is =
        ap (λ (s : Grid). problem_at s i r.start r.losses r.factor (numbers_after r i answer)) shape_is
        ∙ ap (λ (y : List ℕ). game_problem (level_grid r i) y r.losses) (starts-at i h)

    pub level_solved : (v : Level)
        → v ≡ level_of (case_of
        (end_of (problem_at (shape g) i r.start r.losses r.factor (numbers_after r i answer))))
        → v ≡ level_of (case_of (level_end r i))
    level_solved v e = e ∙ ap (λ (p : Problem). level_of (case_of (end_of p))) problem-is

    pub labels-solved : (now : List ℕ) → now ≡ front (labels (shape g) r.losses) (labels_after r i buffer)
        → now ≡ labels_after r (i + 1) buffer
    labels-solved now e =
        e ∙ ap (λ (s : Grid). front (labels s r.losses) (labels_after r i buffer)) shape_is ∙ ap
        (λ (n : ℕ). labels_after r n buffer) (sym (add-one i))

    pub answer-solved : (now : List ℕ)
        → now ≡ written_at (shape g) i (problem_at (shape g) i r.start r.losses r.factor
        (numbers_after r i answer)) (numbers_after r i answer)
        → now ≡ numbers_after r (i + 1) answer
    answer-solved now e =
        e ∙ ap (λ (s : Grid). written_at s i
        (problem_at (shape g) i r.start r.losses r.factor (numbers_after r i answer)) (numbers_after r i answer))
        shape_is
        ∙ ap (λ (p : Problem). written_at (level_grid r i) i p (numbers_after r i answer)) problem-is
        ∙ after_next r room-some answer i (level_fits i h) (level_few r levels each ok.on_grid i h)
