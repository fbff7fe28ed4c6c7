-- The refusals of a run: which of questions 1 to 8 is the first that is answered no, and what its answer and its buffer
-- then are. Assumes nothing.
use mathlib.Core.Bool.{true, false}
use mathlib.Core.List.{List, [], ◌∷◌}
use mathlib.Core.Path.{◌≡◌, refl, sym, ap, ◌∙◌}
use Prim.Native.Nat.{ℕ, suc, ◌+◌, ◌-◌, ◌*◌, ◌≤◌, ◌<◌}
use borrow.Author.Tests.{eq-eqb, le-leb, leb-true, lt-leb, ne_eqb}
use lib.Dec.{eqb, leb}
use lib.ListN.{length}
use native.Mathlib.Nat.{mul-le-mul_right}
use native.Mathlib.Omega.{arith}
use Rattle.combinatorics.proofs.Fronts.{front-none}
use Rattle.combinatorics.specs.Front.{front}
use Rattle.combinatorics.specs.Lists.{all}
use Rattle.questions.proofs.Answers.{asked-next, asked-no, both_yes, first-yes}
use Rattle.questions.specs.Questions.{first_no}
use Rattle.grid.proofs.Fields.{indices-few, made-accepted, made-blocks, made-indices, made-shape}
use Rattle.grid_points.specs.Grid.{Grid, dimension, is_grid_point, num_indices, num_points}
use Rattle.grid.specs.Made.{IsMade, made_of, shape}
use Rattle.grid_points.specs.Questions.{grid_questions}
use Rattle.grid_points.proofs.Accepted.{blocks-at-most}
use Rattle.grid.specs.declared.Grid.{Grid as GridStruct}
use Rattle.grid.specs.declared.Made.{Made}
use Rattle.place.specs.Path.{answer}
use Rattle.place.specs.Problem.{Problem, problem_of}
use Rattle.place.specs.Questions.{question8, table_questions}
use Rattle.path_laws.proofs.Accepted.{accepted_of}
use Rattle.path_laws.specs.Demand.{Accepted}
use Rattle.marks.specs.Reading.{problem_from}
use Rattle.finder.specs.Asked.{later_run_questions}
use Rattle.finder.specs.Run.{case_of, numbers_of, run_refusal, run_answer, run_buffer}
use Rattle.finder.specs.declared.answers.RunAnswer.TheVariants.{Refused}

-- the refusal, by questions 1 to 4 and those behind them
module _ (p : Problem) (room : ℕ) where
  pub by_grid : (first_no (grid_questions p.grid) ≡ 0 → ⊥) → run_refusal p room ≡ first_no (grid_questions p.grid)
  by_grid n = asked-no (grid_questions p.grid) (later_run_questions p room) _ n refl

  pub by_later : first_no (grid_questions p.grid) ≡ 0 → run_refusal p room ≡ first_no (later_run_questions p room)
  by_later e = asked-next (grid_questions p.grid) (later_run_questions p room) refl e

  -- where none is answered no, the table is accepted and the answer has room
  pub accepted-with_room : first_no (grid_questions p.grid) ≡ 0 → first_no (later_run_questions p room) ≡ 0
      → Accepted p × (suc (dimension p.grid) * num_indices p.grid ≤ room)
  accepted-with_room e f =
      let w = both_yes (table_questions p) (question8 p.grid room ∷ []) refl (by_later e ∙ f) in (
        accepted_of p w.0,
        leb-true (suc (dimension p.grid) * num_indices p.grid) room
            (first-yes (question8 p.grid room) [] (omega arith) w.1).0,
      )

-- questions 5 to 8
module _ (p : Problem) (room : ℕ) where
  pub no_start : is_grid_point p.grid p.start ≡ false → 5 ≡ first_no (later_run_questions p room)
  unfolding first_no
  no_start e = rw e

  pub no_length : is_grid_point p.grid p.start ≡ true → (length p.labels ≡ num_points p.grid → ⊥)
      → 6 ≡ first_no (later_run_questions p room)
  unfolding first_no
  no_length on n = rw (on, ne_eqb (length p.labels) (num_points p.grid) n)

  module _ (on : is_grid_point p.grid p.start ≡ true) (whole : length p.labels ≡ num_points p.grid) where
    pub no_label : all (λ l. leb l (num_indices p.grid)) p.labels ≡ false → 7 ≡ first_no (later_run_questions p room)
    unfolding first_no
    no_label e = rw (on, eq-eqb (length p.labels) (num_points p.grid) whole, e)

    module _ (labelled : all (λ l. leb l (num_indices p.grid)) p.labels ≡ true) where
      pub no_room : room < suc (dimension p.grid) * num_indices p.grid → 8 ≡ first_no (later_run_questions p room)
      unfolding first_no
      no_room l = rw (
        on,
        eq-eqb (length p.labels) (num_points p.grid) whole,
        labelled,
        lt-leb (suc (dimension p.grid) * num_indices p.grid) room l,
      )

      pub none-no : suc (dimension p.grid) * num_indices p.grid ≤ room
          → ◌≡◌ {A = ℕ} 0 (first_no (later_run_questions p room))
      unfolding first_no
      none-no l = rw (
        on,
        eq-eqb (length p.labels) (num_points p.grid) whole,
        labelled,
        le-leb (suc (dimension p.grid) * num_indices p.grid) room l,
      )

-- the numbers of question 8, as the program works them out
module _ (g : GridStruct) (made : IsMade g) where
  pub fewer_blocks : g.blocks ≤ g.indices
  fewer_blocks = omega (
    arith,
    blocks-at-most (shape g).sizes (made-accepted g made).sizes_two,
    made-blocks g made,
    made-indices g made,
  )

  pub room_small : (g.indices - g.blocks + 1) * g.indices ≤ 17 * 16
  room_small =
      let m : g.indices ≤ 16 = indices-few g made in
      let a : (g.indices - g.blocks + 1) * g.indices ≤ 17 * g.indices =
      mul-le-mul_right g.indices (omega arith) in
      omega arith

  pub room-is : (g.indices - g.blocks + 1) * g.indices ≡ suc (dimension (shape g)) * num_indices (shape g)
  room-is =
      let e : g.indices - g.blocks + 1 ≡ suc (dimension (shape g)) =
      omega (arith, made-blocks g made, made-indices g made) in
      rw (e, made-indices g made)

-- the problem of a grid that was made is the problem of its sizes and divisions
pub same-problem : (G : Grid) (r : Made) (is : r ≡ made_of G) → r.code ≡ 0 → (start labels : List ℕ)
    → problem_from r.grid start labels ≡ problem_of G.sizes G.divisions start labels
same-problem G r is z start labels =
    ap (λ (h : Grid). let p : Problem = record { grid = h; start = start; labels = labels } in p) (made-shape G r is z)

-- what a run then answers, and what it leaves in its buffer
module _ (p : Problem) (budget : ℕ) (old : List ℕ) where
  pub refused : (n : ℕ) → (n ≡ 0 → ⊥) → run_refusal p (length old) ≡ n
      → (Refused n ≡ run_answer p (length old) budget) × (old ≡ run_buffer p budget old)
  unfolding run_answer run_buffer
  refused n z e =
      let q : eqb (run_refusal p (length old)) 0 ≡ false = ne_eqb (run_refusal p (length old)) 0 (λ f. z (sym e ∙ f)) in
      (rw (q, e), rw (q, front-none old))

  pub answered : run_refusal p (length old) ≡ 0
      → (case_of (answer p budget) ≡ run_answer p (length old) budget)
      × (front (numbers_of (answer p budget)) old ≡ run_buffer p budget old)
  unfolding run_answer run_buffer
  answered e = (rw e, rw e)
