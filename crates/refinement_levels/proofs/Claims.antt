-- What holds of every level of a refinement that its questions let pass. Assumes nothing.
use mathlib.Core.Bool.{true, ◌&&◌}
use mathlib.Core.List.{List, [], ◌∷◌, map}
use mathlib.Core.Path.{◌≡◌, refl, sym, ap, ◌∙◌}
use Prim.Native.Nat.{ℕ, zero, suc, ◌+◌, ◌*◌, ◌≤◌, ◌<◌}
use borrow.Author.Tests.{le-leb, leb-true}
use lib.Dec.{leb}
use lib.ListN.{length, length-replicate, replicate}
use native.Mathlib.Nat.{mul-le-mul}
use native.Mathlib.Omega.{arith}
use Rattle.combinatorics.proofs.Basics.{and_left, and_right}
use Rattle.combinatorics.specs.Front.{front}
use Rattle.combinatorics.specs.Lists.{concat_map, sum, up_from}
use Rattle.finder.proofs.Demand.{run-demand3}
use Rattle.finder.proofs.Refusals.{answered}
use Rattle.finder.specs.Run.{case_of, numbers_of, run_refusal, run_answer, run_buffer}
use Rattle.grid_points.proofs.Accepted.{accepted}
use Rattle.combinatorics.proofs.Terms.{terms_few}
use Rattle.grid_points.specs.Grid.{bound, dimension, is_grid_point, num_indices, num_points}
use Rattle.grid_points.specs.Questions.{grid_questions, question5}
use Rattle.place.specs.Path.{PathAnswer, spent, ended, unknown, path_length}
use Rattle.place.specs.Problem.{Problem}
use Rattle.place.specs.Questions.{question8 as run_question8, table_questions}
use Rattle.path_laws.proofs.Accepted.{accepted-is}
use Rattle.path_laws.proofs.Filled.{FullyLabelled, full_accepted, full_table}
use Rattle.path_laws.proofs.Theorem.{demand3_holds}
use Rattle.questions.proofs.Answers.{asked-next, both_yes, first-yes}
use Rattle.questions.specs.Questions.{first_no}
use Rattle.refinement_levels.specs.Claims.{EveryRefinement, Level}
use Rattle.refinement_levels.specs.Levels.{Refinement, end_of, level_grid, level_problem, level_start, answer_vertices}
use Rattle.refinement_levels.specs.Questions.{later_level_questions, level_questions, level_room, question18}
use Rattle.refinement_levels.specs.Questions.{refine_questions}
use Rattle.refinement_levels.proofs.Grids.{levels_yes, numbered_levels}
use Rattle.refinement_levels.proofs.Starts.{level_full, no_gap, start-on-grid}

-- the range of k and of the levels
pub in_ranges : (k levels : ℕ) → (question18 k levels).answered_yes ≡ true
    → ((2 ≤ k) × (k ≤ 10)) × ((1 ≤ levels) × (levels ≤ 8))
in_ranges k levels e =
    let f = and_left (leb 2 k && leb k 10) (leb 1 levels && leb levels 8) e in
    let l = and_right (leb 2 k && leb k 10) (leb 1 levels && leb levels 8) e in (
      (leb-true 2 k (and_left (leb 2 k) (leb k 10) f), leb-true k 10 (and_right (leb 2 k) (leb k 10) f)),
      (
        leb-true 1 levels (and_left (leb 1 levels) (leb levels 8) l),
        leb-true levels 8
            (and_right (leb 1 levels) (leb levels 8) l),
      ),
    )

-- the questions, one by one, where all are answered yes
pub record Passed (r : Refinement) (levels : ℕ) (buffer : List ℕ) (room : ℕ) : Type 0 where
  pub factor : (2 ≤ r.factor) × (r.factor ≤ 10)
  pub levels_range : (1 ≤ levels) × (levels ≤ 8)
  pub grids : first_no (level_questions r.grid r.factor levels) ≡ 0
  pub later : first_no (later_level_questions r levels buffer room) ≡ 0

pub passed : (r : Refinement) (levels : ℕ) (buffer : List ℕ) (room : ℕ)
    → first_no (refine_questions r levels buffer room) ≡ 0 → Passed r levels buffer room
passed r levels buffer room e =
    let a = first-yes (question18 r.factor levels) _ (omega arith) e in
    let w = in_ranges r.factor levels a.0 in
    let b =
    both_yes (level_questions r.grid r.factor levels) (later_level_questions r levels buffer room)
    (numbered_levels r.grid r.factor levels) a.1
    in
    record { factor = w.0; levels_range = w.1; grids = b.0; later = b.1 }

-- the numbers of an answer are those of its vertices
pub numbers-are : (a : PathAnswer) → numbers_of a ≡ concat_map (λ y. y) (answer_vertices a)
numbers-are (spent n) = refl
numbers-are (ended n read kind block vertices simplex) = refl
numbers-are (unknown n position) = refl

-- a table without gaps, with room for the answer
unrefused : {p : Problem} (room : ℕ) → FullyLabelled p → num_points p.grid ≤ 60000 → level_room p.grid ≤ room
    → run_refusal p room ≡ 0
unfolding first_no
unrefused {p} room full few h =
    asked-next (table_questions p) (run_question8 p.grid room ∷ []) refl (accepted-is (full_accepted full few))
    ∙ rw (le-leb (level_room p.grid) room h)

-- what a run with the bound as budget answers and writes
as_run : (p : Problem) (room : ℕ) → run_refusal p room ≡ 0 → (old : List ℕ) → length old ≡ room
    → (run_answer p room (bound p.grid) ≡ case_of (end_of p))
    × (run_buffer p (bound p.grid) old ≡ front (concat_map (λ y. y) (answer_vertices (end_of p))) old)
as_run p room none old e =
    let w = answered p (bound p.grid) old (ap (run_refusal p) e ∙ none) in (
      ap (λ (n : ℕ). run_answer p n (bound p.grid)) (sym e) ∙ sym w.0,
      sym w.1 ∙ ap (λ (l : List ℕ). front l old)
          (numbers-are (end_of p)),
    )

module _ (r : Refinement) (n : ℕ) (each : (i : ℕ) → i < n → first_no (grid_questions (level_grid r i)) ≡ 0)
    (on : is_grid_point r.grid r.start ≡ true) where
  level_holds : (i : ℕ) → i < n → (room : ℕ) → level_room r.grid ≤ room → Level r i room
  level_holds i h room l =
      let p = level_problem r i in
      let full = level_full r n each on i h in
      let none = unrefused room full (accepted (level_grid r i) (each i h)).few_points l in
      let d = run-demand3 p room none in
      let e = d.ended (no_gap full) in
      let own = (as_run p room none (replicate room 0) (length-replicate room 0)).0 in
      record {
        accepted = none;
        demand3 = d;
        own = own;
        written = λ old q. (as_run p room none old q).1;
        ended = e;
        announced = sym own ∙ e.reaches;
      }

  -- the places of the levels from b on
  within : (b k : ℕ) → b + k ≤ n
      → sum (map (λ i. path_length (level_problem r i)) (up_from b k)) ≤ sum
      (map (λ i. bound (level_grid r i)) (up_from b k))
  within b zero h = omega arith
  within b (suc k) h =
      omega (
        arith,
        (demand3_holds (full_table (level_full r n each on b (omega arith)))).bounded,
        within (suc b) k
            (omega arith),
      )

  -- the largest bound is 60,000 times 35,951,249,665,217
  bound-few : (i : ℕ) → i < n → bound (level_grid r i) ≤ 2157074979913020000
  unfolding bound
  bound-few i h =
      let g = level_grid r i in
      let a = accepted g (each i h) in
      let t = terms_few (num_indices g) (dimension g) a.few_indices (omega (arith, a.few_indices, a.some_block)) in
      let p = mul-le-mul a.few_points t in
      omega (arith, p)

  bounds_few : (b k : ℕ) → b + k ≤ n → sum (map (λ i. bound (level_grid r i)) (up_from b k)) ≤ k * 2157074979913020000
  bounds_few b zero h = omega arith
  bounds_few b (suc k) h = omega (arith, bound-few b (omega arith), bounds_few (suc b) k (omega arith))

-- every refinement that its questions let pass
pub every_refinement : EveryRefinement
unfolding level_start
every_refinement r levels buffer room e =
    let w = passed r levels buffer room e in
    let each = levels_yes r.grid r.factor levels w.grids in
    let on = (first-yes (question5 r.grid r.start) _ (omega arith) w.later).0 in
    let most = bounds_few r levels each on 0 levels (omega arith) in
    record {
      each = level_holds r levels each on;
      restarts = λ i h. start-on-grid r levels each on (suc i) h;
      total = within r levels each on 0 levels (omega arith);
      fits = omega (arith, most, w.levels_range.1);
    }
