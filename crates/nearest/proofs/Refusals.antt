-- Which question is the first that is answered no, and what the answer and the two buffers then are; and what an end in
-- the answer tells of the path. Assumes nothing.
use mathlib.Core.Bool.{Bool, true, false, cond}
use mathlib.Core.List.{List, [], ◌∷◌, ◌++◌}
use mathlib.Core.Path.{◌≡◌, refl, sym, ◌∙◌}
use Prim.Native.Nat.{ℕ, ◌≤◌, ◌<◌}
use borrow.Author.Tests.{le-leb, leb-true, lt-leb, ne_eqb}
use lib.Dec.{eqb}
use lib.ListN.{length}
use native.Mathlib.Omega.{arith}
use Rattle.combinatorics.proofs.Fronts.{front-none}
use Rattle.combinatorics.specs.Front.{front}
use Rattle.end_kinds.specs.declared.Kind.{Kind}
use Rattle.path_laws.specs.Demand.{Accepted}
use Rattle.questions.proofs.Answers.{asked-next, asked-no, both_yes, first-yes}
use Rattle.questions.specs.Questions.{first_no}
use Rattle.grid_points.specs.Grid.{Point, is_grid_point, num_points}
use Rattle.grid_points.specs.Questions.{grid_questions, question5}
use Rattle.place.specs.Path.{PathAnswer, answer, ended, spent, unknown}
use Rattle.place.specs.Places.{Simplex}
use Rattle.place.specs.Problem.{Problem}
use Rattle.place.specs.Questions.{question6, question7, question8}
use Rattle.finder.proofs.Demand.{case_unknown}
use Rattle.finder.specs.Asked.{later_run_questions}
use Rattle.finder.specs.Run.{case_of, numbers_of}
use Rattle.finder.specs.declared.answers.RunAnswer.TheVariants.{End, Refused, Unknown}
use Rattle.nearest_visited.proofs.Nearest.{is-list}
use Rattle.nearest_visited.specs.Questions.{point_questions, question8_list}
use Rattle.nearest.specs.Report.{near_answer_buffer, list_buffer, listed_by, near_refusal, nearest_in, report_of}
use Rattle.nearest_pass.specs.declared.Vertex.{Vertex}
use Rattle.std.specs.Prelude.{None, Some}

module _ (p : Problem) (w : Point) (room list_room : ℕ) where
  pub by_grid : (first_no (grid_questions p.grid) ≡ 0 → ⊥)
      → near_refusal p w room list_room ≡ first_no (grid_questions p.grid)
  by_grid n = asked-no (grid_questions p.grid) (point_questions p w room list_room) _ n refl

  pub by_point : first_no (grid_questions p.grid) ≡ 0
      → near_refusal p w room list_room ≡ first_no (point_questions p w room list_room)
  by_point e = asked-next (grid_questions p.grid) (point_questions p w room list_room) refl e

  -- questions 5 to 8: the start's number is w's
  pub no-point : is_grid_point p.grid w ≡ false → 5 ≡ first_no (point_questions p w room list_room)
  unfolding first_no
  no-point e = go (is_grid_point p.grid p.start) (is_grid_point p.grid w) e
    where
      go : (a b : Bool) → b ≡ false
          → 5
          ≡ cond a
          (cond b
          (first_no (question6 p ∷ question7 p ∷ question8 p.grid room ∷ question8_list p.grid list_room ∷ [])) 5)
          5
      go true b e = rw e
      go false b e = refl

  module _ (on : is_grid_point p.grid w ≡ true) where
    behind : first_no (point_questions p w room list_room)
        ≡ first_no (later_run_questions p room ++ (question8_list p.grid list_room ∷ []))
    unfolding first_no
    behind = rw on

    pub no-later : (n : ℕ) → (n ≡ 0 → ⊥) → n ≡ first_no (later_run_questions p room)
        → n ≡ first_no (point_questions p w room list_room)
    no-later n z e = sym
        (behind ∙ asked-no (later_run_questions p room) (question8_list p.grid list_room ∷ []) n z (sym e))

    module _ (later : first_no (later_run_questions p room) ≡ 0) where
      list-only : first_no (point_questions p w room list_room) ≡ first_no (question8_list p.grid list_room ∷ [])
      list-only = behind ∙ asked-next (later_run_questions p room) (question8_list p.grid list_room ∷ []) refl later

      pub no-list : list_room < num_points p.grid → 8 ≡ first_no (point_questions p w room list_room)
      unfolding first_no
      no-list l = sym (list-only ∙ rw (lt-leb (num_points p.grid) list_room l))

      pub none-no : num_points p.grid ≤ list_room → ◌≡◌ {A = ℕ} 0 (first_no (point_questions p w room list_room))
      unfolding first_no
      none-no l = sym (list-only ∙ rw (le-leb (num_points p.grid) list_room l))

  -- where none is answered no
  pub all_yes : first_no (point_questions p w room list_room) ≡ 0
      → (is_grid_point p.grid w ≡ true) × (first_no (later_run_questions p room) ≡ 0) × (num_points p.grid ≤ list_room)
  all_yes e =
      let a = first-yes (question5 p.grid p.start)
      (question5 p.grid w ∷ question6 p ∷ question7 p ∷ question8 p.grid room ∷ question8_list p.grid list_room
      ∷ [])
      (omega arith) e in
      let on = (first-yes (question5 p.grid w)
      (question6 p ∷ question7 p ∷ question8 p.grid room ∷ question8_list p.grid list_room ∷ []) (omega arith)
      a.1).0 in
      let b = both_yes (later_run_questions p room) (question8_list p.grid list_room ∷ []) refl (sym (behind on) ∙ e)
      in (
        on,
        b.0,
        leb-true (num_points p.grid) list_room
            (first-yes (question8_list p.grid list_room) [] (omega arith) b.1).0,
      )

-- the answer and the buffers
module _ (p : Problem) (w : Point) (given budget : ℕ) (old list : List ℕ) where
  pub refused : (n : ℕ) → (n ≡ 0 → ⊥) → near_refusal p w (length old) (length list) ≡ n
      → (record { run = Refused n; nearest = None } ≡ report_of p w given (length old) (length list) budget)
      × (old ≡ near_answer_buffer p w (length list) budget old)
      × (list ≡ list_buffer p w given (length old) budget list)
  unfolding report_of near_answer_buffer list_buffer
  refused n z e =
      let q : eqb (near_refusal p w (length old) (length list)) 0 ≡ false =
      ne_eqb (near_refusal p w (length old) (length list)) 0 (λ f. z (sym e ∙ f)) in
      (rw (q, e), rw (q, front-none old), rw (q, front-none list))

  pub answered : near_refusal p w (length old) (length list) ≡ 0
      → (record { run = case_of (answer p budget); nearest = nearest_in p w given (answer p budget) }
      ≡ report_of p w given (length old) (length list) budget)
      × (front (numbers_of (answer p budget)) old ≡ near_answer_buffer p w (length list) budget old)
      × (front (listed_by p w given (answer p budget)) list ≡ list_buffer p w given (length old) budget list)
  unfolding report_of near_answer_buffer list_buffer
  answered e = (rw e, rw e, rw e)

-- an end in the answer is the path's, after all its places
case_ended : (a : PathAnswer) {n read block vertices : ℕ} {kind : Kind} → case_of a ≡ End n read kind block vertices
    → (k : Kind) × (s : Simplex) × (a ≡ ended n read k block vertices s)
case_ended (spent m) e = absurd (let z : ◌≡◌ {A = ℕ} 0 1 = cc in omega arith)
case_ended (unknown m i) e = absurd (let z : ◌≡◌ {A = ℕ} 0 1 = cc in omega arith)
case_ended (ended m l k b v s) {n} {read} {block} {vertices} e =
    let x : m ≡ n = cc in
    let w : l ≡ read = cc in
    let y : b ≡ block = cc in
    let z : v ≡ vertices = cc in
    (k, s, rw (x, w, y, z))

module _ (p : Problem) (budget : ℕ) where
  pub at_gap : {n i : ℕ} → case_of (answer p budget) ≡ Unknown n i → answer p budget ≡ unknown n i
  at_gap e = case_unknown (answer p budget) _ _ e

  pub at-end : {n read block vertices : ℕ} {kind : Kind} → case_of (answer p budget) ≡ End n read kind block vertices
      → (k : Kind) × (s : Simplex) × (answer p budget ≡ ended n read k block vertices s)
  at-end e = case_ended (answer p budget) e

-- what is reported tells what is listed: nothing; or as many positions as it says, which are no more than the points
pub none_of : (p : Problem) (w : Point) (given : ℕ) (a : PathAnswer) → nearest_in p w given a ≡ None
    → listed_by p w given a ≡ []
none_of p w given (spent n) e = refl
none_of p w given (unknown n i) e = refl
none_of p w given (ended n read kind block vertices s) e = absurd (let z : ◌≡◌ {A = ℕ} 0 1 = cc in omega arith)

pub list_of : (p : Problem) (w : Point) (given : ℕ) (a : PathAnswer) {v : Vertex} → nearest_in p w given a ≡ Some v
    → v.listed ≡ length (listed_by p w given a)
list_of p w given (spent n) e = absurd (let z : ◌≡◌ {A = ℕ} 0 1 = cc in omega arith)
list_of p w given (unknown n i) e = absurd (let z : ◌≡◌ {A = ℕ} 0 1 = cc in omega arith)
list_of p w given (ended n read kind block vertices s) e = cc

pub listed-few : {p : Problem} → Accepted p → (w : Point) → is_grid_point p.grid w ≡ true → (given : ℕ)
    (a : PathAnswer)
    → length (listed_by p w given a) ≤ num_points p.grid
listed-few ok w on given (spent n) = omega arith
listed-few ok w on given (unknown n i) = omega arith
listed-few ok w on given (ended n read kind block vertices s) = (is-list ok w on given).few
