-- What request 11 asks holds of every call that is not refused before it runs. Assumes nothing.
use mathlib.Core.Bool.{true}
use mathlib.Core.List.{List}
use mathlib.Core.Logic.{⊎_elim}
use mathlib.Core.Path.{◌≡◌, sym, ap, ◌∙◌}
use Prim.Native.Nat.{ℕ}
use lib.ListN.{length, length-replicate, replicate}
use Rattle.combinatorics.proofs.Basics.{same_or}
use Rattle.combinatorics.proofs.Fronts.{front-none}
use Rattle.combinatorics.specs.Front.{front}
use Rattle.questions.specs.Questions.{first_no}
use Rattle.grid_points.specs.Grid.{Point, is_grid_point}
use Rattle.grid_points.specs.Questions.{grid_questions}
use Rattle.place.specs.Path.{answer}
use Rattle.place.specs.Problem.{Problem}
use Rattle.path_laws.proofs.Accepted.{accepted-table}
use Rattle.path_laws.proofs.Theorem.{demand3_holds}
use Rattle.path_laws.specs.Demand.{Accepted}
use Rattle.finder.proofs.Refusals.{accepted-with_room, answered as run-answered, by_later}
use Rattle.finder.specs.Asked.{later_run_questions}
use Rattle.finder.specs.Run.{case_of, numbers_of, run_answer, run_buffer}
use Rattle.nearest_visited.proofs.Distances.{distances}
use Rattle.nearest_visited.proofs.Nearest.{grid-accepted, is-list, is-nearest}
use Rattle.nearest_visited.proofs.Visits.{visits}
use Rattle.nearest.specs.Demand.{NearDemandHolds}
use Rattle.nearest.specs.Report.{near_answer_buffer, list_buffer, listed_by, near_refusal, nearest_in, report_of}
use Rattle.nearest.specs.declared.Report.{Report}
use Rattle.nearest.proofs.Refusals.{all_yes, answered, at-end, at_gap, by_grid, by_point}

module _ (p : Problem) (w : Point) (room list_room : ℕ) (none : near_refusal p w room list_room ≡ 0) where
  accepted-grid : first_no (grid_questions p.grid) ≡ 0
  accepted-grid = ⊎_elim
      (λ e. e)
      (λ n. absurd (n (sym (by_grid p w room list_room n) ∙ none)))
      (same_or (first_no (grid_questions p.grid)) 0)

  yes : (is_grid_point p.grid w ≡ true) × (first_no (later_run_questions p room) ≡ 0)
  yes = let y = all_yes p w room list_room (sym (by_point p w room list_room accepted-grid) ∙ none) in (y.0, y.1)

  ok : Accepted p
  ok = (accepted-with_room p room accepted-grid yes.1).0

  -- what is answered and left in buffers of these lengths
  reported : (given budget : ℕ) (old list : List ℕ) → length old ≡ room → length list ≡ list_room
      → (record { run = case_of (answer p budget); nearest = nearest_in p w given (answer p budget) }
      ≡ report_of p w given room list_room budget)
      × (front (numbers_of (answer p budget)) old ≡ near_answer_buffer p w list_room budget old)
      × (front (listed_by p w given (answer p budget)) list ≡ list_buffer p w given room budget list)
  reported given budget old list e f = rw (← e, ← f) (answered p w given budget old list (rw (e, f) none))

  report_is : (given budget : ℕ)
      → record { run = case_of (answer p budget); nearest = nearest_in p w given (answer p budget) }
      ≡ report_of p w given room list_room budget
  report_is given budget = (reported given budget (replicate room 0) (replicate list_room 0) (length-replicate room 0)
      (length-replicate list_room 0)).0

  list-is : (given budget : ℕ) (old : List ℕ) → length old ≡ list_room
      → front (listed_by p w given (answer p budget)) old ≡ list_buffer p w given room budget old
  list-is given budget old e = (reported given budget (replicate room 0) old (length-replicate room 0) e).2

  -- a run without w
  run_is : (budget : ℕ) (old : List ℕ) → length old ≡ room
      → (case_of (answer p budget) ≡ run_answer p room budget)
      × (front (numbers_of (answer p budget)) old ≡ run_buffer p budget old)
  run_is budget old e = rw (← e) (run-answered p budget old (by_later p (length old) accepted-grid ∙ rw e yes.1))

  same-run : (given budget : ℕ) → (report_of p w given room list_room budget).run ≡ run_answer p room budget
  same-run given budget = sym (ap (λ (r : Report). r.run) (report_is given budget))
      ∙ (run_is budget (replicate room 0) (length-replicate room 0)).0

  told : (given budget : ℕ)
      → (report_of p w given room list_room budget).nearest ≡ nearest_in p w given (answer p budget)
  told given budget = sym (ap (λ (r : Report). r.nearest) (report_is given budget))

  case_is : (budget : ℕ) → case_of (answer p budget) ≡ run_answer p room budget
  case_is budget = (run_is budget (replicate room 0) (length-replicate room 0)).0

pub near_demand : NearDemandHolds
near_demand p w room list_room none = record {
  run = same-run p w room list_room none;
  answer = λ budget old e.
      sym (reported p w room list_room none 0 budget old (replicate list_room 0) e (length-replicate list_room 0)).1
      ∙ (run_is p w room list_room none budget old e).1;
  alike = λ other given next budget other_room n.
      same-run p w room list_room none given budget ∙ sym (same-run p other room other_room n next budget);
  ended = λ given budget n read block vertices kind e. told p w room list_room none given budget
      ∙ (let a = at-end p budget (case_is p w room list_room none budget ∙ e) in rw a.2);
  spent = λ given budget old e l.
      let a = ((demand3_holds (accepted-table (ok p w room list_room none))).spends budget).1 l in (
        told p w room list_room none given budget ∙ rw a,
        sym (list-is p w room list_room none given budget old e) ∙ rw a (front-none old),
      );
  unknown = λ given budget n i old e q.
      let a = at_gap p budget (case_is p w room list_room none budget ∙ q) in (
        told p w room list_room none given budget ∙ rw a,
        sym (list-is p w room list_room none given budget old e) ∙ rw a (front-none old),
      );
  visits = visits (accepted-table (ok p w room list_room none));
  distances = distances p.grid (grid-accepted (ok p w room list_room none));
  nearest = is-nearest (ok p w room list_room none) w;
  list = is-list (ok p w room list_room none) w (yes p w room list_room none).0;
}
