-- Demand 3 in one piece holds, and filling a gap changes no end: what a run answers and writes is told by the path's
-- answer. Assumes nothing.
use mathlib.Core.List.{List, []}
use mathlib.Core.Logic.{⊎_elim}
use mathlib.Core.Path.{◌≡◌, refl, sym, ap, ◌∙◌, subst}
use Prim.Native.Nat.{ℕ, ◌≤◌, ◌<◌}
use lib.ListN.{length, get_or, length-replicate, replicate}
use native.Mathlib.Omega.{arith}
use Rattle.combinatorics.proofs.Basics.{same_or}
use Rattle.combinatorics.proofs.Fronts.{front-none}
use Rattle.combinatorics.specs.Front.{front}
use Rattle.end_kinds.specs.declared.Kind.{Kind}
use Rattle.questions.specs.Questions.{first_no}
use Rattle.grid_points.specs.Grid.{bound}
use Rattle.grid_points.specs.Questions.{grid_questions}
use Rattle.place.specs.Path.{PathAnswer, spent, ended, unknown, answer, path_length}
use Rattle.place.specs.Problem.{Problem, with_labels}
use Rattle.path_laws.proofs.Accepted.{accepted-table}
use Rattle.path_laws.proofs.Filling.{filling_holds}
use Rattle.path_laws.proofs.Theorem.{demand3_holds}
use Rattle.path_laws.specs.Demand.{Accepted, Demand3, Ended, Filling}
use Rattle.finder.specs.Demand.{Demand3InOnePiece, FillingInOnePiece, RunEnded, announcement_of}
use Rattle.finder.specs.Run.{case_of, numbers_of, run_refusal, run_answer, run_buffer}
use Rattle.finder.specs.declared.answers.RunAnswer.{RunAnswer}
use Rattle.finder.specs.declared.answers.RunAnswer.TheVariants.{End, Spent, Unknown}
use Rattle.finder.proofs.Refusals.{accepted-with_room, answered, by_grid, by_later}

-- an answer is told by its case
case_spent : (a : PathAnswer) (b : ℕ) → case_of a ≡ Spent b → a ≡ spent b
case_spent (spent n) b e = let z : n ≡ b = cc in rw z
case_spent (ended n read kind block vertices simplex) b e = absurd (let z : ◌≡◌ {A = ℕ} 0 1 = cc in omega arith)
case_spent (unknown n i) b e = absurd (let z : ◌≡◌ {A = ℕ} 0 1 = cc in omega arith)

pub case_unknown : (a : PathAnswer) (n i : ℕ) → case_of a ≡ Unknown n i → a ≡ unknown n i
case_unknown (spent k) n i e = absurd (let z : ◌≡◌ {A = ℕ} 0 1 = cc in omega arith)
case_unknown (ended k read kind block vertices simplex) n i e = absurd (let z : ◌≡◌ {A = ℕ} 0 1 = cc in omega arith)
case_unknown (unknown k j) n i e = let y : k ≡ n = cc in let z : j ≡ i = cc in rw (y, z)

-- a table that no question refuses is accepted
pub unrefused : (p : Problem) (room : ℕ) → run_refusal p room ≡ 0 → Accepted p
unrefused p room e =
    let grid : first_no (grid_questions p.grid) ≡ 0 =
    ⊎_elim (λ q. q) (λ n. absurd (n (sym (by_grid p room n) ∙ e))) (same_or (first_no (grid_questions p.grid)) 0) in
    (accepted-with_room p room grid (sym (by_later p room grid) ∙ e)).0

module _ (p : Problem) (room : ℕ) (none : run_refusal p room ≡ 0) where
  D : Demand3 p
  D = demand3_holds (accepted-table (unrefused p room none))

  same : (budget : ℕ) (old : List ℕ) → length old ≡ room
      → (case_of (answer p budget) ≡ run_answer p room budget)
      × (front (numbers_of (answer p budget)) old ≡ run_buffer p budget old)
  same budget old e = subst
      (λ (n : ℕ). run_refusal p n ≡ 0
      → (case_of (answer p budget) ≡ run_answer p n budget)
      × (front (numbers_of (answer p budget)) old ≡ run_buffer p budget old))
      e (answered p budget old) none

  told : (budget : ℕ) → case_of (answer p budget) ≡ run_answer p room budget
  told budget = (same budget (replicate room 0) (length-replicate room 0)).0

  tells-spent : (budget : ℕ) → budget < path_length p → run_answer p room budget ≡ Spent budget
  tells-spent budget l = sym (told budget) ∙ rw ((D.spends budget).1 l)

  spent-only : (budget : ℕ) → run_answer p room budget ≡ Spent budget → budget < path_length p
  spent-only budget e = (D.spends budget).0 (case_spent (answer p budget) budget (told budget ∙ e))

  unspent : (budget : ℕ) → (run_answer p room budget ≡ Spent budget → ⊥) → answer p budget ≡ spent budget → ⊥
  unspent budget n q = n (sym (told budget) ∙ rw q)

  unwritten : (budget : ℕ) (old : List ℕ) → length old ≡ room → numbers_of (answer p budget) ≡ []
      → run_buffer p budget old ≡ old
  unwritten budget old e q = sym (same budget old e).1 ∙ rw q (front-none old)

  -- where no place has a gap
  module _ (E : Ended p) where
    tells-end : (budget : ℕ) → path_length p ≤ budget → run_answer p room budget ≡ announcement_of p E.end
    tells-end budget l = sym (told budget) ∙ rw (E.announces budget l)

    run-ended : RunEnded p room
    run-ended = record {
      path = E;
      announces = tells-end;
      written = λ budget old e l. sym (same budget old e).1 ∙ rw (E.announces budget l);
      reaches = tells-end (bound p.grid) D.bounded;
    }

-- demand 3 of every table that a run accepts
pub run-demand3 : Demand3InOnePiece
run-demand3 p room none =
    let d = D p room none in
    record {
      path = d;
      spends = λ budget. (spent-only p room none budget, tells-spent p room none budget);
      unwritten = λ budget old e l. unwritten p room none budget old e (rw ((d.spends budget).1 l));
      ended = λ known. run-ended p room none (d.ended known);
      asks = λ y g budget l. sym (told p room none budget) ∙ rw (d.asks y g budget l);
      unwritten_asking = λ budget n i old e q.
          unwritten p room none budget old e (rw (case_unknown (answer p budget) n i (told p room none budget ∙ q)));
      alike = λ b c old other e accepted x y.
          let q = d.alike b c (unspent p room none b x) (unspent p (length other) accepted c y) in (
            sym (told p room none b) ∙ ap case_of q ∙ told p (length other) accepted c,
            numbers_of (answer p b),
            sym (same p room none b old e).1,
            sym (same p (length other) accepted c other refl).1 ∙ rw q,
          );
    }

-- what filling gaps changes
pub run_filling : FillingInOnePiece
run_filling p labels room a b fills = record {
  same = sames;
  same_buffer = λ budget old e h.
      sym (same q room b budget old e).1 ∙ rw (filled.same budget (asked budget h)) (same p room a budget old e).1;
  stays = λ budget places read kind block vertices e. sames budget (λ n i f. absurd (never _ e f)) ∙ e;
}
  where
    q : Problem
    q = with_labels p labels

    filled : Filling p labels
    filled = filling_holds (accepted-table (unrefused p room a)) (accepted-table (unrefused q room b)) fills

    asked : (budget : ℕ) → ((n i : ℕ) → run_answer p room budget ≡ Unknown n i → get_or labels i 0 ≡ 0) → (n i : ℕ)
        → answer p budget ≡ unknown n i → get_or labels i 0 ≡ 0
    asked budget h n i e = h n i (sym (told p room a budget) ∙ rw e)

    sames : (budget : ℕ) → ((n i : ℕ) → run_answer p room budget ≡ Unknown n i → get_or labels i 0 ≡ 0)
        → run_answer q room budget ≡ run_answer p room budget
    sames budget h = sym (told q room b budget) ∙ rw (filled.same budget (asked budget h)) (told p room a budget)

    never : {places read block vertices n i : ℕ} {kind : Kind} (r : RunAnswer) → r ≡ End places read kind block vertices
        → r ≡ Unknown n i → ⊥
    never r e f = let z : ◌≡◌ {A = ℕ} 0 1 = cc in omega arith
