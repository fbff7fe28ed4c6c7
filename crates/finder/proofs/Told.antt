-- What an answer of a run that is no refusal tells: the questions are answered yes, and the answer is the path's. At an
-- end its vertices stand in the buffer. Assumes nothing.
use mathlib.Core.Bool.{Bool, true, false, cond}
use mathlib.Core.List.{List, [], ◌∷◌}
use mathlib.Core.Path.{◌≡◌, refl, sym, ap, ◌∙◌}
use Prim.Native.Nat.{ℕ}
use borrow.Author.Tests.{eqb-true}
use lib.Dec.{eqb}
use lib.ListN.{length}
use Rattle.combinatorics.proofs.Basics.{absurd_bool}
use Rattle.combinatorics.specs.Front.{front}
use Rattle.combinatorics.specs.Lists.{concat_map}
use Rattle.end_kinds.specs.declared.Kind.{Kind}
use Rattle.place.specs.Path.{PathAnswer, answer, ended, spent, unknown}
use Rattle.place.specs.Places.{Simplex}
use Rattle.place.specs.Problem.{Problem}
use Rattle.place.specs.Questions.{question8, table_questions}
use Rattle.questions.proofs.Answers.{both_yes}
use Rattle.questions.specs.Questions.{first_no}
use Rattle.finder.proofs.Refusals.{answered}
use Rattle.finder.specs.Run.{case_of, numbers_of, run_answer, run_buffer, run_refusal}
use Rattle.finder.specs.declared.answers.RunAnswer.{RunAnswer}
use Rattle.finder.specs.declared.answers.RunAnswer.TheVariants.{End, Refused, Unknown}

module _ (p : Problem) (room budget : ℕ) where
  pub not_refused : (a : RunAnswer) → ((n : ℕ) → Refused n ≡ a → ⊥) → run_answer p room budget ≡ a
      → (run_refusal p room ≡ 0) × (case_of (answer p budget) ≡ a)
  unfolding run_answer
  not_refused a never e = go (eqb (run_refusal p room) 0) refl e
    where
      go : (b : Bool) → eqb (run_refusal p room) 0 ≡ b
          → cond b (case_of (answer p budget)) (Refused (run_refusal p room)) ≡ a
          → (run_refusal p room ≡ 0) × (case_of (answer p budget) ≡ a)
      go true q e = (eqb-true _ _ q, e)
      go false q e = absurd (never (run_refusal p room) e)

-- questions 1 to 7 are among those of a run
pub table-asked : (p : Problem) (room : ℕ) → run_refusal p room ≡ 0 → first_no (table_questions p) ≡ 0
table-asked p room q = (both_yes (table_questions p) (question8 p.grid room ∷ []) refl q).0

-- the path's answer, by the run's
ended_case : (places read : ℕ) (kind : Kind) (block vertices : ℕ) (o : PathAnswer)
    → case_of o ≡ End places read kind block vertices
    → (s : Simplex) × (o ≡ ended places read kind block vertices s)
ended_case places read kind block vertices (spent n) e = absurd_bool (cc)
ended_case places read kind block vertices (unknown n i) e = absurd_bool (cc)
ended_case places read kind block vertices (ended n l k b v s) e = (s, cc)

unknown_case : (places position : ℕ) (o : PathAnswer) → case_of o ≡ Unknown places position → o ≡ unknown places position
unknown_case places position (spent n) e = absurd_bool (cc)
unknown_case places position (unknown n i) e = cc
unknown_case places position (ended n l k b v s) e = absurd_bool (cc)

pub record EndTold (p : Problem) (budget places read : ℕ) (kind : Kind) (block vertices : ℕ) : Type 0 where
  pub asked : first_no (table_questions p) ≡ 0
  pub simplex : Simplex
  pub answered : answer p budget ≡ ended places read kind block vertices simplex

pub end_told : (p : Problem) (room budget places read : ℕ) (kind : Kind) (block vertices : ℕ)
    → run_answer p room budget ≡ End places read kind block vertices
    → EndTold p budget places read kind block vertices
end_told p room budget places read kind block vertices e =
    let u = not_refused p room budget (End places read kind block vertices) (λ n q. absurd_bool (cc)) e in
    let c = ended_case places read kind block vertices (answer p budget) u.1 in
    record { asked = table-asked p room u.0; simplex = c.0; answered = c.1 }

-- and the vertices stand at the front of the buffer
pub end-written : (p : Problem) (budget : ℕ) (old : List ℕ) (places read : ℕ) (kind : Kind) (block vertices : ℕ)
    → run_answer p (length old) budget ≡ End places read kind block vertices → (simplex : Simplex)
    → answer p budget ≡ ended places read kind block vertices simplex
    → run_buffer p budget old ≡ front (concat_map (λ y. y) simplex) old
end-written p budget old places read kind block vertices e simplex a =
    let u = not_refused p (length old) budget (End places read kind block vertices) (λ n q. absurd_bool (cc)) e in
    sym (answered p budget old u.0).1 ∙ ap (λ (o : PathAnswer). front (numbers_of o) old) a

pub unknown_told : (p : Problem) (room budget places position : ℕ)
    → run_answer p room budget ≡ Unknown places position
    → (first_no (table_questions p) ≡ 0) × (answer p budget ≡ unknown places position)
unknown_told p room budget places position e =
    let u = not_refused p room budget (Unknown places position) (λ n q. absurd_bool (cc)) e in
    (table-asked p room u.0, unknown_case places position (answer p budget) u.1)
