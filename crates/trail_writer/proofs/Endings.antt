-- From where a pass finished to the answer of a run that writes a trail. In order: the second pass ends as the first;
-- question 17; the refusals. Assumes nothing.
use mathlib.Core.Bool.{true, false, cond}
use mathlib.Core.List.{List, []}
use mathlib.Core.Path.{◌≡◌, sym, ◌∙◌, subst}
use Prim.Native.Nat.{ℕ, ◌≤◌, ◌<◌}
use borrow.Author.Tests.{le-leb, lt-leb, ne_eqb}
use lib.Dec.{eqb}
use lib.ListN.{length}
use native.Mathlib.Omega.{arith}
use Rattle.combinatorics.proofs.Basics.{absurd_bool}
use Rattle.combinatorics.proofs.Fronts.{front-none}
use Rattle.combinatorics.specs.Front.{front}
use Rattle.end_kinds.specs.declared.Kind.{Kind}
use Rattle.arrays.specs.declared.holding.Held.{Held}
use Rattle.moves.specs.declared.Status.{Status}
use Rattle.path_pass.specs.Finish.{Finished}
use Rattle.finder.specs.Run.{case_of, numbers_of, run_refusal}
use Rattle.finder.specs.declared.answers.RunAnswer.{RunAnswer}
use Rattle.finder.specs.declared.answers.RunAnswer.TheVariants.{End, Refused}
use Rattle.path_pass.specs.declared.Finish.{Finish}
use Rattle.path_pass.specs.declared.Finish.TheVariants.{Ended, Spent as FinishSpent, Unknown as FinishUnknown}
use Rattle.place.specs.Path.{PathAnswer, answer, ended}
use Rattle.place.specs.Places.{Simplex}
use Rattle.place.specs.Problem.{Problem}
use Rattle.questions.specs.Questions.{first_no}
use Rattle.rules.specs.declared.Round.{Round}
use Rattle.trail_pass.specs.Recording.{Recorded}
use Rattle.trail_writer.specs.Again.{HasEnd, has_room, stored_at}
use Rattle.trail_writer.specs.Writing.{announces, trail_answer_buffer, trail_answer, trail_buffer, trail_case}
use Rattle.trail_writer.specs.Writing.{unwritten, whole_trail}
use Rattle.trail_writer.specs.declared.answers.TrailAnswer.{TrailAnswer}

-- a pass whose path has an end has it too
pub ends-again : (p : Problem) (budget : ℕ) (round : Round) (last : Held) (old new : List ℕ) (bytes : ℕ) (f : Finish)
    {n read : ℕ} {kind : Kind} {block vertices : ℕ} {simplex : Simplex}
    → answer p budget ≡ ended n read kind block vertices simplex → Finished p budget round last f
    → Recorded p true budget old new bytes f
    → new ≡ front (whole_trail p) old
ends-again p budget round last old new bytes (Ended kind places h s labels) e F R = R.1
ends-again p budget round last old new bytes (FinishUnknown places place) e F R =
    absurd (let z : ◌≡◌ {A = ℕ} 0 1 = cc in omega arith)
ends-again p budget round last old new bytes FinishSpent e F R =
    absurd (let z : ◌≡◌ {A = ℕ} 0 1 = cc in omega arith)

module _ (p : Problem) (room : ℕ) where
  pub too_short : room < length (whole_trail p)
      → (a : PathAnswer) {n read : ℕ} {kind : Kind} {block vertices : ℕ} {simplex : Simplex}
      → a ≡ ended n read kind block vertices simplex
      → unwritten (Refused 17) ≡ trail_case p room a
  unfolding first_no
  too_short l a e = rw (e, lt-leb (length (whole_trail p)) room l)

  pub has_room_lem : length (whole_trail p) ≤ room → (n read : ℕ) (kind : Kind) (block vertices : ℕ) (simplex : Simplex)
      → ◌≡◌ {A = TrailAnswer}
      (record { run = End n read kind block vertices; bytes = length (whole_trail p) })
      (trail_case p room (ended n read kind block vertices simplex))
  unfolding first_no
  has_room_lem l n read kind block vertices simplex = rw (le-leb (length (whole_trail p)) room l)

-- where the first pass finished, in a trail buffer of `room` bytes
module _ (p : Problem) (budget : ℕ) (round : Round) (last : Held) (room : ℕ) where
  pub refused_17 : (f : Finish) → Finished p budget round last f → has_room p room f ≡ false
      → (unwritten (Refused 17) ≡ trail_case p room (answer p budget)) × (stored_at p room f ≡ [])
  unfolding first_no
  refused_17 (Ended kind places h s read) A short = (rw (A.is, short), rw short)
  refused_17 (FinishUnknown places position) is short = absurd_bool short
  refused_17 FinishSpent is short = absurd_bool short

  pub announced-end : (old new : List ℕ) (bytes : ℕ) (f : Finish) → Finished p budget round last f
      → Recorded p false budget old new bytes f → has_room p room f ≡ true
      → (run : RunAnswer) → run ≡ case_of (answer p budget)
      → (◌≡◌ {A = TrailAnswer} (record { run = run; bytes = bytes }) (trail_case p room (answer p budget)))
      × (numbers_of (answer p budget) ≡ cond (announces run) (numbers_of (answer p budget)) [])
      × (stored_at p room f ≡ cond (announces run) (whole_trail p) [])
  unfolding first_no
  announced-end old new bytes (Ended kind places h s read) A R fits run e =
      (rw (e, A.is, R.0, fits), rw (e, A.is), rw (e, A.is, fits))
  announced-end old new bytes (FinishUnknown places position) is R fits run e =
      (rw (e, is, R.0), rw (e, is), rw (e, is))
  announced-end old new bytes FinishSpent is R fits run e = (rw (e, is, R.0), rw (e, is), rw (e, is))

  -- it has counted, and stored nothing
  pub counts : (old new : List ℕ) (bytes : ℕ) (f : Finish) → Finished p budget round last f
      → Recorded p false budget old new bytes f → (kind : Kind) (places h : ℕ) (s : Status) (read : ℕ)
      → f ≡ Ended kind places h s read → HasEnd p budget × (bytes ≡ length (whole_trail p))
  counts old new bytes f F R kind places h s read is =
      let A = subst (Finished p budget round last) is F in
      let B = subst (Recorded p false budget old new bytes) is R in ((_, _, _, _, _, _, A.is), B.0)

pub stores_nothing : (p : Problem) (budget : ℕ) (old new : List ℕ) (bytes : ℕ) (f : Finish)
    → Recorded p false budget old new bytes f → new ≡ old
stores_nothing p budget old new bytes (Ended kind places h s read) R = R.1
stores_nothing p budget old new bytes (FinishUnknown places position) R = R.1
stores_nothing p budget old new bytes FinishSpent R = R.1

-- what a run that writes a trail then answers, and what it leaves in its buffers
module _ (p : Problem) (budget : ℕ) (old old_trail : List ℕ) where
  pub refused : (n : ℕ) → (n ≡ 0 → ⊥) → run_refusal p (length old) ≡ n
      → (unwritten (Refused n) ≡ trail_answer p (length old) (length old_trail) budget)
      × (old ≡ trail_answer_buffer p (length old_trail) budget old)
      × (old_trail ≡ trail_buffer p (length old) budget old_trail)
  unfolding trail_answer trail_answer_buffer trail_buffer
  refused n z e =
      let q : eqb (run_refusal p (length old)) 0 ≡ false = ne_eqb (run_refusal p (length old)) 0 (λ f. z (sym e ∙ f)) in
      (rw (q, e), rw (q, front-none old), rw (q, front-none old_trail))

  pub answered : run_refusal p (length old) ≡ 0
      → (trail_case p (length old_trail) (answer p budget) ≡ trail_answer p (length old) (length old_trail) budget)
      × (front
      (cond (announces (trail_case p (length old_trail) (answer p budget)).run) (numbers_of (answer p budget)) []) old
      ≡ trail_answer_buffer p (length old_trail) budget old)
      × (front (cond (announces (trail_case p (length old_trail) (answer p budget)).run) (whole_trail p) []) old_trail
      ≡ trail_buffer p (length old) budget old_trail)
  unfolding trail_answer trail_answer_buffer trail_buffer
  answered e = (rw e, rw e, rw e)
