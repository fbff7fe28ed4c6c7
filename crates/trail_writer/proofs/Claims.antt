-- Request 03's claims about runs that write a trail. In order: where there is room; where there is none; what a run has
-- written reads back. Assumes nothing.
use mathlib.Core.Bool.{true, cond}
use mathlib.Core.List.{List, [], ◌∷◌, ◌++◌}
use mathlib.Core.Logic.{⊎_elim}
use mathlib.Core.Path.{◌≡◌, refl, sym, ap, ◌∙◌}
use Prim.Native.Nat.{ℕ, suc, pred, ◌+◌, ◌*◌, ◌≤◌, ◌<◌}
use borrow.Author.Tests.{eq-eqb, leb-true, ne_eqb}
use lib.Dec.{leb}
use lib.ListN.{drop, length, take}
use native.Mathlib.Omega.{arith}
use Rattle.combinatorics.proofs.Basics.{and_left, and_right, before_or_not, same_or, true_or_false}
use Rattle.combinatorics.proofs.Fronts.{front-none, front_taken}
use Rattle.combinatorics.specs.Front.{front}
use Rattle.combinatorics.specs.Lists.{all, concat_map}
use Rattle.end_kinds.specs.declared.Kind.{Kind}
use Rattle.finder.proofs.Demand.{unrefused}
use Rattle.finder.proofs.Refusals.{by_grid}
use Rattle.finder.specs.Demand.{AcceptedWith}
use Rattle.finder.specs.Run.{case_of, numbers_of, run_refusal, run_answer, run_buffer}
use Rattle.finder.specs.declared.answers.RunAnswer.TheVariants.{Refused, End}
use Rattle.path_laws.proofs.Accepted.{accepted-table}
use Rattle.path_laws.specs.Demand.{Accepted, place_at}
use Rattle.grid_points.specs.Questions.{grid_questions}
use Rattle.place.specs.LabelsRead.{came_in}
use Rattle.place.specs.Path.{PathAnswer, answer, ended, path, path_length, spent, unknown}
use Rattle.place.specs.Places.{set_t, set_u}
use Rattle.place.specs.Problem.{Problem, with_labels}
use Rattle.place.specs.Questions.{run_questions}
use Rattle.questions.specs.Questions.{Question, first_no}
use Rattle.trail.proofs.Reading.{T-alike}
use Rattle.trail.proofs.RunTrail.{path_trail}
use Rattle.trail_reader.proofs.Rebuilt.{answers-none, answers-place}
use Rattle.trail_reader.specs.Reading.{mask_of, read_answer, read_points}
use Rattle.trail_reader.specs.declared.answers.ReadAnswer.TheVariants.{Place, Refused as ReadRefused}
use Rattle.trail_writer.specs.Claims.{ReadsBack, TrailsOfRuns, Writes}
use Rattle.trail_writer.specs.Writing.{announces, trail_answer_buffer, trail_answer, trail_buffer, trail_case}
use Rattle.trail_writer.specs.Writing.{unwritten, whole_trail}
use Rattle.trail_writer.specs.declared.answers.TrailAnswer.{TrailAnswer}
use Rattle.trail_writer.proofs.Endings.{has_room_lem, too_short}
use Rattle.trail_pass.proofs.OnTrail.{ended-whole}

-- the answers of questions 1 to 8 are no more than 8
first-low : (qs : List Question) → all (λ q. leb q.number 8) qs ≡ true → first_no qs ≤ 8
unfolding first_no
first-low [] e = omega arith
first-low (q ∷ qs) e = ⊎_elim
    (λ t. rw t (first-low qs (and_right (leb q.number 8) _ e)))
    (λ f. rw f (leb-true q.number 8 (and_left (leb q.number 8) _ e)))
    (true_or_false q.answered_yes)

refusal-low : (p : Problem) (room : ℕ) → run_refusal p room ≤ 8
refusal-low p room = first-low (run_questions p room) refl

module _ (p : Problem) (trail_room : ℕ) where
  bytes_off : length (whole_trail p) ≤ trail_room → (a : PathAnswer) → (trail_case p trail_room a).run ≡ case_of a
  bytes_off l (spent n) = refl
  bytes_off l (unknown n position) = refl
  bytes_off l (ended n read kind block vertices simplex) =
      rw (← (has_room_lem p trail_room l n read kind block vertices simplex))

  numbers-alike : length (whole_trail p) ≤ trail_room → (a : PathAnswer)
      → cond (announces (trail_case p trail_room a).run) (numbers_of a) [] ≡ numbers_of a
  numbers-alike l (spent n) = refl
  numbers-alike l (unknown n position) = refl
  numbers-alike l (ended n read kind block vertices simplex) =
      rw (← (has_room_lem p trail_room l n read kind block vertices simplex))

  is_17 : trail_room < length (whole_trail p) → (a : PathAnswer) {n read : ℕ} {kind : Kind} {block vertices : ℕ}
      → case_of a ≡ End n read kind block vertices
      → trail_case p trail_room a ≡ unwritten (Refused 17)
  is_17 l (spent m) e = absurd (let z : ◌≡◌ {A = ℕ} 0 1 = cc in omega arith)
  is_17 l (unknown m position) e = absurd (let z : ◌≡◌ {A = ℕ} 0 1 = cc in omega arith)
  is_17 l (ended m r k b v s) e = sym (too_short p trail_room l (ended m r k b v s) refl)

  of_17 : (a : PathAnswer) → (trail_case p trail_room a).run ≡ Refused 17
      → (n : ℕ) × (read : ℕ) × (kind : Kind) × (block : ℕ) × (vertices : ℕ)
      × (case_of a ≡ End n read kind block vertices)
  of_17 (spent m) e = absurd (let z : ◌≡◌ {A = ℕ} 0 1 = cc in omega arith)
  of_17 (unknown m position) e = absurd (let z : ◌≡◌ {A = ℕ} 0 1 = cc in omega arith)
  of_17 (ended m r k b v s) e = (m, r, k, b, v, refl)

  -- a refusal has no bytes
  refused_none : (a : PathAnswer) {n : ℕ} → (trail_case p trail_room a).run ≡ Refused n
      → (trail_case p trail_room a).bytes ≡ 0
  refused_none (spent m) e = refl
  refused_none (unknown m position) e = refl
  refused_none (ended m r k b v s) {n} e = ⊎_elim
      (λ (l : trail_room < length (whole_trail p)).
      ap (λ (x : TrailAnswer). x.bytes) (sym (too_short p trail_room l (ended m r k b v s) refl)))
      (λ (l : length (whole_trail p) ≤ trail_room).
      let f : End m r k b v ≡ Refused n =
      ap (λ (x : TrailAnswer). x.run) (has_room_lem p trail_room l m r k b v s) ∙ e in
      absurd (let z : ◌≡◌ {A = ℕ} 0 1 = cc in omega arith))
      (before_or_not trail_room (length (whole_trail p)))

module _ (p : Problem) (room trail_room budget : ℕ) where
  -- by whether questions 1 to 8 are answered yes
  with_room_lem : length (whole_trail p) ≤ trail_room
      → (trail_answer p room trail_room budget).run ≡ run_answer p room budget
  unfolding trail_answer run_answer
  with_room_lem l = ⊎_elim
      (λ e. rw (eq-eqb (run_refusal p room) 0 e) (bytes_off p trail_room l (answer p budget)))
      (λ n. rw (ne_eqb (run_refusal p room) 0 n))
      (same_or (run_refusal p room) 0)

  same-buffer : length (whole_trail p) ≤ trail_room → (old : List ℕ) → length old ≡ room
      → trail_answer_buffer p trail_room budget old ≡ run_buffer p budget old
  unfolding trail_answer_buffer run_buffer trail_answer
  same-buffer l old q =
      ⊎_elim (λ e. rw (eq-eqb (run_refusal p (length old)) 0 e, numbers-alike p trail_room l (answer p budget)))
      (λ n. rw (ne_eqb (run_refusal p (length old)) 0 n)) (same_or (run_refusal p (length old)) 0)

  no_room_lem : trail_room < length (whole_trail p) → (n read : ℕ) (kind : Kind) (block vertices : ℕ)
      → run_answer p room budget ≡ End n read kind block vertices
      → (trail_answer p room trail_room budget).run ≡ Refused 17
  unfolding trail_answer run_answer
  no_room_lem l n read kind block vertices e = ⊎_elim
      (λ z.
      rw (eq-eqb (run_refusal p room) 0 z)
      (ap (λ (x : TrailAnswer). x.run)
      (is_17 p trail_room l (answer p budget) (rw (eq-eqb (run_refusal p room) 0 z) at e))))
      (λ z.
      let f : Refused (run_refusal p room) ≡ End n read kind block vertices =
      rw (ne_eqb (run_refusal p room) 0 z) at e in
      absurd (let w : ◌≡◌ {A = ℕ} 0 1 = cc in omega arith))
      (same_or (run_refusal p room) 0)

  only-ends : (trail_answer p room trail_room budget).run ≡ Refused 17
      → (n : ℕ) × (read : ℕ) × (kind : Kind) × (block : ℕ) × (vertices : ℕ)
      × (run_answer p room budget ≡ End n read kind block vertices)
  unfolding trail_answer run_answer
  only-ends e = ⊎_elim
      (λ z.
      rw (eq-eqb (run_refusal p room) 0 z)
      (of_17 p trail_room (answer p budget) (rw (eq-eqb (run_refusal p room) 0 z) at e)))
      (λ z.
      let f : Refused (run_refusal p room) ≡ Refused 17 = rw (ne_eqb (run_refusal p room) 0 z) at e in
      let w : run_refusal p room ≡ 17 = cc in
      absurd (omega (arith, refusal-low p room)))
      (same_or (run_refusal p room) 0)

  no_bytes : (n : ℕ) → (trail_answer p room trail_room budget).run ≡ Refused n
      → (trail_answer p room trail_room budget).bytes ≡ 0
  unfolding trail_answer
  no_bytes n e = ⊎_elim
      (λ z.
      rw (eq-eqb (run_refusal p room) 0 z)
      (refused_none p trail_room (answer p budget) (rw (eq-eqb (run_refusal p room) 0 z) at e)))
      (λ z. rw (ne_eqb (run_refusal p room) 0 z))
      (same_or (run_refusal p room) 0)

  un_written : (n : ℕ) → (trail_answer p room trail_room budget).run ≡ Refused n
      → ((trail_answer p room trail_room budget).bytes ≡ 0)
      × ((old : List ℕ) → length old ≡ room → trail_answer_buffer p trail_room budget old ≡ old)
      × ((old : List ℕ) → length old ≡ trail_room → trail_buffer p room budget old ≡ old)
  unfolding trail_answer_buffer trail_buffer
  un_written n e = (no_bytes n e, (λ old q. rw (q, e, front-none old)), (λ old q. rw (q, e, front-none old)))

  writes : Writes p room trail_room budget
  writes = record {
    with_room = with_room_lem;
    same_buffer = same-buffer;
    no_room = no_room_lem;
    otherwise = only-ends;
    unwritten = un_written;
  }

-- a run that announces an end has written the whole trail
module _ (p : Problem) (room budget : ℕ) (ok : AcceptedWith p room) (old : List ℕ) where
  accepted : Accepted p
  accepted = unrefused p room ok

  -- questions 1 to 4 are answered yes
  grid-yes : first_no (grid_questions p.grid) ≡ 0
  grid-yes = ⊎_elim (λ z. z) (λ n. absurd (n (sym (by_grid p room n) ∙ ok)))
      (same_or (first_no (grid_questions p.grid)) 0)

  case_end : (a : PathAnswer) {n read : ℕ} {kind : Kind} {block vertices : ℕ}
      → (trail_case p (length old) a).run ≡ End n read kind block vertices → (answer p budget ≡ a)
      → (n ≡ path_length p) × ((trail_case p (length old) a).bytes ≡ length (whole_trail p))
  case_end (spent m) e q = absurd (let z : ◌≡◌ {A = ℕ} 0 1 = cc in omega arith)
  case_end (unknown m position) e q = absurd (let z : ◌≡◌ {A = ℕ} 0 1 = cc in omega arith)
  case_end (ended m r k b v s) {n} {read} {kind} {block} {vertices} e q = ⊎_elim
      (λ (l : length old < length (whole_trail p)).
      let f : Refused 17 ≡ End n read kind block vertices =
      ap (λ (x : TrailAnswer). x.run) (too_short p (length old) l (ended m r k b v s) refl) ∙ e in
      absurd (let z : ◌≡◌ {A = ℕ} 0 1 = cc in omega arith))
      (λ (l : length (whole_trail p) ≤ length old).
      let h = has_room_lem p (length old) l m r k b v s in
      let f : End m r k b v ≡ End n read kind block vertices = ap (λ (x : TrailAnswer). x.run) h ∙ e in
      let c : m ≡ n = cc in
      (sym c ∙ ended-whole p budget q, ap (λ (x : TrailAnswer). x.bytes) (sym h)))
      (before_or_not (length old) (length (whole_trail p)))

  abbrev bytes : ℕ
  bytes = (trail_answer p room (length old) budget).bytes

  module _ {n read : ℕ} {kind : Kind} {block vertices : ℕ}
      (e : (trail_answer p room (length old) budget).run ≡ End n read kind block vertices) where
    ended_so : (n ≡ path_length p) × (bytes ≡ length (whole_trail p))
    unfolding trail_answer
    ended_so = ⊎_elim
        (λ z.
        let q : trail_answer p room (length old) budget ≡ trail_case p (length old) (answer p budget) =
        rw (eq-eqb (run_refusal p room) 0 z) in
        let w = case_end (answer p budget) (ap (λ (x : TrailAnswer). x.run) (sym q) ∙ e) refl in
        (w.0, ap (λ (x : TrailAnswer). x.bytes) q ∙ w.1))
        (λ z.
        let f : Refused (run_refusal p room) ≡ End n read kind block vertices =
        rw (ne_eqb (run_refusal p room) 0 z) at e in
        absurd (let w : ◌≡◌ {A = ℕ} 0 1 = cc in omega arith))
        (same_or (run_refusal p room) 0)

    buffer-is : trail_buffer p room budget old ≡ whole_trail p ++ drop (length (whole_trail p)) old
    unfolding trail_buffer front
    buffer-is = rw e

    taken_is : take bytes (trail_buffer p room budget old) ≡ whole_trail p
    unfolding trail_buffer
    taken_is = rw (e, ended_so.1) (front_taken (whole_trail p) old)

    long-enough : (n ≡ path_length p) × (3 ≤ bytes) × (bytes ≤ 3 + 7 * pred n)
        × (take bytes (trail_buffer p room budget old) ≡ whole_trail p)
    long-enough =
        let T = path_trail (accepted-table accepted) in
        (ended_so.0, omega (arith, ended_so.1, T.long), rw (ended_so.0, ended_so.1) T.short, taken_is)

    reads-back : (labels : List ℕ) (i : ℕ) → i < n
        → let given = with_labels p labels in
        let trail = trail_buffer p room budget old in
        let place = place_at (path p).visited i in
        let read = suc (came_in (path p).visited i) in
        (read_answer given trail (suc i)
        ≡ Place (length place) (mask_of (set_t p place)) (mask_of (set_u p.grid place)) read)
        × ((lent : List ℕ) → read_points given trail (suc i) lent ≡ front (concat_map (λ y. y) place) lent)
    reads-back labels i l =
        let T = path_trail (accepted-table accepted) in
        let behind = drop (length (whole_trail p)) old in
        let low : i < path_length p = omega (arith, ended_so.0) in
        let R = answers-place (with_labels p labels) (whole_trail p ++ behind) (suc i) grid-yes
        accepted.has_start.start (T.reads labels behind i low) in
        rw buffer-is
        (R.0 ∙ (rw (T-alike p labels (place_at (path p).visited i), T.labels_so_far labels behind i low)), R.1)

    no_more_lem : (labels : List ℕ) (i : ℕ) → n < i
        → read_answer (with_labels p labels) (take bytes (trail_buffer p room budget old)) i ≡ ReadRefused 17
    no_more_lem labels i l = rw taken_is
        (answers-none (with_labels p labels) (whole_trail p) i grid-yes accepted.has_start.start
        ((path_trail (accepted-table accepted)).no_more labels i (omega (arith, ended_so.0))))

  reads : ReadsBack p room budget old
  reads = record {
    long = λ n read kind block vertices e. long-enough e;
    reads = λ n read kind block vertices e. reads-back e;
    no_more = λ n read kind block vertices e. no_more_lem e;
  }

pub trails_of_runs : TrailsOfRuns
trails_of_runs p room budget = (
  λ trail_room. writes p room trail_room budget,
  λ ok old. reads p room budget ok old,
)
