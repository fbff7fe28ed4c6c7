-- From where the records lead to the reader's answer. In order: what is rebuilt behind v's record; the place that a
-- state holds; the refusals. Assumes nothing.
use mathlib.Core.Bool.{true, false}
use mathlib.Core.List.{List, [], ◌∷◌}
use mathlib.Core.Option.{none, some}
use mathlib.Core.Path.{◌≡◌, refl, sym, ap, ◌∙◌}
use Prim.Native.Nat.{ℕ, suc, ◌+◌, ◌-◌, ◌*◌, ◌≤◌, ◌<◌}
use borrow.Author.Tests.{eq-eqb, ne_eqb}
use lib.Dec.{eqb}
use lib.ListN.{drop, length, length-append, replicate, take}
use lib.Seq.{take-length}
use native.Mathlib.Nat.{mul-le-mul}
use native.Mathlib.Omega.{arith}
use Rattle.combinatorics.proofs.Fronts.{front-none, front_taken}
use Rattle.combinatorics.specs.Front.{front}
use Rattle.combinatorics.specs.Lists.{concat_map}
use Rattle.grid.proofs.Fields.{made-accepted, made-indices}
use Rattle.grid_points.specs.Grid.{is_grid_point, num_indices, position}
use Rattle.grid.specs.Made.{IsMade, shape}
use Rattle.grid_points.specs.Questions.{grid_questions, question5}
use Rattle.grid_points.proofs.CoordinatesBelow.{low-divisions}
use Rattle.grid_points.proofs.Points.{point-long}
use Rattle.grid.specs.declared.Grid.{Grid as GridStruct}
use Rattle.moves.specs.Held.{state_of}
use Rattle.arrays.specs.declared.holding.Held.{Held}
use Rattle.moves.specs.declared.Status.{Status}
use Rattle.place.specs.LabelsRead.{came_in, labels_read}
use Rattle.place.specs.Places.{Simplex, set_t, set_u}
use Rattle.place.specs.Problem.{Problem}
use Rattle.path_laws.specs.Demand.{HasStart}
use Rattle.questions.proofs.Answers.{asked-next, asked-no}
use Rattle.questions.specs.Questions.{first_no}
use Rattle.trail_records.specs.Records.{first_record}
use Rattle.rules.proofs.StatePoints.{all-points, ready-point}
use Rattle.rules.specs.Read.{CanCompute, numbers_from, points_from}
use Rattle.rules.specs.Moves.{State}
use Rattle.rules.specs.declared.Round.{Round}
use Rattle.trail.proofs.Tables.{some-index, some-table}
use Rattle.trail.proofs.Tells.{begins_with}
use Rattle.trail.specs.Record.{start_record}
use Rattle.trail.proofs.LabelsRead.{read-from}
use Rattle.trail.specs.Trail.{Reading as TrailReading, begins, no_record, placed, places_from, reading, rebuilt}
use Rattle.trail.specs.Trail.{rebuilt_from, rebuilt_places}
use Rattle.trail_steps.proofs.Shows.{describes, shows-long}
use Rattle.trail_steps.specs.Shows.{Shows}
use Rattle.trail_steps.proofs.Arrived.{mask_T, mask_U}
use Rattle.trail_steps.proofs.Named.{shows-few}
use Rattle.trail_steps.specs.Reading.{problem_by}
use Rattle.trail_reader.proofs.Masks.{mask_is}
use Rattle.trail_reader.specs.Reading.{read_case, is_placed, read_numbers, read_question17, read_answer, read_points}
use Rattle.trail_reader.specs.Reading.{mask_of, trail_read_questions}
use Rattle.trail_reader.specs.Begun.{IsPlace, Reads}
use Rattle.trail_reader.specs.declared.answers.ReadAnswer.TheVariants.{Place, Refused}
use Rattle.trail_reader.specs.declared.answers.Reading.{Reading}

module _ (p : Problem) (bytes : List ℕ) where
  pub no_zero : (n : ℕ) → n ≡ 0 → reading p bytes n ≡ no_record
  unfolding reading rebuilt
  no_zero n e = rw e

  -- v's record
  pub first-is : (c : ℕ) → c ≡ position p.grid p.start → first_record c ≡ start_record p
  unfolding start_record
  first-is c e = rw e

  module _ (number : ℕ) (Some-number : 0 < number) where
    abbrev before : ℕ
    before = number - 1

    one_more : number ≡ suc before
    one_more = omega arith

    pub not_first : begins (start_record p) bytes ≡ false → reading p bytes number ≡ no_record
    unfolding reading rebuilt
    not_first e = ap (reading p bytes) one_more ∙ (rw e)

    module _ (starts : begins (start_record p) bytes ≡ true) where
      behind : rebuilt p bytes number ≡ rebuilt_from p before (p.start ∷ []) (drop 3 bytes)
      unfolding rebuilt start_record
      behind = ap (rebuilt p bytes) one_more ∙ (rw starts)

      pub reads_none : rebuilt_from p before (p.start ∷ []) (drop 3 bytes) ≡ none → reading p bytes number ≡ no_record
      unfolding reading
      reads_none e = rw (behind ∙ e)

      pub reads-place : (b : Simplex) → rebuilt_from p before (p.start ∷ []) (drop 3 bytes) ≡ some b → (came : ℕ)
          → came ≡ came_in (places_from p before (p.start ∷ []) (drop 3 bytes)) before
          → reading p bytes number ≡ placed (came + 1) b (set_t p b) (set_u p.grid b)
      unfolding reading start_record
      reads-place b e came f =
          let read = ap (λ (n : ℕ). labels_read (rebuilt_places p bytes n)) one_more
          ∙ read-from p bytes before starts in
          let z : came + 1 ≡ suc came = omega arith in
          rw (behind ∙ e, read, z, f) refl

-- the place that a state holds
module _ {p : Problem} (ok : HasStart p) {b : Simplex} {s : State} (S : Shows p b s) where
  pub computes : CanCompute s (length s.order)
  computes =
      let t = some-table ok b S.place 0 0 (omega (arith, shows-long S)) (some-index ok) in
      let R = ready-point t.1.full (describes S t.1) (length s.order) (omega (arith, S.order_length)) in
      record { low = R.low; few = R.few; indices = R.indices; positive = R.positive; fits = R.fits }

  points-are : points_from p s 0 ≡ b
  points-are =
      let t = some-table ok b S.place 0 0 (omega (arith, shows-long S)) (some-index ok) in
      all-points t.1.full (describes S t.1) ∙ S.here

  pub few-numbers : (m : ℕ) → m ≤ 16 → suc (length s.order) * m ≤ 256
  few-numbers m l =
      let few : suc (length s.order) ≤ 16 = omega (arith, S.order_length, shows-few ok S) in
      mul-le-mul few l

  pub case_is : (read : ℕ) → s.T < 65536 → s.U < 65536
      → Place (suc (length s.order)) s.T s.U read ≡ read_case (placed read b (set_t p b) (set_u p.grid b))
  case_is read t u =
      let n : suc (length s.order) ≡ length b = omega (arith, S.order_length, shows-long S) in
      rw (n, ← mask_is (mask_T ok S) t, ← mask_is (mask_U ok S) u)

  pub numbers-are : (read m : ℕ) → m ≡ num_indices p.grid
      → numbers_from m s 0 ≡ read_numbers (placed read b (set_t p b) (set_u p.grid b))
  numbers-are read m e = rw e (ap (concat_map (λ y. y)) points-are)

pub minus_none : (n : ℕ) → n - 0 ≡ n
minus_none n = omega arith

-- so the reader's answer is that of the place
pub reads_by : (g : GridStruct) → IsMade g → (start trail : List ℕ) (number : ℕ) → HasStart (problem_by g start)
    → (b : Simplex) (round : Round) (held : Held) (status : Status) (labels : ℕ)
    → Shows (problem_by g start) b (state_of round held status) → (old : List ℕ) (r : Reading)
    → IsPlace (state_of round held status) g.indices status labels old r
    → reading (problem_by g start) trail number ≡ placed labels b (set_t (problem_by g start) b) (set_u (shape g) b)
    → Reads g start trail number old r
reads_by g made start trail number ok b round held status labels S old r I e =
    record {
      answer = I.answer ∙ case_is ok S labels I.low_t I.low_u ∙ ap read_case (sym e);
      points = I.points
          ∙ ap (λ (l : List ℕ). front l old) (numbers-are ok S labels g.indices (made-indices g made))
          ∙ ap (λ (x : TrailReading). front (read_numbers x) old) (sym e);
    }

-- and of no record, where there is none
pub reads_17 : (g : GridStruct) (start trail : List ℕ) (number : ℕ) (old : List ℕ) (r : Reading)
    → (r.answer ≡ Refused 17) × (r.points ≡ old) → reading (problem_by g start) trail number ≡ no_record
    → Reads g start trail number old r
reads_17 g start trail number old r R e = record {
  answer = R.0 ∙ ap read_case (sym e);
  points = R.1
      ∙ sym (front-none old)
      ∙ ap (λ (x : TrailReading). front (read_numbers x) old) (sym e);
}

-- a grid that was made, with a start that is a grid point
pub has-start_by : (g : GridStruct) → IsMade g → (start : List ℕ) → is_grid_point (shape g) start ≡ true
    → HasStart (problem_by g start)
has-start_by g made start on =
    let a = made-accepted g made in
    record {
      some_block = a.some_block;
      six_blocks = a.few_blocks;
      sizes = a.sizes_two;
      sixteen_indices = a.few_indices;
      same_number = a.same_number;
      divisions = a.divisions_one;
      low = low-divisions (shape g) a;
      start = on;
    }

-- the refusals
module _ (p : Problem) (bytes : List ℕ) (number : ℕ) where
  abbrev refusal : ℕ
  refusal = first_no (trail_read_questions p bytes number)

  pub by_number : (n : ℕ) → (n ≡ 0 → ⊥) → refusal ≡ n
      → (Refused n ≡ read_answer p bytes number) × ((old : List ℕ) → old ≡ read_points p bytes number old)
  unfolding read_answer read_points
  by_number n z e =
      let q : eqb refusal 0 ≡ false = ne_eqb refusal 0 (λ f. z (sym e ∙ f)) in
      (rw (q, e), λ old. rw (q, front-none old))

  pub by_grid : (first_no (grid_questions p.grid) ≡ 0 → ⊥) → refusal ≡ first_no (grid_questions p.grid)
  by_grid n =
      asked-no (grid_questions p.grid) (question5 p.grid p.start ∷ read_question17 p bytes number ∷ []) _ n refl

  later : first_no (grid_questions p.grid) ≡ 0
      → refusal ≡ first_no (question5 p.grid p.start ∷ read_question17 p bytes number ∷ [])
  later e =
      asked-next (grid_questions p.grid) (question5 p.grid p.start ∷ read_question17 p bytes number ∷ []) refl e

  pub by_start : first_no (grid_questions p.grid) ≡ 0 → is_grid_point p.grid p.start ≡ false → refusal ≡ 5
  unfolding first_no
  by_start e f = later e ∙ (rw f)

  -- behind questions 1 to 5
  module _ (grid : first_no (grid_questions p.grid) ≡ 0) (on : is_grid_point p.grid p.start ≡ true) where
    no_place : is_placed (reading p bytes number) ≡ false → refusal ≡ 17
    unfolding first_no
    no_place e = later grid ∙ (rw (on, e))

    a_place : is_placed (reading p bytes number) ≡ true → refusal ≡ 0
    unfolding first_no
    a_place e = later grid ∙ (rw (on, e))

    answered : refusal ≡ 0
        → (read_case (reading p bytes number) ≡ read_answer p bytes number)
        × ((old : List ℕ) → front (read_numbers (reading p bytes number)) old ≡ read_points p bytes number old)
    unfolding read_answer read_points
    answered e = (rw (eq-eqb refusal 0 e), λ old. rw (eq-eqb refusal 0 e))

    pub read_so : (read_case (reading p bytes number) ≡ read_answer p bytes number)
        × ((old : List ℕ) → front (read_numbers (reading p bytes number)) old ≡ read_points p bytes number old)
    read_so = go (reading p bytes number) refl
      where
        go : (r : TrailReading) → reading p bytes number ≡ r
            → (read_case (reading p bytes number) ≡ read_answer p bytes number)
            × ((old : List ℕ) → front (read_numbers (reading p bytes number)) old ≡ read_points p bytes number old)
        go no_record q =
            let w = by_number 17 (λ z. omega arith) (no_place (ap is_placed q)) in (
              ap read_case q ∙ w.0,
              λ old. ap (λ (r : TrailReading). front (read_numbers r) old) q ∙ front-none old ∙ w.1 old,
            )
        go (placed read b T U) q = answered (a_place (ap is_placed q))

    -- so of the place that is rebuilt, or of none
    pub answers-place : {s : Simplex} → rebuilt p bytes number ≡ some s
        → (read_answer p bytes number ≡ Place (length s) (mask_of (set_t p s)) (mask_of (set_u p.grid s))
        (labels_read (rebuilt_places p bytes number)))
        × ((old : List ℕ) → read_points p bytes number old ≡ front (concat_map (λ y. y) s) old)
    unfolding reading
    answers-place e = (sym read_so.0 ∙ (rw e), λ old. sym (read_so.1 old) ∙ (rw e))

    pub answers-none : rebuilt p bytes number ≡ none → read_answer p bytes number ≡ Refused 17
    unfolding reading
    answers-none e = sym read_so.0 ∙ (rw e)

-- bytes that begin with a record are no fewer
begins-long : (r bytes : List ℕ) → begins r bytes ≡ true → length r ≤ length bytes
begins-long r bytes e = omega (arith, ap length (begins_with r bytes e), length-append r (drop (length r) bytes))

pub begins_three : (p : Problem) (bytes : List ℕ) → begins (start_record p) bytes ≡ true → 3 ≤ length bytes
unfolding start_record
begins_three p bytes e = begins-long (start_record p) bytes e

-- the start in its array
module _ (g : GridStruct) (made : IsMade g) (start : List ℕ) (ok : HasStart (problem_by g start)) where
  pub start-long : length start ≡ g.indices
  start-long = point-long (shape g) start ok.start ∙ sym (made-indices g made)

  module _ (first : List ℕ) (e : first ≡ front (take g.indices start) (replicate 16 0)) where
    all_taken : take g.indices start ≡ start
    all_taken = rw (← start-long) (take-length start)

    pub start_taken : take g.indices first ≡ start
    start_taken = rw (e, all_taken, ← start-long) (front_taken start (replicate 16 0))
