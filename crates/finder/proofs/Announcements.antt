-- From where a pass finished to a run's answer: the start in its array is the start, and the points of the last state
-- are the answer's. Assumes nothing.
use mathlib.Core.List.{List}
use mathlib.Core.Path.{◌≡◌, sym, ◌∙◌, subst}
use Prim.Native.Nat.{ℕ, suc, ◌-◌, ◌*◌, ◌≤◌}
use lib.ListN.{length, length-map, replicate, take}
use lib.Seq.{take-length}
use native.Mathlib.Nat.{mul-le-mul_right}
use native.Mathlib.Omega.{arith}
use Rattle.combinatorics.proofs.EditsOfArrays.{counted}
use Rattle.combinatorics.proofs.Fronts.{front_taken}
use Rattle.combinatorics.proofs.Ranges.{length-up_from}
use Rattle.combinatorics.specs.Front.{front}
use Rattle.combinatorics.specs.Lists.{up_from}
use Rattle.end_kinds.specs.declared.Kind.{Kind}
use Rattle.grid.proofs.Fields.{indices-few, made-indices}
use Rattle.grid_points.specs.Grid.{dimension, num_indices}
use Rattle.grid_points.proofs.Points.{point-long}
use Rattle.grid.specs.Made.{IsMade, shape}
use Rattle.grid.specs.declared.Grid.{Grid as GridStruct}
use Rattle.moves.specs.Held.{state_of}
use Rattle.arrays.specs.declared.holding.Held.{Held}
use Rattle.rules.specs.Read.{point_in, points_from}
use Rattle.rules.specs.Ready.{IsRound, RoundBelow}
use Rattle.rules.specs.Moves.{State}
use Rattle.rules.specs.declared.Round.{Round}
use Rattle.place.specs.Path.{answer}
use Rattle.place.specs.Problem.{Problem}
use Rattle.path_laws.specs.Demand.{Accepted}
use Rattle.marks.specs.Reading.{problem_from, Readable}
use Rattle.path_pass.specs.Finish.{Announced, CanPass, Finished, first_point_of, problem_in}
use Rattle.path_pass.specs.declared.Finish.{Finish}
use Rattle.path_pass.specs.declared.Finish.TheVariants.{Ended, Spent, Unknown as UnknownLabel}
use Rattle.finder.specs.Finishes.{CanAnnounce, case_at, numbers_at}
use Rattle.finder.specs.Run.{case_of, numbers_of}

-- the array that the start was copied to holds it
module _ {g : GridStruct} {binomials start table : List ℕ} (readable : Readable g binomials table)
    (ok : Accepted (problem_from g start table)) where
  start-long : length start ≡ g.indices
  start-long = point-long (shape g) start ok.has_start.start ∙ sym (made-indices g readable.made)

  pub can_pad : (g.indices ≤ length start) × (g.indices ≤ 16)
  can_pad = (omega (arith, start-long), indices-few g readable.made)

  pub problem-from : (held : Held) → held.first ≡ front (take g.indices start) (replicate 16 0)
      → problem_in g held.first table ≡ problem_from g start table
  problem-from held e =
      let f : take g.indices start ≡ start = rw (← start-long) (take-length start) in
      let h : take g.indices (front start (replicate 16 0)) ≡ start =
      rw (← start-long) (front_taken start (replicate 16 0)) in
      rw (e, f, h)

  -- the pass can begin
  pub can_pass : (round : Round) → IsRound (shape g) round → RoundBelow round → (held : Held) → held.first ≡ front (take g.indices start) (replicate 16 0)
      → CanPass g round binomials held table
  can_pass round is below held A = record {
    readable = readable;
    is_round = is;
    below = below;
    accepted = rw (problem-from held A) ok;
  }

  -- where it finished
  pub finished_from : (held : Held) → held.first ≡ front (take g.indices start) (replicate 16 0) → (budget : ℕ) (round : Round) (last : Held) (f : Finish)
      → Finished (problem_in g held.first table) budget round last f
      → Finished (problem_from g start table) budget round last f
  finished_from held A budget round last f F =
      subst (λ (p : Problem). Finished p budget round last f) (problem-from held A) F

-- the answer at an end
module _ (g : GridStruct) (made : IsMade g) (start table : List ℕ) (budget places : ℕ) (kind : Kind) (e : State) (h : ℕ)
    {read : ℕ} (A : Announced (problem_from g start table) budget kind (first_point_of kind) e h places read) where
  -- its points have room
  room : (n : ℕ) → suc (dimension (shape g)) * num_indices (shape g) ≤ n
      → (suc (length e.order) - first_point_of kind) * g.indices ≤ n
  room n l =
      let a : suc (length e.order) - first_point_of kind ≤ suc (dimension (shape g)) = omega (arith, A.few) in
      let b : (suc (length e.order) - first_point_of kind) * num_indices (shape g)
      ≤ suc (dimension (shape g)) * num_indices (shape g) =
      mul-le-mul_right (num_indices (shape g)) a in
      rw (made-indices g made) (omega arith)

  number : length (points_from (problem_from g start table) e (first_point_of kind))
      ≡ suc (length e.order) - first_point_of kind
  number =
      length-map (up_from (first_point_of kind) (suc (length e.order) - first_point_of kind))
      (point_in (problem_from g start table) e)
      ∙ length-up_from (first_point_of kind) (suc (length e.order) - first_point_of kind)

-- where a pass finished is the answer, and can be announced
module _ (g : GridStruct) (made : IsMade g) (start table : List ℕ) (budget : ℕ) (round : Round) (held : Held) where
  abbrev pub FinishedBy : Finish → Type 0
  FinishedBy = Finished (problem_from g start table) budget round held

  pub finish_told : (f : Finish) → FinishedBy f
      → case_at g budget f ≡ case_of (answer (problem_from g start table) budget)
  finish_told (Ended kind places h s read) A =
      let e = state_of round held s in
      let n = number g made start table budget places kind e h A in
      let q = counted held.order s.count held.order_long A.points.few in
      rw (A.is, n, q)
  finish_told (UnknownLabel places position) is = rw is
  finish_told Spent is = rw is

  pub finish_written : (f : Finish) → FinishedBy f → numbers_at g.indices round held f
      ≡ numbers_of (answer (problem_from g start table) budget)
  finish_written (Ended kind places h s read) A = rw (A.is, made-indices g made)
  finish_written (UnknownLabel places position) is = rw is
  finish_written Spent is = rw is

  pub can_announce : (n : ℕ) → RoundBelow round → suc (dimension (shape g)) * num_indices (shape g) ≤ n
      → (f : Finish) → FinishedBy f → CanAnnounce g round held n f
  can_announce n below fits f F = record {
    made = made;
    end = λ kind places h s read is.
        let A = subst FinishedBy is F in
        let e = state_of round held s in
        record {
          index = omega (arith, A.index, made-indices g made);
          points = record {
            below = below.backward;
            first_length = A.first_length;
            points = A.points;
            short = indices-few g made;
            low = A.low;
            fits = room g made start table budget places kind e h A n fits;
          };
          many = counted held.order s.count held.order_long A.points.few;
        };
  }
