-- The pass of a game can begin, and where it finished is the run's answer. Assumes nothing.
use mathlib.Core.List.{List, []}
use mathlib.Core.Path.{◌≡◌, sym, ap, ◌∙◌, subst}
use Prim.Native.Nat.{ℕ, suc, ◌-◌, ◌*◌, ◌≤◌}
use lib.ListN.{length, length-map, replicate, take}
use lib.Seq.{take-length}
use native.Mathlib.Nat.{mul-le-mul_right}
use native.Mathlib.Omega.{arith}
use Rattle.combinatorics.proofs.EditsOfArrays.{counted}
use Rattle.combinatorics.proofs.Fronts.{front_length, front_taken}
use Rattle.combinatorics.proofs.Ranges.{length-up_from}
use Rattle.combinatorics.specs.Front.{front}
use Rattle.combinatorics.specs.Lists.{up_from}
use Rattle.end_kinds.specs.declared.Kind.{Kind}
use Rattle.finder.specs.Finishes.{CanAnnounce, case_at, numbers_at}
use Rattle.finder.specs.Run.{case_of, numbers_of}
use Rattle.solve_level.specs.Runs.{CanRunGame, divided, run_problem}
use Rattle.grid.proofs.Fields.{blocks-range, indices-few, made-accepted, made-block, made-blocks, made-first}
use Rattle.grid.proofs.Fields.{made-indices}
use Rattle.grid.specs.Made.{grid_of, shape}
use Rattle.grid.specs.declared.Grid.{Grid as GridStruct}
use Rattle.grid_points.proofs.Points.{point-long}
use Rattle.grid_points.specs.Grid.{Grid, dimension, lent, next, num_indices, previous}
use Rattle.solve_pass.specs.Asked.{CanPassGame}
use Rattle.game_weighed.specs.Levels.{Rests}
use Rattle.moves.specs.Held.{state_of}
use Rattle.arrays.specs.declared.holding.Held.{Held}
use Rattle.path_pass.specs.Finish.{Announced, Finished, first_point_of}
use Rattle.path_pass.specs.declared.Finish.{Finish}
use Rattle.path_pass.specs.declared.Finish.TheVariants.{Ended, Spent, Unknown as UnknownLabel}
use Rattle.place.specs.Path.{answer}
use Rattle.place.specs.Problem.{Problem}
use Rattle.rules.specs.Read.{point_in, points_from}
use Rattle.rules.specs.Ready.{IsRound, RoundBelow}
use Rattle.rules.specs.Moves.{State}
use Rattle.rules.specs.declared.Round.{Round}

module _ {unit : GridStruct} {divisions losses start buffer : List ℕ}
    (C : CanRunGame unit divisions losses start buffer) where
  abbrev g : Grid
  g = divided unit divisions

  abbrev p : Problem
  p = run_problem unit divisions losses start

  start-long : length start ≡ unit.indices
  start-long = point-long g start C.on_grid ∙ sym (made-indices unit C.made)

  pub can_pad : (unit.indices ≤ length start) × (unit.indices ≤ 16)
  can_pad = (omega (arith, start-long), indices-few unit C.made)

  -- the sizes of the blocks lie in their array
  pub blocks-room : unit.blocks ≤ length unit.sizes
  unfolding grid_of
  blocks-room =
      let a = made-accepted unit C.made in
      let sizes =
      ap (λ z. length z.sizes) C.made.made ∙ front_length (shape unit).sizes (replicate 6 0) a.few_blocks in
      omega (arith, sizes, (blocks-range unit C.made).1)

  start_taken : (held : Held) → held.first ≡ front (take unit.indices start) (replicate 16 0)
      → take unit.indices held.first ≡ start
  start_taken held e =
      let f : take unit.indices start ≡ start = rw (← start-long) (take-length start) in
      let h : take unit.indices (front start (replicate 16 0)) ≡ start =
      rw (← start-long) (front_taken start (replicate 16 0)) in
      rw (e, f, h)

  -- the ways round the blocks do not depend on the divisions
  round-alike : {round : Round} → IsRound (shape unit) round → IsRound g round
  unfolding next previous
  round-alike N = record { backward = N.backward; forward = N.forward; size = N.size }

  pub can_pass : (rests : List ℕ) → Rests (lent (shape unit).sizes []) rests → (round : Round)
      → IsRound (shape unit) round → RoundBelow round → (held : Held) → held.first ≡ front (take unit.indices start) (replicate 16 0)
      → CanPassGame g unit.firsts unit.block rests losses unit.indices round held
  can_pass rests resting round is below held A = record {
    game = λ y on. record {
      grid = C.grid;
      first = λ j l. made-first unit C.made j (omega (arith, made-blocks unit C.made));
      owned = λ h l. made-block unit C.made h (omega (arith, made-indices unit C.made));
      table = C.table;
      is_point = on;
    };
    resting = resting;
    low = C.low;
    many = made-indices unit C.made;
    is_round = round-alike is;
    below = below;
    start = rw (start_taken held A) C.on_grid;
  }

  module _ (budget : ℕ) (round : Round) (last : Held) where
    abbrev pub FinishedBy : Finish → Type 0
    FinishedBy = Finished p budget round last

    pub finished_from : (held : Held) → held.first ≡ front (take unit.indices start) (replicate 16 0) → (f : Finish)
        → Finished (run_problem unit divisions losses (take unit.indices held.first)) budget round last f
        → FinishedBy f
    finished_from held A f F =
        subst
        (λ (v : List ℕ). Finished (run_problem unit divisions losses v) budget round last f)
        (start_taken held A) F

    module _ (kind : Kind) (places h read : ℕ) (e : State)
        (A : Announced p budget kind (first_point_of kind) e h places read) where
      number : length (points_from p e (first_point_of kind)) ≡ suc (length e.order) - first_point_of kind
      number = length-map (up_from (first_point_of kind) (suc (length e.order) - first_point_of kind)) (point_in p e)
          ∙ length-up_from (first_point_of kind) (suc (length e.order) - first_point_of kind)

      fits : (suc (length e.order) - first_point_of kind) * unit.indices ≤ length buffer
      fits =
          let a : suc (length e.order) - first_point_of kind ≤ suc (dimension g) = omega (arith, A.few) in
          let b : (suc (length e.order) - first_point_of kind) * num_indices g ≤ suc (dimension g) * num_indices g =
          mul-le-mul_right (num_indices g) a in
          rw (made-indices unit C.made) (omega (arith, C.room))

    pub finish_told : (f : Finish) → FinishedBy f → case_at unit budget f ≡ case_of (answer p budget)
    finish_told (Ended kind places h s read) A =
        rw (A.is, number kind places h read (state_of round last s) A, counted last.order s.count last.order_long A.points.few)
    finish_told (UnknownLabel places position) is = rw is
    finish_told Spent is = rw is

    pub finish_written : (f : Finish) → FinishedBy f
        → numbers_at unit.indices round last f ≡ numbers_of (answer p budget)
    finish_written (Ended kind places h s read) A = rw (A.is, made-indices unit C.made)
    finish_written (UnknownLabel places position) is = rw is
    finish_written Spent is = rw is

    pub can_announce : RoundBelow round → (f : Finish) → FinishedBy f
        → CanAnnounce unit round last (length buffer) f
    can_announce below f F = record {
      made = C.made;
      end = λ kind places h s read is.
          let A = subst FinishedBy is F in
          record {
            index = omega (arith, A.index, made-indices unit C.made);
            points = record {
              below = below.backward;
              first_length = A.first_length;
              points = A.points;
              short = indices-few unit C.made;
              low = A.low;
              fits = fits kind places h read (state_of round last s) A;
            };
            many = counted last.order s.count last.order_long A.points.few;
          };
    }
