-- Where a reading begins: at {v}, whose point has its position in its mark. Assumes nothing.
use mathlib.Core.Bool.{Bool, true, ◌&&◌}
use mathlib.Core.List.{List, [], ◌∷◌, map}
use mathlib.Core.Logic.{⊎_elim}
use mathlib.Core.Path.{◌≡◌, refl, sym, ap, ◌∙◌}
use Prim.Native.Nat.{ℕ, ◌-◌, ◌*◌, ◌≤◌, ◌<◌}
use borrow.Author.Tests.{le-ltb, lt-ltb}
use lib.Dec.{eqb, ltb}
use lib.ListN.{length, replicate, set, take}
use lib.Seq.{get_or-take}
use native.Mathlib.Omega.{arith}
use Rattle.combinatorics.proofs.Basics.{before_or_not}
use Rattle.combinatorics.specs.Lists.{is_in, sum, up_from}
use Rattle.path_pass.specs.Finish.{IsBegun}
use Rattle.grid.proofs.Fields.{made-indices}
use Rattle.grid_points.specs.Grid.{at, num_indices, position}
use Rattle.grid.specs.Made.{IsMade, shape}
use Rattle.grid.specs.declared.Grid.{Grid as GridStruct}
use Rattle.moves.specs.Held.{state_with}
use Rattle.moves.specs.declared.Status.{Status}
use Rattle.place.specs.Places.{Simplex, is_unlabelled_place, order as order_of}
use Rattle.place.specs.Problem.{Problem, with_labels}
use Rattle.path_laws.proofs.LinkSymmetry.{parts, unlabelled_of}
use Rattle.path_laws.proofs.Start.{start-place}
use Rattle.path_laws.proofs.ToChain.{coefficients_of, in_t, points_of, points_of_coefficients_of}
use Rattle.path_laws.specs.Demand.{HasStart}
use Rattle.positions.proofs.Positions.{map-front}
use Rattle.positions.specs.Falls.{tail_from}
use Rattle.rules.proofs.Describes.{Describes}
use Rattle.rules.proofs.Follow.{start_describes}
use Rattle.rules.specs.Mask.{bit}
use Rattle.rules.specs.Ready.{IsRound}
use Rattle.rules.specs.Moves.{begun}
use Rattle.rules.specs.declared.Round.{Round}
use Rattle.trail.proofs.Reading.{T-alike}
use Rattle.trail.proofs.Tables.{Labelled, some-index, some-table}
use Rattle.trail_steps.specs.Shows.{Shows, bare}
use Rattle.trail_steps.specs.Reading.{HasRead, problem_by}

module _ (g : GridStruct) (made : IsMade g) (first : List ℕ) (ok : HasStart (problem_by g (take g.indices first)))
    (round : Round) (N : IsRound (shape g) round) (order : List ℕ) (size : length first ≡ 16) (s : Status)
    (B : IsBegun first g.indices s) where
  abbrev p : Problem
  p = problem_by g (take g.indices first)

  abbrev v : Simplex
  v = p.start ∷ []

  m : g.indices ≡ num_indices (shape g)
  m = made-indices g made

  place : is_unlabelled_place p v ≡ true
  place = unlabelled_of p v (start-place ok)

  table : (labels : List ℕ) × Labelled p v 0 0 labels
  table = some-table ok v place 0 0 (omega arith) (some-index ok)

  start-at : (k : ℕ) → k < num_indices (shape g) → at first k ≡ at p.start k
  start-at k l = sym (get_or-take g.indices first k 0 (omega (arith, m)))

  zeros-at : (k : ℕ) → k < 16 → bit s.u k ≡ (ltb k (num_indices (shape g)) && eqb (at p.start k) 0)
  zeros-at k l = ⊎_elim
      (λ (x : k < g.indices). B.zeros k l
      ∙ rw (lt-ltb k g.indices x, lt-ltb k (num_indices (shape g)) (omega (arith, m)), start-at k (omega (arith, m))))
      (λ (x : g.indices ≤ k).
      B.zeros k l ∙ rw (le-ltb k g.indices x, le-ltb k (num_indices (shape g)) (omega (arith, m))))
      (before_or_not k g.indices)

  -- over a table
  module _ {labels : List ℕ} (L : Labelled p v 0 0 labels) where
    abbrev q : Problem
    q = with_labels p labels

    described : Describes q (in_t q v) 0 (at (order_of q.grid v)) (coefficients_of q v) (begun round first s.u)
    described = start_describes L.full N first s.u size start-at zeros-at

    points_of_lem : points_of q (coefficients_of q v) ≡ v
    points_of_lem = points_of_coefficients_of L.full.has_start v (parts q v (start-place L.full.has_start)).grid_points

  module _ (tails : List ℕ)
      (are : (k : ℕ) → k < g.indices → at tails k ≡ sum (map (at first) (up_from k (g.indices - k)))) where
    sums : (k : ℕ) → k < num_indices (shape g) → at tails k ≡ tail_from (shape g) p.start k
    sums k l = rw (← m)
        (are k (omega (arith, m)) ∙ ap sum (sym (map-front first g.indices k (g.indices - k) (omega (arith, m)))))

    -- with its position in its mark, {v} is held
    pub v_read : (c : ℕ) → c ≡ position (shape g) p.start
        → HasRead g (take g.indices first) tails v
        (state_with round first (replicate 16 0) order (set (replicate 16 0) 0 (c * 256)) s)
    v_read c e = record { has_start = ok; shows = shown; sums = sums }
      where
        L : Labelled p v 0 0 table.0
        L = table.1

        mark-is : c * 256 ≡ bare p p.start
        mark-is = omega (arith, e)

        D : Describes (with_labels p table.0) (in_t (with_labels p table.0) v) 0 (at (order_of (shape g) v))
            (coefficients_of (with_labels p table.0) v) (begun round first s.u)
        D = described L

        shown : Shows p v (state_with round first (replicate 16 0) order (set (replicate 16 0) 0 (c * 256)) s)
        shown = rw (B.rule, B.none, B.empty, B.active, mark-is) (record {
          T = in_t (with_labels p table.0) v;
          t = 0;
          o = at (order_of (shape g) v);
          x = coefficients_of (with_labels p table.0) v;
          chain = D.chain.chain;
          size = D.chain.size;
          here = points_of_lem L;
          place = place;
          is_t = let f : List ℕ → ℕ → Bool = λ u k. is_in eqb k u in ap f (sym (T-alike p table.0 v));
          round = D.round;
          order_length = D.order_length;
          order_at = D.order_at;
          first_length = D.first_length;
          first_at = D.first_at;
          coefficients_length = D.coefficients_length;
          coefficients_at = D.coefficients_at;
          bits_t = D.in_t;
          bits_u = D.in_u;
          marks = refl;
        })
