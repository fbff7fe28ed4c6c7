-- The pass along the path of a game: where it begins, what it has read, how it ends. Assumes nothing.
use mathlib.Core.Bool.{◌&&◌}
use mathlib.Core.List.{List}
use mathlib.Core.Logic.{⊎_elim}
use mathlib.Core.Path.{◌≡◌, refl, sym, ap, ◌∙◌}
use Prim.Native.Nat.{ℕ, suc, ◌+◌, ◌≤◌, ◌<◌}
use borrow.Author.Tests.{le-ltb, lt-ltb}
use lib.Dec.{eqb, ltb}
use lib.ListN.{take}
use lib.Seq.{get_or-take}
use native.Mathlib.Omega.{arith}
use Rattle.combinatorics.proofs.Basics.{before_or_not}
use Rattle.end_kinds.specs.declared.Kind.{Kind}
use Rattle.end_kinds.specs.declared.Kind.TheVariants.{Facet as facet_end, Place as place_end}
use Rattle.grid_points.specs.Grid.{Grid, at, num_indices}
use Rattle.solve_pass.proofs.Places.{BareAt, at-facet-end, at-place-end, can_visit, leads, leads_to, moved_on}
use Rattle.solve_pass.specs.Bare.{bare_after, labelled}
use Rattle.solve_pass.specs.Asked.{CanPassGame, CanVisitGame}
use Rattle.moves.specs.Held.{state_of}
use Rattle.arrays.specs.declared.holding.Held.{Held}
use Rattle.moves.specs.declared.Status.{Status}
use Rattle.path_laws.proofs.Filled.{FullyLabelled}
use Rattle.path_laws.proofs.LabelsRead.{came_few, came_next, came_none}
use Rattle.path_pass.specs.declared.Stand.{Stand}
use Rattle.path_pass.specs.Finish.{Announced, HasBegun, IsBegun, labels_at}
use Rattle.place.specs.LabelsRead.{came_in}
use Rattle.place.specs.Path.{answer, path, spent}
use Rattle.place.specs.Problem.{Problem}
use Rattle.refinement_levels.proofs.Starts.{full_game}
use Rattle.refinement_levels.specs.Levels.{game_problem}
use Rattle.rules.proofs.Follow.{EndsAt, NextAt, at_begin, at_new, at-spent, ends-answer}
use Rattle.rules.specs.Mask.{bit}
use Rattle.rules.specs.Read.{read}
use Rattle.rules.specs.Ready.{RoundBelow}
use Rattle.rules.specs.Moves.{After, State, begun, ends_at_facet, ends_at_place, goes, make_move}
use Rattle.rules.specs.declared.Round.{Round}

pub game_full : {g : Grid} {firsts owners rests losses : List ℕ} {indices : ℕ} {round : Round} {held : Held}
    → CanPassGame g firsts owners rests losses indices round held
    → FullyLabelled (game_problem g (take indices held.first) losses)
game_full {g} {firsts} {owners} {rests} {losses} {indices} {round} {held} w =
    let m = (w.game (take indices held.first) w.start).grid in
    full_game g (take indices held.first) losses (record {
      some_block = m.some_block;
      few_blocks = m.few_blocks;
      sizes_two = m.sizes_two;
      few_indices = m.few_indices;
      same_number = m.same_number;
      divisions_one = m.divisions_one;
      low = w.low;
    }) w.start

-- the labels read at the places up to number k, from 0
abbrev pub HasReadSoFar : Problem → ℕ → ℕ → Type 0
HasReadSoFar p k labels = labels ≡ suc (came_in (path p).visited k)

pub begins-reading : (p : Problem) (labels rule : ℕ) → labels ≡ labels_at rule → rule ≡ 1 → HasReadSoFar p 0 labels
begins-reading p labels rule e r = rw (e, r, came_none (path p).visited) refl

-- the pass stands at place number `visited`, from 0
pub record Passing (p : Problem) (visited : ℕ) (a : Stand) (s : State) : Type 0 where
  pub here : BareAt p s visited
  pub read : HasReadSoFar p visited a.labels

module _ {g : Grid} {firsts owners rests losses : List ℕ} {indices : ℕ} {round : Round} {held : Held}
    (w : CanPassGame g firsts owners rests losses indices round held) where
  abbrev p : Problem
  p = game_problem g (take indices held.first) losses

  start-at : (k : ℕ) → k < num_indices g → at (take indices held.first) k ≡ at held.first k
  start-at k l = get_or-take indices held.first k 0 (omega (arith, w.many))

  pub begins : (new : Held) (stand : Stand) → HasBegun held new indices stand → BareAt p (state_of round new stand.status) 0
  begins new stand H = record {
    full = begun round held.first s.u;
    at = at_begin (game_full w) w.is_round held.first s.u held.first_long (λ k l. sym (start-at k l)) mask_at;
    is = rw (H.first, H.no_coefficients, H.no_marks, B.rule, B.none, B.empty, B.active);
  }
    where
      s : Status
      s = stand.status

      B : IsBegun held.first indices s
      B = H.status

      mask_at : (k : ℕ) → k < 16 → bit s.u k ≡ (ltb k (num_indices g) && eqb (at (take indices held.first) k) 0)
      mask_at k l = ⊎_elim
          (λ (x : k < indices). B.zeros k l
          ∙ rw (
            lt-ltb k indices x,
            lt-ltb k (num_indices g) (omega (arith, w.many)),
            start-at k (omega (arith, w.many)),
          ))
          (λ (x : indices ≤ k).
          B.zeros k l ∙ rw (le-ltb k indices x, le-ltb k (num_indices g) (omega (arith, w.many))))
          (before_or_not k indices)

  pub reads_on : (k labels : ℕ) → HasReadSoFar p k labels → (e : State) → BareAt p e (suc k)
      → HasReadSoFar p (suc k) (labels + labels_at e.rule)
  reads_on k labels R e B =
      rw (came_next (path p).visited k, at_new (game_full w) B.at, R, ap (λ (x : State). x.rule) B.is)
      (omega arith)

  pub spends : (k : ℕ) (s : State) → BareAt p s k → (budget : ℕ) → budget ≤ k → answer p budget ≡ spent budget
  spends k s B budget l = at-spent (game_full w) B.at budget l

  -- a place that is not past the budget
  module _ (budget k : ℕ) (a : Stand) (s : State) (P : Passing p k a s) (more : k < budget) where
    pub can_look : RoundBelow s.round → CanVisitGame g firsts owners rests losses indices s
    can_look below =
        can_visit g (take indices held.first) losses (game_full w) s k P.here rests w.resting below w.many w.game

    leads_on_lem : (after : After) → after ≡ make_move (labelled g losses s) → after
        ≡ bare_after (make_move (read p P.here.full))
    leads_on_lem = leads g (take indices held.first) losses (game_full w) s k P.here

    to : NextAt p k (make_move (read p P.here.full))
    to = leads_to g (take indices held.first) losses (game_full w) s k P.here

    -- the move has led to the next place: there is one label more, if a point has come in,
    module _ (x : State) (q : goes x ≡ make_move (labelled g losses s)) where
      next : BareAt p x (suc k)
      next = moved_on to (leads_on_lem (goes x) q)

      pub labels-fit : k + 1 < budget → a.labels + labels_at x.rule ≤ budget
      labels-fit two =
          omega (arith, reads_on k a.labels P.read x next, came_few (path p).visited (suc k), two)

      pub passes_on : (b : Stand) → b.labels ≡ a.labels + labels_at x.rule → Passing p (k + 1) b x
      passes_on b r =
          let z : k + 1 ≡ suc k = omega arith in
          record { here = rw z next; read = rw (z, r) (reads_on k a.labels P.read x next) }

      pub spent-here : k + 1 ≡ budget → answer p budget ≡ spent budget
      spent-here one = spends (suc k) x next budget (omega arith)

    -- or to an end, which is the answer
    module _ (last : Held) (status : Status) (h : ℕ) where
      abbrev e : State
      e = state_of round last status

      announced : (kind : Kind) (from : ℕ) → EndsAt p kind from e h k
          → Announced p budget kind from e h (k + 1) a.labels
      announced kind from E =
          let z : k + 1 ≡ suc k = omega arith in
          record {
            first_length = E.first_length;
            index = E.index;
            few = E.few;
            low = E.low;
            points = E.points;
            is = rw (z, P.read) (ends-answer E budget more);
          }

      pub place-ends : ends_at_place e h ≡ make_move (labelled g losses s)
          → Announced p budget place_end 0 e h (k + 1) a.labels
      place-ends q = announced place_end 0 (at-place-end to (leads_on_lem (ends_at_place e h) q))

      pub facet-ends : ends_at_facet e h ≡ make_move (labelled g losses s)
          → Announced p budget facet_end 1 e h (k + 1) a.labels
      facet-ends q = announced facet_end 1 (at-facet-end to (leads_on_lem (ends_at_facet e h) q))
