-- One place of the pass along the path of a game, by a state with positions, which are computed nowhere. Assumes
-- nothing.
use mathlib.Core.Bool.{true}
use mathlib.Core.List.{List, []}
use mathlib.Core.Logic.{⊎_elim}
use mathlib.Core.Path.{◌≡◌, sym, ap, ◌∙◌, subst}
use Prim.Native.Nat.{ℕ, suc, ◌≤◌, ◌<◌}
use borrow.Author.Tests.{le-ltb, leb-true, lt-ltb}
use lib.Dec.{leb}
use native.Mathlib.Omega.{arith}
use Rattle.combinatorics.proofs.Basics.{and_right, before_or_not}
use Rattle.combinatorics.proofs.Lists.{mapped_at}
use Rattle.end_kinds.specs.declared.Kind.{Kind}
use Rattle.end_kinds.specs.declared.Kind.TheVariants.{Facet as facet_end, Place as place_end}
use Rattle.grid_points.proofs.Points.{in_points, position_in_lem}
use Rattle.grid_points.specs.Grid.{Grid, Point, is_grid_point, lent, num_indices, points, position}
use Rattle.solve_pass.proofs.Bare.{map-set, move_bare, ready-bare}
use Rattle.solve_pass.specs.Bare.{bare_state, bare_after, labelled}
use Rattle.solve_pass.specs.Asked.{CanVisitGame}
use Rattle.game_losses.specs.Game.{game_label, labels}
use Rattle.path_laws.proofs.Filled.{FullyLabelled, full_label}
use Rattle.place.specs.Problem.{Problem, label}
use Rattle.game_weighed.specs.Levels.{Rests}
use Rattle.game_point.specs.Label.{GameAt}
use Rattle.positions.proofs.Positions.{at-position_in}
use Rattle.refinement_levels.specs.Levels.{game_problem}
use Rattle.rules.proofs.Marks.{label_in_lem}
use Rattle.rules.proofs.Follow.{At, EndsAt, NextAt, next_place, place_ends, facet_ends, at_first, at_next, at_reads}
use Rattle.rules.proofs.Follow.{at_ready}
use Rattle.rules.specs.Read.{point_in, point_on, read}
use Rattle.rules.specs.Ready.{RoundBelow}
use Rattle.rules.specs.Moves.{State, After, goes, ends_at_place, ends_at_facet, make_move, mark, mark_label, with_mark}

-- the label of a grid point in the game's table is the game's label there
pub game-label : (g : Grid) (start : Point) (losses : List ℕ) → FullyLabelled (game_problem g start losses) → (y : Point)
    → is_grid_point g y ≡ true
    → label (game_problem g start losses) y ≡ game_label g losses y
unfolding label labels
game-label g start losses ok y h =
    let m = in_points g y ok.has_start.same_number h in
    mapped_at (game_label g losses) _ (points g) (position g y) (position_in_lem (points g) y m)
    ∙ ap (game_label g losses) (at-position_in (points g) y m)

-- a state without positions stands at an end as one with positions
ends-bare : {p : Problem} {kind : Kind} {from : ℕ} {e : State} {h k : ℕ} → EndsAt p kind from e h k
    → EndsAt p kind from (bare_state e) h k
ends-bare E = record {
  first_length = E.first_length;
  index = E.index;
  few = E.few;
  low = E.low;
  points = E.points;
  end = E.end;
  places = E.places;
}

-- the state has labels alone, and beside it one with positions stands at place number k
pub record BareAt (p : Problem) (s : State) (k : ℕ) : Type 0 where
  pub full : State
  pub at : At p full k
  pub is : s ≡ bare_state full

module _ {p : Problem} {k : ℕ} where
  pub moved_on : {w : After} {x : State} → NextAt p k w → goes x ≡ bare_after w → BareAt p x (suc k)
  moved_on (next_place {e} A) q = record { full = e; at = A; is = cc }
  moved_on (place_ends E) q = absurd (let z : ◌≡◌ {A = ℕ} 0 1 = cc in omega arith)
  moved_on (facet_ends E) q = absurd (let z : ◌≡◌ {A = ℕ} 0 1 = cc in omega arith)

  pub at-place-end : {w : After} {x : State} {h : ℕ} → NextAt p k w → ends_at_place x h ≡ bare_after w
      → EndsAt p place_end 0 x h k
  at-place-end (next_place A) q = absurd (let z : ◌≡◌ {A = ℕ} 0 1 = cc in omega arith)
  at-place-end {x = x} {h = h} (place_ends {e = e} {h = i} E) q =
      let y : x ≡ bare_state e = cc in
      let z : h ≡ i = cc in
      rw (y, z) (ends-bare E)
  at-place-end (facet_ends E) q = absurd (let z : ◌≡◌ {A = ℕ} 0 1 = cc in omega arith)

  pub at-facet-end : {w : After} {x : State} {h : ℕ} → NextAt p k w → ends_at_facet x h ≡ bare_after w
      → EndsAt p facet_end 1 x h k
  at-facet-end (next_place A) q = absurd (let z : ◌≡◌ {A = ℕ} 0 1 = cc in omega arith)
  at-facet-end (place_ends E) q = absurd (let z : ◌≡◌ {A = ℕ} 0 1 = cc in omega arith)
  at-facet-end {x = x} {h = h} (facet_ends {e = e} {h = i} E) q =
      let y : x ≡ bare_state e = cc in
      let z : h ≡ i = cc in
      rw (y, z) (ends-bare E)

module _ (g : Grid) (start : Point) (losses : List ℕ) (ok : FullyLabelled (game_problem g start losses)) (s : State)
    (k : ℕ) (B : BareAt (game_problem g start losses) s k) where
  abbrev p : Problem
  p = game_problem g start losses

  abbrev e : State
  e = B.full

  few : label p (point_in p e e.active) < 256
  few =
      let h = full_label ok (point_in p e e.active) (at_reads ok B.at).1 in
      let l = label p (point_in p e e.active) in
      omega (
        arith,
        leb-true l (num_indices g) (and_right (leb 1 l) (leb l (num_indices g)) h),
        ok.has_start.sixteen_indices,
      )

  labelled-bare : labelled g losses (bare_state e) ≡ bare_state (read p e)
  unfolding labelled read with_mark
  labelled-bare = ⊎_elim
      (λ (r : e.rule < 6).
      rw (lt-ltb e.rule 6 r)
      (rw (
        sym (game-label g start losses ok (point_in p e e.active) (at_reads ok B.at).1),
        sym (map-set mark_label e.marks e.active
            (mark (position g (point_in p e e.active)) (label p (point_in p e e.active)))),
        label_in_lem (position g (point_in p e e.active)) (label p (point_in p e e.active)) few,
      )))
      (λ (r : 6 ≤ e.rule). rw (le-ltb e.rule 6 r))
      (before_or_not e.rule 6)

  pub can_visit : {firsts owners : List ℕ} (rests : List ℕ) {indices : ℕ} → Rests (lent g.sizes []) rests
      → RoundBelow s.round → indices ≡ num_indices g
      → ((y : Point) → is_grid_point g y ≡ true → GameAt g firsts owners losses y)
      → CanVisitGame g firsts owners rests losses indices s
  can_visit {firsts} {owners} rests {indices} resting below many game =
      subst (CanVisitGame g firsts owners rests losses indices) (sym B.is) (record {
        below = subst (λ (x : State). RoundBelow x.round) B.is below;
        labels = λ r. let w = at_reads ok B.at in record {
          below = (subst (λ (x : State). RoundBelow x.round) B.is below).backward;
          first_length = at_first ok B.at;
          many = many;
          point = w.0;
          game = game (point_on g e e.active) w.1;
          resting = resting;
        };
        ready = rw labelled-bare (ready-bare (read p e) (at_ready ok B.at));
      })

  pub leads : (after : After) → after ≡ make_move (labelled g losses s) → after ≡ bare_after (make_move (read p e))
  leads after q = q
      ∙ ap (λ (x : State). make_move (labelled g losses x)) B.is
      ∙ ap make_move labelled-bare
      ∙ move_bare (read p e)

  pub leads_to : NextAt p k (make_move (read p e))
  leads_to = at_next ok B.at
