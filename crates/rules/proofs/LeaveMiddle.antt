-- Point e + 1, neither the first nor the last, leaves: the state goes on through its facet, to the place where the two
-- steps have changed places or to the facet itself. Assumes nothing.
use mathlib.Core.Bool.{Bool, true, false, ◌&&◌, cond}
use mathlib.Core.List.{List}
use mathlib.Core.Logic.{⊎_elim}
use mathlib.Core.Path.{◌≡◌, refl, sym, ap, ◌∙◌}
use Prim.Native.Nat.{ℕ, suc, ◌-◌, ◌≤◌, ◌<◌}
use borrow.Author.Tests.{eqb-true, eq-eqb, ne_eqb, lt-ltb}
use lib.Dec.{eqb}
use lib.ListN.{length}
use native.Mathlib.Omega.{arith}
use Rattle.combinatorics.proofs.Basics.{absurd_bool, same_or, and_left, and_right, and_both}
use Rattle.combinatorics.proofs.EditsRemove.{length-swap_at, swap_at-here, swap_at-next, swap_at_else}
use Rattle.combinatorics.specs.Edits.{swap_at}
use Rattle.geometry.proofs.Definitions.{back, Blocks, Chain, coord, zeros, Carries, BackOutside}
use Rattle.geometry.proofs.LabelledChains.{list_at, tabulate}
use Rattle.geometry.proofs.Moves.{inner_if_positive, inner_if_zero, inner_stuck, inner_unstuck}
use Rattle.geometry.proofs.Onward.{Beyond, next-link, list_at_tabulate}
use Rattle.geometry.proofs.Ways.{inner_p, inner_o, inner_same, inner_swap, inner_beside, inner_tight_at, dropped}
use Rattle.grid_points.specs.Grid.{at, num_indices, position}
use Rattle.place.specs.Problem.{Problem}
use Rattle.path_laws.proofs.BlocksOfGrid.{blocks_of, back_below}
use Rattle.path_laws.proofs.ToChain.{label_of}
use Rattle.path_laws.proofs.Filled.{FullyLabelled}
use Rattle.rules.specs.Read.{point_after, point_gone, point_in}
use Rattle.rules.specs.Moves.{State, goes, mark_position, source_in, shrink, leave, leave_middle}
use Rattle.rules.proofs.Describes.{Describes, Crossed, mark_at, AllMarks, labels_of, through, GoesOn, Left, left_on}
use Rattle.rules.proofs.Marks.{mark-position}
use Rattle.rules.proofs.PointsAfter.{after_swapped}
use Rattle.rules.proofs.Range.{nth_points_of, index_below, point-on}
use Rattle.rules.proofs.Shrink.{shrunk}
use Rattle.rules.proofs.StatePoints.{ready-point, point-is}
use Rattle.rules.proofs.WaysRound.{source-from}

-- the steps e and e + 1 exchanged
abbrev exchanged : State → ℕ → State
exchanged s e = record {
  round = s.round;
  first = s.first;
  coefficients = s.coefficients;
  order = swap_at e s.order;
  marks = s.marks;
  T = s.T;
  U = s.U;
  active = suc e;
  rule = 1;
}

module _ {p : Problem} (ok : FullyLabelled p) {T : ℕ → Bool} {n : ℕ} {o : ℕ → ℕ} {x : List (ℕ → ℕ)} {s : State}
    (D : Describes p T (suc n) o x s) (L : AllMarks p (suc n) x s) (e : ℕ) (l : e < n)
    (c : Carries T (suc n) (labels_of p x) (suc e)) where
  abbrev R : Blocks
  R = blocks_of p

  K : Chain R T (suc n) (list_at x) o
  K = D.chain.chain

  indices-below : (j : ℕ) → j < suc n → o j < num_indices p.grid
  indices-below j m = index_below ok D.chain (o j) (K.order.within j m)

  -- the end of the run from the second index
  run : (m : ℕ) × (m ≤ 16)
      × BackOutside R (zeros R T (list_at x 0)) (o (suc e)) m × (source_in s (o (suc e)) ≡ back R.previous m (o (suc e)))
  run = source-from ok D (o (suc e)) (indices-below (suc e) (omega arith))

  b : ℕ
  b = back R.previous run.0 (o (suc e))

  stuck : Bool
  stuck = eqb (o e) b && eqb (coord R (list_at x 0) b) 0

  move : leave s (suc e) ≡ goes (cond stuck (shrink s (suc e) e true) (exchanged s e))
  unfolding leave leave_middle stuck b
  move =
      let i : suc e - 1 ≡ e = omega arith in
      rw (
        ne_eqb (suc e) 0 (λ q. omega arith),
        lt-ltb (suc e) (length s.order) (omega (arith, D.order_length)),
        i,
        D.order_at e (omega arith),
        D.order_at (suc e) (omega arith),
        run.3,
        D.first_at (back R.previous run.0 (o (suc e)))
            (back_below p run.0 (o (suc e)) (indices-below (suc e) (omega arith))),
      ) refl

  -- off the grid: the facet is a place
  drops : coord R (list_at x e) b ≡ 0 → GoesOn p T n x (suc e) (shrink s (suc e) e true)
  unfolding b
  drops z =
      let w = inner_stuck K e l run.2 z in
      shrunk ok D L (omega arith) c (dropped K e (omega arith) (inner_tight_at K e l (inner_if_zero K e l run.2 z)))
      true (eq-eqb _ 0 w.1)

  -- on the grid: the place beyond
  module _ (g : 0 < coord R (list_at x e) b) where
    y : List (ℕ → ℕ)
    y = tabulate (suc (suc n)) (inner_p K e)

    beyond : Beyond R (label_of p) T n x (suc e) (inner_o K e) y (suc e)
    unfolding y b
    beyond = next-link D.chain (suc e) (omega arith) c (inner_beside K e l (inner_if_positive K e l run.2 g))

    same : (j : ℕ) → j ≤ suc n → (j ≡ suc e → ⊥) → list_at y j ≡ list_at x j
    unfolding y
    same j m q = list_at_tabulate (suc (suc n)) (inner_p K e) j (omega arith) ∙ inner_same K e j q

    first : list_at y 0 ≡ list_at x 0
    first = same 0 (omega arith) (λ q. omega arith)

    order-at : (j : ℕ) → j < suc n → at (swap_at e s.order) j ≡ inner_o K e j
    order-at j m =
        let w = inner_swap K e in
        let f : suc e < length s.order = omega (arith, D.order_length) in
        ⊎_elim (λ (q : j ≡ e). rw q (swap_at-here 0 e s.order f ∙ D.order_at (suc e) (omega arith) ∙ sym w.here))
        (λ q. ⊎_elim (λ (r : j ≡ suc e). rw r (swap_at-next 0 e s.order f ∙ D.order_at e (omega arith) ∙ sym w.next))
        (λ r. swap_at_else 0 e s.order j q r ∙ D.order_at j m ∙ sym (w.rest j q r)) (same_or j (suc e)))
        (same_or j e)

    -- point e + 1, by the step that now comes second
    gone-is : point_gone p.grid (exchanged s e) ≡ point_in p s (suc e)
    unfolding point_after
    gone-is =
        let f : suc e < length s.order = omega (arith, D.order_length) in
        let z : suc e - 1 ≡ e = omega arith in
        rw (z, swap_at-next 0 e s.order f, after_swapped (source_in s) s.order s.first e e (omega arith)) refl

    crossed : Crossed p (suc n) (exchanged s e)
    crossed _ _ _ =
        let f : suc e < length s.order = omega (arith, D.order_length) in
        let z : suc e - 1 ≡ e = omega arith in
        let i = point-is ok D (suc e) (omega arith) in (
          rw (z, swap_at-next 0 e s.order f, after_swapped (source_in s) s.order s.first e e (omega arith))
              ((ready-point ok D (suc e) (omega arith)).positive e (omega arith)),
          rw (gone-is, i) (point-on ok D.chain (suc e) (omega arith)),
          ap mark_position (L (suc e) (omega arith))
              ∙ mark-position ok D.chain (suc e) (omega arith)
              ∙ ap (position p.grid) (sym (gone-is ∙ i ∙ nth_points_of p x (suc e) (omega (arith, D.chain.size)))),
        )

    exchanges : GoesOn p T n x (suc e) (exchanged s e)
    exchanges = (
      y,
      beyond.through,
      record {
        T = T;
        t = suc n;
        o = inner_o K e;
        describes = record {
          chain = beyond.place;
          round = D.round;
          order_length = length-swap_at e s.order ∙ D.order_length;
          order_at = order-at;
          first_length = D.first_length;
          first_at = λ k m. D.first_at k m ∙ ap (λ (z : ℕ → ℕ). coord R z k) (sym first);
          coefficients_length = D.coefficients_length;
          coefficients_at = λ k m. D.coefficients_at k m ∙ ap (λ (z : ℕ → ℕ). z k) (sym first);
          in_t = D.in_t;
          in_u = λ k m. D.in_u k m ∙ ap (λ (z : ℕ → ℕ). zeros R T z k) (sym first);
          marks_length = D.marks_length;
        };
        came = through n x refl (omega arith) (omega arith) (omega arith)
            (λ j m q. L j m ∙ ap (mark_at p) (sym (same j m q))) beyond.carries beyond.back crossed;
        link = beyond.link;
      },
    )

  pub leave_middle_lem : Left p T n x s (suc e) (leave s (suc e))
  unfolding stuck b
  leave_middle_lem = rw move (left_on (go stuck refl))
    where
      go : (t : Bool) → stuck ≡ t → GoesOn p T n x (suc e) (cond t (shrink s (suc e) e true) (exchanged s e))
      go true q =
          let z : o e ≡ b = eqb-true (o e) b (and_left (eqb (o e) b) _ q) in
          let z0 : coord R (list_at x 0) b ≡ 0 = eqb-true _ 0 (and_right (eqb (o e) b) _ q) in
          drops (inner_unstuck K e l run.2 z (rw z z0))
      go false q = exchanges (⊎_elim
          (λ z. let w = inner_stuck K e l run.2 z in
          absurd_bool (sym (and_both (eqb (o e) b) _ (eq-eqb (o e) b w.0)
          (eq-eqb _ 0 (rw w.0 at w.1))) ∙ q))
          (λ z. omega (arith, z)) (same_or (coord R (list_at x e) b) 0))
