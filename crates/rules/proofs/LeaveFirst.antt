-- The first point leaves: the state that `leave` makes describes the place beyond its facet, or the facet is an end.
-- Assumes nothing.
use mathlib.Core.Bool.{Bool, true, false, not, ◌&&◌, ◌||◌, cond}
use mathlib.Core.List.{List}
use mathlib.Core.Logic.{⊎_elim}
use mathlib.Core.Option.{some}
use mathlib.Core.Path.{◌≡◌, refl, sym, ap, ◌∙◌}
use Prim.Native.Nat.{ℕ, suc, ◌≤◌, ◌<◌}
use borrow.Author.Tests.{lt-ltb}
use lib.Dec.{eqb, ltb}
use lib.ListN.{length}
use native.Mathlib.Omega.{arith}
use Rattle.combinatorics.proofs.Basics.{before_or_not, and_left, and_right}
use Rattle.combinatorics.proofs.EditsRotate.{length-rotate_left, rotate_left-before, rotate_left-last}
use Rattle.combinatorics.specs.Edits.{rotate_left}
use Rattle.geometry.proofs.Bridge.{changes_of}
use Rattle.geometry.proofs.Definitions.{back, Blocks, Chain, coord, zeros, Free, Moved, BackOutside, Carries}
use Rattle.geometry.proofs.FirstLeaves.{moved, zeros-next, filled, filled-only}
use Rattle.geometry.proofs.LabelledChains.{list_at, tabulate}
use Rattle.geometry.proofs.Moves.{next-run, next_else}
use Rattle.geometry.proofs.Onward.{Beyond, next-link, fill_end, list_at_tabulate}
use Rattle.geometry.proofs.Ways.{first_or_lem, first_p, first-o, first-later, first_rotate, first-beside}
use Rattle.grid_points.specs.Grid.{at, num_indices}
use Rattle.place.specs.Problem.{Problem}
use Rattle.path_laws.proofs.BlocksOfGrid.{blocks_of, back_below}
use Rattle.path_laws.proofs.ToChain.{label_of}
use Rattle.path_laws.proofs.Filled.{FullyLabelled}
use Rattle.rules.specs.Mask.{bit, with_index}
use Rattle.rules.specs.Ready.{IsRound, ReadyFirst}
use Rattle.rules.specs.Moves.{State, goes, ends_at_facet, source_in, is_filled, shifted, changed_before, leave_first}
use Rattle.rules.specs.Moves.{leave}
use Rattle.rules.proofs.Describes.{Describes, mark_at, AllMarks, labels_of, Came, through, Reached, Left}
use Rattle.rules.proofs.Describes.{facet_ends, left_on}
use Rattle.rules.proofs.Masks.{bit_with}
use Rattle.rules.proofs.Range.{index_below, coord_below, coefficient_below}
use Rattle.rules.proofs.Shifted.{length-shifted, shifted_at}
use Rattle.rules.proofs.WaysRound.{ChangedOn, before-outside, changed, tested, backward, previous-below}
use Rattle.rules.proofs.WaysRound.{filled-yes}
use Rattle.rules.proofs.WaysRound.{filled-no, source-from}

-- an index joins a set or not
or_into : (a z : Bool) → (a || z) ≡ (a && true || z)
or_into true z = refl
or_into false z = refl

or_not : (a z : Bool) → z ≡ (a && false || z)
or_not true z = refl
or_not false z = refl

module _ {p : Problem} (ok : FullyLabelled p) {T : ℕ → Bool} {n : ℕ} {o : ℕ → ℕ} {x : List (ℕ → ℕ)} {s : State}
    (D : Describes p T (suc n) o x s) where
  abbrev R : Blocks
  R = blocks_of p

  abbrev N : IsRound p.grid s.round
  N = D.round

  abbrev P : ℕ → ℕ → ℕ
  P = list_at x

  abbrev K : Chain R T (suc n) P o
  K = D.chain.chain

  first_below : o 0 < num_indices p.grid
  first_below = index_below ok D.chain (o 0) (K.order.within 0 (omega arith))

  run : (d : ℕ) × (d ≤ 16) × BackOutside R (zeros R T (P 0)) (o 0) d × (source_in s (o 0) ≡ back R.previous d (o 0))
  run = source-from ok D (o 0) first_below

  -- where the first step takes 1 away, and whether that index joins U
  abbrev b : ℕ
  b = back R.previous run.0 (o 0)

  abbrev joins : Bool
  joins = eqb (coord R (P 0) b) 1 && not (T b)

  abbrev moves : Moved R (o 0) b (P 0) (P 1)
  moves = moved K run.2

  end_below : b < num_indices p.grid
  end_below = back_below p run.0 (o 0) first_below

  abbrev onward : Bool → State
  onward into = record {
    round = s.round;
    first = shifted s.first (o 0) b;
    coefficients = changed_before suc s.round.previous b 16 (o 0) s.coefficients;
    order = rotate_left s.order;
    marks = rotate_left s.marks;
    T = s.T;
    U = cond into (with_index s.U b) s.U;
    active = length s.order;
    rule = cond into 2 1;
  }

  leave-is : leave s 0 ≡ cond (joins && is_filled s.round s.T s.U b) (ends_at_facet s b) (goes (onward joins))
  unfolding leave leave_first
  leave-is = rw (
    D.order_at 0 (omega arith),
    run.3,
    D.first_at b end_below,
    D.in_t b (omega (arith, end_below, ok.has_start.sixteen_indices)),
  )

  pub ready-first : ReadyFirst s
  ready-first = record {
    some = omega (arith, D.order_length);
    positive = rw (D.order_at 0 (omega arith), run.3) (omega (arith, D.first_at b end_below, moves.gives));
    fits = rw (D.order_at 0 (omega arith))
        (omega (arith, D.first_at (o 0) first_below, coord_below ok D.chain 0 (omega arith) (o 0) first_below));
    raised = rw (D.order_at 0 (omega arith), run.3)
        (tested s.round.previous (num_indices p.grid) (backward ok N) (previous-below ok N)
        (λ c. ltb c 65535)
        suc 16 run.0 s.coefficients first_below run.1 (before-outside run.2 moves.apart)
        (λ j l.
        let k = back R.previous j (o 0) in
        lt-ltb (at s.coefficients k) 65535 (omega (
          arith,
          D.coefficients_at k (back_below p j (o 0) first_below),
          coefficient_below ok D.chain 0 (omega arith) k,
        ))));
  }

  module _ (L : AllMarks p (suc n) x s) (c : Carries T (suc n) (labels_of p x) 0) where
    -- where the facet is not an end
    module _ (fr : Free R T (P 1)) where
      y : List (ℕ → ℕ)
      y = tabulate (suc (suc n)) (first_p K)

      beyond : Beyond R (label_of p) T n x 0 (first-o K) y (suc n)
      unfolding y
      beyond = next-link D.chain 0 (omega arith) c (first-beside K fr)

      points : (j : ℕ) → j < suc n → list_at y j ≡ P (suc j)
      unfolding y
      points j l = list_at_tabulate (suc (suc n)) (first_p K) j (omega arith) ∙ first-later K j l

      order-at : (j : ℕ) → j < suc n → at (rotate_left s.order) j ≡ first-o K j
      order-at j l = ⊎_elim
          (λ (m : j < n). rotate_left-before 0 s.order j (omega (arith, D.order_length))
          ∙ D.order_at (suc j) (omega arith)
          ∙ sym ((first_rotate K).back j m))
          (λ (m : n ≤ j).
          let e : j ≡ n = omega arith in
          rw e (rotate_left-last 0 s.order n D.order_length ∙ D.order_at 0 (omega arith) ∙ sym (first_rotate K).last))
          (before_or_not j n)

      first-at : (k : ℕ) → k < num_indices p.grid → at (shifted s.first (o 0) b) k ≡ coord R (list_at y 0) k
      first-at k l = rw (points 0 (omega arith)) (omega (
        arith,
        shifted_at s.first (o 0) b (omega (arith, D.first_at b end_below, moves.gives)) k
            (omega (arith, D.first_length, ok.has_start.sixteen_indices)),
        changes_of moves k,
        D.first_at k l,
      ))

      raised : ChangedOn R.previous suc (o 0) run.0 s.coefficients
          (changed_before suc s.round.previous b 16 (o 0) s.coefficients)
      raised = changed s.round.previous _ (backward ok N) (previous-below ok N) suc 16 run.0 s.coefficients first_below
          (omega (arith, D.coefficients_length, ok.has_start.sixteen_indices)) run.1 (before-outside run.2 moves.apart)

      coefficients-at : (k : ℕ) → k < num_indices p.grid
          → at (changed_before suc s.round.previous b 16 (o 0) s.coefficients) k ≡ list_at y 0 k
      coefficients-at k l = rw (points 0 (omega arith)) (⊎_elim
          (λ (e : P 1 k ≡ P 0 k).
          raised.off k (λ j m q. omega (arith, e, next-run K 0 (omega arith) run.2 k (j, m, q)))
          ∙ D.coefficients_at k l
          ∙ sym e)
          (λ r. (rw r.2 at (raised.on r.0 r.1))
          ∙ ap suc (D.coefficients_at k l)
          ∙ sym (next-run K 0 (omega arith) run.2 k r))
          (next_else K 0 (omega arith) run.2 k))

      zeros-at : (k : ℕ) → k < 16 → bit (cond joins (with_index s.U b) s.U) k ≡ zeros R T (list_at y 0) k
      zeros-at k l = rw (points 0 (omega arith)) (go joins ∙ sym (zeros-next K run.2 k))
        where
          go : (g : Bool) → bit (cond g (with_index s.U b) s.U) k ≡ (eqb k b && g || zeros R T (P 0) k)
          go true = bit_with s.U b k (omega (arith, end_below, ok.has_start.sixteen_indices)) l
              ∙ rw (D.in_u k l) (or_into (eqb k b) _)
          go false = D.in_u k l ∙ or_not (eqb k b) _

      describes : Describes p T (suc n) (first-o K) y (onward joins)
      describes = record {
        chain = beyond.place;
        round = D.round;
        order_length = length-rotate_left s.order ∙ D.order_length;
        order_at = order-at;
        first_length = length-shifted s.first (o 0) b ∙ D.first_length;
        first_at = first-at;
        coefficients_length = raised.size ∙ D.coefficients_length;
        coefficients_at = coefficients-at;
        in_t = D.in_t;
        in_u = zeros-at;
        marks_length = length-rotate_left s.marks ∙ D.marks_length;
      }

      came : Came p T (suc n) y (onward joins) (some x)
      came = through n x refl (omega (arith, D.order_length)) (rule-is joins).0 (rule-is joins).1 marks
          (rw D.order_length beyond.carries) (rw D.order_length beyond.back)
          (λ _ _ l. absurd (omega (arith, D.order_length)))
        where
          rule-is : (t : Bool) → (0 < cond t 2 1) × (cond t 2 1 < 6)
          rule-is true = (omega arith, omega arith)
          rule-is false = (omega arith, omega arith)

          marks : (j : ℕ) → j ≤ suc n → (j ≡ length s.order → ⊥) → at (rotate_left s.marks) j ≡ mark_at p (list_at y j)
          marks j l x =
              let m : j < suc n = omega (arith, x, D.order_length) in
              rotate_left-before 0 s.marks j (omega (arith, D.marks_length)) ∙ L (suc j) (omega arith)
              ∙ ap (mark_at p) (sym (points j m))

      reached : Reached p x (onward joins) y
      reached = record { T = T; t = suc n; o = first-o K; describes = describes; came = came; link = beyond.link }

    -- the facet is an end exactly where b joins U and fills its block
    end_or : (e : Bool) → (joins && is_filled s.round s.T s.U b) ≡ e
        → Left p T n x s 0 (cond e (ends_at_facet s b) (goes (onward joins)))
    end_or true e =
        facet_ends b refl (fill_end D.chain 0 (omega arith) c b
        (filled K run.2 (and_left joins _ e) (filled-yes ok N s.T s.U D.in_t D.in_u b end_below (and_right joins _ e))))
    end_or false e = left_on (y fr, (beyond fr).through, reached fr)
      where
        fr : Free R T (P 1)
        fr =
            ⊎_elim (λ f. f)
            (λ F. let w = filled-only K run.2 F in
            let k = filled-no ok N s.T s.U D.in_t D.in_u b end_below (rw w.0 at e) in
            absurd (w.1 k.0 k.1 k.2 k.3 k.4)) (first_or_lem K)

    pub leave-first : Left p T n x s 0 (leave s 0)
    leave-first = rw leave-is (end_or _ refl)
