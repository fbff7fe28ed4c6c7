-- A lent state describes its place over the table with each gap filled. In order: the place over that table; the state;
-- the place that a state keeps. Assumes nothing.
use mathlib.Core.Bool.{Bool, true}
use mathlib.Core.List.{List, [], ◌∷◌}
use mathlib.Core.Logic.{⊎_elim}
use mathlib.Core.Path.{◌≡◌, refl, sym, ap, ◌∙◌, subst}
use Prim.Native.Nat.{ℕ, ◌≤◌, ◌<◌}
use borrow.Author.Tests.{eqb-true, eq-eqb}
use lib.Dec.{eqb}
use lib.ListN.{length, take}
use lib.Seq.{ext_get_or}
use native.Mathlib.Omega.{arith}
use Rattle.combinatorics.proofs.Basics.{absurd_bool, and_both, and_left, and_right, before_or_not, both, same_or}
use Rattle.combinatorics.proofs.Basics.{true_or_false}
use Rattle.combinatorics.proofs.Lists.{all_in, in_all, on_numbers}
use Rattle.combinatorics.specs.Lists.{first_or, is_in}
use Rattle.geometry.proofs.Definitions.{Chain, Step, coord, zeros}
use Rattle.geometry.proofs.LabelledChains.{LabelledChain, list_at}
use Rattle.geometry.proofs.Points.{nth, list_at-map}
use Rattle.grid_points.proofs.Points.{on_points}
use Rattle.grid_points.specs.Grid.{Point, at, is_grid_point, num_indices}
use Rattle.place.specs.Coefficients.{IsCoefficients, coefficients}
use Rattle.place.specs.Places.{Simplex, is_place, label_set, order, within}
use Rattle.place.specs.Problem.{Problem}
use Rattle.path_laws.proofs.Accepted.{accepted-table}
use Rattle.path_laws.proofs.BlocksOfGrid.{blocks_of, coefficient_of, coefficient_of_is, coord_in, coord_out}
use Rattle.path_laws.proofs.Filled.{FullyLabelled, filled_table, filled_full, filled-label}
use Rattle.path_laws.proofs.FromChain.{T-is, back-again, long, place_of}
use Rattle.path_laws.proofs.Meaning.{labels_mean}
use Rattle.path_laws.proofs.LinkSymmetry.{parts}
use Rattle.path_laws.proofs.Positions.{at_in, in_at}
use Rattle.path_laws.proofs.ToChain.{coefficients_of, in_t, label_of, labelled_chain_of, place-long, points_of}
use Rattle.path_laws.proofs.ToChain.{points_of_coefficients_of}
use Rattle.path_laws.specs.Demand.{Accepted}
use Rattle.rules.proofs.Describes.{AllMarks, Describes}
use Rattle.rules.proofs.Marks.{mark-is}
use Rattle.rules.proofs.StatePoints.{point-is}
use Rattle.rules.specs.Read.{mark_of, point_after}
use Rattle.rules.specs.Moves.{State}
use Rattle.walks.proofs.KeptForm.{order_is}
use Rattle.walks.proofs.KeptPlace.{is_zero, zero_is}
use Rattle.walks.proofs.Recognised.{kept_every, recognised}
use Rattle.walks.specs.Kept.{is_kept, kept_points, zero_outside}
use Rattle.walk_ways.specs.Lent.{LentPlace, kept_by}

module _ {p : Problem} (ok : Accepted p) (y : Point) (o : List ℕ)
    (place : is_place p (kept_points p.grid y o) ≡ true) where
  abbrev q : Problem
  q = filled_table p

  abbrev s : Simplex
  s = kept_points p.grid y o

  pub full : FullyLabelled q
  full = filled_full (accepted-table ok)

  same_kept : is_kept q y o ≡ is_kept p y o
  unfolding is_kept coefficients
  same_kept = refl

  pub place-filled : is_place q s ≡ true
  place-filled =
      let r = sym (recognised ok.has_start y o) ∙ place in
      let a : Bool = is_kept p y o in let b : Bool = within o (label_set p s) in
      recognised full.has_start y o ∙ and_both _ _ (same_kept ∙ and_left a b r) (in_all on_numbers _ o (λ k m.
      let w = (labels_mean p s k).0 (all_in on_numbers (λ h. is_in eqb h (label_set p s)) o (and_right a b r) k m) in
      (labels_mean q s k).1
      (w.0, (w.1.0, w.1.1, filled-label (accepted-table ok) w.1.0 (omega (arith, w.1.2)) ∙ w.1.2))))

  pub order_same : order q.grid s ≡ o
  order_same = order_is p y o place

  pub chain : LabelledChain (blocks_of q) (label_of q) (in_t q s) (length o) (at o) (coefficients_of q s)
  chain = subst
      (λ (r : List ℕ). LabelledChain (blocks_of q) (label_of q) (in_t q s) (length r) (at r) (coefficients_of q s))
      order_same (labelled_chain_of full.has_start s place-filled)

  first-is : nth s 0 ≡ y
  first-is = go o
    where
      go : (r : List ℕ) → nth (kept_points p.grid y r) 0 ≡ y
      go [] = refl
      go (h ∷ r) = refl

  some-points : 0 < length s
  some-points = omega (arith, place-long full.has_start s place-filled)

  first-list : list_at (coefficients_of q s) 0 ≡ coefficient_of q y
  first-list = list_at-map (coefficient_of q) s 0 some-points ∙ ap (coefficient_of q) first-is

  on-grid : is_grid_point q.grid y ≡ true
  on-grid = rw (← first-is) (all_in on_points (is_grid_point q.grid) s (parts q s place-filled).grid_points (nth s 0)
      (at_in on_points [] s 0 some-points))

  is : IsCoefficients q y (coefficients q y)
  is = coefficient_of_is full.has_start y on-grid

  pub T-same : (k : ℕ) → in_t q s k ≡ is_in eqb k o
  T-same k = both (in_t q s k) (is_in eqb k o)
      (λ e. let w = chain.chain.order.all k e in rw w.2 at (at_in on_numbers 0 o w.0 w.1))
      (λ e. let w = in_at on_numbers 0 k o e in rw w.2 at (chain.chain.order.within w.0 w.1))

  U-first : (k : ℕ) → is_in eqb k (zero_outside p.grid o y) ≡ zeros (blocks_of q) (in_t q s) (coefficient_of q y) k
  unfolding zeros
  U-first k = both (is_in eqb k (zero_outside p.grid o y)) (zeros (blocks_of q) (in_t q s) (coefficient_of q y) k)
      (λ e. let w = zero_is p o y k e in rw (T-same k ∙ w.2) (eq-eqb _ 0 (coord_in q is k w.0 ∙ w.1)))
      (λ e. ⊎_elim
      (λ t. absurd_bool (sym (rw t at e)))
      (λ f.
      let z : coord (blocks_of q) (coefficient_of q y) k ≡ 0 = eqb-true _ 0 (rw f at e) in
      ⊎_elim
      (λ (m : k < num_indices p.grid). is_zero p o y k m (sym (coord_in q is k m) ∙ z) (sym (T-same k) ∙ f))
      (λ (m : num_indices p.grid ≤ k). absurd (omega (arith, z, coord_out q is k m)))
      (before_or_not k (num_indices p.grid)))
      (true_or_false (in_t q s k)))

  U-same : (k : ℕ)
      → is_in eqb k (zero_outside p.grid o y) ≡ zeros (blocks_of q) (in_t q s) (list_at (coefficients_of q s) 0) k
  U-same k = U-first k ∙ ap (λ (c : ℕ → ℕ). zeros (blocks_of q) (in_t q s) c k) (sym first-list)

  module _ (S : State) (L : LentPlace p q y o S) where
    pub describes : Describes q (in_t q s) (length o) (at o) (coefficients_of q s) S
    unfolding coefficients
    describes = record {
      chain = chain;
      round = L.round;
      order_length = ap length L.order_is;
      order_at = λ j l. ap (λ (r : List ℕ). at r j) L.order_is;
      first_length = L.first_long;
      first_at = λ k l. L.first_at k l ∙ sym (coord_in q is k l) ∙ ap (λ (c : ℕ → ℕ). coord_at c k) (sym first-list);
      coefficients_length = L.list_long;
      coefficients_at = λ k l. L.list_at k l ∙ ap (λ (c : ℕ → ℕ). c k) (sym first-list);
      in_t = λ k l. L.in_t k l ∙ sym (T-same k);
      in_u = λ k l. L.in_u k l ∙ U-same k;
      marks_length = L.marks_long;
    }
      where
        coord_at : (ℕ → ℕ) → ℕ → ℕ
        coord_at c k = coord (blocks_of q) c k

    pub marks : AllMarks q (length o) (coefficients_of q s) S
    marks j l = L.marked j l
        ∙ ap (λ (z : Simplex). mark_of q (nth z j))
        (sym (points_of_coefficients_of full.has_start s (parts q s place-filled).grid_points))
        ∙ sym (mark-is full chain j l)

-- a step of a chain is at one index
same_step : {T : ℕ → Bool} {h k : ℕ} {c d : ℕ → ℕ} → Step T h c d → Step T k c d → T k ≡ true → h ≡ k
same_step {T} {h} {k} A B t = ⊎_elim
    (λ (e : h ≡ k). e)
    (λ (n : h ≡ k → ⊥). absurd (omega (arith, A.unchanged k t (λ e. n (sym e)), B.raised)))
    (same_or h k)

-- the place that a state describes is the one that it keeps
module _ {q : Problem} (full : FullyLabelled q) {T : ℕ → Bool} {t : ℕ} {o : ℕ → ℕ} {x : List (ℕ → ℕ)} {S : State}
    (D : Describes q T t o x S) where
  abbrev points : Simplex
  points = points_of q x

  described_place : is_place q points ≡ true
  described_place = place_of full.has_start D.chain

  long_order : length (order q.grid points) ≡ t
  long_order = omega (arith, place-long full.has_start points described_place, long full.has_start D.chain)

  own-chain : Chain (blocks_of q) T t (list_at x) (at (order q.grid points))
  own-chain = subst
      (λ (n : ℕ). Chain (blocks_of q) T n (list_at x) (at (order q.grid points)))
      long_order
      (rw (back-again full.has_start D.chain)
      at (rw (T-is full.has_start D.chain) at (labelled_chain_of full.has_start points described_place).chain))

  pub order_described : order q.grid points ≡ S.order
  order_described = ext_get_or 0 (order q.grid points) S.order (long_order ∙ sym D.order_length) (λ j l.
      let jl : j < t = omega (arith, long_order) in
      same_step (own-chain.step j jl) (D.chain.chain.step j jl) (D.chain.chain.order.within j jl)
      ∙ sym (D.order_at j jl))

  first_of : (l : Simplex) → nth l 0 ≡ first_or [] l
  first_of [] = refl
  first_of (z ∷ l) = refl

  first_described : take (num_indices q.grid) S.first ≡ first_or [] points
  unfolding point_after
  first_described = point-is full D 0 (omega arith) ∙ first_of points

  pub kept_described : kept_by q S ≡ points
  kept_described = rw (first_described, ← order_described) (kept_every full.has_start points described_place)
