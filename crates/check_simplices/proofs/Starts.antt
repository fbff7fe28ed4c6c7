-- "one simplex of the paper's Q triangulation for some start": the simplices of the request are the places of document
-- 01, labels apart, of n + 1 points for the start that is their first point; so points lie in one simplex exactly if
-- they are part of a place, labels apart, for some start. Assumes nothing.
use mathlib.Core.Bool.{Bool, true, false, not}
use mathlib.Core.List.{List, [], ◌∷◌}
use mathlib.Core.Logic.{◌↔◌, ⊎_elim}
use mathlib.Core.Path.{◌≡◌, refl, sym, ap, ◌∙◌}
use Prim.Native.Nat.{ℕ, zero, suc, ◌+◌, ◌-◌, ◌≤◌, ◌<◌}
use borrow.Author.Tests.{eq-eqb, ne_eqb, le-leb}
use lib.Dec.{eqb}
use lib.ListN.{length, length-map}
use native.Mathlib.Omega.{arith}
use Rattle.combinatorics.proofs.Basics.{true_or_false, before_or_not, and_both, and_left, false_of}
use Rattle.combinatorics.proofs.Lists.{all_in, in_filter, only_member, on_numbers}
use Rattle.combinatorics.proofs.Ranges.{in_up_from}
use Rattle.combinatorics.specs.Lists.{filter, all, is_in, distinct, occurrences}
use Rattle.geometry.proofs.Definitions.{Chain}
use Rattle.geometry.proofs.LabelledChains.{LabelledChain}
use Rattle.geometry.proofs.Links.{chain_ext}
use Rattle.geometry.proofs.Onward.{get_d_tabulate}
use Rattle.geometry.proofs.Points.{nth, list_at-map}
use Rattle.grid_points.proofs.Accepted.{InLimits, size-from-two}
use Rattle.grid_points.proofs.Points.{on_points}
use Rattle.grid_points.proofs.Round.{seat, next-at, next-round, block-fits}
use Rattle.grid_points.specs.Grid.{Grid, Point, at, num_blocks, num_indices, first_index, size, indices_of, next}
use Rattle.grid_points.specs.Grid.{is_grid_point}
use Rattle.grid_points.specs.Grid.{same_point}
use Rattle.place.specs.Coefficients.{coefficients}
use Rattle.place.specs.Places.{is_place, is_unlabelled_place, set_t, unit}
use Rattle.place.specs.Problem.{Problem, label}
use Rattle.path_laws.proofs.BlocksOfGrid.{blocks_of, coefficient_of, start-inside, start_outside, block_agrees, beyond}
use Rattle.path_laws.proofs.BlocksOfGrid.{on_ring, has_zeros}
use Rattle.path_laws.proofs.BlocksOfGrid.{coefficient_of_is, point_coefficient_of}
use Rattle.path_laws.proofs.FromChain.{place_of}
use Rattle.path_laws.proofs.Positions.{at_in, in_at, same_at, at-distinct, never, occurs_once}
use Rattle.path_laws.proofs.ToChain.{coefficients_of, points_of, label_of, index_of, index_is, points_of_coefficients_of}
use Rattle.path_laws.specs.Demand.{HasStart}
use Rattle.check_simplices.proofs.Along.{passed, passed_rises, passed_at_most, Ordered, ordered_of, ordered_rule}
use Rattle.check_simplices.proofs.Along.{on_ordered}
use Rattle.check_simplices.proofs.Along.{ordered_coefficients}
use Rattle.check_simplices.proofs.Places.{unlabelled_in_simplex}
use Rattle.check_simplices.proofs.Relabelled.{relabelled, label-at}
use Rattle.check_simplices.proofs.Search.{left_one, steps-long}
use Rattle.check_simplices.proofs.Tests.{has-start, has-start_with}
use Rattle.check_simplices.proofs.Theorem.{part_in}
use Rattle.check_simplices.specs.Chains.{starting_at}
use Rattle.check_simplices.specs.Simplices.{is_simplex, InOneSimplex}

-- one index more
passed_next : (o : List ℕ) (j k : ℕ) → j < length o → passed o (suc j) k ≡ passed o j k + unit (at o j) k
passed_next [] j k l = absurd (omega arith)
passed_next (h ∷ o) zero k l = ⊎_elim (λ t. rw t (omega arith)) (λ f. rw f (omega arith)) (true_or_false (eqb k h))
passed_next (h ∷ o) (suc j) k l =
    let i : passed o (suc j) k ≡ passed o j k + unit (at o j) k = passed_next o j k (omega arith) in
    ⊎_elim (λ t. rw t (omega arith)) (λ f. rw f (omega arith)) (true_or_false (eqb k h))

passed_all : (o : List ℕ) (k : ℕ) → passed o (length o) k ≡ occurrences k o
passed_all [] k = refl
passed_all (h ∷ o) k = let i = passed_all o k in ⊎_elim (λ t. rw t (ap suc i)) (λ f. rw f i) (true_or_false (eqb k h))

module _ {g : Grid} (A : InLimits g) (o : List ℕ) (s : List Point) (h : is_simplex g o s ≡ true) where
  w : Ordered g o s
  w = ordered_of g o s h

  long : length s ≡ suc (length o)
  long = steps-long g o s w.steps

  some : 0 < length s
  some = omega (arith, long)

  abbrev Q : Problem
  Q = starting_at g (nth s 0)

  abbrev c : ℕ → ℕ → ℕ
  c j = coefficient_of Q (nth s j)

  ok : HasStart Q
  ok = has-start g A (nth s 0) (on_ordered A w some 0 some)

  c_is : (j : ℕ) → j < length s → (k : ℕ) → k < num_indices g → c j k ≡ passed o j k
  c_is j l k x =
      ap (λ (l : List ℕ). at l k) (ordered_coefficients A w some j l) ∙ get_d_tabulate 0 (num_indices g) (passed o j) k x

  -- outside the order every coefficient is 0
  c_out : (j : ℕ) → j < length s → (k : ℕ) → is_in eqb k o ≡ false → c j k ≡ 0
  c_out j l k f = ⊎_elim
      (λ (x : k < num_indices g). omega (arith, c_is j l k x, passed_at_most o j k, never k o f))
      (λ (x : num_indices g ≤ k). beyond Q (coefficient_of_is ok (nth s j) (on_ordered A w some j l)) k x)
      (before_or_not k (num_indices g))

  c_next : (j : ℕ) → suc j < length s → (k : ℕ) → k < num_indices g → c (suc j) k ≡ c j k + unit (at o j) k
  c_next j l k x = omega (arith, c_is (suc j) l k x, c_is j (omega arith) k x, passed_next o j k (omega (arith, long)))

  below_at : (j : ℕ) → j < length o → at o j < num_indices g
  below_at j l = w.below (at o j) (at_in on_numbers 0 o j l)

  raised : (j : ℕ) → j < length o → c (suc j) (at o j) ≡ suc (c j (at o j))
  raised j l =
      let u : unit (at o j) (at o j) ≡ 1 = rw (eq-eqb (at o j) (at o j) refl) in
      omega (arith, c_next j (omega (arith, long)) (at o j) (below_at j l))

  points-distinct : distinct same_point s ≡ true
  points-distinct = at-distinct on_points [] s
      (λ i j l m e. ⊎_elim
      (λ (x : i < j). absurd (differ i j x m e))
      (λ (x : j ≤ i). ⊎_elim (λ (y : j < i). absurd (differ j i y l (sym e))) (λ y. omega arith) (before_or_not j i))
      (before_or_not i j))
    where
      differ : (i j : ℕ) → i < j → j < length s → nth s i ≡ nth s j → ⊥
      differ i j x m e =
          let l : i < length o = omega (arith, long) in
          let k = at o i in
          let kl = below_at i l in
          let r : passed o (suc i) k ≤ passed o j k = passed_rises o (suc i) j x k in
          omega (
            arith,
            raised i l,
            c_is (suc i) (omega arith) k kl,
            c_is j m k kl,
            r,
            ap (λ (y : Point). coefficient_of Q y k) e,
          )

  -- the next index is another one of the block
  next_seat : (j i : ℕ) → i < size g j → (first_index g j ≤ next g (first_index g j + i)) ×
      (next g (first_index g j + i) < first_index g j + size g j)
      × (2 ≤ size g j → first_index g j + i ≡ next g (first_index g j + i) → ⊥)
  next_seat j i l =
      ⊎_elim (λ (m : suc i < size g j). rw (next-at g j i m) (omega arith, omega arith, (λ a b. omega arith)))
      (λ (m : size g j ≤ suc i). rw (next-round g j i (omega arith)) (omega arith, omega arith, (λ a b. omega arith)))
      (before_or_not (suc i) (size g j))

  -- so the order has the next of an index left out
  next_in_lem : (j i : ℕ) → j < num_blocks g → i < size g j → is_in eqb (first_index g j + i) o ≡ false → is_in eqb
      (next g (first_index g j + i)) o ≡ true
  next_in_lem j i b l e =
      let f : ℕ = first_index g j + i in
      let q : ℕ → Bool = λ k. not (is_in eqb k o) in
      let z = next_seat j i l in
      ⊎_elim
      (λ t. t)
      (λ (n : is_in eqb (next g f) o ≡ false).
      let here : is_in eqb f (filter q (indices_of g j)) ≡ true = in_filter on_numbers q f (indices_of g j)
      (in_up_from (first_index g j) (size g j) f (omega arith) (omega arith)) (rw e) in
      let there : is_in eqb (next g f) (filter q (indices_of g j)) ≡ true = in_filter on_numbers q (next g f)
      (indices_of g j) (in_up_from (first_index g j) (size g j) (next g f) z.0 z.1) (rw n) in
      absurd (z.2 (size-from-two g A j b)
      (only_member on_numbers f (next g f) (filter q (indices_of g j)) (omega (arith, left_one g o s h j b)) here there)))
      (true_or_false (is_in eqb (next g f) o))

  -- an index left out has a positive coordinate at the first point: it gives 1 at the step of the next index, and never
  -- gets any
  left-positive : (f : ℕ) → f < num_indices g → is_in eqb f o ≡ false → 0 < at (nth s 0) f
  left-positive f x e =
      let b = seat g f x in
      let m : is_in eqb (next g f) o ≡ true = ap (λ (k : ℕ). is_in eqb (next g k) o) b.is
      ∙ next_in_lem b.j b.i b.block b.inside (ap (λ (k : ℕ). is_in eqb k o) (sym b.is) ∙ e) in
      omega (
        arith,
        ordered_rule g o s w.steps w.below (length o) (omega (arith, long)) f x,
        passed_all o (next g f),
        passed_all o f,
        never f o e,
        occurs_once (next g f) o w.once m,
      )

  c_first : (k : ℕ) → c 0 k ≡ 0
  c_first k = ⊎_elim
      (λ (x : k < num_indices g). c_is 0 some k x)
      (λ (x : num_indices g ≤ k). beyond Q (coefficient_of_is ok (nth s 0) (on_ordered A w some 0 some)) k x)
      (before_or_not k (num_indices g))

  chain : Chain (blocks_of Q) (λ k. is_in eqb k o) (length o) c (at o)
  chain =
      let R = blocks_of Q in
      let is : (j : ℕ) → j < length s → _ = λ j l. coefficient_of_is ok (nth s j) (on_ordered A w some j l) in
      record {
        tight = λ j l k f.
            let m : j < length s = omega (arith, long) in
            omega (arith, c_out j m k f, on_ring Q (is j m) k);
        grid = λ j l. on_ring Q (is j (omega (arith, long)));
        has_zeros = λ j l. has_zeros Q (is j (omega (arith, long)));
        step = λ j l. record {
          raised = raised j l;
          unchanged = λ k t n.
              let u : unit (at o j) k ≡ 0 = rw (ne_eqb k (at o j) n) in
              omega (arith, c_next j (omega (arith, long)) k (w.below k t));
        };
        order = record {
          within = λ j l. at_in on_numbers 0 o j l;
          once = λ i j l m e. same_at on_numbers 0 o w.once i j l m e;
          all = λ k t. in_at on_numbers 0 k o t;
        };
        free = λ a. ⊎_elim
            (λ (x : a < num_indices g).
            let b = seat g a x in
            let f = w.leaves b.j b.block in
            let fx : f.0 < num_indices g = omega (arith, f.2, block-fits g.sizes b.j) in
            let e : f.0 ≡ first_index g b.j + (f.0 - first_index g b.j) = omega (arith, f.1) in (
              f.0,
              ap R.block e
                  ∙ block_agrees Q b.j (f.0 - first_index g b.j) (omega (arith, f.1, f.2))
                  ∙ sym (ap R.block b.is ∙ block_agrees Q b.j b.i b.inside),
              f.3,
              omega (arith, c_first (R.next f.0), start-inside Q f.0 fx, left-positive f.0 fx f.3),
            ))
            (λ (x : num_indices g ≤ a).
            let out : is_in eqb a o ≡ false = false_of _ (λ t. absurd (omega (arith, w.below a t))) in
            (a, refl, out, omega (arith, c_first (R.next a), start_outside Q a x)))
            (before_or_not a (num_indices g));
      }

  -- with labels that say the order it is a place
  labelled : LabelledChain (blocks_of (relabelled g (nth s 0) o s)) (label_of (relabelled g (nth s 0) o s))
      (λ k. is_in eqb k o) (length o) (at o) (coefficients_of Q s)
  labelled = record {
    size = length-map s (coefficient_of Q) ∙ long;
    chain = chain_ext (λ j l. sym (list_at-map (coefficient_of Q) s j (omega (arith, long)))) chain;
    covers = λ k t.
        let P = relabelled g (nth s 0) o s in
        let m = num_indices g in
        let i = in_at on_numbers 0 k o t in
        let l : i.0 < length s = omega (arith, i.1, long) in
        let x : at o i.0 < m = below_at i.0 i.1 in
        let n : suc (index_of m (suc (at o i.0))) ≡ suc (at o i.0) = (index_is m (suc (at o i.0))
        (and_both _ _ (le-leb 1 (suc (at o i.0)) (omega arith)) (le-leb (suc (at o i.0)) m x))).0 in (
          i.0,
          omega (arith, i.1),
          ap (label_of P) (list_at-map (coefficient_of Q) s i.0 l)
              ∙ ap (λ (y : Point). index_of m (label P y))
              (point_coefficient_of ok (nth s i.0) (on_ordered A w some i.0 l))
              ∙ ap (index_of m) (label-at A (nth s 0) o s w.on_grid points-distinct i.0 l)
              ∙ omega (arith, n, i.2),
        );
  }

  pub simplex-place : is_unlabelled_place Q s ≡ true
  unfolding is_place is_unlabelled_place set_t coefficients
  simplex-place =
      let P = relabelled g (nth s 0) o s in
      let e : points_of Q (coefficients_of Q s) ≡ s = points_of_coefficients_of ok s w.on_grid in
      and_left _ _ (rw e at (place_of (has-start_with g A (nth s 0) (on_ordered A w some 0 some) P.labels) labelled))

-- points lie in one simplex exactly if they are part of a place, labels apart, for some start
pub for_some_start : {g : Grid} → InLimits g → (zs : List Point) → InOneSimplex g zs ↔
    ((v : Point) × (s : List Point) × (is_grid_point g v ≡ true)
    × (is_unlabelled_place (starting_at g v) s ≡ true) × (all (λ z. is_in same_point z s) zs ≡ true))
for_some_start {g} A zs = (
  (λ I. (
    nth I.points 0,
    I.points,
    on_ordered A (ordered_of g I.order I.points I.simplex) (some A I.order I.points I.simplex) 0
        (some A I.order I.points I.simplex),
    simplex-place A I.order I.points I.simplex,
    I.has,
  )),
  (λ f. part_in zs (all_in on_points (λ z. is_in same_point z f.1) zs f.4)
      (unlabelled_in_simplex (has-start g A f.0 f.2) f.1 f.3)),
)
