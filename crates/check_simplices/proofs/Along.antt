-- Points of one simplex: from the listed point that stands first in it, the points have coefficients 0 and 1, any two
-- lists of them nested. In order: the indices passed on the way to a point; the conditions of a simplex by name; the
-- coefficients of its points; the listed point that stands first. Assumes nothing.
use mathlib.Core.Bool.{Bool, true, false, not, ◌&&◌, cond}
use mathlib.Core.List.{List, [], ◌∷◌}
use mathlib.Core.Logic.{◌⊎◌, inl, inr, ⊎_elim}
use mathlib.Core.Path.{◌≡◌, refl, sym, ap, ◌∙◌}
use Prim.Native.Nat.{ℕ, zero, suc, ◌+◌, ◌≤◌, ◌<◌}
use borrow.Author.Tests.{eqb-true, eq-eqb, not-true}
use lib.Dec.{eqb}
use lib.ListN.{length, take}
use native.Mathlib.Omega.{arith}
use Rattle.combinatorics.proofs.Basics.{absurd_bool, true_or_false, before_or_not, both, and_left, and_right}
use Rattle.combinatorics.proofs.Basics.{false_of}
use Rattle.combinatorics.proofs.Lists.{all_in, in_here, in_later, in_cases, filter_in, distinct_tail, on_numbers}
use Rattle.combinatorics.proofs.Ranges.{in_up_from, up_from_in}
use Rattle.combinatorics.specs.Lists.{filter, all, is_in, distinct, occurrences}
use Rattle.geometry.proofs.LabelledChains.{tabulate}
use Rattle.geometry.proofs.Points.{nth}
use Rattle.grid_points.proofs.Accepted.{InLimits}
use Rattle.grid_points.proofs.Points.{on_points}
use Rattle.grid_points.proofs.Round.{next-previous}
use Rattle.grid_points.specs.Grid.{Grid, Point, at, num_blocks, num_indices, first_index, size, blocks, indices, indices_of}
use Rattle.grid_points.specs.Grid.{next}
use Rattle.grid_points.specs.Grid.{previous}
use Rattle.grid_points.specs.Grid.{is_grid_point, same_point}
use Rattle.place.specs.Places.{within, unit}
use Rattle.path_laws.proofs.BlocksOfGrid.{blocks_of, next_agrees, previous_agrees}
use Rattle.path_laws.proofs.IndexSets.{goes_at}
use Rattle.path_laws.proofs.Meaning.{index_means}
use Rattle.path_laws.proofs.Positions.{at_in, in_at, never, occurs_once}
use Rattle.check_simplices.proofs.Tests.{Below, Nested, coefficients_by, nested_by}
use Rattle.check_simplices.specs.Chains.{starting_at, coefficients_from}
use Rattle.check_simplices.specs.Simplices.{is_step, is_order, each_stepped, is_simplex}

-- the first i indices of an order, as a set
abbrev pub passed : List ℕ → ℕ → ℕ → ℕ
passed o i k = occurrences k (take i o)

occurs_more : (k h : ℕ) (o : List ℕ) → occurrences k (h ∷ o) ≡ unit h k + occurrences k o
occurs_more k h o = ⊎_elim (λ t. rw t (omega arith)) (λ f. rw f (omega arith)) (true_or_false (eqb k h))

pub passed_rises : (o : List ℕ) (i j : ℕ) → i ≤ j → Below (passed o i) (passed o j)
passed_rises o zero j l k = omega arith
passed_rises [] (suc i) j l k = omega arith
passed_rises (h ∷ o) (suc i) zero l k = absurd (omega arith)
passed_rises (h ∷ o) (suc i) (suc j) l k =
    omega (arith, occurs_more k h (take i o), occurs_more k h (take j o), passed_rises o i j (omega arith) k)

pub passed_at_most : (o : List ℕ) (i : ℕ) (k : ℕ) → passed o i k ≤ occurrences k o
passed_at_most o zero k = omega arith
passed_at_most [] (suc i) k = omega arith
passed_at_most (h ∷ o) (suc i) k = omega (arith, occurs_more k h (take i o), occurs_more k h o, passed_at_most o i k)

occurs_one : (o : List ℕ) → distinct eqb o ≡ true → (k : ℕ) → occurrences k o ≤ 1
occurs_one o d k =
    ⊎_elim (λ t. omega (arith, occurs_once k o d t)) (λ f. omega (arith, never k o f)) (true_or_false (is_in eqb k o))

-- the conditions of a simplex by name, which hold from each of its points on
pub record Ordered (g : Grid) (o : List ℕ) (s : List Point) : Type 0 where
  pub steps : each_stepped g o s ≡ true
  pub on_grid : all (is_grid_point g) s ≡ true
  pub once : distinct eqb o ≡ true
  pub below : (h : ℕ) → is_in eqb h o ≡ true → h < num_indices g
  pub leaves : (j : ℕ) → j < num_blocks g
      → (f : ℕ) × (first_index g j ≤ f) × (f < first_index g j + size g j) × (is_in eqb f o ≡ false)

module _ (g : Grid) where
  pub ordered_of : (o : List ℕ) (s : List Point) → is_simplex g o s ≡ true → Ordered g o s
  unfolding is_simplex is_order
  ordered_of o s h =
      let on : Bool = all (is_grid_point g) s in
      let left : ℕ → Bool = λ j. eqb (length (filter (λ h. not (is_in eqb h o)) (indices_of g j))) 1 in
      let a : Bool = within o (indices g) in
      let b : Bool = distinct eqb o in
      let c : Bool = all left (blocks g) in
      let k : ((a && b && c) && each_stepped g o s) ≡ true = and_left _ on h in
      let order : (a && b && c) ≡ true = and_left (a && b && c) (each_stepped g o s) k in
      let ab : (a && b) ≡ true = and_left (a && b) c order in
      record {
        steps = and_right (a && b && c) (each_stepped g o s) k;
        on_grid = and_right ((a && b && c) && each_stepped g o s) on h;
        once = and_right a b ab;
        below = λ h m. (index_means g h).0 (all_in on_numbers (λ h. is_in eqb h (indices g)) o (and_left a b ab) h m);
        leaves = λ j l.
            let f = one_in (filter (λ h. not (is_in eqb h o)) (indices_of g j))
            (eqb-true _ 1 (all_in on_numbers left (blocks g) (and_right (a && b) c order) j
            (in_up_from 0 (num_blocks g) j (omega arith) (omega arith)))) in
            let i = filter_in on_numbers (λ h. not (is_in eqb h o)) f.0 (indices_of g j) f.1 in
            let r = up_from_in (first_index g j) (size g j) f.0 i.0 in
            (f.0, r.0, r.1, not-true _ i.1);
      }
    where
      one_in : (xs : List ℕ) → length xs ≡ 1 → (x : ℕ) × (is_in eqb x xs ≡ true)
      one_in [] e = absurd (omega arith)
      one_in (x ∷ xs) e = (x, in_here on_numbers x xs)

  -- the index before
  pub around : (h k : ℕ) → h < num_indices g → k < num_indices g → unit h (next g k) ≡ unit (previous g h) k
  around h k lh lk = ap (λ (b : Bool). cond b 1 0)
      (both (eqb (next g k) h) (eqb k (previous g h))
      (λ e.
      let R = blocks_of (starting_at g []) in
      eq-eqb k (previous g h)
      (sym (R.previous-next k)
      ∙ ap R.previous (next_agrees (starting_at g []) k lk ∙ eqb-true (next g k) h e)
      ∙ previous_agrees (starting_at g []) h lh))
      (λ e. eq-eqb (next g k) h (ap (next g) (eqb-true k (previous g h) e) ∙ (next-previous g h lh).0)))

  -- from the first point to the i-th go the first i indices
  pub ordered_rule : (o : List ℕ) (s : List Point) → each_stepped g o s ≡ true
      → ((h : ℕ) → is_in eqb h o ≡ true → h < num_indices g) → (i : ℕ) → i < length s → (k : ℕ) → k < num_indices g
      → at (nth s i) k + passed o i (next g k) ≡ at (nth s 0) k + passed o i k
  ordered_rule [] [] e b i l k x = absurd (omega arith)
  ordered_rule [] (y ∷ []) e b zero l k x = refl
  ordered_rule [] (y ∷ []) e b (suc i) l k x = absurd (omega arith)
  ordered_rule [] (y ∷ z ∷ s) e b i l k x = absurd_bool (sym e)
  ordered_rule (h ∷ o) [] e b i l k x = absurd (omega arith)
  ordered_rule (h ∷ o) (y ∷ []) e b i l k x = absurd_bool (sym e)
  ordered_rule (h ∷ o) (y ∷ z ∷ s) e b zero l k x = refl
  ordered_rule (h ∷ o) (y ∷ z ∷ s) e b (suc i) l k x =
      let ih : at (nth (z ∷ s) i) k + passed o i (next g k) ≡ at z k + passed o i k = ordered_rule o (z ∷ s)
      (and_right (is_step g h y z) _ e) (λ a m. b a (in_later on_numbers a h o m)) i (omega arith) k x in
      omega (
        arith,
        goes_at g h (previous g h) y z (and_left (is_step g h y z) _ e) k x,
        around h k (b h (in_here on_numbers h o)) x,
        occurs_more k h (take i o),
        occurs_more (next g k) h (take i o),
      )

module _ {g : Grid} (A : InLimits g) {o : List ℕ} {s : List Point} (w : Ordered g o s) (some : 0 < length s) where
  pub on_ordered : (i : ℕ) → i < length s → is_grid_point g (nth s i) ≡ true
  on_ordered i l = all_in on_points (is_grid_point g) s w.on_grid (nth s i) (at_in on_points [] s i l)

  -- so these are its coefficients, with the first point as the start
  pub ordered_coefficients : (i : ℕ) → i < length s
      → coefficients_from g (nth s 0) (nth s i) ≡ tabulate (num_indices g) (passed o i)
  ordered_coefficients i l =
      coefficients_by A (nth s 0) (nth s i) (on_ordered 0 some) (on_ordered i l) (passed o i)
      (λ j x. let f = w.leaves j x in (f.0, f.1, f.2, omega (arith, passed_at_most o i f.0, never f.0 o f.3)))
      (ordered_rule g o s w.steps w.below i l)

  -- of points of the simplex any two are nested: the first indices of one order
  pub ordered_nested : (zs : List Point) → ((z : Point) → is_in same_point z zs ≡ true → is_in same_point z s ≡ true)
      → Nested g zs (nth s 0)
  ordered_nested zs has = nested_by zs (nth s 0)
      (λ i l. passed o (seat i l).0)
      (λ i l. let a = seat i l in rw a.2 at (ordered_coefficients a.0 a.1))
      (λ i l k. omega (arith, passed_at_most o (seat i l).0 k, occurs_one o w.once k))
      (λ i j l m.
      let a = (seat i l).0 in
      let b = (seat j m).0 in
      ⊎_elim
      (λ (x : a < b). inl (passed_rises o a b (omega arith)))
      (λ (x : b ≤ a). inr (passed_rises o b a x))
      (before_or_not a b))
    where
      seat : (i : ℕ) → i < length zs → (a : ℕ) × (a < length s) × (nth s a ≡ nth zs i)
      seat i l = in_at on_points [] (nth zs i) s (has (nth zs i) (at_in on_points [] zs i l))

-- the listed point that stands first in the simplex, and the simplex from there on
pub record FromFirst (g : Grid) (zs : List Point) : Type 0 where
  pub order : List ℕ
  pub points : List Point
  pub ordered : Ordered g order points
  pub some : 0 < length points
  pub first : is_in same_point (nth points 0) zs ≡ true
  pub has : (z : Point) → is_in same_point z zs ≡ true → is_in same_point z points ≡ true

module _ (g : Grid) (zs : List Point) (z0 : Point) (m0 : is_in same_point z0 zs ≡ true) where
  pub from_first : (o : List ℕ) (s : List Point) → Ordered g o s
      → ((z : Point) → is_in same_point z zs ≡ true → is_in same_point z s ≡ true) → FromFirst g zs
  from_first o [] w h = absurd_bool (sym (h z0 m0))
  from_first [] (y ∷ []) w h = record {
    order = [];
    points = y ∷ [];
    ordered = w;
    some = omega arith;
    has = h;
    first = ⊎_elim (λ e. rw e at m0) (λ n. absurd_bool (sym n)) (in_cases on_points z0 y [] (h z0 m0));
  }
  from_first [] (y ∷ z ∷ s) w h = absurd_bool (sym w.steps)
  from_first (a ∷ o) (y ∷ []) w h = absurd_bool (sym w.steps)
  from_first (a ∷ o) (y ∷ z ∷ s) w h = go (true_or_false (is_in same_point y zs)) (from_first o (z ∷ s) rest)
    where
      rest : Ordered g o (z ∷ s)
      rest = record {
        steps = and_right (is_step g a y z) _ w.steps;
        on_grid = and_right (is_grid_point g y) (all (is_grid_point g) (z ∷ s)) w.on_grid;
        once = distinct_tail eqb a o w.once;
        below = λ h m. w.below h (in_later on_numbers h a o m);
        leaves = λ j l. let f = w.leaves j l in
            (f.0, f.1, f.2, false_of _ (λ m. absurd_bool (sym (in_later on_numbers f.0 a o m) ∙ f.3)));
      }

      go : (is_in same_point y zs ≡ true) ⊎ (is_in same_point y zs ≡ false)
          → (((z' : Point) → is_in same_point z' zs ≡ true → is_in same_point z' (z ∷ s) ≡ true) → FromFirst g zs)
          → FromFirst g zs
      go (inl t) r = record { order = a ∷ o; points = y ∷ z ∷ s; ordered = w; some = omega arith; first = t; has = h }
      go (inr f) r =
          r (λ x m. ⊎_elim (λ e. absurd_bool (sym m ∙ (rw e f))) (λ n. n) (in_cases on_points x y (z ∷ s) (h x m)))
