-- Points of one simplex are near: from one to another some indices of the order are passed, each once. Assumes nothing.
use mathlib.Core.Bool.{true}
use mathlib.Core.List.{List, []}
use mathlib.Core.Logic.{⊎_elim}
use mathlib.Core.Path.{◌≡◌}
use Prim.Native.Nat.{ℕ, ◌+◌, ◌≤◌, ◌<◌}
use lib.Dec.{eqb}
use lib.ListN.{length}
use native.Mathlib.Omega.{arith}
use Rattle.check_simplices.proofs.Along.{Ordered, ordered_of, ordered_rule, passed, passed_at_most, passed_rises}
use Rattle.check_simplices.proofs.Theorem.{part_on_grid}
use Rattle.check_simplices.specs.Simplices.{InOneSimplex}
use Rattle.combinatorics.proofs.Basics.{before_or_not, true_or_false}
use Rattle.combinatorics.proofs.Lists.{all_in}
use Rattle.combinatorics.specs.Lists.{is_in, occurrences}
use Rattle.geometry.proofs.Points.{nth}
use Rattle.grid_points.proofs.Points.{on_points}
use Rattle.grid_points.specs.Grid.{Grid, Point, at, is_grid_point, next, num_indices, same_point}
use Rattle.path_laws.proofs.Positions.{in_at, never, occurs_once}
use Rattle.place.specs.Places.{Simplex}

-- "Two points of one simplex differ by -1, 0 or 1 at each index"
abbrev pub Near : Grid → Point → Point → Type 0
Near g x y = (h : ℕ) → h < num_indices g → (at x h ≤ at y h + 1) × (at y h ≤ at x h + 1)

-- grid points any two of which are near
pub record NearPoints (g : Grid) (s : Simplex) : Type 0 where
  pub on_grid : (x : Point) → is_in same_point x s ≡ true → is_grid_point g x ≡ true
  pub near : (x y : Point) → is_in same_point x s ≡ true → is_in same_point y s ≡ true → Near g x y

module _ (g : Grid) (o : List ℕ) (s : List Point) (w : Ordered g o s) where
  occurs_one : (k : ℕ) → occurrences k o ≤ 1
  occurs_one k = ⊎_elim (λ t. omega (arith, occurs_once k o w.once t)) (λ f. omega (arith, never k o f))
      (true_or_false (is_in eqb k o))

  once : (i k : ℕ) → passed o i k ≤ 1
  once i k = omega (arith, passed_at_most o i k, occurs_one k)

  -- the j-th point stands behind the i-th
  behind : (i j : ℕ) → i ≤ j → i < length s → j < length s → Near g (nth s i) (nth s j)
  behind i j r a b h l =
      let p = ordered_rule g o s w.steps w.below i a h l in
      let q = ordered_rule g o s w.steps w.below j b h l in
      let u = passed_rises o i j r h in
      let v = passed_rises o i j r (next g h) in
      let x = once j h in
      let y = once j (next g h) in
      (omega arith, omega arith)

  pub ordered_near : (i j : ℕ) → i < length s → j < length s → Near g (nth s i) (nth s j)
  ordered_near i j a b = ⊎_elim (λ (c : i < j). behind i j (omega arith) a b)
      (λ (c : j ≤ i). λ h l. let n = behind j i c b a h l in (n.1, n.0)) (before_or_not i j)

pub near-points : {g : Grid} {s : Simplex} → InOneSimplex g s → NearPoints g s
near-points {g} {s} I = record {
  on_grid = all_in on_points (is_grid_point g) s (part_on_grid I);
  near = λ x y mx my.
      let seat : (z : Point) → is_in same_point z s ≡ true → (a : ℕ) × (a < length I.points) × (nth I.points a ≡ z) =
      λ z m. in_at on_points [] z I.points (all_in on_points (λ z. is_in same_point z I.points) s I.has z m) in
      let a = seat x mx in
      let b = seat y my in
      rw (a.2, b.2) at (ordered_near g I.order I.points (ordered_of g I.order I.points I.simplex) a.0 b.0 a.1 b.1);
}
