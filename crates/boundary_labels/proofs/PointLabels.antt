-- The new label of a point: on the boundary its index has a 0 behind a positive number and is the first such, in the
-- interior it is the old one; and where it stands in the table. Assumes nothing.
use mathlib.Core.Bool.{Bool, true, false, cond}
use mathlib.Core.List.{List, [], ◌∷◌}
use mathlib.Core.Logic.{⊎_elim}
use mathlib.Core.Path.{◌≡◌, refl, sym, ap, ◌∙◌}
use Prim.Native.Nat.{ℕ, zero, suc, ◌+◌, ◌≤◌, ◌<◌}
use borrow.Author.Tests.{ltb-true, lt-ltb}
use lib.Dec.{eqb, ltb}
use lib.ListN.{length, get_or, length-map}
use native.Mathlib.Omega.{arith}
use Rattle.combinatorics.proofs.Basics.{absurd_bool, and_both, before_or_not, false_of, true_or_false}
use Rattle.combinatorics.proofs.Lists.{at_all, filter_in, in_filter, in_here, mapped_at, on_numbers}
use Rattle.combinatorics.specs.Lists.{distinct, filter, first_or, is_in, up_from}
use Rattle.grid_points.proofs.Accepted.{Accepted}
use Rattle.grid_points.proofs.Points.{distinct-points, on_points, position_in_lem}
use Rattle.grid_points.specs.Grid.{Grid, Point, at, indices, is_grid_point, num_indices, num_points, points, position}
use Rattle.grid_points.specs.Grid.{position_in}
use Rattle.grid_points.specs.Grid.{same_point}
use Rattle.path_laws.proofs.Meaning.{index_means}
use Rattle.path_laws.proofs.Positions.{same_at}
use Rattle.points_in_order.proofs.Blocks.{point-length}
use Rattle.points_in_order.proofs.InOrder.{at_in}
use Rattle.positions.proofs.Positions.{at-position_in}
use Rattle.boundary_labels.proofs.Rounds.{behind_means, has-index, means_behind, none-zero}
use Rattle.boundary_labels.specs.Boundary.{boundary_index, boundary_label, boundary_table, is_interior}
use Rattle.boundary_labels.specs.Boundary.{is_zero_behind_positive, new_label}
use Rattle.boundary_labels.specs.Claims.{IsFirstIndex}

-- the first of those that a test lets pass does so itself
first_passes : (q : ℕ → Bool) (xs : List ℕ) (k : ℕ) → is_in eqb k xs ≡ true → q k ≡ true
    → (is_in eqb (first_or 0 (filter q xs)) xs ≡ true) × (q (first_or 0 (filter q xs)) ≡ true)
first_passes q xs k m t = go (filter q xs) refl (in_filter on_numbers q k xs m t)
  where
    go : (fs : List ℕ) → filter q xs ≡ fs → is_in eqb k fs ≡ true
        → (is_in eqb (first_or 0 fs) xs ≡ true) × (q (first_or 0 fs) ≡ true)
    go [] e n = absurd_bool (sym n)
    go (f ∷ fs) e n = filter_in on_numbers q f xs (rw e (in_here on_numbers f fs))

-- and none that passes stands before it
first-least : (q : ℕ → Bool) (n b k : ℕ) → b ≤ k → k < b + n → q k ≡ true → first_or 0 (filter q (up_from b n)) ≤ k
first-least q zero b k l m t = absurd (omega arith)
first-least q (suc n) b k l m t =
    ⊎_elim
    (λ (u : q b ≡ true). rw u l)
    (λ (u : q b ≡ false).
    let d : b ≡ k → ⊥ = λ e. absurd_bool (sym t ∙ (rw e at u)) in
    rw u (first-least q n (suc b) k (omega (arith, d)) (omega arith) t))
    (true_or_false (q b))

-- an interior point by its numbers
all-positive : (y : Point) → ((h : ℕ) → h < length y → 0 < at y h) → is_interior y ≡ true
unfolding is_interior
all-positive [] p = refl
all-positive (x ∷ y) p = and_both _ _ (lt-ltb 0 x (p 0 (omega arith))) (all-positive y (λ h l. p (suc h) (omega arith)))

pub zero-outside : (y : Point) (h : ℕ) → h < length y → at y h ≡ 0 → is_interior y ≡ false
unfolding is_interior
zero-outside y h l z =
    false_of _ (λ t. let p : 0 < at y h = ltb-true 0 (at y h) (at_all (λ x. ltb 0 x) y h t l) in omega arith)

outside-zero : (y : Point) → is_interior y ≡ false → (h : ℕ) × (h < length y) × (at y h ≡ 0)
unfolding is_interior
outside-zero [] f = absurd_bool f
outside-zero (x ∷ y) f =
    ⊎_elim
    (λ (p : 0 < x). let w = outside-zero y (rw (lt-ltb 0 x p) at f) in (suc w.0, omega (arith, w.1), w.2))
    (λ (m : x ≤ 0). (0, omega arith, omega arith))
    (before_or_not 0 x)

module _ (g : Grid) (a : Accepted g) (y : Point) (on : is_grid_point g y ≡ true) where
  long : length y ≡ num_indices g
  long = point-length g a y on

  least : (k : ℕ) → k < num_indices g → is_zero_behind_positive g y k ≡ true → boundary_index g y ≤ k
  unfolding boundary_index
  least k l t = first-least (is_zero_behind_positive g y) (num_indices g) 0 k (omega arith) (omega arith) t

  passes : (k : ℕ) → k < num_indices g → is_zero_behind_positive g y k ≡ true
      → (boundary_index g y < num_indices g) × (is_zero_behind_positive g y (boundary_index g y) ≡ true)
  unfolding boundary_index
  passes k l t =
      let w = first_passes (is_zero_behind_positive g y) (indices g) k ((index_means g k).1 l) t in
      ((index_means g _).0 w.0, w.1)

  -- a boundary point has an index for its label, the first with a 0 behind a positive number
  pub boundary_index_lem : is_interior y ≡ false → IsFirstIndex g y (boundary_index g y)
  boundary_index_lem f =
      let z = outside-zero y f in
      let k = has-index g a y on z.0 (omega (arith, long, z.1)) z.2 in
      let w = passes k.0 k.1 k.2 in
      let m = behind_means g y (boundary_index g y) w.1 in
      record {
        index = w.0;
        zero = m.0;
        behind_positive = m.1;
        first = λ i l e p. least i l (means_behind g y i e p);
      }

  -- where no index has a 0 behind a positive number, the point is interior
  pub interior_is : ((h : ℕ) → h < num_indices g → is_zero_behind_positive g y h ≡ false) → is_interior y ≡ true
  interior_is none = all-positive y (λ h l. none-zero g a y on none h (omega (arith, long)))

  -- where h is the first such index, it is that of the label
  pub first-index : (h : ℕ) → h < num_indices g → ((k : ℕ) → k < h → is_zero_behind_positive g y k ≡ false)
      → is_zero_behind_positive g y h ≡ true → (is_interior y ≡ false) × (boundary_index g y ≡ h)
  first-index h l none t = (
    zero-outside y h (omega (arith, long)) (behind_means g y h t).0,
    ⊎_elim
        (λ (c : boundary_index g y < h). absurd_bool (sym (passes h l t).1 ∙ none (boundary_index g y) c))
        (λ (c : h ≤ boundary_index g y). omega (arith, least h l t))
        (before_or_not (boundary_index g y) h),
  )

-- the position of the k-th point
position_at : (xs : List Point) → distinct same_point xs ≡ true → (k : ℕ) → k < length xs
    → position_in xs (get_or xs k []) ≡ k
position_at xs d k l =
    let m = at_in xs k l in
    same_at on_points [] xs d (position_in xs (get_or xs k [])) k (position_in_lem xs (get_or xs k []) m) l
    (at-position_in xs (get_or xs k []) m)

module _ (g : Grid) (old : List ℕ) where
  pub table-length : length (boundary_table g old) ≡ num_points g
  unfolding boundary_table
  table-length = length-map (points g) (new_label g old)

  -- the byte of a point in the new table
  pub table_at : (y : Point) → is_in same_point y (points g) ≡ true
      → get_or (boundary_table g old) (position g y) 0 ≡ new_label g old y
  unfolding boundary_table
  table_at y m =
      mapped_at (new_label g old) [] (points g) (position g y) (position_in_lem (points g) y m)
      ∙ ap (new_label g old) (at-position_in (points g) y m)

  -- the k-th byte of the new table, by the k-th point and the k-th old byte
  pub table_kth : (k : ℕ) → k < num_points g → (y : Point) → y ≡ get_or (points g) k []
      → get_or (boundary_table g old) k 0 ≡ cond (is_interior y) (get_or old k 0) (boundary_label g y)
  unfolding boundary_table new_label
  table_kth k l y e =
      let i : position g (get_or (points g) k []) ≡ k = position_at (points g) (distinct-points g) k l in
      let z = get_or (points g) k [] in
      rw e (mapped_at (new_label g old) [] (points g) k l
      ∙ ap (λ (n : ℕ). cond (is_interior z) (get_or old n 0) (boundary_label g z)) i)
