-- What the new table is: of P bytes, each from 0 to m where the old ones are, with no 0 on the boundary; and to write
-- it twice is to write it once. Assumes nothing.
use mathlib.Core.Bool.{true, false}
use mathlib.Core.List.{List, [], ◌∷◌, map}
use mathlib.Core.Logic.{⊎_elim}
use mathlib.Core.Path.{◌≡◌, refl, ◌∙◌}
use Prim.Native.Nat.{ℕ, ◌≤◌}
use borrow.Author.Tests.{le-leb}
use lib.Dec.{leb}
use lib.ListN.{length}
use native.Mathlib.Omega.{arith}
use Rattle.combinatorics.proofs.Basics.{true_or_false}
use Rattle.combinatorics.proofs.Lists.{at_all, in_all, in_here, in_later, map_in, on_numbers}
use Rattle.combinatorics.specs.Lists.{all, is_in}
use Rattle.grid_points.proofs.Accepted.{Accepted}
use Rattle.grid_points.proofs.Points.{in_points, on_points, points_in_lem, position_in_lem}
use Rattle.grid_points.specs.Grid.{Grid, Point, is_grid_point, num_indices, num_points, points, position, same_point}
use Rattle.boundary_labels.proofs.PointLabels.{boundary_index_lem, table_at, table-length}
use Rattle.boundary_labels.specs.Boundary.{boundary_label, boundary_table, byte_of, is_interior, new_label}
use Rattle.boundary_labels.specs.Claims.{NewTable}

map_cong : (f h : Point → ℕ) (xs : List Point) → ((y : Point) → is_in same_point y xs ≡ true → f y ≡ h y)
    → map f xs ≡ map h xs
map_cong f h [] e = refl
map_cong f h (x ∷ xs) e = rw (e x (in_here on_points x xs), map_cong f h xs (λ y m. e y (in_later on_points y x xs m)))

module _ (g : Grid) (a : Accepted g) (old : List ℕ) where
  pub interior_label : (y : Point) → is_interior y ≡ true → new_label g old y ≡ byte_of g old y
  unfolding new_label
  interior_label y t = rw t

  pub boundary_label_lem : (y : Point) → is_interior y ≡ false → new_label g old y ≡ boundary_label g y
  unfolding new_label
  boundary_label_lem y f = rw f

  -- the byte of a grid point in the new table
  pub new_byte : (y : Point) → is_grid_point g y ≡ true → byte_of g (boundary_table g old) y ≡ new_label g old y
  new_byte y on = table_at g old y (in_points g y a.same_number on)

  again : (y : Point) → is_in same_point y (points g) ≡ true → new_label g (boundary_table g old) y ≡ new_label g old y
  unfolding new_label
  again y m =
      ⊎_elim
      (λ (t : is_interior y ≡ true). rw t (table_at g old y m ∙ rw t))
      (λ (f : is_interior y ≡ false). rw f)
      (true_or_false (is_interior y))

  once : boundary_table g (boundary_table g old) ≡ boundary_table g old
  unfolding boundary_table
  once = map_cong (new_label g (boundary_table g old)) (new_label g old) (points g) again

  pub new-table : NewTable g old
  new-table = record {
    whole = table-length g old;
    inside = λ y on t. new_byte y on ∙ interior_label y t;
    outside = λ y on f. (boundary_index_lem g a y on f, new_byte y on ∙ boundary_label_lem y f);
    twice = once;
  }

  module _ (long : length old ≡ num_points g) (range : all (λ l. leb l (num_indices g)) old ≡ true) where
    old-low : (y : Point) → is_grid_point g y ≡ true → leb (byte_of g old y) (num_indices g) ≡ true
    old-low y on =
        at_all (λ l. leb l (num_indices g)) old (position g y) range
        (omega (arith, position_in_lem (points g) y (in_points g y a.same_number on)))

    new-low : (y : Point) → is_grid_point g y ≡ true → leb (new_label g old y) (num_indices g) ≡ true
    new-low y on =
        ⊎_elim
        (λ (t : is_interior y ≡ true). rw (interior_label y t) (old-low y on))
        (λ (f : is_interior y ≡ false).
        let low : boundary_label g y ≤ num_indices g = omega (arith, (boundary_index_lem g a y on f).index) in
        rw (boundary_label_lem y f) (le-leb (boundary_label g y) (num_indices g) low))
        (true_or_false (is_interior y))

    -- question 7 is answered yes of the new table where it is of the old one
    pub new-range : all (λ l. leb l (num_indices g)) (boundary_table g old) ≡ true
    unfolding boundary_table
    new-range =
        in_all on_numbers (λ l. leb l (num_indices g)) (map (new_label g old) (points g)) (λ l m.
        let i = map_in on_points on_numbers (new_label g old) l (points g) m in
        rw i.2 (new-low i.0 (points_in_lem g i.0 i.1)))
