-- The points of the table, one from the other: what is known of the k-th and of what is made of it, and that the next
-- follows it. Assumes nothing.
use mathlib.Core.Bool.{true}
use mathlib.Core.List.{List, [], ◌∷◌}
use mathlib.Core.Path.{◌≡◌, ap}
use Prim.Native.Nat.{ℕ, zero, suc, ◌+◌, ◌<◌}
use lib.ListN.{length, get_or}
use native.Mathlib.Numerals.{add-one}
use native.Mathlib.Omega.{arith}
use Rattle.combinatorics.proofs.Lists.{in_here, in_later}
use Rattle.combinatorics.specs.Lists.{is_in}
use Rattle.grid_points.proofs.Accepted.{accepted}
use Rattle.grid_points.proofs.Points.{on_points, points_in_lem}
use Rattle.grid_points.specs.Grid.{Grid, Point, same_point, points, num_points}
use Rattle.points_in_order.specs.Lent.{WithFirsts, PointWithFirsts}
use Rattle.points_in_order.proofs.PointAfter.{point-after}
use Rattle.points_in_order.specs.PointAfter.{Step, after_all}

pub at_in : (xs : List Point) (k : ℕ) → k < length xs → is_in same_point (get_or xs k []) xs ≡ true
at_in [] k h = absurd (omega arith)
at_in (x ∷ xs) zero h = in_here on_points x xs
at_in (x ∷ xs) (suc k) h = in_later on_points (get_or xs k []) x xs (at_in xs k (omega arith))

module _ (g : Grid) (firsts : List ℕ) (l : WithFirsts g firsts) (k : ℕ) where
  -- the k-th point
  pub point_at : k < num_points g → (y : Point) → y ≡ get_or (points g) k [] → PointWithFirsts g firsts y
  point_at h y e = rw e (record { grid = l; is_point = points_in_lem g (get_or (points g) k []) (at_in (points g) k h) })

  pub next-point : k + 1 < num_points g → (y : Point) → y ≡ get_or (points g) k []
      → (after_all g.sizes y).list ≡ get_or (points g) (k + 1) []
  next-point h y e =
      let a = accepted g l.accepted in
      rw (e, add-one) (ap (λ (t : Step). t.list) (point-after g a.sizes_two a.same_number k (omega arith)))
