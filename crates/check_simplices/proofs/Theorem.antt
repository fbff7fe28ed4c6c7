-- Request 07: distinct grid points lie in one simplex exactly if the test by coefficient lists says so.
-- Assumes nothing.
use mathlib.Core.Bool.{true}
use mathlib.Core.List.{List, []}
use mathlib.Core.Logic.{◌↔◌}
use mathlib.Core.Path.{◌≡◌}
use Prim.Native.Nat.{◌<◌}
use lib.ListN.{length}
use Rattle.combinatorics.proofs.Lists.{all_in, in_all, any_in, in_any}
use Rattle.combinatorics.specs.Lists.{all, is_in, distinct}
use Rattle.geometry.proofs.Points.{nth}
use Rattle.grid_points.proofs.Accepted.{InLimits}
use Rattle.grid_points.proofs.Points.{on_points}
use Rattle.grid_points.specs.Grid.{Grid, Point, is_grid_point, same_point}
use Rattle.path_laws.proofs.Positions.{at_in}
use Rattle.check_simplices.proofs.Along.{ordered_of, ordered_nested, from_first}
use Rattle.check_simplices.proofs.Grown.{in_simplex}
use Rattle.check_simplices.proofs.Tests.{nested_of, distinct_of, chain_of}
use Rattle.check_simplices.specs.Chains.{chain_from, one_chain}
use Rattle.check_simplices.specs.Simplices.{InOneSimplex}

-- every part of what lies in one simplex does
pub part_in : {g : Grid} {zs : List Point} (ys : List Point)
    → ((y : Point) → is_in same_point y ys ≡ true → is_in same_point y zs ≡ true) → InOneSimplex g zs → InOneSimplex g ys
part_in {g} {zs} ys h I = record {
  order = I.order;
  points = I.points;
  simplex = I.simplex;
  has = in_all on_points
      (λ z. is_in same_point z I.points)
      ys
      (λ y m. all_in on_points (λ z. is_in same_point z I.points) zs I.has y (h y m));
}

-- and lies on the grid
pub part_on_grid : {g : Grid} {zs : List Point} → InOneSimplex g zs → all (is_grid_point g) zs ≡ true
part_on_grid {g} {zs} I = in_all on_points (is_grid_point g) zs (λ z m.
    all_in on_points (is_grid_point g) I.points (ordered_of g I.order I.points I.simplex).on_grid z
    (all_in on_points (λ z. is_in same_point z I.points) zs I.has z m))

module _ {g : Grid} (A : InLimits g) (zs : List Point) (on : all (is_grid_point g) zs ≡ true) (some : 0 < length zs) where
  listed : (y : Point) → is_in same_point y zs ≡ true → is_grid_point g y ≡ true
  listed y m = all_in on_points (is_grid_point g) zs on y m

  only_if : distinct same_point zs ≡ true → InOneSimplex g zs → one_chain g zs ≡ true
  unfolding one_chain
  only_if d I =
      let F = from_first g zs (nth zs 0) (at_in on_points [] zs 0 some) I.order I.points
      (ordered_of g I.order I.points I.simplex) (all_in on_points (λ z. is_in same_point z I.points) zs I.has) in
      in_any on_points (chain_from g zs) (nth F.points 0) zs F.first
      (chain_of A zs on (nth F.points 0) (listed _ F.first) (ordered_nested A F.ordered F.some zs F.has) d)

  -- the theorem
  pub one-simplex : (one_chain g zs ≡ true) ↔ ((distinct same_point zs ≡ true) × InOneSimplex g zs)
  unfolding one_chain
  one-simplex = (
    (λ h. let p = any_in on_points (chain_from g zs) zs h in let hp = listed p.0 p.1 in
        (distinct_of A zs on p.0 hp p.2, in_simplex A p.0 hp zs on some (nested_of A zs on p.0 hp p.2))),
    (λ h. only_if h.0 h.1),
  )
