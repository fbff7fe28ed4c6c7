-- On an accepted table a point has a label from 1 to m, or its label is 0. Assumes nothing.
use mathlib.Core.Bool.{true, false}
use mathlib.Core.Logic.{⊎_elim}
use mathlib.Core.Path.{◌≡◌, sym, ◌∙◌}
use Prim.Native.Nat.{◌<◌, ◌≤◌}
use borrow.Author.Tests.{leb-true, le-leb}
use lib.Dec.{leb}
use lib.ListN.{get_or}
use native.Mathlib.Omega.{arith}
use Rattle.combinatorics.proofs.Basics.{absurd_bool, and_both, before_or_not}
use Rattle.combinatorics.proofs.Lists.{all_in, in_all, at_all}
use Rattle.combinatorics.specs.Lists.{is_in}
use Rattle.grid_points.proofs.Points.{on_points, in_points, position_in_lem}
use Rattle.grid_points.specs.Grid.{Point, is_grid_point, points, num_indices, position, same_point}
use Rattle.place.specs.Places.{Simplex, is_place, all_labelled}
use Rattle.place.specs.Problem.{Problem, label, has_label}
use Rattle.path_laws.proofs.LinkSymmetry.{parts}
use Rattle.path_laws.specs.Demand.{HasTable}

module _ {p : Problem} (ok : HasTable p) where
  pub label-within : (y : Point) → is_grid_point p.grid y ≡ true → label p y ≤ num_indices p.grid
  unfolding label
  label-within y h =
      leb-true _ _ (at_all (λ l. leb l (num_indices p.grid)) p.labels _ ok.labels
      (omega (arith, ok.table_length, position_in_lem (points p.grid) y (in_points p.grid y ok.has_start.same_number h))))

  pub label_ok : (y : Point) → is_grid_point p.grid y ≡ true → 0 < label p y → has_label p y ≡ true
  label_ok y h l = and_both _ _ (le-leb 1 (label p y) (omega arith)) (le-leb (label p y) _ (label-within y h))

  -- a point has no label exactly if its label is 0
  pub label-zero : (y : Point) → is_grid_point p.grid y ≡ true → has_label p y ≡ false → label p y ≡ 0
  label-zero y h f =
      ⊎_elim (λ l. absurd_bool (sym (label_ok y h l) ∙ f)) (λ l. omega arith) (before_or_not 0 (label p y))

  pub zero-at : (y : Point) → is_grid_point p.grid y ≡ true → has_label p y ≡ false
      → get_or p.labels (position p.grid y) 0 ≡ 0
  unfolding label
  zero-at y h f = label-zero y h f

  pub place-labelled : (s : Simplex) → is_place p s ≡ true → ((y : Point) → is_in same_point y s ≡ true → 0 < label p y)
      → all_labelled p s ≡ true
  place-labelled s h l =
      in_all on_points _ s (λ y m. label_ok y (all_in on_points _ s (parts p s h).grid_points y m) (l y m))
