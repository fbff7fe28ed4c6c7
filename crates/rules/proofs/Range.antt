-- What keeps the numbers of a place in range: indices, labels, coordinates and coefficients. Assumes nothing.
use mathlib.Core.Bool.{Bool, true}
use mathlib.Core.List.{List, [], ◌∷◌}
use mathlib.Core.Path.{◌≡◌, refl, sym, ap, ◌∙◌}
use Prim.Native.Nat.{ℕ, zero, suc, ◌≤◌, ◌<◌}
use lib.ListN.{length}
use native.Mathlib.Omega.{arith}
use Rattle.geometry.proofs.Definitions.{coord}
use Rattle.geometry.proofs.LabelledChains.{list_at, LabelledChain}
use Rattle.geometry.proofs.Points.{nth}
use Rattle.grid_points.proofs.CoordinatesBelow.{coordinate_low, division-low}
use Rattle.grid_points.specs.Grid.{Point, num_indices, is_grid_point}
use Rattle.place.specs.Problem.{Problem, label}
use Rattle.path_laws.proofs.BlocksOfGrid.{blocks_of, point_of}
use Rattle.path_laws.proofs.Bound.{order-short}
use Rattle.path_laws.proofs.Coefficients.{coefficients-at-most}
use Rattle.path_laws.proofs.FromChain.{T-range, coefficient_at, coord_as, long, place_of, points_of-grid}
use Rattle.path_laws.proofs.ToChain.{points_of, label_of, index_of, index_is, grid-at, place-long}
use Rattle.path_laws.proofs.Filled.{FullyLabelled, full_label}
use Rattle.rules.proofs.Describes.{labels_of}

pub nth_points_of : (p : Problem) (x : List (ℕ → ℕ)) (j : ℕ) → j < length x
    → nth (points_of p x) j ≡ point_of p (list_at x j)
nth_points_of p [] j l = absurd (omega arith)
nth_points_of p (c ∷ x) zero l = refl
nth_points_of p (c ∷ x) (suc j) l = nth_points_of p x j (omega arith)

module _ {p : Problem} (ok : FullyLabelled p) {T : ℕ → Bool} {t : ℕ} {o : ℕ → ℕ} {x : List (ℕ → ℕ)}
    (S : LabelledChain (blocks_of p) (label_of p) T t o x) where
  pub index_below : (k : ℕ) → T k ≡ true → k < num_indices p.grid
  index_below = T-range ok.has_start S

  -- T leaves out an index of each block
  pub few : t < num_indices p.grid
  few =
      let h = place_of ok.has_start S in
      omega (
        arith,
        order-short p (points_of p x) h,
        place-long ok.has_start (points_of p x) h,
        long ok.has_start S,
        ok.has_start.some_block,
        index-some,
      )
    where
      index-some : 0 < num_indices p.grid
      index-some =
          omega (arith, (index_is (num_indices p.grid) (label p p.start) (full_label ok p.start ok.has_start.start)).1)

  pub point-on : (j : ℕ) → j ≤ t → is_grid_point p.grid (nth (points_of p x) j) ≡ true
  point-on j l = grid-at ok.has_start (points_of p x) (points_of-grid ok.has_start S) j (omega (arith, long ok.has_start S))

  pub coord_below : (j : ℕ) → j ≤ t → (k : ℕ) → k < num_indices p.grid → coord (blocks_of p) (list_at x j) k ≤ 60000
  coord_below j l k m =
      omega (
        arith,
        coord_as ok.has_start S j l k m,
        coordinate_low p.grid 60000 ok.has_start.low ok.has_start.same_number _ (point-on j l) k,
      )

  pub coefficient_below : (j : ℕ) → j ≤ t → (k : ℕ) → list_at x j k ≤ 60000
  coefficient_below j l k =
      let w = coefficients-at-most p _ ok.has_start.same_number ok.has_start.start (point-on j l) k in
      omega (
        arith,
        w.1,
        ap (λ (c : ℕ → ℕ). c k) (coefficient_at ok.has_start S j (omega (arith, S.size))),
        division-low 60000 p.grid.divisions ok.has_start.low w.0,
      )

  index_of_lem : (j : ℕ) → j ≤ t → labels_of p x j ≡ index_of (num_indices p.grid) (label p (nth (points_of p x) j))
  index_of_lem j l =
      ap (λ (y : Point). index_of (num_indices p.grid) (label p y)) (sym (nth_points_of p x j (omega (arith, S.size))))

  named : (j : ℕ) → j ≤ t
      → (suc (index_of (num_indices p.grid) (label p (nth (points_of p x) j))) ≡ label p (nth (points_of p x) j))
      × (index_of (num_indices p.grid) (label p (nth (points_of p x) j)) < num_indices p.grid)
  named j l = index_is _ _ (full_label ok _ (point-on j l))

  pub label_is : (j : ℕ) → j ≤ t → suc (labels_of p x j) ≡ label p (nth (points_of p x) j)
  label_is j l = ap suc (index_of_lem j l) ∙ (named j l).0

  pub label-below : (j : ℕ) → j ≤ t → labels_of p x j < num_indices p.grid
  label-below j l = omega (arith, index_of_lem j l, (named j l).1)
