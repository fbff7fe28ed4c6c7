-- The label and the position in a mark. Assumes nothing.
use mathlib.Core.Bool.{Bool}
use mathlib.Core.List.{List, [], ◌∷◌, map}
use mathlib.Core.Path.{◌≡◌, refl}
use Prim.Native.Nat.{ℕ, zero, suc, ◌≤◌, ◌<◌}
use lib.ListN.{length}
use native.Mathlib.Omega.{arith}
use Rattle.combinatorics.proofs.Lists.{mapped_at}
use Rattle.geometry.proofs.LabelledChains.{list_at, LabelledChain}
use Rattle.geometry.proofs.Points.{nth}
use Rattle.grid_points.specs.Grid.{at, position}
use Rattle.place.specs.Problem.{Problem}
use Rattle.path_laws.proofs.BlocksOfGrid.{blocks_of, point_of}
use Rattle.path_laws.proofs.ToChain.{points_of, label_of}
use Rattle.path_laws.proofs.Filled.{FullyLabelled}
use Rattle.rules.specs.Read.{mark_of}
use Rattle.rules.specs.Ready.{IndicesBelow}
use Rattle.rules.specs.Moves.{mark, mark_label, mark_position}
use Rattle.rules.proofs.Describes.{mark_at, labels_of}
use Rattle.rules.proofs.Range.{nth_points_of, label_is, label-below}

pub label_in_lem : (position label : ℕ) → label < 256 → mark_label (mark position label) ≡ label
label_in_lem position label l = omega arith

pub position_in : (position label : ℕ) → label < 256 → mark_position (mark position label) ≡ position
position_in position label l = omega arith

pub labels_in : (marks : List ℕ) (j : ℕ) → j < length marks → at (map mark_label marks) j ≡ mark_label (at marks j)
labels_in = mapped_at mark_label 0

pub positions_in : (marks : List ℕ) (j : ℕ) → j < length marks
    → at (map mark_position marks) j ≡ mark_position (at marks j)
positions_in = mapped_at mark_position 0

-- an index is a label
pub indices_in : (l : List ℕ) → IndicesBelow l → map mark_label l ≡ l
indices_in [] below = refl
indices_in (h ∷ l) below =
    let low : h < 16 = below 0 (omega arith) in
    let e : mark_label h ≡ h = omega arith in
    rw (e, indices_in l (λ k m. below (suc k) (omega arith)))

module _ {p : Problem} (ok : FullyLabelled p) {T : ℕ → Bool} {t : ℕ} {o : ℕ → ℕ} {x : List (ℕ → ℕ)}
    (S : LabelledChain (blocks_of p) (label_of p) T t o x) (j : ℕ) (l : j ≤ t) where
  pub mark-label : mark_label (mark_at p (list_at x j)) ≡ suc (labels_of p x j)
  mark-label = label_in_lem (position p.grid (point_of p (list_at x j))) (suc (labels_of p x j))
      (omega (arith, label-below ok S j l, ok.has_start.sixteen_indices))

  pub mark-is : mark_at p (list_at x j) ≡ mark_of p (nth (points_of p x) j)
  mark-is = rw (label_is ok S j l, nth_points_of p x j (omega (arith, S.size)))

  pub mark-position : mark_position (mark_at p (list_at x j)) ≡ position p.grid (point_of p (list_at x j))
  mark-position = position_in (position p.grid (point_of p (list_at x j))) (suc (labels_of p x j))
      (omega (arith, label-below ok S j l, ok.has_start.sixteen_indices))
