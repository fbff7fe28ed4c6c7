-- Over the new table a set of one or more grid points that is complete for a block has all the block's indices as
-- labels, and its U has none of them. Assumes nothing.
use mathlib.Core.Bool.{true, false}
use mathlib.Core.List.{List, [], ◌∷◌}
use mathlib.Core.Logic.{◌⊎◌, inr, ⊎_elim}
use mathlib.Core.Path.{◌≡◌, sym, ◌∙◌}
use Prim.Native.Nat.{ℕ, suc, ◌-◌, ◌≤◌, ◌<◌}
use lib.Dec.{eqb}
use lib.ListN.{length}
use native.Mathlib.Omega.{arith}
use Rattle.combinatorics.proofs.Basics.{absurd_bool, false_of}
use Rattle.combinatorics.proofs.Lists.{all_in, in_here}
use Rattle.combinatorics.proofs.Ranges.{in_up_from, up_from_in}
use Rattle.combinatorics.specs.Lists.{all, is_in}
use Rattle.grid_points.proofs.Accepted.{Accepted}
use Rattle.grid_points.proofs.Points.{on_points}
use Rattle.grid_points.proofs.Round.{block-fits}
use Rattle.grid_points.specs.Grid.{Grid, Point, at, first_index, indices_of, is_grid_point, num_blocks, num_indices, previous}
use Rattle.grid_points.specs.Grid.{same_point, size}
use Rattle.place.specs.Ends.{is_complete}
use Rattle.place.specs.Places.{Simplex, label_set, set_u}
use Rattle.place.specs.Problem.{Problem, label}
use Rattle.path_laws.proofs.Meaning.{U_means, complete_means, labels_mean}
use Rattle.points_in_order.proofs.Blocks.{point-length}
use Rattle.boundary_labels.proofs.PointLabels.{boundary_index_lem, zero-outside}
use Rattle.boundary_labels.proofs.Rounds.{index_at, next_in_lem, not_all_zero, previous_in, round}
use Rattle.boundary_labels.proofs.Tables.{boundary_label_lem, new_byte}
use Rattle.boundary_labels.specs.Boundary.{boundary_index, boundary_table, is_interior}
use Rattle.boundary_labels.specs.Claims.{CompleteByLabels}

-- no points are complete for every block, and have no label: so what follows is said of one or more
pub none-complete : (p : Problem) (j : ℕ) → (is_complete p [] j ≡ true) × ((h : ℕ) → is_in eqb h (label_set p []) ≡ false)
none-complete p j = (
  (complete_means p [] j).1 (λ h m. inr ((U_means p.grid [] h).1 (index h m, λ y n. absurd_bool (sym n)))),
  λ h. false_of _ (λ m. absurd_bool (sym ((labels_mean p [] h).0 m).1.1)),
)
  where
    index : (h : ℕ) → is_in eqb h (indices_of p.grid j) ≡ true → h < num_indices p.grid
    index h m =
        let w = up_from_in (first_index p.grid j) (size p.grid j) h m in
        omega (arith, w.1, block-fits p.grid.sizes j)

module _ (p : Problem) (a : Accepted p.grid) (old : List ℕ) (is : p.labels ≡ boundary_table p.grid old) where
  abbrev g : Grid
  g = p.grid

  -- the label of a point with a 0 names an index with a 0 behind a positive number
  label-rule : (y : Point) → is_grid_point g y ≡ true → (h : ℕ) → h < num_indices g → at y h ≡ 0
      → (k : ℕ) → label p y ≡ suc k → (at y k ≡ 0) × (0 < at y (previous g k))
  unfolding label
  label-rule y on h l z k e =
      let f : is_interior y ≡ false = zero-outside y h (omega (arith, point-length g a y on)) z in
      let new = sym (boundary_label_lem g a old y f) ∙ sym (new_byte g a old y on) in
      let n : suc (boundary_index g y) ≡ suc k = new ∙ rw is at e in
      let s : boundary_index g y ≡ k = omega arith in
      let w = boundary_index_lem g a y on f in
      (rw s at w.zero, rw s at w.behind_positive)

  module _ (s : Simplex) (some : 1 ≤ length s) (on : all (is_grid_point g) s ≡ true) (j : ℕ) (l : j < num_blocks g)
      (complete : is_complete p s j ≡ true) where
    abbrev IsLabel : ℕ → Type 0
    IsLabel h = is_in eqb h (label_set p s) ≡ true

    abbrev InU : ℕ → Type 0
    InU h = is_in eqb h (set_u g s) ≡ true

    label_or_U : (i : ℕ) → i < size g j → IsLabel (index_at g j i) ⊎ InU (index_at g j i)
    label_or_U i c =
        (complete_means p s j).0 complete (index_at g j i)
        (in_up_from (first_index g j) (size g j) (index_at g j i) (omega arith) (omega arith))

    -- where U has an index, all points are boundary points; so the index before a label is not in U
    before_not_U : (h : ℕ) → InU h → (k : ℕ) → IsLabel k → InU (previous g k) → ⊥
    before_not_U h u k m v =
        let w = ((labels_mean p s k).0 m).1 in
        let y = w.0 in
        let c = (U_means g s h).0 u in
        let r = label-rule y (all_in on_points (is_grid_point g) s on y w.1) h c.0 (c.1 y w.1) k w.2 in
        let z : at y (previous g k) ≡ 0 = ((U_means g s (previous g k)).0 v).1 y w.1 in
        omega (arith, r.1)

    -- where U has an index of the block, a label leads to all, and then to one whose index before it is in U
    meets : (i : ℕ) → i < size g j → InU (index_at g j i) → (k : ℕ) → k < size g j → IsLabel (index_at g j k) → ⊥
    meets i c u k m q =
        let n = next_in_lem g j i c in
        before_not_U (index_at g j i) u (index_at g j n.0) (round g j IsLabel back k m q n.0 n.1) (rw n.2 u)
      where
        back : (e : ℕ) → e < size g j → IsLabel (index_at g j e) → IsLabel (previous g (index_at g j e))
        back e b r =
            let d = previous_in g j e b in
            rw d.2 (⊎_elim
            (λ x. x)
            (λ v. absurd (before_not_U (index_at g j i) u (index_at g j e) r (rw d.2 v)))
            (label_or_U d.0 d.1))

    member : (s : Simplex) → 1 ≤ length s → (y : Point) × (is_in same_point y s ≡ true)
    member [] h = absurd (omega arith)
    member (y ∷ s) h = (y, in_here on_points y s)

    -- so the block has no label, all its indices are in U, and a point has 0 throughout the block
    none_in_U : (i : ℕ) → i < size g j → InU (index_at g j i) → ⊥
    none_in_U i c u =
        let w = member s some in
        not_all_zero g a w.0 (all_in on_points (is_grid_point g) s on w.0 w.1) j l
        (λ k m. ⊎_elim
        (λ q. absurd (meets i c u k m q))
        (λ v. ((U_means g s (index_at g j k)).0 v).1 w.0 w.1)
        (label_or_U k m))

    outside-U : (h : ℕ) → is_in eqb h (indices_of g j) ≡ true → is_in eqb h (set_u g s) ≡ false
    outside-U h m =
        let w = up_from_in (first_index g j) (size g j) h m in
        let e : h ≡ index_at g j (h - first_index g j) = omega (arith, w.0) in
        false_of _ (λ u. none_in_U (h - first_index g j) (omega (arith, w.0, w.1)) (rw e at u))

    pub complete_by_labels : CompleteByLabels p s j
    complete_by_labels = record {
      labels = λ h m. ⊎_elim (λ x. x) (λ u. absurd_bool (sym u ∙ outside-U h m)) ((complete_means p s j).0 complete h m);
      not_u = outside-U;
    }
