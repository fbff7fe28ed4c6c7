-- The other points of a place carry T, over the table with each gap filled. Assumes nothing.
use mathlib.Core.Bool.{true}
use mathlib.Core.List.{List, []}
use mathlib.Core.Logic.{⊎_elim}
use mathlib.Core.Path.{◌≡◌, sym, ap, ◌∙◌}
use Prim.Native.Nat.{ℕ, suc, ◌≤◌}
use lib.Dec.{eqb}
use lib.ListN.{length}
use native.Mathlib.Omega.{arith}
use Rattle.combinatorics.proofs.Basics.{absurd_bool, same_or}
use Rattle.combinatorics.proofs.Lists.{all_in, on_numbers}
use Rattle.combinatorics.specs.Lists.{is_in}
use Rattle.geometry.proofs.Definitions.{Carries}
use Rattle.geometry.proofs.Points.{nth}
use Rattle.grid_points.proofs.Points.{on_points}
use Rattle.grid_points.specs.Grid.{Point}
use Rattle.place.specs.Places.{Simplex, is_place, label_set}
use Rattle.place.specs.Problem.{Problem, label}
use Rattle.path_laws.proofs.Accepted.{accepted-table}
use Rattle.path_laws.proofs.Filled.{filled_table, filled-label}
use Rattle.path_laws.proofs.LinkSymmetry.{parts}
use Rattle.path_laws.proofs.Meaning.{labels_mean}
use Rattle.path_laws.proofs.Positions.{in_at}
use Rattle.path_laws.proofs.ToChain.{coefficients_of, in_t, place-long, points_of_coefficients_of}
use Rattle.path_laws.specs.Demand.{Accepted}
use Rattle.rules.proofs.Describes.{labels_of}
use Rattle.rules.proofs.Range.{label_is}
use Rattle.walks.proofs.KeptForm.{labelled}
use Rattle.walks.specs.Kept.{kept_points}
use Rattle.walk_ways.proofs.Kept.{T-same, chain, full, order_same, place-filled}
use Rattle.walk_ways.specs.Spare.{Spare, again, outside, unknown}

module _ {p : Problem} (ok : Accepted p) (y : Point) (o : List ℕ)
    (place : is_place p (kept_points p.grid y o) ≡ true) where
  abbrev q : Problem
  q = filled_table p

  abbrev s : Simplex
  s = kept_points p.grid y o

  pub points-long : length s ≡ suc (length o)
  points-long = place-long (full ok y o place).has_start s (place-filled ok y o place)
      ∙ ap (λ (r : List ℕ). suc (length r)) (order_same ok y o place)

  -- a label of the table, as an index
  pub label-index : (j k : ℕ) → j ≤ length o → label p (nth s j) ≡ suc k → labels_of q (coefficients_of q s) j ≡ k
  label-index j k l e =
      let c = chain ok y o place in
      let w = label_is (full ok y o place) c j l in
      let z = ap (λ (r : Simplex). label q (nth r j))
      (points_of_coefficients_of (full ok y o place).has_start s (parts q s (place-filled ok y o place)).grid_points) in
      omega (arith, w, z, filled-label (accepted-table ok) (nth s j) (omega (arith, e)), e)

  -- each index of T is the label of a point
  pub covering : (k : ℕ) → is_in eqb k o ≡ true → (j : ℕ) × (j ≤ length o) × (label p (nth s j) ≡ suc k)
  covering k m =
      let w = (labels_mean p s k).0 (all_in on_numbers (λ h. is_in eqb h (label_set p s)) o (labelled p y o place) k m) in
      let i = in_at on_points [] w.1.0 s w.1.1 in
      (i.0, omega (arith, i.1, points-long), ap (label p) i.2 ∙ w.1.2)

  pub carried : (i : ℕ) → Spare p s o i → Carries (in_t q s) (length o) (labels_of q (coefficients_of q s)) i
  carried i S k t =
      let m = sym (T-same ok y o place k) ∙ t in
      let w = covering k m in
      ⊎_elim
      (λ (e : w.0 ≡ i). other k m (rw e at w.2) S)
      (λ n. (w.0, w.1, n, label-index w.0 k w.1 w.2))
      (same_or w.0 i)
    where
      other : (k : ℕ) → is_in eqb k o ≡ true → label p (nth s i) ≡ suc k → Spare p s o i
          → (j : ℕ) × (j ≤ length o) × (j ≡ i → ⊥) × (labels_of q (coefficients_of q s) j ≡ k)
      other k m e (unknown z) = absurd (omega (arith, e, z))
      other k m e (outside h z f) = let r : h ≡ k = omega (arith, e, z) in absurd_bool (sym (rw (← r) at m) ∙ f)
      other k m e (again j l n z) = (j, l, n, label-index j k l (z ∙ e))
