-- Points that have their 0s at the same indices have the same boundary label or are all interior; so the points that
-- follow one where only its last two numbers change, both positive, are labelled alike. Assumes nothing.
use mathlib.Core.Bool.{not, cond}
use mathlib.Core.List.{List, [], ◌∷◌, ◌++◌}
use mathlib.Core.Path.{◌≡◌, refl, sym, ap, ◌∙◌}
use Prim.Native.Nat.{ℕ, zero, suc, ◌+◌, ◌-◌, ◌≤◌, ◌<◌}
use borrow.Author.Tests.{lt-ltb, ne_eqb}
use lib.Dec.{eqb, ltb}
use lib.ListN.{length, get_or, take, length-append}
use native.Mathlib.Omega.{arith}
use Rattle.combinatorics.proofs.Lists.{filter_cong, on_numbers}
use Rattle.combinatorics.specs.Lists.{first_or}
use Rattle.grid_points.specs.Grid.{Grid, Point, at, indices, num_points, points, previous}
use Rattle.points_in_order.proofs.Shifts.{shifted_none, shifted-points, two-numbers}
use Rattle.points_in_order.specs.Lent.{WithFirsts}
use Rattle.points_in_order.specs.Shifted.{last_but_one, last_one, end_shifted}
use Rattle.boundary_labels.proofs.PointLabels.{table_kth}
use Rattle.boundary_labels.specs.Boundary.{boundary_index, boundary_label, boundary_table, is_interior}
use Rattle.boundary_labels.specs.Boundary.{is_zero_behind_positive}

-- positive at the same indices
abbrev Alike : Point → Point → Type 0
Alike y z = (h : ℕ) → ltb 0 (at y h) ≡ ltb 0 (at z h)

interior_alike : (y z : Point) → length y ≡ length z → Alike y z → is_interior y ≡ is_interior z
unfolding is_interior
interior_alike [] [] e a = refl
interior_alike [] (w ∷ z) e a = absurd (omega arith)
interior_alike (x ∷ y) [] e a = absurd (omega arith)
interior_alike (x ∷ y) (w ∷ z) e a = rw (a 0, interior_alike y z (omega arith) (λ h. a (suc h)))

zero_or_positive : (x : ℕ) → eqb x 0 ≡ not (ltb 0 x)
zero_or_positive zero = refl
zero_or_positive (suc x) = rw (ne_eqb (suc x) 0 (λ e. omega arith), lt-ltb 0 (suc x) (omega arith))

index-alike : (g : Grid) (y z : Point) → Alike y z → boundary_index g y ≡ boundary_index g z
unfolding boundary_index is_zero_behind_positive
index-alike g y z a =
    ap (first_or 0) (filter_cong on_numbers (indices g) (λ h m.
    rw (zero_or_positive (at y h), zero_or_positive (at z h), a h, a (previous g h))))

tail-alike : (pre : List ℕ) (a b c d : ℕ) → ltb 0 a ≡ ltb 0 c → ltb 0 b ≡ ltb 0 d
    → Alike (pre ++ (a ∷ b ∷ [])) (pre ++ (c ∷ d ∷ []))
tail-alike [] a b c d e f zero = e
tail-alike [] a b c d e f (suc zero) = f
tail-alike [] a b c d e f (suc (suc h)) = refl
tail-alike (x ∷ pre) a b c d e f zero = refl
tail-alike (x ∷ pre) a b c d e f (suc h) = tail-alike pre a b c d e f h

module _ (g : Grid) (y : Point) (long : 2 ≤ length y) (positive : 0 < last_but_one y) (i : ℕ) (less : i < last_one y) where
  alike : Alike (end_shifted y 0) (end_shifted y i)
  alike =
      tail-alike (take (length y - 2) y) (last_but_one y + 0) (last_one y - 0) (last_but_one y + i) (last_one y - i)
      (lt-ltb 0 (last_but_one y + 0) (omega arith) ∙ sym (lt-ltb 0 (last_but_one y + i) (omega arith)))
      (lt-ltb 0 (last_one y - 0) (omega arith) ∙ sym (lt-ltb 0 (last_one y - i) (omega arith)))

  same_length : length (end_shifted y 0) ≡ length (end_shifted y i)
  same_length = rw (length-append, length-append)

  -- the label of the shifted point, whose old byte is given
  shifted-label : (old : ℕ)
      → cond (is_interior (end_shifted y i)) old (boundary_label g (end_shifted y i))
      ≡ cond (is_interior y) old (boundary_label g y)
  shifted-label old =
      let e : is_interior (end_shifted y i) ≡ is_interior y =
      sym (interior_alike (end_shifted y 0) (end_shifted y i) same_length alike) ∙ ap is_interior (shifted_none y long) in
      let f : boundary_index g (end_shifted y i) ≡ boundary_index g y =
      sym (index-alike g (end_shifted y 0) (end_shifted y i) alike) ∙ ap (boundary_index g) (shifted_none y long) in
      rw (e, f)

-- the bytes behind the k-th, as long as both numbers stay positive
pub run-bytes : (g : Grid) (firsts old : List ℕ) → WithFirsts g firsts → (k : ℕ) (y : Point) → y ≡ get_or (points g) k []
    → 0 < last_but_one y → (i : ℕ) → i < last_one y → k + i < num_points g
    → get_or (boundary_table g old) (k + i) 0 ≡ cond (is_interior y) (get_or old (k + i) 0) (boundary_label g y)
run-bytes g firsts old l k y here positive i less h =
    let z = sym (shifted-points g firsts l k y here i h (omega arith)) in
    table_kth g old (k + i) h (end_shifted y i) z
    ∙ shifted-label g y (two-numbers g firsts l k y here (omega arith)) positive i less (get_or old (k + i) 0)
