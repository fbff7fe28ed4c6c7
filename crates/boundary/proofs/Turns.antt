-- The passes over the numbers of a point and over the points, one turn at a time. Assumes nothing.
use mathlib.Core.Bool.{true, false, cond}
use mathlib.Core.List.{List, [], ◌∷◌}
use mathlib.Core.Logic.{⊎_elim}
use mathlib.Core.Path.{◌≡◌, sym, ◌∙◌}
use Prim.Native.Nat.{ℕ, ◌+◌, ◌-◌, ◌≤◌, ◌<◌}
use borrow.Author.Tests.{eq-eqb, ne_eqb}
use lib.ListN.{length, get_or, set, take}
use lib.Seq.{get_or_at, length-take-le}
use native.Mathlib.Omega.{arith}
use Rattle.combinatorics.proofs.Basics.{before_or_not, false_of, true_or_false}
use Rattle.combinatorics.proofs.Fronts.{front-copy, front_full, front-whole}
use Rattle.combinatorics.specs.Front.{front}
use Rattle.grid_points.proofs.Accepted.{Accepted, accepted}
use Rattle.grid_points.proofs.CoordinatesBelow.{coordinate_below}
use Rattle.grid_points.proofs.Round.{next-previous}
use Rattle.grid_points.specs.Grid.{Grid, Point, at, num_indices, num_points, points, previous}
use Rattle.points_in_order.proofs.Blocks.{point-length}
use Rattle.points_in_order.proofs.InOrder.{point_at}
use Rattle.points_in_order.proofs.Shifts.{shifted-points, two-numbers}
use Rattle.points_in_order.specs.Lent.{WithFirsts}
use Rattle.points_in_order.specs.Shifted.{last_but_one, last_one, end_shifted}
use Rattle.boundary_labels.proofs.Alike.{run-bytes}
use Rattle.boundary_labels.proofs.PointLabels.{first-index, interior_is, table_kth, table-length}
use Rattle.boundary_labels.proofs.Rounds.{behind_means, means_behind}
use Rattle.boundary_labels.specs.Boundary.{boundary_label, boundary_table, is_interior, is_zero_behind_positive}
use Rattle.boundary.specs.Lent.{FilledBy, PointToLabel, found_or}

-- the index k has no 0 behind a positive number, by the array of the indices before
abbrev pub Passed : List ℕ → Point → ℕ → Type 0
Passed before y k = at y k ≡ 0 → at y (get_or before k 0) ≡ 0

module _ (g : Grid) (before : List ℕ) (y : Point) (on : PointToLabel g before y) where
  yes : Accepted g
  yes = accepted g on.accepted

  numbers : length y ≡ num_indices g
  numbers = point-length g yes y on.is_point

  pub few : length y ≤ 16
  few = omega (arith, numbers, yes.few_indices)

  pub before-inside : (h : ℕ) → h < length y → get_or before h 0 < length y
  before-inside h l =
      let m : h < num_indices g = omega (arith, numbers) in
      omega (arith, numbers, on.befores h m, (next-previous g h m).1)

  passed : (k : ℕ) → k < num_indices g → Passed before y k → is_zero_behind_positive g y k ≡ false
  passed k l n =
      false_of _ (λ t.
      let b = behind_means g y k t in
      let e : at y (previous g k) ≡ 0 = rw (on.befores k l) at (n b.0) in
      omega (arith, b.1))

  met : (h : ℕ) → h < num_indices g → at y h ≡ 0 → (at y (get_or before h 0) ≡ 0 → ⊥) → is_zero_behind_positive g y h ≡ true
  met h l z n =
      let p : at y (previous g h) ≡ 0 → ⊥ = λ e. n (rw (on.befores h l) e) in
      means_behind g y h z (omega (arith, p))

  -- the first index with a 0 behind a positive number gives the label
  pub label_met : (old h : ℕ) → h < length y → ((k : ℕ) → k < h → Passed before y k) → at y h ≡ 0
      → (at y (get_or before h 0) ≡ 0 → ⊥) → h + 1 ≡ cond (is_interior y) old (boundary_label g y)
  label_met old h l none z n =
      let m : h < num_indices g = omega (arith, numbers) in
      let f = first-index g yes y on.is_point h m (λ k i. passed k (omega arith) (none k i)) (met h m z n) in
      rw (f.0, f.1) (omega arith)

  -- where there is none, the old label stays
  pub label_kept : (old : ℕ) → ((k : ℕ) → k < length y → Passed before y k)
      → old ≡ cond (is_interior y) old (boundary_label g y)
  label_kept old none =
      let i = interior_is g yes y on.is_point (λ k l. passed k l (none k (omega (arith, numbers)))) in
      rw i

-- the table, a byte a turn
module _ (g : Grid) (old buffer : List ℕ) (room : length buffer ≡ num_points g) where
  pub written : (k : ℕ) → k < num_points g → (y : Point) → y ≡ get_or (points g) k []
      → (l : ℕ) → l ≡ cond (is_interior y) (get_or old k 0) (boundary_label g y)
      → set (front (take k (boundary_table g old)) buffer) k l ≡ front (take (k + 1) (boundary_table g old)) buffer
  written k h y e l is =
      rw (is ∙ sym (table_kth g old k h y e))
      (front-copy (boundary_table g old) buffer k (rw table-length h) (omega arith))

  pub all-written : (k : ℕ) → k ≡ num_points g → front (take k (boundary_table g old)) buffer ≡ boundary_table g old
  all-written k e =
      front-whole (boundary_table g old) buffer k (e ∙ sym (table-length g old))
      ∙ front_full (boundary_table g old) buffer (table-length g old ∙ sym room)

-- a turn over the points: the k-th, and as many behind it as are labelled alike
module _ (g : Grid) (firsts old : List ℕ) (l : WithFirsts g firsts) (k : ℕ) (y : Point)
    (here : y ≡ get_or (points g) k []) (more : ℕ) (inside : k + 1 + more ≤ num_points g)
    (alike : 0 < more → (0 < last_but_one y) × (more < last_one y)) where
  a_turn : Accepted g
  a_turn = accepted g l.accepted

  pub long : 2 ≤ length y
  long = two-numbers g firsts l k y here (omega arith)

  pub low : more ≤ last_one y
  low =
      ⊎_elim
      (λ (c : 0 < more). omega (arith, (alike c).1))
      (λ (c : more ≤ 0). omega arith)
      (before_or_not 0 more)

  -- the point at which the turn ends
  pub turn_point : end_shifted y more ≡ get_or (points g) (k + more) []
  turn_point = sym (shifted-points g firsts l k y here more (omega arith) low)

  -- whose last number but one is no more than 60,000
  pub turn_fits : last_but_one y + more < 65536
  turn_fits =
      let on = point_at g firsts l (k + more) (omega arith) (end_shifted y more) turn_point in
      let z = end_shifted y more in
      let below = coordinate_below g a_turn.sizes_two a_turn.same_number z on.is_point (length y - 2) in
      let front : length (take (length y - 2) y) ≡ length y - 2 = length-take-le (length y - 2) y (omega arith) in
      let is = get_or_at (take (length y - 2) y) (last_but_one y + more) ((last_one y - more) ∷ []) 0 (length y - 2) front in
      omega (arith, below, is, a_turn.few_points)

  module _ (found : ℕ) (is : found ≡ cond (is_interior y) 0 (boundary_label g y)) where
    -- the byte of each point of the turn
    pub found_or-is : (o : ℕ) → found_or found o ≡ cond (is_interior y) o (boundary_label g y)
    found_or-is o =
        ⊎_elim
        (λ (t : is_interior y ≡ true). let z : found ≡ 0 = is ∙ rw t in rw (t, eq-eqb found 0 z))
        (λ (f : is_interior y ≡ false).
        let z : found ≡ boundary_label g y = is ∙ rw f in
        rw (f, ne_eqb found 0 (λ e. omega arith)) z)
        (true_or_false (is_interior y))

    pub turn_filled : FilledBy (boundary_table g old) old found (k + 1) (k + 1 + more)
    turn_filled i from to =
        let j : ℕ = i - k in
        let e : k + j ≡ i = omega arith in
        let c = alike (omega arith) in
        found_or-is (get_or old i 0)
        ∙ sym (rw e at (run-bytes g firsts old l k y here c.0 j (omega (arith, c.1)) (omega arith)))
