-- The points of the place that a state holds, and the reading of a mark. The run's own promise does not cite it.
-- Assumes nothing.
use Rattle.std.specs.Prelude.{true, cond, List, map, ◌≡◌, ℕ, zero, suc, ◌+◌, ◌-◌, ◌≤◌, ◌<◌, ltb, length, take}
use Rattle.combinatorics.specs.Lists.{concat_map, up_from}
use Rattle.grid_points.specs.Grid.{Grid, Point, at, num_indices, block_of, is_grid_point, position, MovedBy}
use Rattle.positions.specs.Falls.{tail_from, Falls}
use Rattle.place.specs.Places.{Simplex}
use Rattle.place.specs.Problem.{Problem, label}
use Rattle.rules.specs.Moves.{State, mark, mark_position, shifted, source_in, with_mark}

-- the first point after the first i steps of the order, where a step at h takes from the index `from h`
unfoldable pub point_after : (ℕ → ℕ) → List ℕ → List ℕ → ℕ → List ℕ
point_after from order first zero = first
point_after from order first (suc i) =
    let y = point_after from order first i in shifted y (at order i) (from (at order i))

-- point i of the place, in an array and as a grid point
abbrev pub array_of : State → ℕ → List ℕ
array_of s i = point_after (source_in s) s.order s.first i

abbrev pub point_on : Grid → State → ℕ → Point
point_on g s i = take (num_indices g) (array_of s i)

abbrev pub point_in : Problem → State → ℕ → Point
point_in p s i = point_on p.grid s i

-- the index of step j, and the one that it takes from
abbrev pub step_at : State → ℕ → ℕ
step_at s j = at s.order j

abbrev pub source_at : State → ℕ → ℕ
source_at s j = source_in s (step_at s j)

-- where two steps have changed places and a point has come in between them: the point that left, by the second of them
-- from the point before
abbrev pub point_gone : Grid → State → Point
point_gone g s =
    take (num_indices g) (shifted (array_of s (s.active - 1)) (step_at s s.active) (source_at s s.active))

-- its points from number i on
abbrev pub points_from : Problem → State → ℕ → Simplex
points_from p s i = map (point_in p s) (up_from i (suc (length s.order) - i))

-- the first m numbers of each of them, one after the other
abbrev pub numbers_from : ℕ → State → ℕ → List ℕ
numbers_from m s i = concat_map (λ y. y) (map (λ j. take m (array_of s j)) (up_from i (suc (length s.order) - i)))

-- a grid point's mark
abbrev pub mark_of : Problem → Point → ℕ
mark_of p y = mark (position p.grid y) (label p y)

-- the mark of the point that has just come in is read; after rules 6 and 7 none has
unfoldable pub read : Problem → State → State
read p s = cond (ltb s.rule 6) (with_mark s (mark_of p (point_in p s s.active))) s

-- the position in the mark of point i
abbrev pub position_at : State → ℕ → ℕ
position_at s i = mark_position (at s.marks i)

-- step j goes from the point y to z
abbrev pub MovedAt : Grid → State → ℕ → Point → Point → Type 0
MovedAt g s j y z = MovedBy g y z (step_at s j) (source_at s j)

-- The square of two steps that have changed places: the point before, the point that has come in, the point that left
-- and the point behind. The mark of the point that left still stands for the one that has come in.
pub record Exchanged (g : Grid) (s : State) : Type 0 where
  pub low : s.active < length s.order
  pub near : is_grid_point g (point_on g s (s.active - 1)) ≡ true
  pub here : is_grid_point g (point_on g s s.active) ≡ true
  pub gone : is_grid_point g (point_gone g s) ≡ true
  pub far : is_grid_point g (point_on g s (suc s.active)) ≡ true
  pub to_here : MovedAt g s (s.active - 1) (point_on g s (s.active - 1)) (point_on g s s.active)
  pub to_gone : MovedAt g s s.active (point_on g s (s.active - 1)) (point_gone g s)
  pub to_far : MovedAt g s s.active (point_on g s s.active) (point_on g s (suc s.active))
  pub indices : (j : ℕ) → j < length s.order
      → (step_at s j < num_indices g) × (block_of g (source_at s j) ≡ block_of g (step_at s j))
  pub near_mark : position_at s (s.active - 1) ≡ position g (point_on g s (s.active - 1))
  pub gone_mark : position_at s s.active ≡ position g (point_gone g s)
  pub far_mark : position_at s (suc s.active) ≡ position g (point_on g s (suc s.active))

-- 1 where the position of point i, by its mark, is above the first point's
abbrev pub above : State → ℕ → ℕ
above s i = cond (ltb (position_at s 0) (position_at s i)) 1 0

-- In a grid of one block, step j of the order lowers the position. The coordinates of point j from the step's index on
-- add up to what those of the start do, but for coefficients: that of the index, and that of the first index, which is
-- the first point's or, where a step before has gone round the block, 1 more.
pub record Falling (g : Grid) (tails : List ℕ) (s : State) (j lag : ℕ) : Type 0 where
  pub falls : Falls g (point_on g s j) (point_on g s (suc j)) (step_at s j) (source_at s j)
      (tail_from g (point_on g s j) (step_at s j))
  pub tail : tail_from g (point_on g s j) (step_at s j) + (at s.coefficients 0 + lag)
      ≡ at tails (step_at s j) + at s.coefficients (step_at s j)

-- In a grid of one block: the steps to and from the point that has just come in, where they take from an index before
-- their own, and the marks of the points beside it. The position of a point is above the first's where a step before
-- has gone round the block, and only there.
pub record FallsBeside (g : Grid) (tails : List ℕ) (s : State) : Type 0 where
  pub near_mark : 0 < s.active → position_at s (s.active - 1) ≡ position g (point_on g s (s.active - 1))
  pub far_mark : s.active < length s.order
      → position_at s (suc s.active) ≡ position g (point_on g s (suc s.active))
  pub from_near : 0 < s.active → source_at s (s.active - 1) < step_at s (s.active - 1)
      → Falling g tails s (s.active - 1) (above s (s.active - 1))
  pub to_far : s.active < length s.order → source_at s s.active < step_at s s.active
      → Falling g tails s s.active (cond (ltb 0 s.active) (above s (suc s.active)) 0)

-- point i can be computed: each step has 1 to take and room for 1 more
pub record ReadyPoint (from : ℕ → ℕ) (order first : List ℕ) (i : ℕ) : Type 0 where
  pub low : i ≤ length order
  pub few : length order ≤ 15
  pub indices : (j : ℕ) → j < length order → at order j < 16
  pub positive : (j : ℕ) → j < i → 1 ≤ at (point_after from order first j) (from (at order j))
  pub fits : (j : ℕ) → j < i → at (point_after from order first j) (at order j) < 65535

abbrev pub CanCompute : State → ℕ → Type 0
CanCompute s i = ReadyPoint (source_in s) s.order s.first i
