-- In a grid of one block: the position of the point that has come in, by the step to it and by the step from it.
-- Assumes nothing.
use mathlib.Core.Bool.{Bool, true, false, cond}
use mathlib.Core.List.{List}
use mathlib.Core.Path.{◌≡◌, ◌∙◌}
use Prim.Native.Nat.{ℕ, suc, ◌+◌, ◌-◌, ◌≤◌, ◌<◌}
use borrow.Author.Tests.{lt-ltb}
use lib.Dec.{ltb}
use lib.ListN.{length}
use native.Mathlib.Omega.{arith}
use Rattle.grid.proofs.Fields.{made-accepted, made-indices}
use Rattle.positions.proofs.ByTails.{falls-room}
use Rattle.positions.proofs.Positions.{position-below}
use Rattle.positions.specs.Falls.{Falls, tail_from}
use Rattle.grid_points.specs.Grid.{position}
use Rattle.grid.specs.Made.{IsMade, shape}
use Rattle.grid.specs.declared.Grid.{Grid as GridStruct}
use Rattle.rules.specs.Read.{Falling, FallsBeside, point_on, position_at, source_at, step_at}
use Rattle.rules.specs.Moves.{State}
use Rattle.marks.specs.Reading.{CanWeigh, FallsBy, tail_by}

-- a step that lowers the position
module _ {g : GridStruct} (made : IsMade g) (one : g.blocks ≡ 1) {tails : List ℕ} {a : State} {j lag : ℕ}
    (most : lag ≤ 1) (F : Falling (shape g) tails a j lag) where
  falls : Falls (shape g) (point_on (shape g) a j) (point_on (shape g) a (suc j)) (step_at a j) (source_at a j)
      (tail_by tails a.coefficients (step_at a j) lag)
  falls =
      let e : tail_from (shape g) (point_on (shape g) a j) (step_at a j)
      ≡ tail_by tails a.coefficients (step_at a j) lag =
      omega (arith, F.tail) in
      rw e at F.falls

  can_weigh : CanWeigh g tails a.coefficients (step_at a j) (source_at a j) lag
  can_weigh = record {
    one = one;
    index = rw (made-indices g made) falls.low;
    before = falls.before;
    most = most;
    some = omega (arith, F.tail);
    room = falls-room (shape g) (made-accepted g made) falls;
  }

  step_falls : (f : ℕ) → FallsBy g tails a.coefficients (step_at a j) (source_at a j) lag f
      → position (shape g) (point_on (shape g) a j) ≡ position (shape g) (point_on (shape g) a (suc j)) + f
  step_falls f law = law _ _ falls

-- how many steps before the point that has come in have gone round the block, by the mark of point i beside it
abbrev pub lag_by : State → ℕ → ℕ
lag_by a i = cond (ltb 0 a.active) (cond (ltb (position_at a 0) (position_at a i)) 1 0) 0

pub lag_is : (a : State) (i : ℕ) {p q r : ℕ} → p ≡ position_at a i → q ≡ position_at a 0
    → r ≡ cond (ltb 0 a.active) (cond (ltb q p) 1 0) 0 → r ≡ lag_by a i
lag_is a i e f h = h ∙ rw (e, f)

at-most_1 : (b d : Bool) → cond b (cond d 1 0) 0 ≤ 1
at-most_1 true true = omega arith
at-most_1 true false = omega arith
at-most_1 false d = omega arith

-- that point
module _ {g : GridStruct} (made : IsMade g) (one : g.blocks ≡ 1) {tails : List ℕ} {a : State}
    (B : FallsBeside (shape g) tails a) where
  most : (i : ℕ) → lag_by a i ≤ 1
  most i = at-most_1 (ltb 0 a.active) (ltb (position_at a 0) (position_at a i))

  module _ (more : 0 < a.active) (before : source_at a (a.active - 1) < step_at a (a.active - 1)) where
    from-near : Falling (shape g) tails a (a.active - 1) (lag_by a (a.active - 1))
    from-near = rw (lt-ltb 0 a.active more) (B.from_near more before)

    pub weigh_near : CanWeigh g tails a.coefficients (step_at a (a.active - 1)) (source_at a (a.active - 1))
        (lag_by a (a.active - 1))
    weigh_near = can_weigh made one (most (a.active - 1)) from-near

    pub after-near : (f : ℕ)
        → FallsBy g tails a.coefficients (step_at a (a.active - 1)) (source_at a (a.active - 1))
        (lag_by a (a.active - 1)) f
        → position_at a (a.active - 1) ≡ position (shape g) (point_on (shape g) a a.active) + f
    after-near f h =
        let z : suc (a.active - 1) ≡ a.active = omega arith in
        B.near_mark more ∙ (rw z at (step_falls made one (most (a.active - 1)) from-near f h))

  module _ (low : a.active < length a.order) (before : source_at a a.active < step_at a a.active) where
    to-far : Falling (shape g) tails a a.active (lag_by a (suc a.active))
    to-far = B.to_far low before

    pub weigh_far : CanWeigh g tails a.coefficients (step_at a a.active) (source_at a a.active)
        (lag_by a (suc a.active))
    weigh_far = can_weigh made one (most (suc a.active)) to-far

    pub before-far : (f : ℕ)
        → FallsBy g tails a.coefficients (step_at a a.active) (source_at a a.active)
        (lag_by a (suc a.active)) f
        → position (shape g) (point_on (shape g) a a.active) ≡ position_at a (suc a.active) + f
    before-far f h = rw (B.far_mark low) (step_falls made one (most (suc a.active)) to-far f h)

    pub far-low : position (shape g) (point_on (shape g) a a.active) ≤ 60000
    far-low =
        let w = made-accepted g made in
        omega (arith, position-below (shape g) _ w.same_number to-far.falls.here, w.few_points)
