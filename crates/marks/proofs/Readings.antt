-- The reading of a mark: a label by its position in the table, the point by its steps, and its position by the other
-- corners of a square. Assumes nothing.
use mathlib.Core.Bool.{true, not, ◌&&◌, ◌||◌}
use mathlib.Core.List.{List}
use mathlib.Core.Logic.{◌⊎◌, inl, inr, ⊎_elim}
use mathlib.Core.Path.{◌≡◌, refl, ◌∙◌}
use Prim.Native.Nat.{ℕ, suc, ◌+◌, ◌-◌, ◌≤◌, ◌<◌}
use Rattle.std.specs.Prelude.{Ok, Err}
use borrow.Author.Tests.{eqb-false, ltb-true, leb-true, ne_eqb, not-true}
use lib.Dec.{eqb, ltb, leb}
use lib.ListN.{length, replicate, take}
use native.Mathlib.Omega.{arith}
use Rattle.combinatorics.proofs.Basics.{and_left, and_right, or_cases}
use Rattle.combinatorics.proofs.EditsOfArrays.{first-few}
use Rattle.grid.proofs.Fields.{indices-few, made-accepted, made-indices}
use Rattle.positions.proofs.Positions.{position-below}
use Rattle.positions.proofs.Squares.{square_adds}
use Rattle.positions.proofs.Steps.{after_is}
use Rattle.positions.specs.Squares.{Apart}
use Rattle.positions.specs.Steps.{CanTakeSteps, after_steps}
use Rattle.grid_points.specs.Grid.{Grid, Point, at, block_of, is_grid_point, position}
use Rattle.grid.specs.Made.{IsMade, shape}
use Rattle.grid.specs.declared.Grid.{Grid as GridStruct}
use Rattle.place.specs.Problem.{label}
use Rattle.rules.proofs.PointsAfter.{after_taken, counts_add, counts_ready, few-ready, length-after}
use Rattle.moves.specs.Held.{state_of}
use Rattle.rules.specs.Read.{Exchanged, ReadyPoint, point_after, point_on, position_at, step_at}
use Rattle.rules.specs.Moves.{State, mark, source, source_in}
use Rattle.rules.specs.declared.Round.{Round}
use Rattle.moves.specs.declared.Status.{Status}
use Rattle.marks.specs.Reading.{Readable, CanReadPoint, add_up, label_reading}
use Rattle.marks.specs.Reading.{table_problem}
use Rattle.arrays.specs.declared.holding.Held.{Held}

-- a grid point's label stands in the table at its position
module _ (g : GridStruct) (binomials table : List ℕ) (R : Readable g binomials table) (y : Point) where
  pub in_table : is_grid_point (shape g) y ≡ true → position (shape g) y < length table
  in_table h = omega (arith, R.whole, position-below (shape g) y (made-accepted g R.made).same_number h)

  pub label_is : label (table_problem g table) y ≡ at table (position (shape g) y)
  unfolding label
  label_is = refl

  -- what is read of the point, by the byte that stands in the table
  pub read-gap : at table (position (shape g) y) ≡ 0 → Err (record { position = position (shape g) y })
      ≡ label_reading (table_problem g table) y
  read-gap e = rw (label_is, e)

  pub read-mark : (at table (position (shape g) y) ≡ 0 → ⊥)
      → Ok (mark (position (shape g) y) (at table (position (shape g) y))) ≡ label_reading (table_problem g table) y
  read-mark n = rw (label_is, ne_eqb (at table (position (shape g) y)) 0 n)

-- the test means what it says
add_up_means : (g : Grid) (from : ℕ → ℕ) (h k : ℕ) → add_up g from h k ≡ true → Apart g h (from h) k (from k)
add_up_means g from h k e = ⊎_elim
    (λ o. inl (eqb-false _ _ (not-true _ o)))
    (λ o. inr (together o))
    (or_cases (not (eqb (block_of g h) (block_of g k))) _ e)
  where
    together : (ltb (from h) h && (ltb (from k) k && (leb h (from k) || leb k (from h)))) ≡ true
        → (from h < h) × (from k < k) × ((h ≤ from k) ⊎ (k ≤ from h))
    together o =
        let r = and_right (ltb (from h) h) _ o in
        let ends = or_cases (leb h (from k)) _ (and_right (ltb (from k) k) _ r) in (
          ltb-true _ _ (and_left (ltb (from h) h) _ o),
          ltb-true _ _ (and_left (ltb (from k) k) _ r),
          ⊎_elim (λ l. inl (leb-true _ _ l)) (λ l. inr (leb-true _ _ l)) ends,
        )

-- the point that has come in needs the steps before it only, and these are counted apart from the first point
module _ (g : GridStruct) (made : IsMade g) (round : Round) (held : Held) (s : Status)
    (R : CanReadPoint g (state_of round held s)) where
  abbrev first : List ℕ
  first = held.first

  abbrev order : List ℕ
  order = held.order

  abbrev from : ℕ → ℕ
  from = source round s.u

  early : s.active ≤ s.count
  early = omega (arith, R.point.low, first-few s.count order)

  point-ready : ReadyPoint from (take s.active order) first s.active
  point-ready = few-ready from order first s.count s.active early R.point

  pub steps-ready : ReadyPoint from (take s.active order) (replicate 16 16) s.active
  steps-ready = counts_ready from (take s.active order) first R.first_length s.active point-ready

  abbrev steps : List ℕ
  steps = point_after from (take s.active order) (replicate 16 16) s.active

  abbrev point : List ℕ
  point = point_after from (take s.active order) first s.active

  steps_add : (k : ℕ) → k < g.indices → at point k + 16 ≡ at first k + at steps k
  steps_add k l = counts_add from (take s.active order) first R.first_length s.active point-ready k
      (omega (arith, indices-few g made))

  pub can_step_lem : CanTakeSteps g.indices first steps
  can_step_lem k l = omega (arith, steps_add k l)

  pub point_at : take g.indices (after_steps first steps)
      ≡ point_on (shape g) (state_of round held s) s.active
  point_at =
      after_is first steps point g.indices (indices-few g made)
      (omega (arith, length-after from (take s.active order) first s.active, R.first_length, indices-few g made))
      steps_add
      ∙ rw (
        ← after_taken from order first s.active s.active (omega arith),
        ← after_taken from order first s.count s.active early,
        made-indices g made,
      )

-- the point that has come in between two steps that changed places is the fourth corner of their square
module _ (g : GridStruct) (made : IsMade g) (a : State) (more : 0 < a.active) (X : Exchanged (shape g) a) where
  pub corner-indices : (step_at a (a.active - 1) < g.indices) × (step_at a a.active < g.indices)
  corner-indices = (
    rw (made-indices g made) (X.indices (a.active - 1) (omega (arith, X.low))).0,
    rw (made-indices g made) (X.indices a.active X.low).0,
  )

  pub corners_add : add_up (shape g) (source_in a) (step_at a (a.active - 1)) (step_at a a.active) ≡ true
      → position (shape g) (point_on (shape g) a a.active) + position_at a a.active
      ≡ position_at a (a.active - 1) + position_at a (suc a.active)
  corners_add apart =
      let i = X.indices (a.active - 1) (omega (arith, X.low)) in
      let j = X.indices a.active X.low in
      let S = square_adds (shape g) _ _ _ _ _ _ _ _ (made-accepted g made) (record {
        point_y = X.near;
        point_a = X.here;
        point_b = X.gone;
        point_d = X.far;
        moved_a = X.to_here;
        moved_b = X.to_gone;
        moved_d = X.to_far;
        low_h = i.0;
        low_k = j.0;
        block_c = i.1;
        block_e = j.1;
        apart = add_up_means (shape g) (source_in a) _ _ apart;
      }) in
      rw (X.near_mark, X.gone_mark, X.far_mark) S
