-- The label of the spare point filled in where it is not yet known, and what a choice by it asks. Assumes nothing.
use Rattle.std.specs.Prelude.{Bool, true, ◌&&◌, cond, List, ◌≡◌, ℕ, ◌+◌, ◌<◌, eqb, length}
use Rattle.grid_points.specs.Grid.{at}
use Rattle.grid.specs.declared.Grid.{Grid as GridStruct}
use Rattle.arrays.specs.declared.holding.Held.{Held}
use Rattle.moves.specs.declared.Status.{Status}
use Rattle.walk_next.specs.Spares.{label_at}
use Rattle.walk_ways.specs.Standing.{Standing}
use Rattle.walk_places.specs.declared.Walk.{Walk as WalkStruct}

pub record CanFill (held : Held) (point : ℕ) (unknown : Bool) : Type 0 where
  pub low : point < 16
  pub long : length held.marks ≡ 16
  pub room : unknown ≡ true → at held.marks point < 4294967295

-- what is held, with other marks
abbrev pub held_with_marks : Held → List ℕ → Held
held_with_marks held marks = record {
  first = held.first;
  coefficients = held.coefficients;
  order = held.order;
  marks = marks;
  first_long = held.first_long;
  order_long = held.order_long;
}

pub record MarksFilledBy (held : Held) (point : ℕ) (unknown : Bool) (own : Held) : Type 0 where
  pub same : own ≡ held_with_marks held own.marks
  pub long : length own.marks ≡ 16
  pub each : (j : ℕ) → at own.marks j ≡ at held.marks j + cond (unknown && eqb j point) 1 0

-- however the label of the point is filled
pub record CanChoose (g : GridStruct) (w : WalkStruct) (labels : List ℕ) (held : Held) (here : Status) : Type 0 where
  pub low : here.active < 16
  pub long : length held.marks ≡ 16
  pub room : at held.marks here.active < 4294967295
  pub stands : (own : Held) (unknown : Bool) → unknown ≡ eqb (label_at held.marks here.active) 0
      → MarksFilledBy held here.active unknown own → Standing g w labels own here unknown
