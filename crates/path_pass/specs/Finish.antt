-- What the pass along the path needs of its grid and table, and what it gives. The run's own promise does not cite it.
-- Assumes nothing.
use Rattle.std.specs.Prelude.{◌&&◌, cond, List, ◌≡◌, ℕ, suc, ◌+◌, ◌≤◌, ◌<◌, eqb, ltb, length, replicate, take}
use Rattle.end_kinds.specs.declared.Kind.{Kind}
use Rattle.end_kinds.specs.declared.Kind.TheVariants.{Facet as facet_end, Place as place_end}
use Rattle.grid_points.specs.Grid.{at, block_of, dimension, num_indices, position}
use Rattle.grid.specs.Made.{shape}
use Rattle.grid.specs.declared.Grid.{Grid as GridStruct}
use Rattle.path_laws.specs.Demand.{Accepted}
use Rattle.place.specs.Path.{answer, ended, spent, unknown}
use Rattle.place.specs.Problem.{Problem, label}
use Rattle.moves.specs.Held.{state_of}
use Rattle.rules.specs.Mask.{bit}
use Rattle.rules.specs.Ready.{IsRound, RoundBelow, Ready}
use Rattle.rules.specs.Read.{point_in, points_from, read, CanCompute}
use Rattle.rules.specs.Moves.{State}
use Rattle.rules.specs.declared.Round.{Round}
use Rattle.arrays.specs.declared.holding.Held.{Held}
use Rattle.moves.specs.declared.Status.{Status}
use Rattle.marks.specs.Reading.{problem_from, table_problem, CanReadPoint, HasMarks, Readable}
use Rattle.path_pass.specs.declared.Finish.{Finish}
use Rattle.path_pass.specs.declared.Finish.TheVariants.{Ended, Spent, Unknown as UnknownLabel}
use Rattle.path_pass.specs.declared.Stand.{Stand}

-- with the start that the first array holds
abbrev pub problem_in : GridStruct → List ℕ → List ℕ → Problem
problem_in g first table = problem_from g (take g.indices first) table

-- what the pass asks
pub record CanPass (g : GridStruct) (round : Round) (binomials : List ℕ) (held : Held) (table : List ℕ)
    : Type 0 where
  pub readable : Readable g binomials table
  pub is_round : IsRound (shape g) round
  pub below : RoundBelow round
  pub accepted : Accepted (problem_in g held.first table)

-- the label of the point that has come in is known, or nothing is read; or it is not, and stands at this position
abbrev pub IsKnown : Problem → State → Type 0
IsKnown p a = a.rule < 6 → 0 < label p (point_in p a a.active)

pub record IsUnknown (p : Problem) (a : State) (place : ℕ) : Type 0 where
  pub reads : a.rule < 6
  pub zero : label p (point_in p a a.active) ≡ 0
  pub at : place ≡ position p.grid (point_in p a a.active)

-- what one place of the pass asks
pub record CanVisit (g : GridStruct) (tails table : List ℕ) (a : State) : Type 0 where
  pub below : RoundBelow a.round
  pub reads : a.rule < 6 → CanReadPoint g a
  pub marks : a.rule < 6 → HasMarks g tails a
  pub ready : IsKnown (table_problem g table) a → Ready (read (table_problem g table) a)

-- the labels that are read at a place: that of the point which has come in; none after rules 6 and 7, by which
-- none does
abbrev pub labels_at : ℕ → ℕ
labels_at rule = cond (ltb rule 6) 1 0

-- where a pass stands once it has moved on
abbrev pub on_of : Stand → Status → Stand
on_of at s = record { status = s; labels = at.labels + labels_at s.rule }

-- how it ended, where the move from place number `visited`, from 0, has led to an end
abbrev pub ended_of : Stand → Kind → ℕ → ℕ → Finish
ended_of at kind h visited = Ended kind (visited + 1) h at.status at.labels

-- the status at {v}, before the mark of its one point is read
pub record IsBegun (first : List ℕ) (m : ℕ) (s : Status) : Type 0 where
  pub rule : s.rule ≡ 1
  pub none : s.count ≡ 0
  pub empty : s.t ≡ 0
  pub active : s.active ≡ 0
  pub zeros : (k : ℕ) → k < 16 → bit s.u k ≡ (ltb k m && eqb (at first k) 0)

-- a pass that stands there, before any move, with the first point that was held
pub record HasBegun (old new : Held) (m : ℕ) (at : Stand) : Type 0 where
  pub status : IsBegun old.first m at.status
  pub labels : at.labels ≡ 1
  pub first : new.first ≡ old.first
  pub order : new.order ≡ old.order
  pub no_coefficients : new.coefficients ≡ replicate 16 0
  pub no_marks : new.marks ≡ replicate 16 0

-- how it ended, where place number `visited`, from 0, needs the label at this position
abbrev pub asked_of : ℕ → ℕ → Finish
asked_of position visited = UnknownLabel visited position

-- the number of the first point of the complete simplex
abbrev pub first_point_of : Kind → ℕ
first_point_of place_end = 0
first_point_of facet_end = 1

-- the state e stands at an end, which is the answer: `places` places, an end of the kind given for the block of h, and
-- as simplex the points of e from number `from` on; `labels` labels were read
pub record Announced (p : Problem) (budget : ℕ) (kind : Kind) (from : ℕ) (e : State) (h places labels : ℕ)
    : Type 0 where
  pub first_length : length e.first ≡ 16
  pub index : h < num_indices p.grid
  pub few : length e.order ≤ dimension p.grid
  pub low : from ≤ length e.order
  pub points : CanCompute e (length e.order)
  pub is : answer p budget
      ≡ ended places labels kind (suc (block_of p.grid h)) (length (points_from p e from)) (points_from p e from)

-- where a pass of at most `budget` places ends, and what it holds of the last place
abbrev pub Finished : Problem → ℕ → Round → Held → Finish → Type 0
Finished p budget round held (Ended kind places h s labels) =
    Announced p budget kind (first_point_of kind) (state_of round held s) h places labels
Finished p budget round held (UnknownLabel places place) = answer p budget ≡ unknown places place
Finished p budget round held Spent = answer p budget ≡ spent budget
