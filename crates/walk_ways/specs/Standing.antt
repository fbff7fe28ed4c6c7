-- A walk whose present place is recognised, and what comes next on it, as a struct. Assumes nothing.
use Rattle.std.specs.Prelude.{Bool, true, false, ◌&&◌, cond, List, [], ◌≡◌, ℕ, ◌+◌, ◌≤◌, ◌<◌, eqb, length, take, get_or}
use Rattle.combinatorics.specs.Lists.{is_in}
use Rattle.grid_points.specs.Grid.{at, num_indices}
use Rattle.grid.specs.Made.{IsMade, shape}
use Rattle.grid.specs.declared.Grid.{Grid as GridStruct}
use Rattle.place.specs.Coefficients.{coefficients}
use Rattle.place.specs.Places.{Simplex, is_place}
use Rattle.place.specs.Problem.{label}
use Rattle.place.specs.Questions.{table_questions}
use Rattle.questions.specs.Questions.{first_no}
use Rattle.rules.specs.Mask.{bit}
use Rattle.rules.specs.Read.{mark_of}
use Rattle.arrays.specs.declared.holding.Held.{Held}
use Rattle.moves.specs.declared.Status.{Status}
use Rattle.rules.specs.Ready.{IsRound, RoundBelow}
use Rattle.rules.specs.declared.Round.{Round}
use Rattle.walks.specs.Kept.{kept_points, zero_outside}
use Rattle.walks.specs.Next.{next_of}
use Rattle.walk_ways.specs.Counted.{Counted}
use Rattle.walk_ways.specs.Spare.{Spare}
use Rattle.walk_places.specs.Walks.{place_of, same_place, table_on, walk_on}
use Rattle.walk_ways.specs.Answers.{next_as}
use Rattle.walk_ways.specs.declared.Leads.{Leads}
use Rattle.walk_ways.specs.declared.Leads.TheVariants.{FacetEnd, Onto, PlaceEnd}
use Rattle.walk_ways.specs.declared.Next.{Next}
use Rattle.walk_places.specs.declared.Place.{Place}
use Rattle.walk_places.specs.declared.Walk.{Walk as WalkStruct}
use Rattle.walk_ways.specs.declared.Move.{Move}

-- what comes next on the walk, on its grid
abbrev pub next_in : GridStruct → WalkStruct → List ℕ → Next
next_in g w labels = next_as (walk_on (shape g) w) labels (next_of (walk_on (shape g) w) labels)

-- the points that a first point and an order keep
abbrev pub points_kept : GridStruct → List ℕ → List ℕ → ℕ → Simplex
points_kept g first order n = kept_points (shape g) (take g.indices first) (take n order)

abbrev pub is_onto : Leads → Bool
is_onto (Onto rule) = true
is_onto (PlaceEnd h) = false
is_onto (FacetEnd h) = false

abbrev pub leads_back : Move → Place → Bool
leads_back way before = is_onto way.leads && same_place way.place before

-- the ways round the blocks are those of the grid
abbrev pub IsRoundOf : GridStruct → Round → Type 0
IsRoundOf g round = IsRound (shape g) round × RoundBelow round

-- The walk passes questions 1 to 7, its counts are in range, it carries its place's labels, and its present place is
-- one, which is held. T and U are masks, the point that a status has as the active one is the spare point, and the marks
-- have index 1 for the label that is not yet known, if any: that of this point.
pub record Standing (g : GridStruct) (w : WalkStruct) (labels : List ℕ) (held : Held) (here : Status)
    (unknown : Bool) : Type 0 where
  pub made : IsMade g
  pub asked : first_no (table_questions (table_on g w labels)) ≡ 0
  pub came_in : here.rule < 6
  pub few : here.count ≤ 15
  pub list_long : length held.coefficients ≡ 16
  pub marks_long : length held.marks ≡ 16
  pub present : place_of (shape g) w.present ≡ points_kept g held.first held.order here.count
  pub place : is_place (table_on g w labels) (points_kept g held.first held.order here.count) ≡ true
  pub in_t : (k : ℕ) → k < 16 → bit here.t k ≡ is_in eqb k (take here.count held.order)
  pub in_u : (k : ℕ) → k < 16
      → bit here.u k ≡ is_in eqb k (zero_outside (shape g) (take here.count held.order) (take g.indices held.first))
  pub list_at : (k : ℕ) → k < num_indices (shape g)
      → at held.coefficients k ≡ at (coefficients (table_on g w labels) (take g.indices held.first)) k
  pub low : here.active ≤ here.count
  pub spare : Spare (table_on g w labels) (points_kept g held.first held.order here.count)
      (take here.count held.order) here.active
  pub unknown_is : unknown
      ≡ eqb (label (table_on g w labels) (get_or (points_kept g held.first held.order here.count) here.active [])) 0
  pub marked : (j : ℕ) → j ≤ here.count
      → at held.marks j
      ≡ mark_of (table_on g w labels) (get_or (points_kept g held.first held.order here.count) j [])
      + cond (unknown && eqb j here.active) 1 0
  pub counted : Counted (walk_on (shape g) w) labels
