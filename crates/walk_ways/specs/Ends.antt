-- What comes next, by a way, as a struct. Assumes nothing.
use Rattle.std.specs.Prelude.{◌≡◌, ℕ, suc, ◌-◌, ◌<◌, length, replicate}
use Rattle.end_kinds.specs.declared.Kind.{Kind}
use Rattle.end_kinds.specs.declared.Kind.TheVariants.{Facet as facet_end, Place as place_end}
use Rattle.grid_points.specs.Grid.{block_of}
use Rattle.grid.specs.Made.{shape}
use Rattle.grid.specs.declared.Grid.{Grid as GridStruct}
use Rattle.moves.specs.Room.{CanPut}
use Rattle.rules.specs.Read.{numbers_from}
use Rattle.rules.specs.Moves.{State}
use Rattle.combinatorics.specs.Front.{padded}
use Rattle.walk_places.specs.Walks.{nowhere}
use Rattle.walk_ways.specs.declared.WalkAnswer.TheVariants.{Ended, Moved, Refused}
use Rattle.walk_ways.specs.declared.Leads.{Leads}
use Rattle.walk_ways.specs.declared.Leads.TheVariants.{FacetEnd, Onto, PlaceEnd}
use Rattle.walk_ways.specs.declared.Next.{Next}
use Rattle.walk_places.specs.declared.Place.{Place}
use Rattle.walk_ways.specs.declared.Move.{Move}

abbrev pub refused_as : ℕ → Next
refused_as number = record { answer = Refused number; simplex = replicate 256 0; place = nowhere }

abbrev pub end_as : GridStruct → State → Kind → ℕ → ℕ → Next
end_as g a kind h from = record {
  answer = Ended kind (suc (block_of (shape g) h)) (suc (length a.order) - from);
  simplex = padded 256 (numbers_from g.indices a from);
  place = nowhere;
}

abbrev pub leads_as : GridStruct → State → Place → Leads → Next
leads_as g a place (Onto rule) = record { answer = Moved rule; simplex = replicate 256 0; place = place }
leads_as g a place (PlaceEnd h) = end_as g a place_end h 0
leads_as g a place (FacetEnd h) = end_as g a facet_end h 1

abbrev pub told_as : GridStruct → State → Move → Next
told_as g a w = leads_as g a w.place w.leads

pub record CanTellEnd (g : GridStruct) (a : State) (w : Move) : Type 0 where
  pub place : (h : ℕ) → w.leads ≡ PlaceEnd h → (h < g.indices) × CanPut a g.indices 0 256
  pub facet : (h : ℕ) → w.leads ≡ FacetEnd h → (h < g.indices) × CanPut a g.indices 1 256
