-- What one move from a place gives, as a struct. Assumes nothing.
use Rattle.std.specs.Prelude.{◌≡◌, ℕ, ◌≤◌, length}
use Rattle.rules.specs.Moves.{After, State, ends_at_facet, ends_at_place, goes, make_move}
use Rattle.walk_places.specs.Walks.{kept_as, nowhere}
use Rattle.walk_ways.specs.declared.Leads.TheVariants.{FacetEnd, Onto, PlaceEnd}
use Rattle.walk_ways.specs.declared.Move.{Move}

-- the order of the state after the move fits its array
pub record CanTry (a : State) : Type 0 where
  pub short : (e : State) → make_move a ≡ goes e → length e.order ≤ 15

abbrev pub way_in : ℕ → After → Move
way_in m (goes e) = record { leads = Onto e.rule; place = kept_as m e.first e.order (length e.order) }
way_in m (ends_at_place s h) = record { leads = PlaceEnd h; place = nowhere }
way_in m (ends_at_facet s h) = record { leads = FacetEnd h; place = nowhere }
