-- A walk that faces the other way. Assumes nothing.
use Rattle.walk_places.specs.declared.Place.{Place}
use Rattle.walk_places.specs.declared.Walk.{Walk as WalkStruct}

-- the walk with another place before it
abbrev pub turned_as : WalkStruct → Place → WalkStruct
turned_as w before = record {
  places = w.places;
  labels_read = w.labels_read;
  present = w.present;
  before = before;
  start = w.start;
  divisions = w.divisions;
  sizes = w.sizes;
  blocks = w.blocks;
  carried = w.carried;
}
