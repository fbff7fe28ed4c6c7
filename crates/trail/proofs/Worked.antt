-- The trail of document 01's sheet is the one worked out by hand, and a reader makes of each row's bytes what stands
-- there. Assumes nothing.
use mathlib.Core.List.{map}
use mathlib.Core.Path.{◌≡◌, refl}
use Rattle.grid_points.specs.Grid.{next, previous, is_grid_point, points, bound}
use Rattle.place.specs.Coefficients.{coefficients}
use Rattle.place.specs.Ends.{is_complete, complete_for, place_ends, facet_ends, ends, ways}
use Rattle.place.specs.LabelsRead.{came_in, labels_read}
use Rattle.place.specs.Links.{exchanged, extended, linked, links}
use Rattle.place.specs.Path.{ways_on, path}
use Rattle.place.specs.Places.{set_u, set_t, label_set, first_back_outside, goes_to, grown_at, every_block_free}
use Rattle.place.specs.Places.{is_unlabelled_place, is_place, places}
use Rattle.place.specs.Problem.{label}
use Rattle.trail.specs.Change.{change, rules}
use Rattle.trail.specs.Record.{record_of, start_record, trail_of}
use Rattle.trail.specs.Trail.{is_move, unlabelled_places, read_on, rebuilt, rebuilt_places, reading}
use Rattle.trail.specs.Worked.{sheet, sheet_trail, table}

written : trail_of sheet (path sheet).visited ≡ sheet_trail
unfolding next previous is_grid_point points label coefficients set_u set_t label_set first_back_outside goes_to grown_at
    every_block_free is_unlabelled_place is_place places exchanged extended linked links is_complete complete_for place_ends
    facet_ends ends ways ways_on bound path change rules record_of start_record trail_of
written = refl

worked : map (λ r. reading r.problem r.bytes r.number) table ≡ map (λ r. r.result) table
unfolding next previous is_grid_point points coefficients set_u set_t first_back_outside goes_to grown_at every_block_free
    is_unlabelled_place change rules record_of start_record is_move unlabelled_places read_on rebuilt rebuilt_places came_in
    labels_read reading
worked = refl
