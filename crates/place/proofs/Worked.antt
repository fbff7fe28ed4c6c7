-- The nine marked ends, the three rows with a label not yet known, the label that is refused and the longer path hold
-- of the definitions: a run on each row's table gives what stands there. Assumes nothing.
use mathlib.Core.List.{map}
use mathlib.Core.Path.{◌≡◌, refl}
use Rattle.grid_points.specs.Grid.{next, previous, is_grid_point, points, bound}
use Rattle.questions.specs.Questions.{first_no}
use Rattle.place.specs.Coefficients.{coefficients}
use Rattle.place.specs.Ends.{is_complete, complete_for, place_ends, facet_ends, ends, ways}
use Rattle.place.specs.LabelsRead.{came_in, labels_read}
use Rattle.place.specs.Links.{exchanged, extended, linked, links}
use Rattle.place.specs.Path.{ways_on, path, answer}
use Rattle.place.specs.Places.{set_u, set_t, label_set, first_back_outside, goes_to, grown_at, every_block_free}
use Rattle.place.specs.Places.{is_unlabelled_place, is_place, places}
use Rattle.place.specs.Problem.{label}
use Rattle.place.specs.Worked.{given, table}

worked : map given table ≡ map (λ r. r.result) table
unfolding next previous is_grid_point points label coefficients set_u set_t label_set first_back_outside goes_to grown_at
    every_block_free is_unlabelled_place is_place places exchanged extended linked links is_complete complete_for place_ends
    facet_ends ends ways ways_on bound path answer came_in labels_read first_no
worked = refl
