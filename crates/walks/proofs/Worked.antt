-- The calls of the table give its answers and its walks. Assumes nothing.
use mathlib.Core.List.{map}
use mathlib.Core.Path.{◌≡◌, refl}
use Rattle.grid_points.specs.Grid.{bound, is_grid_point, next, points, previous}
use Rattle.place.specs.Coefficients.{coefficients}
use Rattle.place.specs.Ends.{complete_for, ends, facet_ends, is_complete, place_ends, ways}
use Rattle.place.specs.Links.{exchanged, extended, linked, links}
use Rattle.place.specs.Path.{ways_on}
use Rattle.place.specs.Places.{every_block_free, first_back_outside, goes_to, grown_at, is_place, is_unlabelled_place, label_set}
use Rattle.place.specs.Places.{places, set_t, set_u}
use Rattle.place.specs.Problem.{label}
use Rattle.questions.specs.Questions.{first_no}
use Rattle.trail.specs.Change.{change, rules}
use Rattle.walks.specs.Next.{move_answer, move_walk, next_of, rule_of}
use Rattle.walks.specs.Walk.{is_walk}
use Rattle.walks.specs.Worked.{given, table}

pub worked : map given table ≡ map (λ r. (r.answers, r.after)) table
unfolding first_no bound is_grid_point next points previous coefficients complete_for ends facet_ends is_complete place_ends
    ways exchanged extended linked links ways_on every_block_free first_back_outside goes_to grown_at is_place is_unlabelled_place
    label_set places set_t set_u label change rules move_answer move_walk next_of rule_of is_walk
worked = refl
