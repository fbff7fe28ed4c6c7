-- The worked refinement holds of the definitions. Assumes nothing.
use mathlib.Core.List.{[], ◌∷◌, map}
use mathlib.Core.Path.{◌≡◌, refl}
use Rattle.game_losses.specs.Game.{expected_loss, game_label, labels, replaced}
use Rattle.grid_points.specs.Grid.{bound, is_grid_point, next, points, previous}
use Rattle.place.specs.Coefficients.{coefficients}
use Rattle.place.specs.Ends.{complete_for, ends, facet_ends, is_complete, place_ends, ways}
use Rattle.place.specs.LabelsRead.{came_in, labels_read}
use Rattle.place.specs.Links.{exchanged, extended, linked, links}
use Rattle.place.specs.Path.{answer, path, ways_on}
use Rattle.place.specs.Places.{every_block_free, first_back_outside, goes_to, grown_at, is_place, is_unlabelled_place, label_set}
use Rattle.place.specs.Places.{places, set_t, set_u}
use Rattle.place.specs.Problem.{label}
use Rattle.refinement_levels.specs.Levels.{level_end, level_problem, level_start}
use Rattle.refinement_levels.specs.Worked.{level_ends, level_starts, level_tables, two_levels}

ends_worked : map (level_end two_levels) (0 ∷ 1 ∷ []) ≡ level_ends
unfolding next previous is_grid_point points label coefficients set_u set_t label_set first_back_outside goes_to grown_at
    every_block_free is_unlabelled_place is_place places exchanged extended linked links is_complete complete_for place_ends
    facet_ends ends ways ways_on bound path answer came_in labels_read expected_loss replaced game_label labels level_start
ends_worked = refl

starts_worked : map (level_start two_levels) (0 ∷ 1 ∷ []) ≡ level_starts
unfolding next previous is_grid_point points label coefficients set_u set_t label_set first_back_outside goes_to grown_at
    every_block_free is_unlabelled_place is_place places exchanged extended linked links is_complete complete_for place_ends
    facet_ends ends ways ways_on bound path answer came_in labels_read expected_loss replaced game_label labels level_start
starts_worked = refl

tables_worked : map (λ i. (level_problem two_levels i).labels) (0 ∷ 1 ∷ []) ≡ level_tables
unfolding points expected_loss replaced game_label labels
tables_worked = refl
