-- A game of the stored cases on the grid of its four corners, by computation: the budget that is spent, and the end.
-- Assumes nothing.
use mathlib.Core.List.{[], ◌∷◌, map}
use mathlib.Core.Path.{◌≡◌, refl}
use lib.IntN.{pos}
use Rattle.game_losses.specs.Game.{expected_loss, game_label, labels, replaced}
use Rattle.grid_points.specs.Grid.{bound, is_grid_point, lent, next, points, previous}
use Rattle.place.specs.Coefficients.{coefficients}
use Rattle.place.specs.Ends.{complete_for, ends, facet_ends, is_complete, place_ends, ways}
use Rattle.place.specs.LabelsRead.{came_in, labels_read}
use Rattle.place.specs.Links.{exchanged, extended, linked, links}
use Rattle.place.specs.Path.{answer, path, ways_on}
use Rattle.place.specs.Places.{every_block_free, first_back_outside, goes_to, grown_at, is_place, is_unlabelled_place, label_set}
use Rattle.place.specs.Places.{places, set_t, set_u}
use Rattle.place.specs.Problem.{label}
use Rattle.questions.specs.Questions.{first_no}
use Rattle.refinement_levels.specs.Levels.{Refinement, level_start}
use Rattle.solve_levels.specs.Solving.{solve_answer, solved, stopped}

abbrev corners : Refinement
corners = record {
  grid = lent (2 ∷ 2 ∷ []) (1 ∷ 1 ∷ []);
  start = 1 ∷ 0 ∷ 1 ∷ 0 ∷ [];
  losses = 1 ∷ 1000 ∷ 1000 ∷ 1 ∷ 1000 ∷ 1 ∷ 1 ∷ 1000 ∷ [];
  factor = 4;
}

worked : map (λ budget. solve_answer corners 1 budget 12) (2 ∷ 3 ∷ []) ≡ stopped 0 2 ∷ solved 1 (pos 999) ∷ []
unfolding next previous is_grid_point points label coefficients set_u set_t label_set first_back_outside goes_to grown_at
    every_block_free is_unlabelled_place is_place places exchanged extended linked links is_complete complete_for place_ends
    facet_ends ends ways ways_on bound path answer came_in labels_read first_no expected_loss replaced game_label labels
    level_start solve_answer
worked = refl
