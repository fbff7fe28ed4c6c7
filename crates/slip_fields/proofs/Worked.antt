-- The worked slips hold of the definitions: each is refused by its number, or says what stands there. Assumes nothing.
use mathlib.Core.List.{map}
use mathlib.Core.Path.{◌≡◌, refl}
use Rattle.grid_points.specs.Grid.{is_grid_point, points, bound}
use Rattle.game_losses.specs.Game.{expected_loss, replaced, game_label, labels}
use Rattle.little_endian.specs.Numbers.{number, words}
use Rattle.questions.specs.Questions.{first_no}
use Rattle.slip_fields.specs.Slip.{is_map, stands, field_length, field_at, default_coordinate, slip_start, slip_budget}
use Rattle.slip_fields.specs.Slip.{label_field, slip_game, slip_losses, slip_labels}
use Rattle.slip_fields.specs.Worked.{given, table}

worked : map given table ≡ map (λ r. r.result) table
unfolding is_grid_point points bound expected_loss replaced game_label labels number words first_no is_map stands field_length
    field_at default_coordinate slip_start slip_budget label_field slip_game slip_losses slip_labels
worked = refl
