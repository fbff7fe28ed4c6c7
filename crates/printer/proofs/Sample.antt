-- Document 01's sample sheet, bound included, is what the definition of the kiosk's sheet gives. Assumes nothing.
use mathlib.Core.List.{flat_map}
use mathlib.Core.Path.{◌≡◌, refl}
use Rattle.questions.specs.Questions.{first_no}
use Rattle.grid_points.specs.Grid.{next, previous, is_grid_point, points, bound}
use Rattle.place.specs.Coefficients.{coefficients}
use Rattle.place.specs.Ends.{is_complete, complete_for, place_ends, facet_ends, ends, ways}
use Rattle.place.specs.LabelsRead.{came_in, labels_read}
use Rattle.place.specs.Links.{exchanged, extended, linked, links}
use Rattle.place.specs.Path.{ways_on, path, answer}
use Rattle.place.specs.Places.{
  set_u,
  set_t,
  label_set,
  first_back_outside,
  goes_to,
  grown_at,
  every_block_free,
  is_unlabelled_place,
  is_place,
  places,
}
use Rattle.place.specs.Problem.{label}
use Rattle.little_endian.specs.Numbers.{number, words}
use Rattle.slip_fields.specs.Slip.{
  is_map,
  stands,
  field_length,
  field_at,
  default_coordinate,
  slip_start,
  slip_budget,
  label_field,
  slip_game,
  slip_losses,
  slip_labels,
}
use Rattle.rounding.specs.Centre.{is_nearest, rounded, centre}
use Rattle.text.specs.Decimal.{digits, decimal}
use Rattle.text.specs.Line.{spaced}
use Rattle.sheet_lines.specs.Sheet.{vertex_line, centre_line, end_sheet}
use Rattle.printer.specs.Printed.{sheet_of}
use Rattle.printer.specs.Sample.{sample_slip, sample_sheet}

sample : sheet_of sample_slip ≡ sample_sheet
unfolding flat_map first_no next previous is_grid_point points bound coefficients is_complete complete_for place_ends facet_ends
    ends ways exchanged extended linked links ways_on path came_in labels_read answer set_u set_t label_set first_back_outside
    goes_to grown_at every_block_free is_unlabelled_place is_place places label number words is_map stands field_length field_at
    default_coordinate slip_start slip_budget label_field slip_game slip_losses slip_labels is_nearest rounded centre digits
    decimal spaced vertex_line centre_line end_sheet sheet_of
sample = refl
