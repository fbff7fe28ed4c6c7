-- Document 01, "The slip" and the questions that a slip asks, with request 01. A slip is the list of its bytes, and a
-- byte that is not there counts as 0. Assumes nothing.
use Rattle.std.specs.Prelude.{Bool, not, ◌&&◌, ◌||◌, cond, List, [], ◌∷◌, ◌++◌, map, ℕ, ◌+◌, ◌*◌, ◌/◌, ◌%◌, ◌^◌, eqb, leb, length, get_or, take, drop}
use Rattle.combinatorics.specs.Lists.{all, filter, sum, up_from}
use Rattle.little_endian.specs.Numbers.{number, words}
use Rattle.game_built_in.specs.Tables.{game_losses, question15 as game_question}
use Rattle.grid_points.specs.Grid.{Grid, Point, num_indices, num_points, division, first_index, indices, block_of, bound}
use Rattle.questions.specs.Questions.{Question, ask, first_no}
use Rattle.grid_points.specs.Questions.{grid_questions, question5}
use Rattle.game_losses.specs.Game.{labels}
use Rattle.game_losses.specs.Table.{num_losses, question11 as loss_question}
use Rattle.place.specs.Problem.{Problem}
use Rattle.place.specs.Questions.{question7}

-- "a bit map (bit 0 has value 1)": whether bit k of a byte stands
abbrev pub map_bit : ℕ → ℕ → Bool
map_bit byte k = eqb (byte / 2 ^ k % 2) 1

-- "exactly one of bits 2, 3 and 4, with bits 5 to 7 clear"
unfoldable pub is_map : ℕ → Bool
is_map byte = all (λ k. not (map_bit byte k)) (up_from 5 3) && eqb (length (filter (map_bit byte) (2 ∷ 3 ∷ 4 ∷ []))) 1

-- "The first byte is a bit map"
unfoldable pub stands : List ℕ → ℕ → Bool
stands slip k = map_bit (get_or slip 0 0) k

-- "Then come N"
abbrev pub num_blocks_of : List ℕ → ℕ
num_blocks_of slip = get_or slip 1 0

-- "the N sizes (a byte each)"
abbrev pub sizes_of : List ℕ → List ℕ
sizes_of slip = take (num_blocks_of slip) (drop 2 slip)

-- "and the N divisions (16 bits each)"
abbrev pub divisions_of : List ℕ → List ℕ
divisions_of slip = words (num_blocks_of slip) slip (2 + num_blocks_of slip)

abbrev pub slip_grid : List ℕ → Grid
slip_grid slip = record { sizes = sizes_of slip; divisions = divisions_of slip }

-- the bytes of map, N, sizes and divisions
abbrev pub head_length : List ℕ → ℕ
head_length slip = 2 + 3 * num_blocks_of slip

-- "0 start, m 16-bit numbers; 1 budget, 64 bits; 2 labels, P bytes; 3 game, a byte", and "Bit 4 of the map now
-- announces a loss table of 16-bit losses .. behind the other fields": the bytes of each field
abbrev pub field_lengths : Grid → List ℕ
field_lengths g = 2 * num_indices g ∷ 8 ∷ num_points g ∷ 1 ∷ 2 * num_losses g ∷ []

-- "Then only the fields whose bit stands": the bytes of field k
unfoldable pub field_length : List ℕ → ℕ → ℕ
field_length slip k = cond (stands slip k) (get_or (field_lengths (slip_grid slip)) k 0) 0

-- "in bit order": where field k begins
unfoldable pub field_at : List ℕ → ℕ → ℕ
field_at slip k = head_length slip + sum (map (field_length slip) (up_from 0 k))

-- where the fields end
abbrev pub fields_end : List ℕ → ℕ
fields_end slip = field_at slip (length (field_lengths (slip_grid slip)))

-- "Without a start, each block has d_j at its first index"
unfoldable pub default_coordinate : Grid → ℕ → ℕ
default_coordinate g h = let j = block_of g h in cond (eqb h (first_index g j)) (division g j) 0

abbrev pub default_start : Grid → Point
default_start g = map (default_coordinate g) (indices g)

unfoldable pub slip_start : List ℕ → Point
slip_start slip =
    cond (stands slip 0) (words (num_indices (slip_grid slip)) slip (field_at slip 0)) (default_start (slip_grid slip))

-- "Without a budget, the bound is the budget"
unfoldable pub slip_budget : List ℕ → ℕ
slip_budget slip = cond (stands slip 1) (number 8 slip (field_at slip 1)) (bound (slip_grid slip))

-- "The slip's label field is handed over as that part of the slip's bytes .. With a game that part is empty"
unfoldable pub label_field : List ℕ → List ℕ
label_field slip = take (field_length slip 2) (drop (field_at slip 2) slip)

-- the game's number, of a slip with bit 3
unfoldable pub slip_game : List ℕ → ℕ
slip_game slip = get_or slip (field_at slip 3) 0

-- the losses that are brought, or those of the game that is named
unfoldable pub slip_losses : List ℕ → List ℕ
slip_losses slip =
    cond (stands slip 4) (words (num_losses (slip_grid slip)) slip (field_at slip 4)) (game_losses (slip_game slip))

-- the labels that are brought, or else: "the program fills P bytes of its own with the game's labels and runs on them"
unfoldable pub slip_labels : List ℕ → List ℕ
slip_labels slip = cond (stands slip 2) (label_field slip) (labels (slip_grid slip) (slip_losses slip))

-- what the slip has the finder run on
abbrev pub slip_problem : List ℕ → Problem
slip_problem slip = record { grid = slip_grid slip; start = slip_start slip; labels = slip_labels slip }

-- "Are map, N, sizes and divisions there .. ? 13", which "now wants exactly one of bits 2, 3 and 4, with bits 5 to
-- 7 clear"
abbrev pub question13 : List ℕ → Question
question13 slip = ask 13 (leb (head_length slip) (length slip) && is_map (get_or slip 0 0))

-- "Are the remaining bytes exactly the fields named? 14"
abbrev pub question14 : List ℕ → Question
question14 slip = ask 14 (eqb (length slip) (fields_end slip))

-- "Is the game 1, 2 or 3, with these sizes? 15": asked of a slip with a game
abbrev pub slip_question15 : List ℕ → Question
slip_question15 slip = ask 15 (not (stands slip 3) || (game_question (slip_game slip) (sizes_of slip)).answered_yes)

-- "Is each loss from 1 to 1,000? 11": asked of a slip with losses
abbrev pub slip_question11 : List ℕ → Question
slip_question11 slip = ask 11 (not (stands slip 4) || (loss_question (slip_losses slip)).answered_yes)

-- the questions that reading the slip asks, up to 15
abbrev pub slip_read_questions : List ℕ → List Question
slip_read_questions slip = question13 slip
    ∷ (grid_questions (slip_grid slip) ++ (question14 slip ∷ slip_question15 slip ∷ []))

-- those that are asked after 15
abbrev pub later_slip_questions : List ℕ → List Question
later_slip_questions slip =
    slip_question11 slip ∷ question5 (slip_grid slip) (slip_start slip) ∷ question7 (slip_problem slip) ∷ []

-- "A slip asks 13, 1 to 4, 14, 15, 5, 7, and then runs", and "The slip puts 11 after 15"
abbrev pub slip_questions : List ℕ → List Question
slip_questions slip = slip_read_questions slip ++ later_slip_questions slip

-- "the number when the answer is no", or 0
abbrev pub slip_refusal : List ℕ → ℕ
slip_refusal slip = first_no (slip_questions slip)
