-- The losses of a slip that is read, in the room that is lent for them. Assumes nothing.
use mathlib.Core.Bool.{Bool, true, false}
use mathlib.Core.List.{List, ◌++◌}
use mathlib.Core.Path.{◌≡◌, sym, ap, ◌∙◌}
use Prim.Native.Nat.{ℕ, ◌+◌, ◌*◌, ◌≤◌}
use lib.ListN.{length, take, drop}
use native.Mathlib.Nat.{mul-le-mul}
use native.Mathlib.Omega.{arith}
use Rattle.combinatorics.proofs.Fronts.{front_length, front_taken}
use Rattle.combinatorics.specs.Front.{front}
use Rattle.combinatorics.specs.Lists.{all}
use Rattle.little_endian.proofs.Laws.{length-words}
use Rattle.little_endian.specs.Numbers.{words}
use Rattle.game_losses.specs.Game.{product}
use Rattle.game_losses.specs.Table.{num_losses, in_range}
use Rattle.game_losses.proofs.Table.{product-few}
use Rattle.game_built_in.specs.Tables.{game_losses}
use Rattle.grid_points.proofs.Accepted.{accepted as grid-accepted}
use Rattle.grid_points.specs.Grid.{num_blocks}
use Rattle.questions.specs.Questions.{first_no}
use Rattle.slip_fields.proofs.Laws.{losses-only, losses-last, game-only}
use Rattle.slip_fields.proofs.Runs.{answers, whole}
use Rattle.slip.proofs.Readings.{number-zero, reading-accepted, then_some_is, told, untold}
use Rattle.slip.proofs.Tables.{is-game, are-losses}
use Rattle.slip.specs.declared.SlipReading.{SlipReading}
use Rattle.slip.specs.declared.Table.TheVariants.{Game, LossesFrom}
use Rattle.slip.specs.Reading.{slip_reading_of, losses_on_slip, table_named, WithLosses}
use Rattle.slip_fields.specs.Slip.{stands, slip_grid, slip_losses, field_at, slip_question11, slip_read_questions}
use Rattle.std.proofs.Common.{Some, None}
use Rattle.std.specs.Bool.{then_some}

module _ (slip : List ℕ) (r : SlipReading) (room : List ℕ) (w : WithLosses slip r room) where
  code : (slip_reading_of slip).code ≡ 0
  code = sym (ap (λ x. x.code) w.is_reading) ∙ w.read

  pub asked : first_no (slip_read_questions slip) ≡ 0
  asked = number-zero slip code

  pub table-named : r.table ≡ table_named slip
  table-named = ap (λ x. x.table) w.is_reading ∙ ap (λ x. x.table) (reading-accepted slip code)

  -- a game's losses
  module _ (number : ℕ) (e : r.table ≡ Game number) where
    pub game-losses : slip_losses slip ≡ game_losses number
    unfolding slip_losses
    game-losses =
        let g = is-game slip (answers slip asked).0 number (sym table-named ∙ e) in
        rw (game-only slip (answers slip asked).0 g.0 g.1, g.2)

    pub game-count : Some (length (game_losses number)) ≡ losses_on_slip slip
    unfolding losses_on_slip
    game-count =
        let g = is-game slip (answers slip asked).0 number (sym table-named ∙ e) in
        rw (game-only slip (answers slip asked).0 g.0 g.1, game-losses)

-- the losses that are brought begin at a position and are the rest of the slip
pub record Brought (slip : List ℕ) (begin : ℕ) : Type 0 where
  pub there : stands slip 4 ≡ true
  pub begins : begin ≡ field_at slip 4
  pub ends : length slip ≡ begin + 2 * num_losses (slip_grid slip)
  pub few : num_losses (slip_grid slip) ≤ 1944

pub brought : (slip : List ℕ) (r : SlipReading) (room : List ℕ) → WithLosses slip r room → (begin : ℕ)
    → r.table ≡ LossesFrom begin → Brought slip begin
brought slip r room w begin e =
    let zero = asked slip r room w in
    let head = (answers slip zero).0 in
    let l = are-losses slip head begin (sym (table-named slip r room w) ∙ e) in
    let last = losses-last slip head l.0 l.1 in
    let g = grid-accepted (slip_grid slip) (answers slip zero).1 in
    let most = mul-le-mul {n₁ = num_blocks (slip_grid slip)} {m₁ = product (slip_grid slip).sizes} {n₂ = 6} {m₂ = 324}
    g.few_blocks (product-few (slip_grid slip).sizes g.few_indices) in
    record {
      there = losses-only slip head l.0 l.1;
      begins = l.2;
      ends = omega (arith, whole slip zero, l.2, last.0, last.1);
      few = omega (arith, most);
    }

module _ (slip : List ℕ) (begin : ℕ) (b : Brought slip begin) where
  losses-are : slip_losses slip ≡ words (num_losses (slip_grid slip)) slip begin
  unfolding slip_losses
  losses-are = rw (b.there, b.begins)

  count-is : length (slip_losses slip) ≡ num_losses (slip_grid slip)
  count-is = ap length losses-are ∙ length-words (num_losses (slip_grid slip)) slip begin

  -- the numbers that are read stand at the front of the room
  pub words_put : (count : ℕ) (read room : List ℕ) → count ≡ num_losses (slip_grid slip) → read ≡ words count slip begin
      → read ++ drop count room ≡ front (slip_losses slip) room
  unfolding front
  words_put count read room e f = rw (losses-are, length-words, f, e)

  -- and are read back from there
  pub read_back : (count : ℕ) (now room : List ℕ) → count ≡ num_losses (slip_grid slip)
      → now ≡ front (slip_losses slip) room
      → take count now ≡ slip_losses slip
  read_back count now room e f = rw (f, e, ← count-is) (front_taken (slip_losses slip) room)

  pub room-left : (now room : List ℕ) → length room ≡ 1944 → now ≡ front (slip_losses slip) room → length now ≡ 1944
  room-left now room e f = ap length f ∙ front_length (slip_losses slip) room (omega (arith, count-is, b.few)) ∙ e

  pub tested : (test : Bool) (count : ℕ) → test ≡ all in_range (slip_losses slip) → count ≡ num_losses (slip_grid slip)
      → then_some test count ≡ losses_on_slip slip
  unfolding losses_on_slip
  tested test count e f = rw (e, then_some_is, b.there, count-is, f)

-- what the answer tells
module _ (slip : List ℕ) where
  pub losses-count : (n : ℕ) → losses_on_slip slip ≡ Some n
      → ((slip_question11 slip).answered_yes ≡ true) × (n ≡ length (slip_losses slip))
  unfolding losses_on_slip
  losses-count n e = told (slip_question11 slip).answered_yes (length (slip_losses slip)) n e

  pub losses-refused : losses_on_slip slip ≡ None → (slip_question11 slip).answered_yes ≡ false
  unfolding losses_on_slip
  losses-refused e = untold (slip_question11 slip).answered_yes (length (slip_losses slip)) e
