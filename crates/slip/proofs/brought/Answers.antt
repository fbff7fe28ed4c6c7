-- `slip::brought` meets its contract: the rest of the slip is the losses, at most 1,944. Assumes nothing.
use native.Mathlib.Omega.{arith}
use mathlib.Core.List.{◌++◌}
use mathlib.Core.Path.{◌≡◌, sym, ap, ◌∙◌}
use Prim.Native.Nat.{ℕ, ◌-◌, ◌/◌, ◌≤◌}
use lib.ListN.{length, drop}
use lib.Seq.{length-take-le}
use Rattle.combinatorics.specs.Front.{front}
use Rattle.combinatorics.specs.Lists.{all}
use Rattle.little_endian.specs.Numbers.{words}
use Rattle.game_losses.specs.Table.{num_losses, in_range}
use Rattle.slip.proofs.LossesRead.{Brought, brought, words_put, read_back, room-left, tested}
use Rattle.slip_fields.specs.Slip.{slip_grid, slip_losses}
use Rattle.slip.proofs.brought.Goals as goal
use Rattle.slip.proofs.brought.Goals.{After-words, Start}

-- the losses that are read
module _ (s : Start) where
  facts : Brought s.args.slip.now s.args.begin
  facts = brought s.args.slip.now s.args.reading s.args.room.now s.requires.0 s.args.begin s.requires.1

  abbrev count : ℕ
  count = (length s.args.slip.now - s.args.begin) / 2

  half : count ≡ num_losses (slip_grid s.args.slip.now)
  half = omega (arith, facts.ends)

  count_fits : count ≤ length s.args.room.now
  count_fits = omega (arith, s.requires.0.whole, half, facts.few)

-- stand at the front of the room
put : (c : After-words)
    → c.words.new.room
    ++ drop (count (goal.at.After-words c).Start) c.args.room.now
    ≡ front (slip_losses c.args.slip.now)
    c.args.room.now
put c =
    let slip = c.args.slip.now in
    let read = c.words.ensures
    ∙ ap (λ (n : ℕ). words n slip c.args.begin) (length-take-le (count (goal.at.After-words c).Start) c.args.room.now (count_fits (goal.at.After-words c).Start)) in
    words_put slip c.args.begin (facts (goal.at.After-words c).Start) (count (goal.at.After-words c).Start) _ c.args.room.now (half (goal.at.After-words c).Start) read

pub overflow_sub-count : goal.overflow_sub-count
overflow_sub-count c = omega (arith, (facts (goal.at.overflow_sub-count c).Start).ends)

pub slice_bounds-words-end : goal.slice_bounds-words-end
slice_bounds-words-end c = count_fits (goal.at.slice_bounds-words-end c).Start

pub slice_bounds-words-end-2 : goal.slice_bounds-words-end-2
slice_bounds-words-end-2 c =
    sym (length-take-le (count (goal.at.slice_bounds-words-end-2 c).Start) c.args.room.now (count_fits (goal.at.slice_bounds-words-end-2 c).Start))

pub words-requires : goal.words-requires
words-requires c =
    omega (arith, length-take-le (count (goal.at.words-requires c).Start) c.args.room.now (count_fits (goal.at.words-requires c).Start), half (goal.at.words-requires c).Start, (facts (goal.at.words-requires c).Start).ends)

pub slice_bounds-in_range-end : goal.slice_bounds-in_range-end
slice_bounds-in_range-end c =
    let left = room-left c.args.slip.now c.args.begin (facts (goal.at.slice_bounds-in_range-end c).Start) _ c.args.room.now c.requires.0.whole
    (put (goal.at.slice_bounds-in_range-end c).After-words) in
    omega (arith, left, half (goal.at.slice_bounds-in_range-end c).Start, (facts (goal.at.slice_bounds-in_range-end c).Start).few)

pub slice_bounds-in_range-end-2 : goal.slice_bounds-in_range-end-2
slice_bounds-in_range-end-2 c =
    let left = room-left c.args.slip.now c.args.begin (facts (goal.at.slice_bounds-in_range-end-2 c).Start) _ c.args.room.now c.requires.0.whole
    (put (goal.at.slice_bounds-in_range-end-2 c).After-words) in
    sym (length-take-le (count (goal.at.slice_bounds-in_range-end-2 c).Start) _ (omega (arith, left, half (goal.at.slice_bounds-in_range-end-2 c).Start, (facts (goal.at.slice_bounds-in_range-end-2 c).Start).few)))

pub returns : goal.returns
returns c =
    let slip = c.args.slip.now in
    let read = read_back slip c.args.begin (facts (goal.at.returns c).Start) (count (goal.at.returns c).Start) _ c.args.room.now (half (goal.at.returns c).Start)
    (put (goal.at.returns c).After-words) in
    let test = c.in_range.ensures ∙ ap (all in_range) read in record {
      value = c.then_some.ensures ∙ tested slip c.args.begin (facts (goal.at.returns c).Start) _ _ test (half (goal.at.returns c).Start);
      room_after = put (goal.at.returns c).After-words;
    }
