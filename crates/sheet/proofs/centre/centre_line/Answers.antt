-- `centre::centre_line` meets its contract: after h turns the centre's first h numbers are written, in at most 21 bytes
-- each. Assumes nothing.
use mathlib.Core.Path.{◌≡◌, ◌∙◌}
use mathlib.Core.List.{flat_map}
use native.Mathlib.Omega.{arith}
use native.Mathlib.Nat.{zero-add}
use lib.ListN.{length}
use Rattle.combinatorics.proofs.Turns.{up_from-next}
use Rattle.sheet_lines.specs.Answer.{rows}
use Rattle.sheet_lines.specs.Sheet.{centre_at, centre_line}
use Rattle.text.proofs.Parts.{part_empty, part_join}
use Rattle.sheet_lines.proofs.Rows.{flat_map_more, length-rows}
use Rattle.sheet.proofs.centre.centre_line.Goals as goal

pub loop-h-init : goal.loop-h-init
unfolding flat_map
loop-h-init c = (part_empty _ _, omega arith)

pub centre-requires : goal.centre-requires
centre-requires c =
    let l = c.loop-h in
    record { total_bound = omega arith; le_count = (omega arith, omega arith, c.requires.1.positive l.h (omega arith)) }

pub spaced-next-requires : goal.spaced-next-requires
spaced-next-requires c = omega (arith, c.text-next.ensures.behind)

pub loop-h-preserved : goal.loop-h-preserved
loop-h-preserved c =
    let a = c.args in
    let l = c.loop-h in
    let m = length a.divisions.now in
    let vertices = rows a.count m a.vertices.now in
    let coordinates = c.coordinate_sum-sum.ensures.0 in
    let number : c.centre.result ≡ centre_at vertices a.divisions.now l.h =
    c.centre.ensures ∙ rw (coordinates, length-rows a.count m a.vertices.now) in (
      rw (up_from-next 0 l.h, zero-add, flat_map_more) (part_join l.invariant.0 (rw number at c.spaced-next.ensures.0)),
      omega arith,
    )

pub byte-requires : goal.byte-requires
byte-requires c = omega (arith, c.text-next.ensures.behind)

pub returns : goal.returns
unfolding centre_line
returns c =
    let l = c.loop-h in
    let first = c.text-next.ensures in
    let all : l.h
    ≡ length c.args.divisions.now =
    omega arith in (
      part_join (part_join first (rw all at l.invariant.0)) c.byte.ensures,
      omega (arith, first.behind, c.byte.ensures.behind),
    )
