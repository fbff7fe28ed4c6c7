-- `refinement::refine` meets its contract: each question is asked where all before it are answered yes, and then the
-- levels are run. Assumes nothing.
use mathlib.Core.Bool.{true}
use mathlib.Core.Path.{◌≡◌, sym, ◌∙◌}
use Prim.Native.Nat.{◌≤◌}
use lib.ListN.{length}
use native.Mathlib.Omega.{arith}
use Rattle.grid_points.specs.Grid.{lent}
use Rattle.refinement_levels.proofs.Claims.{in_ranges}
use Rattle.refinement_levels.specs.Levels.{Refinement}
use Rattle.refinement_levels.specs.Questions.{later_level_questions, question18}
use Rattle.questions.specs.Questions.{first_no}
use Rattle.refinement.proofs.Outcomes.{as_lent, asked-later, can-run-all, first_made, passed_later}
use Rattle.refinement.proofs.Outcomes.{refused-grids, refused-later, refused-range}
use Rattle.refinement.specs.Answer.{lent_game}
use Rattle.refinement.proofs.refine.Goals as goal
use Rattle.refinement.proofs.refine.Goals.{After-first_level_no-code, Else-not-levels_in_range, Start}

-- what is lent
abbrev game : Start → Refinement
game c = lent_game (lent c.args.sizes.now c.args.divisions.now) c.args.start.now c.args.losses.now
    c.args.factor

pub returns-then-not-levels_in_range : goal.returns-then-not-levels_in_range
returns-then-not-levels_in_range c =
    let both = refused-range (game (goal.at.returns-then-not-levels_in_range c).Start) c.args.levels c.args.labels.now c.args.answer.now c.refused.result
    (sym c.levels_in_range.ensures ∙ c.if-not-levels_in_range.true) c.refused.ensures in
    record { answer = both.0; labels = both.1.0; numbers = both.1.1 }

asked : (c : Else-not-levels_in_range) → (question18 c.args.factor c.args.levels).answered_yes ≡ true
asked c = sym c.levels_in_range.ensures ∙ c.if-not-levels_in_range.false

ranges : (c : Else-not-levels_in_range) → (let a = c.args in
    ((2 ≤ a.factor) × (a.factor ≤ 10)) × ((1 ≤ a.levels) × (a.levels ≤ 8)))
ranges c = in_ranges c.args.factor c.args.levels (asked c)

pub made_levels-made-requires : goal.made_levels-made-requires
made_levels-made-requires c = let w = ranges c in record { le_factor = (omega (arith, w.0.0), w.0.1); le_levels = w.1 }

pub returns-then-made-ne0 : goal.returns-then-made-ne0
returns-then-made-ne0 c =
    let a = c.args in
    let both = refused-grids (game (goal.at.returns-then-made-ne0 c).Start) a.levels a.labels.now a.answer.now (asked (goal.at.returns-then-made-ne0 c).Else-not-levels_in_range)
    c.refused-then-made-ne0.result c.made_levels-made.result.code c.if-made-ne0.true c.made_levels-made.ensures.code
    c.refused-then-made-ne0.ensures in
    record { answer = both.0; labels = both.1.0; numbers = both.1.1 }

pub overflow_sub-levels : goal.overflow_sub-levels
overflow_sub-levels c = omega (arith, (ranges (goal.at.overflow_sub-levels c).Else-not-levels_in_range).1.0)

pub offset_bounds-grids-levels : goal.offset_bounds-grids-levels
offset_bounds-grids-levels c = omega (arith, (ranges (goal.at.offset_bounds-grids-levels c).Else-not-levels_in_range).1.1)

pub bounds-grids-levels : goal.bounds-grids-levels
bounds-grids-levels c = omega (arith, (ranges (goal.at.bounds-grids-levels c).Else-not-levels_in_range).1)

pub first_level_no-code-requires : goal.first_level_no-code-requires
first_level_no-code-requires c =
    let w = (ranges (goal.at.first_level_no-code-requires c).Else-not-levels_in_range).1 in
    (first_made w.0 c.made_levels-made.ensures c.if-made-ne0.false _, w.1)

later : (c : After-first_level_no-code) → (c.first_level_no-code.result
    ≡ first_no (later_level_questions (game (goal.at.After-first_level_no-code c).Start) c.args.levels c.args.labels.now (length c.args.answer.now)))
later c =
    let a = c.args in
    asked-later (ranges (goal.at.After-first_level_no-code c).Else-not-levels_in_range).1.0 c.made_levels-made.ensures c.if-made-ne0.false a.start.now
    a.losses.now a.labels.now a.answer.now c.first_level_no-code.result _ _ c.first_level_no-code.ensures

pub returns-then-code-ne0 : goal.returns-then-code-ne0
returns-then-code-ne0 c =
    let both = refused-later (game (goal.at.returns-then-code-ne0 c).Start) c.args.levels c.args.labels.now c.args.answer.now (asked (goal.at.returns-then-code-ne0 c).Else-not-levels_in_range)
    (sym c.made_levels-made.ensures.code ∙ c.if-made-ne0.false) c.refused-then-code-ne0.result
    c.first_level_no-code.result
    c.if-code-ne0.true (later (goal.at.returns-then-code-ne0 c).After-first_level_no-code) c.refused-then-code-ne0.ensures in
    record { answer = both.0; labels = both.1.0; numbers = both.1.1 }

pub run_levels-found-requires : goal.run_levels-found-requires
run_levels-found-requires c =
    let a = c.args in
    let w = ranges (goal.at.run_levels-found-requires c).Else-not-levels_in_range in
    can-run-all w.1.0 c.made_levels-made.ensures c.if-made-ne0.false a.start.now a.losses.now
    a.labels.now a.answer.now w (sym (later (goal.at.run_levels-found-requires c).After-first_level_no-code) ∙ c.if-code-ne0.false)

pub returns : goal.returns
returns c =
    let here = (goal.at.returns c).Else-not-levels_in_range in
    let a = c.args in
    let grids = c.made_levels-made.ensures in
    let q = c.run_levels-found in
    let f = as_lent (ranges here).1.0 grids c.if-made-ne0.false a.start.now a.losses.now a.labels.now
    a.answer.now q.result _ _ q.ensures.levels (q.ensures.labels, q.ensures.answer) in
    let both = passed_later (game (goal.at.returns c).Start) a.levels a.labels.now a.answer.now (asked here)
    (sym grids.code ∙ c.if-made-ne0.false)
    (sym (later (goal.at.returns c).After-first_level_no-code) ∙ c.if-code-ne0.false) q.result _ _ f.0 f.1
    f.2 in
    record { answer = both.0; labels = both.1.0; numbers = both.1.1 }
