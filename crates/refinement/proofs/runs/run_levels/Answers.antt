-- `refinement::runs::run_levels` meets its contract. The invariant: the levels so far are in the array and in both
-- buffers. Assumes nothing.
use mathlib.Core.List.{List}
use mathlib.Core.Path.{◌≡◌, refl, sym, ap, ◌∙◌}
use Prim.Native.Nat.{ℕ, ◌<◌}
use native.Mathlib.Omega.{arith}
use lib.ListN.{length, set}
use Rattle.refinement_levels.specs.Buffers.{numbers_after}
use Rattle.refinement.proofs.AllRuns.{answer-first, answer-long, answer-solved, can_solve, labels-last}
use Rattle.refinement.proofs.AllRuns.{labels-long, labels-solved, labels_after, level_solved, levels_next}
use Rattle.refinement.proofs.AllRuns.{levels_none}
use Rattle.refinement.specs.Answer.{levels_of}
use Rattle.refinement.specs.Runs.{game_of}
use Rattle.refinement.specs.declared.Level.{Level}
use Rattle.refinement.proofs.runs.run_levels.Goals as goal

pub loop-i-init : goal.loop-i-init
loop-i-init c =
    let a = c.args in
    let r = game_of a.grids a.start.now a.losses.now a.factor in (
      rw c.no_level-found.ensures (sym (levels_none r)),
      refl,
      sym
          (answer-first r a.levels a.grids a.labels.now a.answer.now c.requires),
      omega arith,
    )

pub offset_bounds-grids-i : goal.offset_bounds-grids-i
offset_bounds-grids-i c = omega (arith, c.requires.some.1)

pub bounds-grids-i : goal.bounds-grids-i
bounds-grids-i c = omega (arith, c.requires.some.1)

pub solve-requires : goal.solve-requires
solve-requires c =
    let a = c.args in
    let r = game_of a.grids a.start.now a.losses.now a.factor in
    let l = c.loop-i in
    let can =
    can_solve r a.levels a.grids a.labels.now a.answer.now c.requires l.i (omega arith) _ _ refl
    in
    rw (l.invariant.1, l.invariant.2) can

pub offset_bounds-found-i : goal.offset_bounds-found-i
offset_bounds-found-i c =
    omega (
      arith,
      c.requires.some.1,
    )

pub bounds-found-i : goal.bounds-found-i
bounds-found-i c =
    omega (
      arith,
      c.requires.some.1,
    )

pub loop-i-preserved : goal.loop-i-preserved
loop-i-preserved c =
    let a = c.args in
    let r = game_of a.grids a.start.now a.losses.now a.factor in
    let l = c.loop-i in
    let w = c.solve in
    let on : l.i < a.levels = c.loop-i-test.true in
    let few : l.i < 8 = omega (arith, on, c.requires.some.1) in (
      ap (λ (x : List Level). set x l.i w.result) l.invariant.0
          ∙ levels_next r l.i w.result few
          (level_solved r a.levels a.grids a.labels.now a.answer.now c.requires l.i on _ _ refl
          w.result (rw l.invariant.2 at w.ensures.level)),
      labels-solved r a.levels a.grids a.labels.now a.answer.now c.requires l.i on _ _ refl _
          (rw l.invariant.1 at w.ensures.labels),
      answer-solved r a.levels a.grids a.labels.now a.answer.now c.requires l.i on _ _ refl _
          (rw l.invariant.2 at w.ensures.answer),
      omega (arith, on),
    )

pub shape_of-labels : goal.shape_of-labels
shape_of-labels c =
    let a = c.args in
    let r = game_of a.grids a.start.now a.losses.now a.factor in
    let l = c.loop-i in
    ap length l.invariant.1 ∙ labels-long r a.levels a.grids a.labels.now a.answer.now c.requires l.i
    l.invariant.3

pub shape_of-answer : goal.shape_of-answer
shape_of-answer c =
    let a = c.args in
    let r = game_of a.grids a.start.now a.losses.now a.factor in
    let l = c.loop-i in
    ap length l.invariant.2 ∙ answer-long r a.levels a.grids a.labels.now a.answer.now c.requires l.i

pub returns : goal.returns
returns c =
    let a = c.args in
    let r = game_of a.grids a.start.now a.losses.now a.factor in
    let l = c.loop-i in
    let e : l.i ≡ a.levels = omega arith in record {
      levels = l.invariant.0 ∙ ap (levels_of r) e;
      labels = l.invariant.1 ∙ ap (λ (n : ℕ). labels_after r n a.labels.now) e ∙ labels-last r a.levels a.grids
          a.labels.now a.answer.now c.requires;
      answer = l.invariant.2 ∙ ap (λ (n : ℕ). numbers_after r n a.answer.now) e;
    }
