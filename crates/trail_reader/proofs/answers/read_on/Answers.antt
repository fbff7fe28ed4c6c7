-- `answers::read_on` meets its contract: 0 is no number, and else the place is rebuilt from the start in an array.
-- Assumes nothing.
use mathlib.Core.Path.{◌≡◌, sym, subst}
use mathlib.Core.List.{List}
use Prim.Native.Nat.{ℕ}
use lib.ListN.{take}
use native.Mathlib.Omega.{arith}
use Rattle.grid.proofs.Fields.{indices-few}
use Rattle.trail_steps.specs.Reading.{problem_by}
use Rattle.trail_reader.specs.Begun.{Reads}
use Rattle.trail_reader.proofs.Rebuilt.{no_zero, reads_17, start-long, start_taken}
use Rattle.path_laws.specs.Demand.{HasStart}
use Rattle.trail_reader.proofs.answers.read_on.Goals as goal
use Rattle.trail_reader.proofs.answers.read_on.Goals.{After-at-held}

pub returns-then-number-eq0 : goal.returns-then-number-eq0
returns-then-number-eq0 c =
    let a = c.args in
    reads_17 a.g a.start.now a.trail.now a.number a.points c.refused.result c.refused.ensures
    (no_zero (problem_by a.g a.start.now) a.trail.now a.number c.if-number-eq0.true)

pub at-held-requires : goal.at-held-requires
at-held-requires c =
    let g = c.args.g in
    let made = c.requires.made in
    (omega (arith, start-long g made c.args.start.now c.requires.has_start), indices-few g made)

taken : (c : After-at-held) → take c.args.g.indices c.at-held.result.first ≡ c.args.start.now
taken c =
    start_taken c.args.g c.requires.made c.args.start.now c.requires.has_start c.at-held.result.first
    c.at-held.ensures.0

pub rebuilt-requires : goal.rebuilt-requires
rebuilt-requires c =
    let w = c.requires in
    let round = c.round_of-round.ensures in record {
      can_rebuild = record {
        measured = record { made = w.made; filled = c.binomials.ensures };
        is_round = round.0;
        below = round.1;
        no_coefficients = c.at-held.ensures.1;
        no_marks = c.at-held.ensures.3;
        has_start = subst (λ (s : List ℕ). HasStart (problem_by c.args.g s))
            (sym (taken (goal.at.rebuilt-requires c).After-at-held)) w.has_start;
      };
      number_nonzero = omega (arith, c.if-number-eq0.false);
    }

pub returns : goal.returns
returns c =
    let a = c.args in
    subst (λ (s : List ℕ). Reads a.g s a.trail.now a.number a.points c.rebuilt.result)
    (taken (goal.at.returns c).After-at-held) c.rebuilt.ensures
