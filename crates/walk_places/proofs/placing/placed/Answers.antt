-- `placing::placed` meets its contract. Assumes nothing.
use mathlib.Core.Path.{subst}
use lib.ListN.{take}
use Rattle.grid.proofs.Fields.{indices-few, made-indices}
use Rattle.grid_points.specs.Grid.{num_indices}
use Rattle.grid.specs.Made.{shape}
use Rattle.walk_recogniser.proofs.Together.{with_table}
use Rattle.walk_recogniser.specs.Kept.{Recognised}
use Rattle.walk_recogniser.specs.Pieces.{bare_mark, started_on}
use Prim.Native.Nat.{ℕ}
use Rattle.walk_places.proofs.placing.placed.Goals as goal

pub shared_ref_as_front-recognise : goal.shared_ref_as_front-recognise
shared_ref_as_front-recognise c = indices-few c.args.g c.requires.made

pub recognise-requires : goal.recognise-requires
recognise-requires c =
    let C = c.requires in
    let round = c.round_of-round.ensures in
    record {
      measured = record { made = C.made; filled = c.binomials.ensures };
      start_on = rw (made-indices c.args.g C.made) C.start;
      below = round.1.backward;
      backward = round.0.backward;
      block_sizes = round.0.size;
      few = C.few;
    }

pub returns-clause-recognised : goal.returns-clause-recognised
returns-clause-recognised c = λ labels.
    let a = c.args in
    let held = c.recognise.new.held in
    with_table a.g (take (num_indices (shape a.g)) a.w.start) labels _ _ _ _ _
    (subst (λ (m : ℕ). Recognised (started_on a.g (take m a.w.start)) (bare_mark (shape a.g))
    (take a.g.indices held.first) (take a.n held.order) held
    c.recognise.result) (made-indices a.g c.requires.made) c.recognise.ensures.recognised)
