-- `label_on` meets its contract: the grid's arrays are lent, and the labels fill the buffer. Assumes nothing.
use native.Mathlib.Omega.{arith}
use mathlib.Core.Path.{sym, ◌∙◌}
use lib.Seq.{length-take-le}
use Rattle.combinatorics.proofs.Fronts.{front_full}
use Rattle.grid.proofs.Fields.{blocks-range, made-accepted, made-indices, made-points, made-block}
use Rattle.grid.specs.Made.{shape}
use Rattle.game_losses.specs.Game.{labels}
use Rattle.game_labels.proofs.AllLabels.{labels_length}
use Rattle.game_labels.proofs.Outcomes.{made-firsts, blocks-room}
use Rattle.game_labels.proofs.label_on.Goals as goal

pub shared_ref_as_front-sizes : goal.shared_ref_as_front-sizes
shared_ref_as_front-sizes c = (blocks-range c.args.grid c.requires.0).1

pub rests-rests-requires : goal.rests-rests-requires
rests-rests-requires c =
    let a = made-accepted c.args.grid c.requires.0 in
    (a.sizes_two, a.few_indices)

pub write_labels-requires : goal.write_labels-requires
write_labels-requires c =
    let g = c.args.grid in
    let made = c.requires.0 in
    let n = length-take-le g.blocks g.sizes (blocks-room g made).0 in record {
      fact = (
        made-firsts g made,
        (λ h b. made-block g made h (omega (arith, made-indices g made))),
        c.requires.1,
        c.rests-rests.ensures,
      );
      indices_value = (made-indices g made, rw n, c.requires.2 ∙ made-points g made);
    }

pub returns : goal.returns
returns c =
    let g = shape c.args.grid in
    let full = labels_length g c.args.losses.now ∙ sym (c.requires.2 ∙ made-points c.args.grid c.requires.0) in
    c.write_labels.ensures ∙ front_full (labels g c.args.losses.now) c.args.buffer.now full
