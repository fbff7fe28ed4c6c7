-- `ways::round_of` meets its contract. Assumes nothing.
use Rattle.std.proofs.Common.{refl, arith}
use Rattle.grid.proofs.Fields.{following_low, made-indices, made-next, made-previous, previous-low}
use Rattle.arrays.proofs.ways.round_of.Goals as goal

pub returns : goal.returns
returns c =
    let g = c.args.g in
    let made = c.requires in (
      record {
        backward = λ h l. made-previous g made h (omega (arith, made-indices g made));
        forward = λ h l. made-next g made h (omega (arith, made-indices g made));
        size = λ h l. c.block_sizes.ensures h (omega (arith, made-indices g made));
      },
      record { backward = λ h l. previous-low g made h; forward = λ h l. following_low g made h },
      refl,
      refl,
    )
