-- `add_times` meets its contract: the row is added before the place reached. Assumes nothing.
use Prim.Native.Nat.{◌+◌, ◌*◌, ◌<◌}
use native.Mathlib.Omega.{arith}
use lib.IntN.{nat_abs, ◌+ℤ◌, ◌*ℤ◌}
use lib.ListN.{length-set}
use Rattle.std.proofs.lemmas.Int.{to_z-of_z}
use mir.Syntax.{w64}
use mir.Val.{SFits}
use borrow.Author.Rules.{rules}
use Rattle.game_corners.proofs.Integers.{mag_low, product_abs, weighed-low}
use Rattle.game_corners.proofs.Rows.{added_turn}
use Rattle.game_corners.specs.Corners.{signed_at}
use Rattle.game_corners.proofs.labels.add_times.Goals as goal
use Rattle.game_corners.proofs.labels.add_times.Goals.{In-loop-h}

-- what stands at the place reached, the factor, and what they come to fit 64 bits
low : (c : In-loop-h)
    → nat_abs (signed_at c.loop-h.totals c.loop-h.h) + nat_abs c.args.x * nat_abs (signed_at c.args.row.now c.loop-h.h)
    < 9223372036854775808
low c = rw (c.loop-h.invariant.0.left c.loop-h.h (omega arith)) (c.requires.fits c.loop-h.h (omega arith))

product-fits : (c : In-loop-h) → SFits w64 (c.args.x *ℤ signed_at c.args.row.now c.loop-h.h)
product-fits c =
    let x = c.args.x in
    let number = signed_at c.args.row.now c.loop-h.h in
    record { sfits = omega (arith, mag_low (x *ℤ number), product_abs x number, low c) }

sum_fits : (c : In-loop-h)
    → SFits w64 (signed_at c.loop-h.totals c.loop-h.h +ℤ c.args.x *ℤ signed_at c.args.row.now c.loop-h.h)
sum_fits c =
    let x = c.args.x in
    let number = signed_at c.args.row.now c.loop-h.h in
    let total = signed_at c.loop-h.totals c.loop-h.h in
    record { sfits = omega (arith, mag_low (total +ℤ x *ℤ number), weighed-low total x number, low c) }

pub loop-h-preserved : goal.loop-h-preserved
loop-h-preserved c =
    let l = c.loop-h in
    let p = product-fits (goal.at.loop-h-preserved c).In-loop-h in
    let s = sum_fits (goal.at.loop-h-preserved c).In-loop-h in
    let x : SFits w64 c.args.x = c.ranges.x in
    let n : SFits w64 (signed_at c.args.row.now l.h) = search rules in
    let t : SFits w64 (signed_at l.totals l.h) = search rules in (
      added_turn c.args.totals.now c.args.row.now _ l.h l.totals _ (omega arith)
          (simp to_z-of_z (rw (l.invariant.0.left l.h (omega arith))))
          l.invariant.0,
      simp length-set l.invariant.1,
    )

pub returns : goal.returns
returns c =
    let l = c.loop-h in
    let x : SFits w64 c.args.x = c.ranges.x in
    (l.invariant.1, λ h b. simp to_z-of_z at (l.invariant.0.done h (omega arith)))
