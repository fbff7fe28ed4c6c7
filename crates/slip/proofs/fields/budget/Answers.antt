-- `slip::fields::budget` meets its contract: the field is there or missing, or the bound stands for it.
-- Assumes nothing.
use native.Mathlib.Omega.{arith}
use mathlib.Core.Bool.{true, false}
use mathlib.Core.Path.{◌≡◌, sym, ap, ◌∙◌}
use Prim.Native.Nat.{◌+◌}
use Rattle.grid_points.specs.Grid.{bound}
use Rattle.slip_fields.proofs.Laws.{at_next, length-there, length_absent}
use Rattle.slip.proofs.Readings.{budget-is, no-budget, asked-made}
use Rattle.slip_fields.specs.Slip.{stands, slip_budget, field_at}
use Rattle.slip.proofs.fields.budget.Goals as goal

pub bound-places-requires : goal.bound-places-requires
bound-places-requires c = (asked-made c.args.slip.now c.args.grid
    c.requires.0).0

pub returns-then-not-bit_stands : goal.returns-then-not-bit_stands
unfolding slip_budget
returns-then-not-bit_stands c =
    let slip = c.args.slip.now in
    let absent : stands slip 1 ≡ false =
    sym c.bit_stands.ensures ∙ c.if-not-bit_stands.true in
    let end : c.args.at ≡ field_at slip 2 = omega (arith, c.requires.1, at_next slip 1, length_absent slip 1 absent) in
    let is : c.bound-places.result ≡ slip_budget slip =
    c.bound-places.ensures ∙ ap bound (asked-made slip c.args.grid c.requires.0).1 ∙ rw absent in
    rw (is, end) (sym (budget-is slip (omega (arith, end, c.requires.2))))

pub returns-then-slip-at-lt8 : goal.returns-then-slip-at-lt8
returns-then-slip-at-lt8 c =
    let slip = c.args.slip.now in
    let there : stands slip 1 ≡ true = sym c.bit_stands.ensures
    ∙ c.if-not-bit_stands.false in
    sym (no-budget slip (omega (arith, c.requires.1, c.requires.2, at_next slip 1, length-there slip 1 there)))

pub returns : goal.returns
unfolding slip_budget
returns c =
    let slip = c.args.slip.now in
    let there : stands slip 1 ≡ true =
    sym c.bit_stands.ensures ∙ c.if-not-bit_stands.false in
    let end : c.args.at + 8 ≡ field_at slip 2 = omega (arith, c.requires.1, at_next slip 1, length-there slip 1 there) in
    let is : c.number64-places.result ≡ slip_budget slip = c.number64-places.ensures ∙ rw (there, c.requires.1) in
    rw (is, end) (sym (budget-is slip (omega (arith, end, c.requires.2))))
