-- `slip::fields::table` meets its contract: one of the three fields is named, and it is the rest of the slip or not.
-- Assumes nothing.
use native.Mathlib.Omega.{arith}
use mathlib.Core.Bool.{true, false}
use mathlib.Core.Path.{◌≡◌, sym, ap, ◌∙◌}
use Prim.Native.Nat.{ℕ, ◌*◌, ◌≤◌}
use borrow.Author.Tests.{ne_eqb}
use lib.ListN.{length, take}
use native.Mathlib.Nat.{mul-le-mul}
use Rattle.grid.proofs.Fields.{made-accepted, made-blocks}
use Rattle.grid.specs.Made.{shape}
use Rattle.game_losses.proofs.Table.{product-few}
use Rattle.game_losses.specs.Game.{product}
use Rattle.game_losses.specs.Table.{num_losses}
use Rattle.slip_fields.proofs.Laws.{exact, labels-last, game-last, losses-last}
use Rattle.slip.proofs.Readings.{table_is, no_table, table_tested, asked-made, asked-points}
use Rattle.slip_fields.specs.Slip.{stands, slip_grid, slip_game, fields_end}
use Rattle.slip.proofs.fields.table.Goals as goal
use Rattle.slip.proofs.fields.table.Goals.{After-num_profiles, Else-bit_stands, Then-bit_stands, Then-bit_stands-2}

-- a table of labels
labelled : (c : Then-bit_stands) → stands c.args.slip.now 2 ≡ true
labelled c = sym c.bit_stands.ensures ∙ c.if-bit_stands.true

pub returns-then-bit_stands : goal.returns-then-bit_stands
returns-then-bit_stands c =
    let slip = c.args.slip.now in
    let two = labelled (goal.at.returns-then-bit_stands c).Then-bit_stands in
    let P = asked-points slip c.args.grid c.requires.0 in
    let last = labels-last slip c.requires.0.head two in
    c.then_some.ensures
    ∙ table_tested slip _ _ _ (λ e. omega (arith, e, P, c.requires.1, c.requires.2, last))
    (λ e. omega (arith, e, P, c.requires.1, last)) (rw (two, c.requires.1))

not_labelled : (c : Else-bit_stands) → stands c.args.slip.now 2 ≡ false
not_labelled c = sym c.bit_stands.ensures ∙ c.if-bit_stands.false

-- a game that is built in
built_in : (c : Then-bit_stands-2) → stands c.args.slip.now 3 ≡ true
built_in c = sym c.bit_stands-2.ensures ∙ c.if-bit_stands-2.true

pub returns-then-left-ne1 : goal.returns-then-left-ne1
returns-then-left-ne1 c =
    let slip = c.args.slip.now in
    let last = game-last slip c.requires.0.head (not_labelled (goal.at.returns-then-left-ne1 c).Else-bit_stands) (built_in (goal.at.returns-then-left-ne1 c).Then-bit_stands-2) in
    sym (no_table slip (ne_eqb (length slip) (fields_end slip)
    (λ e. c.if-left-ne1.true (omega (arith, e, c.requires.1, last.1)))))

pub returns-then-bit_stands-2 : goal.returns-then-bit_stands-2
unfolding slip_game
returns-then-bit_stands-2 c =
    let slip = c.args.slip.now in
    let two = not_labelled (goal.at.returns-then-bit_stands-2 c).Else-bit_stands in
    let three = built_in (goal.at.returns-then-bit_stands-2 c).Then-bit_stands-2 in
    let last = game-last slip c.requires.0.head two three in
    let whole = exact slip (omega (arith, c.if-left-ne1.false, c.requires.1, c.requires.2, last.1)) in
    sym (table_is slip whole ∙ rw (two, three, last.0, ← c.requires.1))

pub shared_ref_as_front-num_profiles : goal.shared_ref_as_front-num_profiles
shared_ref_as_front-num_profiles c =
    let g = c.args.grid in
    let made = (asked-made c.args.slip.now g c.requires.0).0 in
    omega (arith, made-blocks g made, (made-accepted g made).few_blocks)

pub num_profiles-requires : goal.num_profiles-requires
num_profiles-requires c =
    (made-accepted c.args.grid (asked-made c.args.slip.now c.args.grid c.requires.0).0).few_indices

own : (c : After-num_profiles) → stands c.args.slip.now 3 ≡ false
own c = sym c.bit_stands-2.ensures ∙ c.if-bit_stands-2.false

-- how many there are
losses-are : (c : After-num_profiles) → (let a = c.args in
    a.grid.blocks * c.num_profiles.result ≡ num_losses (slip_grid a.slip.now))
losses-are c =
    let m = asked-made c.args.slip.now c.args.grid c.requires.0 in
    let g = c.args.grid in
    ap (λ (n : ℕ). g.blocks * n) c.num_profiles.ensures
    ∙ ap (λ (n : ℕ). n * product (shape g).sizes) (made-blocks g m.0)
    ∙ ap num_losses m.1

-- at most 1,944
most : (c : After-num_profiles) → c.args.grid.blocks * c.num_profiles.result ≤ 1944
most c =
    let g = c.args.grid in
    let made = (asked-made c.args.slip.now g c.requires.0).0 in
    let a = made-accepted g made in
    let few = product-few (take g.blocks g.sizes) a.few_indices in
    let m = mul-le-mul {n₁ = g.blocks} {m₁ = c.num_profiles.result} {n₂ = 6} {m₂ = 324}
    (omega (arith, made-blocks g made, a.few_blocks)) (omega (arith, c.num_profiles.ensures)) in
    omega arith

pub overflow_mul-losses : goal.overflow_mul-losses
overflow_mul-losses c = omega (arith, most c)

pub overflow_mul-losses-2 : goal.overflow_mul-losses-2
overflow_mul-losses-2 c = omega (arith, most c)

pub returns : goal.returns
returns c =
    let slip = c.args.slip.now in
    let two = not_labelled (goal.at.returns c).Else-bit_stands in
    let three = own (goal.at.returns c).After-num_profiles in
    let last = losses-last slip c.requires.0.head two three in
    let count = losses-are (goal.at.returns c).After-num_profiles in
    c.then_some-2.ensures
    ∙ table_tested slip _ _ _ (λ e. omega (arith, e, count, c.requires.1, c.requires.2, last.1))
    (λ e. omega (arith, e, count, c.requires.1, last.1)) (rw (two, three, last.0, ← c.requires.1))
