-- `slip::read_fields` meets its contract, field by field. Assumes nothing.
use mathlib.Core.Bool.{true}
use mathlib.Core.Path.{◌≡◌, sym, ◌∙◌}
use Prim.Native.Nat.{◌≤◌}
use lib.ListN.{length}
use Rattle.slip_fields.proofs.Laws.{at_first}
use Rattle.slip.proofs.Readings.{refused_14, refused_15, all_yes, start-there, start_missing, budget-there}
use Rattle.slip.proofs.Readings.{budget_missing, parts_say, table-there, table_missing}
use Rattle.combinatorics.specs.Front.{padded}
use Rattle.slip_fields.specs.Slip.{field_at, slip_start, slip_budget, question14}
use Rattle.slip.specs.Reading.{table_named}
use Rattle.slip.proofs.read_fields.Goals as goal
use Rattle.slip.proofs.read_fields.Goals.{In-Some, In-Some-budget, In-Some-table}

pub start-requires : goal.start-requires
start-requires c = (c.requires.0, c.requires.1 ∙ sym (at_first c.args.slip.now))

pub returns-in_default : goal.returns-in_default
returns-in_default c =
    let slip = c.args.slip.now in
    let missing = start_missing slip (sym c.start.ensures ∙ c.in_default.is) in
    c.refused.ensures ∙ refused_14 slip c.requires.0.head c.requires.0.accepts missing

start-ends : (c : In-Some) → (let slip = c.args.slip.now in
    (c.in-Some.start.end ≡ field_at slip 1) × (c.in-Some.start.end ≤ length slip)
    × (c.in-Some.start.numbers ≡ padded 16 (slip_start slip)))
start-ends c = start-there c.args.slip.now c.in-Some.start (sym c.start.ensures ∙ c.in-Some.is)

pub budget-requires : goal.budget-requires
budget-requires c = (c.requires.0, (start-ends c).0, (start-ends c).1)

pub returns-in_default-budget : goal.returns-in_default-budget
returns-in_default-budget c =
    let slip = c.args.slip.now in
    let missing =
    budget_missing slip (sym c.budget.ensures ∙ c.in_default-budget.is) in
    c.refused-in_default-budget.ensures ∙ refused_14 slip c.requires.0.head c.requires.0.accepts missing

budget-ends : (c : In-Some-budget) → (let slip = c.args.slip.now in
    (c.in-Some-budget.budget.places ≡ slip_budget slip) × (c.in-Some-budget.budget.end ≡ field_at slip 2)
    × (c.in-Some-budget.budget.end ≤ length slip))
budget-ends c =
    budget-there c.args.slip.now c.in-Some-budget.budget (sym c.budget.ensures ∙ c.in-Some-budget.is)

pub table-requires : goal.table-requires
table-requires c = (c.requires.0, (budget-ends c).1, (budget-ends c).2)

pub returns-in_default-table : goal.returns-in_default-table
returns-in_default-table c =
    let slip = c.args.slip.now in
    let missing =
    table_missing slip (sym c.table.ensures ∙ c.in_default-table.is) in
    c.refused-in_default-table.ensures ∙ refused_14 slip c.requires.0.head c.requires.0.accepts missing

exact : (c : In-Some-table) → (let slip = c.args.slip.now in
    ((question14 slip).answered_yes ≡ true) × (c.in-Some-table.table ≡ table_named slip))
exact c = table-there c.args.slip.now c.in-Some-table.table (sym c.table.ensures ∙ c.in-Some-table.is)

pub is_known-requires : goal.is_known-requires
is_known-requires c =
    (c.requires.0.head, (exact c).1)

pub returns-then-not-is_known : goal.returns-then-not-is_known
returns-then-not-is_known c =
    let unknown = sym c.is_known.ensures ∙ c.if-not-is_known.true in
    c.refused-then-not-is_known.ensures
    ∙ refused_15 c.args.slip.now c.requires.0.head c.requires.0.accepts (exact (goal.at.returns-then-not-is_known c).In-Some-table).0 unknown

pub returns : goal.returns
returns c =
    let slip = c.args.slip.now in
    let w = c.requires.0 in
    let known = sym c.is_known.ensures ∙ c.if-not-is_known.false in
    let start = (start-ends (goal.at.returns c).In-Some).2 in
    let budget = (budget-ends (goal.at.returns c).In-Some-budget).0 in
    let t = exact (goal.at.returns c).In-Some-table in
    parts_say slip _ _ _ _ w.is_grid start budget t.1 ∙ all_yes slip w.head w.accepts t.0 known
