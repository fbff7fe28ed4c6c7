-- `placing::both_placed` meets its contract. Assumes nothing.
use mathlib.Core.Path.{◌≡◌, ◌∙◌}
use Prim.Native.Nat.{pred, ◌-◌}
use native.Mathlib.Omega.{arith}
use Rattle.walk_places.proofs.BothPlaced.{both_marked, next-kept, place-next, place-present, present-kept, some_next}
use Rattle.walk_places.proofs.BothPlaced.{some-present}
use Rattle.walk_places.proofs.placing.both_placed.Goals as goal
use Rattle.walk_places.proofs.placing.both_placed.Goals.{After-from-n, After-from-k, After-placed, After-placed-2}

pub overflow_sub-n : goal.overflow_sub-n
overflow_sub-n c = omega (arith, some-present c.requires.0 c.requires.1.1)

present-is : (c : After-from-n) → c.from-n.result - 1 ≡ pred c.args.w.present.count
present-is c = omega (arith, c.from-n.ensures)

pub overflow_sub-k : goal.overflow_sub-k
overflow_sub-k c = omega (arith, some_next c.requires.0 c.requires.1.1)

next-is : (c : After-from-k) → c.from-k.result - 1 ≡ pred c.args.next.count
next-is c = omega (arith, c.from-k.ensures)

-- what is held of each is of that place
is-here : (c : After-placed) → (c.placed.new.held.first ≡ c.args.w.present.first)
    × (c.placed.new.held.order ≡ c.args.w.present.order)
is-here c =
    let stays = c.placed.ensures.stays in
    let of = c.held_in-here.ensures in (stays.0 ∙ of.0, stays.1 ∙ of.1)

is-there : (c : After-placed-2) → (c.placed-2.new.held.first ≡ c.args.next.first)
    × (c.placed-2.new.held.order ≡ c.args.next.order)
is-there c =
    let stays = c.placed-2.ensures.stays in
    let of = c.held_in-there.ensures in (stays.0 ∙ of.0, stays.1 ∙ of.1)

pub placed-requires : goal.placed-requires
placed-requires c =
    place-present c.requires.0 c.requires.1.1 _ (present-is (goal.at.placed-requires c).After-from-n)

pub unreachable-requires : goal.unreachable-requires
unreachable-requires c =
    let g = goal.at.unreachable-requires c in
    present-kept c.requires.0 c.requires.1.1 _ (present-is g.After-from-n) c.placed.new.held (is-here g.After-placed)
    (c.in_default.ensures.recognised c.requires.1.0)

pub placed-requires-2 : goal.placed-requires-2
placed-requires-2 c =
    place-next c.requires.0 c.requires.1.1 _ (next-is (goal.at.placed-requires-2 c).After-from-k)

pub unreachable-requires-in_default-placed : goal.unreachable-requires-in_default-placed
unreachable-requires-in_default-placed c =
    let g = goal.at.unreachable-requires-in_default-placed c in
    next-kept c.requires.0 c.requires.1.1 _ (next-is g.After-from-k) c.placed-2.new.held (is-there g.After-placed-2)
    (c.in_default-placed.ensures.recognised c.requires.1.0)

pub returns : goal.returns
returns c = λ labels goes.
    let g = goal.at.returns c in
    both_marked c.requires.0 goes _ _ (present-is g.After-from-n) (next-is g.After-from-k) _ _
    (is-here g.After-placed) (is-there g.After-placed-2)
    (c.in-Some.ensures.recognised labels) (c.in-Some-placed.ensures.recognised labels)
