-- `ranks::in_block` meets its contract. The invariant: the rank and the position of the k coordinates to come make the
-- position of all. Assumes nothing.
use mathlib.Core.List.{List, map}
use mathlib.Core.Path.{◌≡◌, sym, ap, ◌∙◌}
use Prim.Native.Nat.{ℕ, ◌+◌, ◌-◌, ◌≤◌, ◌<◌, pred}
use Rattle.combinatorics.specs.Counting.{choose}
use Rattle.combinatorics.specs.Lists.{sum, up_from}
use Rattle.positions.proofs.Positions.{rank_of, rank_turn, rank_end, rank_below}
use Rattle.positions.proofs.Steps.{after-at}
use Rattle.positions.proofs.Table.{in_table, in_smaller}
use Rattle.grid_points.specs.Grid.{at}
use Rattle.positions.specs.Steps.{after_steps}
use native.Mathlib.Omega.{arith}
use Rattle.positions.proofs.ranks.in_block.Goals as goal
use Rattle.positions.proofs.ranks.in_block.Goals.{After-from-3, After-from-in-loop-k, Start}

-- the coordinates after the steps
abbrev stepped : Start → List ℕ
stepped c = after_steps c.args.y.now c.args.steps.now

-- the position of all is small
few : (c : Start) → rank_of (stepped c) c.args.first c.args.size c.args.division < 60000
few c =
    let a = c.args in
    omega (arith, rank_below (stepped c) a.first a.size a.division (omega arith) c.requires.has_rows.2, c.requires.le_size.2)

-- a coordinate after the steps, of an array's number and its count
coordinate : (c : Start) (i y steps : ℕ) → i < c.args.first + c.args.size
    → y ≡ at c.args.y.now i → steps ≡ at c.args.steps.now i
    → (16 ≤ y + steps) × (y + steps - 16 ≡ at (stepped c) i)
coordinate c i y steps l e f =
    let a = c.args in
    let after = after-at a.y.now a.steps.now i (omega (arith, c.requires.le_size.1)) in
    (omega (arith, c.requires.has_rows.1 i l), omega (arith, after))

-- what a turn counts, with n coordinates to come before index b
turn_of : (y : List ℕ) (b n left : ℕ) → 2 < n → n ≤ b → sum (map (at y) (up_from (b - n) n)) ≡ left
    → (at y (b - n) ≤ left) × (sum (map (at y) (up_from (b - (n - 1)) (n - 1))) ≡ left - at y (b - n))
    × (rank_of y (b - n) n left + choose (left - at y (b - n) + (n - 1)) (n - 1)
    ≡ choose (left + (n - 1)) (n - 1) + rank_of y (b - (n - 1)) (n - 1) (left - at y (b - n)))
turn_of y b n left two le e =
    let s : n - 1 + 1 ≡ n = omega arith in
    let t : n - 1 - 1 + 1 ≡ n - 1 = omega arith in
    let i : b - n + 1 ≡ b - (n - 1) = omega arith in
    let w = rank_turn y (b - n) (n - 1) left (omega arith) (rw s e) in
    rw (t, s, i) at w

-- the coordinate that a turn takes
turn : (c : After-from-in-loop-k)
    → let x = c.from.result + c.from-in-loop-k.result in
    (16 ≤ x)
    × (x - 16
    ≡ at (stepped (goal.at.After-from-in-loop-k c).Start)
    (c.args.first + c.args.size - c.loop-k.k))
turn c =
    let i : c.args.first + c.args.size - 1 - (c.loop-k.k - 1) ≡ c.args.first + c.args.size - c.loop-k.k = omega arith in
    coordinate (goal.at.After-from-in-loop-k c).Start _ _ _ (omega arith)
    (rw i at c.from.ensures) (rw i at c.from-in-loop-k.ensures)

-- what it counts
taken : (c : After-from-in-loop-k)
    → let z = stepped (goal.at.After-from-in-loop-k c).Start in
    let b = c.args.first + c.args.size in
    let l = c.loop-k in
    let x = c.from.result + c.from-in-loop-k.result - 16 in
    (x ≤ l.left) × (sum (map (at z) (up_from (b - (l.k - 1)) (l.k - 1))) ≡ l.left - x)
    × (rank_of z (b - l.k) l.k l.left + choose (l.left - x + (l.k - 1)) (l.k - 1)
    ≡ choose (l.left + (l.k - 1)) (l.k - 1) + rank_of z (b - (l.k - 1)) (l.k - 1) (l.left - x))
taken c =
    let l = c.loop-k in
    rw (turn c).1 (turn_of (stepped (goal.at.After-from-in-loop-k c).Start) (c.args.first + c.args.size) l.k l.left
    (omega arith) (omega arith) l.invariant.2)

pub loop-k-init : goal.loop-k-init
loop-k-init c =
    let a = c.args in
    let z : a.first + a.size - a.size ≡ a.first = omega arith in
    (omega arith, omega arith, rw z c.requires.has_rows.2, rw z (omega arith))

pub lists_before-rank-requires-clause-in_table : goal.lists_before-rank-requires-clause-in_table
lists_before-rank-requires-clause-in_table c =
    let l = c.loop-k in
    let t = taken (goal.at.lists_before-rank-requires-clause-in_table c).After-from-in-loop-k in
    let room = in_table (l.k - 1) c.args.division (pred c.args.size) (omega arith) (omega arith)
    (omega (arith, c.requires.le_size.1)) c.requires.le_size.2 in (
      in_smaller (l.k - 1) c.args.division room (l.k - 1) l.left (omega arith) (omega arith) l.invariant.1,
      t.0,
    )

pub overflow_add-rank : goal.overflow_add-rank
overflow_add-rank c =
    let l = c.loop-k in
    omega (
      arith,
      l.invariant.3,
      (taken (goal.at.overflow_add-rank c).After-from-in-loop-k).2,
      c.lists_before-rank.ensures,
      few (goal.at.overflow_add-rank c).Start,
    )

pub overflow_sub-left : goal.overflow_sub-left
overflow_sub-left c = (taken (goal.at.overflow_sub-left c).After-from-in-loop-k).0

pub loop-k-preserved : goal.loop-k-preserved
loop-k-preserved c =
    let l = c.loop-k in
    let t = taken (goal.at.loop-k-preserved c).After-from-in-loop-k in
    (omega arith, omega arith, t.1, omega (arith, l.invariant.3, t.2, c.lists_before-rank.ensures))

-- the one it ends with
last : (c : After-from-3)
    → let x = c.from-2.result + c.from-3.result in
    (16 ≤ x)
    × (x - 16
    ≡ at (stepped (goal.at.After-from-3 c).Start)
    (c.args.first + c.args.size - 2))
last c =
    let i : c.args.first + c.args.size - 1 - 1 ≡ c.args.first + c.args.size - 2 = omega arith in
    coordinate (goal.at.After-from-3 c).Start _ _ _ (omega arith)
    (rw i at c.from-2.ensures) (rw i at c.from-3.ensures)

pub overflow_add-result-2 : goal.overflow_add-result-2
overflow_add-result-2 c =
    let l = c.loop-k in
    omega (arith, l.invariant.3, (last (goal.at.overflow_add-result-2 c).After-from-3).1, few (goal.at.overflow_add-result-2 c).Start)

pub returns : goal.returns
unfolding rank_of
returns c =
    let l = c.loop-k in
    let a = c.args in
    let z = stepped (goal.at.returns c).Start in
    let e : l.k ≡ 2 = omega arith in
    let s : sum (map (at z) (up_from (a.first + a.size - 2) 2)) ≡ l.left = rw e at l.invariant.2 in
    let p : l.rank + rank_of z (a.first + a.size - 2) 2 l.left ≡ rank_of z a.first a.size a.division =
    rw e at l.invariant.3 in
    ap (λ x. l.rank + x) ((last (goal.at.returns c).After-from-3).1 ∙ sym (rank_end z (a.first + a.size - 2) l.left s)) ∙ p
