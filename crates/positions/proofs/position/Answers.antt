-- `position` meets its contract. The invariant: the position in the blocks so far, by Horner's rule. Assumes nothing.
use mathlib.Core.Bool.{true}
use mathlib.Core.List.{List, map}
use mathlib.Core.Path.{◌≡◌, sym, ap, ◌∙◌, subst}
use Prim.Native.Nat.{ℕ, ◌+◌, ◌*◌, ◌≤◌, ◌<◌}
use lib.ListN.{take}
use Rattle.grid.proofs.Fields.{made-accepted, made-indices, made-blocks, made-size, made-division, made-first}
use Rattle.grid.proofs.Fields.{made-count, blocks-range, indices-few, size-range, count-range}
use Rattle.positions.proofs.Positions.{Horner, horner_start, horner_next, horner_few, horner_done, adds_up}
use Rattle.positions.proofs.Positions.{map-front}
use Rattle.grid_points.proofs.Round.{block-fits}
use Rattle.grid_points.specs.Grid.{is_grid_point, num_indices, num_blocks, indices_of, first_index, size, division}
use Rattle.grid_points.specs.Grid.{block_points}
use Rattle.grid_points.specs.Grid.{position, position_in, at as coordinate}
use Rattle.grid.specs.Made.{shape}
use Rattle.positions.specs.Steps.{after_steps}
use native.Mathlib.Omega.{arith}
use Rattle.positions.proofs.position.Goals as goal
use Rattle.positions.proofs.position.Goals.{After-from-in-loop-j-3, Start}

-- the coordinates after the steps
abbrev stepped : Start → List ℕ
stepped c = after_steps c.args.y.now c.args.steps.now

-- the point
point : (c : Start)
    → is_grid_point (shape c.args.g) (take (num_indices (shape c.args.g)) (stepped c)) ≡ true
point c = subst
    (λ (m : ℕ). is_grid_point (shape c.args.g) (take m (stepped c)) ≡ true)
    (made-indices c.args.g c.requires.made.0) c.requires.can_take_steps.1

-- the coordinates of a block stand in the array as in the point
same : (c : Start) (j : ℕ)
    → map (coordinate (take (num_indices (shape c.args.g)) (stepped c))) (indices_of (shape c.args.g) j)
    ≡ map (coordinate (stepped c)) (indices_of (shape c.args.g) j)
same c j =
    let s = c.args.g in
    map-front (stepped c) (num_indices (shape s)) (first_index (shape s) j) (size (shape s) j)
    (block-fits (shape s).sizes j)

-- one block more
next : (c : After-from-in-loop-j-3)
    → Horner
    (shape c.args.g)
    (take
    (num_indices
    (shape c.args.g))
    (stepped (goal.at.After-from-in-loop-j-3 c).Start))
    (c.loop-j.j + 1)
    (c.loop-j.at * c.from-in-loop-j-3.result + c.in_block-rank.result)
next c =
    let s = c.args.g in
    let m = c.requires.made.0 in
    let l = c.loop-j in
    let is_first = made-first s m l.j (omega arith) in
    let is_size = made-size s m l.j (omega arith) in
    let is_division = made-division s m l.j (omega arith) in
    let q : c.in_block-rank.result
    ≡ position_in (block_points (size (shape s) l.j) (division (shape s) l.j))
    (map (coordinate (take (num_indices (shape s)) (stepped (goal.at.After-from-in-loop-j-3 c).Start))) (indices_of (shape s) l.j)) =
    c.in_block-rank.ensures
    ∙ rw (
      same (goal.at.After-from-in-loop-j-3 c).Start l.j,
      c.from.ensures,
      c.from-in-loop-j.ensures,
      c.from-in-loop-j-2.ensures,
      is_first,
      is_size,
      is_division,
    ) in
    rw (q, c.from-in-loop-j-3.ensures, made-count s m l.j (omega arith))
    (horner_next (shape s) _ (made-accepted s m) (point (goal.at.After-from-in-loop-j-3 c).Start) l.j l.at (omega (arith, made-blocks s m)) l.invariant.0)

few : (c : After-from-in-loop-j-3)
    → c.loop-j.at * c.from-in-loop-j-3.result + c.in_block-rank.result
    ≤ 60000
few c =
    let s = c.args.g in
    let m = c.requires.made.0 in
    horner_few (shape s) _ (made-accepted s m) (point (goal.at.After-from-in-loop-j-3 c).Start)
    (c.loop-j.j + 1) _ (omega (arith, made-blocks s m)) (next c)

pub loop-j-init : goal.loop-j-init
loop-j-init c =
    let s = c.args.g in
    let m = c.requires.made.0 in (
      horner_start (shape s) _ (made-accepted s m) (point (goal.at.loop-j-init c).Start),
      (blocks-range s m).1,
    )

pub in_block-rank-requires : goal.in_block-rank-requires
in_block-rank-requires c =
    let s = c.args.g in
    let m = c.requires.made.0 in
    let j = c.loop-j.j in
    let is_first = made-first s m j (omega arith) in
    let is_size = made-size s m j (omega arith) in
    let is_division = made-division s m j (omega arith) in
    let n : j < num_blocks (shape s) = omega (arith, made-blocks s m) in
    rw (
      c.from.ensures,
      c.from-in-loop-j.ensures,
      c.from-in-loop-j-2.ensures,
      is_first,
      is_size,
      is_division,
    ) record {
      le_size = (
        (size-range s m j (omega arith)).0,
        omega (arith, block-fits (shape s).sizes j, indices-few s m, made-indices s m),
        count-range s m j (omega arith),
      );
      has_rows = (
        c.requires.made.1.rows j n,
        λ k l. c.requires.can_take_steps.0 k (omega (arith, block-fits (shape s).sizes j, made-indices s m)),
        rw (same (goal.at.in_block-rank-requires c).Start j) at (adds_up (shape s) _ (made-accepted s m) (point (goal.at.in_block-rank-requires c).Start) j n),
      );
    }

pub overflow_mul-at : goal.overflow_mul-at
overflow_mul-at c = omega (arith, few (goal.at.overflow_mul-at c).After-from-in-loop-j-3)

pub overflow_add-at : goal.overflow_add-at
overflow_add-at c = omega (arith, few (goal.at.overflow_add-at c).After-from-in-loop-j-3)

pub loop-j-preserved : goal.loop-j-preserved
loop-j-preserved c = (next (goal.at.loop-j-preserved c).After-from-in-loop-j-3, c.loop-j.invariant.1)

pub returns : goal.returns
returns c =
    let s = c.args.g in
    let m = c.requires.made.0 in
    let l = c.loop-j in
    let n : l.j ≡ num_blocks (shape s) = omega (arith, made-blocks s m) in
    horner_done (shape s) _ (made-accepted s m) (point (goal.at.returns c).Start) l.at (rw (← n) l.invariant.0)
    ∙ ap (λ i. position (shape s) (take i (stepped (goal.at.returns c).Start))) (sym (made-indices s m))
