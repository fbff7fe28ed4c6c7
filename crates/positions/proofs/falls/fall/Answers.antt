-- `falls::fall` meets its contract. Assumes nothing.
use mathlib.Core.Path.{◌≡◌, ◌∙◌}
use Prim.Native.Nat.{ℕ, ◌+◌, ◌-◌, pred, ◌≤◌, ◌<◌}
use Rattle.grid.proofs.Fields.{made-accepted, made-indices, made-blocks, indices-few, division-range, count-range}
use Rattle.grid_points.specs.Grid.{size, division}
use Rattle.grid.specs.Made.{shape}
use Rattle.positions.proofs.ByTails.{all-indices, falls_by}
use Rattle.positions.proofs.Table.{in_table, in_smaller, lists-grow}
use Rattle.positions.specs.Binomials.{InTable, IsBinomial}
use native.Mathlib.Omega.{arith}
use Rattle.positions.proofs.falls.fall.Goals as goal
use Rattle.positions.proofs.falls.fall.Goals.{After-entry-2, Start}

-- the block has all indices
indices : (c : Start) → c.args.g.indices ≡ size (shape c.args.g) 0
indices c =
    let s = c.args.g in
    let m = c.requires.made.0 in
    made-indices s m ∙ all-indices (shape s) (made-accepted s m) (omega (arith, made-blocks s m, c.requires.made.2))

-- what both entries ask
asked : (c : Start) (k : ℕ) → k < c.args.g.indices
    → (c.args.r + 1 ≤ 60000)
    × (2 < k → InTable (k - 1) (c.args.r + 1) × IsBinomial c.args.t.now (k - 1) (c.args.r + 1))
asked c k l =
    let s = c.args.g in
    let m = c.requires.made.0 in
    let one = c.requires.made.2 in (
      omega (arith, (division-range s m 0 (omega arith)).1, c.requires.h_lt_indices.2),
      λ h. (
        in_smaller (k - 1) (division (shape s) 0)
            (in_table (k - 1) (division (shape s) 0) (pred (size (shape s) 0)) (omega arith) (omega (arith, indices c))
            (omega (arith, indices c, indices-few s m)) (count-range s m 0 (omega arith)))
            (k - 1) (c.args.r + 1) (omega arith) (omega arith) (omega (arith, c.requires.h_lt_indices.2)),
        c.requires.made.1.rows 0 (omega (arith, made-blocks s m)) (k - 1) (c.args.r + 1) (omega arith)
            (omega (arith, indices c)) (omega (arith, c.requires.h_lt_indices.2)),
      ),
    )

fewer : (c : After-entry-2) → c.entry-2.result ≤ c.entry.result
fewer c =
    let a = c.args in
    omega (
      arith,
      c.entry-2.ensures,
      c.entry.ensures,
      lists-grow (a.g.indices - 1 - a.h) (a.g.indices - 1 - a.b) (a.r + 1)
          (omega (arith, c.requires.h_lt_indices.1)),
    )

pub entry-requires : goal.entry-requires
entry-requires c = asked (goal.at.entry-requires c).Start _ (omega (arith, c.requires.h_lt_indices.0))

pub entry-requires-2 : goal.entry-requires-2
entry-requires-2 c = asked (goal.at.entry-requires-2 c).Start _ (omega (arith, c.requires.h_lt_indices.0))

pub overflow_sub-result : goal.overflow_sub-result
overflow_sub-result c = fewer c

pub returns : goal.returns
returns c = λ y z f.
    let s = c.args.g in
    let m = c.requires.made.0 in
    omega (
      arith,
      rw (← made-indices s m) at (falls_by (shape s) (made-accepted s m) f),
      fewer c,
      c.entry-2.ensures,
      c.entry.ensures,
    )
