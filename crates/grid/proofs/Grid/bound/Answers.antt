-- `grid::Grid::bound` meets its contract. Assumes nothing.
use mathlib.Core.Path.{◌≡◌, ap, ◌∙◌}
use Prim.Native.Nat.{◌*◌, ◌-◌}
use Rattle.grid_points.proofs.Accepted.{blocks-few}
use Rattle.grid.proofs.Fields.{made-accepted, made-blocks, made-indices, made-points, blocks-range, indices-few}
use Rattle.grid_points.proofs.Terms.{bound-fits, bound_of}
use Rattle.grid_points.specs.Grid.{bound}
use Rattle.grid.specs.Made.{shape}
use native.Mathlib.Omega.{arith}
use Rattle.grid.proofs.Grid.bound.Goals as goal
use Rattle.grid.proofs.Grid.bound.Goals.{After-terms}

-- P times the terms is the bound
product : (c : After-terms)
    → c.args.self.points * c.terms.result ≡ bound (shape c.args.self)
product c =
    let s = c.args.self in
    let m = c.requires in
    ap (λ t. s.points * t) c.terms.ensures
    ∙ bound_of (shape s) s.points s.indices (s.indices - s.blocks) (made-points s m) (made-indices s m)
    (omega (arith, made-indices s m, made-blocks s m))

pub overflow_sub-self : goal.overflow_sub-self
overflow_sub-self c =
    let s = c.args.self in
    omega (arith, blocks-few _ (made-accepted s c.requires), made-indices s c.requires, made-blocks s c.requires)

pub terms-requires : goal.terms-requires
terms-requires c =
    let b = blocks-range _ c.requires in
    let i = indices-few _ c.requires in
    (i, omega arith, omega (arith, b.0))

pub overflow_mul-result : goal.overflow_mul-result
overflow_mul-result c = rw (product c) (record { fits = bound-fits (shape c.args.self) c.requires.accepted })

pub returns : goal.returns
returns c = product c
