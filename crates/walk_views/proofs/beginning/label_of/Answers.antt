-- `beginning::label_of` meets its contract: no step leads from the start to itself. Assumes nothing.
use mathlib.Core.Path.{ap, ◌∙◌}
use Prim.Native.Nat.{ℕ}
use borrow.Author.Rules.{rules}
use lib.ListN.{get_or, get_or-replicate, take}
use native.Mathlib.Omega.{arith}
use Rattle.grid.proofs.Fields.{indices-few, made-points}
use Rattle.grid_points.specs.Grid.{position}
use Rattle.grid.specs.Made.{shape}
use Rattle.place.specs.Problem.{label}
use Rattle.walk_recogniser.proofs.Steps.{position-low, with_none}
use Rattle.walk_views.proofs.beginning.label_of.Goals as goal

pub binomials-requires : goal.binomials-requires
binomials-requires c = (c.requires.made, search rules)

pub position-requires : goal.position-requires
position-requires c =
    let a = c.args in record {
      made = (c.requires.made, c.binomials.ensures);
      can_take_steps = (
        λ k l. omega (arith, get_or-replicate {A = ℕ} 16 k 16 0 (omega (arith, indices-few a.g c.requires.made))),
        rw (with_none a.g c.requires.made a.y.now c.requires.long) c.requires.on_grid,
      );
    }

pub byte_at-requires : goal.byte_at-requires
byte_at-requires c =
    let a = c.args in
    let at =
    c.position.ensures ∙ ap (position (shape a.g)) (with_none a.g c.requires.made a.y.now c.requires.long) in
    omega (
      arith,
      at,
      position-low a.g c.requires.made (take a.g.indices a.y.now) c.requires.on_grid,
      c.requires.whole,
      made-points a.g c.requires.made,
    )

pub returns : goal.returns
unfolding label
returns c =
    let a = c.args in
    c.byte_at.ensures
    ∙ ap (λ (i : ℕ). get_or a.labels.now i 0)
    (c.position.ensures
    ∙ ap (position (shape a.g)) (with_none a.g c.requires.made a.y.now c.requires.long))
