-- `grid::Grid::new` meets its contract. Assumes nothing.
use mathlib.Core.Path.{sym, ◌∙◌}
use borrow.Author.Tests.{eq-eqb, ne_eqb}
use Rattle.grid.specs.Made.{made_of}
use Rattle.grid.proofs.Grid.new.Goals as goal

pub built-grid-requires : goal.built-grid-requires
built-grid-requires c = sym c.first_grid_no-code.ensures ∙ c.if-code-eq0.true

pub returns-then-code-eq0 : goal.returns-then-code-eq0
unfolding made_of
returns-then-code-eq0 c =
    let e = c.first_grid_no-code.ensures in
    let z = c.if-code-eq0.true in
    rw (c.built-grid.ensures, ← e, eq-eqb c.first_grid_no-code.result 0 z)

pub returns-else-code-eq0 : goal.returns-else-code-eq0
unfolding made_of
returns-else-code-eq0 c =
    let e = c.first_grid_no-code.ensures in
    let z = c.if-code-eq0.false in
    rw (c.none-grid.ensures, ← e, ne_eqb c.first_grid_no-code.result 0 z)
