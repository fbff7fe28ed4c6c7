-- `showing::change_in` meets its contract. Assumes nothing.
use mathlib.Core.List.{List}
use mathlib.Core.Path.{◌≡◌, sym, ap, ◌∙◌, subst}
use Prim.Native.Nat.{ℕ}
use Rattle.grid_points.specs.Grid.{Grid}
use Rattle.grid.specs.Made.{shape}
use Rattle.grid.specs.declared.Made.{Made}
use Rattle.walks.specs.Preview.{preview}
use Rattle.walk_calls.specs.Moving.{GridIn}
use Rattle.walk_preview.proofs.Calls.{grid-passes}
use Rattle.walk_preview.specs.Previews.{CanShow, Moves, MovesTo, change_shown}
use Rattle.walk_places.specs.Walks.{walk_grid, walk_on}
use Rattle.walk_places.specs.declared.Place.{Place}
use Rattle.walk_places.specs.declared.Walk.{Walk as WalkStruct}
use Rattle.walk_preview.proofs.showing.change_in.Goals as goal

module _ (w : WalkStruct) (made : Made) (is : GridIn (walk_grid w) made) (labels : List ℕ) (next : Place) (rule : ℕ)
    (M : MovesTo w labels next rule) where
  same-grid : shape made.grid ≡ walk_grid w
  same-grid = (is.is (is.code ∙ grid-passes M)).1

  can_show : CanShow made.grid w labels next rule
  can_show = record {
    made = (is.is (is.code ∙ grid-passes M)).0;
    moves = subst (λ (g : Grid). Moves g w labels next rule) (sym same-grid) M;
  }

pub change_on-requires : goal.change_on-requires
change_on-requires c = let a = c.args in (
  c.requires.0,
  can_show a.w c.grid_in.result c.grid_in.ensures c.requires.0 a.next
      a.rule c.requires.1,
)

pub returns : goal.returns
returns c = λ labels M. let a = c.args in let made = c.grid_in in
    c.change_on.ensures labels (can_show a.w made.result made.ensures labels a.next a.rule M)
    ∙ ap (λ (g : Grid). change_shown (preview (walk_on g a.w) labels))
    (same-grid a.w made.result made.ensures labels a.next a.rule M)
