-- A state whose marks have labels and no positions: no move looks at a position. Assumes nothing.
use Rattle.std.specs.Prelude.{cond, List, map, ℕ, ltb}
use Rattle.grid_points.specs.Grid.{Grid}
use Rattle.moves.specs.Held.{with_marks}
use Rattle.game_losses.specs.Game.{game_label}
use Rattle.rules.specs.Read.{point_on}
use Rattle.rules.specs.Moves.{State, After, goes, ends_at_place, ends_at_facet, mark_label, with_mark}

-- each mark without its position
abbrev pub bare_state : State → State
bare_state s = with_marks s (map mark_label s.marks)

abbrev pub bare_after : After → After
bare_after (goes s) = goes (bare_state s)
bare_after (ends_at_place s h) = ends_at_place (bare_state s) h
bare_after (ends_at_facet s h) = ends_at_facet (bare_state s) h

-- the label of the point that has just come in is worked out; after rules 6 and 7 none has
unfoldable pub labelled : Grid → List ℕ → State → State
labelled g losses s = cond (ltb s.rule 6) (with_mark s (game_label g losses (point_on g s s.active))) s
