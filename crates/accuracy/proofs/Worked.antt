-- The worked rows are so by the definitions: the points are complete for the block and belong to one simplex, and the
-- losses and the bounds are those numbers. In the first two rows the difference is the allowance itself, so it cannot
-- be smaller; in the third the other player's is larger, so `everyone` needs the label. Assumes nothing.
use mathlib.Core.Bool.{true, ◌&&◌}
use mathlib.Core.List.{List, [], ◌∷◌, map}
use mathlib.Core.Path.{◌≡◌, refl}
use Prim.Native.Nat.{ℕ}
use Rattle.accuracy.specs.Accuracy.{allowance, losses_within, wide_allowance}
use Rattle.accuracy.specs.Worked.{Row, table}
use Rattle.combinatorics.specs.Lists.{all}
use Rattle.game_built_in.specs.Tables.{losses2}
use Rattle.grid_points.specs.Grid.{block_of, points}
use Rattle.game_losses.specs.Game.{expected_loss, game_label, labels, player_loss, replaced, replaced_loss}
use Rattle.place.specs.Coefficients.{coefficients}
use Rattle.place.specs.Ends.{is_complete}
use Rattle.place.specs.Places.{label_set, set_u}
use Rattle.place.specs.Problem.{label}
use Rattle.check_simplices.specs.Chains.{one_chain}
use Rattle.check_simplices.specs.Simplices.{labelled_by}

complete-rows : all
    (λ r. is_complete (labelled_by r.grid (labels r.grid r.losses)) r.points r.block && one_chain r.grid r.points
    && losses_within 1 r.range r.losses)
    table
    ≡ true
unfolding points label coefficients set_u label_set is_complete one_chain labels game_label expected_loss replaced losses2
complete-rows = refl

abbrev worked : Row → List ℕ
worked r = player_loss r.grid r.losses r.point r.index ∷ replaced_loss r.grid r.losses r.point r.index
    ∷ allowance r.grid r.range r.block ∷ wide_allowance r.grid r.range r.block (block_of r.grid r.index) ∷ []

numbers_worked : map worked table ≡ map (λ r. r.player ∷ r.replaced ∷ r.allowed ∷ r.widely ∷ []) table
unfolding expected_loss replaced losses2
numbers_worked = refl
