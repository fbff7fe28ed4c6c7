-- Document 01's two worked labels of game 1. Assumes nothing.
use mathlib.Core.List.{[], ◌∷◌, map}
use mathlib.Core.Path.{◌≡◌, refl}
use lib.IntN.{pos, negsuc}
use Rattle.grid_points.specs.Grid.{Grid, indices}
use Rattle.game_losses.specs.Game.{difference, expected_loss, replaced, game_label}
use Rattle.game_built_in.specs.Tables.{sizes1, losses1}

-- "In game 1 with all d_j = 1"
abbrev grid1 : Grid
grid1 = record { sizes = sizes1; divisions = 1 ∷ 1 ∷ 1 ∷ [] }

-- "the point 1 0 1 0 1 0 has differences 0, -7, 0, 2, 0, -4": negsuc n is -(n + 1)
pub differences_worked : map (difference grid1 losses1 (1 ∷ 0 ∷ 1 ∷ 0 ∷ 1 ∷ 0 ∷ [])) (indices grid1)
    ≡ pos 0 ∷ negsuc 6 ∷ pos 0 ∷ pos 2 ∷ pos 0 ∷ negsuc 3 ∷ []
unfolding expected_loss replaced losses1
differences_worked = refl

-- "and label 4. The point 1 0 0 1 1 0 has label 2"
pub labels_worked : map (game_label grid1 losses1) ((1 ∷ 0 ∷ 1 ∷ 0 ∷ 1 ∷ 0 ∷ []) ∷ (1 ∷ 0 ∷ 0 ∷ 1 ∷ 1 ∷ 0 ∷ []) ∷ [])
    ≡ 4 ∷ 2 ∷ []
unfolding expected_loss replaced game_label losses1
labels_worked = refl
