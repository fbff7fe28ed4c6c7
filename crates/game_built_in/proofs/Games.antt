-- The games that are built in: their tables have the lengths and the range that questions 10 and 11 ask.
-- Assumes nothing.
use mathlib.Core.Bool.{Bool, true, false, cond, ◌&&◌}
use mathlib.Core.List.{List}
use mathlib.Core.Path.{◌≡◌, refl, sym, ap, ◌∙◌}
use Prim.Native.Nat.{ℕ, ◌*◌}
use lib.Dec.{eqb, leb}
use lib.ListN.{length}
use Rattle.combinatorics.proofs.Basics.{and_right}
use Rattle.combinatorics.proofs.Lists.{same_sound, on_numbers}
use Rattle.combinatorics.specs.Lists.{all, same}
use Rattle.grid_points.specs.Grid.{Grid}
use Rattle.game_losses.specs.Game.{product}
use Rattle.game_losses.specs.Table.{in_range, IsTable}
use Rattle.game_built_in.specs.Tables.{sizes1, sizes2, sizes3, losses1, losses2, losses3, game_sizes, game_losses}
use Rattle.game_built_in.specs.Tables.{question15}

-- "their range is checked once over each table", and so is their length
tables : (b c : Bool)
    → let sizes = cond b sizes1 (cond c sizes2 sizes3) in
    let losses = cond b losses1 (cond c losses2 losses3) in
    (length losses ≡ length sizes * product sizes) × (all in_range losses ≡ true)
unfolding losses1 losses2 losses3
tables true c = (refl, refl)
tables false true = (refl, refl)
tables false false = (refl, refl)

pub table-whole : (game : ℕ) → length (game_losses game) ≡ length (game_sizes game) * product (game_sizes game)
table-whole game = (tables (eqb game 1) (eqb game 2)).0

pub table-range : (game : ℕ) → all in_range (game_losses game) ≡ true
table-range game = (tables (eqb game 1) (eqb game 2)).1

-- the table of a game for which question 15 is answered yes
pub game-table : (g : Grid) (game : ℕ) → (question15 game g.sizes).answered_yes ≡ true → IsTable g (game_losses game)
game-table g game known =
    let e : g.sizes ≡ game_sizes game = same_sound eqb on_numbers.sound g.sizes (game_sizes game)
    (and_right (leb 1 game && leb game 3) (same eqb g.sizes (game_sizes game)) known) in
    record { whole = table-whole game ∙ sym (ap (λ (ss : List ℕ). length ss * product ss) e); range = table-range game }
