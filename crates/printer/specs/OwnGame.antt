-- Request 01: "On that game's sizes, a built-in game and the same table brought by hand on slips otherwise alike print
-- the same sheet." Assumes nothing.
use Rattle.std.specs.Prelude.{false, List, [], ◌∷◌, ◌++◌, ◌≡◌, ℕ, ◌+◌, ◌<◌, length}
use Rattle.game_built_in.specs.Tables.{game_sizes, game_losses}
use Rattle.little_endian.specs.Numbers.{bytes_of}
use Rattle.slip_fields.specs.Slip.{map_bit}
use Rattle.printer.specs.Printed.{sheet_of}

-- a slip on the game's sizes: map, N, sizes and divisions, any bytes between, and a last field
abbrev pub slip_on : ℕ → ℕ → List ℕ → List ℕ → List ℕ → List ℕ
slip_on game map divisions between last =
    (map ∷ length (game_sizes game) ∷ (game_sizes game ++ (bytes_of divisions ++ between))) ++ last

-- for each game, every map byte, in which bit 3 or bit 4 stands beside any others, all divisions and all bytes between:
-- too many, too few, or any start and budget
pub record OwnGame (game : ℕ) : Type 0 where
  pub same : (others : ℕ) → others < 256 → map_bit others 3 ≡ false → map_bit others 4 ≡ false
      → (divisions between : List ℕ) → length divisions ≡ length (game_sizes game)
      → sheet_of (slip_on game (others + 8) divisions between (game ∷ []))
      ≡ sheet_of (slip_on game (others + 16) divisions between (bytes_of (game_losses game)))
