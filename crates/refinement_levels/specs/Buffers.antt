-- Request 05: what a refinement leaves in the answer buffer, number by number. Assumes nothing.
use Rattle.std.specs.Prelude.{cond, List, map, ℕ, ◌/◌, ◌%◌, ltb, length, get_or}
use Rattle.combinatorics.specs.Lists.{concat_map, up_from}
use Rattle.refinement_levels.specs.Levels.{Refinement, level_end, answer_vertices}
use Rattle.refinement_levels.specs.Questions.{level_room}

-- the vertices of level i, m numbers each
abbrev pub level_numbers : Refinement → ℕ → List ℕ
level_numbers r i = concat_map (λ y. y) (answer_vertices (level_end r i))

-- "the vertices of level i, counted from 0, begin at i times (n + 1) times m in the answer buffer, and the numbers
-- between are
-- untouched": number q of the buffer, with `room` numbers for each of the levels
abbrev pub number_at : Refinement → ℕ → List ℕ → ℕ → ℕ
number_at r levels old q =
    let room = level_room r.grid in
    cond (ltb (q / room) levels) (get_or (level_numbers r (q / room)) (q % room) (get_or old q 0)) (get_or old q 0)

-- the whole buffer
unfoldable pub numbers_after : Refinement → ℕ → List ℕ → List ℕ
numbers_after r levels old = map (number_at r levels old) (up_from 0 (length old))
