-- Worked rows of the questions of solving on fine grids: their order, and their limits. By computation. Assumes
-- nothing.
use Rattle.std.specs.Prelude.{List, [], ◌∷◌, ◌≡◌, refl, ℕ}
use Rattle.grid_points.specs.Grid.{Point, is_grid_point, lent}
use Rattle.questions.specs.Questions.{first_no}
use Rattle.refinement_levels.specs.Levels.{Refinement}
use Rattle.solve_levels.specs.Questions.{limit_questions, solve_questions}

-- a game of two players with two strategies each
abbrev game : List ℕ → Point → ℕ → Refinement
game divisions start k = record {
  grid = lent (2 ∷ 2 ∷ []) divisions;
  start = start;
  losses = 2 ∷ 4 ∷ 1 ∷ 3 ∷ 2 ∷ 1 ∷ 4 ∷ 3 ∷ [];
  factor = k;
}

abbrev refusal : Refinement → ℕ → ℕ → ℕ
refusal r levels room = first_no (solve_questions r levels room)

-- 16 levels of doubling from 1 are all there are, and 17 are refused before anything else is asked
sixteen : refusal (game (1 ∷ 1 ∷ []) (1 ∷ 0 ∷ 1 ∷ 0 ∷ []) 2) 16 12 ≡ 0
unfolding first_no is_grid_point
sixteen = refl

seventeen : refusal (game (0 ∷ 1 ∷ []) [] 2) 17 0 ≡ 18
unfolding first_no
seventeen = refl

-- 3 before 24, 24 of any level before 5, and 8 last
third : refusal (game (0 ∷ 65535 ∷ []) [] 2) 1 0 ≡ 3
unfolding first_no
third = refl

fine : refusal (game (60000 ∷ 60000 ∷ []) (60000 ∷ 0 ∷ 0 ∷ 60000 ∷ []) 2) 1 12 ≡ 0
unfolding first_no is_grid_point
fine = refl

later_level : refusal (game (30001 ∷ 1 ∷ []) [] 2) 2 0 ≡ 24
unfolding first_no
later_level = refl

start_off : refusal (game (30000 ∷ 1 ∷ []) [] 2) 2 0 ≡ 5
unfolding first_no is_grid_point
start_off = refl

room-short : refusal (game (1 ∷ 1 ∷ []) (1 ∷ 0 ∷ 1 ∷ 0 ∷ []) 2) 1 11 ≡ 8
unfolding first_no is_grid_point
room-short = refl

-- six players: the product alone is too large, though each division is small
six : first_no (limit_questions (lent (2 ∷ 2 ∷ 2 ∷ 2 ∷ 2 ∷ 2 ∷ []) (457 ∷ 457 ∷ 457 ∷ 457 ∷ 457 ∷ 457 ∷ [])) 2 1) ≡ 24
unfolding first_no
six = refl

six_less : first_no (limit_questions (lent (2 ∷ 2 ∷ 2 ∷ 2 ∷ 2 ∷ 2 ∷ []) (456 ∷ 456 ∷ 456 ∷ 456 ∷ 456 ∷ 456 ∷ [])) 2 1)
    ≡ 0
unfolding first_no
six_less = refl
