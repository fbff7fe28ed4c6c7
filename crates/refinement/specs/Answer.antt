-- Request 05: what a refinement answers and leaves in its two buffers, on every input. Assumes nothing.
use Rattle.std.specs.Prelude.{cond, List, map, ℕ, eqb, ltb, length, replicate}
use Rattle.combinatorics.specs.Lists.{up_from}
use Rattle.end_kinds.specs.declared.Kind.TheVariants.{Place as place_end}
use Rattle.finder.specs.Run.{case_of}
use Rattle.finder.specs.declared.answers.RunAnswer.{RunAnswer}
use Rattle.finder.specs.declared.answers.RunAnswer.TheVariants.{Refused as RunRefused, Spent, Unknown, End}
use Rattle.grid_points.specs.Grid.{Grid, Point}
use Rattle.refinement_levels.specs.Buffers.{numbers_after}
use Rattle.refinement_levels.specs.Levels.{Refinement, level_end}
use Rattle.refinement_levels.specs.Questions.{last_grid, refine_questions}
use Rattle.game_losses.specs.Game.{labels}
use Rattle.questions.specs.Questions.{first_no}
use Rattle.refinement.specs.declared.Level.{Level}
use Rattle.refinement.specs.declared.Refined.{Refined}

-- what is lent
abbrev pub lent_game : Grid → Point → List ℕ → ℕ → Refinement
lent_game g start losses k = record { grid = g; start = start; losses = losses; factor = k }

-- behind the last level
abbrev pub no_level : Level
no_level = record { places = 0; labels_read = 0; kind = place_end; block = 0; vertices = 0 }

-- "The result has each level's places, kind of end, block and number of vertices"; request 10: "for each level of a
-- refinement too" it gains the labels read. The other cases of a run are none of
-- a level's
-- (`announced` of `Level`, refinement_levels/specs/Claims).
abbrev pub level_of : RunAnswer → Level
level_of (RunRefused number) = no_level
level_of (Spent places) = no_level
level_of (Unknown places position) = no_level
level_of (End places read kind block vertices) = record {
  places = places;
  labels_read = read;
  kind = kind;
  block = block;
  vertices = vertices;
}

-- entry i of the array
abbrev pub entry_of : Refinement → ℕ → ℕ → Level
entry_of r levels i = cond (ltb i levels) (level_of (case_of (level_end r i))) no_level

unfoldable pub levels_of : Refinement → ℕ → List Level
levels_of r levels = map (entry_of r levels) (up_from 0 8)

-- a refusal's number alone
abbrev pub refused : ℕ → Refined
refused number = record { code = number; count = 0; levels = replicate 8 no_level }

-- the number of the first question answered no, with the label buffer and the numbers of the answer buffer
abbrev pub refine_refusal : Refinement → ℕ → List ℕ → List ℕ → ℕ
refine_refusal r levels buffer old = first_no (refine_questions r levels buffer (length old))

-- "Questions .. come before the first is run"
unfoldable pub refine_answer : Refinement → ℕ → List ℕ → List ℕ → Refined
refine_answer r levels buffer old =
    let number = refine_refusal r levels buffer old in
    cond (eqb number 0) (record { code = 0; count = levels; levels = levels_of r levels }) (refused number)

-- "The label buffer .. ends holding" the last level's table
unfoldable pub labels_left : Refinement → ℕ → List ℕ → List ℕ → List ℕ
labels_left r levels buffer old =
    cond (eqb (refine_refusal r levels buffer old) 0) (labels (last_grid r levels) r.losses) buffer

unfoldable pub answer_left : Refinement → ℕ → List ℕ → List ℕ → List ℕ
answer_left r levels buffer old = cond (eqb (refine_refusal r levels buffer old) 0) (numbers_after r levels old) old
