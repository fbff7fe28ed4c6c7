-- Document 01, "Questions in order": those about the grid and the start. Assumes nothing.
use Rattle.std.specs.Prelude.{◌&&◌, List, [], ◌∷◌, eqb, leb, length}
use Rattle.combinatorics.specs.Lists.{all}
use Rattle.questions.specs.Questions.{Question, ask}
use Rattle.grid_points.specs.Grid.{Grid, Point, num_blocks, num_indices, num_points, is_grid_point}

-- "Is N, which outside a slip is the number of sizes lent, from 1 to 6? 1"
abbrev pub question1 : Grid → Question
question1 g = ask 1 (leb 1 (num_blocks g) && leb (num_blocks g) 6)

-- "Is each size at least 2, with at most 16 indices in all? 2"
abbrev pub question2 : Grid → Question
question2 g = ask 2 (all (λ s. leb 2 s) g.sizes && leb (num_indices g) 16)

-- "Are there N divisions, each at least 1? 3"
abbrev pub question3 : Grid → Question
question3 g = ask 3 (eqb (length g.divisions) (num_blocks g) && all (λ d. leb 1 d) g.divisions)

-- "Is P at most 60,000? 4"
abbrev pub question4 : Grid → Question
question4 g = ask 4 (leb (num_points g) 60000)

-- "Has the start m numbers, each block adding up to its division? 5"
abbrev pub question5 : Grid → Point → Question
question5 g start = ask 5 (is_grid_point g start)

-- questions 1 to 4
abbrev pub grid_questions : Grid → List Question
grid_questions g = question1 g ∷ question2 g ∷ question3 g ∷ question4 g ∷ []
