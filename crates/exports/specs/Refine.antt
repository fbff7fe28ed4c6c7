-- What the refinement's call for C and Rust writes. Assumes nothing.
use Rattle.std.specs.Prelude.{List, [], ◌∷◌, ◌≡◌, ℕ, take}
use Rattle.combinatorics.specs.Front.{front}
use Rattle.combinatorics.specs.Lists.{concat_map}
use Rattle.end_kinds.specs.Numbers.{kind_number}
use Rattle.refinement.specs.Answer.{refine_answer}
use Rattle.refinement.specs.declared.Level.{Level}
use Rattle.refinement.specs.declared.Refined.{Refined}
use Rattle.refinement_levels.specs.Levels.{Refinement}

-- "each level's places, kind of end, block and number of vertices", and request 10's labels read after the places
abbrev pub level_facts : Level → List ℕ
level_facts level = level.places ∷ level.labels_read ∷ kind_number level.kind ∷ level.block ∷ level.vertices ∷ []

-- of the levels that were run, one behind the other; a refusal has none
abbrev pub refined_facts : Refined → List ℕ
refined_facts found = concat_map level_facts (take found.count found.levels)

-- The numbers tell the answer: two refinements of as many levels with the same number and the same facts, in memory
-- that was the same before, have answered the same.
abbrev pub RefineCallsTell : Type 0
RefineCallsTell = (r s : Refinement) (levels : ℕ) (labels others old older facts : List ℕ)
    → (refine_answer r levels labels old).code ≡ (refine_answer s levels others older).code
    → front (refined_facts (refine_answer r levels labels old)) facts
    ≡ front (refined_facts (refine_answer s levels others older)) facts
    → refine_answer r levels labels old ≡ refine_answer s levels others older
