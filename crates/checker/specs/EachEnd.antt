-- "Each end we print gets yes": of what a run announces, given to the checker as it stands in the answer buffer.
-- Assumes nothing.
use Rattle.std.specs.Prelude.{◌≡◌, ℕ}
use Rattle.combinatorics.specs.Lists.{concat_map}
use Rattle.end_kinds.specs.declared.Kind.{Kind}
use Rattle.place.specs.Path.{answer, ended}
use Rattle.place.specs.Places.{Simplex}
use Rattle.place.specs.Problem.{Problem}
use Rattle.checker.specs.Check.{check_answer}
use Rattle.checker.specs.declared.CheckAnswer.TheVariants.{Yes}

-- whatever the budget, an end that is announced gets yes with its block
pub record EachEndGetsYes (p : Problem) : Type 0 where
  pub yes : (budget places read : ℕ) (kind : Kind) (block vertices : ℕ) (simplex : Simplex)
      → answer p budget ≡ ended places read kind block vertices simplex
      → check_answer p.grid p.labels (concat_map (λ y. y) simplex) ≡ Yes block
