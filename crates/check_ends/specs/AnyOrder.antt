-- Request 07, "a list of points in any order": the checker's answer. Assumes nothing.
use Rattle.std.specs.Prelude.{List, ◌≡◌, ℕ, length}
use Rattle.checker.specs.Check.{check_answer, listed_points}
use Rattle.grid_points.specs.Grid.{Grid}
use Rattle.path_laws.specs.Demand.{SamePoints}

-- two lists that are as long and have the same points get the same answer, refusals included
abbrev pub AnyOrder : Type 0
AnyOrder = (g : Grid) (labels a b : List ℕ) → length a ≡ length b
    → SamePoints (listed_points g a) (listed_points g b)
    → check_answer g labels a ≡ check_answer g labels b
