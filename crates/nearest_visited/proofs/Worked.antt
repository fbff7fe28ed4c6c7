-- The worked distances hold. Assumes nothing.
use mathlib.Core.List.{map}
use mathlib.Core.Path.{◌≡◌, refl}
use Rattle.nearest_visited.specs.Distance.{distance, other_divisions}
use Rattle.nearest_visited.specs.Worked.{table}

worked : map (λ r. distance r.grid r.given r.vertex) table ≡ map (λ r. r.apart) table
unfolding distance other_divisions
worked = refl
