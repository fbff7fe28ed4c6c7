-- What the pass that notes vertices asks and gives. The call's own promise does not cite it. Assumes nothing.
use Rattle.std.specs.Prelude.{true, List, None, Option, Some, map, ◌≡◌, ℕ, ◌≤◌, leb, length, take}
use Rattle.combinatorics.specs.Front.{front}
use Rattle.combinatorics.specs.Lists.{filter}
use Rattle.grid_points.specs.Grid.{Point, is_grid_point, num_points, position}
use Rattle.grid.specs.Made.{shape}
use Rattle.grid.specs.declared.Grid.{Grid as GridStruct}
use Rattle.place.specs.Path.{path}
use Rattle.place.specs.Problem.{Problem}
use Rattle.nearest_visited.specs.Distance.{distance}
use Rattle.nearest_visited.specs.Nearest.{nearest, positions_within}
use Rattle.nearest_visited.specs.Visited.{vertices_of}
use Rattle.nearest_met.specs.Measure.{CanMeasure}
use Rattle.path_pass.specs.declared.Finish.{Finish}
use Rattle.path_pass.specs.declared.Finish.TheVariants.{Ended, Spent, Unknown as UnknownLabel}
use Rattle.nearest_met.specs.declared.Tally.{Tally}
use Rattle.nearest_pass.specs.declared.Vertex.{Vertex}

-- what the pass asks besides what a run's asks
pub record CanNote (g : GridStruct) (weights w list : List ℕ) : Type 0 where
  pub measure : CanMeasure (shape g) weights w g.indices
  pub on_grid : is_grid_point (shape g) w ≡ true
  pub room : num_points (shape g) ≤ length list

-- what is kept before the first vertex: a distance that no vertex has
abbrev pub none_met : Tally
none_met = record { nearest = 0; least = 18446744073709551615; listed = 0 }

-- a vertex is reported, with how many positions are listed
abbrev pub some_vertex : ℕ → ℕ → Option Vertex
some_vertex position listed = Some (record { position = position; listed = listed })

-- the positions of the vertices within the given distance, of the first `n` places
abbrev pub positions_before : Problem → Point → ℕ → ℕ → List ℕ
positions_before p w given n = map (position p.grid)
    (filter (λ y. leb (distance p.grid w y) given) (vertices_of (take n (path p).visited)))

-- and what a pass of at most `budget` places reports and lists: at the path's end the nearest of all visited vertices
-- and the positions of those within the distance; else nothing, with the positions of those met on the way
abbrev pub Surveys : Problem → Point → ℕ → ℕ → List ℕ → List ℕ → Option Vertex → Finish → Type 0
Surveys p w given budget old new r (Ended kind places h s labels) =
    (r ≡ some_vertex (position p.grid (nearest p w)) (length (positions_within p w given)))
    × (new ≡ front (positions_within p w given) old)
Surveys p w given budget old new r (UnknownLabel places place) =
    (r ≡ None) × (new ≡ front (positions_before p w given places) old)
Surveys p w given budget old new r Spent = (r ≡ None) × (new ≡ front (positions_before p w given budget) old)
