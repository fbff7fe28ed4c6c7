-- Request 11: the nearest of the visited vertices, and those within a given distance. Assumes nothing.
use Rattle.std.specs.Prelude.{List, [], map, ℕ, leb}
use Rattle.combinatorics.specs.Lists.{all, filter, first_or}
use Rattle.grid_points.specs.Grid.{Point, position}
use Rattle.place.specs.Problem.{Problem}
use Rattle.nearest_visited.specs.Distance.{distance}
use Rattle.nearest_visited.specs.Visited.{visited_vertices}

-- of the elements than which none of the list has less, "the one met earlier"
unfoldable pub first_least : (Point → ℕ) → List Point → Point
first_least f ys = first_or [] (filter (λ y. all (λ z. leb (f y) (f z)) ys) ys)

-- "the visited vertex nearest to" w; "Of equally near vertices the one met earlier is reported"
abbrev pub nearest : Problem → Point → Point
nearest p w = first_least (distance p.grid w) (visited_vertices p)

-- "all visited vertices within a given distance", that is at most at it
abbrev pub vertices_within : Problem → Point → ℕ → List Point
vertices_within p w given = filter (λ y. leb (distance p.grid w y) given) (visited_vertices p)

-- "The list holds table positions"
abbrev pub positions_within : Problem → Point → ℕ → List ℕ
positions_within p w given = map (position p.grid) (vertices_within p w given)
