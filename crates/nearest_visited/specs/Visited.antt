-- Request 11: the visited vertices of a path, in order of first visit. Assumes nothing.
use Rattle.std.specs.Prelude.{Bool, not, cond, List, [], ◌∷◌, ℕ, suc}
use Rattle.combinatorics.specs.Lists.{concat_map, filter, is_in}
use Rattle.grid_points.specs.Grid.{Point, same_point}
use Rattle.place.specs.Path.{path as path_of}
use Rattle.place.specs.Places.{Simplex}
use Rattle.place.specs.Problem.{Problem}

-- the elements of a list, each where it stands first
abbrev pub firsts : {A : Type 0} → (A → A → Bool) → List A → List A
firsts eq [] = []
firsts eq (x ∷ xs) = x ∷ filter (λ y. not (eq x y)) (firsts eq xs)

-- the points of places, one place after the other
abbrev pub points_of_places : List Simplex → List Point
points_of_places s = concat_map (λ place. place) s

abbrev pub vertices_of : List Simplex → List Point
vertices_of s = firsts same_point (points_of_places s)

-- "visited vertices .. each once, in order of first visit": a visited vertex is a point of a place of the path, {v} and
-- the last place included
unfoldable pub visited_vertices : Problem → List Point
visited_vertices p = vertices_of (path_of p).visited

-- the number, from 0, of the first of some places that has the point
abbrev pub first_with : List Simplex → Point → ℕ
first_with [] y = 0
first_with (s ∷ ss) y = let later = suc (first_with ss y) in cond (is_in same_point y s) 0 later

-- the point's "first visit"
abbrev pub first_visit : Problem → Point → ℕ
first_visit p y = first_with (path_of p).visited y
