-- Document 01, "Links, ends, counting": links. Assumes nothing.
use Rattle.std.specs.Prelude.{Bool, ◌&&◌, ◌||◌, List, suc, eqb, length}
use Rattle.combinatorics.specs.Lists.{filter, all, is_in, same}
use Rattle.grid_points.specs.Grid.{same_point}
use Rattle.place.specs.Places.{Simplex, set_t, label_set, within, places}
use Rattle.place.specs.Problem.{Problem}

-- the points of a that are points of b too
abbrev pub shared : Simplex → Simplex → Simplex
shared a b = filter (λ y. is_in same_point y b) a

-- "the same T, share all points but one of each, and the shared points carry all labels of T"
unfoldable pub exchanged : Problem → Simplex → Simplex → Bool
exchanged p a b =
    let s = shared a b in
    eqb (length a) (suc (length s)) && eqb (length b) (suc (length s)) && same eqb (set_t p a) (set_t p b)
    && within (set_t p a) (label_set p s)

-- "one is the other plus one point, and the labels of the smaller are exactly the T of the larger"
unfoldable pub extended : Problem → Simplex → Simplex → Bool
extended p a b =
    eqb (length b) (suc (length a)) && all (λ y. is_in same_point y b) a && same eqb (label_set p a) (set_t p b)

-- "Two places are linked if"
unfoldable pub linked : Problem → Simplex → Simplex → Bool
linked p a b = exchanged p a b || extended p a b || extended p b a

-- the places to which a place is linked
unfoldable pub links : Problem → Simplex → List Simplex
links p s = filter (linked p s) (places p)
