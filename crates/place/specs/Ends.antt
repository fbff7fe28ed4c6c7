-- Document 01, "Links, ends, counting": ends, and the ways out of a place. Assumes nothing.
use Rattle.std.specs.Prelude.{Bool, ◌||◌, cond, List, [], ◌++◌, map, ℕ, eqb, ltb, length}
use Rattle.combinatorics.specs.Lists.{filter, all, is_in, same, concat_map, one_less}
use Rattle.end_kinds.specs.declared.Kind.{Kind}
use Rattle.end_kinds.specs.declared.Kind.TheVariants.{Facet as facet_end, Place as place_end}
use Rattle.grid_points.specs.Grid.{blocks, indices_of}
use Rattle.place.specs.Links.{links}
use Rattle.place.specs.Places.{Simplex, set_u, set_t, label_set}
use Rattle.place.specs.Problem.{Problem}

-- "complete for block j if each index of the block is a label of one of its points or belongs to its U
-- (Definition 2.2)"
unfoldable pub is_complete : Problem → Simplex → ℕ → Bool
is_complete p s j =
    let ls = label_set p s in
    let u = set_u p.grid s in
    all (λ h. is_in eqb h ls || is_in eqb h u) (indices_of p.grid j)

-- the blocks for which a set of points is complete
unfoldable pub complete_for : Problem → Simplex → List ℕ
complete_for p s = filter (is_complete p s) (blocks p.grid)

-- "ends are told apart by kind, block and set of points"
pub record End : Type 0 where
  pub kind : Kind
  pub block : ℕ
  pub simplex : Simplex

-- "A place end is a complete place"
unfoldable pub place_ends : Problem → Simplex → List End
place_ends p s = map (λ j. record { kind = place_end; block = j; simplex = s }) (complete_for p s)

-- "a place of two or more points, less one": what may remain of it at a facet end
abbrev pub facets : Simplex → List Simplex
facets s = cond (ltb 1 (length s)) (one_less s) []

-- "what remains is complete and its labels are exactly the place's T"
unfoldable pub facet_ends : Problem → Simplex → List End
facet_ends p s =
    let t = set_t p s in
    concat_map (λ f. map (λ j. record { kind = facet_end; block = j; simplex = f }) (complete_for p f))
    (filter (λ f. same eqb (label_set p f) t) (facets s))

unfoldable pub ends : Problem → Simplex → List End
ends p s = place_ends p s ++ facet_ends p s

-- a way out of a place: an end, or a link to a place
pub data Way : Type 0 where
  stop : End → Way
  link : Simplex → Way

unfoldable pub ways : Problem → Simplex → List Way
ways p s = map stop (ends p s) ++ map link (links p s)
