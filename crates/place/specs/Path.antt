-- Document 01, "Links, ends, counting": the path, its length, and a run's answer, also where a label is not yet known.
-- Assumes nothing.
use Rattle.std.specs.Prelude.{Bool, false, not, cond, List, [], ◌∷◌, ℕ, zero, suc, pred, ltb, length, get_or}
use Rattle.std.proofs.Math.Option.{Option, none, some}
use Rattle.combinatorics.specs.Lists.{filter, first_or, same}
use Rattle.end_kinds.specs.declared.Kind.{Kind}
use Rattle.grid_points.specs.Grid.{same_point, position, bound}
use Rattle.place.specs.Ends.{End, Way, stop, link, ways}
use Rattle.place.specs.LabelsRead.{labels_read}
use Rattle.place.specs.Places.{Simplex, all_labelled, unlabelled}
use Rattle.place.specs.Problem.{Problem}

abbrev pub same_simplex : Simplex → Simplex → Bool
same_simplex a b = same same_point a b

-- the link back to the place just left, if any
abbrev pub is_back : Option Simplex → Way → Bool
is_back none w = false
is_back (some s) (stop e) = false
is_back (some s) (link t) = same_simplex s t

-- the ways on from a place: links and ends "besides the link the path came by, if any"
unfoldable pub ways_on : Problem → Option Simplex → Simplex → List Way
ways_on p left here = filter (λ w. not (is_back left w)) (ways p here)

pub record SimplicialPath : Type 0 where
  pub visited : List Simplex
  pub end : Option End

-- from here by the first way on, ends before links
abbrev pub follow : (Simplex → SimplicialPath) → Simplex → List Way → SimplicialPath
follow rest here [] = record { visited = here ∷ []; end = none }
follow rest here (stop e ∷ ws) = record { visited = here ∷ []; end = some e }
follow rest here (link s ∷ ws) = let r = rest s in record { visited = here ∷ r.visited; end = r.end }

-- "goes on by links, never back to the place just left, until a place end or facet end", or until a place with a gap,
-- that is a point without a label: from there no way on is known. Over at most n places.
abbrev pub path_from : Problem → ℕ → Option Simplex → Simplex → SimplicialPath
path_from p zero left here = record { visited = []; end = none }
path_from p (suc n) left here =
    follow (λ s. path_from p n (some here) s) here (cond (all_labelled p here) (ways_on p left here) [])

-- "The path begins at the place {v}"
unfoldable pub path : Problem → SimplicialPath
path p = path_from p (bound p.grid) none (p.start ∷ [])

-- "Its length counts places, {v} included"
abbrev pub path_length : Problem → ℕ
path_length p = length (path p).visited

-- A run's answer, of an accepted table. "Number 9 also returns the places visited, which equal the budget"; "The answer
-- has the places, the kind of end, the block, the number of vertices, and the vertices in rising coefficient sum". The
-- block counts from 1 here. Request 02: "16 when a place within the budget needs a label that is 0, with the places
-- visited before it and the point's position". Request 10: "the result .. and the sheet gain 'labels read' after
-- 'places'"; "a refusal gives none".
pub data PathAnswer : Type 0 where
  spent : (places : ℕ) → PathAnswer
  ended : (places read : ℕ) (kind : Kind) (block vertices : ℕ) (simplex : Simplex) → PathAnswer
  unknown : (places position : ℕ) → PathAnswer

-- an end as the run announces it, with the count of places and the labels read
abbrev pub announcement : ℕ → ℕ → End → PathAnswer
announcement n read e = ended n read e.kind (suc e.block) (length e.simplex) e.simplex

-- what a run says of the whole path: its end, or its last place's point without a label
abbrev pub outcome : Problem → List Simplex → Option End → PathAnswer
outcome p s none =
    unknown (pred (length s)) (position p.grid (first_or [] (unlabelled p (get_or s (pred (length s)) []))))
outcome p s (some e) = announcement (length s) (labels_read s) e

-- "Has the path ended within the budget? 9": "An end is announced if the path reaches one within the budget, and the
-- budget is called spent if it does not"
unfoldable pub answer : Problem → ℕ → PathAnswer
answer p budget = cond (ltb budget (path_length p)) (spent budget) (outcome p (path p).visited (path p).end)
