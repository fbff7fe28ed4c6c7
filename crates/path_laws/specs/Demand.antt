-- Demand 3, in the order of the customer's sentences, on tables where some labels may not be known yet (request 02).
-- Assumes nothing.
use Rattle.std.specs.Prelude.{true, List, [], ◌∷◌, map, ◌↔◌, ◌≡◌, ℕ, zero, suc, pred, ◌≤◌, ◌<◌, leb, length, get_or}
use Rattle.std.proofs.Math.Option.{Option, none, some}
use Rattle.combinatorics.specs.Lists.{all, is_in, rising}
use Rattle.grid_points.specs.Grid.{Point, num_blocks, num_indices, num_points, position, is_grid_point, same_point, bound}
use Rattle.place.specs.Coefficients.{coefficient_sum}
use Rattle.place.specs.Ends.{End, is_complete, ends, ways}
use Rattle.place.specs.Links.{linked, links}
use Rattle.place.specs.LabelsRead.{labels_read}
use Rattle.place.specs.Path.{ways_on, path, path_length, spent, unknown, answer, announcement}
use Rattle.place.specs.Places.{Simplex, is_place, all_labelled, unlabelled}
use Rattle.place.specs.Problem.{Problem, with_labels}

-- Questions 1, 2, 3 and 5 are answered yes, those about the grid and the start, and no division is above 60,000. The
-- number of grid points is not asked for: the laws of the path do not depend on it.
pub record HasStart (p : Problem) : Type 0 where
  pub some_block : 1 ≤ num_blocks p.grid
  pub six_blocks : num_blocks p.grid ≤ 6
  pub sizes : all (λ s. leb 2 s) p.grid.sizes ≡ true
  pub sixteen_indices : num_indices p.grid ≤ 16
  pub same_number : length p.grid.divisions ≡ num_blocks p.grid
  pub divisions : all (λ d. leb 1 d) p.grid.divisions ≡ true
  pub low : all (λ d. leb d 60000) p.grid.divisions ≡ true
  pub start : is_grid_point p.grid p.start ≡ true

-- on such a grid a label from 0 to m for each grid point, however many there are: what the laws of the path ask for
pub record HasTable (p : Problem) : Type 0 where
  pub has_start : HasStart p
  pub table_length : length p.labels ≡ num_points p.grid
  pub labels : all (λ l. leb l (num_indices p.grid)) p.labels ≡ true

-- "A table is accepted if .. a run's questions 1 to 8 are answered yes"; 8 is about the answer buffer only and is not
-- needed here. That no division is above 60,000 follows from question 4.
pub record Accepted (p : Problem) : Type 0 where
  pub has_start : HasStart p
  pub points : num_points p.grid ≤ 60000
  pub table_length : length p.labels ≡ num_points p.grid
  pub labels : all (λ l. leb l (num_indices p.grid)) p.labels ≡ true

-- W: {v} has exactly one way out, every other place exactly two, on a path or not. It holds of each place whose own
-- points have labels, also where other points of the table have none.
pub record TwoWays (p : Problem) : Type 0 where
  pub start : all_labelled p (p.start ∷ []) ≡ true → length (ways p (p.start ∷ [])) ≡ 1
  pub other : (s : Simplex) → is_place p s ≡ true → all_labelled p s ≡ true → (s ≡ p.start ∷ [] → ⊥)
      → length (ways p s) ≡ 2

-- two sets with the same points
abbrev pub SamePoints : Simplex → Simplex → Type 0
SamePoints a b = (y : Point) → is_in same_point y a ≡ is_in same_point y b

-- the i-th place of a list, from 0, and the place just left there, if any
abbrev pub place_at : List Simplex → ℕ → Simplex
place_at s i = get_or s i []

abbrev pub left_at : List Simplex → ℕ → Option Simplex
left_at s zero = none
left_at s (suc i) = some (place_at s i)

-- "The path begins at the place {v} and goes on by links, never back to the place just left", here past no end and past
-- no gap
pub record Follows (p : Problem) (s : List Simplex) : Type 0 where
  pub nonempty : 0 < length s
  pub begins : place_at s 0 ≡ p.start ∷ []
  pub places : (i : ℕ) → i < length s → is_place p (place_at s i) ≡ true
  pub links : (i : ℕ) → suc i < length s → linked p (place_at s i) (place_at s (suc i)) ≡ true
  pub onward : (i : ℕ) → suc (suc i) < length s → place_at s i ≡ place_at s (suc (suc i)) → ⊥
  pub passes : (i : ℕ) → suc i < length s → ends p (place_at s i) ≡ []
  pub known : (i : ℕ) → suc i < length s → all_labelled p (place_at s i) ≡ true

abbrev pub last_place : List Simplex → Simplex
last_place s = place_at s (pred (length s))

-- "until a place end or facet end"
pub record IsPath (p : Problem) (s : List Simplex) (e : End) : Type 0 where
  pub follows : Follows p s
  pub whole : all_labelled p (last_place s) ≡ true
  pub finishes : (es : List End) × (ends p (last_place s) ≡ e ∷ es)

-- The path stops at an end, where each point has a label, or at a gap, which is one point. So never both.
pub data Stop (p : Problem) (last : Simplex) : Option End → Type 0 where
  at_end : {e : End} (es : List End) → all_labelled p last ≡ true → ends p last ≡ e ∷ es → Stop p last (some e)
  at_gap : (y : Point) → unlabelled p last ≡ y ∷ [] → Stop p last none

-- "no place on the path has a point with label 0"
abbrev pub NoGap : Problem → Type 0
NoGap p = (i : ℕ) → i < path_length p → all_labelled p (place_at (path p).visited i) ≡ true

-- what demand 3 says of the path's end
pub record Ended (p : Problem) : Type 0 where
  -- "one path from the start, which ends"
  pub end : End
  pub is_path : IsPath p (path p).visited end
  pub ends : (path p).end ≡ some end
  -- "otherwise it announces the kind, block and complete simplex of the path's end, and the length", and the
  -- labels read
  pub announces : (budget : ℕ) → path_length p ≤ budget
      → answer p budget ≡ announcement (path_length p) (labels_read (path p).visited) end
  pub complete : is_complete p end.simplex end.block ≡ true
  pub complete_only : (j : ℕ) → j < num_blocks p.grid → is_complete p end.simplex j ≡ true → j ≡ end.block
  -- "the vertices in rising coefficient sum"
  pub in_order : rising (map (coefficient_sum p) end.simplex) ≡ true
  -- "a budget of the bound's size reaches a complete simplex"
  pub reaches : answer p (bound p.grid) ≡ announcement (path_length p) (labels_read (path p).visited) end

pub record Demand3 (p : Problem) : Type 0 where
  -- the path goes by links and passes no end and no gap; it stops at the one or the other
  pub follows : Follows p (path p).visited
  pub stops : Stop p (last_place (path p).visited) (path p).end
  -- "one path from the start, which ends": request 02, "demand 3 on those where no place on the path has a point with
  -- label 0";
  pub ended : NoGap p → Ended p
  -- there is no other path that ends,
  pub only : (s : List Simplex) (e : End) → IsPath p s e → (s ≡ (path p).visited) × ((path p).end ≡ some e)
  -- and "each of its places has, besides the link the path came by, if any, exactly one link or end"
  pub one : (i : ℕ) → i < path_length p → all_labelled p (place_at (path p).visited i) ≡ true
      → length (ways_on p (left_at (path p).visited i) (place_at (path p).visited i)) ≡ 1
  -- "no simplex stands on it twice", "up to its first place with such a point", that place included
  pub once : (i j : ℕ) → i < j → j < path_length p
      → SamePoints (place_at (path p).visited i) (place_at (path p).visited j) → ⊥
  -- "its length is at most the bound": `path` follows at most so many places, so this has its content from `follows`
  -- and `stops`, by which the path is whole, and from `only`, by which every path that ends is this one
  pub bounded : path_length p ≤ bound p.grid
  -- "calls its budget spent exactly when that is smaller than the length"; so never a budget of the bound's size
  pub spends : (budget : ℕ) → (answer p budget ≡ spent budget) ↔ (budget < path_length p)
  pub enough : (budget : ℕ) → bound p.grid ≤ budget → answer p budget ≡ spent budget → ⊥
  -- "16 .. with the places visited before it and the point's position"
  pub asks : (y : Point) → unlabelled p (last_place (path p).visited) ≡ y ∷ [] → (budget : ℕ) → path_length p ≤ budget
      → answer p budget ≡ unknown (pred (path_length p)) (position p.grid y)
  -- and only so is a label asked for, which is 0
  pub asked : (budget n i : ℕ) → answer p budget ≡ unknown n i
      → (suc n ≡ path_length p) × (n < budget) × (get_or p.labels i 0 ≡ 0)
  -- "runs alike .. that announce an end announce the same .. whatever their budgets", and so do those that ask for
  -- a label
  pub alike : (b c : ℕ) → (answer p b ≡ spent b → ⊥) → (answer p c ≡ spent c → ⊥) → answer p b ≡ answer p c

-- Request 02, "Filling a gap with any index never changes a sheet .. printed with an end": a table that agrees with the
-- problem's wherever that has an index gives the same answer, unless the answer asks for a label that the table has. So
-- an end never changes.
abbrev pub Fills : Problem → List ℕ → Type 0
Fills p labels = (i : ℕ) → 0 < get_or p.labels i 0 → get_or labels i 0 ≡ get_or p.labels i 0

pub record Filling (p : Problem) (labels : List ℕ) : Type 0 where
  pub same : (budget : ℕ) → ((n i : ℕ) → answer p budget ≡ unknown n i → get_or labels i 0 ≡ 0)
      → answer (with_labels p labels) budget ≡ answer p budget
  pub stays : (budget n read : ℕ) (e : End) → answer p budget ≡ announcement n read e
      → answer (with_labels p labels) budget ≡ announcement n read e
  -- and where the table has the label asked for, a label that its answer asks for is needed later
  pub further : (budget n i m j : ℕ) → answer p budget ≡ unknown n i → 0 < get_or labels i 0
      → answer (with_labels p labels) budget ≡ unknown m j → n < m
