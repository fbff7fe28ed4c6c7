-- A state that stands at a kept place, with the labels of the table in which each gap is filled. Assumes nothing.
use Rattle.std.specs.Prelude.{List, [], ◌≡◌, ℕ, suc, ◌≤◌, ◌<◌, eqb, length, get_or, take}
use Rattle.combinatorics.specs.Lists.{is_in}
use Rattle.end_kinds.specs.declared.Kind.TheVariants.{Facet as facet_end, Place as place_end}
use Rattle.grid_points.specs.Grid.{Point, at, block_of, num_indices}
use Rattle.place.specs.Coefficients.{coefficients}
use Rattle.place.specs.Ends.{Way, stop, link}
use Rattle.place.specs.Problem.{Problem}
use Rattle.rules.specs.Mask.{bit}
use Rattle.rules.specs.Read.{mark_of, points_from}
use Rattle.rules.specs.Ready.{IsRound}
use Rattle.rules.specs.Moves.{After, State, ends_at_facet, ends_at_place, goes}
use Rattle.walks.specs.Kept.{kept_points, zero_outside}

-- the state of the place with first point y and order o; `filled` has the labels of its marks
pub record LentPlace (p filled : Problem) (y : Point) (o : List ℕ) (s : State) : Type 0 where
  pub round : IsRound p.grid s.round
  pub order_is : s.order ≡ o
  pub first_long : length s.first ≡ 16
  pub first_at : (k : ℕ) → k < num_indices p.grid → at s.first k ≡ at y k
  pub list_long : length s.coefficients ≡ 16
  pub list_at : (k : ℕ) → k < num_indices p.grid → at s.coefficients k ≡ at (coefficients p y) k
  pub in_t : (k : ℕ) → k < 16 → bit s.T k ≡ is_in eqb k o
  pub in_u : (k : ℕ) → k < 16 → bit s.U k ≡ is_in eqb k (zero_outside p.grid o y)
  pub marks_long : length s.marks ≡ suc (length o)
  pub marked : (j : ℕ) → j ≤ length o → at s.marks j ≡ mark_of filled (get_or (kept_points p.grid y o) j [])

-- the place that a state keeps
abbrev pub kept_by : Problem → State → List Point
kept_by p s = kept_points p.grid (take (num_indices p.grid) s.first) s.order

-- the way that a move makes
abbrev pub way_made : Problem → After → Way
way_made p (goes e) = link (kept_by p e)
way_made p (ends_at_place s h) = stop (record { kind = place_end; block = block_of p.grid h; simplex = points_from p s 0 })
way_made p (ends_at_facet s h) = stop (record { kind = facet_end; block = block_of p.grid h; simplex = points_from p s 1 })
