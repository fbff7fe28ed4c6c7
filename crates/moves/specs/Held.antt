-- The state that a run holds before a call and after it: what the contracts of this crate say. Assumes nothing.
use Rattle.std.specs.Prelude.{List, ◌≡◌, ℕ, suc, ◌-◌, ◌≤◌, ◌<◌, take}
use Rattle.grid_points.specs.Grid.{at}
use Rattle.rules.specs.Ready.{IndicesBelow, RoundBelow, Ready, ReadyGrow}
use Rattle.rules.specs.Moves.{State, After, goes, ends_at_place, ends_at_facet, source_in}
use Rattle.rules.specs.declared.Round.{Round}
use Rattle.arrays.specs.declared.holding.Held.{Held}
use Rattle.moves.specs.declared.Outcome.{Outcome}
use Rattle.moves.specs.declared.Outcome.TheVariants.{Moved, PlaceEnd, FacetEnd}
use Rattle.moves.specs.declared.Status.{Status}

-- the state that these numbers and a status hold, with the ways round the blocks
abbrev pub state_with : Round → List ℕ → List ℕ → List ℕ → List ℕ → Status → State
state_with round first coefficients order marks s = record {
  round = round;
  first = first;
  coefficients = coefficients;
  order = take s.count order;
  marks = take (suc s.count) marks;
  T = s.t;
  U = s.u;
  active = s.active;
  rule = s.rule;
}

abbrev pub state_of : Round → Held → Status → State
state_of round held s = state_with round held.first held.coefficients held.order held.marks s

-- the same state with other marks
abbrev pub with_marks : State → List ℕ → State
with_marks s marks = record {
  round = s.round;
  first = s.first;
  coefficients = s.coefficients;
  order = s.order;
  marks = marks;
  T = s.T;
  U = s.U;
  active = s.active;
  rule = s.rule;
}

-- what a move has given; at an end the status is that of before
abbrev pub answered : Round → Held → Status → Outcome → After
answered round held s (Moved r) = goes (state_of round held r)
answered round held s (PlaceEnd h) = ends_at_place (state_of round held s) h
answered round held s (FacetEnd h) = ends_at_facet (state_of round held s) h

-- what every function asks that makes a point leave
pub record Sound (held : Held) (s : Status) : Type 0 where
  pub few : s.count ≤ 15
  pub order_below : IndicesBelow (take s.count held.order)

-- point i and entry e of the order can go
pub record CanShrink (s : Status) (i e : ℕ) : Type 0 where
  pub point : i ≤ s.count
  pub entry : e < s.count

-- what the move asks
pub record CanStep (a : State) : Type 0 where
  pub below : RoundBelow a.round
  pub ready : Ready a

-- index h can join T before entry i of the order
pub record CanJoin (s : Status) (i h : ℕ) : Type 0 where
  pub entry : i ≤ s.count
  pub room : s.count ≤ 14
  pub index : h < 16

-- the label h can join T
pub record CanGrow (a : State) (h : ℕ) : Type 0 where
  pub below : IndicesBelow a.round.next
  pub order_below : IndicesBelow a.order
  pub ready : ReadyGrow a h

-- the first point's step is at h and takes from b
pub record IsFirstStep (a : State) (h b : ℕ) : Type 0 where
  pub index : h < 16
  pub source : b < 16
  pub at_h : h ≡ at a.order 0
  pub at_b : b ≡ source_in a h

-- the last step is at h
pub record IsLastStep (s : Status) (a : State) (h : ℕ) : Type 0 where
  pub some : 1 ≤ s.count
  pub index : h < 16
  pub at_h : h ≡ at a.order (s.count - 1)

-- point i is neither the first nor the last
pub record IsMiddle (s : Status) (i : ℕ) : Type 0 where
  pub behind_first : 1 ≤ i
  pub before_last : i < s.count
