-- What it means that a state describes a place and the way the path came to it, and what one move from it has to give.
-- A place is here a labelled chain x of coefficient lists, whose points are `points_of p x`. Assumes nothing.
use mathlib.Core.Bool.{Bool, true, false}
use mathlib.Core.List.{List}
use mathlib.Core.Option.{Option, none, some}
use mathlib.Core.Path.{◌≡◌}
use Prim.Native.Nat.{ℕ, suc, ◌-◌, ◌≤◌, ◌<◌}
use lib.ListN.{length}
use Rattle.grid_points.specs.Grid.{at, num_indices, is_grid_point, position}
use Rattle.geometry.proofs.Definitions.{coord, zeros, Carries, Extra}
use Rattle.geometry.proofs.Graph.{Through, Above}
use Rattle.geometry.proofs.LabelledChains.{list_at, LabelledChain, Link, FacetEnd, PlaceEnd}
use Rattle.place.specs.Problem.{Problem}
use Rattle.path_laws.proofs.BlocksOfGrid.{blocks_of, point_of}
use Rattle.path_laws.proofs.ToChain.{label_of}
use Rattle.rules.specs.Mask.{bit}
use Rattle.rules.specs.Read.{array_of, point_gone, source_at, position_at}
use Rattle.rules.specs.Ready.{IsRound}
use Rattle.rules.specs.Moves.{State, After, goes, ends_at_place, ends_at_facet, mark, leave, grow}

-- the label that names the index of point j of a chain
abbrev pub labels_of : Problem → List (ℕ → ℕ) → ℕ → ℕ
labels_of p x j = label_of p (list_at x j)

-- the state describes the chain x over T with order o; its marks apart
pub record Describes (p : Problem) (T : ℕ → Bool) (t : ℕ) (o : ℕ → ℕ) (x : List (ℕ → ℕ)) (s : State) : Type 0 where
  pub chain : LabelledChain (blocks_of p) (label_of p) T t o x
  pub round : IsRound p.grid s.round
  pub order_length : length s.order ≡ t
  pub order_at : (j : ℕ) → j < t → at s.order j ≡ o j
  pub first_length : length s.first ≡ 16
  pub first_at : (k : ℕ) → k < num_indices p.grid → at s.first k ≡ coord (blocks_of p) (list_at x 0) k
  pub coefficients_length : length s.coefficients ≡ 16
  pub coefficients_at : (k : ℕ) → k < num_indices p.grid → at s.coefficients k ≡ list_at x 0 k
  pub in_t : (k : ℕ) → k < 16 → bit s.T k ≡ T k
  pub in_u : (k : ℕ) → k < 16 → bit s.U k ≡ zeros (blocks_of p) T (list_at x 0) k
  pub marks_length : length s.marks ≡ suc t

-- the mark of the point with coefficients c
abbrev pub mark_at : Problem → (ℕ → ℕ) → ℕ
mark_at p c = mark (position p.grid (point_of p c)) (suc (label_of p c))

-- each point of the chain has its mark in the state
abbrev pub AllMarks : Problem → ℕ → List (ℕ → ℕ) → State → Type 0
AllMarks p t x s = (j : ℕ) → j ≤ t → at s.marks j ≡ mark_at p (list_at x j)

-- each but point i
abbrev pub MarksBut : Problem → ℕ → List (ℕ → ℕ) → State → ℕ → Type 0
MarksBut p t x s i = (j : ℕ) → j ≤ t → (j ≡ i → ⊥) → at s.marks j ≡ mark_at p (list_at x j)

-- where two steps have changed places, the point that left had 1 to take, was a grid point, and its mark still stands
abbrev pub Crossed : Problem → ℕ → State → Type 0
Crossed p t s = s.rule ≡ 1 → 0 < s.active → s.active < t
    → (1 ≤ at (array_of s (s.active - 1)) (source_at s s.active))
    × (is_grid_point p.grid (point_gone p.grid s) ≡ true) × (position_at s s.active ≡ position p.grid (point_gone p.grid s))

-- how the path came to x: it begins there, with the label of the start not yet read;
-- or from l through the facet opposite to a point that has come in, whose label is not yet read;
-- or from a larger place l, and the point whose label is outside T leaves next
pub data Came (p : Problem) (T : ℕ → Bool) (t : ℕ) (x : List (ℕ → ℕ)) (s : State) : Option (List (ℕ → ℕ)) → Type 0 where
  begins : t ≡ 0 → s.active ≡ 0 → s.rule < 6 → Came p T t x s none
  through : (n : ℕ) (l : List (ℕ → ℕ)) → t ≡ suc n → s.active ≤ t → 0 < s.rule → s.rule < 6
      → MarksBut p t x s s.active → Carries T t (labels_of p x) s.active → Through (blocks_of p) T n x s.active l
      → Crossed p t s
      → Came p T t x s (some l)
  from_larger : (l : List (ℕ → ℕ)) → s.active ≤ t → 6 ≤ s.rule → s.rule < 8 → AllMarks p t x s
      → T (labels_of p x s.active) ≡ false → Above (blocks_of p) (label_of p) T t x l
      → Came p T t x s (some l)

-- the state describes a chain to which the path came from x, by a link
pub record Reached (p : Problem) (x : List (ℕ → ℕ)) (s : State) (y : List (ℕ → ℕ)) : Type 0 where
  pub T : ℕ → Bool
  pub t : ℕ
  pub o : ℕ → ℕ
  pub describes : Describes p T t o y s
  pub came : Came p T t y s (some x)
  pub link : Link (blocks_of p) (label_of p) x y

-- through facet i of x, to a place that the state describes
abbrev pub GoesOn : Problem → (ℕ → Bool) → ℕ → List (ℕ → ℕ) → ℕ → State → Type 0
GoesOn p T n x i s = (y : List (ℕ → ℕ)) × Through (blocks_of p) T n x i y × Reached p x s y

-- point i has left: the facet opposite to it, which is the first, is an end, or the state after goes on through it
pub data Left (p : Problem) (T : ℕ → Bool) (n : ℕ) (x : List (ℕ → ℕ)) (s : State) (i : ℕ) : After → Type 0 where
  facet_ends : (h : ℕ) → i ≡ 0 → FacetEnd (blocks_of p) (label_of p) T n x 0 h → Left p T n x s i (ends_at_facet s h)
  left_on : {after : State} → GoesOn p T n x i after → Left p T n x s i (goes after)

-- point i, opposite to a facet that carries T, can leave
abbrev pub Leaves : Problem → Type 0
Leaves p =
    (T : ℕ → Bool) (n : ℕ) (o : ℕ → ℕ) (x : List (ℕ → ℕ)) (s : State) (i : ℕ)
    → Describes p T (suc n) o x s → AllMarks p (suc n) x s → i ≤ suc n → Carries T (suc n) (labels_of p x) i
    → Left p T n x s i (leave s i)

-- the label of a point has joined T: the place is an end, or the state after goes on to the larger place
pub data Joined (p : Problem) (T : ℕ → Bool) (t : ℕ) (x : List (ℕ → ℕ)) (s : State) : After → Type 0 where
  place_ends : (h : ℕ) → PlaceEnd (blocks_of p) (label_of p) t x h → Joined p T t x s (ends_at_place s h)
  joined_on : {after : State} (y : List (ℕ → ℕ)) → Above (blocks_of p) (label_of p) T t x y → Reached p x after y
      → Joined p T t x s (goes after)

-- the label of point i, outside T, can join T
abbrev pub Grows : Problem → Type 0
Grows p =
    (T : ℕ → Bool) (t : ℕ) (o : ℕ → ℕ) (x : List (ℕ → ℕ)) (s : State) (i : ℕ)
    → Describes p T t o x s → AllMarks p t x s → Extra T t (labels_of p x) i → Joined p T t x s (grow s (labels_of p x i))
