-- Demand 3 in one piece: the path of every accepted table joined with what a run on it answers and writes, in the order
-- of the customer's sentences; and what filling a gap changes. Assumes nothing.
use Rattle.std.specs.Prelude.{List, [], ◌∷◌, ◌↔◌, ◌≡◌, ℕ, suc, pred, ◌≤◌, ◌<◌, length, get_or}
use Rattle.combinatorics.specs.Front.{front}
use Rattle.combinatorics.specs.Lists.{concat_map}
use Rattle.end_kinds.specs.declared.Kind.{Kind}
use Rattle.grid_points.specs.Grid.{Point, bound, position}
use Rattle.path_laws.specs.Demand.{Demand3, Ended, Fills, NoGap, last_place}
use Rattle.place.specs.Ends.{End as EndOfPath}
use Rattle.place.specs.LabelsRead.{labels_read}
use Rattle.place.specs.Path.{path as path_of, path_length}
use Rattle.place.specs.Places.{unlabelled}
use Rattle.place.specs.Problem.{Problem, with_labels}
use Rattle.finder.specs.Run.{run_refusal, run_answer, run_buffer}
use Rattle.finder.specs.declared.answers.RunAnswer.{RunAnswer}
use Rattle.finder.specs.declared.answers.RunAnswer.TheVariants.{End, Spent, Unknown}

-- "the kind, block and complete simplex of the path's end, and the length as the count of simplices visited"; the block
-- counts from 1. Request 10: with the labels read on the path
abbrev pub announcement_of : Problem → EndOfPath → RunAnswer
announcement_of p e =
    End (path_length p) (labels_read (path_of p).visited) e.kind (suc e.block) (length e.simplex)

-- "A table is accepted if, with its grid, start and answer buffer, a run's questions 1 to 8 are answered yes"; the
-- buffer has `room` numbers
abbrev pub AcceptedWith : Problem → ℕ → Type 0
AcceptedWith p room = run_refusal p room ≡ 0

-- "the complete simplex is the set of the answer's vertices", m numbers each
abbrev pub vertex_numbers : EndOfPath → List ℕ
vertex_numbers e = concat_map (λ y. y) e.simplex

-- of a table where no place on the path has a point with label 0
pub record RunEnded (p : Problem) (room : ℕ) : Type 0 where
  -- "one path from the start, which ends", complete for the block named
  pub path : Ended p
  -- "otherwise it announces the kind, block and complete simplex of the path's end, and the length"; its vertices stand
  -- in the answer buffer
  pub announces : (budget : ℕ) → path_length p ≤ budget → run_answer p room budget ≡ announcement_of p path.end
  pub written : (budget : ℕ) (old : List ℕ) → length old ≡ room → path_length p ≤ budget
      → run_buffer p budget old ≡ front (vertex_numbers path.end) old
  -- "So on every accepted table a budget of the bound's size reaches a complete simplex"
  pub reaches : run_answer p room (bound p.grid) ≡ announcement_of p path.end

pub record RunDemand3 (p : Problem) (room : ℕ) : Type 0 where
  -- "has, whatever its labels, one path from the start .. and no simplex stands on it twice .. its length is at most
  -- the bound"; it stops at an end or at its first place with a point that has no label
  pub path : Demand3 p
  -- "A run on such a table calls its budget spent exactly when that is smaller than the length"; nothing is
  -- written then
  pub spends : (budget : ℕ) → (run_answer p room budget ≡ Spent budget) ↔ (budget < path_length p)
  pub unwritten : (budget : ℕ) (old : List ℕ) → length old ≡ room → budget < path_length p → run_buffer p budget old ≡ old
  -- request 02: "demand 3 on those where no place on the path has a point with label 0"
  pub ended : NoGap p → RunEnded p room
  -- request 02: "16 when a place within the budget needs a label that is 0 .. with the places visited before it and the
  -- point's position in the table returned"; nothing is written then
  pub asks : (y : Point) → unlabelled p (last_place (path_of p).visited) ≡ y ∷ [] → (budget : ℕ) → path_length p ≤ budget
      → run_answer p room budget ≡ Unknown (pred (path_length p)) (position p.grid y)
  pub unwritten_asking : (budget n i : ℕ) (old : List ℕ) → length old ≡ room → run_answer p room budget ≡ Unknown n i
      → run_buffer p budget old ≡ old
  -- "and runs alike in grid, start and table that announce an end announce the same count, kind of end, block and
  -- vertices, whatever their budgets", and whatever answer buffers they are lent; so do those that ask for a label
  pub alike : (b c : ℕ) (old other : List ℕ) → length old ≡ room → AcceptedWith p (length other)
      → (run_answer p room b ≡ Spent b → ⊥) → (run_answer p (length other) c ≡ Spent c → ⊥)
      → (run_answer p room b ≡ run_answer p (length other) c)
      × (numbers : List ℕ) × (run_buffer p b old ≡ front numbers old) × (run_buffer p c other ≡ front numbers other)

-- Demand 3: "Every accepted table has, whatever its labels"
abbrev pub Demand3InOnePiece : Type 0
Demand3InOnePiece = (p : Problem) (room : ℕ) → AcceptedWith p room → RunDemand3 p room

-- Request 02: "Filling a gap with any index never changes a sheet that was already printed with an end". Of two tables
-- that agree wherever the first has an index, the run on the second gives the same answer and buffer, unless the first
-- asked for a label that the second has.
pub record RunFilling (p : Problem) (labels : List ℕ) (room : ℕ) : Type 0 where
  pub same : (budget : ℕ) → ((n i : ℕ) → run_answer p room budget ≡ Unknown n i → get_or labels i 0 ≡ 0)
      → run_answer (with_labels p labels) room budget ≡ run_answer p room budget
  pub same_buffer : (budget : ℕ) (old : List ℕ) → length old ≡ room
      → ((n i : ℕ) → run_answer p room budget ≡ Unknown n i → get_or labels i 0 ≡ 0)
      → run_buffer (with_labels p labels) budget old ≡ run_buffer p budget old
  -- so an end stays, and the vertices with it
  pub stays : (budget places read : ℕ) (kind : Kind) (block vertices : ℕ)
      → run_answer p room budget ≡ End places read kind block vertices
      → run_answer (with_labels p labels) room budget ≡ End places read kind block vertices

abbrev pub FillingInOnePiece : Type 0
FillingInOnePiece = (p : Problem) (labels : List ℕ) (room : ℕ) → AcceptedWith p room
    → AcceptedWith (with_labels p labels) room → Fills p labels
    → RunFilling p labels room
