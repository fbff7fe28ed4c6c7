-- Labels carried from a place to the next, on marks. Assumes nothing.
use Rattle.std.specs.Prelude.{false, not, List, map, ◌≡◌, ℕ, suc, ◌≤◌, ◌<◌, eqb, leb, length, get_or, take, replicate}
use Rattle.combinatorics.specs.Front.{front}
use Rattle.combinatorics.specs.Lists.{all, is_in}
use Rattle.grid_points.specs.Grid.{at}
use Rattle.rules.specs.Moves.{mark_label, mark_position}
use Rattle.walk_labels.specs.declared.Carried.{Carried}

-- the labels in the first n + 1 marks, with 0 behind
abbrev pub labels_in_marks : List ℕ → ℕ → List ℕ
labels_in_marks marks n = front (map mark_label (take (suc n) marks)) (replicate 16 0)

-- the table's label of the point with this mark
abbrev pub label_at_mark : List ℕ → ℕ → ℕ
label_at_mark table m = get_or table (mark_position m) 0

-- r is the number of a mark among the first n + 1, or n + 1
pub record FoundIn (marks : List ℕ) (n mark r : ℕ) : Type 0 where
  pub few : r ≤ suc n
  pub there : r ≤ n → at marks r ≡ mark
  pub among : is_in eqb mark (take (suc n) marks) ≡ leb r n

-- n + 1 points, and k + 1 next ones, which the table has
pub record CanCarry (marks : List ℕ) (n : ℕ) (next : List ℕ) (k : ℕ) (table : List ℕ) : Type 0 where
  pub few : n ≤ 15
  pub long : length marks ≡ 16
  pub few_next : k ≤ 15
  pub next_long : length next ≡ 16
  pub within : (j : ℕ) → j ≤ k → mark_position (at next j) < length table

-- Request 10, "no pass over the path reads one again while its point stays": a full table, which has the labels that
-- are carried, and of a point that comes in the label that the lent table has. Of the lent table nothing else is known,
-- so that only a point that comes in can be looked up there.
pub record CarriesOver (marks : List ℕ) (n : ℕ) (carried next : List ℕ) (k : ℕ) (table full : List ℕ) : Type 0 where
  pub carries : (i : ℕ) → i ≤ n → at carried i ≡ label_at_mark full (at marks i)
  pub comes_in : (j : ℕ) → j ≤ k → is_in eqb (at next j) (take (suc n) marks) ≡ false
      → label_at_mark table (at next j) ≡ label_at_mark full (at next j)

-- the table's labels, and whether a mark is not among those before
pub record CarriedOn (marks : List ℕ) (n : ℕ) (next : List ℕ) (k : ℕ) (table : List ℕ) (r : Carried) : Type 0 where
  pub labels : r.labels ≡ front (map (label_at_mark table) (take (suc k) next)) (replicate 16 0)
  pub came_in : r.came_in ≡ not (all (λ m. is_in eqb m (take (suc n) marks)) (take (suc k) next))

-- the labels of every such table
abbrev pub CarriedOver : List ℕ → ℕ → List ℕ → List ℕ → ℕ → List ℕ → Carried → Type 0
CarriedOver marks n carried next k table r = (full : List ℕ) → CarriesOver marks n carried next k table full
    → CarriedOn marks n next k full r
