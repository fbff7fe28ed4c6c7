-- What keeps a move within its arrays and the width of its numbers: the `requires` of the step's functions. Every state
-- that describes a place has it (proofs/). Assumes nothing.
use Rattle.std.specs.Prelude.{Bool, true, false, ◌&&◌, ◌||◌, List, map, ◌⊎◌, ◌≡◌, ℕ, zero, suc, pred, ◌-◌, ◌≤◌, ◌<◌, eqb, ltb, length, set, take}
use Rattle.combinatorics.specs.Edits.{found}
use Rattle.grid_points.specs.Grid.{Grid, at, num_indices, size, block_of, previous, next}
use Rattle.rules.specs.Mask.{bit}
use Rattle.rules.specs.Moves.{State, mark_label, source_in, first_outside_or_zero, is_filled}
use Rattle.rules.specs.declared.Round.{Round}

-- the test holds of each number that `changed_before` changes
unfoldable pub tested_before : (ℕ → Bool) → (ℕ → ℕ) → List ℕ → ℕ → ℕ → ℕ → List ℕ → Bool
tested_before q f way b zero h c = true
tested_before q f way b (suc n) h c = eqb h b || q (at c h) && tested_before q f way b n (at way h) (set c h (f (at c h)))

-- the indices of an array of neighbours, and those of the order, are below 16
abbrev pub IndicesBelow : List ℕ → Type 0
IndicesBelow way = (h : ℕ) → h < length way → at way h < 16

-- the ways round the blocks are the grid's
pub record IsRound (g : Grid) (round : Round) : Type 0 where
  pub backward : (h : ℕ) → h < num_indices g → at round.previous h ≡ previous g h
  pub forward : (h : ℕ) → h < num_indices g → at round.next h ≡ next g h
  pub size : (h : ℕ) → h < num_indices g → at round.sizes h ≡ size g (block_of g h)

-- the ways round the blocks lead to indices below 16
pub record RoundBelow (round : Round) : Type 0 where
  pub backward : IndicesBelow round.previous
  pub forward : IndicesBelow round.next

-- entry e is one of the first n, which are indices
pub record HasEntry (order : List ℕ) (n e : ℕ) : Type 0 where
  pub low : e < n
  pub few : n ≤ 16
  pub below : IndicesBelow (take n order)

pub record IsEntry (order : List ℕ) (n e r : ℕ) : Type 0 where
  pub is : r ≡ at (take n order) e
  pub index : r < 16

pub record ReadyFirst (s : State) : Type 0 where
  pub some : 1 ≤ length s.order
  pub positive : 1 ≤ at s.first (source_in s (at s.order 0))
  pub fits : at s.first (at s.order 0) < 65535
  pub raised : tested_before (λ c. ltb c 65535) suc s.round.previous (source_in s (at s.order 0)) 16
      (at s.order 0) s.coefficients ≡ true

-- the last point can leave by its step at h
pub record ReadyLast (s : State) (h : ℕ) : Type 0 where
  pub some : 1 ≤ length s.order
  pub fits : 0 < at s.first h → 0 < at s.coefficients h
      → at s.first (first_outside_or_zero s.round s.U s.coefficients h) < 65535
  pub lowered : 0 < at s.first h → 0 < at s.coefficients h
      → tested_before (λ c. ltb 0 c) pred s.round.previous
      (first_outside_or_zero s.round s.U s.coefficients h) 16 h s.coefficients ≡ true

-- point i can leave
pub record ReadyLeave (s : State) (i : ℕ) : Type 0 where
  pub low : i ≤ length s.order
  pub few : length s.order ≤ 15
  pub first : i ≡ 0 → ReadyFirst s
  pub last : i ≡ length s.order → ReadyLast s (at s.order (length s.order - 1))

-- label h can join T
pub record ReadyGrow (s : State) (h : ℕ) : Type 0 where
  pub low : h < 16
  pub few : length s.order ≤ 15
  pub room : (bit s.U h ≡ true) ⊎ (is_filled s.round s.T s.U h ≡ false) → length s.order ≤ 14

-- the label of the point that came in
abbrev pub label_in : State → ℕ
label_in s = mark_label (at s.marks s.active)

pub record Ready (s : State) : Type 0 where
  pub order_below : IndicesBelow s.order
  pub active : s.active ≤ length s.order
  pub label : s.rule < 6 → (1 ≤ label_in s) × (label_in s ≤ 16)
  pub leaves : s.rule < 6 → bit s.T (label_in s - 1) ≡ true
      → ReadyLeave s (found (label_in s) s.active (map mark_label s.marks))
  pub grows : s.rule < 6 → bit s.T (label_in s - 1) ≡ false → ReadyGrow s (label_in s - 1)
  pub goes_on : 6 ≤ s.rule → ReadyLeave s s.active
