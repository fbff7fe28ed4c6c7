-- The way from a place to the next: a point that leaves, or an index that joins T; and the move that it names. The
-- promises of the writer and the reader do not cite it. Assumes nothing.
use Rattle.std.specs.Prelude.{true, cond, List, [], map, ◌≡◌, ℕ, ◌-◌, ◌≤◌, ◌<◌, ltb, suc, take}
use Rattle.combinatorics.specs.Edits.{found}
use Rattle.moves.specs.declared.Status.{Status}
use Rattle.rules.specs.Mask.{bit}
use Rattle.rules.specs.Read.{position_at}
use Rattle.rules.specs.Ready.{ReadyGrow, ReadyLeave, label_in}
use Rattle.rules.specs.Moves.{After, State, ends_at_facet, grow, leave, mark_label}
use Rattle.ways.specs.declared.Way.{Way}
use Rattle.ways.specs.declared.Way.TheVariants.{Joins, Leaves, Nothing}

-- of a state, what its marks and its status hold
abbrev pub held_marks : List ℕ → Status → State
held_marks marks s = record {
  round = record { previous = []; next = []; sizes = [] };
  first = [];
  coefficients = [];
  order = [];
  marks = take (suc s.count) marks;
  T = s.t;
  U = s.u;
  active = s.active;
  rule = s.rule;
}

-- by the labels: after rules 6 and 7 the point named leaves, else the other point with the label that came in, if T has
-- that, and else the label joins T
unfoldable pub way_here : State → Way
way_here a =
    let other = found (label_in a) a.active (map mark_label a.marks) in
    let named = cond (bit a.T (label_in a - 1)) (Leaves other) (Joins (label_in a - 1)) in
    cond (ltb a.rule 6) named (Leaves a.active)

-- they can be looked at
pub record CanTell (a : State) (s : Status) : Type 0 where
  pub active : s.active ≤ s.count
  pub few : s.count ≤ 15
  pub label : s.rule < 6 → (1 ≤ label_in a) × (label_in a ≤ 16)
  pub other : s.rule < 6 → bit a.T (label_in a - 1) ≡ true
      → found (label_in a) a.active (map mark_label a.marks) ≤ s.count

-- the move that a way names
abbrev pub way_after : State → Way → After
way_after s (Leaves i) = leave s i
way_after s (Joins h) = grow s h
way_after s Nothing = ends_at_facet s 0

-- it can be made
pub record CanMove (s : State) (way : Way) : Type 0 where
  pub leaves : (i : ℕ) → way ≡ Leaves i → ReadyLeave s i
  pub joins : (h : ℕ) → way ≡ Joins h → ReadyGrow s h

-- the position of the point that a way takes out
abbrev pub gone_by : State → Way → ℕ
gone_by s (Leaves i) = position_at s i
gone_by s (Joins h) = 0
gone_by s Nothing = 0
