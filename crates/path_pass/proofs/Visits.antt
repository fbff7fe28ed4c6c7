-- What a place of the pass asks and gives: the arrays of the grid, the storing of a mark, the state in which a pass
-- begins, its outcomes. Assumes nothing.
use mathlib.Core.Bool.{true, false, ◌&&◌}
use mathlib.Core.List.{List, map}
use mathlib.Core.Logic.{⊎_elim}
use mathlib.Core.Path.{◌≡◌, refl, sym, ap, ◌∙◌, subst}
use Prim.Native.Nat.{ℕ, suc, ◌+◌, ◌-◌, ◌^◌, ◌≤◌, ◌<◌}
use borrow.Author.Tests.{eq-eqb, lt-ltb, le-ltb, ne_eqb}
use lib.Dec.{eqb, ltb}
use lib.ListN.{length, replicate, take}
use lib.Seq.{get_or-take}
use native.Mathlib.Omega.{arith}
use Rattle.combinatorics.proofs.Basics.{before_or_not, same_or}
use Rattle.combinatorics.proofs.Lists.{all_in, in_all, in_map, map_in, on_numbers}
use Rattle.combinatorics.proofs.Ranges.{in_up_from, up_from_in}
use Rattle.combinatorics.specs.Lists.{is_in, sum, up_from}
use Rattle.end_kinds.specs.declared.Kind.{Kind}
use Rattle.end_kinds.specs.declared.Kind.TheVariants.{Facet as facet_end, Place as place_end}
use Rattle.grid.proofs.Fields.{made-blocks, made-indices}
use Rattle.grid_points.proofs.Points.{on_points}
use Rattle.grid_points.proofs.Terms.{bound-fits}
use Rattle.grid_points.specs.Grid.{Point, at, num_indices, position, same_point, size}
use Rattle.grid.specs.Made.{IsMade, shape}
use Rattle.grid.specs.declared.Grid.{Grid as GridStruct}
use Rattle.positions.proofs.Positions.{map-front}
use Rattle.place.specs.LabelsRead.{came_in}
use Rattle.place.specs.Path.{answer, path, path_length, spent, unknown}
use Rattle.place.specs.Places.{all_labelled}
use Rattle.place.specs.Problem.{Problem, has_label, label}
use Rattle.path_laws.proofs.Accepted.{accepted-table}
use Rattle.path_laws.proofs.Filled.{FullyLabelled, ends-alike, filled_full, filled-label, filled_table, further-on}
use Rattle.path_laws.proofs.Filled.{gap-answer, known-before}
use Rattle.path_laws.proofs.LabelsRead.{came_few, came_next, came_none}
use Rattle.path_laws.proofs.Labels.{label_ok}
use Rattle.path_laws.proofs.Theorem.{demand3_holds}
use Rattle.path_laws.specs.Demand.{Accepted, place_at}
use Rattle.rules.proofs.Follow.{At, EndsAt, NextAt, next_place, place_ends, facet_ends, at_begin, at-below, at-beside}
use Rattle.rules.proofs.Follow.{at-exchanged, at_first, at_new, at_next, at_others, at_place, at_reads, at_ready}
use Rattle.rules.proofs.Follow.{ends-answer}
use Rattle.moves.specs.Held.{state_of, state_with}
use Rattle.rules.specs.Mask.{bit}
use Rattle.rules.specs.Read.{mark_of, point_in, points_from, read}
use Rattle.rules.specs.Ready.{IsRound, RoundBelow}
use Rattle.rules.specs.Moves.{After, State, mark, goes, ends_at_place, ends_at_facet, make_move}
use Rattle.rules.specs.declared.Round.{Round}
use Rattle.arrays.specs.declared.holding.Held.{Held}
use Rattle.moves.specs.declared.Status.{Status}
use Rattle.marks.specs.Reading.{label_reading, table_problem}
use Rattle.std.proofs.Common.{Ok}
use Rattle.path_pass.specs.Finish.{Announced, CanVisit, IsBegun, IsKnown, IsUnknown, labels_at, problem_in}

-- a mark is that of a label that is known, and else the label is 0
module _ (p : Problem) (y : Point) where
  pub marked-known : {m : ℕ} → label_reading p y ≡ Ok m → (0 < label p y) × (m ≡ mark_of p y)
  marked-known {m} e = ⊎_elim
      (λ (z : label p y ≡ 0).
      absurd (let f = rw (eq-eqb (label p y) 0 z) at e in let w : ◌≡◌ {A = ℕ} 0 1 = cc in omega arith))
      (λ n. let f = rw (ne_eqb (label p y) 0 n) at e in (omega (arith, n), cc))
      (same_or (label p y) 0)

-- the state stands at place number k, from 0, of the path: of the path over the table with its gaps filled, as far as
-- that is the table's own
abbrev pub OnPath : Problem → State → ℕ → Type 0
OnPath p s k = At (filled_table p) s k × (k < path_length p)

-- the labels read at the places up to number k, from 0
abbrev pub HasRead : Problem → ℕ → ℕ → Type 0
HasRead p k labels = labels ≡ suc (came_in (path (filled_table p)).visited k)

-- where a pass begins
module _ (g : GridStruct) (made : IsMade g) (first table : List ℕ) (ok : Accepted (problem_in g first table)) where
  pub begins : {round : Round} → IsRound (shape g) round → length first ≡ 16 → (order : List ℕ) (s : Status)
      → IsBegun first g.indices s
      → OnPath (problem_in g first table) (state_with round first (replicate 16 0) order (replicate 16 0) s) 0
  begins N size order s B = (
    rw (B.rule, B.none, B.empty, B.active)
        (at_begin (filled_full (accepted-table ok)) N first s.u size (λ k l. sym (start-at k l)) mask_at),
    (demand3_holds (accepted-table ok)).follows.nonempty,
  )
    where
      m : g.indices ≡ num_indices (shape g)
      m = made-indices g made

      start-at : (k : ℕ) → k < num_indices (shape g) → at (take g.indices first) k ≡ at first k
      start-at k l = get_or-take g.indices first k 0 (omega (arith, m))

      mask_at : (k : ℕ) → k < 16
          → bit s.u k ≡ (ltb k (num_indices (shape g)) && eqb (at (take g.indices first) k) 0)
      mask_at k l = ⊎_elim
          (λ (x : k < g.indices). B.zeros k l
          ∙ rw (
            lt-ltb k g.indices x,
            lt-ltb k (num_indices (shape g)) (omega (arith, m)),
            start-at k (omega (arith, m)),
          ))
          (λ (x : g.indices ≤ k).
          B.zeros k l ∙ rw (le-ltb k g.indices x, le-ltb k (num_indices (shape g)) (omega (arith, m))))
          (before_or_not k g.indices)

-- at {v} one label is read
pub begins-reading : (p : Problem) (labels rule : ℕ) → labels ≡ labels_at rule → rule ≡ 1 → HasRead p 0 labels
begins-reading p labels rule e r = rw (e, r, came_none (path (filled_table p)).visited) refl

-- at the places of the path no more labels are read than 64 bits can count
pub reads_fit : (g : GridStruct) → IsMade g → (first table : List ℕ) → Accepted (problem_in g first table)
    → (k labels : ℕ) → k < path_length (problem_in g first table) → HasRead (problem_in g first table) k labels
    → labels < 2 ^ 64
reads_fit g made first table ok k labels l R =
    let p = problem_in g first table in
    let fits = bound-fits (shape g) made.accepted in
    omega (arith, R, came_few (path (filled_table p)).visited k, (demand3_holds (accepted-table ok)).bounded, fits)

-- one place of the pass: what it needs, and where it leads
module _ (g : GridStruct) (made : IsMade g) (start table : List ℕ) (ok : Accepted (problem_in g start table)) (s : State)
    (k : ℕ) (here : OnPath (problem_in g start table) s k) where
  abbrev p : Problem
  p = problem_in g start table

  full : FullyLabelled (filled_table p)
  full = filled_full (accepted-table ok)

  A : At (filled_table p) s k
  A = here.0

  -- a label that is known is the filled table's, and no label depends on the start
  same_read : IsKnown (table_problem g table) s → read (table_problem g table) s ≡ read (filled_table p) s
  unfolding read label
  same_read known = ⊎_elim
      (λ (r : s.rule < 6). rw (lt-ltb s.rule 6 r, same-mark (known r)))
      (λ (r : 6 ≤ s.rule). rw (le-ltb s.rule 6 r))
      (before_or_not s.rule 6)
    where
      same-mark : 0 < label (table_problem g table) (point_in p s s.active)
          → mark_of (table_problem g table) (point_in p s s.active) ≡ mark_of (filled_table p) (point_in p s s.active)
      same-mark l = ap
          (λ (x : ℕ). mark (position (shape g) (point_in p s s.active)) x)
          (sym (filled-label (accepted-table ok) (point_in p s s.active) l))

  pub visits : RoundBelow s.round → (tails : List ℕ)
      → ((k : ℕ) → k < g.indices → at tails k ≡ sum (map (at start) (up_from k (g.indices - k))))
      → CanVisit g tails table s
  visits below tails are = record {
    below = below;
    reads = λ r.
        let w = at_reads full A in
        record { below = below.backward; first_length = at_first full A; point = w.0; on_grid = w.1 };
    marks = λ r. record {
      square = at-exchanged full A;
      beside = λ one.
          let m = made-indices g made in
          at-beside full A r ok.points (sym (made-blocks g made) ∙ one) tails
          (λ k l. rw (← m)
          (are k (omega arith) ∙ ap sum (sym (map-front start g.indices k (g.indices - k) (omega arith)))));
    };
    ready = λ known. rw (same_read known) (at_ready full A);
  }

  -- each point of the place has a label: the one that has come in, and the others, which are points of the place before
  own : IsKnown (table_problem g table) s → all_labelled p (place_at (path (filled_table p)).visited k) ≡ true
  unfolding label
  own known = rw (at_place full A) (in_all on_points (has_label p) (points_from (filled_table p) s 0) each)
    where
      before : (j : ℕ) → j ≤ length s.order → (s.rule < 6 → j ≡ s.active → ⊥) → has_label p (point_in p s j) ≡ true
      before j l ne =
          let w = at_others full A j l ne in
          all_in on_points (has_label p) (place_at (path (filled_table p)).visited w.0)
          (known-before (accepted-table ok) w.0 (omega (arith, w.1, here.1))) (point_in p s j) w.2

      came_in_lem : 0 < label (table_problem g table) (point_in p s s.active) → has_label p (point_in p s s.active) ≡ true
      came_in_lem l = label_ok (accepted-table ok) (point_in p s s.active) (at_reads full A).1 l

      labelled : (j : ℕ) → j ≤ length s.order → has_label p (point_in p s j) ≡ true
      labelled j l = ⊎_elim
          (λ (e : j ≡ s.active). ⊎_elim
          (λ (r : s.rule < 6). rw e (came_in_lem (known r)))
          (λ (r : 6 ≤ s.rule). before j l (λ c. absurd (omega arith)))
          (before_or_not s.rule 6))
          (λ ne. before j l (λ r. ne))
          (same_or j s.active)

      each : (z : Point) → is_in same_point z (points_from (filled_table p) s 0) ≡ true → has_label p z ≡ true
      each z m =
          let w = map_in on_numbers on_points (point_in p s) z (up_from 0 (suc (length s.order) - 0)) m in
          rw w.2 (labelled w.0 (omega (arith, (up_from_in 0 (suc (length s.order) - 0) w.0 w.1).1)))

  module _ (known : IsKnown (table_problem g table) s) where
    pub leads : (after : After) → after ≡ make_move (read (table_problem g table) s) → NextAt (filled_table p) k after
    leads after moved = subst (NextAt (filled_table p) k) (sym (moved ∙ ap make_move (same_read known))) (at_next full A)

    pub goes_on : {e : State} → NextAt (filled_table p) k (goes e) → OnPath p e (suc k)
    goes_on (next_place B) = (B, further-on (accepted-table ok) k here.1 (own known) (at-below full B))

    pub reads_on : (labels : ℕ) → HasRead p k labels → {e : State} → NextAt (filled_table p) k (goes e)
        → HasRead p (suc k) (labels + labels_at e.rule)
    reads_on labels R (next_place B) =
        let t = (path (filled_table p)).visited in
        rw (came_next t k, at_new full B, R) (omega arith)

    -- at an end, that is the answer
    module _ (budget : ℕ) (round : Round) (held : Held) (status : Status) (h places labels : ℕ) (q : places ≡ suc k) (l : k < budget)
        (R : labels ≡ suc (came_in (path (filled_table p)).visited k)) where
      abbrev last : State
      last = state_of round held status

      announced : (kind : Kind) (from : ℕ) → EndsAt (filled_table p) kind from last h k
          → Announced p budget kind from last h places labels
      announced kind from E = record {
        first_length = E.first_length;
        index = E.index;
        few = E.few;
        low = E.low;
        points = E.points;
        is = rw (q, R)
            (ends-alike (accepted-table ok) k here.1 (own known) E.places budget ∙ ends-answer E budget l);
      }

      pub announced-place : NextAt (filled_table p) k (ends_at_place last h)
          → Announced p budget place_end 0 last h places labels
      announced-place (place_ends E) = announced place_end 0 E

      pub announced-facet : NextAt (filled_table p) k (ends_at_facet last h)
          → Announced p budget facet_end 1 last h places labels
      announced-facet (facet_ends E) = announced facet_end 1 E

  -- where the label is not known, it is asked for
  pub asked : {place : ℕ} → IsUnknown (table_problem g table) s place → (budget : ℕ) → k < budget
      → answer p budget ≡ unknown k place
  unfolding label
  asked U budget l =
      let low = (at_reads full A).0.low in
      let y = point_in p s s.active in
      let m : is_in same_point y (place_at (path (filled_table p)).visited k) ≡ true = rw (at_place full A)
      (in_map on_numbers on_points (point_in p s) s.active (up_from 0 (suc (length s.order) - 0))
      (in_up_from 0 (suc (length s.order) - 0) s.active (omega arith) (omega arith))) in
      gap-answer (accepted-table ok) k here.1 y m (without y U.zero) budget l ∙ rw U.at
    where
      without : (y : Point) → label p y ≡ 0 → has_label p y ≡ false
      without y e = rw e

  -- with nothing left the budget is spent
  pub spends : (budget : ℕ) → budget ≤ k → answer p budget ≡ spent budget
  spends budget l = ((demand3_holds (accepted-table ok)).spends budget).1 (omega (arith, here.1))
