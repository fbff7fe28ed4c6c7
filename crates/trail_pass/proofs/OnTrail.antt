-- The pass along the path and the trail of its places. In order: the points of a place and their marks; the record that
-- is made at a place; the position of the point that leaves; the trail so far, whose length the sets T and U alone
-- tell. Assumes nothing.
use mathlib.Core.Bool.{Bool, true, false, cond}
use mathlib.Core.List.{List, [], ◌∷◌, ◌++◌, map, append-nil}
use mathlib.Core.Logic.{⊎_elim}
use mathlib.Core.Option.{Option, none, some}
use mathlib.Core.Path.{◌≡◌, refl, sym, ap, ◌∙◌, subst}
use Prim.Native.Nat.{ℕ, zero, suc, pred, ◌+◌, ◌-◌, ◌^◌, ◌≤◌, ◌<◌}
use borrow.Author.Tests.{eq-eqb, le-ltb, leb-true, lt-ltb, ne_eqb}
use lib.Dec.{eqb, leb, ltb}
use lib.ListN.{get_or, length, length-append, length-set, take}
use lib.Seq.{get_or-set_other, get_or-set_same, get_or-take, length-take-le, paste, take_all, take-suc}
use native.Mathlib.Omega.{arith}
use Rattle.combinatorics.proofs.Basics.{absurd_bool, and_right, before_or_not, same_or, true_or_false}
use Rattle.combinatorics.proofs.Fronts.{front-none, front_paste}
use Rattle.combinatorics.proofs.Lists.{all_in, in_cases, in_here, in_map, map_in, on_numbers}
use Rattle.combinatorics.proofs.Ranges.{in_up_from, up_from_in}
use Rattle.combinatorics.specs.Front.{front}
use Rattle.combinatorics.specs.Lists.{is_in, up_from}
use Rattle.end_kinds.specs.declared.Kind.{Kind}
use Rattle.path_laws.proofs.Accepted.{accepted-table}
use Rattle.path_laws.proofs.Filled.{beside, filled_full, filled_table}
use Rattle.path_laws.proofs.Labels.{label_ok}
use Rattle.path_laws.proofs.LinkSymmetry.{parts}
use Rattle.path_laws.proofs.Theorem.{demand3_holds}
use Rattle.path_laws.specs.Demand.{Accepted, HasTable, last_place, place_at}
use Rattle.path_pass.proofs.Visits.{OnPath}
use Rattle.path_pass.specs.Finish.{IsKnown, problem_in}
use Rattle.grid_points.proofs.Points.{in_points, on_points, position_in_lem}
use Rattle.grid_points.specs.Grid.{Point, is_grid_point, num_indices, points, position, same_point}
use Rattle.grid.specs.declared.Grid.{Grid as GridStruct}
use Rattle.marks.specs.Reading.{table_problem}
use Rattle.moves.proofs.Cases.{Leaving, label-joins, leaving-leaves, leaving-ready}
use Rattle.place.specs.Ends.{End}
use Rattle.place.specs.Path.{answer, ended, outcome, path, path_length, spent}
use Rattle.place.specs.Places.{Simplex, set_t, set_u}
use Rattle.place.specs.Problem.{Problem, has_label, label}
use Rattle.trail_records.proofs.Differences.{length-alike}
use Rattle.trail_records.proofs.Kept.{Kept, grow-kept, kept_of, leave-kept}
use Rattle.trail_records.proofs.Told.{told}
use Rattle.trail_records.specs.Records.{SameSets, first_record, record_from}
use Rattle.rules.proofs.Follow.{at_long, at-marks, at_others, at_place, at_reads, at-T, at_U}
use Rattle.rules.proofs.Marks.{position_in as mark-position}
use Rattle.rules.proofs.Masks.{IsMask, mask_t, mask_u}
use Rattle.rules.specs.Read.{mark_of, point_in, points_from, position_at, read}
use Rattle.rules.specs.Ready.{label_in, Ready}
use Rattle.rules.specs.Moves.{State, goes, mark_position, make_move, with_mark}
use Rattle.trail.proofs.Outside.{outside_in, mapped_one}
use Rattle.trail.proofs.Reading.{T-alike}
use Rattle.trail.proofs.RunTrail.{one_more, path_trail, trail_fits}
use Rattle.trail.proofs.Tells.{at_position}
use Rattle.trail.specs.Change.{change, outside}
use Rattle.trail.specs.Record.{record_of, records_from, start_record, trail_of}
use Rattle.trail_visits.specs.Visited.{record_here}
use Rattle.trail_visits.specs.declared.Before.{Before}
use Rattle.ways.proofs.Here.{Joining, gone-joining, gone-leaving, leaves_or_joins}
use Rattle.ways.specs.Ways.{gone_by, way_here}

-- a run that has ended has visited the whole path
pub ended-whole : (p : Problem) (budget : ℕ) {n read : ℕ} {kind : Kind} {block vertices : ℕ} {simplex : Simplex}
    → answer p budget ≡ ended n read kind block vertices simplex → n ≡ path_length p
unfolding answer
ended-whole p budget {n} {read} {kind} {block} {vertices} {simplex} e =
    ⊎_elim (λ t. let f : spent budget ≡ ended n read kind block vertices simplex = rw t at e in absurd (never f))
    (λ t. go (path p).end refl (rw t at e)) (true_or_false (ltb budget (path_length p)))
  where
    never : spent budget ≡ ended n read kind block vertices simplex → ⊥
    never f = let z : ◌≡◌ {A = ℕ} 0 1 = cc in omega arith

    go : (x : Option End) → (path p).end ≡ x
        → outcome p (path p).visited (path p).end ≡ ended n read kind block vertices simplex → n ≡ path_length p
    go none w f =
        let h : outcome p (path p).visited none ≡ ended n read kind block vertices simplex = rw w at f in
        absurd (let z : ◌≡◌ {A = ℕ} 0 1 = cc in omega arith)
    go (some x) w f =
        let h : outcome p (path p).visited (some x) ≡ ended n read kind block vertices simplex = rw w at f in
        cc

module _ (g : GridStruct) (start table : List ℕ) where
  -- what is kept of the place before
  pub record Behind (before : Before) (h : ℕ) : Type 0 where
    pub T : IsMask before.sets.t
        (set_t (problem_in g start table) (place_at (path (problem_in g start table)).visited h))
    pub U : IsMask before.sets.u
        (set_u (problem_in g start table).grid (place_at (path (problem_in g start table)).visited h))

  -- the point that has left it, if there is one
  abbrev pub HasLeft : Before → ℕ → Type 0
  HasLeft before h = (z : Point)
      → outside same_point (place_at (path (problem_in g start table)).visited (suc h))
      (place_at (path (problem_in g start table)).visited h)
      ≡ z ∷ []
      → before.gone ≡ position (problem_in g start table).grid z

  -- which a pass that writes keeps
  pub record Left (before : Before) (k : ℕ) : Type 0 where
    pub left : (h : ℕ) → suc h ≡ k → HasLeft before h
    pub low : before.gone < 65536

  -- the trail up to the place before
  pub record SoFar (before : Before) (k at : ℕ) : Type 0 where
    pub long : at ≡ length (trail_of (problem_in g start table) (take k (path (problem_in g start table)).visited))
    pub behind : (h : ℕ) → suc h ≡ k → Behind before h

  -- What the pass has written at place number k, from 0: the records of the places before it. The record of the place
  -- ends at byte `end`. Where rule 1 led to the place, T and U are those of the place before. A pass that writes knows
  -- the point that has left.
  pub record Recording (writes : Bool) (old : List ℕ) (k : ℕ) (a : State) (trail : List ℕ) (before : Before)
      (from end : ℕ) : Type 0 where
    pub so_far : SoFar before k from
    pub counted : end ≡ length (trail_of (problem_in g start table)
        (take (suc k) (path (problem_in g start table)).visited))
    pub kept : a.rule ≡ 1 → 0 < from → SameSets before.sets.t before.sets.u a.T a.U
    pub written : trail ≡ cond writes
        (front (trail_of (problem_in g start table) (take k (path (problem_in g start table)).visited)) old) old
    pub long : length trail ≡ length old
    pub left : writes ≡ true → Left before k

module _ (g : GridStruct) (start table : List ℕ) (accepted : Accepted (problem_in g start table)) where
  ok : HasTable (problem_in g start table)
  ok = accepted-table accepted

  abbrev p : Problem
  p = problem_in g start table

  abbrev visited : List Simplex
  visited = (path p).visited

  -- a position tells its point
  same_point_lem : {y z : Point} → is_grid_point p.grid y ≡ true → is_grid_point p.grid z ≡ true
      → position p.grid y ≡ position p.grid z → y ≡ z
  same_point_lem {y} {z} hy hz e = sym (at_position p.grid ok.has_start.same_number y hy)
      ∙ ap (λ (i : ℕ). get_or (points p.grid) i []) e
      ∙ at_position p.grid ok.has_start.same_number z hz

  -- a place of the path, in a state that stands there
  module _ (s : State) (k : ℕ) (here : OnPath p s k) where
    place_is : place_at visited k ≡ points_from p s 0
    place_is = (beside ok k here.1).1 ∙ at_place (filled_full ok) here.0

    point_in_lem : (j : ℕ) → j ≤ length s.order → is_in same_point (point_in p s j) (place_at visited k) ≡ true
    point_in_lem j l = rw place_is (in_map on_numbers on_points (point_in p s) j (up_from 0 (suc (length s.order) - 0))
        (in_up_from 0 (suc (length s.order) - 0) j (omega arith) (omega arith)))

    in_point : (y : Point) → is_in same_point y (place_at visited k) ≡ true
        → (j : ℕ) × (j ≤ length s.order) × (y ≡ point_in p s j)
    in_point y m =
        let w =
        map_in on_numbers on_points (point_in p s) y (up_from 0 (suc (length s.order) - 0)) (rw place_is at m) in
        (w.0, omega (arith, (up_from_in 0 (suc (length s.order) - 0) w.0 w.1).1), w.2)

    on-grid : (j : ℕ) → j ≤ length s.order → is_grid_point p.grid (point_in p s j) ≡ true
    on-grid j l = all_in on_points (is_grid_point p.grid) (place_at visited k)
        (parts p (place_at visited k) ((demand3_holds ok).follows.places k here.1)).grid_points (point_in p s j)
        (point_in_lem j l)

    position-low : (j : ℕ) → j ≤ length s.order → position p.grid (point_in p s j) < 65536
    position-low j l = omega (
      arith,
      position_in_lem (points p.grid) (point_in p s j)
          (in_points p.grid (point_in p s j) ok.has_start.same_number (on-grid j l)),
      accepted.points,
    )

    -- T and U, by their masks
    mask_T : IsMask s.T (set_t p (place_at visited k))
    mask_T = mask_t p ok.has_start.sixteen_indices (place_at visited k) s.T (λ h m.
        at-T (filled_full ok) here.0 h m
        ∙ ap (is_in eqb h)
        (T-alike p _ (place_at (path (filled_table p)).visited k) ∙ ap (set_t p) (sym (beside ok k here.1).1)))

    mask_U : IsMask s.U (set_u p.grid (place_at visited k))
    mask_U = mask_u p ok.has_start.sixteen_indices (place_at visited k) s.U (λ h m.
        at_U (filled_full ok) here.0 h m
        ∙ ap (λ (x : Simplex). is_in eqb h (set_u p.grid x)) (sym (beside ok k here.1).1))

    active-low : s.active ≤ length s.order
    active-low = (at_reads (filled_full ok) here.0).0.low

    -- once the mark of the point that has come in is read, each point has its position in its mark
    module _ (known : IsKnown (table_problem g table) s) where
      label_small : s.rule < 6 → label (table_problem g table) (point_in p s s.active) < 256
      unfolding label
      label_small r =
          let y = point_in p s s.active in
          let h : has_label p y ≡ true = label_ok ok y (on-grid s.active active-low) (known r) in
          omega (
            arith,
            leb-true (label p y) (num_indices p.grid) (and_right (leb 1 (label p y)) _ h),
            ok.has_start.sixteen_indices,
          )

      pub known-position : (j : ℕ) → j ≤ length s.order
          → position_at (read (table_problem g table) s) j ≡ position p.grid (point_in p s j)
      unfolding read with_mark
      known-position j l =
          let y = point_in p s s.active in
          let m = mark_of (table_problem g table) y in
          let marked = at-marks (filled_full ok) here.0 j l in
          let long = at_long (filled_full ok) here.0 in
          ⊎_elim
          (λ (r : s.rule < 6). rw (lt-ltb s.rule 6 r)
          (⊎_elim
          (λ (e : j ≡ s.active). rw e
          (ap mark_position (get_or-set_same s.marks s.active m 0 (omega (arith, long, active-low)))
          ∙ mark-position (position p.grid y) (label (table_problem g table) y) (label_small r)))
          (λ n. ap mark_position (get_or-set_other s.marks s.active j m 0 n) ∙ marked (λ q. n))
          (same_or j s.active)))
          (λ (r : 6 ≤ s.rule). rw (le-ltb s.rule 6 r) (marked (λ q. absurd (omega arith))))
          (before_or_not s.rule 6)

      come-low : position_at (read (table_problem g table) s) s.active < 65536
      come-low = omega (arith, known-position s.active active-low, position-low s.active active-low)

  -- what reading a mark leaves as it is
  module _ (s : State) where
    abbrev r : State
    r = read (table_problem g table) s

    same-T : r.T ≡ s.T
    unfolding read with_mark
    same-T = ⊎_elim
        (λ (l : s.rule < 6). rw (lt-ltb s.rule 6 l))
        (λ (l : 6 ≤ s.rule). rw (le-ltb s.rule 6 l))
        (before_or_not s.rule 6)

    same-U : r.U ≡ s.U
    unfolding read with_mark
    same-U = ⊎_elim
        (λ (l : s.rule < 6). rw (lt-ltb s.rule 6 l))
        (λ (l : 6 ≤ s.rule). rw (le-ltb s.rule 6 l))
        (before_or_not s.rule 6)

    same-active : r.active ≡ s.active
    unfolding read with_mark
    same-active = ⊎_elim
        (λ (l : s.rule < 6). rw (lt-ltb s.rule 6 l))
        (λ (l : 6 ≤ s.rule). rw (le-ltb s.rule 6 l))
        (before_or_not s.rule 6)

    same-order : r.order ≡ s.order
    unfolding read with_mark
    same-order = ⊎_elim
        (λ (l : s.rule < 6). rw (lt-ltb s.rule 6 l))
        (λ (l : 6 ≤ s.rule). rw (le-ltb s.rule 6 l))
        (before_or_not s.rule 6)

    same-long : length r.marks ≡ length s.marks
    unfolding read with_mark
    same-long = ⊎_elim
        (λ (l : s.rule < 6). rw (lt-ltb s.rule 6 l) (length-set s.marks s.active _))
        (λ (l : 6 ≤ s.rule). rw (le-ltb s.rule 6 l))
        (before_or_not s.rule 6)

  -- so the position of the point that has come in fits 16 bits
  pub come-fits : (s : State) (k : ℕ) (here : OnPath p s k) (known : IsKnown (table_problem g table) s)
      → position_at (read (table_problem g table) s) (read (table_problem g table) s).active < 65536
  come-fits s k here known = rw (same-active s) (come-low s k here known)

  -- the position of the first of some points; 0 of none
  unfoldable first_of : List Point → ℕ
  first_of [] = 0
  first_of (z ∷ l) = position p.grid z

  some_bytes : (l : List Simplex) → 0 < length l → 0 < length (trail_of p l)
  unfolding trail_of start_record
  some_bytes [] m = absurd (omega arith)
  some_bytes (a ∷ l) m = omega arith

  no_trail : trail_of p [] ≡ []
  unfolding trail_of
  no_trail = refl

  first_trail : (x : Simplex) → start_record p ≡ trail_of p (x ∷ [])
  unfolding trail_of
  first_trail x = sym (append-nil (start_record p))

  pub first-bytes : 3 ≡ length (trail_of p (take 1 visited))
  unfolding trail_of start_record
  first-bytes = sym (ap (λ (l : List Simplex). length (trail_of p l))
      (take-suc visited 0 [] (demand3_holds ok).follows.nonempty))

  -- behind {v} it grows by the record of each place
  trail_next : (k : ℕ) → suc k < path_length p
      → trail_of p (take (suc (suc k)) visited)
      ≡ trail_of p (take (suc k) visited) ++ record_of p (place_at visited k) (place_at visited (suc k))
  trail_next k l =
      let long : length (take (suc k) visited) ≡ suc k = length-take-le (suc k) visited (omega arith) in
      let last : last_place (take (suc k) visited) ≡ place_at visited k =
      ap (λ (n : ℕ). place_at (take (suc k) visited) (pred n)) long ∙ get_or-take (suc k) visited k [] (omega arith) in
      ap (trail_of p) (take-suc visited (suc k) [] l)
      ∙ one_more p (take (suc k) visited) (place_at visited (suc k)) (omega (arith, long))
      ∙ ap (λ (x : Simplex). trail_of p (take (suc k) visited) ++ record_of p x (place_at visited (suc k))) last

  -- which is as long as the masks tell, whatever points come in and go out
  module _ (s : State) (k : ℕ) (here : OnPath p s (suc k)) (before : Before) (B : Behind g start table before k) where
    only : (l : List Point) (x : ℕ) → map (position p.grid) l ≡ x ∷ [] → first_of l ≡ x
    unfolding first_of
    only l x e = let w = mapped_one (position p.grid) l x e in ap first_of w.1 ∙ w.3

    record_bytes : (y z : ℕ)
        → length (record_from before.sets.t before.sets.u s.T s.U y z)
        ≡ length (record_of p (place_at visited k) (place_at visited (suc k)))
    unfolding change
    record_bytes y z =
        let a = place_at visited k in
        let b = place_at visited (suc k) in
        length-alike before.sets.t before.sets.u s.T s.U y z (first_of (outside same_point a b))
        (first_of (outside same_point b a))
        ∙ ap length (told p a b B.T (mask_T s (suc k) here) B.U (mask_U s (suc k) here)
        (only (outside same_point a b)) (only (outside same_point b a))
        ((path_trail ok).by_rule k here.1).1)

    pub next-end : (end bytes : ℕ) → end ≡ length (trail_of p (take (suc k) visited))
        → ((y z : ℕ) → bytes ≡ length (record_from before.sets.t before.sets.u s.T s.U y z))
        → end + bytes ≡ length (trail_of p (take (suc (suc k)) visited))
    next-end end bytes e l = omega (
      arith,
      e,
      l 0 0,
      record_bytes 0 0,
      length-append (trail_of p (take (suc k) visited)) (record_of p (place_at visited k) (place_at visited (suc k))),
      ap length (trail_next k here.1),
    )

  -- the record that is made at a place is the trail's
  module _ (s : State) (k : ℕ) (here : OnPath p s k) (known : IsKnown (table_problem g table) s) (before : Before)
      (at : ℕ)
      (F : SoFar g start table before k at) (left : (h : ℕ) → suc h ≡ k → HasLeft g start table before h) where
    abbrev come : ℕ
    come = position_at (read (table_problem g table) s) s.active

    come-is : come ≡ position p.grid (point_in p s s.active)
    come-is = known-position s k here known s.active (active-low s k here)

    -- at {v}
    begins_trail : k ≡ 0 → first_record come ≡ start_record p
    unfolding start_record
    begins_trail e =
        let m : is_in same_point (point_in p s s.active) (p.start ∷ []) ≡ true = subst
        (λ (x : Simplex). is_in same_point (point_in p s s.active) x ≡ true)
        (ap (place_at visited) e ∙ (demand3_holds ok).follows.begins)
        (point_in_lem s k here s.active (active-low s k here)) in
        let q : point_in p s s.active ≡ p.start =
        ⊎_elim (λ z. z) (λ z. absurd_bool (sym z)) (in_cases on_points (point_in p s s.active) p.start [] m) in
        rw (come-is, q)

    -- behind it
    module _ (h : ℕ) (e : suc h ≡ k) where
      abbrev a : Simplex
      a = place_at visited h

      abbrev b : Simplex
      b = place_at visited k

      -- the other points were at the place before
      was_there : (j : ℕ) → j ≤ length s.order → (s.rule < 6 → j ≡ s.active → ⊥)
          → is_in same_point (point_in p s j) a ≡ true
      was_there j l n =
          let o = at_others (filled_full ok) here.0 j l n in
          let z : o.0 ≡ h = omega (arith, o.1, e) in
          rw ((beside ok h (omega (arith, here.1))).1, ← z) o.2

      comes_in_lem : (x : ℕ) → (change p a b).points_in ≡ x ∷ [] → come ≡ x
      unfolding change
      comes_in_lem x q =
          let w = mapped_one (position p.grid) (outside same_point a b) x q in
          let v = outside_in on_points w.0 b a w.2 in
          let j = in_point s k here w.0 v.0 in
          ⊎_elim
          (λ (c : j.0 ≡ s.active). come-is
          ∙ ap (λ (i : ℕ). position p.grid (point_in p s i)) (sym c)
          ∙ ap (position p.grid) (sym j.2)
          ∙ w.3)
          (λ n. absurd_bool
          (sym (was_there j.0 j.1 (λ r. n)) ∙ ap (λ (y : Point). is_in same_point y a) (sym j.2) ∙ v.1))
          (same_or j.0 s.active)

      goes-out : (x : ℕ) → (change p a b).points_out ≡ x ∷ [] → before.gone ≡ x
      unfolding change
      goes-out x q =
          let w = mapped_one (position p.grid) (outside same_point b a) x q in
          left h e w.0 (rw e w.1) ∙ w.3

      later_record : record_from before.sets.t before.sets.u s.T s.U come before.gone ≡ record_of p a b
      later_record =
          let B = F.behind h e in
          let by = (path_trail ok).by_rule h (omega (arith, here.1)) in
          told p a b B.T (mask_T s k here) B.U (mask_U s k here) comes_in_lem goes-out (rw e at by.1)

    one_place : take (suc k) visited ≡ take k visited ++ (place_at visited k ∷ [])
    one_place = take-suc visited k [] here.1

    made-first : at ≡ 0 → record_here (read (table_problem g table) s) before at ≡ first_record come
    made-first e = rw (eq-eqb at 0 e, same-active s)

    made-later : (at ≡ 0 → ⊥)
        → record_here (read (table_problem g table) s) before at
        ≡ record_from before.sets.t before.sets.u s.T s.U come before.gone
    made-later n = rw (ne_eqb at 0 n, same-T s, same-U s, same-active s)

    pub here_trail : trail_of p (take k visited) ++ record_here (read (table_problem g table) s) before at
        ≡ trail_of p (take (suc k) visited)
    here_trail = go k refl
      where
        go : (n : ℕ) → k ≡ n
            → trail_of p (take k visited) ++ record_here (read (table_problem g table) s) before at
            ≡ trail_of p (take (suc k) visited)
        go zero e =
            let none : trail_of p (take k visited) ≡ [] = ap (λ (n : ℕ). trail_of p (take n visited)) e ∙ no_trail in
            let z : at ≡ 0 = F.long ∙ ap length none in
            let one : take (suc k) visited ≡ place_at visited k ∷ [] =
            one_place ∙ ap (λ (n : ℕ). take n visited ++ (place_at visited k ∷ [])) e in
            ap (λ (l : List ℕ). l ++ record_here (read (table_problem g table) s) before at) none
            ∙ made-first z
            ∙ begins_trail e
            ∙ first_trail (place_at visited k)
            ∙ ap (trail_of p) (sym one)
        go (suc h) e =
            let n : at ≡ 0 → ⊥ = λ z. omega (
              arith,
              some_bytes (take k visited) (omega (arith, length-take-le k visited (omega (arith, here.1)), e)),
              F.long,
            ) in
            ap (λ (l : List ℕ). trail_of p (take k visited) ++ l) (made-later n ∙ later_record h (sym e))
            ∙ rw e (sym (trail_next h (omega (arith, here.1, e))))

  -- the point that leaves
  module _ (s : State) (k : ℕ) (here : OnPath p s k) (known : IsKnown (table_problem g table) s)
      (ready : Ready (read (table_problem g table) s)) where
    abbrev full_marks : State
    full_marks = read (table_problem g table) s

    -- its position, if one leaves
    abbrev gone-here : ℕ
    gone-here = gone_by full_marks (way_here full_marks)

    leaving-inside : (i : ℕ) → Leaving full_marks i → i ≤ length s.order
    leaving-inside i L = rw (← same-order s) (leaving-ready full_marks i ready L).low

    gone-low : gone-here < 65536
    gone-low = ⊎_elim
        (λ (w : (i : ℕ) × Leaving full_marks i).
        let l = leaving-inside w.0 w.1 in
        omega (
          arith,
          gone-leaving full_marks w.0 w.1,
          known-position s k here known w.0 l,
          position-low s k here w.0 l,
        ))
        (λ (w : (h : ℕ) × Joining full_marks h). omega (arith, gone-joining full_marks w.0 w.1))
        (leaves_or_joins full_marks)

    some_step : (i : ℕ) → Leaving full_marks i → 1 ≤ length full_marks.order
    some_step i L =
        let R = leaving-ready full_marks i ready L in
        ⊎_elim
        (λ (l : 0 < length full_marks.order). l)
        (λ (l : length full_marks.order ≤ 0). (R.first (omega (arith, R.low))).some)
        (before_or_not 0 (length full_marks.order))

    module _ (e : State) (moved : make_move full_marks ≡ goes e) (next : OnPath p e (suc k)) where
      marked : length full_marks.marks ≡ suc (length full_marks.order)
      marked =
          same-long s ∙ at_long (filled_full ok) here.0 ∙ ap (λ (l : List ℕ). suc (length l)) (sym (same-order s))

      -- a point whose mark is kept stays
      stays : (j : ℕ) → j ≤ length s.order → Kept full_marks e j
          → is_in same_point (point_in p s j) (place_at visited (suc k)) ≡ true
      stays j l K =
          let f : position p.grid (point_in p e K.to) ≡ position p.grid (point_in p s j) =
          sym (at-marks (filled_full ok) next.0 K.to K.low K.other)
          ∙ ap mark_position K.same
          ∙ known-position s k here known j l in
          let q : point_in p e K.to ≡ point_in p s j =
          same_point_lem (on-grid e (suc k) next K.to K.low) (on-grid s k here j l) f in
          rw (← q) (point_in_lem e (suc k) next K.to K.low)

      gone-is : (z : Point) → outside same_point (place_at visited (suc k)) (place_at visited k) ≡ z ∷ []
          → gone-here ≡ position p.grid z
      gone-is z q =
          let w : (is_in same_point z (place_at visited k) ≡ true)
          × (is_in same_point z (place_at visited (suc k)) ≡ false) =
          outside_in on_points z (place_at visited k) (place_at visited (suc k)) (rw q (in_here on_points z [])) in
          let j = in_point s k here z w.0 in
          let stay : Kept full_marks e j.0 → ⊥ = λ K. absurd_bool
          (sym (stays j.0 j.1 K)
          ∙ ap (λ (y : Point). is_in same_point y (place_at visited (suc k))) (sym j.2)
          ∙ w.1) in
          let low : j.0 ≤ length full_marks.order = rw (same-order s) j.1 in
          ⊎_elim
          (λ (v : (i : ℕ) × Leaving full_marks i). ⊎_elim
          (λ (c : j.0 ≡ v.0). sym (gone-leaving full_marks v.0 v.1)
          ∙ ap (position_at full_marks) (sym c)
          ∙ known-position s k here known j.0 j.1
          ∙ ap (position p.grid) (sym j.2))
          (λ n. absurd (stay (kept_of
          (leave-kept full_marks j.0 marked low v.0 (some_step v.0 v.1)
          (leaving-ready full_marks v.0 ready v.1).low n)
          (leaving-leaves full_marks v.0 v.1 ∙ moved))))
          (same_or j.0 v.0))
          (λ (v : (h : ℕ) × Joining full_marks h).
          absurd (stay (kept_of (grow-kept full_marks j.0 marked low (label_in full_marks - 1))
          (label-joins full_marks (label_in full_marks) (label_in full_marks - 1) refl refl v.1.0 v.1.1
          ∙ moved))))
          (leaves_or_joins full_marks)

      -- which a pass that writes keeps
      pub next-left : (gone : ℕ) → gone ≡ gone-here
          → Left g start table (record { sets = record { t = s.T; u = s.U }; gone = gone }) (suc k)
      next-left gone z = record {
        left = λ h q. let i : k ≡ h = omega arith in rw (← i) (λ y o. z ∙ gone-is y o);
        low = omega (arith, z, gone-low);
      }

  -- the trail so far is no longer than the whole
  records_part : (a : Simplex) (l : List Simplex) (n : ℕ)
      → length (records_from p a (take n l)) ≤ length (records_from p a l)
  records_part a l zero = omega arith
  records_part a [] (suc n) = omega arith
  records_part a (b ∷ l) (suc n) = omega (
    arith,
    length-append (record_of p a b) (records_from p b (take n l)),
    length-append (record_of p a b) (records_from p b l),
    records_part b l n,
  )

  part_short : (l : List Simplex) (n : ℕ) → length (trail_of p (take n l)) ≤ length (trail_of p l)
  unfolding trail_of
  part_short l zero = omega arith
  part_short [] (suc n) = omega arith
  part_short (a ∷ l) (suc n) = omega (
    arith,
    length-append (start_record p) (records_from p a (take n l)),
    length-append (start_record p) (records_from p a l),
    records_part a l n,
  )

  pub part_fits : (n : ℕ) → length (trail_of p (take n visited)) < 2 ^ 64
  part_fits n = omega (arith, part_short visited n, trail_fits accepted visited (demand3_holds ok).follows)

  -- where a pass begins
  pub so_far_none : (before : Before) → SoFar g start table before 0 0
  so_far_none before = record { long = ap length (sym no_trail); behind = λ h e. absurd (omega arith) }

  pub left-none : (before : Before) → before.gone < 65536 → Left g start table before 0
  left-none before l = record { left = λ h e. absurd (omega arith); low = l }

  pub trail_none : (writes : Bool) (old : List ℕ) → old ≡ cond writes (front (trail_of p (take 0 visited)) old) old
  trail_none true old = sym (ap (λ (l : List ℕ). front l old) no_trail ∙ front-none old)
  trail_none false old = refl

  -- one place of the pass
  module _ (s : State) (k : ℕ) (here : OnPath p s k) (known : IsKnown (table_problem g table) s) (before : Before)
      (at : ℕ)
      (F : SoFar g start table before k at) where
    abbrev rec : List ℕ
    rec = record_here (read (table_problem g table) s) before at

    next-long : at + length rec ≡ length (trail_of p (take (suc k) visited))
    next-long = go k refl
      where
        go : (n : ℕ) → k ≡ n → at + length rec ≡ length (trail_of p (take (suc k) visited))
        go zero e =
            let z : at ≡ 0 = F.long ∙ ap (λ (n : ℕ). length (trail_of p (take n visited))) e ∙ ap length no_trail in
            let first : take 1 visited ≡ take (suc k) visited = ap (λ (n : ℕ). take (suc n) visited) (sym e) in
            rw z (first-bytes ∙ ap (λ (l : List Simplex). length (trail_of p l)) first)
        go (suc h) e =
            let n : at ≡ 0 → ⊥ = λ z. omega (
              arith,
              some_bytes (take k visited) (omega (arith, length-take-le k visited (omega (arith, here.1)), e)),
              F.long,
            ) in
            let on : OnPath p s (suc h) = rw e at here in
            let so : at ≡ length (trail_of p (take (suc h) visited)) =
            F.long ∙ ap (λ (n : ℕ). length (trail_of p (take n visited))) e in
            rw (ne_eqb at 0 n, same-T s, same-U s, e)
            (next-end s h on before (F.behind h (sym e)) at _ so
            (λ y z. length-alike before.sets.t before.sets.u s.T s.U _ before.gone y z))

    pub next-short : at + length rec ≤ length (trail_of p visited)
    next-short = omega (arith, next-long, part_short visited (suc k))

    -- the trail after it
    pub next_trail : (writes : Bool) (old now : List ℕ) → (writes ≡ true → length (trail_of p visited) ≤ length old)
        → (writes ≡ true → Left g start table before k)
        → now ≡ cond writes (front (trail_of p (take k visited)) old) old
        → cond writes (paste now at rec (length rec)) now
        ≡ cond writes (front (trail_of p (take (suc k) visited)) old) old
    next_trail true old now room gone e =
        ap (λ (l : List ℕ). paste l at rec (length rec)) e
        ∙ front_paste (trail_of p (take k visited)) old rec at F.long (omega (arith, next-short, room refl))
        ∙ ap (λ (l : List ℕ). front l old) (here_trail s k here known before at F (gone refl).left)
    next_trail false old now room gone e = e

    -- and what is kept of it
    pub next_so_far : (gone end : ℕ) → end ≡ length (trail_of p (take (suc k) visited))
        → SoFar g start table (record { sets = record { t = s.T; u = s.U }; gone = gone }) (suc k) end
    next_so_far gone end e = record {
      long = e;
      behind = λ h q. let i : k ≡ h = omega arith in rw (← i) (record { T = mask_T s k here; U = mask_U s k here });
    }

  -- at the path's end the trail is whole
  pub whole-at : (k : ℕ) → suc k ≡ path_length p → trail_of p (take (suc k) visited) ≡ trail_of p visited
  whole-at k e = ap (trail_of p) (take_all (suc k) visited (omega arith))
