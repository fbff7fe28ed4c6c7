-- One place of the pass: the point that has come in is the only one that may be new, and so what is kept of the
-- vertices up to a place becomes what is kept of those up to the next. Assumes nothing.
use mathlib.Core.Bool.{Bool, true, false, cond}
use mathlib.Core.List.{List, [], ◌∷◌, ◌++◌, append-nil}
use mathlib.Core.Logic.{⊎_elim}
use mathlib.Core.Path.{◌≡◌, refl, sym, ap, ◌∙◌, subst}
use Prim.Native.Nat.{ℕ, suc, ◌-◌, ◌<◌, ◌≤◌}
use Rattle.std.specs.Prelude.{Option, Some}
use borrow.Author.Tests.{eq-eqb, le-ltb, leb-true, lt-ltb, ne_eqb}
use lib.Dec.{leb}
use lib.ListN.{length, length-map, length-take, take}
use lib.Seq.{get_or-set_same, get_or-take, take_all}
use native.Mathlib.Omega.{arith}
use Rattle.combinatorics.proofs.Basics.{absurd_bool, and_right, before_or_not, false_of, true_or_false}
use Rattle.combinatorics.proofs.Lists.{all_in, in_map, map_in, on_numbers}
use Rattle.combinatorics.proofs.Ranges.{in_up_from, up_from_in}
use Rattle.combinatorics.specs.Front.{front}
use Rattle.combinatorics.specs.Lists.{is_in, up_from}
use Rattle.grid_points.proofs.Points.{on_points}
use Rattle.grid_points.specs.Grid.{Point, at, is_grid_point, num_indices, num_points, position, same_point}
use Rattle.grid.specs.Made.{shape}
use Rattle.grid.specs.declared.Grid.{Grid as GridStruct}
use Rattle.place.specs.Path.{path as path_of, path_length}
use Rattle.place.specs.Places.{Simplex}
use Rattle.place.specs.Problem.{Problem, label}
use Rattle.path_laws.proofs.Accepted.{accepted-table}
use Rattle.path_laws.proofs.Filled.{FullyLabelled, beside, filled_full, filled_table}
use Rattle.path_laws.proofs.Labels.{label_ok}
use Rattle.path_laws.proofs.LinkSymmetry.{parts}
use Rattle.path_laws.proofs.Theorem.{demand3_holds}
use Rattle.path_laws.specs.Demand.{Accepted, place_at}
use Rattle.rules.proofs.Follow.{At as StandsAt, NextAt, place_ends, facet_ends, at_long, at_others, at_place, at_reads}
use Rattle.rules.proofs.Marks.{position_in}
use Rattle.rules.specs.Read.{CanCompute, point_in, points_from, position_at, read}
use Rattle.rules.specs.Moves.{State, ends_at_facet, ends_at_place, mark_position, with_mark}
use Rattle.marks.specs.Reading.{table_problem}
use Rattle.path_pass.proofs.Visits.{OnPath}
use Rattle.path_pass.specs.Finish.{IsKnown, problem_in}
use Rattle.nearest_visited.proofs.Firsts.{firsts-distinct, firsts_in, in_firsts, none_more, one_more}
use Rattle.nearest_visited.proofs.Nearest.{grid-accepted, some-visited}
use Rattle.nearest_visited.proofs.Visits.{in_before, next_place, place_in}
use Rattle.nearest_visited.specs.Distance.{distance}
use Rattle.nearest_visited.specs.Nearest.{nearest, positions_within, vertices_within}
use Rattle.nearest_visited.specs.Visited.{points_of_places, vertices_of, visited_vertices}
use Rattle.nearest_met.specs.Meeting.{HasRoomToNote, Kept, come_by, vertex_come, list_after, point_come, seen_after}
use Rattle.nearest_met.specs.Meeting.{tally_after}
use Rattle.nearest_met.specs.declared.Tally.{Tally}
use Rattle.nearest_pass.specs.Survey.{some_vertex}
use Rattle.nearest_met.proofs.Keeping.{kept_more, low, room_for, seen-new, seen-old}

module _ (g : GridStruct) (first table : List ℕ) (ok : Accepted (problem_in g first table)) where
  abbrev p : Problem
  p = problem_in g first table

  abbrev on_path : List Simplex
  on_path = (path_of (problem_in g first table)).visited

  full : FullyLabelled (filled_table p)
  full = filled_full (accepted-table ok)

  on_so_far : (k : ℕ) (y : Point) → is_in same_point y (vertices_of (take k on_path)) ≡ true
      → is_grid_point (shape g) y ≡ true
  on_so_far k y m =
      let i = place_in y (take k on_path) (firsts_in on_points y (points_of_places (take k on_path)) m) in
      let l : i.0 < length on_path = omega (arith, i.1, length-take k on_path) in
      let h : i.0 < k = omega (arith, i.1, length-take k on_path) in
      all_in on_points (is_grid_point (shape g)) (place_at on_path i.0)
      (parts p (place_at on_path i.0) ((demand3_holds (accepted-table ok)).follows.places i.0 l)).grid_points y
      (rw (get_or-take k on_path i.0 [] h) at i.2)

  -- at the end the path has no place more
  no_more_lem : (k : ℕ) → k < path_length p → path_length (filled_table p) ≡ suc k → path_length p ≡ suc k
  no_more_lem k l e = ⊎_elim
      (λ (c : suc k < path_length p). absurd (omega (arith, (beside (accepted-table ok) (suc k) c).0)))
      (λ (c : path_length p ≤ suc k). omega arith)
      (before_or_not (suc k) (path_length p))

  pub last-place : (k h : ℕ) (last : State) → k < path_length p → NextAt (filled_table p) k (ends_at_place last h)
      → path_length p ≡ suc k
  last-place k h last l (place_ends E) = no_more_lem k l E.places

  pub last-facet : (k h : ℕ) (last : State) → k < path_length p → NextAt (filled_table p) k (ends_at_facet last h)
      → path_length p ≡ suc k
  last-facet k h last l (facet_ends E) = no_more_lem k l E.places

  module _ (s : State) (k : ℕ) (here : OnPath p s k) where
    A : StandsAt (filled_table p) s k
    A = here.0

    abbrev y : Point
    y = point_come (shape g) s

    at_k : place_at on_path k ≡ points_from (filled_table p) s 0
    at_k = (beside (accepted-table ok) k here.1).1 ∙ at_place full A

    pub computed : CanCompute s s.active
    computed = (at_reads full A).0

    pub on-grid : is_grid_point (shape g) (point_come (shape g) s) ≡ true
    on-grid = (at_reads full A).1

    come-here : is_in same_point (point_come (shape g) s) (place_at on_path k) ≡ true
    come-here =
        let c = computed.low in
        rw at_k
        (in_map on_numbers on_points (point_in p s) s.active (up_from 0 (suc (length s.order) - 0))
        (in_up_from 0 (suc (length s.order) - 0) s.active (omega arith) (omega arith)))

    -- reading its mark changes no point
    pub read-come : {a : State} → a ≡ read (table_problem g table) s
        → point_come (shape g) a ≡ point_come (shape g) s
    unfolding read with_mark
    read-come e = rw e (⊎_elim
        (λ (r : s.rule < 6). rw (lt-ltb s.rule 6 r))
        (λ (r : 6 ≤ s.rule). rw (le-ltb s.rule 6 r))
        (before_or_not s.rule 6))

    computed_then : CanCompute (read (table_problem g table) s) (read (table_problem g table) s).active
    unfolding read with_mark
    computed_then = ⊎_elim
        (λ (r : s.rule < 6). rw (lt-ltb s.rule 6 r) computed)
        (λ (r : 6 ≤ s.rule). rw (le-ltb s.rule 6 r) computed)
        (before_or_not s.rule 6)

    pub read-computed : {a : State} → a ≡ read (table_problem g table) s → CanCompute a a.active
    read-computed e = subst (λ (a : State). CanCompute a a.active) (sym e) computed_then

    -- its mark, once read, has its position
    label_small : IsKnown (table_problem g table) s → s.rule < 6 → label (table_problem g table) y < 256
    unfolding label
    label_small known r = omega (
      arith,
      leb-true (label p y) (num_indices p.grid)
          (and_right (leb 1 (label p y)) _ (label_ok (accepted-table ok) y on-grid (known r))),
      ok.has_start.sixteen_indices,
    )

    come-position : IsKnown (table_problem g table) s → s.rule < 6
        → position_at (read (table_problem g table) s) (read (table_problem g table) s).active ≡ position (shape g) y
    unfolding read with_mark
    come-position known r =
        rw (lt-ltb s.rule 6 r)
        (ap mark_position (get_or-set_same s.marks s.active _ 0 (omega (arith, at_long full A, computed.low)))
        ∙ position_in (position (shape g) y) (label (table_problem g table) y) (label_small known r))

    pub come-is : IsKnown (table_problem g table) s → (q : ℕ)
        → q ≡ position_at (read (table_problem g table) s) (read (table_problem g table) s).active
        → come_by s.rule q ≡ vertex_come (shape g) s
    come-is known q e = ⊎_elim
        (λ (r : s.rule < 6). rw (lt-ltb s.rule 6 r) (ap Some (e ∙ come-position known r)))
        (λ (r : 6 ≤ s.rule). rw (le-ltb s.rule 6 r))
        (before_or_not s.rule 6)

    -- the other points were met before
    met_before : (z : Point) → is_in same_point z (place_at on_path k) ≡ true
        → (s.rule < 6 → z ≡ point_come (shape g) s → ⊥)
        → is_in same_point z (points_of_places (take k on_path)) ≡ true
    met_before z m ne =
        let i = map_in on_numbers on_points (point_in p s) z (up_from 0 (suc (length s.order) - 0)) (rw at_k at m) in
        let c : i.0 ≤ length s.order = omega (arith, (up_from_in 0 (suc (length s.order) - 0) i.0 i.1).1) in
        let w = at_others full A i.0 c (λ r e. ne r (i.2 ∙ ap (point_in p s) e)) in
        let l : w.0 < path_length p = omega (arith, w.1, here.1) in
        in_before z on_path k w.0 (omega (arith, w.1)) l (subst
        (λ (x : Simplex). is_in same_point z x ≡ true)
        (sym (beside (accepted-table ok) w.0 l).1)
        (subst
        (λ (x : Point). is_in same_point x (place_at (path_of (filled_table p)).visited w.0) ≡ true)
        (sym i.2) w.2))

    vertices-same : 6 ≤ s.rule → vertices_of (take (suc k) on_path) ≡ vertices_of (take k on_path)
    vertices-same r =
        rw (next_place on_path k here.1) (none_more on_points (points_of_places (take k on_path)) (place_at on_path k)
        (λ z m. met_before z m (λ c. absurd (omega arith))))

    vertices-next : s.rule < 6
        → vertices_of (take (suc k) on_path)
        ≡ vertices_of (take k on_path) ++ cond (is_in same_point y (points_of_places (take k on_path))) [] (y ∷ [])
    vertices-next r = rw (next_place on_path k here.1)
        (one_more on_points (points_of_places (take k on_path)) (place_at on_path k) y come-here
        (λ z m ne. met_before z m (λ c. ne)))

    vertices-old : s.rule < 6 → is_in same_point y (points_of_places (take k on_path)) ≡ true
        → vertices_of (take (suc k) on_path) ≡ vertices_of (take k on_path)
    vertices-old r m = vertices-next r
        ∙ ap (λ (b : Bool). vertices_of (take k on_path) ++ cond b [] (y ∷ [])) m
        ∙ append-nil (vertices_of (take k on_path))

    vertices-new : s.rule < 6 → is_in same_point y (points_of_places (take k on_path)) ≡ false
        → vertices_of (take (suc k) on_path) ≡ vertices_of (take k on_path) ++ (y ∷ [])
    vertices-new r n = vertices-next r ∙ ap (λ (b : Bool). vertices_of (take k on_path) ++ cond b [] (y ∷ [])) n

    module _ (w : Point) (on_w : is_grid_point (shape g) w ≡ true) (given : ℕ) (old : List ℕ)
        (room : num_points (shape g) ≤ length old) {seen list : List ℕ} {t : Tally}
        (K : Kept (shape g) w given old (vertices_of (take k on_path)) seen list t) where
      abbrev away : ℕ
      away = distance (shape g) w (point_come (shape g) s)

      first-new : is_in same_point y (points_of_places (take k on_path)) ≡ false
          → is_in same_point y (vertices_of (take k on_path)) ≡ false
      first-new n =
          false_of _ (λ m. absurd_bool (sym (firsts_in on_points y (points_of_places (take k on_path)) m) ∙ n))

      new-seen : is_in same_point y (points_of_places (take k on_path)) ≡ false → at seen (position (shape g) y) ≡ 0
      new-seen n = seen-new (shape g) (grid-accepted ok) w on_w given old room K (on_so_far k) y on-grid (first-new n)

      old-seen : is_in same_point y (points_of_places (take k on_path)) ≡ true → at seen (position (shape g) y) ≡ 1
      old-seen m = seen-old (shape g) (grid-accepted ok) w on_w given old room K (on_so_far k) y on-grid
          (in_firsts on_points y (points_of_places (take k on_path)) m)

      -- there is room for it
      pub room_next : HasRoomToNote given t away seen list (vertex_come (shape g) s)
      room_next = ⊎_elim
          (λ (r : s.rule < 6). rw (lt-ltb s.rule 6 r) (
            low (shape g) (grid-accepted ok) w on_w given old room K (on_so_far k) y on-grid,
            (λ z c. ⊎_elim
                (λ m. absurd (omega (arith, old-seen m)))
                (λ n. room_for (shape g) (grid-accepted ok) w on_w given old room K (on_so_far k) y on-grid
                (first-new n) (firsts-distinct on_points (points_of_places (take k on_path))) c)
                (true_or_false (is_in same_point y (points_of_places (take k on_path))))),
          ))
          (λ (r : 6 ≤ s.rule). rw (le-ltb s.rule 6 r) refl)
          (before_or_not s.rule 6)

      -- what is kept up to the next place
      pub kept_next : Kept (shape g) w given old (vertices_of (take (suc k) on_path))
          (seen_after seen (vertex_come (shape g) s)) (list_after given t away seen list (vertex_come (shape g) s))
          (tally_after given t away seen (vertex_come (shape g) s))
      kept_next = ⊎_elim
          (λ (r : s.rule < 6). ⊎_elim
          (λ m. rw (
            vertices-old r m,
            lt-ltb s.rule 6 r,
            ne_eqb (at seen (position (shape g) y)) 0 (λ z. omega (arith, old-seen m)),
          ) K)
          (λ n. rw (vertices-new r n, lt-ltb s.rule 6 r, eq-eqb (at seen (position (shape g) y)) 0 (new-seen n))
          (kept_more (shape g) (grid-accepted ok) w on_w given old room K (on_so_far k) y on-grid (first-new n)
          (firsts-distinct on_points (points_of_places (take k on_path)))))
          (true_or_false (is_in same_point y (points_of_places (take k on_path)))))
          (λ (r : 6 ≤ s.rule). rw (vertices-same r, le-ltb s.rule 6 r) K)
          (before_or_not s.rule 6)

      pub kept_met : {came : Option ℕ} {r : Tally} {seen' list' : List ℕ} → came ≡ vertex_come (shape g) s
          → r ≡ tally_after given t away seen came → seen' ≡ seen_after seen came
          → list' ≡ list_after given t away seen list came
          → Kept (shape g) w given old (vertices_of (take (suc k) on_path)) seen' list' r
      kept_met c e f h = rw (e, f, h, c) kept_next

  -- at the path's last place all visited vertices have been met
  module _ (k : ℕ) (all : path_length p ≡ suc k) (w : Point) (given : ℕ) (old : List ℕ) {seen list : List ℕ} {t : Tally}
      (K : Kept (shape g) w given old (vertices_of (take (suc k) on_path)) seen list t) where
    kept-all : Kept (shape g) w given old (visited_vertices p) seen list t
    unfolding visited_vertices
    kept-all = subst
        (λ (x : List Simplex). Kept (shape g) w given old (vertices_of x) seen list t)
        (take_all (suc k) on_path (omega arith)) K

    pub all_met : (some_vertex t.nearest t.listed
        ≡ some_vertex (position (shape g) (nearest p w)) (length (positions_within p w given)))
        × (list ≡ front (positions_within p w given) old)
    all_met =
        let near = kept-all.nearest (some-visited ok) in
        let many = kept-all.listed ∙ sym (length-map (vertices_within p w given) (position (shape g))) in
        (rw (near, many), kept-all.written)
