-- The two places of a move. In order: marks in an array; both places are kept; what is told of them. Assumes nothing.
use mathlib.Core.Bool.{true, false}
use mathlib.Core.List.{List, [], ◌∷◌, map}
use mathlib.Core.Logic.{⊎_elim}
use mathlib.Core.Path.{◌≡◌, refl, sym, ap, ◌∙◌, subst}
use Prim.Native.Nat.{ℕ, zero, suc, pred, ◌≤◌, ◌<◌}
use lib.Dec.{eqb}
use lib.ListN.{length, get_or, take, replicate, length-map, length-replicate, length-take}
use lib.Seq.{ext_get_or, get_or-take, length-take-le}
use native.Mathlib.Omega.{arith}
use Rattle.combinatorics.proofs.Basics.{absurd_bool, and_left, both, true_or_false}
use Rattle.combinatorics.proofs.Fronts.{front_length}
use Rattle.combinatorics.proofs.Lists.{all_in, in_map, map_in, on_numbers}
use Rattle.combinatorics.specs.Lists.{all, first_or, is_in}
use Rattle.combinatorics.specs.Front.{padded}
use Rattle.grid_points.proofs.Accepted.{accepted as accepted-grid}
use Rattle.grid.proofs.Fields.{made-indices}
use Rattle.grid_points.proofs.Points.{on_points}
use Rattle.grid_points.specs.Grid.{Grid, Point, at, is_grid_point, num_indices, position, same_point}
use Rattle.grid.specs.Made.{IsMade, shape}
use Rattle.grid_points.specs.Questions.{grid_questions, question5}
use Rattle.grid.specs.declared.Grid.{Grid as GridStruct}
use Rattle.arrays.specs.declared.holding.Held.{Held}
use Rattle.place.specs.Places.{Simplex, is_place, label_set, order, set_t, set_u, within}
use Rattle.place.specs.Problem.{Problem}
use Rattle.place.specs.Questions.{question6, question7}
use Rattle.path_laws.proofs.Accepted.{accepted-is}
use Rattle.path_laws.proofs.Bound.{order-short}
use Rattle.path_laws.proofs.IndexSets.{no-empty}
use Rattle.path_laws.proofs.LinkSymmetry.{parts}
use Rattle.path_laws.proofs.ToChain.{place-long}
use Rattle.path_laws.specs.Demand.{Accepted}
use Rattle.positions.proofs.ByTails.{position-tells}
use Rattle.questions.proofs.Answers.{both_yes}
use Rattle.questions.specs.Questions.{first_no}
use Rattle.walk_recogniser.specs.Kept.{Seen}
use Rattle.walk_recogniser.specs.Pieces.{bare_mark}
use Rattle.walk_recogniser.specs.declared.Sets.{Sets}
use Rattle.rules.proofs.Marks.{position_in as position-of-mark}
use Rattle.rules.specs.Moves.{mark_position}
use Rattle.walks.proofs.KeptForm.{T-is, U-is, grid-long, meets, order_is}
use Rattle.walks.proofs.Meaning.{Passes}
use Rattle.walks.proofs.Moved.{Onward, moved_passes}
use Rattle.walks.proofs.Recognised.{kept_every, recognised}
use Rattle.walks.specs.Kept.{is_kept, kept_points}
use Rattle.walks.specs.Walk.{Walk}
use Rattle.walk_places.specs.Placing.{BothMarked, CanPlace, GoesTo}
use Rattle.walk_places.proofs.Held.{held, held-parts, not_held, padded_taken}
use Rattle.walk_places.specs.Walks.{holds_place, kept_as, place_of, stored, table_on, walk_on}
use Rattle.walk_places.specs.declared.Place.{Place}
use Rattle.walk_places.specs.declared.Walk.{Walk as WalkStruct}

pub padded-long : (xs : List ℕ) → length xs ≤ 16 → length (padded 16 xs) ≡ 16
padded-long xs l = let z = length-replicate {A = ℕ} 16 0 in front_length xs (replicate 16 0) (omega (arith, z)) ∙ z

pub map_at : (f : Point → ℕ) (r : Simplex) (j : ℕ) → j < length r → get_or (map f r) j 0 ≡ f (get_or r j [])
map_at f [] j m = absurd (omega arith)
map_at f (y ∷ r) zero m = refl
map_at f (y ∷ r) (suc j) m = map_at f r j (omega arith)

-- the marks of a list of points, in an array
marks-are : (f : Point → ℕ) (s : Simplex) (n : ℕ) (marks : List ℕ) → length s ≡ suc n → suc n ≤ length marks
    → ((j : ℕ) → j ≤ n → at marks j ≡ f (get_or s j [])) → take (suc n) marks ≡ map f s
marks-are f s n marks long room each =
    let l = length-take-le (suc n) marks room in
    ext_get_or 0 (take (suc n) marks) (map f s) (l ∙ sym (length-map s f ∙ long))
    (λ j m. let k : j ≤ n = omega (arith, l) in
    get_or-take (suc n) marks j 0 (omega arith) ∙ each j k ∙ sym (map_at f s j (omega arith)))

pub bare-position : (g : Grid) (y : Point) → mark_position (bare_mark g y) ≡ position g y
bare-position g y = position-of-mark (position g y) 0 (omega arith)

module _ {p : Problem} (ok : Accepted p) where
  pub grid-asked : first_no (grid_questions p.grid) ≡ 0
  grid-asked = (both_yes (grid_questions p.grid) (question5 p.grid p.start ∷ question6 p ∷ question7 p ∷ []) refl
      (accepted-is ok)).0

  -- positions tell points apart
  pub bare-tells : (y z : Point) → is_grid_point p.grid y ≡ true → is_grid_point p.grid z ≡ true → bare_mark p.grid y
      ≡ bare_mark p.grid z → y ≡ z
  bare-tells y z h i e = position-tells p.grid (accepted-grid p.grid grid-asked) y z h i
      (sym (bare-position p.grid y) ∙ ap mark_position e ∙ bare-position p.grid z)

  pub bare_in : (y : Point) (a : Simplex) → is_grid_point p.grid y ≡ true → all (is_grid_point p.grid) a ≡ true
      → is_in eqb (bare_mark p.grid y) (map (bare_mark p.grid) a) ≡ is_in same_point y a
  bare_in y a h on = both (is_in eqb (bare_mark p.grid y) (map (bare_mark p.grid) a)) (is_in same_point y a)
      (λ m. let w = map_in on_points on_numbers (bare_mark p.grid) (bare_mark p.grid y) a m in
      rw (bare-tells y w.0 h (all_in on_points (is_grid_point p.grid) a on w.0 w.1) w.2) w.1)
      (λ m. in_map on_points on_numbers (bare_mark p.grid) y a m)

-- what is a place is kept
place-kept : (p : Problem) → Accepted p → (y : Point) (o : List ℕ) → is_place p (kept_points p.grid y o) ≡ true
    → is_kept p y o ≡ false → ⊥
place-kept p ok y o place f = absurd_bool (sym (and_left (is_kept p y o) (within o (label_set p (kept_points p.grid y o)))
    (sym (recognised ok.has_start y o) ∙ place)) ∙ f)

module _ {g : GridStruct} {w : WalkStruct} {labels : List ℕ} {next : Place} (made : IsMade g)
    (G : GoesTo (shape g) w labels next) where
  abbrev W : Walk
  W = walk_on (shape g) w

  abbrev p : Problem
  p = table_on g w labels

  abbrev here : Simplex
  here = place_of (shape g) w.present

  abbrev there : Simplex
  there = G.to

  pub passes : Passes W labels × Onward p W.before here there
  passes = moved_passes W labels there G.moves

  pub ok : Accepted p
  ok = passes.0.accepted

  here_place : is_place p here ≡ true
  here_place = passes.0.stands.place

  there-place : is_place p there ≡ true
  there-place = passes.1.joins.to

  -- the present place is kept
  holds : holds_place (shape g) w.present ≡ true
  holds =
      ⊎_elim (λ t. t)
      (λ f. absurd (no-empty p ok.has_start.some_block
      (subst (λ (s : Simplex). is_place p s ≡ true) (not_held (shape g) w.present f) here_place)))
      (true_or_false (holds_place (shape g) w.present))

  held_so : (1 ≤ w.present.count) × (w.present.count ≤ 16) ×
      (w.present ≡ kept_as (num_indices (shape g)) w.present.first w.present.order (pred w.present.count))
  held_so = held-parts (shape g) w.present holds

  pub some-present : 1 ≤ w.present.count
  some-present = held_so.0

  pub place-present : (n : ℕ) → n ≡ pred w.present.count → CanPlace g w n
  place-present n e = record {
    made = made;
    start = ok.has_start.start;
    few = omega (arith, held_so.0, held_so.1);
  }

  here-is : (n : ℕ) → n ≡ pred w.present.count → here ≡ kept_points (shape g) (take g.indices w.present.first)
      (take n w.present.order)
  here-is n e = held (shape g) w.present holds ∙ rw (e, made-indices g made)

  -- and so is the next
  abbrev y : Point
  y = first_or [] there

  abbrev o : List ℕ
  o = order (shape g) there

  there-is : kept_points (shape g) y o ≡ there
  there-is = kept_every ok.has_start there there-place

  there-kept : is_place p (kept_points (shape g) y o) ≡ true
  there-kept = rw there-is there-place

  there-long : length there ≡ suc (length o)
  there-long = place-long ok.has_start there there-place

  o-few : length o ≤ 15
  o-few = omega (arith, order-short p there there-place, ok.has_start.sixteen_indices, ok.has_start.some_block)

  y_long : length y ≡ num_indices (shape g)
  y_long = grid-long p y (meets p y o there-kept).on_grid

  next-count : next.count ≡ suc (length o)
  unfolding stored
  next-count = ap (λ (b : Place). b.count) G.place ∙ there-long

  next-first : next.first ≡ padded 16 y
  unfolding stored
  next-first = ap (λ (b : Place). b.first) G.place

  next-order : next.order ≡ padded 16 o
  unfolding stored
  next-order = ap (λ (b : Place). b.order) G.place

  pub some_next : 1 ≤ next.count
  some_next = omega (arith, next-count)

  pub place-next : (k : ℕ) → k ≡ pred next.count → CanPlace g w k
  place-next k e = record { made = made; start = ok.has_start.start; few = omega (arith, next-count, o-few) }

  first_taken : take g.indices next.first ≡ y
  first_taken = ap (take g.indices) next-first ∙ padded_taken g.indices y (y_long ∙ sym (made-indices g made))

  order_taken : (k : ℕ) → k ≡ pred next.count → take k next.order ≡ o
  order_taken k e = ap (take k) next-order ∙ padded_taken k o (omega (arith, next-count))

  -- the present place is held
  module _ (n : ℕ) (is-n : n ≡ pred w.present.count) (a : Held)
      (is-here : (a.first ≡ w.present.first) × (a.order ≡ w.present.order)) where
    abbrev z : Point
    z = take g.indices a.first

    abbrev r : List ℕ
    r = take n a.order

    abbrev from : Simplex
    from = kept_points (shape g) z r

    from-is : from ≡ here
    from-is = ap (λ (first : List ℕ). kept_points (shape g) (take g.indices first) r) is-here.0
        ∙ ap (λ (order : List ℕ). kept_points (shape g) (take g.indices w.present.first) (take n order)) is-here.1
        ∙ sym (here-is n is-n)

    here-kept : is_place p from ≡ true
    here-kept = subst (λ (s : Simplex). is_place p s ≡ true) (sym from-is) here_place

    pub present-kept : is_kept p z r ≡ false → ⊥
    present-kept = place-kept p ok z r here-kept

    r_long : length r ≡ n
    r_long = length-take n a.order ∙ omega (arith, a.order_long, (place-present n is-n).few)

    from-long : length from ≡ suc n
    from-long = place-long ok.has_start from here-kept ∙ ap (λ (x : List ℕ). suc (length x)) (order_is p z r here-kept)
        ∙ ap suc r_long

  -- and so is the next
  module _ (k : ℕ) (is-k : k ≡ pred next.count) (b : Held)
      (is-there : (b.first ≡ next.first) × (b.order ≡ next.order)) where
    z_is : take g.indices b.first ≡ y
    z_is = ap (take g.indices) is-there.0 ∙ first_taken

    r_is : take k b.order ≡ o
    r_is = ap (take k) is-there.1 ∙ order_taken k is-k

    pub next-kept : is_kept p (take g.indices b.first) (take k b.order) ≡ false → ⊥
    next-kept f = place-kept p ok y o there-kept (rw (z_is, r_is) at f)

  -- what is told of both
  pub both_marked : (n k : ℕ) (is-n : n ≡ pred w.present.count) (is-k : k ≡ pred next.count) (a b : Held)
      → (a.first ≡ w.present.first) × (a.order ≡ w.present.order) → (b.first ≡ next.first) × (b.order ≡ next.order)
      → {s s2 : Sets} → Seen p (bare_mark (shape g)) (take g.indices a.first) (take n a.order) a s.t s.u
      → Seen p (bare_mark (shape g)) (take g.indices b.first) (take k b.order) b s2.t s2.u
      → BothMarked p here there (record {
        from = a.marks;
        n = n;
        t = s.t;
        u = s.u;
        onto = b.marks;
        k = k;
        t2 = s2.t;
        u2 = s2.u;
      })
  both_marked n k is-n is-k a b is-here is-there {s} {s2} S next_seen =
      let R : Seen p (bare_mark (shape g)) y o b s2.t s2.u =
      rw (z_is k is-k b is-there, r_is k is-k b is-there) at next_seen in
      let k_is : k ≡ length o = omega (arith, next-count) in
      let x = z n is-n a is-here in
      let q = r n is-n a is-here in
      let kept = here-kept n is-n a is-here in
      let same = from-is n is-n a is-here in
      let long = r_long n is-n a is-here in
      record {
        few = (place-present n is-n).few;
        from_long = S.marks_long;
        from = marks-are (bare_mark (shape g)) (kept_points (shape g) x q) n a.marks (from-long n is-n a is-here)
            (omega (arith, S.marks_long, (place-present n is-n).few)) (λ j l. S.marked j (omega (arith, long)))
            ∙ ap (map (bare_mark (shape g))) same;
        in_t = λ k l. S.in_t k l ∙ T-is p x q kept k ∙ ap (λ (s : Simplex). is_in eqb k (set_t p s)) same;
        in_u = λ k l. S.in_u k l ∙ U-is p x q kept k ∙ ap (λ (s : Simplex). is_in eqb k (set_u (shape g) s)) same;
        few_next = (place-next k is-k).few;
        onto_long = R.marks_long;
        onto = marks-are (bare_mark (shape g)) (kept_points (shape g) y o) k b.marks
            (ap length there-is ∙ there-long ∙ ap suc (sym k_is)) (omega (arith, R.marks_long, k_is, o-few))
            (λ j l. R.marked j (omega (arith, k_is)))
            ∙ ap (map (bare_mark (shape g))) there-is;
        next_t = λ k l. R.in_t k l ∙ T-is p y o there-kept k ∙ ap (λ (s : Simplex). is_in eqb k (set_t p s)) there-is;
        next_u = λ k l. R.in_u k l ∙ U-is p y o there-kept k ∙ ap (λ (s : Simplex). is_in eqb k (set_u (shape g) s))
            there-is;
      }

  -- the points of both are on the grid
  pub on-here : all (is_grid_point (shape g)) here ≡ true
  on-here = (parts p here here_place).grid_points

  pub on-there : all (is_grid_point (shape g)) there ≡ true
  on-there = (parts p there there-place).grid_points
