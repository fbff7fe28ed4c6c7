-- The points of a place that is recognised, and the refusals before. Assumes nothing.
use mathlib.Core.Bool.{true, false}
use mathlib.Core.List.{List, [], ◌∷◌, map}
use mathlib.Core.Path.{◌≡◌, refl, sym, ap, ◌∙◌, subst}
use Prim.Native.Nat.{ℕ, zero, suc, pred, ◌-◌, ◌*◌, ◌≤◌, ◌<◌}
use borrow.Author.Tests.{ne_eqb}
use lib.ListN.{length, replicate, take, get_or, length-map, length-take}
use lib.Seq.{get_or-take}
use native.Mathlib.Nat.{le_trans, mul-le-mul_left, mul-le-mul_right}
use native.Mathlib.Omega.{arith}
use Rattle.combinatorics.proofs.Basics.{false_of}
use Rattle.combinatorics.specs.Front.{front, padded}
use Rattle.combinatorics.specs.Lists.{concat_map}
use Rattle.grid.proofs.Fields.{made-indices}
use Rattle.grid_points.specs.Grid.{Grid, Point, num_indices}
use Rattle.grid.specs.Made.{IsMade, shape}
use Rattle.grid.specs.declared.Grid.{Grid as GridStruct}
use Rattle.moves.specs.Held.{state_of, state_with}
use Rattle.moves.specs.Room.{CanPut}
use Rattle.arrays.specs.declared.holding.Held.{Held}
use Rattle.moves.specs.declared.Status.{Status}
use Rattle.place.specs.Places.{Simplex, is_place}
use Rattle.place.specs.Problem.{Problem}
use Rattle.place.specs.Questions.{table_questions}
use Rattle.path_laws.proofs.Filled.{filled_table, filled_full}
use Rattle.path_laws.proofs.ToChain.{points_of_coefficients_of}
use Rattle.path_laws.proofs.Accepted.{accepted_of, accepted-table}
use Rattle.path_laws.proofs.IndexSets.{no-empty}
use Rattle.path_laws.proofs.LinkSymmetry.{parts}
use Rattle.questions.proofs.Answers.{asked-next, asked-no}
use Rattle.questions.specs.Questions.{ask, first_no}
use Rattle.walk_recogniser.specs.declared.Sets.{Sets}
use Rattle.rules.proofs.StatePoints.{all-points, ready-point}
use Rattle.rules.specs.Read.{mark_of, numbers_from, points_from}
use Rattle.rules.specs.Moves.{State}
use Rattle.rules.specs.declared.Round.{Round}
use Rattle.walks.specs.Kept.{kept_points}
use Rattle.walks.specs.Walk.{over}
use Rattle.walk_next.proofs.Stood.{ok}
use Rattle.walk_places.specs.Placing.{CanSee}
use Rattle.walk_ways.proofs.Carried.{points-long}
use Rattle.walk_ways.proofs.Kept.{describes, full, place-filled}
use Rattle.walk_ways.specs.Lent.{LentPlace}
use Rattle.walk_views.specs.Viewed.{CanPoint, no_points, place_questions, points_at, points_on}
use Rattle.walk_views.specs.declared.PlacePoints.{PlacePoints}
use Rattle.walk_ways.specs.Standing.{IsRoundOf, points_kept}
use Rattle.walk_places.specs.Walks.{holds_numbers, holds_place, place_of, table_on, walk_on}
use Rattle.walk_places.proofs.Held.{held as held-place, held-parts, not_held}
use Rattle.walk_places.specs.declared.Walk.{Walk as WalkStruct}

abbrev pub points_by : ℕ → List ℕ → PlacePoints
points_by count numbers = record { code = 0; count = count; numbers = numbers }

-- refusals
module _ (g : Grid) (w : WalkStruct) (labels : List ℕ) where
  abbrev q : Problem
  q = over (walk_on g w) labels

  abbrev s : Simplex
  s = place_of g w.present

  pub points-refused : (k : ℕ) → (k ≡ 0 → ⊥) → first_no (table_questions q) ≡ k → no_points k ≡ points_on g w labels
  points-refused k ne e = let z = asked-no (table_questions q) (ask 20 (is_place q s) ∷ []) k ne e in
      rw (z, ne_eqb k 0 ne)

  module _ (asked : first_no (table_questions q) ≡ 0) where
    pub points_none : is_place q s ≡ false → no_points 20 ≡ points_on g w labels
    unfolding first_no
    points_none f = let z : first_no (place_questions q s) ≡ 20 = asked-next (table_questions q) (ask 20
        (is_place q s) ∷ []) refl asked ∙ (rw f) in rw z

    pub points-there : is_place q s ≡ true → points_at g w ≡ points_on g w labels
    unfolding first_no
    points-there t = let z : first_no (place_questions q s) ≡ 0 = asked-next (table_questions q) (ask 20
        (is_place q s) ∷ []) refl asked ∙ (rw t) in rw z

module _ {g : GridStruct} {w : WalkStruct} {labels : List ℕ} {held : Held} {n : ℕ} {sets : Sets}
    (C : CanPoint g w labels held n sets) {round : Round} (N : IsRoundOf g round) where
  abbrev p : Problem
  p = table_on g w labels

  abbrev y : Point
  y = take g.indices held.first

  abbrev o : List ℕ
  o = take n held.order

  abbrev here : Simplex
  here = kept_points (shape g) y o

  m_is : g.indices ≡ num_indices (shape g)
  m_is = made-indices g C.sees.made

  long-o : length o ≡ n
  long-o = length-take n held.order ∙ omega (arith, held.order_long, C.sees.few)

  abbrev status : Status
  status = record { rule = 1; count = n; t = sets.t; u = sets.u; active = 0 }

  abbrev filled : Problem
  filled = filled_table p

  abbrev markings : List ℕ
  markings = map (mark_of filled) here

  abbrev state : State
  state = state_with round held.first held.coefficients held.order markings status

  here-long : length here ≡ suc n
  here-long = points-long (ok C.sees) y o C.place ∙ ap suc long-o

  lent : LentPlace p filled y o state
  lent = record {
    round = N.0;
    order_is = refl;
    first_long = held.first_long;
    first_at = λ k l. sym (get_or-take g.indices held.first k 0 (omega (arith, m_is)));
    list_long = C.seen.list_long;
    list_at = C.seen.list_at;
    in_t = C.seen.in_t;
    in_u = C.seen.in_u;
    marks_long = length-take (suc n) markings ∙ omega (arith, length-map here (mark_of filled), here-long, long-o);
    marked = λ j l. get_or-take (suc n) markings j 0 (omega (arith, long-o))
        ∙ marked-at here j (omega (arith, here-long, long-o));
  }
    where
      marked-at : (r : Simplex) (j : ℕ) → j < length r
          → get_or (map (mark_of filled) r) j 0 ≡ mark_of filled (get_or r j [])
      marked-at [] j m = absurd (omega arith)
      marked-at (z ∷ r) zero m = refl
      marked-at (z ∷ r) (suc j) m = marked-at r j (omega arith)

  abbrev told : State
  told = state_of round held status

  pub can_put : CanPut told g.indices 0 256
  can_put = record {
    below = N.1.backward;
    first_length = held.first_long;
    points = ready-point (full (ok C.sees) y o C.place) (describes (ok C.sees) y o C.place state lent) (length o)
        (omega arith);
    short = omega (arith, m_is, (ok C.sees).has_start.sixteen_indices);
    low = omega (arith, long-o);
    fits = product (suc (length o) - 0) g.indices (omega (arith, long-o, C.sees.few))
        (omega (arith, m_is, (ok C.sees).has_start.sixteen_indices));
  }
    where
      product : (x m : ℕ) → x ≤ 16 → m ≤ 16 → x * m ≤ 256
      product x m a b = le_trans (mul-le-mul_left x b) (mul-le-mul_right 16 a)

  pub told_long : length told.order ≡ n
  told_long = long-o

  points-here : points_from filled state 0 ≡ here
  points-here =
      all-points (full (ok C.sees) y o C.place) (describes (ok C.sees) y o C.place state lent)
      ∙ points_of_coefficients_of (filled_full (accepted-table (ok C.sees))).has_start here
      (parts filled here (place-filled (ok C.sees) y o C.place)).grid_points

  numbers-here : numbers_from g.indices told 0 ≡ concat_map (λ y. y) here
  numbers-here = ap (λ (m : ℕ). numbers_from m told 0) m_is ∙ ap (concat_map (λ y. y)) points-here

  pub put_so : (count : ℕ) (numbers : List ℕ) → count ≡ suc (length told.order) - 0
      → numbers ≡ front (numbers_from g.indices told 0) (replicate 256 0)
      → points_by count numbers ≡ points_at (shape g) w
  unfolding points_at
  put_so count numbers e f =
      let c : count ≡ length (place_of (shape g) w.present) = omega (
        arith,
        e,
        long-o,
        here-long,
        ap length C.present,
      ) in
      let d : numbers ≡ padded 256 (concat_map (λ y. y) (place_of (shape g) w.present)) = f
      ∙ ap (λ (l : List ℕ). front l (replicate 256 0)) (numbers-here
      ∙ ap (concat_map (λ y. y)) (sym C.present)) in
      rw (c, d)

-- from a place that is kept rightly
module _ (g : GridStruct) (w : WalkStruct) (labels : List ℕ) (made : IsMade g) (asked : first_no (table_questions
    (table_on g w labels)) ≡ 0) where
  pub no-place-held : holds_numbers g.indices w.present ≡ false
      → is_place (table_on g w labels) (place_of (shape g) w.present) ≡ false
  no-place-held f = false_of _ (λ h. no-empty (table_on g w labels) (accepted_of
      (table_on g w labels) asked).has_start.some_block
      (subst (λ (s : Simplex). is_place (table_on g w labels) s ≡ true) (not_held (shape g) w.present (rw (←
      (made-indices g made)) f)) h))

  module _ (h : holds_numbers g.indices w.present ≡ true) (n : ℕ) (is : n ≡ pred w.present.count) where
    holds : holds_place (shape g) w.present ≡ true
    holds = rw (← (made-indices g made)) h

    pub view : CanSee g w labels n
    view = let k = held-parts (shape g) w.present holds in
        record { made = made; asked = asked; few = omega (arith, is, k.0, k.1) }

    pub present-is : (at : Held) → at.first ≡ w.present.first → at.order ≡ w.present.order
        → place_of (shape g) w.present ≡ points_kept g at.first at.order n
    present-is at first order = held-place (shape g) w.present holds ∙ rw (first, order, is, made-indices g made)
