-- What comes next by what a call sees: the place before, whether a label is not yet known, and where the two moves
-- lead. Assumes nothing.
use mathlib.Core.Bool.{Bool, true, false}
use mathlib.Core.List.{List, [], ◌∷◌}
use mathlib.Core.Logic.{⊎_elim}
use mathlib.Core.Option.{Option, none, some}
use mathlib.Core.Path.{◌≡◌, refl, sym, ap, ◌∙◌}
use Prim.Native.Nat.{ℕ, suc, ◌≤◌}
use borrow.Author.Tests.{eqb-true, eq-eqb}
use lib.ListN.{length, get_or}
use native.Mathlib.Omega.{arith}
use Rattle.combinatorics.proofs.Basics.{absurd_bool, same_or}
use Rattle.combinatorics.proofs.Lists.{all_in, in_all}
use Rattle.grid_points.proofs.Points.{on_points}
use Rattle.grid_points.specs.Grid.{is_grid_point}
use Rattle.grid.specs.Made.{shape}
use Rattle.grid.specs.declared.Grid.{Grid as GridStruct}
use Rattle.place.specs.Places.{Simplex, all_labelled}
use Rattle.place.specs.Problem.{has_label, label}
use Rattle.path_laws.proofs.Accepted.{accepted-table}
use Rattle.path_laws.proofs.Labels.{label_ok}
use Rattle.path_laws.proofs.LinkSymmetry.{parts}
use Rattle.path_laws.proofs.Positions.{in_at}
use Rattle.rules.specs.Moves.{State, make_move}
use Rattle.walks.specs.Kept.{kept_points}
use Rattle.walks.specs.Next.{by_way, next_of, refused}
use Rattle.walks.specs.Walk.{Walk}
use Rattle.walk_ways.proofs.Carried.{points-long}
use Rattle.walk_ways.proofs.ComesNext.{back-unknown, from_v, neither, not_back_unknown, onward_a, onward_b}
use Rattle.walk_ways.proofs.ComesNext.{start_with_one}
use Rattle.walk_ways.proofs.ComesNext.{unknown_v, without_one}
use Rattle.walk_ways.specs.Lent.{way_made}
use Rattle.walk_ways.proofs.Chosen.{leads_elsewhere, leads_there, lent, long-o, o, ok, only-unknown, p, q}
use Rattle.walk_ways.proofs.Chosen.{state_as, tried_back, tried_on, y}
use Rattle.walk_ways.specs.Standing.{IsRoundOf, Standing, leads_back}
use Rattle.walk_places.specs.Walks.{before_of, nowhere, place_of, same_place, walk_on}
use Rattle.walk_ways.specs.Ways.{way_in}
use Rattle.walk_places.specs.declared.Walk.{Walk as WalkStruct}
use Rattle.arrays.specs.declared.holding.Held.{Held}
use Rattle.moves.specs.declared.Status.{Status}
use Rattle.rules.specs.declared.Round.{Round}

module _ {g : GridStruct} {w : WalkStruct} {labels : List ℕ} {held : Held} {here : Status} {unknown : Bool}
    (S : Standing g w labels held here unknown) where
  abbrev s : Simplex
  s = kept_points (shape g) (y S) (o S)

  abbrev walk : Walk
  walk = walk_on (shape g) w

  known-all : unknown ≡ false → all_labelled (p S) s ≡ true
  known-all f = in_all on_points (has_label (p S)) s (λ z m.
      let j = in_at on_points [] z s m in
      let jl : j.0 ≤ here.count = omega (arith, j.1, points-long (ok S) (y S) (o S) S.place, long-o S) in
      label_ok (accepted-table (ok S)) z
      (all_in on_points (is_grid_point (shape g)) s (parts (p S) s S.place).grid_points z m)
      (⊎_elim (λ (e : label (p S) z ≡ 0). absurd_bool
      (sym (S.unknown_is ∙ eq-eqb _ 0 (at-point j.0 jl (ap (label (p S)) j.2 ∙ e))) ∙ f))
      (λ (e : label (p S) z ≡ 0 → ⊥). omega (arith, e)) (same_or (label (p S) z) 0)))
    where
      at-point : (j : ℕ) → j ≤ here.count → label (p S) (get_or s j []) ≡ 0 → label (p S) (get_or s here.active []) ≡ 0
      at-point j l e = ap (λ (i : ℕ). label (p S) (get_or s i [])) (sym (only-unknown S j l e)) ∙ e

  unknown-label : unknown ≡ true → label (p S) (get_or s here.active []) ≡ 0
  unknown-label f = eqb-true _ 0 (sym S.unknown_is ∙ f)

  -- {v}
  module _ (e : here.count ≡ 0) where
    pub start_20 : same_place w.before nowhere ≡ false → next_of walk labels ≡ refused 20
    start_20 f = start_with_one walk labels (ok S) (y S) (o S) S.present S.place S.counted
        (place_of (shape g) w.before) (long-o S ∙ e) (rw f)

    pub start_16 : same_place w.before nowhere ≡ true → unknown ≡ true → next_of walk labels ≡ refused 16
    start_16 f v =
        let z : here.active ≡ 0 = omega (arith, S.low) in
        unknown_v walk labels (ok S) (y S) (o S) S.present S.place S.counted (long-o S ∙ e) (rw f)
        (ap (λ (i : ℕ). label (p S) (get_or s i [])) (sym z) ∙ unknown-label v)

    pub start-on : {round : Round} (N : IsRoundOf g round) → same_place w.before nowhere
        ≡ true → unknown ≡ false
        → next_of walk labels ≡ by_way (way_made (q S N) (make_move (state_as S N here.rule)) ∷ [])
    start-on N f v = from_v walk labels (ok S) (y S) (o S) S.present S.place S.counted (known-all v) (long-o S ∙ e)
        (rw f) (state_as S N here.rule) (lent S N here.rule) (omega (arith, S.low)) (omega arith)

  -- any other place
  module _ {k : ℕ} (e : here.count ≡ suc k) {round : Round} (N : IsRoundOf g round)
      (long : length w.before.order ≡ 16) where
    low : here.active ≤ suc k
    low = omega (arith, S.low)

    abbrev leaving : State
    leaving = state_as S N 6

    abbrev staying : State
    staying = state_as S N here.rule

    abbrev pub back : ℕ → Bool
    back rule = leads_back (way_in g.indices (make_move (state_as S N rule))) w.before

    pub other_16 : back 6 ≡ true → unknown ≡ true → next_of walk labels ≡ refused 16
    other_16 z v = let f = leads_there S N 6 (tried_back S N e 6 (omega arith)) long z in
        back-unknown walk labels (ok S) (y S) (o S) S.present S.place S.counted k (long-o S ∙ e) here.active low S.spare
        f.0 f.1 staying leaving (lent S N here.rule) (lent S N 6) refl refl
        (omega arith) (omega arith) (unknown-label v) f.2

    pub other-on : back 6 ≡ true → unknown ≡ false → next_of walk labels ≡ by_way
        (way_made (q S N) (make_move staying) ∷ [])
    other-on z v = let f = leads_there S N 6 (tried_back S N e 6 (omega arith)) long z in
        onward_a walk labels (ok S) (y S) (o S) S.present S.place S.counted k (long-o S ∙ e) here.active low S.spare f.0
        f.1 staying leaving (lent S N here.rule) (lent S N 6) refl refl
        (omega arith) (omega arith) (known-all v) f.2

    pub other-back : back here.rule ≡ true → unknown ≡ false → next_of walk labels ≡ by_way
        (way_made (q S N) (make_move leaving) ∷ [])
    other-back z v = let f = leads_there S N here.rule (tried_on S N e here.rule S.came_in) long z in
        onward_b walk labels (ok S) (y S) (o S) S.present S.place S.counted k (long-o S ∙ e) here.active low S.spare f.0
        f.1 staying leaving (lent S N here.rule) (lent S N 6) refl refl
        (omega arith) (omega arith) (known-all v) f.2

    -- none before, or a place to which neither move leads
    without : (before : Option Simplex) → before_of (shape g) w.before ≡ before →
        ((b : Simplex) → before_of (shape g) w.before ≡ some b → next_of walk labels ≡ refused 20)
        → next_of walk labels ≡ refused 20
    without none z h = without_one walk labels (ok S) (y S) (o S) S.present S.place S.counted k (long-o S ∙ e)
        here.active low S.spare z
    without (some b) z h = h b z

    pub other_20_unknown : back 6 ≡ false → unknown ≡ true → next_of walk labels ≡ refused 20
    other_20_unknown z v = without (before_of (shape g) w.before) refl (λ b before.
        not_back_unknown walk labels (ok S) (y S) (o S) S.present S.place S.counted k (long-o S ∙ e)
        here.active low S.spare b before staying leaving (lent S N here.rule) (lent S N 6) refl refl
        (omega arith) (omega arith) (unknown-label v)
        (leads_elsewhere S N 6 (tried_back S N e 6 (omega arith)) long z b before))

    pub other_20 : back 6 ≡ false → back here.rule ≡ false → unknown ≡ false → next_of walk labels ≡ refused 20
    other_20 z x v = without (before_of (shape g) w.before) refl (λ b before.
        neither walk labels (ok S) (y S) (o S) S.present S.place S.counted k (long-o S ∙ e)
        here.active low S.spare b before staying leaving (lent S N here.rule) (lent S N 6) refl refl
        (omega arith) (omega arith) (known-all v) (leads_elsewhere S N here.rule (tried_on S N e here.rule S.came_in)
        long x b before)
        (leads_elsewhere S N 6 (tried_back S N e 6 (omega arith)) long z b before))
