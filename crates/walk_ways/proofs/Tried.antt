-- What a move leaves in its arrays is the way that it makes. Assumes nothing.
use mathlib.Core.List.{List, [], ◌∷◌}
use mathlib.Core.Path.{◌≡◌, refl, sym, ap, ◌∙◌}
use Prim.Native.Nat.{ℕ, zero, suc, ◌+◌, ◌≤◌}
use lib.ListN.{length, take, length-take}
use native.Mathlib.Omega.{arith}
use Rattle.moves.specs.Held.{answered, state_of}
use Rattle.arrays.specs.declared.holding.Held.{Held}
use Rattle.moves.specs.declared.Outcome.{Outcome}
use Rattle.moves.specs.declared.Outcome.TheVariants.{FacetEnd, Moved, PlaceEnd}
use Rattle.moves.specs.declared.Status.{Status}
use Rattle.rules.specs.Moves.{State, goes, make_move}
use Rattle.rules.specs.declared.Round.{Round}
use Rattle.combinatorics.specs.Front.{padded}
use Rattle.walk_places.specs.Walks.{kept_as, nowhere}
use Rattle.walk_ways.specs.Ways.{CanTry, way_in}
use Rattle.walk_ways.specs.declared.Leads.{Leads}
use Rattle.walk_ways.specs.declared.Leads.TheVariants.{FacetEnd as ToFacet, Onto, PlaceEnd as ToPlace}
use Rattle.walk_places.specs.declared.Place.{Place}
use Rattle.walk_ways.specs.declared.Move.{Move}

abbrev made : Leads → Place → Move
made leads place = record { leads = leads; place = place }

module _ (m : ℕ) (round : Round) (held : Held) (s : Status) {a : State} {o : Outcome}
    (H : answered round held s o ≡ make_move a) (C : CanTry a) where
  module _ {r : Status} (is : o ≡ Moved r) where
    after : goes (state_of round held r) ≡ make_move a
    after = rw is at H

    pub few : r.count ≤ 15
    few = omega (
      arith,
      C.short (state_of round held r) (sym after),
      length-take r.count held.order,
      held.order_long,
    )

    long : length (take r.count held.order) ≡ r.count
    long = length-take r.count held.order ∙ omega (arith, few, held.order_long)

    pub way_moved : made (Onto r.rule) (kept_as m held.first held.order r.count)
        ≡ way_in m (make_move a)
    way_moved = rw (← after, long) (ap
        (λ (l : List ℕ). made (Onto r.rule) (kept_with l))
        (sym (take_again r.count held.order)))
      where
        kept_with : List ℕ → Place
        kept_with l = record { first = padded 16 (take m held.first); order = padded 16 l; count = r.count + 1 }

        take_again : (n : ℕ) (l : List ℕ) → take n (take n l) ≡ take n l
        take_again zero l = refl
        take_again (suc n) [] = refl
        take_again (suc n) (x ∷ l) = ap (λ (y : List ℕ). x ∷ y) (take_again n l)

  pub way_place : {h : ℕ} → o ≡ PlaceEnd h → made (ToPlace h) nowhere ≡ way_in m (make_move a)
  way_place is = rw (← (rw is at H))

  pub way_facet : {h : ℕ} → o ≡ FacetEnd h → made (ToFacet h) nowhere ≡ way_in m (make_move a)
  way_facet is = rw (← (rw is at H))
