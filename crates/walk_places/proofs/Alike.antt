-- When two places are kept alike: exactly if their structs are the same. Assumes nothing.
use mathlib.Core.Bool.{true, ◌&&◌}
use mathlib.Core.List.{List}
use mathlib.Core.Path.{◌≡◌}
use Prim.Native.Nat.{ℕ}
use borrow.Author.Tests.{eqb-true}
use lib.Dec.{eqb}
use Rattle.combinatorics.proofs.Basics.{and_both, and_left, and_right}
use Rattle.combinatorics.proofs.Lists.{eqb_self, same_self, same_sound}
use Rattle.combinatorics.specs.Lists.{same}
use Rattle.walk_places.specs.Walks.{same_place}
use Rattle.walk_places.specs.declared.Place.{Place}

pub same_place_lem : (a b : Place) → same_place a b ≡ true → a ≡ b
same_place_lem a b e =
    let x = eqb a.count b.count in
    let y = same eqb a.first b.first in
    let z = same eqb a.order b.order in
    let r = and_right x (y && z) e in
    let c : a.count ≡ b.count = eqb-true _ _ (and_left x (y && z) e) in
    let f : a.first ≡ b.first = same_sound eqb eqb-true a.first b.first (and_left y z r) in
    let o : a.order ≡ b.order = same_sound eqb eqb-true a.order b.order (and_right y z r) in
    let w : made a.first a.order a.count ≡ made b.first b.order b.count = rw (f, o, c) in
    w
  where
    made : List ℕ → List ℕ → ℕ → Place
    made first order count = record { first = first; order = order; count = count }

pub place_same : (a b : Place) → a ≡ b → same_place a b ≡ true
place_same a b e = rw e (and_both _ _ (eqb_self b.count)
    (and_both _ _ (same_self eqb eqb_self b.first) (same_self eqb eqb_self b.order)))
