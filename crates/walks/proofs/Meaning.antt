-- What the questions of a call ask, in parts: a walk that is not refused, where it came from, and that it has exactly
-- one way on. Assumes nothing.
use mathlib.Core.Bool.{Bool, true, false, ◌&&◌}
use mathlib.Core.List.{List, [], ◌∷◌}
use mathlib.Core.Option.{Option, none, some}
use mathlib.Core.Path.{◌≡◌, refl, sym, ◌∙◌}
use Prim.Native.Nat.{ℕ, ◌≤◌}
use borrow.Author.Tests.{eqb-true, leb-true, le-leb}
use lib.Dec.{eqb, leb}
use lib.ListN.{length}
use native.Mathlib.Omega.{arith}
use Rattle.combinatorics.proofs.Basics.{absurd_bool, and_both, and_left, and_right, false_of}
use Rattle.combinatorics.proofs.Lists.{eqb_self, same_self, same_sound}
use Rattle.combinatorics.specs.Lists.{same}
use Rattle.grid_points.specs.Grid.{bound}
use Rattle.place.specs.Links.{linked}
use Rattle.place.specs.Path.{ways_on}
use Rattle.place.specs.Places.{Simplex, is_place, all_labelled}
use Rattle.place.specs.Problem.{Problem}
use Rattle.place.specs.Questions.{table_questions}
use Rattle.path_laws.proofs.Accepted.{accepted_of, accepted-is, accepted-table}
use Rattle.path_laws.proofs.FromTwoWays.{one-from-start, one_from}
use Rattle.path_laws.proofs.PathSteps.{Link}
use Rattle.path_laws.proofs.Simplices.{simplex_sound, simplex_self}
use Rattle.path_laws.proofs.Theorem.{two_ways}
use Rattle.path_laws.specs.Demand.{Accepted}
use Rattle.questions.proofs.Answers.{both_yes, first-yes, asked-next}
use Rattle.questions.specs.Questions.{first_no, ask}
use Rattle.walks.specs.Walk.{Walk, labels_of, over, came_by_link, is_start, has_none, both_or_neither, is_walk}
use Rattle.walks.specs.Walk.{walk_questions}

-- a walk stands at {v} with none before it, or elsewhere with one before it
pub data Came (p : Problem) : Option Simplex → Simplex → Type 0 where
  begins : Came p none (p.start ∷ [])
  came : {a s : Simplex} → Link p a s → (s ≡ p.start ∷ [] → ⊥) → Came p (some a) s

-- the conditions of question 20
pub record Stands (p : Problem) (w : Walk) : Type 0 where
  pub place : is_place p w.present ≡ true
  pub came : Came p w.before w.present
  pub some : 1 ≤ w.places
  pub bounded : w.places ≤ bound p.grid
  pub carries : w.carried ≡ labels_of p w.present
  pub read : 1 ≤ w.read
  pub read_few : w.read ≤ w.places

with_none : (a : Bool) → both_or_neither a true ≡ true → a ≡ true
with_none true e = refl
with_none false e = e

with_one : (a : Bool) → both_or_neither a false ≡ true → a ≡ false
with_one true e = sym e
with_one false e = refl

start_is : (p : Problem) (s : Simplex) → is_start p s ≡ false → s ≡ p.start ∷ [] → ⊥
start_is p s f q = absurd_bool (sym (simplex_self (p.start ∷ [])) ∙ rw q at f)

module _ (p : Problem) where
  came_of : (l : Option Simplex) (s : Simplex) → is_place p s ≡ true → came_by_link p l s ≡ true
      → both_or_neither (is_start p s) (has_none l) ≡ true → Came p l s
  came_of none s h c e = rw (simplex_sound s (p.start ∷ []) (with_none (is_start p s) e)) begins
  came_of (some a) s h c e = came
      (record { from = and_left (is_place p a) (linked p a s) c; to = h; by = and_right (is_place p a) (linked p a s) c })
      (start_is p s (with_one (is_start p s) e))

  of_came : {l : Option Simplex} {s : Simplex} → Came p l s
      → (came_by_link p l s ≡ true) × (both_or_neither (is_start p s) (has_none l) ≡ true)
  of_came begins = (refl, rw (simplex_self (p.start ∷ [])))
  of_came (came {a} {s} k ne) =
      let f : is_start p s ≡ false = false_of _ (λ e. ne (simplex_sound s (p.start ∷ []) e)) in
      (and_both _ _ k.from k.by, rw f)

  pub stands_of : (w : Walk) → is_walk p w ≡ true → Stands p w
  unfolding is_walk
  stands_of w h =
      let a : Bool = is_place p w.present in
      let b : Bool = came_by_link p w.before w.present in
      let c : Bool = both_or_neither (is_start p w.present) (has_none w.before) in
      let d : Bool = leb 1 w.places in let e : Bool = leb w.places (bound p.grid) in
      let x : Bool = same eqb w.carried (labels_of p w.present) in
      let y : Bool = leb 1 w.read in let z : Bool = leb w.read w.places in
      let u : (a && b && c && (d && e) && x) ≡ true = and_left (a && b && c && (d && e) && x) (y && z) h in
      let v : (y && z) ≡ true = and_right (a && b && c && (d && e) && x) (y && z) h in
      let f : (a && b && c && (d && e)) ≡ true = and_left (a && b && c && (d && e)) x u in
      let k : (a && b && c) ≡ true = and_left (a && b && c) (d && e) f in
      let l : (d && e) ≡ true = and_right (a && b && c) (d && e) f in
      let m : (a && b) ≡ true = and_left (a && b) c k in
      record {
        place = and_left a b m;
        came = came_of w.before w.present (and_left a b m) (and_right a b m) (and_right (a && b) c k);
        some = leb-true 1 _ (and_left d e l);
        bounded = leb-true _ _ (and_right d e l);
        carries = same_sound eqb eqb-true _ _ (and_right (a && b && c && (d && e)) x u);
        read = leb-true 1 _ (and_left y z v);
        read_few = leb-true _ _ (and_right y z v);
      }

  pub of_stands : (w : Walk) → Stands p w → is_walk p w ≡ true
  unfolding is_walk
  of_stands w k =
      let c = of_came k.came in
      let places = and_both _ _ (le-leb 1 _ k.some) (le-leb _ _ k.bounded) in
      let read = and_both _ _ (le-leb 1 _ k.read) (le-leb _ _ k.read_few) in
      let carried : same eqb w.carried (labels_of p w.present) ≡ true =
      rw k.carries (same_self eqb eqb_self (labels_of p w.present)) in
      and_both _ _ (and_both _ _ (and_both _ _ (and_both _ _ (and_both _ _ k.place c.0) c.1) places) carried) read

-- a walk that is not refused
pub record Passes (w : Walk) (labels : List ℕ) : Type 0 where
  pub accepted : Accepted (over w labels)
  pub stands : Stands (over w labels) w
  pub known : all_labelled (over w labels) w.present ≡ true

module _ (w : Walk) (labels : List ℕ) where
  abbrev p : Problem
  p = over w labels

  pub passes_of : first_no (walk_questions w labels) ≡ 0 → Passes w labels
  passes_of e =
      let parts = both_yes (table_questions p) (ask 20 (is_walk p w) ∷ ask 16 (all_labelled p w.present) ∷ []) refl e in
      let q20 = first-yes (ask 20 (is_walk p w)) (ask 16 (all_labelled p w.present) ∷ []) (omega arith) parts.1 in
      let q16 = first-yes (ask 16 (all_labelled p w.present)) [] (omega arith) q20.1 in
      record { accepted = accepted_of p parts.0; stands = stands_of p w q20.0; known = q16.0 }

  -- behind questions 1 to 7
  pub behind_seven : Accepted p
      → first_no (walk_questions w labels) ≡ first_no (ask 20 (is_walk p w) ∷ ask 16 (all_labelled p w.present) ∷ [])
  behind_seven ok =
      asked-next (table_questions p) (ask 20 (is_walk p w) ∷ ask 16 (all_labelled p w.present) ∷ []) refl (accepted-is ok)

  pub of_passes : Passes w labels → first_no (walk_questions w labels) ≡ 0
  unfolding first_no
  of_passes k = behind_seven k.accepted ∙ rw (of_stands p w k.stands, k.known)

  pub meets_20 : Accepted p → is_walk p w ≡ false → first_no (walk_questions w labels) ≡ 20
  unfolding first_no
  meets_20 ok f = behind_seven ok ∙ rw f

  pub meets_16 : Accepted p → Stands p w → all_labelled p w.present ≡ false → first_no (walk_questions w labels) ≡ 16
  unfolding first_no
  meets_16 ok k f = behind_seven ok ∙ rw (of_stands p w k, f)

  -- exactly one way on
  pub one_way_on : Passes w labels → length (ways_on p w.before w.present) ≡ 1
  one_way_on k = go k.stands.came k.known
    where
      go : {l : Option Simplex} {s : Simplex} → Came p l s → all_labelled p s ≡ true → length (ways_on p l s) ≡ 1
      go begins own = one-from-start (accepted-table k.accepted) (two_ways k.accepted.has_start) own
      go (came {a} {s} j ne) own = one_from (accepted-table k.accepted) (two_ways k.accepted.has_start) a s j own ne
