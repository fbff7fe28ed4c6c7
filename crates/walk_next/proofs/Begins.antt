-- The first tests of a call: the places so far, and how the present place is kept. Assumes nothing.
use mathlib.Core.Bool.{true, false, ◌&&◌}
use mathlib.Core.List.{List}
use mathlib.Core.Logic.{inl, inr, ⊎_elim}
use mathlib.Core.Path.{◌≡◌, sym, ◌∙◌}
use Prim.Native.Nat.{ℕ, pred, ◌≤◌, ◌<◌}
use borrow.Author.Tests.{le-leb, leb-true}
use lib.Dec.{leb}
use native.Mathlib.Omega.{arith}
use Rattle.combinatorics.proofs.Basics.{absurd_bool, and_both, and_left, and_right, before_or_not, false_of}
use Rattle.combinatorics.proofs.Basics.{true_or_false}
use Rattle.grid.proofs.Fields.{made-indices}
use Rattle.grid_points.specs.Grid.{bound}
use Rattle.grid.specs.Made.{IsMade, shape}
use Rattle.grid.specs.declared.Grid.{Grid as GridStruct}
use Rattle.place.specs.Questions.{table_questions}
use Rattle.path_laws.proofs.Accepted.{accepted_of}
use Rattle.path_laws.proofs.IndexSets.{no-empty}
use Rattle.path_laws.specs.Demand.{Accepted}
use Rattle.questions.specs.Questions.{first_no}
use Rattle.walks.specs.Next.{next_of, refused}
use Rattle.walk_ways.proofs.ComesNext.{no-count, no_place, no_read}
use Rattle.walk_places.proofs.Held.{held, held-parts, not_held}
use Rattle.walk_next.specs.Standing.{counts_in_range, CanStand}
use Rattle.walk_places.specs.Walks.{holds_numbers, holds_place, kept_as, same_place, table_on, walk_on}
use Rattle.walk_places.specs.declared.Place.{Place}
use Rattle.walk_places.specs.declared.Walk.{Walk as WalkStruct}

module _ (g : GridStruct) (w : WalkStruct) (labels : List ℕ) (made : IsMade g)
    (asked : first_no (table_questions (table_on g w labels)) ≡ 0) where
  ok : Accepted (table_on g w labels)
  ok = accepted_of (table_on g w labels) asked

  bound_passed : (leb 1 w.places && leb w.places (bound (shape g))) ≡ false → next_of (walk_on (shape g) w) labels
      ≡ refused 20
  bound_passed f = no-count (walk_on (shape g) w) labels ok
      (⊎_elim (λ (l : w.places < 1). inl (omega arith))
      (λ (l : 1 ≤ w.places). ⊎_elim (λ (m : bound (shape g) < w.places). inr m)
      (λ (m : w.places ≤ bound (shape g)). absurd_bool
      (sym (and_both _ _ (le-leb 1 w.places l) (le-leb w.places (bound (shape g)) m)) ∙ f))
      (before_or_not (bound (shape g)) w.places))
      (before_or_not w.places 1))

  read_passed : (leb 1 w.labels_read && leb w.labels_read w.places) ≡ false → next_of (walk_on (shape g) w)
      labels ≡ refused 20
  read_passed f = no_read (walk_on (shape g) w) labels ok
      (⊎_elim (λ (l : w.labels_read < 1). inl (omega arith))
      (λ (l : 1 ≤ w.labels_read). ⊎_elim (λ (m : w.places < w.labels_read). inr m)
      (λ (m : w.labels_read ≤ w.places). absurd_bool
      (sym (and_both _ _ (le-leb 1 w.labels_read l) (le-leb w.labels_read w.places m)) ∙ f))
      (before_or_not w.places w.labels_read))
      (before_or_not w.labels_read 1))

  pub out_of_range : counts_in_range (shape g) w.places w.labels_read ≡ false → next_of (walk_on (shape g) w) labels
      ≡ refused 20
  out_of_range f = ⊎_elim (λ t. read_passed (rw t at f)) (λ n. bound_passed n)
      (true_or_false (leb 1 w.places && leb w.places (bound (shape g))))

  pub not_kept_so : holds_place (shape g) w.present ≡ false → next_of (walk_on (shape g) w) labels ≡ refused 20
  not_kept_so f = no_place (walk_on (shape g) w) labels ok
      (false_of _ (λ h. no-empty (table_on g w labels) ok.has_start.some_block
      (rw (not_held (shape g) w.present f) at h)))

  pub kept_rightly : holds_numbers g.indices w.present ≡ true
      → counts_in_range (shape g) w.places w.labels_read ≡ true → (n : ℕ) → n ≡ pred w.present.count
      → CanStand g w labels n
  kept_rightly t range n is =
      let h : holds_place (shape g) w.present ≡ true = rw (← (made-indices g made)) t in
      let k = held-parts (shape g) w.present h in
      let a = leb 1 w.places in let b = leb w.places (bound (shape g)) in let c = leb 1 w.labels_read in
      let d = leb w.labels_read w.places in
      let ab = and_left (a && b) (c && d) range in let cd = and_right (a && b) (c && d) range in
      record {
        made = made;
        asked = asked;
        few = omega (arith, is, k.0, k.1);
        present = held (shape g) w.present h ∙ rw (is, made-indices g made);
        count = omega (arith, is, k.0);
        some = leb-true 1 _ (and_left a b ab);
        most = leb-true _ _ (and_right a b ab);
        read = leb-true 1 _ (and_left c d cd);
        read_few = leb-true _ _ (and_right c d cd);
      }

  pub kept_wrongly : holds_numbers g.indices w.present ≡ false → next_of (walk_on (shape g) w) labels ≡ refused 20
  kept_wrongly f = not_kept_so (rw (← (made-indices g made)) f)

pub count-some : (m : ℕ) (b : Place) → holds_numbers m b ≡ true → 1 ≤ b.count
count-some m b e = leb-true 1 _ (and_left (leb 1 b.count) (leb b.count 16)
    (and_left (leb 1 b.count && leb b.count 16) (same_place b (kept_as m b.first b.order (pred b.count)))
    e))
