-- The preview shows what the moving call does to a copy of the walk, and what it shows is the trail's record. Assumes
-- nothing.
use mathlib.Core.List.{List}
use mathlib.Core.Path.{◌≡◌, refl, sym, ap, ◌∙◌}
use Prim.Native.Nat.{ℕ}
use Rattle.combinatorics.proofs.Basics.{absurd_bool}
use Rattle.combinatorics.specs.Front.{front}
use Rattle.rules.specs.Mask.{bit}
use Rattle.trail.proofs.Rules.{recorded}
use Rattle.trail.specs.Change.{ByRule, Change, change, rule1, rule2, rule3, rule4, rule5, rule6, rule7}
use Rattle.trail.specs.Record.{record_by, record_of}
use Rattle.walks.proofs.Moved.{calls_hold}
use Rattle.walks.specs.Next.{Outcome, ended, moved, move_answer, move_walk, refused}
use Rattle.walks.specs.Preview.{Move, preview, seen}
use Rattle.walks.specs.Walk.{Walk, over}
use Rattle.walk_calls.proofs.OnStructs.{call_tells, walk-moves}
use Rattle.walk_calls.specs.Calls.{call_of}
use Rattle.walk_calls.specs.Claims.{told_by}
use Rattle.walk_calls.specs.declared.Told.{Told}
use Rattle.walk_places.specs.Walks.{walk_of}
use Rattle.walk_places.specs.declared.Walk.{Walk as WalkStruct}
use Rattle.walk_preview.specs.Changes.{changed_of}
use Rattle.walk_preview.specs.Claims.{PreviewShows, change_seen, record_shown, seen_as}
use Rattle.walk_preview.specs.Previews.{shown_as}
use Rattle.walk_preview.specs.declared.Change.{Change as ChangeStruct}
use Rattle.walk_preview.specs.declared.Shown.{Shown}
use Rattle.walk_ways.specs.declared.WalkAnswer.TheVariants.{Moved}

-- the fields of a rule, from the map and the numbers
record_of_lem : {c : Change} {r : ℕ} (m : ByRule c r) → record_shown (changed_of c) r ≡ record_by m
unfolding bit
record_of_lem (rule1 y z e) = ap (λ (d : Change). record_shown (changed_of d) 1) e
record_of_lem (rule2 y z h e) = ap (λ (d : Change). record_shown (changed_of d) 2) e
record_of_lem (rule3 y z h e) = ap (λ (d : Change). record_shown (changed_of d) 3) e
record_of_lem (rule4 y h e) = ap (λ (d : Change). record_shown (changed_of d) 4) e
record_of_lem (rule5 y h e) = ap (λ (d : Change). record_shown (changed_of d) 5) e
record_of_lem (rule6 z h e) = ap (λ (d : Change). record_shown (changed_of d) 6) e
record_of_lem (rule7 z h e) = ap (λ (d : Change). record_shown (changed_of d) 7) e

module _ (w : WalkStruct) (labels : List ℕ) where
  abbrev shown : Told → ChangeStruct → Shown
  shown t change = record { answer = t.answer; simplex = t.simplex; change = change }

  -- what is shown of an answer, by the definitions' walk and by the struct
  copy_of : (o : Outcome ℕ) (x : WalkStruct) → walk_of x ≡ move_walk (walk_of w) labels
      → shown_as (seen (walk_of w) labels o (move_walk (walk_of w) labels))
      ≡ shown (told_by o) (change_seen w labels x (told_by o).answer)
  unfolding front
  copy_of (refused k) x e = refl
  copy_of (ended k b s) x e = refl
  copy_of (moved r) x e =
      ap (λ (z : Walk). shown (told_by (moved r))
      (changed_of (change (over (walk_of w) labels) (walk_of w).present z.present))) (sym e)

  pub copy_is : shown_as (preview (walk_of w) labels) ≡ seen_as w labels (call_of w labels)
  copy_is = ap shown_as (calls_hold (walk_of w) labels).shown
      ∙ copy_of (move_answer (walk_of w) labels) (call_of w labels).walk (walk-moves w labels)
      ∙ ap (λ (t : Told). shown t (change_seen w labels (call_of w labels).walk t.answer)) (sym (call_tells w labels))

  named_of : (o : Outcome Move) → preview (walk_of w) labels ≡ o → (rule : ℕ) → (shown_as o).answer ≡ Moved rule
      → record_shown (shown_as o).change rule
      ≡ record_of (over (walk_of w) labels) (walk_of w).present (move_walk (walk_of w) labels).present
  named_of (refused k) q rule e = absurd_bool (cc)
  named_of (ended k b s) q rule e = absurd_bool (cc)
  named_of (moved m) q rule e =
      let n = (calls_hold (walk_of w) labels).named m q in
      let z : m.rule ≡ rule = cc in
      rw (← z) (record_of_lem n.0 ∙ sym (recorded n.0) ∙ n.1)

  pub shows : PreviewShows w labels
  shows = record {
    copy = copy_is;
    named = λ rule e. named_of (preview (walk_of w) labels) refl rule e
        ∙ ap (λ (x : Walk). record_of (over (walk_of w) labels) (walk_of w).present x.present)
        (sym (walk-moves w labels));
  }
