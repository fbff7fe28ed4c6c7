-- The preview by the moving call. Assumes nothing.
use mathlib.Core.List.{List}
use mathlib.Core.Path.{◌≡◌, refl, ap, ◌∙◌}
use Prim.Native.Nat.{ℕ}
use Rattle.combinatorics.proofs.Basics.{absurd_bool}
use Rattle.combinatorics.specs.Front.{front, padded}
use Rattle.end_kinds.specs.declared.Kind.{Kind}
use Rattle.grid_points.specs.Questions.{grid_questions}
use Rattle.place.specs.Places.{Simplex}
use Rattle.questions.specs.Questions.{first_no}
use Rattle.walks.proofs.Moved.{moved_passes}
use Rattle.walks.specs.Next.{Outcome, ended, moved, next_of, on_move, refused, rule_of}
use Rattle.walks.specs.Preview.{move_to, preview}
use Rattle.walks.specs.Walk.{over}
use Rattle.walk_calls.specs.Calls.{call_of, struct_on}
use Rattle.walk_calls.specs.declared.Call.{Call}
use Rattle.walk_places.proofs.BothPlaced.{grid-asked}
use Rattle.walk_preview.specs.Changes.{no_change}
use Rattle.walk_preview.specs.Previews.{Moves, change_in, shown_as}
use Rattle.walk_preview.specs.declared.Change.{Change as ChangeStruct}
use Rattle.walk_preview.specs.declared.Shown.{Shown}
use Rattle.walk_ways.specs.Answers.{answer_of, outcome_numbers}
use Rattle.walk_places.specs.Walks.{walk_grid, walk_of}
use Rattle.walk_ways.specs.declared.WalkAnswer.{WalkAnswer}
use Rattle.walk_ways.specs.declared.WalkAnswer.TheVariants.{Ended, Moved, Refused}
use Rattle.walk_places.specs.declared.Place.{Place}
use Rattle.walk_places.specs.declared.Walk.{Walk as WalkStruct}

pub grid-passes : {w : WalkStruct} {labels : List ℕ} {next : Place} {rule : ℕ} → Moves (walk_grid w) w labels next rule →
    first_no (grid_questions (walk_grid w)) ≡ 0
grid-passes {w} {labels} M = grid-asked (moved_passes (walk_of w) labels M.goes.to M.goes.moves).0.accepted

abbrev pub shown_with : WalkAnswer → List ℕ → ChangeStruct → Shown
shown_with answer simplex change = record { answer = answer; simplex = simplex; change = change }

module _ (w : WalkStruct) (labels : List ℕ) where
  abbrev call_by : Outcome Simplex → Call
  call_by n = record {
    answer = answer_of (rule_of (over (walk_of w) labels) (walk_of w).present) n;
    simplex = padded 256 (outcome_numbers n);
    walk = struct_on (over (walk_of w) labels) w n;
  }

  call_is : (n : Outcome Simplex) → next_of (walk_of w) labels ≡ n → call_of w labels ≡ call_by n
  unfolding call_of
  call_is n e = rw e

  preview-is : (n : Outcome Simplex) → next_of (walk_of w) labels ≡ n → preview (walk_of w) labels ≡ on_move
      (move_to (over (walk_of w) labels) (walk_of w).present) n
  unfolding preview
  preview-is n e = rw e

  module _ (c : Call) (is : c ≡ call_of w labels) where
    pub moves_of : (rule : ℕ) → c.answer ≡ Moved rule → Moves (walk_grid w) w labels c.walk.present rule
    moves_of rule e = go (next_of (walk_of w) labels) refl
      where
        go : (n : Outcome Simplex) → next_of (walk_of w) labels ≡ n → Moves (walk_grid w) w labels c.walk.present rule
        go (refused k) q = absurd_bool (let z = ap (λ (x : Call). x.answer) (is ∙ call_is (refused k) q) in cc)
        go (ended k b s) q = absurd_bool (let z = ap (λ (x : Call). x.answer) (is ∙ call_is (ended k b s) q) in cc)
        go (moved s) q = record {
          goes = record { to = s; moves = q; place = ap (λ (x : Call). x.walk.present) (is ∙ call_is (moved s) q) };
          by_rule = let z = ap (λ (x : Call). x.answer) (is ∙ call_is (moved s) q) in cc;
        }

    pub shown-moved : (rule : ℕ) → c.answer ≡ Moved rule → (change : ChangeStruct) → change ≡ change_in w labels
        → shown_with c.answer c.simplex change ≡ shown_as (preview (walk_of w) labels)
    unfolding front
    shown-moved rule e change d = go (next_of (walk_of w) labels) refl
      where
        go : (n : Outcome Simplex) → next_of (walk_of w) labels ≡ n → shown_with c.answer c.simplex change ≡ shown_as
            (preview (walk_of w) labels)
        go (refused k) q = absurd_bool (let z = ap (λ (x : Call). x.answer) (is ∙ call_is (refused k) q) in cc)
        go (ended k b s) q = absurd_bool (let z = ap (λ (x : Call). x.answer) (is ∙ call_is (ended k b s) q) in cc)
        go (moved s) q = rw (is, call_is (moved s) q, d, preview-is (moved s) q)

    still : (change : ChangeStruct) → change ≡ no_change → (n : Outcome Simplex) → next_of (walk_of w) labels ≡ n →
        ((s : Simplex) → n ≡ moved s → ⊥)
        → shown_with c.answer c.simplex change ≡ shown_as (preview (walk_of w) labels)
    unfolding front
    still change d (refused k) q f = rw (is, call_is (refused k) q, d, preview-is (refused k) q)
    still change d (ended k b s) q f = rw (is, call_is (ended k b s) q, d, preview-is (ended k b s) q)
    still change d (moved s) q f = absurd (f s refl)

    pub shown-refused : (number : ℕ) → c.answer ≡ Refused number → (change : ChangeStruct) → change ≡ no_change
        → shown_with c.answer c.simplex change ≡ shown_as (preview (walk_of w) labels)
    shown-refused number e change d = still change d (next_of (walk_of w) labels) refl
        (λ s q. absurd_bool (let z = ap (λ (x : Call). x.answer) (is ∙ call_is (moved s) q) in cc))

    pub shown-ended : (kind : Kind) (block vertices : ℕ) → c.answer ≡ Ended kind block vertices →
        (change : ChangeStruct) → change ≡ no_change
        → shown_with c.answer c.simplex change ≡ shown_as (preview (walk_of w) labels)
    shown-ended kind block vertices e change d = still change d (next_of (walk_of w) labels) refl
        (λ s q. absurd_bool (let z = ap (λ (x : Call). x.answer) (is ∙ call_is (moved s) q) in cc))
