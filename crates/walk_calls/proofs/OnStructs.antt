-- What a call leaves in a struct is the walk of the definitions, and what holds of these holds of the call. In order: a
-- walk that is moved; any call; any number of calls; two walks. Assumes nothing.
use mathlib.Core.Bool.{true}
use mathlib.Core.List.{List, [], ◌∷◌}
use mathlib.Core.Path.{◌≡◌, refl, sym, ap, ◌∙◌}
use mathlib.Core.Option.{some}
use Prim.Native.Nat.{ℕ, zero, suc, ◌+◌, ◌≤◌}
use lib.Dec.{eqb}
use lib.ListN.{length, take, length-map}
use native.Mathlib.Omega.{arith}
use Rattle.combinatorics.proofs.Basics.{absurd_bool}
use Rattle.combinatorics.proofs.Lists.{eqb_self, same_self}
use Rattle.combinatorics.specs.Front.{front, padded}
use Rattle.combinatorics.specs.Lists.{concat_map, first_or}
use Rattle.end_kinds.specs.declared.Kind.{Kind}
use Rattle.grid_points.specs.Grid.{Grid, Point, num_indices}
use Rattle.place.specs.Places.{Simplex, is_place, order}
use Rattle.place.specs.Problem.{Problem, label}
use Rattle.path_laws.proofs.Bound.{order-short}
use Rattle.path_laws.proofs.ToChain.{place-long}
use Rattle.path_laws.specs.Demand.{Accepted}
use Rattle.walks.proofs.KeptForm.{grid-long, meets}
use Rattle.walks.proofs.Meaning.{Passes}
use Rattle.walks.proofs.Moved.{Onward, calls_hold, moved_passes}
use Rattle.walks.proofs.Recognised.{kept_every}
use Rattle.walks.specs.Kept.{kept_points}
use Rattle.walks.specs.Next.{Outcome, after_calls, ended, moved, refused, move_answer, move_walk, moved_to, next_of, on_move}
use Rattle.walks.specs.Next.{rule_of, walk_after}
use Rattle.walks.specs.Walk.{Walk, labels_of, over}
use Rattle.walk_calls.specs.Calls.{call_of, struct_on, told_in}
use Rattle.walk_calls.specs.Claims.{CallsLeave, left_after, told_by}
use Rattle.walk_calls.specs.Moving.{unmoved_as}
use Rattle.walk_calls.specs.declared.Call.{Call}
use Rattle.walk_calls.specs.declared.Told.{Told}
use Rattle.walk_places.proofs.BothPlaced.{padded-long}
use Rattle.walk_places.proofs.Held.{kept-held, padded_taken, place-before}
use Rattle.walk_places.specs.Walks.{before_of, carried_of, kept_as, place_of, stored, walk_grid, walk_of}
use Rattle.walk_places.specs.declared.Walk.{Walk as WalkStruct}
use Rattle.walk_ways.specs.Answers.{answer_of, outcome_numbers}
use Rattle.walk_ways.specs.declared.WalkAnswer.{WalkAnswer}
use Rattle.walk_ways.specs.declared.WalkAnswer.TheVariants.{Ended, Moved}

-- a walk that is moved
module _ (w : WalkStruct) (labels : List ℕ) (s : Simplex) (e : next_of (walk_of w) labels ≡ moved s) where
  abbrev g : Grid
  g = walk_grid w

  abbrev p : Problem
  p = over (walk_of w) labels

  passes : Passes (walk_of w) labels × Onward p (walk_of w).before (walk_of w).present s
  passes = moved_passes (walk_of w) labels s e

  ok : Accepted p
  ok = passes.0.accepted

  there : is_place p s ≡ true
  there = passes.1.joins.to

  abbrev y : Point
  y = first_or [] s

  abbrev o : List ℕ
  o = order g s

  there-is : kept_points g y o ≡ s
  there-is = kept_every ok.has_start s there

  there-kept : is_place p (kept_points g y o) ≡ true
  there-kept = rw there-is there

  long : length s ≡ length o + 1
  long = omega (arith, place-long ok.has_start s there)

  o-few : length o ≤ 15
  o-few = omega (arith, order-short p s there, ok.has_start.sixteen_indices, ok.has_start.some_block)

  y_long : length y ≡ num_indices g
  y_long = grid-long p y (meets p y o there-kept).on_grid

  few : num_indices g ≤ 16
  few = ok.has_start.sixteen_indices

  present-is : place_of g (stored g s) ≡ s
  unfolding stored
  present-is =
      let f : take (num_indices g) (padded 16 y) ≡ y = padded_taken (num_indices g) y y_long in
      let r : take (length o) (padded 16 o) ≡ o = padded_taken (length o) o refl in
      let c : stored g s ≡ kept_as (num_indices g) (padded 16 y) (padded 16 o) (length o) = rw (f, r, long) in
      let l = padded-long o (omega (arith, o-few)) in
      ap (place_of g) c
      ∙ kept-held g (padded 16 y) (padded 16 o) (length o) few o-few (padded-long y (omega (arith, y_long, few)))
      (omega (arith, l, o-few))
      ∙ rw (f, r) there-is

  before-is : before_of g (struct_on p w (moved s)).before ≡ some (place_of g w.present)
  before-is = place-before p ok.has_start w.present passes.0.stands.place

  carried-is : carried_of (struct_on p w (moved s)) ≡ labels_of p s
  unfolding carried_of stored
  carried-is =
      let t : take (length s) (padded 16 (labels_of p s)) ≡ labels_of p s =
      padded_taken (length s) (labels_of p s) (length-map s (label p)) in
      rw (t, same_self eqb eqb_self (padded 16 (labels_of p s)))

  count-is : (struct_on p w (moved s)).places ≡ suc w.places
  count-is = omega arith

  struct_moved : walk_of (struct_on p w (moved s)) ≡ moved_to p (walk_of w) s
  struct_moved = rw (present-is, before-is, carried-is, count-is)

-- any call: the walk that it leaves in the struct, and what it tells
module _ (w : WalkStruct) (labels : List ℕ) where
  pub walk-moves : walk_of (call_of w labels).walk ≡ move_walk (walk_of w) labels
  unfolding call_of move_walk
  walk-moves = go (next_of (walk_of w) labels) refl
    where
      go : (n : Outcome Simplex) → next_of (walk_of w) labels ≡ n
          → walk_of (struct_on (over (walk_of w) labels) w n) ≡ walk_after (over (walk_of w) labels) (walk_of w) n
      go (refused k) q = refl
      go (ended k b s) q = refl
      go (moved s) q = struct_moved w labels s q

  pub call_tells : told_in (call_of w labels) ≡ told_by (move_answer (walk_of w) labels)
  unfolding call_of move_answer
  call_tells = go (next_of (walk_of w) labels)
    where
      told : WalkAnswer → List ℕ → Told
      told answer simplex = record { answer = answer; simplex = simplex }

      go : (n : Outcome Simplex)
          → told (answer_of (rule_of (over (walk_of w) labels) (walk_of w).present) n) (padded 256 (outcome_numbers n))
          ≡ told_by (on_move (rule_of (over (walk_of w) labels) (walk_of w).present) n)
      go (refused k) = refl
      go (ended k b s) = refl
      go (moved s) = refl

  made : WalkAnswer → List ℕ → WalkStruct → Call
  made answer simplex walk = record { answer = answer; simplex = simplex; walk = walk }

  pub call_refused : (k : ℕ) → move_answer (walk_of w) labels ≡ refused k → call_of w labels ≡ unmoved_as w k
  unfolding call_of move_answer front made
  call_refused k = go (next_of (walk_of w) labels)
    where
      go : (n : Outcome Simplex) → on_move (rule_of (over (walk_of w) labels) (walk_of w).present) n ≡ refused k
          → made (answer_of (rule_of (over (walk_of w) labels) (walk_of w).present) n) (padded 256 (outcome_numbers n))
          (struct_on (over (walk_of w) labels) w n) ≡ unmoved_as w k
      go (refused j) e = let z : j ≡ k = cc in rw z
      go (ended j b s) e = absurd_bool (cc)
      go (moved s) e = absurd_bool (cc)

  pub call_ended : (k : Kind) (b : ℕ) (s : Simplex) → move_answer (walk_of w) labels ≡ ended k b s → call_of w labels
      ≡ record { answer = Ended k b (length s); simplex = padded 256 (concat_map (λ y. y) s); walk = w }
  unfolding call_of move_answer made
  call_ended k b s = go (next_of (walk_of w) labels)
    where
      go : (n : Outcome Simplex) → on_move (rule_of (over (walk_of w) labels) (walk_of w).present) n ≡ ended k b s
          → made (answer_of (rule_of (over (walk_of w) labels) (walk_of w).present) n) (padded 256 (outcome_numbers n))
          (struct_on (over (walk_of w) labels) w n) ≡ made (Ended k b (length s)) (padded 256 (concat_map (λ y. y) s)) w
      go (refused j) e = absurd_bool (cc)
      go (ended j c t) e = let x : j ≡ k = cc in let y : c ≡ b = cc in let z : t ≡ s = cc in rw (x, y, z)
      go (moved t) e = absurd_bool (cc)

  -- a call moves exactly where the definitions do
  moves : (rule : ℕ) → (call_of w labels).answer ≡ Moved rule → move_answer (walk_of w) labels ≡ moved rule
  moves rule e = go (move_answer (walk_of w) labels) (sym (ap (λ (t : Told). t.answer) call_tells) ∙ e)
    where
      go : (o : Outcome ℕ) → (told_by o).answer ≡ Moved rule → o ≡ moved rule
      go (refused k) q = absurd_bool (cc)
      go (ended k b s) q = absurd_bool (cc)
      go (moved r) q = let z : r ≡ rule = cc in rw z

  unmoved : ((rule : ℕ) → (call_of w labels).answer ≡ Moved rule → ⊥) → (call_of w labels).walk ≡ w
  unfolding call_of
  unmoved never = go (next_of (walk_of w) labels) never
    where
      go : (n : Outcome Simplex)
          → ((rule : ℕ) → answer_of (rule_of (over (walk_of w) labels) (walk_of w).present) n ≡ Moved rule → ⊥)
          → struct_on (over (walk_of w) labels) w n ≡ w
      go (refused k) never = refl
      go (ended k b s) never = refl
      go (moved s) never = absurd (never (rule_of (over (walk_of w) labels) (walk_of w).present s) refl)

  kept : ((move_walk (walk_of w) labels).start ≡ (walk_of w).start)
      × ((others : List ℕ) → over (move_walk (walk_of w) labels) others ≡ over (walk_of w) others)
  unfolding move_walk
  kept = go (next_of (walk_of w) labels)
    where
      go : (n : Outcome Simplex) → let x = walk_after (over (walk_of w) labels) (walk_of w) n in
          (x.start ≡ (walk_of w).start) × ((others : List ℕ) → over x others ≡ over (walk_of w) others)
      go (refused k) = (refl, λ others. refl)
      go (ended k b s) = (refl, λ others. refl)
      go (moved s) = (refl, λ others. refl)

  -- the grid and the start stay, so that what stands on {v} meets 20
  on-start : (rule : ℕ) → (call_of w labels).answer ≡ Moved rule → (x : Walk) → x ≡ move_walk (walk_of w) labels
      → x.present ≡ x.start ∷ [] → (others : List ℕ) → Accepted (over x others) → move_answer x others ≡ refused 20
  on-start rule e x z q others ok =
      let r = moves rule e in
      rw z ((calls_hold (walk_of w) labels).back rule r ((rw z at q) ∙ ap (λ (v : Point). v ∷ []) kept.0) others
      (rw (kept.1 others) at (rw z at ok)))

-- any number of calls
module _ (w : WalkStruct) (labels : List ℕ) where
  pub walk_after_lem : (n : ℕ) → walk_of (left_after n w labels) ≡ after_calls n (walk_of w) labels
  walk_after_lem zero = refl
  walk_after_lem (suc n) =
      walk-moves (left_after n w labels) labels ∙ ap (λ (x : Walk). move_walk x labels) (walk_after_lem n)

  stays : ((rule : ℕ) → (call_of w labels).answer ≡ Moved rule → ⊥) → (n : ℕ) → left_after n w labels ≡ w
  stays never zero = refl
  stays never (suc n) = ap (λ (x : WalkStruct). (call_of x labels).walk) (stays never n) ∙ unmoved w labels never

-- all of it
pub calls_leave : (w : WalkStruct) (labels : List ℕ) → CallsLeave w labels
calls_leave w labels = record {
  leaves = walk_after_lem w labels;
  tells = λ n. call_tells (left_after n w labels) labels
      ∙ ap (λ (x : Walk). told_by (move_answer x labels)) (walk_after_lem w labels n);
  still = stays w labels;
  back = λ rule e q others ok. call_refused (call_of w labels).walk others 20
      (on-start w labels rule e (walk_of (call_of w labels).walk) (walk-moves w labels) q others ok);
  once = λ x r q e f same.
      (calls_hold (walk_of w) labels).once (walk_of x) r q (moves w labels r e) (moves x labels q f)
      (rw (walk-moves w labels, walk-moves x labels) at same);
  once_parts = λ x r q e f same.
      (calls_hold (walk_of w) labels).once_parts (walk_of x) r q (moves w labels r e) (moves x labels q f)
      (rw (walk-moves w labels, walk-moves x labels) at same);
}
