-- What requests 08, 10 and 14 say of the moving call itself: of its answers, and of the struct that it leaves, in the
-- order of the customer's sentences. Assumes nothing.
use Rattle.std.specs.Prelude.{List, [], ◌∷◌, ◌≡◌, ℕ, zero, suc, length}
use Rattle.combinatorics.specs.Front.{padded}
use Rattle.combinatorics.specs.Lists.{concat_map}
use Rattle.path_laws.specs.Demand.{Accepted}
use Rattle.walks.specs.Next.{Outcome, ended, moved, refused, after_calls, move_answer}
use Rattle.walks.specs.Walk.{SameParts, SameWalk, over}
use Rattle.walk_calls.specs.Calls.{call_of, told_in}
use Rattle.walk_calls.specs.Moving.{unmoved_as}
use Rattle.walk_calls.specs.declared.Told.{Told}
use Rattle.walk_places.specs.Walks.{walk_of}
use Rattle.walk_places.specs.declared.Walk.{Walk as WalkStruct}
use Rattle.walk_ways.specs.declared.WalkAnswer.TheVariants.{Ended, Moved, Refused}

-- the struct after n calls "over one table"
abbrev pub left_after : ℕ → WalkStruct → List ℕ → WalkStruct
left_after zero w labels = w
left_after (suc n) w labels = (call_of (left_after n w labels) labels).walk

-- what a call tells, by the definitions: "reports the rule"; "gives its kind, block and simplex"; or a number
abbrev pub told_by : Outcome ℕ → Told
told_by (refused number) = record { answer = Refused number; simplex = padded 256 [] }
told_by (ended kind block simplex) = record {
  answer = Ended kind block (length simplex);
  simplex = padded 256 (concat_map (λ y. y) simplex);
}
told_by (moved rule) = record { answer = Moved rule; simplex = padded 256 [] }

-- of every struct and table
pub record CallsLeave (w : WalkStruct) (labels : List ℕ) : Type 0 where
  -- "each call moves it on by one place and reports the rule": call by call the struct holds the walk to which the
  -- definitions move, and what is told is what they tell,
  pub leaves : (n : ℕ) → walk_of (left_after n w labels) ≡ after_calls n (walk_of w) labels
  pub tells : (n : ℕ) → told_in (call_of (left_after n w labels) labels)
      ≡ told_by (move_answer (after_calls n (walk_of w) labels) labels)
  -- "at an end .. the walk is unchanged", "calls at an end move nothing", and so do refusals: every number of the
  -- struct is as it was
  pub still : ((rule : ℕ) → (call_of w labels).answer ≡ Moved rule → ⊥) → (n : ℕ) → left_after n w labels ≡ w
  -- "A walk moved back onto {v} meets 20 at the next call", whichever table is lent with it
  pub back : (rule : ℕ) → (call_of w labels).answer ≡ Moved rule → (let x = (call_of w labels).walk in
      (walk_of x).present ≡ (walk_of x).start ∷ [] → (others : List ℕ) → Accepted (over (walk_of x) others)
      → call_of x others ≡ unmoved_as x 20)
  -- "Over one label table, two different walks that a call moves on are never moved to the same walk": with request
  -- 10's sameness, with that of request 08's five parts, and number by number
  pub once : (x : WalkStruct) (r q : ℕ) → (call_of w labels).answer ≡ Moved r → (call_of x labels).answer ≡ Moved q
      → SameWalk (walk_of (call_of w labels).walk) (walk_of (call_of x labels).walk) → walk_of w ≡ walk_of x
  pub once_parts : (x : WalkStruct) (r q : ℕ) → (call_of w labels).answer ≡ Moved r → (call_of x labels).answer ≡ Moved q
      → SameParts (walk_of (call_of w labels).walk) (walk_of (call_of x labels).walk) → SameParts (walk_of w) (walk_of x)
