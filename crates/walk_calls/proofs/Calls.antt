-- The moving call by its parts. In order: a refusal by questions 1 to 7; what comes next; the grid of a walk. Assumes
-- nothing.
use mathlib.Core.Bool.{and-false}
use mathlib.Core.List.{List, [], ◌∷◌, map}
use mathlib.Core.Path.{◌≡◌, refl, sym, ap, ◌∙◌}
use Prim.Native.Nat.{ℕ, suc, ◌*◌, ◌≤◌, ◌<◌}
use borrow.Author.Tests.{le-leb, lt-leb}
use lib.Dec.{leb}
use lib.ListN.{take, length-replicate}
use native.Mathlib.Nat.{mul-le-mul}
use native.Mathlib.Omega.{arith}
use Rattle.combinatorics.proofs.Basics.{absurd_bool}
use Rattle.combinatorics.specs.Front.{front, padded}
use Rattle.combinatorics.specs.Counting.{falling}
use Rattle.combinatorics.specs.Lists.{sum, up_from}
use Rattle.combinatorics.proofs.Terms.{terms_few}
use Rattle.end_kinds.specs.declared.Kind.{Kind}
use Rattle.grid_points.specs.Grid.{Grid, bound, dimension, num_indices, num_points}
use Rattle.grid_points.specs.Questions.{grid_questions, question5}
use Rattle.place.specs.Places.{Simplex, all_labelled}
use Rattle.place.specs.Questions.{question6, question7, table_questions}
use Rattle.questions.proofs.Answers.{asked-no}
use Rattle.questions.specs.Questions.{ask, first_no}
use Rattle.walks.proofs.Moved.{moved_passes, next-refused}
use Rattle.walks.specs.Next.{Outcome, ended, moved, next_of, refused, rule_of}
use Rattle.walks.specs.Walk.{Walk, is_walk, over}
use Rattle.walk_calls.specs.Moving.{CarriesTo, call_on, unmoved_as}
use Rattle.walk_places.specs.Placing.{GoesTo}
use Rattle.walk_labels.specs.declared.Carried.{Carried}
use Rattle.walk_places.specs.Walks.{walk_grid, place_of, walk_of, walk_on}
use Rattle.walk_ways.specs.Answers.{answer_of, next_as, outcome_numbers}
use Rattle.walk_calls.specs.Calls.{call_of, struct_on, walk_moved_to}
use Rattle.walk_ways.specs.declared.WalkAnswer.{WalkAnswer}
use Rattle.walk_ways.specs.declared.WalkAnswer.TheVariants.{Ended, Moved, Refused}
use Rattle.walk_calls.specs.declared.Call.{Call}
use Rattle.walk_ways.specs.declared.Next.{Next}
use Rattle.walk_places.specs.declared.Place.{Place}
use Rattle.walk_places.specs.declared.Walk.{Walk as WalkStruct}

abbrev made_call : WalkAnswer → List ℕ → WalkStruct → Call
made_call answer simplex walk = record { answer = answer; simplex = simplex; walk = walk }

module _ (g : Grid) (w : WalkStruct) (labels : List ℕ) where
  abbrev walk : Walk
  walk = walk_on g w

  call_refused : (k : ℕ) → next_of walk labels ≡ refused k → unmoved_as w k ≡ call_on g w labels
  unfolding call_on front
  call_refused k z = rw z

  -- the first of questions 1 to 7 that is answered no
  pub table-refused : (k : ℕ) → (k ≡ 0 → ⊥) → first_no (table_questions (over walk labels)) ≡ k → unmoved_as w k
      ≡ call_on g w labels
  table-refused k ne e = call_refused k (next-refused walk labels k ne
      (asked-no (table_questions (over walk labels))
      (ask 20 (is_walk (over walk labels) walk) ∷ ask 16 (all_labelled (over walk labels) walk.present) ∷ [])
      k ne e))

  -- what comes next
  module _ (next : Next) (is : next ≡ next_as walk labels (next_of walk labels)) where
    -- a walk that is moved: where to, and that it has room to count on
    pub goes_to : (rule : ℕ) → next.answer ≡ Moved rule → GoesTo g w labels next.place
    unfolding next_as
    goes_to rule e = go (next_of walk labels) refl is
      where
        go : (n : Outcome Simplex) → next_of walk labels ≡ n → next ≡ next_as walk labels n → GoesTo g w labels
            next.place
        go (refused k) x q = absurd_bool (let z = ap (λ (x : Next). x.answer) q in cc)
        go (ended k b s) x q = absurd_bool (let z = ap (λ (x : Next). x.answer) q in cc)
        go (moved s) x q = record { to = s; moves = x; place = ap (λ (x : Next). x.place) q }

    pub call_moved : (G : GoesTo g w labels next.place) (on : Carried) → CarriesTo (over walk labels)
        (place_of g w.present) G.to on
        → made_call next.answer next.simplex (walk_moved_to w next.place on) ≡ call_on g w labels
    unfolding call_on next_as
    call_moved G on C =
        let q : next ≡ next_as walk labels (moved G.to) = is ∙ ap (next_as walk labels) G.moves in
        rw (G.moves, q, C.labels, C.came_in)

    pub call_refuses : (k : ℕ) → next.answer ≡ Refused k → made_call next.answer next.simplex w
        ≡ call_on g w labels
    unfolding call_on next_as
    call_refuses k e = go (next_of walk labels) is
      where
        go : (n : Outcome Simplex) → next ≡ next_as walk labels n → made_call next.answer next.simplex w
            ≡ made_call (answer_of (rule_of (over walk labels) (place_of g w.present)) n) (padded 256 (outcome_numbers n))
            (struct_on (over walk labels) w n)
        go (refused k) q = rw q
        go (ended k b s) q = rw q
        go (moved s) q = absurd_bool (let z = ap (λ (x : Next). x.answer) q in cc)

    pub call_ended : (kind : Kind) (block vertices : ℕ) → next.answer ≡ Ended kind block vertices → made_call
        next.answer next.simplex w ≡ call_on g w labels
    unfolding call_on next_as
    call_ended kind block vertices e = go (next_of walk labels) is
      where
        go : (n : Outcome Simplex) → next ≡ next_as walk labels n → made_call next.answer next.simplex w
            ≡ made_call (answer_of (rule_of (over walk labels) (place_of g w.present)) n) (padded 256 (outcome_numbers n))
            (struct_on (over walk labels) w n)
        go (refused k) q = rw q
        go (ended k b s) q = rw q
        go (moved s) q = absurd_bool (let z = ap (λ (x : Next). x.answer) q in cc)

pub places-few : (g : Grid) (w : WalkStruct) (labels : List ℕ) {next : Place} → GoesTo g w labels next
    → (w.places < 18446744073709551615) × (w.labels_read < 18446744073709551615)
unfolding bound
places-few g w labels G =
    let P = (moved_passes (walk_on g w) labels G.to G.moves).0 in
    let ok = P.accepted.has_start in
    let few : num_points g * sum (map (falling (num_indices g)) (up_from 0 (suc (dimension g)))) ≤ 60000 * 35951249665217 =
    mul-le-mul P.accepted.points (terms_few (num_indices g) (dimension g) ok.sixteen_indices
    (omega (arith, ok.sixteen_indices, ok.some_block))) in
    (omega (arith, P.stands.bounded, few), omega (arith, P.stands.bounded, P.stands.read_few, few))

pub call_on-own : (w : WalkStruct) (labels : List ℕ) → call_of w labels ≡ call_on (walk_grid w) w labels
unfolding call_of call_on
call_on-own w labels = refl

pub six-blocks : (w : WalkStruct) → w.blocks ≤ 6 → walk_grid w
    ≡ record { sizes = take w.blocks w.sizes; divisions = take w.blocks w.divisions }
six-blocks w l = rw (le-leb w.blocks 6 l)

-- neither more than six blocks nor none are a grid's
pub too_many_blocks : (w : WalkStruct) → 6 < w.blocks → first_no (grid_questions (walk_grid w)) ≡ first_no
    (grid_questions (record { sizes = []; divisions = [] }))
unfolding first_no
too_many_blocks w l = rw (lt-leb w.blocks 6 l, length-replicate {A = ℕ} w.blocks 0)
    (rw (lt-leb w.blocks 6 l, and-false (leb 1 w.blocks)))

pub none-refused : (k : ℕ) → k ≡ first_no (grid_questions (record { sizes = []; divisions = [] })) → k ≡ 0 → ⊥
unfolding first_no
none-refused k e z = omega (arith, e, z)

-- a refusal by questions 1 to 4
pub grid-refused : (w : WalkStruct) (labels : List ℕ) (k : ℕ) → (k ≡ 0 → ⊥) → first_no (grid_questions (walk_grid w)) ≡ k →
    unmoved_as w k ≡ call_of w labels
grid-refused w labels k ne e = table-refused (walk_grid w) w labels k ne
    (asked-no (grid_questions (walk_grid w))
    (question5 (walk_grid w) (walk_of w).start ∷ question6 (over (walk_of w) labels)
    ∷ question7 (over (walk_of w) labels) ∷ []) k ne e) ∙ sym (call_on-own w labels)
