-- From what the bytes name, the move and the comparison to the next place of a reading. Assumes nothing.
use mathlib.Core.Bool.{true, false}
use mathlib.Core.List.{List, [], ◌∷◌}
use mathlib.Core.Logic.{⊎_elim}
use mathlib.Core.Option.{none}
use mathlib.Core.Path.{◌≡◌, refl, sym, ap, ◌∙◌, subst}
use Prim.Native.Nat.{ℕ, suc, ◌*◌, ◌≤◌, ◌<◌}
use borrow.Author.Tests.{le-ltb, lt-ltb}
use lib.ListN.{drop, length, length-drop, take}
use lib.Seq.{drop-drop}
use native.Mathlib.Omega.{arith}
use Rattle.combinatorics.proofs.Basics.{before_or_not}
use Rattle.combinatorics.proofs.EditsOfArrays.{counted}
use Rattle.geometry.proofs.Points.{nth}
use Rattle.grid.proofs.Fields.{made-accepted, made-blocks}
use Rattle.grid_points.specs.Grid.{position}
use Rattle.grid.specs.Made.{IsMade}
use Rattle.grid.specs.declared.Grid.{Grid as GridStruct}
use Rattle.moves.specs.Held.{state_of, with_marks}
use Rattle.arrays.specs.declared.holding.Held.{Held}
use Rattle.moves.specs.declared.Status.{Status}
use Rattle.place.specs.Places.{Simplex}
use Rattle.place.specs.Problem.{Problem}
use Rattle.trail_records.specs.declared.IndexSets.{IndexSets}
use Rattle.rules.specs.Ready.{RoundBelow}
use Rattle.rules.specs.Moves.{After, State, goes}
use Rattle.rules.specs.declared.Round.{Round}
use Rattle.trail.proofs.Rules.{record_short}
use Rattle.trail.specs.Change.{change}
use Rattle.trail.specs.Record.{record_of}
use Rattle.trail.specs.Trail.{begins, rebuilt_from}
use Rattle.trail_steps.proofs.Reached.{Arrives, stored}
use Rattle.marks.specs.Reading.{CanFind}
use Rattle.trail_steps.specs.Shows.{Shows}
use Rattle.trail_steps.proofs.Arrived.{OnlyPlace, WayLeads, goes_on, inside, leads_nowhere, leads_on, not_there}
use Rattle.trail_steps.proofs.Arrived.{position-low, record_is}
use Rattle.trail_steps.proofs.Named.{shows-few}
use Rattle.trail_steps.specs.Reading.{HasRead, Leads, come_position, marks_with, problem_by, record_made, way_of}
use Rattle.ways.specs.Ways.{held_marks}

-- what the marks and the status alone tell is what the state tells
pub same_way : (m n : ℕ) (round : Round) (held : Held) (s : Status) (bytes : List ℕ)
    → way_of m n (held_marks held.marks s) bytes ≡ way_of m n (state_of round held s) bytes
unfolding way_of
same_way m n round held s bytes = refl

-- a state that holds a place has as many steps as its status counts
pub steps_counted : (g : GridStruct) (start tails : List ℕ) {a : Simplex} (round : Round) (held : Held) (s : Status)
    → (H : HasRead g start tails a (state_of round held s)) → s.count ≡ H.shows.t
steps_counted g start tails round held s H =
    let few = shows-few H.has_start H.shows in
    sym (counted held.order s.count held.order_long (omega (arith, H.shows.order_length, few))) ∙ H.shows.order_length

module _ (g : GridStruct) (made : IsMade g) (start tails : List ℕ) {a : Simplex} {s : State}
    (H : HasRead g start tails a s) (trail : List ℕ) (at n : ℕ) (count : n ≡ H.shows.t) where
  abbrev p : Problem
  p = problem_by g start

  -- after the move, in what is held
  module _ (round : Round) (held : Held) (status : Status) (below : RoundBelow round) (gone : ℕ) where
    abbrev after : State
    after = state_of round held status

    module _ (b : Simplex) (A : Arrives p a b after) where
      -- the point that has come in
      come-is : status.rule < 6 → come_position g after ≡ position p.grid (nth b status.active)
      come-is r = rw (lt-ltb status.rule 6 r) (ap (position p.grid) (A.point r))

      shown : Shows p b (stored after (come_position g after * 256))
      shown = A.shows (come_position g after * 256) (λ r. rw (come-is r) (omega arith))

      many : length (take status.count held.order) ≡ status.count
      many =
          counted held.order status.count held.order_long
          (omega (arith, shown.order_length, shows-few H.has_start shown))

      pub can_find : status.rule < 6 → CanFind g tails after status
      can_find r = record {
        reads = record {
          below = below.backward;
          first_length = held.first_long;
          point = A.reads r;
          on_grid = A.on_grid r;
        };
        marks = record {
          square = A.square;
          beside = λ one.
              A.beside r (made-accepted g made).few_points (sym (made-blocks g made) ∙ one) tails H.sums;
        };
        many = many;
      }

      pub come-low : come_position g after < 65536
      come-low =
          ⊎_elim (λ (r : status.rule < 6). rw (lt-ltb status.rule 6 r)
          (position-low H.has_start (made-accepted g made).few_points _ (A.on_grid r)))
          (λ (r : 6 ≤ status.rule). rw (le-ltb status.rule 6 r) (omega arith)) (before_or_not status.rule 6)

      made-is : ((x : ℕ) → (change p a b).points_out ≡ x ∷ [] → gone ≡ x) → (before : IndexSets) → before.t ≡ s.T
          → before.u ≡ s.U
          → record_made g after before gone ≡ record_of p a b
      made-is out before t u = rw (t, u) (record_is H.has_start H.shows A (come_position g after) gone come-is out)

      some_bytes : 1 ≤ length (record_of p a b)
      unfolding record_of
      some_bytes = (record_short A.by_rule.1).0

      module _ (O : OnlyPlace H.has_start H.shows (drop at trail) n count b)
          (out : (x : ℕ) → (change p a b).points_out ≡ x ∷ [] → gone ≡ x) (before : IndexSets) (t : before.t ≡ s.T)
          (u : before.u ≡ s.U) (low : at ≤ length trail) where
        -- the bytes begin with the record, and it leads to the place
        pub to-next : (new : Held) → state_of round new status ≡ with_marks after (marks_with g after after.marks)
            → begins (record_made g after before gone) (drop at trail) ≡ true
            → (bytes : ℕ) → bytes ≡ length (record_made g after before gone)
            → Leads g start trail a at (state_of round new status) bytes
        to-next new m stands bytes e =
            let same = made-is out before t u in
            let yes : begins (record_of p a b) (drop at trail) ≡ true =
            subst (λ (r : List ℕ). begins r (drop at trail) ≡ true) same stands in
            let bytes-are : bytes ≡ length (record_of p a b) = e ∙ ap length same in
            let fits = inside H.has_start H.shows (drop at trail) n count b yes in
            record {
              next = b;
              shows = subst (Shows p b) (sym m) shown;
              inside = omega (arith, fits, length-drop at trail, bytes-are, low);
              some = omega (arith, some_bytes, bytes-are);
              reads = λ k. goes_on H.has_start H.shows (drop at trail) n count O yes k
                  ∙ ap (rebuilt_from p k b)
                  (ap (λ (m : ℕ). drop m (drop at trail)) (sym bytes-are) ∙ drop-drop bytes at trail);
            }

        -- they do not, and it leads nowhere
        pub to_none : begins (record_made g after before gone) (drop at trail) ≡ false → (k : ℕ)
            → rebuilt_from p (suc k) a (drop at trail) ≡ none
        to_none differs =
            not_there H.has_start H.shows (drop at trail) n count O
            (subst (λ (r : List ℕ). begins r (drop at trail) ≡ false) (made-is out before t u) differs)

-- the cases of what a way leads to
module _ {g : GridStruct} {start tails : List ℕ} {a : Simplex} {s : State} (H : HasRead g start tails a s)
    (bytes : List ℕ) (n : ℕ) (count : n ≡ H.shows.t) (gone : ℕ) where
  pub on : {f : State} → WayLeads H.has_start H.shows bytes n count gone (goes f)
      → (b : Simplex) × Arrives (problem_by g start) a b f × OnlyPlace H.has_start H.shows bytes n count b
      × ((x : ℕ) → (change (problem_by g start) a b).points_out ≡ x ∷ [] → gone ≡ x)
  on (leads_on b A O out) = (b, A, O, out)
  on {f} (leads_nowhere h k) = absurd (h f refl)

  pub nowhere : {after : After} → WayLeads H.has_start H.shows bytes n count gone after
      → ((f : State) → after ≡ goes f → ⊥) → (k : ℕ)
      → rebuilt_from (problem_by g start) (suc k) a bytes ≡ none
  nowhere (leads_on {f} b A O out) h k = absurd (h f refl)
  nowhere (leads_nowhere h e) _ k = e k
