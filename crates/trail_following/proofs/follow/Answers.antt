-- `trail_following::follow` meets its contract. Assumes nothing.
use Rattle.std.proofs.Common.{List, [], ◌∷◌, ◌≡◌, refl, sym, ap, ◌∙◌, subst, ℕ, suc, ◌+◌, ◌-◌, ◌%◌, ◌≤◌, ◌<◌, drop}
use Rattle.std.proofs.Common.{get_or, length, arith}
use mathlib.Core.Option.{none}
use lib.Seq.{get_or-drop}
use Rattle.grid.proofs.Fields.{indices-few, made-accepted, made-indices}
use Rattle.grid_points.specs.Grid.{num_indices}
use Rattle.grid.specs.Made.{shape}
use Rattle.moves.specs.Held.{answered, state_of}
use Rattle.moves.specs.declared.Outcome.{Outcome}
use Rattle.moves.specs.declared.Outcome.TheVariants.{FacetEnd, Moved, PlaceEnd}
use Rattle.moves.specs.declared.Status.{Status}
use Rattle.place.specs.Places.{Simplex}
use Rattle.trail_records.proofs.Standing.{not_standing, standing}
use Rattle.rules.specs.Moves.{After, State, goes}
use Rattle.trail.specs.Change.{change}
use Rattle.trail.specs.Trail.{rebuilt_from}
use Rattle.trail_steps.proofs.Reached.{Arrives}
use Rattle.trail_steps.proofs.Arrived.{OnlyPlace, WayLeads, facet-ends, gone-low, place-ends, way_fits, way_leads}
use Rattle.trail_steps.proofs.Arrived.{way_ready}
use Rattle.trail_steps.proofs.Named.{order-low, shows-few}
use Rattle.trail_steps.proofs.NextPlace.{can_find, come-low, nowhere, on, same_way, steps_counted, to-next, to_none}
use Rattle.trail_steps.specs.Reading.{HasRead, Leads, come_position, problem_by, way_of}
use Rattle.trail_following.proofs.Led.{led_all, led_few, led_none, led_on}
use Rattle.ways.proofs.Here.{same-gone}
use Rattle.ways.specs.Ways.{gone_by, way_after}
use Rattle.trail_following.proofs.follow.Goals as goal
use Rattle.trail_following.proofs.follow.Goals.{After-arrive-bytes, After-moved_by-outcome, After-way_on-way}
use Rattle.trail_following.proofs.follow.Goals.{At-loop-record, In-Moved}

pub loop-record-init : goal.loop-record-init
loop-record-init c = (
  c.requires.low,
  (λ start a H. (a, H, led_none (problem_by c.args.g start) a _ c.args.number)),
)

-- at a place: the bytes from here on, and the state
abbrev bytes_on : At-loop-record → List ℕ
bytes_on c = drop c.loop-record.at c.args.trail.now

abbrev state : At-loop-record → State
state c = let l = c.loop-record in state_of c.args.round.now l.held l.s

-- a reading of the place, by some start
abbrev Holds : At-loop-record → List ℕ → Simplex → Type 0
Holds c start a = HasRead c.args.g start c.args.tails.now a (state c)

some : (c : At-loop-record) → (start : List ℕ) × (a : Simplex) × Holds c start a
some c =
    let w = c.requires.place in
    let v = c.loop-record.invariant.1 w.0 w.1 w.2 in
    (w.0, v.0, v.1)

counted : (c : At-loop-record) {start : List ℕ} {a : Simplex} (H : Holds c start a)
    → c.loop-record.s.count ≡ H.shows.t
counted c {start} H =
    let l = c.loop-record in steps_counted c.args.g start c.args.tails.now c.args.round.now l.held l.s H

few : (c : At-loop-record) → c.loop-record.s.count ≤ 15
few c = let H = (some c).2 in omega (arith, counted c H, shows-few H.has_start H.shows)

way-is : (c : After-way_on-way)
    → let at = (goal.at.After-way_on-way c).At-loop-record in
    way_of (num_indices (shape c.args.g)) c.loop-record.s.count (state at) (bytes_on at) ≡ c.way_on-way.result
way-is c =
    let at = (goal.at.After-way_on-way c).At-loop-record in
    let l = c.loop-record in
    let a = c.args in
    sym
    (c.way_on-way.ensures
    ∙ same_way a.g.indices l.s.count a.round.now l.held l.s (bytes_on at)
    ∙ ap (λ (m : ℕ). way_of m l.s.count (state at) (bytes_on at)) (made-indices a.g c.requires.measured.made))

pub moved_by-outcome-requires : goal.moved_by-outcome-requires
moved_by-outcome-requires c =
    let at = (goal.at.moved_by-outcome-requires c).At-loop-record in
    let H = (some at).2 in record {
      sound = (
        c.requires.below,
        record { few = few at; order_below = order-low H.has_start H.shows },
      );
      can_move = way_ready H.has_start H.shows (bytes_on at) c.loop-record.s.count (counted at H)
          c.way_on-way.result (way-is (goal.at.moved_by-outcome-requires c).After-way_on-way);
    }

abbrev at : After-moved_by-outcome → At-loop-record
at c = (goal.at.After-moved_by-outcome c).At-loop-record

abbrev given : After-moved_by-outcome → Outcome → After
given c o = answered c.args.round.now c.moved_by-outcome.new.held c.loop-record.s o

-- the position of the point that goes out
gone-is : (c : After-moved_by-outcome)
    → c.gone_by-gone.result ≡ gone_by (state (at c)) c.way_on-way.result
gone-is c =
    let l = c.loop-record in
    c.gone_by-gone.ensures ∙ same-gone c.args.round.now l.held l.s c.way_on-way.result

-- what the way leads to
leads : (c : After-moved_by-outcome) (o : Outcome) → c.moved_by-outcome.result ≡ o → {start : List ℕ} {a : Simplex}
    (H : Holds (at c) start a)
    → WayLeads H.has_start H.shows (bytes_on (at c)) c.loop-record.s.count (counted (at c) H) c.gone_by-gone.result
    (given c o)
leads c o e H =
    let w = c.way_on-way.result in
    let n = c.loop-record.s.count in
    let W : ℕ → After → Type 0 = WayLeads H.has_start H.shows (bytes_on (at c)) n (counted (at c) H) in
    subst (W c.gone_by-gone.result) (sym c.moved_by-outcome.ensures ∙ ap (given c) e)
    (subst (λ (n : ℕ). W n (way_after (state (at c)) w)) (sym (gone-is c))
    (way_leads H.has_start H.shows (bytes_on (at c)) n (counted (at c) H) w
    (way-is (goal.at.After-moved_by-outcome c).After-way_on-way)))

-- where no record leads on, all lead nowhere
ends : (c : At-loop-record) → c.loop-record._record < c.args.number → (start : List ℕ) (a : Simplex)
    → (H : HasRead c.args.g start c.args.tails.now a (state_of c.args.round.now c.args.held.now c.args.begun))
    → let p = problem_by c.args.g start in
    ((k : ℕ) → rebuilt_from p (suc k) (c.loop-record.invariant.1 start a H).0 (bytes_on c) ≡ none)
    → rebuilt_from p c.args.number a (drop c.args.from c.args.trail.now) ≡ none
ends c more start a H e =
    let l = c.loop-record in
    let v = l.invariant.1 start a H in
    let p = problem_by c.args.g start in
    let left = c.args.number - l._record in
    let z : left ≡ suc (left - 1) = omega (arith, more) in
    led_all p a _ c.args.number v.2 left (omega (arith, more))
    ∙ ap (λ (n : ℕ). rebuilt_from p n v.0 (bytes_on c)) z
    ∙ e (left - 1)

-- an end leads to no state
stays : (c : After-moved_by-outcome) (o : Outcome) → ((s : Status) → o ≡ Moved s → ⊥) → (f : State)
    → given c o ≡ goes f → ⊥
stays c (PlaceEnd k) n f q = place-ends _ f _ q
stays c (FacetEnd k) n f q = facet-ends _ f _ q
stays c (Moved s) n f q = n s refl

pub returns-in_default : goal.returns-in_default
returns-in_default c = λ start a H.
    let m = (goal.at.returns-in_default c).After-moved_by-outcome in
    let v = c.loop-record.invariant.1 start a H in
    ends (at m) c.loop-record-test.true start a H
    (nowhere v.1 (bytes_on (at m)) c.loop-record.s.count (counted (at m) v.1) c.gone_by-gone.result
    (leads m _ refl v.1) (stays m _ c.in_default.not-Moved))

-- a place is reached
abbrev made : In-Moved → After-moved_by-outcome
made c = (goal.at.In-Moved c).After-moved_by-outcome

abbrev onward : In-Moved → State
onward c = state_of c.args.round.now c.moved_by-outcome.new.held c.in-Moved.status

arrives : (c : In-Moved) {start : List ℕ} {a : Simplex} (H : Holds (at (made c)) start a)
    → (b : Simplex) × Arrives (problem_by c.args.g start) a b (onward c)
    × OnlyPlace H.has_start H.shows (bytes_on (at (made c))) c.loop-record.s.count
    (counted (at (made c)) H) b
    × ((x : ℕ) → (change (problem_by c.args.g start) a b).points_out ≡ x ∷ [] → c.gone_by-gone.result ≡ x)
arrives c H =
    let m = made c in
    on H (bytes_on (at m)) c.loop-record.s.count (counted (at m) H) c.gone_by-gone.result
    (leads m (Moved c.in-Moved.status) c.in-Moved.is H)

pub arrive-bytes-requires : goal.arrive-bytes-requires
arrive-bytes-requires c =
    let d = (goal.at.arrive-bytes-requires c).In-Moved in
    let m = made d in
    let a = c.args in
    let w = c.requires in
    let l = c.loop-record in
    let H = (some (at m)).2 in
    let K = arrives d H in
    let n = counted (at m) H in
    let h = c.moved_by-outcome.new.held in
    let s = c.in-Moved.status in
    let out = c.gone_by-gone.result in record {
      measured = (
        w.measured,
        can_find a.g w.measured.made _ a.tails.now H a.trail.now l.at l.s.count n a.round.now h s w.below out K.0 K.1,
      );
      can_compare = record {
        come = come-low a.g w.measured.made _ a.tails.now H a.trail.now l.at l.s.count n a.round.now h s w.below out
            K.0 K.1;
        out = omega (
          arith,
          gone-is m,
          gone-low H.has_start H.shows (bytes_on (at m)) l.s.count n (made-accepted a.g w.measured.made).few_points
              m.way_on-way.result (way-is (goal.at.arrive-bytes-requires c).After-way_on-way),
        );
        low = l.invariant.0;
      };
    }

-- the state before its mark is stored
abbrev bare : After-arrive-bytes → State
bare c = onward (goal.at.After-arrive-bytes c).In-Moved

differs : (c : After-arrive-bytes) → c.arrive-bytes.result ≡ 0 → {start : List ℕ} {a : Simplex}
    → Holds (goal.at.After-arrive-bytes c).At-loop-record start a
    → (k : ℕ)
    → rebuilt_from (problem_by c.args.g start) (suc k) a (bytes_on (goal.at.After-arrive-bytes c).At-loop-record)
    ≡ none
differs c z H =
    let m = made (goal.at.After-arrive-bytes c).In-Moved in
    let a = c.args in
    let w = c.requires in
    let l = c.loop-record in
    let s = c.in-Moved.status in
    let K = arrives (goal.at.After-arrive-bytes c).In-Moved H in
    to_none a.g w.measured.made _ a.tails.now H a.trail.now l.at l.s.count (counted (at m) H)
    a.round.now c.moved_by-outcome.new.held s w.below c.gone_by-gone.result K.0 K.1 K.2 K.3 _ refl refl l.invariant.0
    (not_standing l.s.t l.s.u s.t s.u (come_position a.g (bare c)) c.gone_by-gone.result c.arrive-bytes.ensures.value z)

next : (c : After-arrive-bytes) → (c.arrive-bytes.result ≡ 0 → ⊥) → {start : List ℕ} {a : Simplex}
    → Holds (goal.at.After-arrive-bytes c).At-loop-record start a
    → Leads c.args.g start c.args.trail.now a c.loop-record.at
    (state_of c.args.round.now c.arrive-bytes.new.held c.in-Moved.status) c.arrive-bytes.result
next c z H =
    let m = made (goal.at.After-arrive-bytes c).In-Moved in
    let a = c.args in
    let w = c.requires in
    let l = c.loop-record in
    let s = c.in-Moved.status in
    let K = arrives (goal.at.After-arrive-bytes c).In-Moved H in
    let S = standing l.s.t l.s.u s.t s.u (come_position a.g (bare c)) c.gone_by-gone.result
    c.arrive-bytes.ensures.value z in
    to-next a.g w.measured.made _ a.tails.now H a.trail.now l.at l.s.count (counted (at m) H)
    a.round.now c.moved_by-outcome.new.held s w.below c.gone_by-gone.result K.0 K.1 K.2 K.3 _ refl refl l.invariant.0
    c.arrive-bytes.new.held c.arrive-bytes.ensures.marked S.0 c.arrive-bytes.result S.1

pub returns-then-bytes-eq0 : goal.returns-then-bytes-eq0
returns-then-bytes-eq0 c = λ start a H.
    let past = (goal.at.returns-then-bytes-eq0 c).After-arrive-bytes in
    ends (goal.at.returns-then-bytes-eq0 c).At-loop-record c.loop-record-test.true start a H
    (differs past c.if-bytes-eq0.true (c.loop-record.invariant.1 start a H).1)

-- the record has a byte, and ends in the trail
inside : (c : After-arrive-bytes) → (c.arrive-bytes.result ≡ 0 → ⊥)
    → (1 ≤ c.arrive-bytes.result) × (c.loop-record.at + c.arrive-bytes.result ≤ length c.args.trail.now)
inside c z = let N = next c z (some (goal.at.After-arrive-bytes c).At-loop-record).2 in (N.some, N.inside)

pub overflow_add-came : goal.overflow_add-came
overflow_add-came c =
    let w = c.requires.place in
    let v = c.loop-record.invariant.1 w.0 w.1 w.2 in
    omega (
      arith,
      led_few (problem_by c.args.g w.0) w.1 _ c.args.number v.2,
      c.low_bit-came.ensures.1,
      c.loop-record-test.true,
      c.ranges.number.fits,
    )

pub low_bit-came-requires : goal.low_bit-came-requires
low_bit-came-requires c =
    let w = inside (goal.at.low_bit-came-requires c).After-arrive-bytes c.if-bytes-eq0.false in omega (arith, w.0, w.1)

pub way_on-way-requires : goal.way_on-way-requires
way_on-way-requires c = record {
  count_bound = few (goal.at.way_on-way-requires c).At-loop-record;
  at_in_bounds = (c.loop-record.invariant.0, indices-few c.args.g c.requires.measured.made);
}

pub gone_by-gone-requires : goal.gone_by-gone-requires
gone_by-gone-requires c =
    let at = (goal.at.gone_by-gone-requires c).At-loop-record in (
      few at,
      λ i e. ((way_fits (num_indices (shape c.args.g)) c.loop-record.s.count (state at) (bytes_on at)).leaves i
          (way-is c ∙ e)).0,
    )

pub overflow_add-at : goal.overflow_add-at
overflow_add-at c =
    let w = inside (goal.at.overflow_add-at c).After-arrive-bytes c.if-bytes-eq0.false in
    omega (arith, w.1)

pub loop-record-preserved : goal.loop-record-preserved
loop-record-preserved c =
    let past = (goal.at.loop-record-preserved c).After-arrive-bytes in
    let l = c.loop-record in
    let number = c.args.number in
    let trail = c.args.trail.now in
    let test = c.loop-record-test.true in
    let e : l._record + 1 ≡ suc l._record = omega arith in
    let here : l.at + 0 ≡ l.at = omega arith in
    let byte = get_or-drop l.at trail 0 0 ∙ ap (λ (i : ℕ). get_or trail i 0) here in (
      (inside past c.if-bytes-eq0.false).1,
      λ start a H.
          let v = l.invariant.1 start a H in
          let N = next past c.if-bytes-eq0.false v.1 in (
            N.next,
            record { has_start = v.1.has_start; shows = N.shows; sums = v.1.sums },
            led_on (problem_by c.args.g start) a _ number v.2 (omega (arith, test)) N.next _
                N.reads e (c.low_bit-came.ensures.0 ∙ ap (λ (x : ℕ). x % 2) (sym byte)) refl,
          ),
    )

pub returns : goal.returns
returns c = λ start a H.
    let l = c.loop-record in
    let v = l.invariant.1 start a H in
    let all : l._record ≡ c.args.number = omega arith in
    let p = problem_by c.args.g start in
    record {
      place = v.0;
      shows = v.1.shows;
      is = led_all p a _ c.args.number v.2 0 (omega (arith, all));
      brought = rw all at v.2.brought;
    }
