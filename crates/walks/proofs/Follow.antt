-- Calls over one table, made from {v}, follow the path of an accepted table to its end or to its gap. Assumes nothing.
use borrow.Author.Tests.{not-true}
use mathlib.Core.Bool.{Bool, true, false, not, cond}
use mathlib.Core.List.{List, [], ◌∷◌, ◌++◌}
use mathlib.Core.Option.{Option, none, some}
use mathlib.Core.Path.{◌≡◌, refl, sym, ap, ◌∙◌, subst}
use Prim.Native.Nat.{ℕ, zero, suc, pred, ◌+◌, ◌-◌, ◌≤◌, ◌<◌}
use lib.Dec.{ltb}
use native.Mathlib.Omega.{arith}
use Rattle.combinatorics.proofs.Basics.{absurd_bool, false_of}
use Rattle.combinatorics.proofs.Lists.{all_in, filter_in, in_filter, in_here, only-list}
use Rattle.end_kinds.specs.declared.Kind.{Kind}
use Rattle.grid_points.proofs.Points.{on_points}
use Rattle.grid_points.specs.Grid.{Point, bound}
use Rattle.path_laws.proofs.Accepted.{accepted-table}
use Rattle.path_laws.proofs.FromTwoWays.{back}
use Rattle.path_laws.proofs.LabelsRead.{came_few, came_next, came_none}
use Rattle.path_laws.proofs.PathSteps.{Link, ways_on_split}
use Rattle.path_laws.proofs.Simplices.{simplex_sound}
use Rattle.path_laws.proofs.Theorem.{demand3_holds}
use Rattle.path_laws.proofs.Ways.{by_link, on_ways, in_ways}
use Rattle.path_laws.specs.Demand.{Accepted, Demand3, Stop, at_end, at_gap, place_at, left_at}
use Rattle.place.specs.Ends.{End, link, ends, ways}
use Rattle.place.specs.LabelsRead.{came_in, labels_read, point_came_in}
use Rattle.place.specs.Path.{is_back, ways_on, same_simplex, path, path_length, spent, unknown, ended as run_ended, outcome}
use Rattle.place.specs.Path.{answer}
use Rattle.place.specs.Places.{Simplex, all_labelled, unlabelled}
use Rattle.place.specs.Problem.{Problem, has_label, with_labels}
use Rattle.trail.proofs.RunTrail.{path_trail}
use Rattle.trail.specs.Record.{trail_of}
use Rattle.trail.specs.Trail.{reading, reading_of}
use Rattle.walks.proofs.Meaning.{Came, begins, came, Stands, Passes, of_passes, meets_16, one_way_on}
use Rattle.walks.proofs.Moved.{answer-refused, never_start, next-onward, not_20, one_at_most}
use Rattle.walks.specs.Claims.{walk_at, facing_back, called, CallsFollow}
use Rattle.walks.specs.Next.{refused, ended, moved, by_way, next_of, rule_of, move_answer, move_walk, after_calls}
use Rattle.walks.specs.Preview.{move_to, preview}
use Rattle.walks.specs.Walk.{Walk}

pred-below : (n : ℕ) → 0 < n → pred n < n
pred-below n c = omega arith

module _ {p : Problem} (ok : Accepted p) where
  abbrev visited : List Simplex
  visited = (path p).visited

  abbrev here : ℕ → Simplex
  here i = place_at visited i

  follows : Demand3 p
  follows = demand3_holds (accepted-table ok)

  link_at : (i : ℕ) → suc i < path_length p → Link p (here i) (here (suc i))
  link_at i c = record {
    from = follows.follows.places i (omega arith);
    to = follows.follows.places (suc i) c;
    by = follows.follows.links i c;
  }

  not_start : (i : ℕ) → suc i < path_length p → here (suc i) ≡ p.start ∷ [] → ⊥
  not_start i c q = follows.once 0 (suc i) (omega arith) c (λ y. rw (follows.follows.begins, q))

  came_at : (i : ℕ) → i < path_length p → Came p (left_at visited i) (here i)
  came_at zero c = rw follows.follows.begins begins
  came_at (suc i) c = came (link_at i c) (not_start i c)

  stands_at : (i : ℕ) → i < path_length p → Stands p (walk_at p i)
  stands_at i c = record {
    place = follows.follows.places i c;
    came = came_at i c;
    some = omega arith;
    bounded = omega (arith, follows.bounded);
    carries = refl;
    read = omega arith;
    read_few = omega (arith, came_few visited i);
  }

  passes_at : (i : ℕ) → i < path_length p → all_labelled p (here i) ≡ true → Passes (walk_at p i) p.labels
  passes_at i c own = record { accepted = ok; stands = stands_at i c; known = own }

  onward-at : (i : ℕ) → suc i < path_length p → is_back (left_at visited i) (link (here (suc i))) ≡ false
  onward-at zero c = refl
  onward-at (suc i) c = false_of _ (λ q. follows.follows.onward i c (simplex_sound (here i) (here (suc (suc i))) q))

  -- before the last place the one way on is the link to the next
  ways-at : (i : ℕ) → suc i < path_length p → ways_on p (left_at visited i) (here i) ≡ link (here (suc i)) ∷ []
  unfolding ways_on
  ways-at i c = only-list on_ways (link (here (suc i))) (ways_on p (left_at visited i) (here i))
      (omega (arith, follows.one i (omega arith) (follows.follows.known i c)))
      (in_filter on_ways (λ w. not (is_back (left_at visited i) w)) (link (here (suc i))) (ways p (here i))
      (in_ways p (here i) ok.has_start.same_number
      (by_link (here (suc i)) (follows.follows.places (suc i) c) (follows.follows.links i c)))
      (rw (onward-at i c)))

  next-at : (i : ℕ) → suc i < path_length p → next_of (walk_at p i) p.labels ≡ moved (here (suc i))
  next-at i c =
      next-onward (walk_at p i) p.labels
      (of_passes (walk_at p i) p.labels (passes_at i (omega arith) (follows.follows.known i c)))
      ∙ ap by_way (ways-at i c)

  stands : (i : ℕ) → i < path_length p → called p i ≡ walk_at p i
  unfolding move_walk
  stands zero c = rw (follows.follows.begins, came_none visited)
  stands (suc i) c =
      let z : suc (came_in visited i) + cond (point_came_in (here i) (here (suc i))) 1 0 ≡ suc (came_in visited (suc i)) =
      omega (arith, came_next visited i) in
      ap (λ (w : Walk). move_walk w p.labels) (stands i (omega arith)) ∙ rw (next-at i c, z)

  moves : (i : ℕ) → suc i < path_length p → move_answer (called p i) p.labels ≡ moved (rule_of p (here i) (here (suc i)))
  unfolding move_answer
  moves i c = rw (stands i (omega arith), next-at i c)

  shows : (i : ℕ) → suc i < path_length p → preview (called p i) p.labels ≡ moved (move_to p (here i) (here (suc i)))
  unfolding preview
  shows i c = rw (stands i (omega arith), next-at i c)

  abbrev last : ℕ
  last = pred (path_length p)

  last-below : last < path_length p
  last-below = pred-below (path_length p) follows.follows.nonempty

  -- at the end
  ends_at : (e : End) (es : List End) → all_labelled p (here last) ≡ true → ends p (here last) ≡ e ∷ es
      → move_answer (called p last) p.labels ≡ ended e.kind (suc e.block) e.simplex
  unfolding move_answer
  ends_at e es own q =
      rw (
        stands last last-below,
        next-onward (walk_at p last) p.labels (of_passes (walk_at p last) p.labels (passes_at last last-below own)),
        ways_on_split p (left_at visited last) (here last),
        q,
      )

  -- at the gap
  gap_at : (y : Point) → unlabelled p (here last) ≡ y ∷ [] → move_answer (called p last) p.labels ≡ refused 16
  gap_at y g =
      let m = filter_in on_points (λ y. not (has_label p y)) y (here last) (rw g (in_here on_points y [])) in
      let f : all_labelled p (here last) ≡ false =
      false_of _ (λ own. absurd_bool (sym (all_in on_points (has_label p) (here last) own y m.0) ∙ not-true _ m.1)) in
      rw (stands last last-below)
      (answer-refused (walk_at p last) p.labels 16 (λ z. absurd (omega arith))
      (meets_16 (walk_at p last) p.labels ok (stands_at last last-below) f))

  places-at : (n : ℕ) → n ≡ path_length p → (called p (pred n)).places ≡ n
  places-at n e =
      let c = follows.follows.nonempty in
      rw (stands (pred n) (omega arith)) (omega arith)

  read_at : (n : ℕ) → n ≡ path_length p → (called p (pred n)).read ≡ labels_read visited
  unfolding labels_read
  read_at n e =
      let c = follows.follows.nonempty in
      rw (stands (pred n) (omega arith), e) refl

  -- what the run says
  run-ended : (b n read : ℕ) (k : Kind) (j v : ℕ) (s : Simplex) → answer p b ≡ run_ended n read k j v s
      → (n ≡ path_length p) × (read ≡ labels_read visited) × (move_answer (called p last) p.labels ≡ ended k j s)
  unfolding answer
  run-ended b n read k j v s q = go (ltb b (path_length p)) (path p).end follows.stops q
    where
      go : (c : Bool) (d : Option End) → Stop p (here last) d
          → cond c (spent b) (outcome p visited d) ≡ run_ended n read k j v s
          → (n ≡ path_length p) × (read ≡ labels_read visited) × (move_answer (called p last) p.labels ≡ ended k j s)
      go true d t q = absurd_bool (cc)
      go false none t q = absurd_bool (cc)
      go false (some e) (at_end es own w) q =
          let a : path_length p ≡ n = cc in
          let r : labels_read visited ≡ read = cc in
          let f : e.kind ≡ k = cc in
          let g : suc e.block ≡ j = cc in
          let h : e.simplex ≡ s = cc in
          (sym a, sym r, rw (← f, ← g, ← h) (ends_at e es own w))

  run-asks : (b n i : ℕ) → answer p b ≡ unknown n i
      → (suc n ≡ path_length p) × (move_answer (called p last) p.labels ≡ refused 16)
  unfolding answer
  run-asks b n i q = ((follows.asked b n i q).0, go (ltb b (path_length p)) (path p).end follows.stops q)
    where
      go : (c : Bool) (d : Option End) → Stop p (here last) d → cond c (spent b) (outcome p visited d) ≡ unknown n i
          → move_answer (called p last) p.labels ≡ refused 16
      go true d t q = absurd_bool (cc)
      go false (some e) t q = absurd_bool (cc)
      go false none (at_gap y g) q = gap_at y g

  -- facing back, between {v} and the last place
  module _ (i n read : ℕ) (c : suc (suc i) < path_length p) (few : n ≤ bound p.grid) (some_read : 1 ≤ read)
      (read-few : read ≤ n) where
    behind : Link p (here i) (here (suc i))
    behind = link_at i (omega arith)

    passes-back : Passes (facing_back p (suc i) n read) p.labels
    passes-back = record {
      accepted = ok;
      stands = record {
        place = behind.to;
        came = came (back (here (suc i)) (here (suc (suc i))) (link_at (suc i) c)) (not_start i (omega arith));
        some = omega arith;
        bounded = few;
        carries = refl;
        read = some_read;
        read_few = read-few;
      };
      known = follows.follows.known (suc i) c;
    }

    ways-back : ways_on p (some (here (suc (suc i)))) (here (suc i)) ≡ link (here i) ∷ []
    unfolding ways_on
    ways-back =
        let l = back (here i) (here (suc i)) behind in
        let away : same_simplex (here (suc (suc i))) (here i) ≡ false =
        false_of _ (λ q. follows.follows.onward i c (sym (simplex_sound _ _ q))) in
        only-list on_ways (link (here i)) (ways_on p (some (here (suc (suc i)))) (here (suc i)))
        (omega (arith, one_way_on (facing_back p (suc i) n read) p.labels passes-back))
        (in_filter on_ways
        (λ w. not (is_back (some (here (suc (suc i)))) w))
        (link (here i)) (ways p (here (suc i)))
        (in_ways p (here (suc i)) ok.has_start.same_number (by_link (here i) l.to l.by)) (rw away))

    moves-back : move_walk (facing_back p (suc i) n read) p.labels
        ≡ facing_back p i (suc n) (read + cond (point_came_in (here (suc i)) (here i)) 1 0)
    unfolding move_walk
    moves-back = rw
        (next-onward (facing_back p (suc i) n read) p.labels
        (of_passes (facing_back p (suc i) n read) p.labels passes-back)
        ∙ ap by_way ways-back)

  -- any number of calls back: where they stand, and what was read on the way
  pub record Back (i j n read : ℕ) : Type 0 where
    pub so_far_lem : ℕ
    pub some_read : 1 ≤ so_far_lem
    pub few : so_far_lem ≤ n + j
    pub stands : after_calls j (facing_back p i n read) p.labels ≡ facing_back p (i - j) (n + j) so_far_lem

  calls_back : (i j n read : ℕ) → suc i < path_length p → j ≤ i → n + j ≤ suc (bound p.grid) → 1 ≤ read → read ≤ n
      → Back i j n read
  calls_back i zero n read c l b r f =
      let z : n + 0 ≡ n = omega arith in
      let y : i - 0 ≡ i = omega arith in
      record { so_far_lem = read; some_read = r; few = omega arith; stands = rw (z, y) }
  calls_back i (suc j) n read c l b r f =
      let k = calls_back i j n read c (omega arith) (omega arith) r f in
      let a = i - suc j in
      let e : i - j ≡ suc a = omega arith in
      let m : n + suc j ≡ suc (n + j) = omega arith in
      let d : suc (suc a) < path_length p = omega (arith, e) in
      let x : ℕ = cond (point_came_in (here (suc a)) (here a)) 1 0 in
      record {
        so_far_lem = k.so_far_lem + x;
        some_read = omega (arith, k.some_read);
        few = omega (arith, k.few, one_at_most (point_came_in (here (suc a)) (here a)));
        stands = ap (λ (w : Walk). move_walk w p.labels) k.stands
            ∙ rw (e, m) (moves-back a (n + j) k.so_far_lem d (omega arith) k.some_read k.few);
      }

  -- on {v} with one before it
  on-start : (n read : ℕ) → move_answer (facing_back p 0 n read) p.labels ≡ refused 20
  on-start n read =
      not_20 (facing_back p 0 n read) p.labels ok (λ k. never_start k.came follows.follows.begins)

  stops_at : (i n read : ℕ) → suc i < path_length p → n + i ≤ suc (bound p.grid) → 1 ≤ read → read ≤ n
      → let w = after_calls i (facing_back p i n read) p.labels in
      (w.present ≡ p.start ∷ []) × (move_answer w p.labels ≡ refused 20)
  stops_at i n read c b r f =
      let k = calls_back i i n read c (omega arith) b r f in
      let z : i - i ≡ 0 = omega arith in (
        rw (k.stands, z) follows.follows.begins,
        rw (k.stands, z) (on-start (n + i) k.so_far_lem),
      )

  -- the run's trail, read up to its last record
  trail_at : (i : ℕ) → i < path_length p → (others rest : List ℕ)
      → reading (with_labels p others) (trail_of p visited ++ rest) (suc i)
      ≡ reading_of (with_labels p others) (called p i).read (some (called p i).present)
  unfolding reading
  trail_at i c others rest =
      rw (
        stands i c,
        (path_trail (accepted-table ok)).labels_so_far others rest i c,
        (path_trail (accepted-table ok)
            ).reads others rest i c,
      )

  pub calls_follow : CallsFollow p
  calls_follow = record {
    stands = stands;
    moves = moves;
    shows = shows;
    ends = λ b n read k j v s q.
        let r = run-ended b n read k j v s q in
        (places-at n r.0, read_at n r.0 ∙ sym r.1, rw r.0 r.2);
    agree = λ b n read k j v s q others rest.
        let r = run-ended b n read k j v s q in
        let e : (called p (pred n)).read ≡ read = read_at n r.0 ∙ sym r.1 in
        let z : n ≡ suc (pred n) = (let c = follows.follows.nonempty in omega (arith, r.0)) in
        let c : pred n < path_length p = omega (arith, r.0, z) in (
          e,
          subst (λ (i : ℕ). reading (with_labels p others) (trail_of p visited ++ rest) i
              ≡ reading_of (with_labels p others) read (some (called p (pred n)).present)) (sym z)
              (trail_at (pred n) c others rest ∙ ap
              (λ (i : ℕ). reading_of (with_labels p others) i (some (called p (pred n)).present)) e),
        );
    gap = λ b n i q. let r = run-asks b n i q in let z : n ≡ last = ap pred r.0 in (places-at (suc n) r.0, rw z r.1);
    back = moves-back;
    home = λ i j n read c l b r f. let k = calls_back i j n read c l b r f in (
      ap (λ (w : Walk). w.present) k.stands,
      ap (λ (w : Walk). w.before) k.stands,
      ap (λ (w : Walk). w.places) k.stands,
    );
    stops = stops_at;
  }
