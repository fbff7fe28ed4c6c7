-- Calls from the walk at {v} on, of the structs that they leave. In order: along the path to its end or its gap; a walk
-- that is turned; the way back. Assumes nothing.
use mathlib.Core.Bool.{Bool, true, false, cond}
use mathlib.Core.List.{List}
use mathlib.Core.Option.{Option, none, some}
use mathlib.Core.Path.{◌≡◌, refl, sym, ap, ◌∙◌}
use Prim.Native.Nat.{ℕ, suc, pred, ◌≤◌, ◌<◌}
use lib.Dec.{ltb}
use lib.ListN.{length}
use native.Mathlib.Omega.{arith}
use Rattle.combinatorics.proofs.Basics.{absurd_bool}
use Rattle.end_kinds.specs.declared.Kind.{Kind}
use Rattle.grid_points.specs.Grid.{Grid, Point}
use Rattle.path_laws.proofs.Accepted.{accepted-is, accepted-table}
use Rattle.path_laws.proofs.LabelsRead.{came_few}
use Rattle.path_laws.proofs.Theorem.{demand3_holds}
use Rattle.path_laws.specs.Demand.{Accepted, place_at}
use Rattle.place.specs.Ends.{End}
use Rattle.place.specs.LabelsRead.{came_in}
use Rattle.place.specs.Path.{path, path_length, ended as run_ended, spent, outcome, answer}
use Rattle.place.specs.Places.{Simplex}
use Rattle.place.specs.Problem.{Problem, label}
use Rattle.walks.proofs.Follow.{calls_follow}
use Rattle.walks.specs.Claims.{CallsFollow, called, facing_back, walk_at}
use Rattle.walks.specs.Next.{Outcome, after_calls, move_answer}
use Rattle.walks.specs.Preview.{preview}
use Rattle.walks.specs.Walk.{Walk, walk_at_start}
use Rattle.walk_calls.proofs.OnStructs.{call_ended, call_refused, calls_leave}
use Rattle.walk_calls.specs.Calls.{call_of, told_in}
use Rattle.walk_calls.specs.Claims.{left_after, told_by}
use Rattle.walk_calls.specs.declared.Told.{Told}
use Rattle.walk_places.proofs.Held.{place-before}
use Rattle.walk_places.specs.Walks.{before_of, carried_of, place_of, walk_grid, walk_of}
use Rattle.walk_places.specs.declared.Walk.{Walk as WalkStruct}
use Rattle.walk_views.proofs.Start.{at-start, begins, begun_by}
use Rattle.walk_views.specs.Begun.{begun_of, begun_on, start_walk}
use Rattle.walk_views.specs.Claims.{CallsFollowRun, left_from, turned_at}
use Rattle.walk_views.specs.Turned.{turned_as}
use Rattle.walk_views.specs.declared.Begun.{Begun}

-- the vertices that a run tells are those of its simplex
vertices-are : (p : Problem) (b n read : ℕ) (k : Kind) (j vertices : ℕ) (s : Simplex)
    → answer p b ≡ run_ended n read k j vertices s → vertices ≡ length s
unfolding answer
vertices-are p b n read k j vertices s q = go (ltb b (path_length p)) (path p).end q
  where
    go : (c : Bool) (d : Option End) → cond c (spent b) (outcome p (path p).visited d) ≡ run_ended n read k j vertices s
        → vertices ≡ length s
    go true d q = absurd_bool (cc)
    go false none q = absurd_bool (cc)
    go false (some e) q =
        let f : length e.simplex ≡ vertices = cc in
        let h : e.simplex ≡ s = cc in
        sym f ∙ ap length h

-- a walk with another place before it
abbrev with_before : Walk → Option Simplex → Walk
with_before w before = record {
  grid = w.grid;
  start = w.start;
  present = w.present;
  before = before;
  places = w.places;
  carried = w.carried;
  read = w.read;
}

module _ (g : Grid) (v : Point) (labels : List ℕ) (ok : Accepted (begun_on g v labels)) where
  abbrev p : Problem
  p = begun_on g v labels

  abbrev visited : List Simplex
  visited = (path p).visited

  follows : CallsFollow p
  follows = calls_follow ok

  begun-is : begun_of g v labels ≡ begun_by 0 (start_walk g v (label p v))
  begun-is = sym (begins g v labels (accepted-is ok))

  start_is : walk_of (begun_of g v labels).walk ≡ walk_at_start p
  start_is = ap (λ (b : Begun). walk_of b.walk) begun-is ∙ at-start g v labels (accepted-is ok)

  after : (i : ℕ) → walk_of (left_from g v labels i) ≡ called p i
  after i = (calls_leave (begun_of g v labels).walk labels).leaves i
      ∙ ap (λ (w : Walk). after_calls i w labels) start_is

  tells : (i : ℕ) → told_in (call_of (left_from g v labels i) labels) ≡ told_by (move_answer (called p i) labels)
  tells i = (calls_leave (begun_of g v labels).walk labels).tells i
      ∙ ap (λ (w : Walk). told_by (move_answer (after_calls i w labels) labels)) start_is

  answers : (i : ℕ) (o : Outcome ℕ) → move_answer (called p i) labels ≡ o
      → move_answer (walk_of (left_from g v labels i)) labels ≡ o
  answers i o e = ap (λ (w : Walk). move_answer w labels) (after i) ∙ e

  stands : (i : ℕ) → i < path_length p → walk_of (left_from g v labels i) ≡ walk_at p i
  stands i c = after i ∙ follows.stands i c

  -- a walk that is turned
  grid-at : (i : ℕ) → i < path_length p → walk_grid (left_from g v labels i) ≡ g
  grid-at i c = ap (λ (w : Walk). w.grid) (stands i c)

  next-before : (i : ℕ) → suc i < path_length p
      → before_of g (left_from g v labels (suc i)).present ≡ some (place_at visited (suc i))
  next-before i c =
      let b = (left_from g v labels (suc i)).present in
      let e : place_of g b ≡ place_at visited (suc i) =
      ap (λ (h : Grid). place_of h b) (sym (grid-at (suc i) c)) ∙ ap (λ (w : Walk). w.present) (stands (suc i) c) in
      place-before p ok.has_start b (rw e ((demand3_holds (accepted-table ok)).follows.places (suc i) c))
      ∙ ap (λ (s : Simplex). some s) e

  turned_walk : (w : WalkStruct) (i : ℕ) → walk_of (turned_as w (left_from g v labels i).present)
      ≡ with_before (walk_of w) (before_of (walk_grid w) (left_from g v labels i).present)
  unfolding carried_of
  turned_walk w i = refl

  turned_is : (i : ℕ) → suc i < path_length p
      → walk_of (turned_at g v labels i) ≡ facing_back p i (suc i) (suc (came_in visited i))
  turned_is i c =
      turned_walk (left_from g v labels i) (suc i)
      ∙ ap (λ (h : Grid). with_before (walk_of (left_from g v labels i))
      (before_of h (left_from g v labels (suc i)).present)) (grid-at i (omega arith))
      ∙ ap (λ (b : Option Simplex). with_before (walk_of (left_from g v labels i)) b) (next-before i c)
      ∙ ap (λ (w : Walk). with_before w (some (place_at visited (suc i)))) (stands i (omega arith))

  back : (i j : ℕ) → suc i < path_length p → walk_of (left_after j (turned_at g v labels i) labels)
      ≡ after_calls j (facing_back p i (suc i) (suc (came_in visited i))) labels
  back i j c = (calls_leave (turned_at g v labels i) labels).leaves j
      ∙ ap (λ (w : Walk). after_calls j w labels) (turned_is i c)

  read-few : (i : ℕ) → suc (came_in visited i) ≤ suc i
  read-few i = omega (arith, came_few visited i)

  -- all of it
  pub calls_follow_run : CallsFollowRun g v labels
  calls_follow_run = record {
    begins = ap (λ (b : Begun). b.code) begun-is;
    stands = stands;
    moves = λ i c. ap (λ (t : Told). t.answer) (tells i)
        ∙ ap (λ (o : Outcome ℕ). (told_by o).answer) (follows.moves i c);
    shows = λ i c. ap (λ (w : Walk). preview w labels) (after i) ∙ follows.shows i c;
    ends = λ b n read k j vertices s q.
        let f = follows.ends b n read k j vertices s q in
        let e = ap (λ (w : Walk). w.places) (after (pred n)) in
        let r = ap (λ (w : Walk). w.read) (after (pred n)) in (
          e ∙ f.0,
          r ∙ f.1,
          rw (vertices-are p b n read k j vertices s q)
              (call_ended (left_from g v labels (pred n)) labels k j s (answers (pred n) _ f.2)),
        );
    agree = λ b n read k j vertices s q others rest.
        let f = follows.agree b n read k j vertices s q others rest in
        let r = ap (λ (w : Walk). w.read) (after (pred n)) in
        let h = ap (λ (w : Walk). w.present) (after (pred n)) in
        (r ∙ f.0, rw h f.1);
    gap = λ b n i q.
        let f = follows.gap b n i q in
        let e = ap (λ (w : Walk). w.places) (after n) in
        (e ∙ f.0, call_refused (left_from g v labels n) labels 16 (answers n _ f.1));
    home = λ i j c l b.
        let f = follows.home i j (suc i) (suc (came_in visited i)) c l (omega arith) (omega arith) (read-few i) in
        let e = back i j c in (
          ap (λ (w : Walk). w.present) e ∙ f.0,
          ap (λ (w : Walk). w.before) e ∙ f.1,
          ap (λ (w : Walk). w.places) e ∙ f.2,
        );
    stops = λ i c b.
        let f = follows.stops i (suc i) (suc (came_in visited i)) c (omega arith) (omega arith) (read-few i) in
        let e = back i i c in (
          ap (λ (w : Walk). w.present) e ∙ f.0,
          call_refused (left_after i (turned_at g v labels i) labels) labels 20
              (ap (λ (w : Walk). move_answer w labels) e ∙ f.1),
        );
  }
