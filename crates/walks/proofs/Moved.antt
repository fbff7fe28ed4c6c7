-- What holds of every walk and table. In order: what a call that moves tells; a walk that has been moved; where it came
-- from. Assumes nothing.
use mathlib.Core.Bool.{Bool, true, false, not, cond}
use mathlib.Core.List.{List, [], ◌∷◌}
use mathlib.Core.Logic.{◌↔◌, ◌⊎◌, inl, inr, ⊎_elim}
use mathlib.Core.Option.{Option, none, some}
use mathlib.Core.Path.{◌≡◌, refl, sym, ap, ◌∙◌, subst}
use Prim.Native.Nat.{ℕ, zero, suc, ◌≤◌, ◌<◌}
use borrow.Author.Tests.{ne_eqb, not-true}
use lib.ListN.{length}
use native.Mathlib.Omega.{arith}
use Rattle.combinatorics.proofs.Basics.{absurd_bool, before_or_not, false_of, same_or, true_or_false}
use Rattle.combinatorics.proofs.Lists.{filter_in, in_here}
use Rattle.grid_points.specs.Grid.{bound}
use Rattle.place.specs.Ends.{Way, stop, link, ways}
use Rattle.place.specs.LabelsRead.{point_came_in}
use Rattle.place.specs.Links.{links}
use Rattle.place.specs.Path.{is_back, ways_on, same_simplex}
use Rattle.place.specs.Places.{Simplex, is_place, all_labelled}
use Rattle.place.specs.Problem.{Problem}
use Rattle.path_laws.proofs.FromTwoWays.{among_two, back, in_links, length-ways}
use Rattle.path_laws.proofs.LinkSymmetry.{place_same}
use Rattle.path_laws.proofs.PathSteps.{Link}
use Rattle.path_laws.proofs.Simplices.{simplex_sound, simplex_self}
use Rattle.path_laws.proofs.Theorem.{two_ways}
use Rattle.path_laws.proofs.Ways.{IsWay, by_place, by_facet, by_link, on_ways, way-is}
use Rattle.path_laws.specs.Demand.{Accepted, SamePoints}
use Rattle.questions.specs.Questions.{first_no}
use Rattle.trail.proofs.LinkRules.{rule_of-link}
use Rattle.trail.proofs.Rules.{rules-are}
use Rattle.trail.specs.Change.{change, ByRule}
use Rattle.trail.specs.Record.{fields, encoded, record_of}
use Rattle.walks.proofs.Local.{next-local}
use Rattle.walks.proofs.Meaning.{Came, begins, came, Stands, stands_of, Passes, passes_of, meets_20, meets_16}
use Rattle.walks.proofs.Meaning.{of_passes, one_way_on}
use Rattle.walks.specs.Claims.{Calls}
use Rattle.walks.specs.Next.{Outcome, refused, ended, moved, on_move, by_way, next_of, rule_of, move_answer, moved_to}
use Rattle.walks.specs.Next.{walk_after, move_walk, after_calls}
use Rattle.walks.specs.Preview.{Move, move_to, preview, seen}
use Rattle.walks.specs.Walk.{Walk, SameBefore, SameParts, none_before, same_before, labels_of, over, walk_questions}

-- a link to a place other than the one before
pub record Onward (p : Problem) (l : Option Simplex) (here s : Simplex) : Type 0 where
  pub joins : Link p here s
  pub away : is_back l (link s) ≡ false

way_link : {p : Problem} {here s : Simplex} → is_place p here ≡ true → {w : Way} → IsWay p here w → w ≡ link s
    → Link p here s
way_link h (by_place j l c) q = absurd_bool (cc)
way_link h (by_facet f j m t l c) q = absurd_bool (cc)
way_link {p} {here} {s} h (by_link t k l) q = let z : t ≡ s = cc in rw (← z) (record { from = h; to = k; by = l })

onward_of : {p : Problem} {l : Option Simplex} {here s : Simplex} {ws : List Way} → is_place p here ≡ true
    → ways_on p l here ≡ link s ∷ ws → Onward p l here s
unfolding ways_on
onward_of {p} {l} {here} {s} {ws} h q =
    let m = filter_in on_ways (λ w. not (is_back l w)) (link s) (ways p here) (rw q (in_here on_ways (link s) ws)) in
    record { joins = way_link h (way-is p here (link s) m.0) refl; away = not-true _ m.1 }

by_link_lem : (l : List Way) (s : Simplex) → by_way l ≡ moved s → (ws : List Way) × (l ≡ link s ∷ ws)
by_link_lem [] s e = absurd_bool (cc)
by_link_lem (stop f ∷ ws) s e = absurd_bool (cc)
by_link_lem (link t ∷ ws) s e = let z : t ≡ s = cc in (ws, rw z)

module _ (w : Walk) (labels : List ℕ) where
  abbrev p : Problem
  p = over w labels

  pub next-refused : (n : ℕ) → (n ≡ 0 → ⊥) → first_no (walk_questions w labels) ≡ n → next_of w labels ≡ refused n
  unfolding next_of
  next-refused n ne e = rw (e, ne_eqb n 0 ne)

  pub next-onward : first_no (walk_questions w labels) ≡ 0 → next_of w labels ≡ by_way (ways_on p w.before w.present)
  unfolding next_of
  next-onward e = rw e

  -- a walk that is moved is not refused, and goes by a link
  pub moved_passes : (s : Simplex) → next_of w labels ≡ moved s → Passes w labels × Onward p w.before w.present s
  moved_passes s e =
      ⊎_elim (λ z.
      let k = passes_of w labels z in
      let b = by_link_lem (ways_on p w.before w.present) s (sym (next-onward z) ∙ e) in
      (k, onward_of k.stands.place b.1))
      (λ ne. absurd_bool (let q = next-refused (first_no (walk_questions w labels)) ne refl in cc))
      (same_or (first_no (walk_questions w labels)) 0)

  pub moved-next : (r : ℕ) → move_answer w labels ≡ moved r → (s : Simplex) × (next_of w labels ≡ moved s)
  unfolding move_answer
  moved-next r e = go (next_of w labels) refl e
    where
      go : (o : Outcome Simplex) → next_of w labels ≡ o → on_move (rule_of p w.present) o ≡ moved r
          → (s : Simplex) × (next_of w labels ≡ moved s)
      go (refused n) q e = absurd_bool (cc)
      go (ended k b s) q e = absurd_bool (cc)
      go (moved s) q e = (s, q)

  walk-next : (s : Simplex) → next_of w labels ≡ moved s → move_walk w labels ≡ moved_to p w s
  unfolding move_walk
  walk-next s e = rw e

  -- the rule is that of the change
  by_rule_lem : (s : Simplex) → next_of w labels ≡ moved s → ByRule (change p w.present s) (rule_of p w.present s)
  unfolding rule_of
  by_rule_lem s e =
      let k = moved_passes s e in
      let j = k.1.joins in
      let b = rule_of-link k.0.accepted.has_start w.present s j.from j.to k.0.known j.by in
      rw (rules-are b.1) b.1

  moved-rule : (r : ℕ) → move_answer w labels ≡ moved r → ByRule (change p w.present (move_walk w labels).present) r
  unfolding move_answer
  moved-rule r e = go (moved-next r e)
    where
      go : (s : Simplex) × (next_of w labels ≡ moved s) → ByRule (change p w.present (move_walk w labels).present) r
      go m =
          let q : rule_of p w.present m.0 ≡ r = (let z = m.1 in cc) in
          rw (walk-next m.0 m.1, ← q) (by_rule_lem m.0 m.1)

  pub answer-refused : (n : ℕ) → (n ≡ 0 → ⊥) → first_no (walk_questions w labels) ≡ n → move_answer w labels ≡ refused n
  unfolding move_answer
  answer-refused n ne e = rw (next-refused n ne e)

  -- a walk with a way on is not refused
  one_not_refused : (l : List Way) → length l ≡ 1 → (n : ℕ) → on_move (rule_of p w.present) (by_way l) ≡ refused n → ⊥
  one_not_refused [] c n e = omega arith
  one_not_refused (stop f ∷ ws) c n e = absurd_bool (cc)
  one_not_refused (link t ∷ ws) c n e = absurd_bool (cc)

  passes-answers : Passes w labels → (n : ℕ) → move_answer w labels ≡ refused n → ⊥
  unfolding move_answer
  passes-answers k n e =
      one_not_refused (ways_on p w.before w.present) (one_way_on w labels k) n
      (ap (on_move (rule_of p w.present)) (sym (next-onward (of_passes w labels k))) ∙ e)

  refuses : (n : ℕ) → (move_answer w labels ≡ refused n) ↔ ((first_no (walk_questions w labels) ≡ n) × (0 < n))
  refuses n = (
    (λ e. ⊎_elim
        (λ z. absurd (passes-answers (passes_of w labels z) n e))
        (λ (ne : first_no (walk_questions w labels) ≡ 0 → ⊥).
        let q = answer-refused (first_no (walk_questions w labels)) ne refl in
        let z : first_no (walk_questions w labels) ≡ n = cc in
        (z, omega (arith, ne)))
        (same_or (first_no (walk_questions w labels)) 0)),
    (λ k. answer-refused n (λ z. absurd (omega (arith, k.1))) k.0),
  )

  -- 20 is met exactly by what is not a walk
  pub is_20 : Accepted p → move_answer w labels ≡ refused 20 → Stands p w → ⊥
  is_20 ok e k =
      ⊎_elim (λ own. passes-answers (record { accepted = ok; stands = k; known = own }) 20 e)
      (λ f. let z = answer-refused 16 (λ z. absurd (omega arith)) (meets_16 w labels ok k f) in
      let y : ◌≡◌ {A = ℕ} 16 20 = cc in omega arith)
      (true_or_false (all_labelled p w.present))

  pub not_20 : Accepted p → (Stands p w → ⊥) → move_answer w labels ≡ refused 20
  not_20 ok n =
      answer-refused 20 (λ z. absurd (omega arith)) (meets_20 w labels ok (false_of _ (λ h. n (stands_of p w h))))

  -- a call that does not move leaves the walk as it is, however often it is made
  unmoved : ((r : ℕ) → move_answer w labels ≡ moved r → ⊥) → move_walk w labels ≡ w
  unfolding move_answer move_walk
  unmoved never = go (next_of w labels) never
    where
      go : (o : Outcome Simplex) → ((r : ℕ) → on_move (rule_of p w.present) o ≡ moved r → ⊥) → walk_after p w o ≡ w
      go (refused n) never = refl
      go (ended k b t) never = refl
      go (moved t) never = absurd (never (rule_of p w.present t) refl)

  stays : ((r : ℕ) → move_answer w labels ≡ moved r → ⊥) → (n : ℕ) → after_calls n w labels ≡ w
  stays never zero = refl
  stays never (suc n) = ap (λ (x : Walk). move_walk x labels) (stays never n) ∙ unmoved never

  -- the preview
  shown : preview w labels ≡ seen w labels (move_answer w labels) (move_walk w labels)
  unfolding preview move_answer move_walk
  shown = go (next_of w labels)
    where
      go : (o : Outcome Simplex)
          → on_move (move_to p w.present) o ≡ seen w labels (on_move (rule_of p w.present) o) (walk_after p w o)
      go (refused n) = refl
      go (ended l c t) = refl
      go (moved t) = refl

  named : (m : Move) → preview w labels ≡ moved m
      → ByRule m.change m.rule
      × (encoded (fields m.change) ≡ record_of p w.present (move_walk w labels).present)
  unfolding preview record_of
  named m e = go (next_of w labels) refl e
    where
      go : (o : Outcome Simplex) → next_of w labels ≡ o → on_move (move_to p w.present) o ≡ moved m
          → ByRule m.change m.rule
          × (encoded (fields m.change) ≡ encoded (fields (change p w.present (move_walk w labels).present)))
      go (refused n) q e = absurd_bool (cc)
      go (ended l c t) q e = absurd_bool (cc)
      go (moved t) q e =
          let z : move_to p w.present t ≡ m = cc in
          rw (← z)
          (by_rule_lem t q, ap (λ (x : Walk). encoded (fields (change p w.present x.present))) (sym (walk-next t q)))

-- what has one before it is not {v}
pub never_start : {p : Problem} {a s : Simplex} → Came p (some a) s → s ≡ p.start ∷ [] → ⊥
never_start (came j ne) q = ne q

pub one_at_most : (b : Bool) → cond b 1 0 ≤ 1
one_at_most true = omega arith
one_at_most false = omega arith

-- a walk that has been moved on: the conditions of question 20 are down to two
module _ (w : Walk) (labels : List ℕ) {s : Simplex}
    (k : Passes w labels × Onward (over w labels) w.before w.present s) where
  stands-next : (s ≡ w.start ∷ [] → ⊥) → suc w.places ≤ bound w.grid
      → Stands (over w labels) (moved_to (over w labels) w s)
  stands-next ne b = record {
    place = k.1.joins.to;
    came = came k.1.joins ne;
    some = omega arith;
    bounded = b;
    carries = refl;
    read = omega (arith, k.0.stands.read);
    read_few = omega (arith, k.0.stands.read_few, one_at_most (point_came_in w.present s));
  }

  next_20 : (move_answer (moved_to (over w labels) w s) labels ≡ refused 20)
      ↔ ((s ≡ w.start ∷ []) ⊎ (bound w.grid < suc w.places))
  next_20 = (forth, back_20)
    where
      forth : move_answer (moved_to (over w labels) w s) labels ≡ refused 20
          → (s ≡ w.start ∷ []) ⊎ (bound w.grid < suc w.places)
      forth e =
          ⊎_elim (λ q. inl (simplex_sound s (w.start ∷ []) q))
          (λ q. ⊎_elim (λ b. inr b)
          (λ b. absurd (is_20 (moved_to (over w labels) w s) labels k.0.accepted e
          (stands-next (λ z. absurd_bool (sym (simplex_self (w.start ∷ [])) ∙ (rw z at q))) b)))
          (before_or_not (bound w.grid) (suc w.places)))
          (true_or_false (same_simplex s (w.start ∷ [])))

      back_20 : (s ≡ w.start ∷ []) ⊎ (bound w.grid < suc w.places)
          → move_answer (moved_to (over w labels) w s) labels ≡ refused 20
      back_20 c =
          not_20 (moved_to (over w labels) w s) labels k.0.accepted
          (λ j. ⊎_elim (λ q. never_start j.came q) (λ b. omega (arith, j.bounded)) c)

-- two walks that stand at one place and go on to one place came from one place, or both from none
one_origin : {p : Problem} → Accepted p → {l m : Option Simplex} {here there s : Simplex} → here ≡ there
    → Came p l here → Came p m there → all_labelled p here ≡ true → Onward p l here s → Onward p m here s → l ≡ m
one_origin ok q begins begins own a b = refl
one_origin ok q begins (came k ne) own a b = absurd (ne (sym q))
one_origin ok q (came k ne) begins own a b = absurd (ne q)
one_origin {p} ok {s = s} q (came {a = x} {s = here} k ne) (came {a = y} j _) own a b = ⊎_elim
    (λ e. ap (λ (z : Simplex). some z) e)
    (λ e. ⊎_elim (λ e. absurd (apart x e a.away)) (λ e. absurd (apart y e b.away)) e)
    (among_two x y s (links p here) (omega (arith, length-ways p here, (two_ways ok.has_start).other here k.to own ne))
    (in_links ok.has_start (back x here k))
    (in_links ok.has_start (back y here (subst (λ (z : Simplex). Link p y z) (sym q) j)))
    (in_links ok.has_start a.joins))
  where
    apart : (z : Simplex) → z ≡ s → same_simplex z s ≡ false → ⊥
    apart z e f = absurd_bool (sym (simplex_self s) ∙ (rw e at f))

-- All of two walks but their labels read. Where both are moved, and the moved walks agree in request 08's five parts,
-- they are the same: the carried labels are the table's.
pub record SameButRead (w x : Walk) : Type 0 where
  pub grid : w.grid ≡ x.grid
  pub start : w.start ≡ x.start
  pub present : w.present ≡ x.present
  pub before : w.before ≡ x.before
  pub places : w.places ≡ x.places
  pub carried : w.carried ≡ x.carried

module _ (labels : List ℕ) (w x : Walk) {s t : Simplex} (e : next_of w labels ≡ moved s) (f : next_of x labels ≡ moved t)
    (same : SameParts (moved_to (over w labels) w s) (moved_to (over x labels) x t)) where
  same-problem : over x labels ≡ over w labels
  same-problem = λ i. record { grid = sym same.grid i; start = sym same.start i; labels = labels }

  moved-from : SameButRead w x × (s ≡ t)
  moved-from =
      let a = moved_passes w labels s e in
      let b = subst
      (λ (p : Problem). (Accepted p) × (Came p x.before x.present) × (is_place p x.present ≡ true)
      × Onward p x.before x.present t × (x.carried ≡ labels_of p x.present))
      same-problem
      (let b = moved_passes x labels t f in
      (b.0.accepted, b.0.stands.came, b.0.stands.place, b.1, b.0.stands.carries)) in
      let h : w.present ≡ x.present =
      place_same (over w labels) w.present x.present a.0.stands.place b.2 (points same.before) in
      let q : s ≡ t = place_same (over w labels) s t a.1.joins.to b.3.joins.to same.present in (
        record {
          grid = same.grid;
          start = same.start;
          present = h;
          before = one_origin a.0.accepted refl a.0.stands.came (rw (← h) at b.1) a.0.known a.1
              (rw (← q) at (rw (← h) at b.3));
          places = let z = same.places in omega arith;
          carried = a.0.stands.carries ∙ ap (labels_of (over w labels)) h ∙ sym b.4;
        },
        q,
      )
    where
      points : SameBefore (some w.present) (some x.present) → SamePoints w.present x.present
      points (same_before k) = k

  parts_from : SameParts w x
  parts_from = let k = moved-from.0 in record {
    grid = k.grid;
    start = k.start;
    present = rw k.present (λ y. refl);
    before = rw k.before (self x.before);
    places = k.places;
  }
    where
      self : (o : Option Simplex) → SameBefore o o
      self none = none_before
      self (some a) = same_before (λ y. refl)

  walk_from : (moved_to (over w labels) w s).read ≡ (moved_to (over x labels) x t).read → w ≡ x
  walk_from r =
      let k = moved-from.0 in
      let m : w.read ≡ x.read = (let z = rw (← k.present, ← moved-from.1) at r in omega (arith, z)) in
      λ i. record {
        grid = k.grid i;
        start = k.start i;
        present = k.present i;
        before = k.before i;
        places = k.places i;
        carried = k.carried i;
        read = m i;
      }

-- all of it
pub calls_hold : (w : Walk) (labels : List ℕ) → Calls w labels
calls_hold w labels = record {
  refuses = refuses w labels;
  one = λ e. one_way_on w labels (passes_of w labels e);
  rule = moved-rule w labels;
  next = λ r e.
      let m = moved-next w labels r e in
      rw (walk-next w labels m.0 m.1) (next_20 w labels (moved_passes w labels m.0 m.1));
  back = λ r e q others ok.
      let m = moved-next w labels r e in
      let z = walk-next w labels m.0 m.1 in
      rw z (not_20 (moved_to (over w labels) w m.0) others ok (λ j. never_start j.came (rw z at q)));
  local = λ others ok ok_others k. next-local w labels others ok ok_others k;
  shown = shown w labels;
  named = named w labels;
  still = λ k b s e. stays w labels (λ r f. absurd_bool (cc));
  unchanged = λ n e. stays w labels (λ r f. absurd_bool (cc));
  once = λ x r q e f same.
      let m = moved-next w labels r e in
      let n = moved-next x labels q f in
      let k = rw (walk-next w labels m.0 m.1, walk-next x labels n.0 n.1) at same in
      walk_from labels w x m.1 n.1 k.parts k.read;
  once_parts = λ x r q e f same.
      let m = moved-next w labels r e in
      let n = moved-next x labels q f in
      parts_from labels w x m.1 n.1 (rw (walk-next w labels m.0 m.1, walk-next x labels n.0 n.1) at same);
}
