-- A table that agrees with another wherever that has an index has the other's path, up to the other's gap, and so its
-- answer. In order: labels and places; the path; the answer. Assumes nothing.
use mathlib.Core.Bool.{Bool, true, false, not}
use mathlib.Core.List.{List, [], ◌∷◌}
use mathlib.Core.Logic.{⊎_elim}
use mathlib.Core.Option.{Option, none, some}
use mathlib.Core.Path.{◌≡◌, refl, sym, ◌∙◌}
use Prim.Native.Nat.{ℕ, suc, pred, ◌≤◌, ◌<◌}
use borrow.Author.Tests.{leb-true}
use lib.Dec.{eqb, leb}
use lib.ListN.{get_or}
use native.Mathlib.Omega.{arith}
use Rattle.combinatorics.proofs.Basics.{absurd_bool, and_both, and_left, and_right, before_or_not}
use Rattle.combinatorics.proofs.Basics.{true_or_false}
use Rattle.combinatorics.proofs.Lists.{all_in, in_all, in_here, in_filter, filter_in, only_member, on_numbers}
use Rattle.combinatorics.specs.Lists.{is_in, same}
use Rattle.grid_points.proofs.Points.{on_points}
use Rattle.grid_points.specs.Grid.{Point, same_point, is_grid_point, position, num_indices}
use Rattle.place.specs.Ends.{End}
use Rattle.place.specs.Path.{path, path_length, PathAnswer, unknown, announcement, answer}
use Rattle.place.specs.Places.{Simplex, set_t, label_set, within, is_unlabelled_place, is_place, all_labelled}
use Rattle.place.specs.Places.{unlabelled}
use Rattle.place.specs.Problem.{Problem, label, has_label, with_labels}
use Rattle.path_laws.proofs.Gaps.{label-named}
use Rattle.path_laws.proofs.Labels.{label_ok}
use Rattle.path_laws.proofs.LinkSymmetry.{parts}
use Rattle.path_laws.proofs.Local.{Agree, set_t-same, unlabelled-same, linked-local, ends-local}
use Rattle.path_laws.proofs.Meaning.{labels_mean}
use Rattle.path_laws.proofs.Run.{asks-path}
use Rattle.path_laws.proofs.Theorem.{demand3_holds, gapless, run-follows}
use Rattle.path_laws.specs.Demand.{HasTable, Follows, place_at, last_place, Stop, at_end, at_gap, Fills, Filling}

module _ (p : Problem) (labels : List ℕ) (fills : Fills p labels) where
  abbrev filled : Problem
  filled = with_labels p labels

  -- a label stays
  label_same : (y : Point) → has_label p y ≡ true → label filled y ≡ label p y
  unfolding label
  label_same y h =
      let l = get_or p.labels (position p.grid y) 0 in
      fills _ (leb-true 1 l (and_left (leb 1 l) (leb l (num_indices p.grid)) h))

  label-stays : (y : Point) → has_label p y ≡ true → has_label filled y ≡ true
  label-stays y h = rw (label_same y h) h

  all_stay : (s : Simplex) → all_labelled p s ≡ true → all_labelled filled s ≡ true
  all_stay s a = in_all on_points _ s (λ y m. label-stays y (all_in on_points (has_label p) s a y m))

  agree : (s : Simplex) → all_labelled p s ≡ true → Agree p labels s
  agree s a y m = label_same y (all_in on_points (has_label p) s a y m)

  label_set-grows : (s : Simplex) (h : ℕ) → is_in eqb h (label_set p s) ≡ true → is_in eqb h (label_set filled s) ≡ true
  label_set-grows s h m =
      let w = (labels_mean p s h).0 m in
      let y = w.1.0 in
      (labels_mean filled s h).1 (w.0, (y, w.1.1, label_same y (label-named p y h w.0 w.1.2) ∙ w.1.2))

  within-grows : (t : List ℕ) (s : Simplex) → within t (label_set p s) ≡ true → within t (label_set filled s) ≡ true
  within-grows t s w =
      in_all on_numbers _ t (λ h m. label_set-grows s h (all_in on_numbers (λ h. is_in eqb h (label_set p s)) t w h m))

  place-stays : (s : Simplex) → is_place p s ≡ true → is_place filled s ≡ true
  unfolding is_place
  place-stays s h =
      let a : Bool = is_unlabelled_place p s in
      let b : Bool = within (set_t p s) (label_set p s) in
      and_both _ _ (unlabelled-same p labels s ∙ and_left a b h)
      (rw (set_t-same p labels s) (within-grows (set_t p s) s (and_right a b h)))

  -- what follows the one path follows the other
  pub follows-filled : (s : List Simplex) → Follows p s → Follows filled s
  follows-filled s k = record {
    nonempty = k.nonempty;
    begins = k.begins;
    places = λ i c. place-stays (place_at s i) (k.places i c);
    links = λ i c.
        linked-local p labels (place_at s i) (place_at s (suc i)) (agree (place_at s i) (k.known i c)) ∙ k.links i c;
    onward = k.onward;
    passes = λ i c. ends-local p labels (place_at s i) (agree (place_at s i) (k.known i c)) ∙ k.passes i c;
    known = λ i c. all_stay (place_at s i) (k.known i c);
  }

differ : (a : PathAnswer) (n read : ℕ) (e : End) (m i : ℕ) → a ≡ announcement n read e → a ≡ unknown m i → ⊥
differ a n read e m i r u = absurd_bool (cc)

-- where the path ends no label is asked for
pub ended_not_asks : {p : Problem} → HasTable p → (e : End) → (path p).end ≡ some e → (b n i : ℕ)
    → answer p b ≡ unknown n i → ⊥
ended_not_asks {p} ok e w b n i q =
    let d = (demand3_holds ok).ended ((gapless ok).1 (e, w)) in
    let a = (demand3_holds ok).asked b n i q in
    differ (answer p b) (path_length p) _ d.end n i (d.announces b (omega (arith, a.0, a.1))) q

module _ {p : Problem} {labels : List ℕ} (ok : HasTable p) (ok_filled : HasTable (with_labels p labels))
    (fills : Fills p labels) where
  length-is : path_length p ≡ suc (pred (path_length p))
  length-is = omega (arith, (demand3_holds ok).follows.nonempty)

  follows : Follows (with_labels p labels) (path p).visited
  follows = follows-filled p labels fills (path p).visited (demand3_holds ok).follows

  same_end : (e : End) → (path p).end ≡ some e
      → ((path p).visited ≡ (path (with_labels p labels)).visited) × ((path (with_labels p labels)).end ≡ some e) → (b : ℕ)
      → answer (with_labels p labels) b ≡ answer p b
  unfolding answer
  same_end e r o b = rw (← o.0, o.1, r)

  without : (y : Point) → get_or labels (position p.grid y) 0 ≡ 0 → has_label (with_labels p labels) y ≡ false
  unfolding label
  without y z = rw z

  same_answer : (b : ℕ) → ((n i : ℕ) → answer p b ≡ unknown n i → get_or labels i 0 ≡ 0)
      → answer (with_labels p labels) b ≡ answer p b
  same_answer b h = go (path p).end refl (demand3_holds ok).stops
    where
      go : (x : Option End) → (path p).end ≡ x → Stop p (last_place (path p).visited) x
          → answer (with_labels p labels) b ≡ answer p b
      go (some e) r (at_end es own w) = same_end e r
          ((demand3_holds ok_filled).only (path p).visited e (record {
            follows = follows;
            whole = all_stay p labels fills (last_place (path p).visited) own;
            finishes = (
              es,
              ends-local p labels (last_place (path p).visited) (agree p labels fills (last_place (path p).visited) own)
                  ∙ w,
            );
          }))
          b
      go none r (at_gap y g) = ⊎_elim
          (λ c.
          ((demand3_holds ok_filled).spends b).1 (omega (
            arith,
            (run-follows ok_filled (path p).visited follows (pred (path_length p)) (omega (arith, length-is))).0,
          ))
          ∙ sym (((demand3_holds ok).spends b).1 c))
          (λ c.
          let a = (demand3_holds ok).asks y g b c in
          let m = (filter_in on_points (λ y. not (has_label p y)) y (last_place (path p).visited)
          (rw g (in_here on_points y []))).0 in
          (asks-path ok_filled follows (pred (path_length p)) length-is y m (without y (h _ _ a))).1 b
          (omega (arith, length-is))
          ∙ sym a)
          (before_or_not b (path_length p))

  -- where the point asked for has a label, all points of the place have one
  gap-filled : (s : Simplex) (y : Point) → unlabelled p s ≡ y ∷ [] → has_label (with_labels p labels) y ≡ true
      → all_labelled (with_labels p labels) s ≡ true
  gap-filled s y g h =
      in_all on_points (has_label (with_labels p labels)) s
      (λ z m. ⊎_elim (λ t. label-stays p labels fills z t)
      (λ f.
      let k : is_in same_point z (unlabelled p s) ≡ true = in_filter on_points (λ y. not (has_label p y)) z s m (rw f) in
      let e : z ≡ y = only_member on_points z y (y ∷ []) (omega arith) (rw g at k) (in_here on_points y []) in
      rw e h)
      (true_or_false (has_label p z)))

  with_label_lem : (y : Point) → is_grid_point p.grid y ≡ true → 0 < get_or labels (position p.grid y) 0
      → has_label (with_labels p labels) y ≡ true
  unfolding label
  with_label_lem y h l = label_ok ok_filled y h l

  further : (b n i m j : ℕ) → answer p b ≡ unknown n i → 0 < get_or labels i 0
      → answer (with_labels p labels) b ≡ unknown m j → n < m
  further b n i m j q l r = go (path p).end refl (demand3_holds ok).stops
    where
      a : (suc n ≡ path_length p) × (n < b) × (get_or p.labels i 0 ≡ 0)
      a = (demand3_holds ok).asked b n i q

      c : (suc m ≡ path_length (with_labels p labels)) × (m < b) × (get_or labels j 0 ≡ 0)
      c = (demand3_holds ok_filled).asked b m j r

      -- the filled path's places have labels if the last of them is this one
      longer : all_labelled (with_labels p labels) (last_place (path p).visited) ≡ true
          → path_length (with_labels p labels) ≤ path_length p → ⊥
      longer own k =
          let f = run-follows ok_filled (path p).visited follows (pred (path_length p)) (omega (arith, length-is)) in
          let e = (gapless ok_filled).0 (λ x h. ⊎_elim (λ s. (demand3_holds ok_filled).follows.known x s)
          (λ s. let z : x ≡ pred (path_length p) = omega (arith, f.0) in rw (z, ← f.1) own)
          (before_or_not (suc x) (path_length (with_labels p labels)))) in
          ended_not_asks ok_filled e.0 e.1 b m j r

      go : (x : Option End) → (path p).end ≡ x → Stop p (last_place (path p).visited) x → n < m
      go (some e) w k = absurd (ended_not_asks ok e w b n i q)
      go none w (at_gap y g) =
          let t = (demand3_holds ok).asks y g b (omega (arith, a.0, a.1)) in
          let z : i ≡ position p.grid y = cc in
          let v = (filter_in on_points (λ y. not (has_label p y)) y (last_place (path p).visited)
          (rw g (in_here on_points y []))).0 in
          let h = (demand3_holds ok).follows.places (pred (path_length p)) (omega (arith, length-is)) in
          let o = all_in on_points _ (last_place (path p).visited) (parts p _ h).grid_points y v in
          ⊎_elim
          (λ s. omega (arith, a.0, c.0))
          (λ s. absurd (longer (gap-filled (last_place (path p).visited) y g (with_label_lem y o (rw z at l))) s))
          (before_or_not (path_length p) (path_length (with_labels p labels)))

  pub filling_holds : Filling p labels
  filling_holds = record {
    same = same_answer;
    stays = λ b n read e r. same_answer b (λ m i u. absurd (differ (answer p b) n read e m i r u)) ∙ r;
    further = further;
  }
