-- A run that goes from place to place by links, never straight back, follows the path; an end that it meets is the
-- path's, and so is a point without a label. Assumes nothing.
use mathlib.Core.Bool.{true, false, not}
use mathlib.Core.List.{List, [], ◌∷◌, ◌++◌, map}
use mathlib.Core.Logic.{⊎_elim}
use mathlib.Core.Option.{Option, none, some}
use mathlib.Core.Path.{◌≡◌, refl, sym, ap, ◌∙◌, subst₂}
use Prim.Native.Nat.{ℕ, zero, suc, pred, ◌≤◌, ◌<◌}
use lib.ListN.{length, length-append, get_or-append}
use lib.Seq.{get_or_at}
use native.Mathlib.Omega.{arith}
use Rattle.combinatorics.proofs.Lists.{all_in, only-list, in_filter}
use Rattle.combinatorics.proofs.Basics.{absurd_bool, same_or, false_of}
use Rattle.combinatorics.specs.Lists.{is_in}
use Rattle.grid_points.proofs.Points.{on_points}
use Rattle.grid_points.specs.Grid.{Point, same_point, position}
use Rattle.place.specs.Ends.{End, Way, stop, link, ends, ways}
use Rattle.place.specs.Links.{linked}
use Rattle.place.specs.Path.{is_back, ways_on, path, path_length, unknown, answer, same_simplex}
use Rattle.place.specs.Places.{Simplex, is_place, all_labelled, unlabelled}
use Rattle.place.specs.Problem.{Problem, has_label}
use Rattle.path_laws.proofs.Gaps.{the_gap}
use Rattle.path_laws.proofs.PathSteps.{links_on, ways_on_split}
use Rattle.path_laws.proofs.Simplices.{simplex_sound}
use Rattle.path_laws.proofs.Theorem.{demand3_holds, run-follows, run-whole}
use Rattle.path_laws.proofs.Ways.{IsWay, by_link, on_ways, in_ways}
use Rattle.path_laws.specs.Demand.{HasTable, Follows, place_at, last_place, left_at}

-- where the first way on is a link there is no end, and where it is an end that is the first
link-first : (es : List End) (ts : List Simplex) (y : Simplex) → map stop es ++ map link ts ≡ link y ∷ [] → es ≡ []
link-first [] ts y e = refl
link-first (d ∷ es) ts y e = absurd_bool (cc)

end-first : (ds : List End) (ts : List Simplex) (e : End) → map stop ds ++ map link ts ≡ stop e ∷ []
    → (es : List End) × (ds ≡ e ∷ es)
end-first [] [] e q = absurd_bool (cc)
end-first [] (t ∷ ts) e q = absurd_bool (cc)
end-first (d ∷ ds) ts e q = (ds, cc)

module _ {p : Problem} (ok : HasTable p) {s : List Simplex} (follows : Follows p s) (k : ℕ)
    (many : length s ≡ suc k) where
  not_back : (l : Option Simplex) (y : Simplex) → (l ≡ some y → ⊥) → is_back l (link y) ≡ false
  not_back none y n = refl
  not_back (some x) y n = false_of (same_simplex x y) (λ e. n (ap (λ (z : Simplex). some z) (simplex_sound x y e)))

  end_not_back : (l : Option Simplex) (e : End) → is_back l (stop e) ≡ false
  end_not_back none e = refl
  end_not_back (some x) e = refl

  pub below_length : k < path_length p
  below_length = (run-follows ok s follows k (omega arith)).0

  -- the run does not come back to {v}
  pub not_start : (left : Simplex) → left_at s k ≡ some left → place_at s k ≡ p.start ∷ [] → ⊥
  not_start left e q = go k many e q
    where
      go : (k : ℕ) → length s ≡ suc k → left_at s k ≡ some left → place_at s k ≡ p.start ∷ [] → ⊥
      go zero m e q = absurd_bool (cc)
      go (suc i) m e q =
          let a = run-follows ok s follows 0 (omega arith) in
          let b = run-follows ok s follows (suc i) (omega arith) in
          let c : place_at (path p).visited 0 ≡ place_at (path p).visited (suc i) =
          sym a.1 ∙ follows.begins ∙ sym q ∙ b.1 in
          (demand3_holds ok).once 0 (suc i) (omega arith) b.0 (λ y. ap (λ (x : Simplex). is_in same_point y x) c)

  -- a point without a label at its last place is the one that the answer asks for
  pub asks-path : (y : Point) → is_in same_point y (place_at s k) ≡ true → has_label p y ≡ false
      → (path_length p ≡ suc k) × ((b : ℕ) → suc k ≤ b → answer p b ≡ unknown k (position p.grid y))
  asks-path y m f =
      let q : pred (length s) ≡ k = omega arith in
      let w : s ≡ (path p).visited = run-whole ok s follows
      (λ own n. absurd_bool (sym (all_in on_points (has_label p) (place_at s k) (rw q at own) y m) ∙ f)) in
      let l : path_length p ≡ suc k = ap length (sym w) ∙ many in
      let g : unlabelled p (place_at s k) ≡ y ∷ [] =
      the_gap ok.has_start (place_at s k) (follows.places k (omega arith)) y m f in
      let z : pred (path_length p) ≡ k = omega arith in
      let v : unlabelled p (last_place (path p).visited) ≡ y ∷ [] = rw (z, ← w) g in
      (l, (λ b c. (demand3_holds ok).asks y v b (omega arith) ∙ rw z))

  -- where each point of its last place has a label
  module _ (own : all_labelled p (place_at s k) ≡ true) where
    -- there is one way on
    one_way : length (ways_on p (left_at s k) (place_at s k)) ≡ 1
    one_way =
        let f = run-follows ok s follows k (omega arith) in
        subst₂ (λ (l : Option Simplex) (h : Simplex). length (ways_on p l h) ≡ 1) (sym f.2) (sym f.1)
        ((demand3_holds ok).one k f.0 (rw f.1 at own))

    only_way : {w : Way} → IsWay p (place_at s k) w → is_back (left_at s k) w ≡ false
        → map stop (ends p (place_at s k)) ++ map link (links_on p (left_at s k) (place_at s k)) ≡ w ∷ []
    unfolding ways_on
    only_way {w} i b = sym (ways_on_split p (left_at s k) (place_at s k))
        ∙ only-list on_ways w (ways_on p (left_at s k) (place_at s k)) (omega (arith, one_way))
        (in_filter on_ways (λ w. not (is_back (left_at s k) w)) w (ways p (place_at s k))
        (in_ways p (place_at s k) ok.has_start.same_number i) (rw b))

    -- an end of its last place is the path's
    pub ends-path : (e : End) → IsWay p (place_at s k) (stop e) → ((path p).end ≡ some e) × (path_length p ≡ suc k)
    ends-path e i =
        let f = end-first (ends p (place_at s k)) (links_on p (left_at s k) (place_at s k)) e
        (only_way i (end_not_back (left_at s k) e)) in
        let q : k ≡ pred (length s) = omega arith in
        let o = (demand3_holds ok).only s e (record {
          follows = follows;
          whole = rw (← q) own;
          finishes = (f.0, ap (λ (i : ℕ). ends p (place_at s i)) (sym q) ∙ f.1);
        }) in
        (o.1, ap length (sym o.0) ∙ many)

    -- by a link other than the way back the run goes on
    module _ (y : Simplex) (place : is_place p y ≡ true) (joined : linked p (place_at s k) y ≡ true)
        (onward : left_at s k ≡ some y → ⊥) where
      before : (i : ℕ) → i ≤ k → place_at (s ++ (y ∷ [])) i ≡ place_at s i
      before i l = get_or-append s (y ∷ []) [] i (omega arith)

      new : place_at (s ++ (y ∷ [])) (suc k) ≡ y
      new = get_or_at s y [] [] (suc k) many

      longer : length (s ++ (y ∷ [])) ≡ suc (suc k)
      longer = omega (arith, length-append s (y ∷ []))

      at_or : (Q : ℕ → Type 0) → ((i : ℕ) → i < k → Q i) → Q k → (i : ℕ) → i ≤ k → Q i
      at_or Q a b i l = ⊎_elim (λ (e : i ≡ k). rw e b) (λ (n : i ≡ k → ⊥). a i (omega (arith, n))) (same_or i k)

      no_end : ends p (place_at s k) ≡ []
      no_end = link-first (ends p (place_at s k)) (links_on p (left_at s k) (place_at s k)) y
          (only_way (by_link y place joined) (not_back (left_at s k) y onward))

      turns : (i : ℕ) → suc i ≡ k → place_at s i ≡ y → ⊥
      turns i e q = onward (rw (← e) (ap (λ (z : Simplex). some z) q))

      pub goes_on_lem : Follows p (s ++ (y ∷ []))
      goes_on_lem = record {
        nonempty = omega (arith, longer);
        begins = before 0 (omega arith) ∙ follows.begins;
        places = λ i l. ⊎_elim
            (λ (e : i ≡ suc k). rw (e, new) place)
            (λ (n : i ≡ suc k → ⊥).
            rw (before i (omega (arith, longer, n))) (follows.places i (omega (arith, longer, n))))
            (same_or i (suc k));
        links = λ i l. at_or
            (λ i. linked p (place_at (s ++ (y ∷ [])) i) (place_at (s ++ (y ∷ [])) (suc i)) ≡ true)
            (λ i l. rw (before i (omega arith), before (suc i) l) (follows.links i (omega arith)))
            (rw (before k (omega arith), new) joined) i (omega (arith, longer));
        onward = λ i l q. ⊎_elim
            (λ (e : suc i ≡ k).
            turns i e (sym (before i (omega arith)) ∙ q ∙ ap (λ (j : ℕ). place_at (s ++ (y ∷ [])) (suc j)) e ∙ new))
            (λ (n : suc i ≡ k → ⊥). follows.onward i (omega (arith, longer, n))
            (sym (before i (omega (arith, longer, n))) ∙ q ∙ before (suc (suc i)) (omega (arith, longer, n))))
            (same_or (suc i) k);
        passes = λ i l. at_or
            (λ i. ends p (place_at (s ++ (y ∷ [])) i) ≡ [])
            (λ i l. rw (before i (omega arith)) (follows.passes i (omega arith)))
            (rw (before k (omega arith)) no_end) i (omega (arith, longer));
        known = λ i l. at_or
            (λ i. all_labelled p (place_at (s ++ (y ∷ [])) i) ≡ true)
            (λ i l. rw (before i (omega arith)) (follows.known i (omega arith)))
            (rw (before k (omega arith)) own) i (omega (arith, longer));
      }
