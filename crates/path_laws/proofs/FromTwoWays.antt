-- Demand 3 for every accepted table, from theorem W. In order: ends are complete; no place stands twice; one way on
-- from each place whose points have labels; the bound; the path stops at an end or at a gap; the answer; the path is
-- the only list that is one; a run follows it; what holds where the path ends; demand 3. Assumes nothing.
use mathlib.Core.Bool.{Bool, true, false, not}
use mathlib.Core.List.{List, [], ◌∷◌, ◌++◌, map}
use mathlib.Core.Logic.{◌⊎◌, inl, inr, ⊎_elim}
use mathlib.Core.Option.{Option, none, some}
use mathlib.Core.Path.{◌≡◌, refl, sym, ap, ◌∙◌, subst₂}
use Prim.Native.Nat.{ℕ, zero, suc, pred, ◌+◌, ◌≤◌, ◌<◌}
use borrow.Author.Tests.{lt-ltb, le-ltb, not-true}
use lib.Dec.{eqb}
use lib.ListN.{length, get_or, length-append, length-map}
use lib.Seq.{ext_get_or}
use native.Mathlib.Omega.{arith}
use Rattle.combinatorics.proofs.Basics.{absurd_bool, and_both, and_left, and_right, before_or_not, false_of}
use Rattle.combinatorics.proofs.Basics.{same_or, true_or_false}
use Rattle.combinatorics.proofs.Lists.{all_in, in_filter, filter_in, in_cases, in_here}
use Rattle.combinatorics.proofs.Lists.{distinct_filter, only_member, pigeon, length_without}
use Rattle.combinatorics.proofs.Route.{Route, apart}
use Rattle.combinatorics.specs.Lists.{filter, all, is_in, distinct, concat_map, same}
use Rattle.end_kinds.specs.declared.Kind.TheVariants.{Facet as facet_end, Place as place_end}
use Rattle.grid_points.proofs.Points.{on_points}
use Rattle.grid_points.specs.Grid.{Point, blocks, position, bound, num_blocks}
use Rattle.place.specs.Ends.{End, Way, stop, link, is_complete, complete_for, place_ends, facet_ends, facets, ends}
use Rattle.place.specs.Ends.{ways}
use Rattle.place.specs.Links.{linked, links}
use Rattle.place.specs.Path.{is_back, ways_on, same_simplex, path_from, path, path_length}
use Rattle.place.specs.LabelsRead.{labels_read}
use Rattle.place.specs.Path.{PathAnswer, spent, unknown, announcement, outcome, answer}
use Rattle.place.specs.Places.{Simplex, is_place, places, set_t, label_set, all_labelled, unlabelled}
use Rattle.place.specs.Problem.{Problem, has_label}
use Rattle.path_laws.proofs.Positions.{in_at}
use Rattle.path_laws.proofs.Bound.{count}
use Rattle.path_laws.proofs.EndPoints.{end-simplex}
use Rattle.path_laws.proofs.Gaps.{one-gap}
use Rattle.path_laws.proofs.Labels.{zero-at}
use Rattle.path_laws.proofs.LinkSymmetry.{parts, place_same, linked-back, linked-other}
use Rattle.path_laws.proofs.Simplices.{simplex_sound, simplex_self, on_simplices}
use Rattle.path_laws.proofs.ListOfPlaces.{places-all, places-distinct}
use Rattle.path_laws.proofs.Start.{start-place}
use Rattle.path_laws.proofs.PathSteps.{links_on, ways_on_split, Trail, stuck, stops, goes, trail, Link, first}
use Rattle.path_laws.proofs.PathSteps.{step_links}
use Rattle.path_laws.proofs.PathSteps.{all-places, onward, passes, known, finish, left_from, unended, more_fuel}
use Rattle.path_laws.proofs.Ways.{IsWay, by_place, by_facet, by_link, same_way, on_ends, on_ways, end_is, in_ways}
use Rattle.path_laws.specs.Demand.{HasStart, HasTable, TwoWays, place_at, last_place, left_at, Follows, IsPath, Stop}
use Rattle.path_laws.specs.Demand.{at_end, at_gap, NoGap, Ended, Demand3}

in_place_at : (l : List Simplex) (s : Simplex) → is_in same_simplex s l ≡ true
    → (j : ℕ) × (j < length l) × (s ≡ place_at l j)
in_place_at l s m = let j = in_at on_simplices [] s l m in (j.0, j.1, sym j.2)

-- apart by position, and so without repeats
distinct_apart : (l : List Simplex) → ((i j : ℕ) → i < j → j < length l → place_at l i ≡ place_at l j → ⊥)
    → distinct same_simplex l ≡ true
distinct_apart [] h = refl
distinct_apart (x ∷ l) h =
    let n : is_in same_simplex x l ≡ false =
    false_of _ (λ m. let k = in_place_at l x m in h 0 (suc k.0) (omega arith) (omega (arith, k.1)) k.2) in
    rw n (distinct_apart l (λ i j a b e. h (suc i) (suc j) (omega arith) (omega arith) e))

-- every end names a block for which its points are complete
all_map : {A B : Type 0} (q : B → Bool) (f : A → B) (r : A → Bool) (xs : List A)
    → ((x : A) → r x ≡ true → q (f x) ≡ true)
    → all q (map f (filter r xs)) ≡ true
all_map q f r [] h = refl
all_map q f r (x ∷ xs) h =
    let i = all_map q f r xs h in
    ⊎_elim (λ t. rw t (and_both _ _ (h x t) i)) (λ e. rw e i) (true_or_false (r x))

all_join : {A : Type 0} (q : A → Bool) (xs ys : List A) → all q xs ≡ true → all q ys ≡ true → all q (xs ++ ys) ≡ true
all_join q [] ys a b = b
all_join q (x ∷ xs) ys a b =
    and_both _ _ (and_left (q x) (all q xs) a) (all_join q xs ys (and_right (q x) (all q xs) a) b)

all-concat_map : {A B : Type 0} (q : B → Bool) (f : A → List B) (xs : List A) → ((x : A) → all q (f x) ≡ true)
    → all q (concat_map f xs) ≡ true
all-concat_map q f [] h = refl
all-concat_map q f (x ∷ xs) h = all_join q (f x) _ (h x) (all-concat_map q f xs h)

ends-complete : (p : Problem) (s : Simplex) → all (λ e. is_complete p e.simplex e.block) (ends p s) ≡ true
unfolding ends place_ends facet_ends complete_for
ends-complete p s =
    all_join (λ e. is_complete p e.simplex e.block) (place_ends p s) (facet_ends p s)
    (all_map (λ e. is_complete p e.simplex e.block)
    (λ j. record { kind = place_end; block = j; simplex = s }) (is_complete p s) (blocks p.grid)
    (λ j h. h))
    (all-concat_map (λ e. is_complete p e.simplex e.block)
    (λ f. map (λ j. record { kind = facet_end; block = j; simplex = f }) (complete_for p f))
    (filter (λ f. same eqb (label_set p f) (set_t p s)) (facets s))
    (λ f. all_map (λ e. is_complete p e.simplex e.block)
    (λ j. record { kind = facet_end; block = j; simplex = f }) (is_complete p f) (blocks p.grid)
    (λ j h. h)))

filter_true : (xs : List Simplex) → filter (λ t. true) xs ≡ xs
filter_true [] = refl
filter_true (x ∷ xs) = ap (λ l. x ∷ l) (filter_true xs)

pub length-ways : (p : Problem) (s : Simplex) → length (ways p s) ≡ length (ends p s) + length (links p s)
unfolding ways
length-ways p s = rw (length-append, length-map, length-map)

length-ways_on : (p : Problem) (l : Option Simplex) (s : Simplex)
    → length (ways_on p l s) ≡ length (ends p s) + length (links_on p l s)
length-ways_on p l s = ap length (ways_on_split p l s) ∙ rw (length-append, length-map, length-map)

-- a list stops where its last place has an end or a gap
abbrev pub Final : Problem → List Simplex → Type 0
Final p s = all_labelled p (last_place s) ≡ true → ends p (last_place s) ≡ [] → ⊥

pub back : {p : Problem} (a b : Simplex) → Link p a b → Link p b a
back {p} a b k = record { from = k.to; to = k.from; by = linked-back p a b k.from k.to k.by }

pub in_links : {p : Problem} → HasStart p → {a b : Simplex} → Link p a b → is_in same_simplex b (links p a) ≡ true
unfolding links
in_links {p} ok {a} {b} k = in_filter on_simplices (linked p a) b (places p) (places-all p ok.same_number b k.to) k.by

-- of three members of a list of at most two, two are the same
pub among_two : (x y z : Simplex) (l : List Simplex) → length l ≤ 2 → is_in same_simplex x l ≡ true
    → is_in same_simplex y l ≡ true → is_in same_simplex z l ≡ true
    → (x ≡ y) ⊎ ((x ≡ z) ⊎ (y ≡ z))
among_two x y z l c mx my mz = go (same_simplex x y) (same_simplex x z) (same_simplex y z) refl refl refl
  where
    in_all : (w : Simplex) → is_in same_simplex w (x ∷ y ∷ z ∷ []) ≡ true → is_in same_simplex w l ≡ true
    in_all w m = ⊎_elim
        (λ e. rw e mx)
        (λ m. ⊎_elim
        (λ e. rw e my)
        (λ m. ⊎_elim (λ e. rw e mz) (λ m. absurd_bool (sym m)) (in_cases on_simplices w z [] m))
        (in_cases on_simplices w y (z ∷ []) m))
        (in_cases on_simplices w x (y ∷ z ∷ []) m)

    go : (b c d : Bool) → same_simplex x y ≡ b → same_simplex x z ≡ c → same_simplex y z ≡ d
        → (x ≡ y) ⊎ ((x ≡ z) ⊎ (y ≡ z))
    go true c d e f g = inl (simplex_sound x y e)
    go false true d e f g = inr (inl (simplex_sound x z f))
    go false false true e f g = inr (inr (simplex_sound y z g))
    go false false false e f g =
        let d : distinct same_simplex (x ∷ y ∷ z ∷ []) ≡ true = rw (e, f, g) in
        absurd (omega (arith, pigeon on_simplices (x ∷ y ∷ z ∷ []) l d in_all))

links-distinct : (p : Problem) (a : Simplex) → distinct same_simplex (links p a) ≡ true
unfolding links
links-distinct p a = distinct_filter on_simplices (linked p a) (places p) (places-distinct p)

module _ {p : Problem} (ok : HasTable p) (W : TwoWays p) where
  ways_le : (s : Simplex) → is_place p s ≡ true → all_labelled p s ≡ true → length (ways p s) ≤ 2
  ways_le s h own =
      ⊎_elim (λ e. let q = simplex_sound s (p.start ∷ []) e in rw q (omega (arith, W.start (rw q at own))))
      (λ e. omega (arith, W.other s h own (λ q. absurd_bool (sym (simplex_self s) ∙ (rw (← q) at e)))))
      (true_or_false (same_simplex s (p.start ∷ [])))

  -- a link between places whose points have labels
  record Known (a b : Simplex) : Type 0 where
    pub joins : Link p a b
    pub own_from : all_labelled p a ≡ true
    pub own_to : all_labelled p b ≡ true

  two : (a x y z : Simplex) → Known a x → Known a y → Known a z → (x ≡ y) ⊎ ((x ≡ z) ⊎ (y ≡ z))
  two a x y z kx ky kz = among_two x y z (links p a)
      (omega (arith, ways_le a kx.joins.from kx.own_from, length-ways p a)) (in_links ok.has_start kx.joins)
      (in_links ok.has_start ky.joins) (in_links ok.has_start kz.joins)

  one_link : (x y : Simplex) → Known (p.start ∷ []) x → Known (p.start ∷ []) y → x ≡ y
  one_link x y kx ky = only_member on_simplices x y (links p (p.start ∷ []))
      (omega (arith, W.start kx.own_from, length-ways p (p.start ∷ []))) (in_links ok.has_start kx.joins)
      (in_links ok.has_start ky.joins)

  routes : {n : ℕ} {s : List Simplex} {e : Option End} → Trail p n none (p.start ∷ []) s e → (k : ℕ) → k < length s
      → all_labelled p (place_at s k) ≡ true → Route Known (place_at s) k
  routes {s = s} t k c own = record {
    linked = λ i h. record {
      joins = step_links p t (start-place ok.has_start) i (omega arith);
      own_from = known p t i (omega arith);
      own_to = ⊎_elim
          (λ (e : suc i ≡ k). rw e own)
          (λ (n : suc i ≡ k → ⊥). known p t (suc i) (omega (arith, n)))
          (same_or (suc i) k);
    };
    onward = λ i h q. onward p t i (omega arith) q;
  }

  -- no place stands twice: a place with a gap is not one before it, for these have none
  pub never_twice : {n : ℕ} {s : List Simplex} {e : Option End} → Trail p n none (p.start ∷ []) s e → (i j : ℕ) → i < j
      → j < length s → place_at s i ≡ place_at s j → ⊥
  never_twice {s = s} t i j l c q =
      let z : place_at s 0 ≡ p.start ∷ [] = first p t (omega arith) in
      let own : all_labelled p (place_at s j) ≡ true = rw (← q) (known p t i (omega arith)) in
      apart Known
      (λ a b k. record { joins = back a b k.joins; own_from = k.own_to; own_to = k.own_from })
      (λ a k. linked-other p a k.joins.by)
      two (place_at s) (rw z one_link) j (routes t j c own) j i j (omega arith) l (omega arith) q

  -- exactly one way on from {v}, and from any other place that one comes to by a link, where its points have labels;
  pub one-from-start : all_labelled p (p.start ∷ []) ≡ true → length (ways_on p none (p.start ∷ [])) ≡ 1
  one-from-start own =
      length-ways_on p none (p.start ∷ [])
      ∙ (rw (filter_true (links p (p.start ∷ []))) (sym (length-ways p (p.start ∷ [])) ∙ W.start own))

  pub one_from : (a b : Simplex) → Link p a b → all_labelled p b ≡ true → (b ≡ p.start ∷ [] → ⊥)
      → length (ways_on p (some a) b) ≡ 1
  one_from a b k own ne =
      let m : suc (length (links_on p (some a) b)) ≡ length (links p b) =
      length_without on_simplices a (links p b) (links-distinct p b) (in_links ok.has_start (back a b k)) in
      omega (arith, length-ways_on p (some a) b, length-ways p b, W.other b k.to own ne)

  -- so on the path
  pub one_way : {n : ℕ} {s : List Simplex} {e : Option End} → Trail p n none (p.start ∷ []) s e → (i : ℕ)
      → i < length s → all_labelled p (place_at s i) ≡ true
      → length (ways_on p (left_at s i) (place_at s i)) ≡ 1
  one_way {s = s} t zero c own = rw (first p t c) (one-from-start (rw (first p t c) at own))
  one_way {s = s} t (suc i) c own =
      let z : place_at s 0 ≡ p.start ∷ [] = first p t (omega arith) in
      one_from (place_at s i) (place_at s (suc i)) (step_links p t (start-place ok.has_start) i c) own
      (λ q. never_twice t 0 (suc i) (omega arith) c (z ∙ sym q))

  pub within-bound : {n : ℕ} {s : List Simplex} {e : Option End} → Trail p n none (p.start ∷ []) s e
      → length s ≤ bound p.grid
  within-bound {s = s} t =
      count p ok.has_start s (distinct_apart s (never_twice t))
      (λ x m. let k = in_place_at s x m in rw k.2 (all-places p t (start-place ok.has_start) k.0 k.1))

  left-same : (s : List Simplex) (i : ℕ) → left_from p none s i ≡ left_at s i
  left-same s zero = refl
  left-same s (suc i) = refl

  -- with more fuel than the bound the path stops at an end or at a gap
  stops-long : {n : ℕ} {s : List Simplex} {e : Option End} → Trail p n none (p.start ∷ []) s e → bound p.grid < n
      → Stop p (last_place s) e
  stops-long {n} {s} {e = none} t c = ⊎_elim
      (λ q. absurd (omega (arith, within-bound t)))
      (λ i.
      let k : pred (length s) ≡ i.0 = omega (arith, i.1) in
      let l : i.0 < length s = omega (arith, i.1) in
      let f : all_labelled p (place_at s i.0) ≡ false = false_of _
      (λ own. absurd
      (let z : length (ways_on p (left_at s i.0) (place_at s i.0)) ≡ 0 = ap length (rw (left-same s i.0) at (i.2 own)) in
      omega (arith, one_way t i.0 l own))) in
      let g = one-gap ok.has_start (place_at s i.0) (all-places p t (start-place ok.has_start) i.0 l) f in
      rw k (at_gap g.0 g.1))
      (unended p t refl)
  stops-long {e = some f} t c = let w = finish p t f refl in at_end w.finishes.0 w.whole w.finishes.1

  -- the path is the same with more fuel
  path-long : path p ≡ path_from p (suc (bound p.grid)) none (p.start ∷ [])
  unfolding path
  path-long = more_fuel p (bound p.grid) none _ (within-bound (trail p (suc (bound p.grid)) none _))

  path_trail : Trail p (suc (bound p.grid)) none (p.start ∷ []) (path p).visited (path p).end
  path_trail = rw path-long (trail p (suc (bound p.grid)) none (p.start ∷ []))

  path-stop : Stop p (last_place (path p).visited) (path p).end
  path-stop = stops-long path_trail (omega arith)

  answer-spent : (b : ℕ) → b < path_length p → answer p b ≡ spent b
  unfolding answer
  answer-spent b h = rw (lt-ltb b _ h)

  answer-out : (b : ℕ) → path_length p ≤ b → answer p b ≡ outcome p (path p).visited (path p).end
  unfolding answer
  answer-out b h = rw (le-ltb b _ h)

  answer-ended : (e : End) → (path p).end ≡ some e → (b : ℕ) → path_length p ≤ b
      → answer p b ≡ announcement (path_length p) (labels_read (path p).visited) e
  answer-ended e q b h = answer-out b h ∙ ap (λ (x : Option End). outcome p (path p).visited x) q

  out_not_spent : (s : List Simplex) (e : Option End) (b : ℕ) → outcome p s e ≡ spent b → ⊥
  out_not_spent s none b q = absurd_bool (cc)
  out_not_spent s (some e) b q = absurd_bool (cc)

  spent-short : (b : ℕ) → answer p b ≡ spent b → b < path_length p
  spent-short b q =
      ⊎_elim (λ h. h) (λ h. absurd (out_not_spent (path p).visited (path p).end b (sym (answer-out b h) ∙ q)))
      (before_or_not b (path_length p))

  unspent : (b : ℕ) → (answer p b ≡ spent b → ⊥) → answer p b ≡ outcome p (path p).visited (path p).end
  unspent b z = answer-out b (⊎_elim (λ h. absurd (z (answer-spent b h))) (λ h. h) (before_or_not b (path_length p)))

  -- links on from a place with one way on are the same
  next-same : (l : Option Simplex) (h x y : Simplex) → length (ways_on p l h) ≡ 1
      → is_in same_simplex x (links_on p l h) ≡ true → is_in same_simplex y (links_on p l h) ≡ true → x ≡ y
  next-same l h x y c m n = only_member on_simplices x y (links_on p l h) (omega (arith, length-ways_on p l h)) m n

  path-next : {s : List Simplex} → Follows p s → (i : ℕ) → suc i < length s
      → is_in same_simplex (place_at s (suc i)) (links_on p (left_at s i) (place_at s i)) ≡ true
  path-next {s} k i c = in_filter on_simplices
      (λ t. not (is_back (left_at s i) (link t)))
      (place_at s (suc i)) (links p (place_at s i))
      (in_links ok.has_start (record { from = k.places i (omega arith); to = k.places (suc i) c; by = k.links i c }))
      (go i c)
    where
      go : (i : ℕ) → suc i < length s → not (is_back (left_at s i) (link (place_at s (suc i)))) ≡ true
      go zero c = refl
      go (suc i) c =
          let z : same_simplex (place_at s i) (place_at s (suc (suc i))) ≡ false = false_of _
          (λ q. k.onward i c (simplex_sound (place_at s i) (place_at s (suc (suc i))) q)) in rw z

  -- a list that follows the path, beside one that stops and has one way on at each place without a gap
  module _ {t : List Simplex} (kt : Follows p t) (final : Final p t)
      (o : (i : ℕ) → i < length t → all_labelled p (place_at t i) ≡ true
      → length (ways_on p (left_at t i) (place_at t i)) ≡ 1) where
    agree : (s : List Simplex) → Follows p s → (i : ℕ) → i < length s
        → (i < length t) × (place_at s i ≡ place_at t i) × (left_at s i ≡ left_at t i)
    agree s ks zero a = (kt.nonempty, ks.begins ∙ sym kt.begins, refl)
    agree s ks (suc i) a =
        let h = agree s ks i (omega arith) in
        let open-here : ends p (place_at t i) ≡ [] = rw h.1 at (ks.passes i a) in
        let own : all_labelled p (place_at t i) ≡ true = rw h.1 at (ks.known i a) in
        let n = kt.nonempty in
        let b : suc i < length t = ⊎_elim
        (λ c. c)
        (λ c. absurd (let q : pred (length t) ≡ i = omega (arith, h.0) in final (rw q own) (rw q open-here)))
        (before_or_not (suc i) (length t)) in
        let m : is_in same_simplex (place_at s (suc i)) (links_on p (left_at t i) (place_at t i)) ≡ true = subst₂
        (λ (x : Simplex) (l : Option Simplex). is_in same_simplex (place_at s (suc i)) (links_on p l x) ≡ true) h.1 h.2
        (path-next ks i a) in (
          b,
          next-same (left_at t i) (place_at t i) _ _ (o i h.0 own) m (path-next kt i b),
          ap (λ (x : Simplex). some x) h.1,
        )

    -- and where it stops it is
    agree-all : (s : List Simplex) → Follows p s → Final p s → s ≡ t
    agree-all s ks halts =
        let c = ks.nonempty in
        let h = agree s ks (pred (length s)) (omega arith) in
        let l : length s ≡ length t = ⊎_elim
        (λ d. absurd (halts (rw h.1 (kt.known (pred (length s)) (omega arith)))
        (rw h.1 (kt.passes (pred (length s)) (omega arith)))))
        (λ d. omega (arith, h.0))
        (before_or_not (length s) (length t)) in
        ext_get_or [] s t l (λ i c. (agree s ks i c).1)

  pub gap_not_all : (s : Simplex) {y : Point} → unlabelled p s ≡ y ∷ [] → all_labelled p s ≡ true → ⊥
  gap_not_all s {y} e own =
      let m = filter_in on_points (λ y. not (has_label p y)) y s (rw e (in_here on_points y [])) in
      absurd_bool (sym (all_in on_points (has_label p) s own y m.0) ∙ not-true _ m.1)

  path_final : Final p (path p).visited
  path_final = go path-stop
    where
      go : {s : Simplex} {e : Option End} → Stop p s e → all_labelled p s ≡ true → ends p s ≡ [] → ⊥
      go (at_end es own q) o n = let z : ◌≡◌ {A = ℕ} 0 1 = cc in omega arith
      go {s} (at_gap y g) o n = gap_not_all s g o

  path-nonempty : 0 < path_length p
  path-nonempty = go path_trail
    where
      go : {s : List Simplex} {e : Option End} → Trail p (suc (bound p.grid)) none (p.start ∷ []) s e → 0 < length s
      go (stuck q) = omega arith
      go (stops es own q) = omega arith
      go (goes t own q m k) = omega arith

  pub path-follows : Follows p (path p).visited
  path-follows =
      let t = path_trail in
      record {
        nonempty = path-nonempty;
        begins = first p t path-nonempty;
        places = all-places p t (start-place ok.has_start);
        links = λ i h. (step_links p t (start-place ok.has_start) i h).by;
        onward = onward p t;
        passes = passes p t;
        known = known p t;
      }

  -- a list that follows the path and stops is the path,
  pub whole-path : (s : List Simplex) → Follows p s → Final p s → s ≡ (path p).visited
  whole-path = agree-all path-follows path_final (one_way path_trail)

  -- and its end is the path's
  pub only-path : (s : List Simplex) (e : End) → IsPath p s e → (s ≡ (path p).visited) × ((path p).end ≡ some e)
  only-path s e k =
      let q = whole-path s k.follows (λ own n. let f = k.finishes.1 in let z : ◌≡◌ {A = ℕ} 0 1 = cc in omega arith) in
      (q, go path-stop (rw q at k.whole) (rw q at k.finishes.1))
    where
      go : {l : Simplex} {d : Option End} → Stop p l d → all_labelled p l ≡ true → ends p l ≡ e ∷ k.finishes.0
          → d ≡ some e
      go (at_end {e = d} es own q) o n = let z : d ≡ e = cc in ap (λ (x : End). some x) z
      go {l} (at_gap y g) o n = absurd (gap_not_all l g o)

  -- what a run that goes from place to place needs: its places are the path's,
  pub follows-path : (s : List Simplex) → Follows p s → (i : ℕ) → i < length s
      → (i < path_length p) × (place_at s i ≡ place_at (path p).visited i) × (left_at s i ≡ left_at (path p).visited i)
  follows-path = agree path-follows path_final (one_way path_trail)

  -- a path without a gap has an end
  pub ends-known : NoGap p → (e : End) × ((path p).end ≡ some e)
  ends-known n = go path-stop (n (pred (path_length p)) (omega (arith, path-nonempty)))
    where
      go : {l : Simplex} {d : Option End} → Stop p l d → all_labelled p l ≡ true → (e : End) × (d ≡ some e)
      go (at_end {e = e} es own q) o = (e, refl)
      go {l} (at_gap y g) o = absurd (gap_not_all l g o)

  -- where the path has an end
  module _ (e : End) (ended : (path p).end ≡ some e) where
    pub path-is : IsPath p (path p).visited e
    path-is =
        let w = finish p path_trail e ended in
        record { follows = path-follows; whole = w.whole; finishes = w.finishes }

    pub no_gap : NoGap p
    no_gap i c =
        ⊎_elim (λ (q : pred (path_length p) ≡ i). rw (← q) path-is.whole)
        (λ (n : pred (path_length p) ≡ i → ⊥). known p path_trail i (omega (arith, n))) (same_or (pred (path_length p)) i)

    -- the end's points are complete for no other block: that would be another way on from the last place
    end-only : (j : ℕ) → j < num_blocks p.grid → is_complete p e.simplex j ≡ true → j ≡ e.block
    unfolding ways_on
    end-only j l c = go (end_is p s e (rw path-is.finishes.1 (in_here on_ends e path-is.finishes.0))) refl
      where
        n : List Simplex
        n = (path p).visited

        i : ℕ
        i = pred (length n)

        s : Simplex
        s = place_at n i

        below : (k : ℕ) → 0 < k → pred k < k
        below k h = omega arith

        stays : (w : Option Simplex) (d : End) → not (is_back w (stop d)) ≡ true
        stays none d = refl
        stays (some t) d = refl

        on : (d : End) → IsWay p s (stop d) → is_in same_way (stop d) (ways_on p (left_at n i) s) ≡ true
        on d k = in_filter on_ways (λ w. not (is_back (left_at n i) w)) (stop d) (ways p s)
            (in_ways p s ok.has_start.same_number k) (stays (left_at n i) d)

        same_block : (d f : End) → IsWay p s (stop d) → IsWay p s (stop f) → d.block ≡ f.block
        same_block d f a b =
            let q : stop d ≡ stop f = only_member on_ways (stop d) (stop f) (ways_on p (left_at n i) s)
            (omega (arith, one_way path_trail i (below (length n) path-nonempty) path-is.whole)) (on d a) (on f b) in
            let r : d ≡ f = cc in
            ap (λ (x : End). x.block) r

        go : {w : Way} → IsWay p s w → w ≡ stop e → j ≡ e.block
        go (by_place k lk ck) q =
            let r : record { kind = place_end; block = k; simplex = s } ≡ e = cc in
            same_block (record { kind = place_end; block = j; simplex = s }) e
            (by_place j l (rw (ap (λ (x : End). x.simplex) r) c)) (rw (← r) (by_place k lk ck))
        go (by_facet f k m t lk ck) q =
            let r : record { kind = facet_end; block = k; simplex = f } ≡ e = cc in
            same_block (record { kind = facet_end; block = j; simplex = f }) e
            (by_facet f j m t l (rw (ap (λ (x : End). x.simplex) r) c)) (rw (← r) (by_facet f k m t lk ck))
        go (by_link t ht k) q = absurd_bool (cc)

    whole-end : Ended p
    whole-end =
        let fin = path-is.finishes in
        record {
          end = e;
          is_path = path-is;
          ends = ended;
          announces = answer-ended e ended;
          complete = first-complete fin.0 _ fin.1 (ends-complete p _);
          complete_only = end-only;
          in_order = (end-simplex p ok.has_start path-is).in_order;
          reaches = answer-ended e ended _ (within-bound path_trail);
        }
      where
        first-complete : (es l : List End) → l ≡ e ∷ es → all (λ e. is_complete p e.simplex e.block) l ≡ true
            → is_complete p e.simplex e.block ≡ true
        first-complete es l q a = and_left _ _ (rw q at a)

  pub demand3 : Demand3 p
  demand3 =
      let t = path_trail in
      let n = (path p).visited in
      record {
        follows = path-follows;
        stops = path-stop;
        ended = λ k. let e = ends-known k in whole-end e.0 e.1;
        only = only-path;
        one = one_way t;
        once = λ i j l c q. never_twice t i j l c
            (place_same p (place_at n i) (place_at n j) (all-places p t (start-place ok.has_start) i (omega arith))
            (all-places p t (start-place ok.has_start) j c) q);
        bounded = within-bound t;
        spends = λ b. (spent-short b, answer-spent b);
        enough = λ b h q. absurd (omega (arith, spent-short b q, within-bound t));
        asks = asks;
        asked = λ b n i q. asked b n i q (path p).end refl path-stop;
        alike = λ b c x y. unspent b x ∙ sym (unspent c y);
      }
    where
      asks : (y : Point) → unlabelled p (last_place (path p).visited) ≡ y ∷ [] → (b : ℕ) → path_length p ≤ b
          → answer p b ≡ unknown (pred (path_length p)) (position p.grid y)
      asks y g b h = answer-out b h ∙ go (path p).end path-stop
        where
          go : (d : Option End) → Stop p (last_place (path p).visited) d
              → outcome p (path p).visited d ≡ unknown (pred (path_length p)) (position p.grid y)
          go none k = rw g
          go (some e) (at_end es own q) = absurd (gap_not_all (last_place (path p).visited) g own)

      out_not_asks : (e : End) (x : PathAnswer) (k r n i : ℕ) → x ≡ announcement k r e → x ≡ unknown n i → ⊥
      out_not_asks e x k t n i q r = absurd_bool (cc)

      spent_not_asks : (x : PathAnswer) (b n i : ℕ) → x ≡ spent b → x ≡ unknown n i → ⊥
      spent_not_asks x b n i q r = absurd_bool (cc)

      asked : (b n i : ℕ) → answer p b ≡ unknown n i → (d : Option End) → (path p).end ≡ d
          → Stop p (last_place (path p).visited) d
          → (suc n ≡ path_length p) × (n < b) × (get_or p.labels i 0 ≡ 0)
      asked b n i q d r k = ⊎_elim
          (λ h. absurd (spent_not_asks (answer p b) b n i (answer-spent b h) q))
          (λ h. go h d r k)
          (before_or_not b (path_length p))
        where
          go : path_length p ≤ b → (d : Option End) → (path p).end ≡ d → Stop p (last_place (path p).visited) d
              → (suc n ≡ path_length p) × (n < b) × (get_or p.labels i 0 ≡ 0)
          go h (some e) r k = absurd (out_not_asks e (answer p b) _ _ n i (answer-ended e r b h) q)
          go h none r (at_gap y g) =
              let a = asks y g b h in
              let z : pred (path_length p) ≡ n = cc in
              let w : position p.grid y ≡ i = cc in
              let m = filter_in on_points (λ y. not (has_label p y)) y (last_place (path p).visited)
              (rw g (in_here on_points y [])) in
              let c = path-nonempty in
              let l = all-places p path_trail (start-place ok.has_start) (pred (path_length p)) (omega arith) in
              let o = zero-at ok y (all_in on_points _ (last_place (path p).visited) (parts p _ l).grid_points y m.0)
              (not-true _ m.1) in
              (omega arith, omega arith, rw (← w) o)
