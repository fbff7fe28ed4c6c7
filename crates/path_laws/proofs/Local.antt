-- The ways out of a place depend on the labels of its own points only: over a table that has the same labels there they
-- are the same, whatever it has elsewhere. In order: labels; links; ends; ways. Assumes nothing.
use mathlib.Core.Bool.{Bool, true, false, ◌&&◌, ◌||◌, cond}
use mathlib.Core.List.{List, [], ◌∷◌, ◌++◌, map}
use mathlib.Core.Logic.{⊎_elim}
use mathlib.Core.Path.{◌≡◌, refl, sym, ap, ◌∙◌}
use Prim.Native.Nat.{ℕ, suc}
use borrow.Author.Tests.{eqb-true}
use lib.Dec.{eqb, ltb}
use lib.ListN.{length}
use Rattle.combinatorics.proofs.Basics.{absurd_bool, and_both, and_left, and_right, both, or_cases}
use Rattle.combinatorics.proofs.Lists.{all_in, in_all, in_here, in_later, filter_cong, filter_in, same_sound, on_numbers}
use Rattle.combinatorics.specs.Lists.{filter, all, is_in, same, concat_map, one_less, sublists}
use Rattle.combinatorics.proofs.Lists.{filter-twice}
use Rattle.end_kinds.specs.declared.Kind.TheVariants.{Facet as facet_end}
use Rattle.grid_points.proofs.Points.{on_points}
use Rattle.grid_points.specs.Grid.{Point, same_point, blocks, indices_of, points}
use Rattle.place.specs.Coefficients.{coefficients}
use Rattle.place.specs.Ends.{End, is_complete, complete_for, place_ends, facet_ends, facets, ends, ways}
use Rattle.place.specs.Links.{shared, exchanged, extended, linked, links}
use Rattle.place.specs.Places.{Simplex, set_u, set_t, label_set, within, is_unlabelled_place, is_place, all_labelled}
use Rattle.place.specs.Places.{places, insert, in_order}
use Rattle.place.specs.Problem.{Problem, label, with_labels}
use Rattle.path_laws.proofs.LinkSymmetry.{label_set_in, within_mono}
use Rattle.path_laws.proofs.Simplices.{on_simplices}

all_cons : {A : Type 0} (q : A → Bool) (x : A) (l : List (List A)) → q x ≡ true → all (all q) l ≡ true
    → all (all q) (map (λ k. x ∷ k) l) ≡ true
all_cons q x [] h a = refl
all_cons q x (k ∷ l) h a = and_both _ _ (and_both _ _ h (and_left (all q k) (all (all q) l) a))
    (all_cons q x l h (and_right (all q k) (all (all q) l) a))

all-one_less : {A : Type 0} (q : A → Bool) (s : List A) → all q s ≡ true → all (all q) (one_less s) ≡ true
all-one_less q [] a = refl
all-one_less q (x ∷ s) a =
    and_both _ _ (and_right (q x) (all q s) a)
    (all_cons q x (one_less s) (and_left (q x) (all q s) a) (all-one_less q s (and_right (q x) (all q s) a)))

concat_map-same : {A B : Type 0} (F G : A → List B) (q r known : A → Bool) (xs : List A) → all known xs ≡ true
    → ((x : A) → known x ≡ true → (F x ≡ G x) × (q x ≡ r x)) → concat_map F (filter q xs) ≡ concat_map G (filter r xs)
concat_map-same F G q r known [] a k = refl
concat_map-same {A} F G q r known (x ∷ xs) a k =
    let h = k x (and_left (known x) (all known xs) a) in
    pick (filter q xs) (filter r xs) h.0 (concat_map-same F G q r known xs (and_right (known x) (all known xs) a) k)
    (q x) (r x) h.1
  where
    pick : (ys zs : List A) → F x ≡ G x → concat_map F ys ≡ concat_map G zs → (b c : Bool) → b ≡ c
        → concat_map F (cond b (x ∷ ys) ys) ≡ concat_map G (cond c (x ∷ zs) zs)
    pick ys zs e i true true t = rw (e, i)
    pick ys zs e i true false t = absurd_bool t
    pick ys zs e i false true t = absurd_bool (sym t)
    pick ys zs e i false false t = i

-- of three tests the third need agree only where the second holds
where_holds : (c d e f : Bool) → (d ≡ true → e ≡ f) → (c && d && e) ≡ (c && d && f)
where_holds c true e f k = rw (k refl)
where_holds true false e f k = refl
where_holds false false e f k = refl

-- what remains of a place, as facet ends
abbrev as_ends : Problem → Simplex → List End
as_ends p f = map (λ j. record { kind = facet_end; block = j; simplex = f }) (complete_for p f)

-- the two tables have the same labels at a set's points
abbrev pub Agree : Problem → List ℕ → Simplex → Type 0
Agree p labels s = (y : Point) → is_in same_point y s ≡ true → label (with_labels p labels) y ≡ label p y

module _ (p : Problem) (labels : List ℕ) where
  abbrev other : Problem
  other = with_labels p labels

  pub map_same : (s : Simplex) → Agree p labels s → map (label other) s ≡ map (label p) s
  map_same [] k = refl
  map_same (y ∷ s) k = rw (k y (in_here on_points y s), map_same s (λ z m. k z (in_later on_points z y s m)))

  pub label_set-same : (s : Simplex) → Agree p labels s → label_set other s ≡ label_set p s
  unfolding label_set
  label_set-same s k = rw (map_same s k)

  pub set_t-same : (s : Simplex) → set_t other s ≡ set_t p s
  unfolding set_t coefficients
  set_t-same s = refl

  pub unlabelled-same : (s : Simplex) → is_unlabelled_place other s ≡ is_unlabelled_place p s
  unfolding is_unlabelled_place set_t coefficients
  unlabelled-same s = refl

  pub place-local : (s : Simplex) → Agree p labels s → is_place other s ≡ is_place p s
  unfolding is_place
  place-local s k = rw (unlabelled-same s, set_t-same s, label_set-same s k)

  pub known-local : (s : Simplex) → Agree p labels s → all_labelled other s ≡ all_labelled p s
  known-local [] k = refl
  known-local (y ∷ s) k = rw (k y (in_here on_points y s), known-local s (λ z m. k z (in_later on_points z y s m)))

  agree-shared : (a b : Simplex) → Agree p labels a → Agree p labels (shared a b)
  agree-shared a b k y m = k y (filter_in on_points (λ y. is_in same_point y b) y a m).0

  exchanged_same : (a b : Simplex) → Agree p labels a → exchanged other a b ≡ exchanged p a b
  unfolding exchanged
  exchanged_same a b k = rw (set_t-same a, set_t-same b, label_set-same (shared a b) (agree-shared a b k))

  larger_same : (a b : Simplex) → Agree p labels a → extended other a b ≡ extended p a b
  unfolding extended
  larger_same a b k = rw (set_t-same b, label_set-same a k)

  agree_smaller : (a b : Simplex) → Agree p labels a → all (λ y. is_in same_point y a) b ≡ true → Agree p labels b
  agree_smaller a b k i y m = k y (all_in on_points (λ y. is_in same_point y a) b i y m)

  smaller_same : (a b : Simplex) → Agree p labels a → extended other b a ≡ extended p b a
  unfolding extended
  smaller_same a b k = rw (set_t-same a)
      (where_holds (eqb (length a) (suc (length b))) (all (λ y. is_in same_point y a) b)
      (same eqb (label_set other b) (set_t p a)) (same eqb (label_set p b) (set_t p a))
      (λ i. ap (λ (l : List ℕ). same eqb l (set_t p a)) (label_set-same b (agree_smaller a b k i))))

  pub linked-local : (a b : Simplex) → Agree p labels a → linked other a b ≡ linked p a b
  unfolding linked
  linked-local a b k = rw (exchanged_same a b k, larger_same a b k, smaller_same a b k)

  -- a place linked to one with the same labels is a place
  pub linked-stays : (a b : Simplex) → Agree p labels a → linked p a b ≡ true → is_place p b ≡ true
      → is_place other b ≡ true
  unfolding linked exchanged extended is_place
  linked-stays a b k l h =
      let x : Bool = is_unlabelled_place p b in
      let t : Bool = within (set_t p b) (label_set p b) in
      and_both _ _ (unlabelled-same b ∙ and_left x t h)
      (rw (set_t-same b) (⊎_elim
      (λ m. ⊎_elim exchange larger (or_cases (exchanged p a b) (extended p a b) m))
      (smaller (and_right x t h)) (or_cases (exchanged p a b || extended p a b) (extended p b a) l)))
    where
      carried : (c : Simplex) → ((y : Point) → is_in same_point y c ≡ true → is_in same_point y b ≡ true) → Agree p labels c
          → within (set_t p b) (label_set p c) ≡ true → within (set_t p b) (label_set other b) ≡ true
      carried c i k w = within_mono other (set_t p b) (label_set other c) (label_set other b) (label_set_in other c b i)
          (rw (label_set-same c k) w)

      exchange : exchanged p a b ≡ true → within (set_t p b) (label_set other b) ≡ true
      exchange e =
          let s = shared a b in
          let c : Bool = eqb (length a) (suc (length s)) && eqb (length b) (suc (length s)) in
          let d : Bool = same eqb (set_t p a) (set_t p b) in
          let f : Bool = within (set_t p a) (label_set p s) in
          let q = same_sound eqb eqb-true (set_t p a) (set_t p b) (and_right c d (and_left (c && d) f e)) in
          carried s
          (λ y m. (filter_in on_points (λ y. is_in same_point y b) y a m).1)
          (agree-shared a b k) (rw (← q) (and_right (c && d) f e))

      larger : extended p a b ≡ true → within (set_t p b) (label_set other b) ≡ true
      larger e =
          let c : Bool = eqb (length b) (suc (length a)) in
          let d : Bool = all (λ y. is_in same_point y b) a in
          let f : Bool = same eqb (label_set p a) (set_t p b) in
          let q = same_sound eqb eqb-true (label_set p a) (set_t p b) (and_right (c && d) f e) in
          carried a (all_in on_points (λ y. is_in same_point y b) a (and_right c d (and_left (c && d) f e))) k
          (rw q (in_all on_numbers (λ h. is_in eqb h (set_t p b)) (set_t p b) (λ h m. m)))

      smaller : within (set_t p b) (label_set p b) ≡ true → extended p b a ≡ true
          → within (set_t p b) (label_set other b) ≡ true
      smaller w e =
          let c : Bool = eqb (length a) (suc (length b)) in
          let d : Bool = all (λ y. is_in same_point y a) b in
          let f : Bool = same eqb (label_set p b) (set_t p a) in
          rw (label_set-same b (agree_smaller a b k (and_right c d (and_left (c && d) f e)))) w

  -- ends
  complete_for-same : (s : Simplex) → Agree p labels s → complete_for other s ≡ complete_for p s
  unfolding complete_for is_complete
  complete_for-same s k = ap
      (λ (l : List ℕ).
      filter (λ j. all (λ h. is_in eqb h l || is_in eqb h (set_u p.grid s)) (indices_of p.grid j)) (blocks p.grid))
      (label_set-same s k)

  -- what remains of a place has its points
  facets-within : (s : Simplex) → all (all (λ y. is_in same_point y s)) (facets s) ≡ true
  facets-within s = go (ltb 1 (length s))
    where
      go : (b : Bool) → all (all (λ y. is_in same_point y s)) (cond b (one_less s) []) ≡ true
      go true = all-one_less (λ y. is_in same_point y s) s (in_all on_points _ s (λ y m. m))
      go false = refl

  pub ends-local : (s : Simplex) → Agree p labels s → ends other s ≡ ends p s
  unfolding ends place_ends facet_ends
  ends-local s k = rw (complete_for-same s k, set_t-same s)
      (ap (λ (l : List End). place_ends p s ++ l)
      (concat_map-same (as_ends other) (as_ends p)
      (λ f. same eqb (label_set other f) (set_t p s))
      (λ f. same eqb (label_set p f) (set_t p s))
      (all (λ y. is_in same_point y s)) (facets s) (facets-within s)
      (λ f i.
      let own = agree_smaller s f k i in (
        ap
            (λ (l : List ℕ). map (λ j. let e : End = record { kind = facet_end; block = j; simplex = f } in e) l)
            (complete_for-same f own),
        ap (λ (l : List ℕ). same eqb l (set_t p s)) (label_set-same f own),
      ))))

-- the order of points does not depend on labels
insert-same : (p : Problem) (labels : List ℕ) (y : Point) (s : Simplex)
    → insert (with_labels p labels) y s ≡ insert p y s
unfolding coefficients
insert-same p labels y [] = refl
insert-same p labels y (z ∷ s) = rw (insert-same p labels y s)

in_order-same : (p : Problem) (labels : List ℕ) (s : List Point) → in_order (with_labels p labels) s ≡ in_order p s
in_order-same p labels [] = refl
in_order-same p labels (y ∷ s) = rw (in_order-same p labels s) (insert-same p labels y (in_order p s))

-- the ways out of a place
module _ (p : Problem) (labels : List ℕ) (s : Simplex) (k : Agree p labels s) where
  links-local : links (with_labels p labels) s ≡ links p s
  unfolding links places
  links-local =
      let q = with_labels p labels in
      let xs = sublists (in_order p (points p.grid)) in
      rw (in_order-same p labels (points p.grid))
      (filter-twice (linked q s) (is_place q) xs
      ∙ filter_cong on_simplices xs
      (λ t m. both (is_place q t && linked q s t) (is_place p t && linked p s t)
      (λ h.
      let l = linked-local p labels s t k in
      let b = and_right (is_place q t) (linked q s t) h in
      and_both _ _ (linked-stays q p.labels s t (λ y m. sym (k y m)) b (and_left (is_place q t) (linked q s t) h))
      (sym l ∙ b))
      (λ h.
      let l = linked-local p labels s t k in
      let b = and_right (is_place p t) (linked p s t) h in
      and_both _ _ (linked-stays p labels s t k b (and_left (is_place p t) (linked p s t) h)) (l ∙ b)))
      ∙ sym (filter-twice (linked p s) (is_place p) xs))

  pub ways-local : ways (with_labels p labels) s ≡ ways p s
  unfolding ways
  ways-local = rw (ends-local p labels s k, links-local)
