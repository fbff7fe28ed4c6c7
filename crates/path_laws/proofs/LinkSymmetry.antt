-- The conditions of a place by name; two places with the same points are the same; links go both ways, and never from a
-- place to itself. Assumes nothing.
use mathlib.Core.Bool.{Bool, true, ◌&&◌, ◌||◌}
use mathlib.Core.List.{List, [], ◌∷◌, map}
use mathlib.Core.Logic.{⊎_elim}
use mathlib.Core.Path.{◌≡◌, refl, sym, ap, ◌∙◌}
use Prim.Native.Nat.{ℕ, suc, ◌≤◌}
use borrow.Author.Tests.{eqb-true, eq-eqb}
use lib.Dec.{eqb}
use lib.ListN.{length}
use native.Mathlib.Omega.{arith}
use Rattle.combinatorics.proofs.Lists.{filter-all, in_filter, filter_in, pigeon, distinct_filter, in_map, map_in}
use Rattle.combinatorics.proofs.Lists.{same_sound, same_self, on_numbers}
use Rattle.combinatorics.proofs.Basics.{or_left, or_right, or_cases, and_left, and_right, and_both}
use Rattle.combinatorics.proofs.Rising.{rising-distinct, rising-same}
use Rattle.combinatorics.specs.Lists.{all, is_in, same, distinct, rising}
use Rattle.grid_points.proofs.Points.{on_points}
use Rattle.grid_points.specs.Grid.{Point, same_point, indices, is_grid_point}
use Rattle.place.specs.Coefficients.{coefficient_sum}
use Rattle.place.specs.Links.{shared, exchanged, extended, linked}
use Rattle.place.specs.Places.{Simplex, set_t, set_u, label_set, within, is_place, is_unlabelled_place, each_goes_to_next}
use Rattle.place.specs.Places.{uses_each_once, every_block_free, order}
use Rattle.place.specs.Problem.{Problem, label}

-- the conditions of a place that do not look at labels, by name
pub record UnlabelledParts (p : Problem) (s : Simplex) : Type 0 where
  pub grid_points : all (is_grid_point p.grid) s ≡ true
  pub in_order : rising (map (coefficient_sum p) s) ≡ true
  pub steps : each_goes_to_next p.grid (set_u p.grid s) s ≡ true
  pub once : uses_each_once (set_t p s) (order p.grid s) ≡ true
  pub free : every_block_free p.grid (set_t p s) (set_u p.grid s) ≡ true

pub unlabelled-parts : (p : Problem) (s : Simplex) → is_unlabelled_place p s ≡ true → UnlabelledParts p s
unfolding is_unlabelled_place
unlabelled-parts p s h =
    let g = p.grid in
    let a : Bool = all (is_grid_point g) s in
    let b : Bool = rising (map (coefficient_sum p) s) in
    let c : Bool = each_goes_to_next g (set_u g s) s in
    let d : Bool = uses_each_once (set_t p s) (order g s) in
    let e : Bool = every_block_free g (set_t p s) (set_u g s) in
    let k1 : (a && b && c && d) ≡ true = and_left _ e h in
    let k2 : (a && b && c) ≡ true = and_left (a && b && c) d k1 in
    let k3 : (a && b) ≡ true = and_left (a && b) c k2 in
    record {
      grid_points = and_left a b k3;
      in_order = and_right a b k3;
      steps = and_right (a && b) c k2;
      once = and_right (a && b && c) d k1;
      free = and_right (a && b && c && d) e h;
    }

pub unlabelled_of : (p : Problem) (s : Simplex) → is_place p s ≡ true → is_unlabelled_place p s ≡ true
unfolding is_place
unlabelled_of p s h = and_left (is_unlabelled_place p s) (within (set_t p s) (label_set p s)) h

-- and all of them
pub record Parts (p : Problem) (s : Simplex) : Type 0 where
  pub grid_points : all (is_grid_point p.grid) s ≡ true
  pub in_order : rising (map (coefficient_sum p) s) ≡ true
  pub steps : each_goes_to_next p.grid (set_u p.grid s) s ≡ true
  pub once : uses_each_once (set_t p s) (order p.grid s) ≡ true
  pub free : every_block_free p.grid (set_t p s) (set_u p.grid s) ≡ true
  pub labelled : within (set_t p s) (label_set p s) ≡ true

pub parts : (p : Problem) (s : Simplex) → is_place p s ≡ true → Parts p s
unfolding is_place
parts p s h =
    let k = unlabelled-parts p s (unlabelled_of p s h) in
    record {
      grid_points = k.grid_points;
      in_order = k.in_order;
      steps = k.steps;
      once = k.once;
      free = k.free;
      labelled = and_right (is_unlabelled_place p s) (within (set_t p s) (label_set p s)) h;
    }

module _ (p : Problem) where
  pub place-distinct : (s : Simplex) → is_place p s ≡ true → distinct same_point s ≡ true
  place-distinct s h = rising-distinct on_points _ s (parts p s h).in_order

  -- two places with the same points are the same
  pub place_same : (a b : Simplex) → is_place p a ≡ true → is_place p b ≡ true
      → ((y : Point) → is_in same_point y a ≡ is_in same_point y b) → a ≡ b
  place_same a b h k e = rising-same on_points _ a b (parts p a h).in_order (parts p b k).in_order e

  shared_in : (a b : Simplex) (y : Point) → is_in same_point y (shared a b) ≡ true → is_in same_point y (shared b a) ≡ true
  shared_in a b y m =
      let i = filter_in on_points _ y a m in
      in_filter on_points _ y b i.1 i.0

  shared_le : (a b : Simplex) → is_place p a ≡ true → length (shared a b) ≤ length (shared b a)
  shared_le a b h =
      pigeon on_points (shared a b) (shared b a) (distinct_filter on_points _ a (place-distinct a h)) (shared_in a b)

  labels_in : (a b : Simplex) → ((y : Point) → is_in same_point y a ≡ true → is_in same_point y b ≡ true) → (l : ℕ)
      → is_in eqb l (map (label p) a) ≡ true
      → is_in eqb l (map (label p) b) ≡ true
  labels_in a b h l m =
      let i = map_in on_points on_numbers (label p) l a m in
      rw i.2 (in_map on_points on_numbers (label p) i.0 b (h i.0 i.1))

  pub label_set_in : (a b : Simplex) → ((y : Point) → is_in same_point y a ≡ true → is_in same_point y b ≡ true) → (h : ℕ)
      → is_in eqb h (label_set p a) ≡ true
      → is_in eqb h (label_set p b) ≡ true
  unfolding label_set
  label_set_in a b k h m =
      let i = filter_in on_numbers (λ h. is_in eqb (suc h) (map (label p) a)) h (indices p.grid) m in
      in_filter on_numbers (λ h. is_in eqb (suc h) (map (label p) b)) h (indices p.grid) i.0 (labels_in a b k (suc h) i.1)

  pub within_mono : (t a b : List ℕ) → ((h : ℕ) → is_in eqb h a ≡ true → is_in eqb h b ≡ true) → within t a ≡ true
      → within t b ≡ true
  within_mono [] a b k w = refl
  within_mono (x ∷ t) a b k w = and_both _ _ (k x (and_left (is_in eqb x a) (within t a) w))
      (within_mono t a b k (and_right (is_in eqb x a) (within t a) w))

  exchanged-back : (a b : Simplex) → is_place p a ≡ true → is_place p b ≡ true → exchanged p a b ≡ true
      → exchanged p b a ≡ true
  unfolding exchanged
  exchanged-back a b h k e =
      let s = shared a b in
      let e1 : Bool = eqb (length a) (suc (length s)) in
      let e2 : Bool = eqb (length b) (suc (length s)) in
      let e3 : Bool = same eqb (set_t p a) (set_t p b) in
      let e4 : Bool = within (set_t p a) (label_set p s) in
      let f3 : (e1 && e2 && e3) ≡ true = and_left (e1 && e2 && e3) e4 e in
      let f4 : e4 ≡ true = and_right (e1 && e2 && e3) e4 e in
      let f2 : (e1 && e2) ≡ true = and_left (e1 && e2) e3 f3 in
      let ts : set_t p a ≡ set_t p b = same_sound eqb eqb-true (set_t p a) (set_t p b) (and_right (e1 && e2) e3 f3) in
      let la : length a ≡ suc (length s) = eqb-true _ _ (and_left e1 e2 f2) in
      let lb : length b ≡ suc (length s) = eqb-true _ _ (and_right e1 e2 f2) in
      let q : length (shared b a) ≡ length s = omega (arith, shared_le a b h, shared_le b a k) in
      and_both _ _
      (and_both _ _ (and_both _ _ (eq-eqb _ _ (lb ∙ ap suc (sym q))) (eq-eqb _ _ (la ∙ ap suc (sym q))))
      (rw ts (same_self eqb (λ x. eq-eqb x x refl) (set_t p b))))
      (within_mono (set_t p b) (label_set p (shared a b)) (label_set p (shared b a))
      (label_set_in (shared a b) (shared b a) (shared_in a b)) (rw (← ts) f4))

  pub linked-back : (a b : Simplex) → is_place p a ≡ true → is_place p b ≡ true → linked p a b ≡ true
      → linked p b a ≡ true
  unfolding linked
  linked-back a b h k e =
      let x : Bool = exchanged p a b in
      let y : Bool = extended p a b in
      let z : Bool = extended p b a in
      let x' : Bool = exchanged p b a in
      ⊎_elim
      (λ m. ⊎_elim
      (λ n. or_left (x' || z) y (or_left x' z (exchanged-back a b h k n)))
      (λ n. or_right (x' || z) y n)
      (or_cases x y m))
      (λ n. or_left (x' || z) y (or_right x' z n))
      (or_cases (x || y) z e)

  pub linked-other : (a : Simplex) → linked p a a ≡ true → ⊥
  unfolding linked exchanged extended
  linked-other a e =
      ⊎_elim (λ m. ⊎_elim ex ext (or_cases _ _ m)) ext
      (or_cases _ _ e)
    where
      shared-all : shared a a ≡ a
      shared-all = filter-all on_points a (λ z m. m)

      ex : exchanged p a a ≡ true → ⊥
      ex m =
          let s = shared a a in
          let e1 : Bool = eqb (length a) (suc (length s)) in
          let e3 : Bool = same eqb (set_t p a) (set_t p a) in
          let e4 : Bool = within (set_t p a) (label_set p s) in
          let q : length a ≡ suc (length s) =
          eqb-true _ _ (and_left e1 e1 (and_left (e1 && e1) e3 (and_left _ e4 m))) in
          omega (arith, ap length shared-all)

      ext : extended p a a ≡ true → ⊥
      ext m =
          let e1 : Bool = eqb (length a) (suc (length a)) in
          let e2 : Bool = all (λ y. is_in same_point y a) a in
          let e3 : Bool = same eqb (label_set p a) (set_t p a) in
          let q : length a ≡ suc (length a) = eqb-true _ _ (and_left e1 e2 (and_left (e1 && e2) e3 m)) in
          omega arith
