-- The visited vertices are the points of the path's places, each once, in order of first visit. Assumes nothing.
use mathlib.Core.Bool.{Bool, true, false, not, ◌&&◌, ◌||◌}
use mathlib.Core.List.{List, [], ◌∷◌, ◌++◌, append_assoc, append-nil, map}
use mathlib.Core.Logic.{⊎_elim}
use mathlib.Core.Path.{◌≡◌, refl, sym, ap, ◌∙◌, subst}
use Prim.Native.Nat.{ℕ, zero, suc, ◌+◌, ◌≤◌, ◌<◌}
use borrow.Author.Tests.{eqb-true, lt-ltb}
use lib.Dec.{eqb}
use lib.ListN.{length, get_or, take}
use lib.Seq.{take-suc, take_all}
use native.Mathlib.Omega.{arith}
use Rattle.combinatorics.proofs.Basics.{absurd_bool, and_both, and_left, and_right, false_of, or_cases, true_or_false}
use Rattle.combinatorics.proofs.Lists.{Equality, all_in, append_in, distinct_filter, distinct-out, filter_in}
use Rattle.combinatorics.proofs.Lists.{in_append_left, in_append_right, in_cases, in_here, in_later, only_member}
use Rattle.combinatorics.proofs.Lists.{pigeon, length_passing}
use Rattle.combinatorics.proofs.Rising.{rising-below, rising-tail}
use Rattle.combinatorics.specs.Lists.{all, distinct, filter, is_in, rising, same}
use Rattle.grid_points.proofs.Points.{in_points, on_points}
use Rattle.grid_points.specs.Grid.{Point, is_grid_point, points, same_point}
use Rattle.place.specs.Links.{exchanged, extended, linked, shared}
use Rattle.place.specs.Path.{path as path_of}
use Rattle.place.specs.Places.{Simplex, is_place, label_set, set_t, within}
use Rattle.place.specs.Problem.{Problem}
use Rattle.path_laws.proofs.LinkSymmetry.{parts, place-distinct}
use Rattle.path_laws.proofs.Theorem.{demand3_holds}
use Rattle.path_laws.specs.Demand.{HasTable, Follows, place_at}
use Rattle.trail.proofs.Outside.{in_outside, outside-count, outside_in, outside-none}
use Rattle.trail.specs.Change.{outside}
use Rattle.nearest_visited.specs.Demand.{Visits}
use Rattle.nearest_visited.specs.Visited.{firsts, first_with, points_of_places, vertices_of, visited_vertices}
use Rattle.nearest_visited.proofs.Firsts.{firsts-append, firsts-distinct, firsts_in, in_firsts}

-- a list without repeats whose elements are all the same has at most one
module _ {A : Type 0} (E : Equality A) where
  open E use {eq}

  alike-one : (xs : List A) → distinct eq xs ≡ true → ((x y : A) → is_in eq x xs ≡ true → is_in eq y xs ≡ true → x ≡ y)
      → length xs ≤ 1
  alike-one [] d h = omega arith
  alike-one (x ∷ []) d h = omega arith
  alike-one (x ∷ y ∷ ys) d h =
      let e : y ≡ x = h y x (in_later E y x (y ∷ ys) (in_here E y ys)) (in_here E x (y ∷ ys)) in
      absurd_bool
      (sym (in_here E y ys) ∙ subst (λ (z : A). is_in eq z (y ∷ ys) ≡ false) (sym e) (distinct-out eq x (y ∷ ys) d))

-- lists that rise
module _ {A : Type 0} (E : Equality A) (f : A → ℕ) where
  open E use {eq}

  rising-front : (x : A) (xs : List A) → ((z : A) → is_in eq z xs ≡ true → f x < f z) → rising (map f xs) ≡ true
      → rising (map f (x ∷ xs)) ≡ true
  rising-front x [] h r = refl
  rising-front x (y ∷ ys) h r = and_both _ _ (lt-ltb (f x) (f y) (h y (in_here E y ys))) r

  rising-behind : (xs : List A) (y : A) → rising (map f xs) ≡ true → ((z : A) → is_in eq z xs ≡ true → f z < f y)
      → rising (map f (xs ++ (y ∷ []))) ≡ true
  rising-behind [] y r h = refl
  rising-behind (x ∷ xs) y r h = rising-front x (xs ++ (y ∷ []))
      (λ z m. ⊎_elim
      (λ n. rising-below E f x xs r z n)
      (λ n. ⊎_elim (λ e. rw e (h x (in_here E x xs))) (λ k. absurd_bool (sym k)) (in_cases E z y [] n))
      (append_in E z xs (y ∷ []) m))
      (rising-behind xs y (rising-tail E f x xs r) (λ z m. h z (in_later E z x xs m)))

  pub rising-filter : (q : A → Bool) (xs : List A) → rising (map f xs) ≡ true → rising (map f (filter q xs)) ≡ true
  rising-filter q [] r = refl
  rising-filter q (x ∷ xs) r =
      let i = rising-filter q xs (rising-tail E f x xs r) in
      ⊎_elim
      (λ t. rw t (rising-front x (filter q xs) (λ z m. rising-below E f x xs r z (filter_in E q z xs m).0) i))
      (λ n. rw n i)
      (true_or_false (q x))

-- the points of places
concat_append : (a b : List Simplex) → points_of_places (a ++ b) ≡ points_of_places a ++ points_of_places b
concat_append [] b = refl
concat_append (s ∷ a) b =
    ap (λ (l : List Point). s ++ l) (concat_append a b) ∙ sym (append_assoc s (points_of_places a) (points_of_places b))

pub next_place : (s : List Simplex) (k : ℕ) → k < length s
    → points_of_places (take (suc k) s) ≡ points_of_places (take k s) ++ place_at s k
next_place s k l = rw (take-suc s k [] l)
    (concat_append (take k s) (place_at s k ∷ [])
    ∙ ap (λ (x : List Point). points_of_places (take k s) ++ x) (append-nil (place_at s k)))

in_place : (y : Point) (s : List Simplex) (k : ℕ) → k < length s → is_in same_point y (place_at s k) ≡ true
    → is_in same_point y (points_of_places s) ≡ true
in_place y [] k l m = absurd (omega arith)
in_place y (x ∷ s) zero l m = in_append_left on_points y x (points_of_places s) m
in_place y (x ∷ s) (suc k) l m = in_append_right on_points y x (points_of_places s) (in_place y s k (omega arith) m)

pub place_in : (y : Point) (s : List Simplex) → is_in same_point y (points_of_places s) ≡ true
    → (k : ℕ) × (k < length s) × (is_in same_point y (place_at s k) ≡ true)
place_in y [] m = absurd_bool (sym m)
place_in y (x ∷ s) m = ⊎_elim
    (λ n. (0, omega arith, n))
    (λ n. let w = place_in y s n in (suc w.0, omega (arith, w.1), w.2))
    (append_in on_points y x (points_of_places s) m)

-- of the first n places
pub in_before : (y : Point) (s : List Simplex) (n k : ℕ) → k < n → k < length s → is_in same_point y (place_at s k) ≡ true
    → is_in same_point y (points_of_places (take n s)) ≡ true
in_before y [] n k c l m = absurd (omega arith)
in_before y (x ∷ s) zero k c l m = absurd (omega arith)
in_before y (x ∷ s) (suc n) zero c l m = in_append_left on_points y x (points_of_places (take n s)) m
in_before y (x ∷ s) (suc n) (suc k) c l m =
    in_append_right on_points y x (points_of_places (take n s)) (in_before y s n k (omega arith) (omega arith) m)

-- the first place with a point
first_below : (y : Point) (s : List Simplex) (n : ℕ) → is_in same_point y (points_of_places (take n s)) ≡ true
    → first_with s y < n
first_below y [] zero m = absurd_bool (sym m)
first_below y [] (suc n) m = absurd_bool (sym m)
first_below y (x ∷ s) zero m = absurd_bool (sym m)
first_below y (x ∷ s) (suc n) m = ⊎_elim
    (λ t. rw t (omega arith))
    (λ f. ⊎_elim
    (λ t. absurd_bool (sym t ∙ f))
    (λ t. rw f (omega (arith, first_below y s n t)))
    (append_in on_points y x (points_of_places (take n s)) m))
    (true_or_false (is_in same_point y x))

first-from : (y : Point) (s : List Simplex) (n : ℕ) → n ≤ length s
    → is_in same_point y (points_of_places (take n s)) ≡ false → n ≤ first_with s y
first-from y s zero l m = omega arith
first-from y [] (suc n) l m = absurd (omega arith)
first-from y (x ∷ s) (suc n) l m =
    let f : is_in same_point y x ≡ false =
    false_of _ (λ t. absurd_bool (sym (in_append_left on_points y x (points_of_places (take n s)) t) ∙ m)) in
    let g : is_in same_point y (points_of_places (take n s)) ≡ false =
    false_of _ (λ t. absurd_bool (sym (in_append_right on_points y x (points_of_places (take n s)) t) ∙ m)) in
    rw f (omega (arith, first-from y s n (omega arith) g))

-- places of which each has at most one point that the one before lacks
pub record OneByOne (s : List Simplex) : Type 0 where
  pub start : Point
  pub begins : place_at s 0 ≡ start ∷ []
  pub next : (k : ℕ) → suc k < length s → length (outside same_point (place_at s k) (place_at s (suc k))) ≤ 1

module _ (s : List Simplex) (O : OneByOne s) where
  abbrev new : ℕ → List Point
  new n = outside same_point (points_of_places (take n s)) (firsts same_point (place_at s n))

  new_in : (n : ℕ) (y : Point) → is_in same_point y (new n) ≡ true
      → (is_in same_point y (place_at s n) ≡ true) × (is_in same_point y (points_of_places (take n s)) ≡ false)
  new_in n y m =
      let w = outside_in on_points y (firsts same_point (place_at s n)) (points_of_places (take n s)) m in
      (firsts_in on_points y (place_at s n) w.0, w.1)

  same_new : (n : ℕ) → n < length s → (x y : Point) → is_in same_point x (new n) ≡ true → is_in same_point y (new n) ≡ true
      → x ≡ y
  same_new zero l x y m n = only_member on_points x y (O.start ∷ []) (omega arith) (rw O.begins at (new_in 0 x m).0)
      (rw O.begins at (new_in 0 y n).0)
  same_new (suc k) l x y m n =
      only_member on_points x y (outside same_point (place_at s k) (place_at s (suc k))) (O.next k l) (both x m) (both y n)
    where
      both : (z : Point) → is_in same_point z (new (suc k)) ≡ true
          → is_in same_point z (outside same_point (place_at s k) (place_at s (suc k))) ≡ true
      both z j =
          let w = new_in (suc k) z j in
          in_outside on_points z (place_at s (suc k)) (place_at s k) w.0
          (false_of _ (λ t. absurd_bool (sym (in_before z s (suc k) k (omega arith) (omega arith) t) ∙ w.1)))

  few-new : (n : ℕ) → n < length s → length (new n) ≤ 1
  few-new n l = alike-one on_points (new n)
      (distinct_filter on_points
      (λ x. not (is_in same_point x (points_of_places (take n s))))
      (firsts same_point (place_at s n)) (firsts-distinct on_points (place_at s n)))
      (same_new n l)

  one-place_more : (n : ℕ) (add : List Point) → n < length s → new n ≡ add → length add ≤ 1
      → rising (map (first_with s) (vertices_of (take n s))) ≡ true
      → rising (map (first_with s) (vertices_of (take n s) ++ add)) ≡ true
  one-place_more n [] l e c r = rw (append-nil (vertices_of (take n s))) r
  one-place_more n (y ∷ z ∷ zs) l e c r = absurd (omega arith)
  one-place_more n (y ∷ []) l e c r =
      let w = new_in n y (rw e (in_here on_points y [])) in
      rising-behind on_points (first_with s) (vertices_of (take n s)) y r
      (λ z m.
      let b : first_with s z < n = first_below z s n (firsts_in on_points z (points_of_places (take n s)) m) in
      let a : n ≤ first_with s y = first-from y s n (omega arith) w.1 in
      omega arith)

  rises_so_far : (n : ℕ) → n ≤ length s → rising (map (first_with s) (vertices_of (take n s))) ≡ true
  rises_so_far zero l = refl
  rises_so_far (suc n) l =
      rw (next_place s n l, firsts-append on_points (points_of_places (take n s)) (place_at s n))
      (one-place_more n (new n) l refl (few-new n l) (rises_so_far n (omega arith)))

  rises : rising (map (first_with s) (vertices_of s)) ≡ true
  rises = rw (take_all (length s) s (omega arith)) at (rises_so_far (length s) (omega arith))

-- linked places: at most one point comes in
module _ (p : Problem) (a b : Simplex) (pa : is_place p a ≡ true) (pb : is_place p b ≡ true) where
  counts : length (outside same_point a b) + length a ≡ length (outside same_point b a) + length b
  counts = outside-count on_points a b (place-distinct p a pa) (place-distinct p b pb)

  by_exchange : exchanged p a b ≡ true → length (outside same_point a b) ≤ 1
  unfolding exchanged
  by_exchange e =
      let s = shared a b in
      let e1 : Bool = eqb (length a) (suc (length s)) in
      let e2 : Bool = eqb (length b) (suc (length s)) in
      let e3 : Bool = same eqb (set_t p a) (set_t p b) in
      let e4 : Bool = within (set_t p a) (label_set p s) in
      let f : (e1 && e2) ≡ true = and_left (e1 && e2) e3 (and_left (e1 && e2 && e3) e4 e) in
      let la : length a ≡ suc (length s) = eqb-true _ _ (and_left e1 e2 f) in
      let lb : length b ≡ suc (length s) = eqb-true _ _ (and_right e1 e2 f) in
      omega (arith, counts, length_passing (λ y. is_in same_point y b) a)

  by_more : extended p a b ≡ true → length (outside same_point a b) ≤ 1
  unfolding extended
  by_more e =
      let e1 : Bool = eqb (length b) (suc (length a)) in
      let e2 : Bool = all (λ y. is_in same_point y b) a in
      let e3 : Bool = same eqb (label_set p a) (set_t p b) in
      let f : (e1 && e2) ≡ true = and_left (e1 && e2) e3 e in
      let l : length b ≡ suc (length a) = eqb-true _ _ (and_left e1 e2 f) in
      let n : outside same_point b a ≡ [] =
      outside-none on_points a b (all_in on_points (λ y. is_in same_point y b) a (and_right e1 e2 f)) in
      omega (arith, counts, ap length n)

  by_less : extended p b a ≡ true → length (outside same_point a b) ≤ 1
  unfolding extended
  by_less e =
      let e1 : Bool = eqb (length a) (suc (length b)) in
      let e2 : Bool = all (λ y. is_in same_point y a) b in
      let e3 : Bool = same eqb (label_set p b) (set_t p a) in
      let n : outside same_point a b ≡ [] = outside-none on_points b a
      (all_in on_points (λ y. is_in same_point y a) b (and_right e1 e2 (and_left (e1 && e2) e3 e))) in
      omega (arith, ap length n)

  one_in : linked p a b ≡ true → length (outside same_point a b) ≤ 1
  unfolding linked
  one_in e =
      ⊎_elim (λ m. ⊎_elim by_exchange by_more (or_cases (exchanged p a b) (extended p a b) m)) by_less
      (or_cases (exchanged p a b || extended p a b) (extended p b a) e)

module _ {p : Problem} (ok : HasTable p) where
  abbrev on_path : List Simplex
  on_path = (path_of p).visited

  follows : Follows p (path_of p).visited
  follows = (demand3_holds ok).follows

  one_by_one : OneByOne (path_of p).visited
  one_by_one = record {
    start = p.start;
    begins = follows.begins;
    next = λ k l. one_in p (place_at on_path k) (place_at on_path (suc k)) (follows.places k (omega arith))
        (follows.places (suc k) l) (follows.links k l);
  }

  on-grid : (y : Point) → is_in same_point y (visited_vertices p) ≡ true → is_grid_point p.grid y ≡ true
  unfolding visited_vertices
  on-grid y m =
      let w = place_in y on_path (firsts_in on_points y (points_of_places on_path) m) in
      all_in on_points (is_grid_point p.grid) (place_at on_path w.0)
      (parts p (place_at on_path w.0) (follows.places w.0 w.1)).grid_points y w.2

  pub visits : Visits p
  unfolding visited_vertices
  visits = record {
    each = λ y. (
      (λ m. place_in y on_path (firsts_in on_points y (points_of_places on_path) m)),
      (λ w. in_firsts on_points y (points_of_places on_path) (in_place y on_path w.0 w.1 w.2)),
    );
    once = firsts-distinct on_points (points_of_places on_path);
    in_order = rises on_path one_by_one;
    begins = first-is on_path follows.nonempty follows.begins;
    on_grid = on-grid;
    few = pigeon on_points (visited_vertices p) (points p.grid) (firsts-distinct on_points (points_of_places on_path))
        (λ z m. in_points p.grid z ok.has_start.same_number (on-grid z m));
  }
    where
      first-is : (s : List Simplex) → 0 < length s → place_at s 0 ≡ p.start ∷ [] → get_or (vertices_of s) 0 [] ≡ p.start
      first-is [] l e = absurd (omega arith)
      first-is (x ∷ s) l e = rw e
