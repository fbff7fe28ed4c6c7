-- Labels read: a point comes in by a link exactly if the place has as many points as the one before or more, and the
-- number is at least 1 and at most the places. Assumes nothing.
use mathlib.Core.Bool.{Bool, true, false, cond, ◌&&◌, ◌||◌}
use mathlib.Core.List.{List, [], ◌∷◌}
use mathlib.Core.Logic.{⊎_elim}
use mathlib.Core.Path.{◌≡◌, refl, sym, ap, ◌∙◌}
use Prim.Native.Nat.{ℕ, suc, pred, ◌+◌, ◌≤◌, ◌<◌}
use borrow.Author.Tests.{eqb-true, le-leb, lt-leb}
use lib.Dec.{eqb, leb}
use lib.ListN.{length, length-append}
use native.Mathlib.Omega.{arith}
use Rattle.combinatorics.proofs.Basics.{and_left, and_right, or_cases, true_or_false}
use Rattle.combinatorics.proofs.Lists.{all_in, in_filter, filter-append, length-filter_le, pigeon}
use Rattle.combinatorics.proofs.Ranges.{length-up_from, up_from_add}
use Rattle.combinatorics.specs.Lists.{all, distinct, filter, is_in, same, up_from}
use Rattle.grid_points.proofs.Points.{on_points}
use Rattle.grid_points.specs.Grid.{same_point}
use Rattle.place.specs.LabelsRead.{point_came_in, came_in, labels_read}
use Rattle.place.specs.Links.{shared, exchanged, extended, linked}
use Rattle.place.specs.Places.{Simplex, set_t, label_set, within, is_place}
use Rattle.place.specs.Problem.{Problem}
use Rattle.path_laws.proofs.LinkSymmetry.{place-distinct}
use Rattle.path_laws.specs.Demand.{place_at}

-- where all points of b are points of a there are no more of them
no_more_lem : (a b : Simplex) → distinct same_point b ≡ true → all (λ y. is_in same_point y a) b ≡ true
    → length b ≤ length (shared a b)
no_more_lem a b d h = pigeon on_points b (shared a b) d (λ y m. in_filter on_points _ y a (all_in on_points _ b h y m) m)

came_by : (a b : Simplex) → distinct same_point b ≡ true → length (shared a b) < length b → point_came_in a b ≡ true
came_by a b d l =
    ⊎_elim
    (λ (h : all (λ y. is_in same_point y a) b ≡ true). absurd (omega (arith, no_more_lem a b d h, l)))
    (λ (h : all (λ y. is_in same_point y a) b ≡ false). rw h)
    (true_or_false (all (λ y. is_in same_point y a) b))

module _ (p : Problem) (a b : Simplex) where
  abbrev few : Bool
  few = eqb (length a) (suc (length (shared a b)))

  abbrev many : Bool
  many = eqb (length b) (suc (length (shared a b)))

  abbrev same_t : Bool
  same_t = same eqb (set_t p a) (set_t p b)

  by_exchange : distinct same_point b ≡ true → exchanged p a b ≡ true → point_came_in a b ≡ leb (length a) (length b)
  unfolding exchanged
  by_exchange d e =
      let f =
      and_left (few && many) same_t (and_left (few && many && same_t) (within (set_t p a) (label_set p (shared a b))) e) in
      let x = eqb-true (length a) (suc (length (shared a b))) (and_left few many f) in
      let y = eqb-true (length b) (suc (length (shared a b))) (and_right few many f) in
      came_by a b d (omega (arith, y)) ∙ sym (le-leb (length a) (length b) (omega (arith, x, y)))

  by_growth : distinct same_point b ≡ true → extended p a b ≡ true → point_came_in a b ≡ leb (length a) (length b)
  unfolding extended
  by_growth d e =
      let larger = eqb (length b) (suc (length a)) in
      let part = all (λ y. is_in same_point y b) a in
      let x = eqb-true (length b) (suc (length a)) (and_left larger part (and_left (larger && part) _ e)) in
      let shares = length-filter_le (λ y. is_in same_point y b) a in
      came_by a b d (omega (arith, x, shares)) ∙ sym (le-leb (length a) (length b) (omega (arith, x)))

  by_loss : extended p b a ≡ true → point_came_in a b ≡ leb (length a) (length b)
  unfolding extended
  by_loss e =
      let larger = eqb (length a) (suc (length b)) in
      let part = all (λ y. is_in same_point y a) b in
      let f = and_left (larger && part) _ e in
      let x = eqb-true (length a) (suc (length b)) (and_left larger part f) in
      rw (and_right larger part f, lt-leb (length a) (length b) (omega (arith, x)))

  -- a link brings a point in unless it leads to fewer points
  pub link-brings : is_place p b ≡ true → linked p a b ≡ true → point_came_in a b ≡ leb (length a) (length b)
  unfolding linked
  link-brings h l =
      let exchange : Bool = exchanged p a b in
      let growth : Bool = extended p a b in
      let distinct-b = place-distinct p b h in
      ⊎_elim
      (λ e. ⊎_elim (by_exchange distinct-b) (by_growth distinct-b) (or_cases exchange growth e))
      by_loss
      (or_cases (exchange || growth) (extended p b a) l)

-- one move more
pub came_next : (s : List Simplex) (k : ℕ)
    → came_in s (suc k) ≡ came_in s k + cond (point_came_in (place_at s k) (place_at s (suc k))) 1 0
unfolding came_in
came_next s k =
    let q : ℕ → Bool = λ i. point_came_in (place_at s i) (place_at s (suc i)) in
    let z : suc k ≡ k + 1 = omega arith in
    let zero-first : 0 + k ≡ k = omega arith in
    ap (λ (n : ℕ). length (filter q (up_from 0 n))) z
    ∙ ap (λ (l : List ℕ). length (filter q l)) (up_from_add 0 k 1)
    ∙ ap length (filter-append q (up_from 0 k) (up_from (0 + k) 1))
    ∙ length-append (filter q (up_from 0 k)) (filter q (up_from (0 + k) 1))
    ∙ ap (λ (n : ℕ). length (filter q (up_from 0 k)) + length (filter q (up_from n 1))) zero-first
    ∙ ap (λ (n : ℕ). length (filter q (up_from 0 k)) + n) (one (q k))
  where
    one : (b : Bool) → length (cond b (k ∷ []) []) ≡ cond b 1 0
    one true = refl
    one false = refl

pub came_none : (s : List Simplex) → came_in s 0 ≡ 0
unfolding came_in
came_none s = refl

pub came_few : (s : List Simplex) (k : ℕ) → came_in s k ≤ k
unfolding came_in
came_few s k =
    omega (arith, length-filter_le (λ i. point_came_in (place_at s i) (place_at s (suc i))) (up_from 0 k), length-up_from 0 k)

-- at least 1 and at most the places
pub labels-read_bounds : (s : List Simplex) → 0 < length s → (1 ≤ labels_read s) × (labels_read s ≤ length s)
unfolding labels_read
labels-read_bounds s h = (omega arith, omega (arith, came_few s (pred (length s))))
