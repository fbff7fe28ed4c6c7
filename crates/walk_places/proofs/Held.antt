-- The place that a struct holds. In order: what is kept is held; a place that is held is kept so; what is stored.
-- Assumes nothing.
use mathlib.Core.Bool.{true, false, ◌&&◌}
use mathlib.Core.List.{List, [], ◌∷◌}
use mathlib.Core.Logic.{⊎_elim}
use mathlib.Core.Option.{some}
use mathlib.Core.Path.{◌≡◌, refl, sym, ap, ◌∙◌, subst}
use Prim.Native.Nat.{ℕ, pred, ◌+◌, ◌≤◌}
use borrow.Author.Tests.{le-leb, leb-true, ne_eqb}
use lib.Dec.{leb}
use lib.ListN.{length, take, replicate, length-take}
use native.Mathlib.Omega.{arith}
use Rattle.combinatorics.proofs.Basics.{and_both, and_left, and_right, true_or_false}
use Rattle.combinatorics.proofs.Fronts.{front_taken}
use Rattle.combinatorics.specs.Lists.{first_or}
use Rattle.combinatorics.specs.Front.{padded}
use Rattle.grid_points.specs.Grid.{Grid, num_indices}
use Rattle.place.specs.Places.{Simplex, is_place, order}
use Rattle.place.specs.Problem.{Problem}
use Rattle.path_laws.proofs.IndexSets.{no-empty}
use Rattle.path_laws.proofs.ToChain.{place-long}
use Rattle.path_laws.specs.Demand.{HasStart}
use Rattle.walks.proofs.KeptForm.{order_is}
use Rattle.walks.proofs.Recognised.{kept-once}
use Rattle.walks.specs.Kept.{kept_points}
use Rattle.walk_places.proofs.Alike.{place_same, same_place_lem}
use Rattle.walk_places.specs.Walks.{before_of, holds_place, kept_as, place_of, same_place, stored}
use Rattle.walk_places.specs.declared.Place.{Place}

pub padded_taken : (n : ℕ) (xs : List ℕ) → length xs ≡ n → take n (padded 16 xs) ≡ xs
padded_taken n xs e = rw (← e) (front_taken xs (replicate 16 0))

take-some : (n : ℕ) (l : List ℕ) → n ≤ length l → length (take n l) ≡ n
take-some n l h = length-take n l ∙ omega arith

abbrev made : List ℕ → List ℕ → ℕ → Place
made first order count = record { first = first; order = order; count = count }

module _ (g : Grid) (first order : List ℕ) (n : ℕ) (few : num_indices g ≤ 16) (low : n ≤ 15) (long : length first ≡ 16)
    (enough : n ≤ length order) where
  kept : Place
  kept = kept_as (num_indices g) first order n

  -- what is kept is held
  again : kept_as (num_indices g) (padded 16 (take (num_indices g) first)) (padded 16 (take n order)) n
      ≡ kept_as (num_indices g) first order n
  again = rw (
    padded_taken (num_indices g) (take (num_indices g) first) (take-some (num_indices g) first (omega arith)),
    padded_taken n (take n order) (take-some n order enough),
  )

  pub kept-held : place_of g (kept_as (num_indices g) first order n)
      ≡ kept_points g (take (num_indices g) first) (take n order)
  unfolding place_of
  kept-held =
      let k : Place = kept_as (num_indices g) first order n in
      let c : pred (n + 1) ≡ n = omega arith in
      let h : holds_place g k ≡ true = rw c (and_both _ _
      (and_both _ _ (le-leb 1 (n + 1) (omega arith)) (le-leb (n + 1) 16 (omega arith))) (place_same k _ (sym again))) in
      rw (
        h,
        c,
        padded_taken (num_indices g) (take (num_indices g) first) (take-some (num_indices g) first (omega arith)),
        padded_taken n (take n order) (take-some n order enough),
      )

  pub kept-before : before_of g (kept_as (num_indices g) first order n)
      ≡ some (kept_points g (take (num_indices g) first) (take n order))
  kept-before = rw (ne_eqb (n + 1) 0 (λ e. absurd (omega arith))) (ap (λ (s : Simplex). some s) kept-held)

-- a place that is held is kept so
module _ (g : Grid) (b : Place) where
  pub not_held : holds_place g b ≡ false → place_of g b ≡ []
  unfolding place_of
  not_held e = rw e

  pub held : holds_place g b ≡ true
      → place_of g b ≡ kept_points g (take (num_indices g) b.first) (take (pred b.count) b.order)
  unfolding place_of
  held e = rw e

  pub held-parts : holds_place g b ≡ true
      → (1 ≤ b.count) × (b.count ≤ 16) × (b ≡ kept_as (num_indices g) b.first b.order (pred b.count))
  held-parts e =
      let x = leb 1 b.count in
      let y = leb b.count 16 in
      let z = same_place b (kept_as (num_indices g) b.first b.order (pred b.count)) in
      let xy = and_left (x && y) z e in
      (leb-true 1 _ (and_left x y xy), leb-true _ 16 (and_right x y xy), same_place_lem b _ (and_right (x && y) z e))

-- a struct that holds a place of a problem holds it, and so is not none
pub place-before : (p : Problem) → HasStart p → (b : Place) → is_place p (place_of p.grid b) ≡ true
    → before_of p.grid b ≡ some (place_of p.grid b)
place-before p ok b place =
    let h : holds_place p.grid b ≡ true = ⊎_elim (λ t. t)
    (λ f. absurd
    (no-empty p ok.some_block (subst (λ (s : Simplex). is_place p s ≡ true) (not_held p.grid b f) place)))
    (true_or_false (holds_place p.grid b)) in
    let some-points = (held-parts p.grid b h).0 in
    rw (ne_eqb b.count 0 (λ z. absurd (omega (arith, z, some-points))))

-- the struct is told by the place
module _ (p : Problem) (ok : HasStart p) (b : Place) (long_b : length b.order ≡ 16) (first order : List ℕ) (n : ℕ)
    (long : length (take n order) ≡ n)
    (place : is_place p (kept_points p.grid (take (num_indices p.grid) first) (take n order)) ≡ true)
    (is : place_of p.grid b ≡ kept_points p.grid (take (num_indices p.grid) first) (take n order)) where
  pub held-once : b ≡ kept_as (num_indices p.grid) first order n
  held-once = ⊎_elim
      (λ h.
      let w = held-parts p.grid b h in
      let k = kept-once p (take (num_indices p.grid) first) (take (num_indices p.grid) b.first) (take n order)
      (take (pred b.count) b.order) place (sym is ∙ held p.grid b h) in
      let e : pred b.count ≡ n =
      omega (arith, long, ap length k.1, length-take (pred b.count) b.order, w.0, w.1) in
      w.2 ∙ (rw (← k.0, ← k.1, e)))
      (λ f. absurd
      (no-empty p ok.some_block (subst (λ (s : Simplex). is_place p s ≡ true) (sym is ∙ not_held p.grid b f) place)))
      (true_or_false (holds_place p.grid b))

-- a place that is stored
pub stored-kept : (p : Problem) → HasStart p → (first order : List ℕ) (n : ℕ) → length (take n order) ≡ n
    → is_place p (kept_points p.grid (take (num_indices p.grid) first) (take n order)) ≡ true
    → stored p.grid (kept_points p.grid (take (num_indices p.grid) first) (take n order))
    ≡ kept_as (num_indices p.grid) first order n
unfolding stored
stored-kept p ok first order n long place =
    let y = take (num_indices p.grid) first in
    let o = take n order in
    let q = order_is p y o place in
    let c : length (kept_points p.grid y o) ≡ n + 1 =
    omega (arith, place-long ok (kept_points p.grid y o) place, ap length q, long) in
    rw (first_of o, q, c)
  where
    first_of : (r : List ℕ)
        → first_or [] (kept_points p.grid (take (num_indices p.grid) first) r) ≡ take (num_indices p.grid) first
    first_of [] = refl
    first_of (h ∷ r) = refl
