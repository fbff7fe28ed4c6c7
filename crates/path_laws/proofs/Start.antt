-- The set of the start alone is a place. Assumes nothing.
use mathlib.Core.Bool.{Bool, true, false, not, ◌&&◌, ◌||◌}
use mathlib.Core.List.{List, [], ◌∷◌, map}
use mathlib.Core.Path.{◌≡◌, refl, ap}
use Prim.Native.Nat.{ℕ, zero, suc, ◌+◌, ◌≤◌, ◌<◌}
use borrow.Author.Tests.{eqb-true, leb-true}
use lib.Dec.{eqb, leb}
use lib.ListN.{length, replicate, length-replicate}
use native.Mathlib.Omega.{arith}
use Rattle.combinatorics.proofs.Basics.{and_left, and_right, or_left, or_right, false_of}
use Rattle.combinatorics.proofs.Lists.{filter_in, all_in, in_all, on_numbers, at_all}
use Rattle.combinatorics.proofs.Ranges.{up_from_in}
use Rattle.combinatorics.specs.Lists.{filter, all, any, is_in, sum}
use Rattle.grid_points.specs.Grid.{at, num_blocks, num_indices, first_index, size, division, indices, indices_of, blocks}
use Rattle.grid_points.specs.Grid.{is_grid_point}
use Rattle.place.specs.Coefficients.{coefficients}
use Rattle.place.specs.Places.{set_u, set_t, is_place, is_unlabelled_place, every_block_free}
use Rattle.place.specs.Problem.{Problem}
use Rattle.path_laws.proofs.Coefficients.{coefficients-are, coefficients-only}
use Rattle.path_laws.specs.Demand.{HasStart}

at-zeros : (n h : ℕ) → at (replicate n 0) h ≡ 0
at-zeros zero h = refl
at-zeros (suc n) zero = refl
at-zeros (suc n) (suc h) = at-zeros n h

filter_none : {q : ℕ → Bool} (xs : List ℕ) → ((x : ℕ) → q x ≡ false) → filter q xs ≡ []
filter_none [] h = refl
filter_none {q} (x ∷ xs) h = rw (h x) (filter_none xs h)

positive-sum : (f : ℕ → ℕ) {r : ℕ → Bool} (xs : List ℕ) → ((x : ℕ) → 0 < f x → r x ≡ true) → 0 < sum (map f xs)
    → any r xs ≡ true
positive-sum f [] h c = absurd (omega arith)
positive-sum f {r} (x ∷ xs) h c = go (f x) refl (positive-sum f xs h)
  where
    go : (n : ℕ) → f x ≡ n → (0 < sum (map f xs) → any r xs ≡ true) → (r x || any r xs) ≡ true
    go zero e i = or_right (r x) (any r xs) (i (omega arith))
    go (suc n) e i = or_left (r x) (any r xs) (h x (omega arith))

module _ {p : Problem} (ok : HasStart p) where
  zero-coefficients : coefficients p p.start ≡ replicate (num_indices p.grid) 0
  zero-coefficients =
      let g = p.grid in
      coefficients-only (coefficients-are p p.start ok.same_number ok.sizes ok.start ok.start)
      (record {
        numbers = length-replicate (num_indices g) 0;
        zero = λ j c. (
          first_index g j,
          omega arith,
          (let w : 2 ≤ size g j = leb-true 2 (size g j) (at_all (λ s. leb 2 s) g.sizes j ok.sizes c) in omega arith),
          at-zeros (num_indices g) (first_index g j),
        );
        rule = λ h c. rw (at-zeros (num_indices g) h) (ap (λ (x : ℕ). at p.start h + x) (at-zeros (num_indices g) _));
      })

  start-T : set_t p (p.start ∷ []) ≡ []
  unfolding set_t
  start-T = filter_none (indices p.grid)
      (λ h. rw (zero-coefficients, at-zeros (num_indices p.grid) h) (go (is_in eqb h (set_u p.grid (p.start ∷ [])))))
    where
      go : (b : Bool) → (not b && false) ≡ false
      go true = refl
      go false = refl

  start-free : every_block_free p.grid [] (set_u p.grid (p.start ∷ [])) ≡ true
  unfolding every_block_free is_grid_point set_u
  start-free =
      let g = p.grid in
      let u = set_u g (p.start ∷ []) in
      let v = p.start in
      in_all on_numbers
      (λ j. any (λ h. not (is_in eqb h []) && not (is_in eqb h u)) (indices_of g j))
      (blocks g)
      (λ j m.
      let c : j < 0 + num_blocks g = (up_from_in 0 (num_blocks g) j m).1 in
      let s : sum (map (at v) (indices_of g j)) ≡ division g j = eqb-true _ _ (all_in on_numbers
      (λ j. eqb (sum (map (at v) (indices_of g j))) (division g j))
      (blocks g)
      (and_right (eqb (length v) (num_indices g))
      (all (λ j. eqb (sum (map (at v) (indices_of g j))) (division g j)) (blocks g)) ok.start)
      j m) in
      let d : 1 ≤ division g j =
      leb-true 1 (division g j) (at_all (λ d. leb 1 d) g.divisions j ok.divisions (omega (arith, ok.same_number))) in
      positive-sum (at v) (indices_of g j)
      (λ h w.
      let o : is_in eqb h u ≡ false = false_of _
      (λ k. absurd (let z : at v h ≡ 0 = eqb-true _ _ (and_left (eqb (at v h) 0) true
      (filter_in on_numbers (λ h. all (λ y. eqb (at y h) 0) (p.start ∷ [])) h (indices g) k).1) in
      omega arith)) in
      rw o)
      (omega arith))

  pub start-place : is_place p (p.start ∷ []) ≡ true
  unfolding is_place is_unlabelled_place
  start-place = rw (start-T, ok.start, start-free)
