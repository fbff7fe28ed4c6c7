-- An end of a place is complete for one block alone, whatever labels other points of the table have, or none. In order:
-- the labels of a place outside its T are at most one; an index outside T whose coordinate vanishes with one point is
-- the one from which the first step takes; ends. Assumes nothing.
use mathlib.Core.Bool.{true, false}
use mathlib.Core.List.{List, [], ◌∷◌, map}
use mathlib.Core.Logic.{⊎_elim}
use mathlib.Core.Path.{◌≡◌, refl, sym, ap, ◌∙◌}
use Prim.Native.Nat.{ℕ, zero, suc, pred, ◌+◌, ◌-◌, ◌≤◌, ◌<◌}
use borrow.Author.Tests.{ltb-true, ne_eqb, eqb-true}
use lib.Dec.{eqb, ltb}
use lib.ListN.{length, length-map}
use native.Mathlib.Omega.{arith}
use Rattle.combinatorics.proofs.Basics.{absurd_bool, before_or_not, true_or_false, same_or}
use Rattle.combinatorics.proofs.EditsRemove.{length-remove_at, remove_at-before, remove_at-behind}
use Rattle.combinatorics.proofs.Lists.{in_cases, in_map, pigeon, on_numbers, all_in}
use Rattle.combinatorics.proofs.Ranges.{up_from_in}
use Rattle.combinatorics.specs.Edits.{remove_at}
use Rattle.combinatorics.specs.Lists.{is_in, distinct}
use Rattle.geometry.proofs.Points.{nth}
use Rattle.grid_points.proofs.Points.{on_points}
use Rattle.grid_points.proofs.Round.{block-fits}
use Rattle.grid_points.specs.Grid.{Point, at, num_blocks, num_indices, first_index, size, indices_of, same_point}
use Rattle.place.specs.Ends.{End, stop, is_complete}
use Rattle.place.specs.Places.{Simplex, is_place, set_u, set_t, label_set, order, first_back_outside, unit}
use Rattle.place.specs.Problem.{Problem, label}
use Rattle.path_laws.proofs.BlocksOfGrid.{blocks_of, block_agrees}
use Rattle.path_laws.proofs.Facets.{one_less-at}
use Rattle.path_laws.proofs.IndexSets.{order-within, order-distinct, T-distinct, goes_at}
use Rattle.path_laws.proofs.LinkSymmetry.{parts}
use Rattle.path_laws.proofs.Meaning.{U_means, labels_mean, free_means, complete_means}
use Rattle.path_laws.proofs.Positions.{at_in, in_at, each_at}
use Rattle.path_laws.proofs.ToChain.{place-long}
use Rattle.path_laws.proofs.Ways.{IsWay, by_place, by_facet}
use Rattle.path_laws.specs.Demand.{HasStart}

-- a set of points has no more labels than points
labels-few : (p : Problem) (s : Simplex) (xs : List ℕ) → distinct eqb xs ≡ true
    → ((k : ℕ) → is_in eqb k xs ≡ true → is_in eqb k (label_set p s) ≡ true) → length xs ≤ length s
labels-few p s xs d inside =
    let f : Point → ℕ = λ y. pred (label p y) in
    omega (
      arith,
      length-map s f,
      pigeon on_numbers xs (map f s) d (λ k m.
          let l = (labels_mean p s k).0 (inside k m) in
          let e : f l.1.0 ≡ k = ap pred l.1.2 in
          rw e at (in_map on_points on_numbers f l.1.0 s l.1.1)),
    )

-- an index of two blocks
same_block : (p : Problem) (i j x : ℕ) → is_in eqb x (indices_of p.grid i) ≡ true → is_in eqb x (indices_of p.grid j) ≡ true
    → i ≡ j
same_block p i j x m n = sym (of i m) ∙ of j n
  where
    of : (j : ℕ) → is_in eqb x (indices_of p.grid j) ≡ true → (blocks_of p).block x ≡ j
    of j m =
        let r = up_from_in (first_index p.grid j) (size p.grid j) x m in
        let e : first_index p.grid j + (x - first_index p.grid j) ≡ x = omega (arith, r.0) in
        rw e at (block_agrees p j (x - first_index p.grid j) (omega (arith, r.0, r.1)))

module _ {p : Problem} (ok : HasStart p) (s : Simplex) (h : is_place p s ≡ true) where
  -- an index of block j in neither T nor U
  free : (j : ℕ) → j < num_blocks p.grid
      → (x : ℕ) × (is_in eqb x (indices_of p.grid j) ≡ true) × (is_in eqb x (set_t p s) ≡ false)
      × (is_in eqb x (set_u p.grid s) ≡ false)
  free = (free_means p s (set_t p s) (set_u p.grid s)).0 (parts p s h).free

  one_label : (a b : ℕ) → is_in eqb a (label_set p s) ≡ true → is_in eqb b (label_set p s) ≡ true
      → is_in eqb a (set_t p s) ≡ false → is_in eqb b (set_t p s) ≡ false → a ≡ b
  one_label a b m n ta tb = ⊎_elim (λ e. e) apart (same_or a b)
    where
      apart : (a ≡ b → ⊥) → a ≡ b
      apart other =
          let d : distinct eqb (a ∷ b ∷ set_t p s) ≡ true = rw (ne_eqb a b other, ta, tb) (T-distinct p s h) in
          let inside : (k : ℕ) → is_in eqb k (a ∷ b ∷ set_t p s) ≡ true → is_in eqb k (label_set p s) ≡ true = λ k i. ⊎_elim
          (λ e. rw e m)
          (λ i. ⊎_elim
          (λ e. rw e n)
          (λ i. all_in on_numbers (λ k. is_in eqb k (label_set p s)) (set_t p s) (parts p s h).labelled k i)
          (in_cases on_numbers k b (set_t p s) i))
          (in_cases on_numbers k a (b ∷ set_t p s) i) in
          absurd (omega (
            arith,
            labels-few p s (a ∷ b ∷ set_t p s) d inside,
            place-long ok s h,
            pigeon on_numbers (order p.grid s) (set_t p s) (order-distinct p s h) (order-within p s h),
          ))

  pub place-only : (i j : ℕ) → i < num_blocks p.grid → j < num_blocks p.grid → is_complete p s i ≡ true
      → is_complete p s j ≡ true → i ≡ j
  place-only i j li lj ci cj =
      let a = free i li in let b = free j lj in
      let e : a.0 ≡ b.0 = one_label a.0 b.0 (labelled i a.0 a.1 a.3 ci) (labelled j b.0 b.1 b.3 cj) a.2 b.2 in
      same_block p i j a.0 a.1 (rw e b.1)
    where
      labelled : (j x : ℕ) → is_in eqb x (indices_of p.grid j) ≡ true → is_in eqb x (set_u p.grid s) ≡ false
          → is_complete p s j ≡ true
          → is_in eqb x (label_set p s) ≡ true
      labelled j x m u c = ⊎_elim (λ l. l) (λ v. absurd_bool (sym v ∙ u)) ((complete_means p s j).0 c x m)

  -- the step from the j-th point, at an index outside T
  step_at_lem : (x : ℕ) → x < num_indices p.grid → is_in eqb x (set_t p s) ≡ false → (j : ℕ) → j < length (order p.grid s)
      → at (nth s (suc j)) x + unit (first_back_outside p.grid (set_u p.grid s) (at (order p.grid s) j)) x ≡ at (nth s j) x
  step_at_lem x l out j m =
      let a = at (order p.grid s) j in
      let other : x ≡ a → ⊥ = λ e.
      absurd_bool (sym (order-within p s h a (at_in on_numbers 0 (order p.grid s) j m)) ∙ (rw e at out)) in
      let q = goes_at p.grid a (first_back_outside p.grid (set_u p.grid s) a) (nth s j) (nth s (suc j))
      (each_at p.grid (set_u p.grid s) s (parts p s h).steps j m) x l in
      let none : unit a x ≡ 0 = rw (ne_eqb x a other) in
      omega arith

  falls : (x : ℕ) → x < num_indices p.grid → is_in eqb x (set_t p s) ≡ false → (j : ℕ) → j < length s
      → at (nth s j) x ≤ at (nth s 0) x
  falls x l out zero m = omega arith
  falls x l out (suc j) m =
      omega (arith, step_at_lem x l out j (omega (arith, place-long ok s h)), falls x l out j (omega arith))

  -- the place less its i-th point
  module _ (i : ℕ) (il : i < length s) (two : 1 < length s) (labels : label_set p (remove_at i s) ≡ set_t p s) where
    -- the other points stand in it
    stays : (k : ℕ) → k < length s → (k ≡ i → ⊥) → is_in same_point (nth s k) (remove_at i s) ≡ true
    stays k l other =
        let long = length-remove_at i s il in
        ⊎_elim (λ (x : k < i). rw (remove_at-before [] i s k x) at (at_in on_points [] (remove_at i s) k (omega arith)))
        (λ (x : i ≤ k).
        let e : suc (pred k) ≡ k = omega (arith, further k i other x) in
        rw (remove_at-behind [] i s (pred k) (omega (arith, further k i other x)), e) at
        (at_in on_points [] (remove_at i s) (pred k) (omega (arith, further k i other x))))
        (before_or_not k i)
      where
        further : (k i : ℕ) → (k ≡ i → ⊥) → i ≤ k → i < k
        further k i n l = ⊎_elim (λ m. m) (λ m. absurd (n (omega arith))) (before_or_not i k)

    -- a block that is complete then: its free index is the one from which the first step takes
    vanished : (x : ℕ) → x < num_indices p.grid → is_in eqb x (set_t p s) ≡ false → is_in eqb x (set_u p.grid s) ≡ false
        → is_in eqb x (set_u p.grid (remove_at i s)) ≡ true
        → x ≡ first_back_outside p.grid (set_u p.grid s) (at (order p.grid s) 0)
    vanished x l out positive zero-there = go i refl
      where
        b : ℕ
        b = first_back_outside p.grid (set_u p.grid s) (at (order p.grid s) 0)

        zero-at : (k : ℕ) → k < length s → (k ≡ i → ⊥) → at (nth s k) x ≡ 0
        zero-at k m other = ((U_means p.grid (remove_at i s) x).0 zero-there).1 (nth s k) (stays k m other)

        not_zero_lem : at (nth s i) x ≡ 0 → ⊥
        not_zero_lem z = absurd_bool
            (sym ((U_means p.grid s x).1 (
              l,
              (λ y m.
                  let k = in_at on_points [] y s m in
                  ⊎_elim
                  (λ e. rw (← k.2) (ap (λ (n : ℕ). at (nth s n) x) e ∙ z))
                  (λ other. rw (← k.2) (zero-at k.0 k.1 other))
                  (same_or k.0 i)),
            ))
            ∙ positive)

        go : (n : ℕ) → i ≡ n → x ≡ b
        go zero e =
            let z : at (nth s 1) x ≡ 0 = zero-at 1 two (λ q. omega arith) in
            let q : at (nth s 1) x + unit b x ≡ at (nth s 0) x = step_at_lem x l out 0 (omega (arith, place-long ok s h)) in
            ⊎_elim (λ t. eqb-true x b t)
            (λ (f : eqb x b ≡ false). let none : unit b x ≡ 0 = rw f in absurd (not_zero_lem (rw e (omega arith))))
            (true_or_false (eqb x b))
        go (suc n) e = absurd (not_zero_lem (omega (arith, falls x l out i il, zero-at 0 (omega arith) (λ q. omega arith))))

    pub facet-only : (j k : ℕ) → j < num_blocks p.grid → k < num_blocks p.grid → is_complete p (remove_at i s) j ≡ true
        → is_complete p (remove_at i s) k ≡ true → j ≡ k
    facet-only j k lj lk cj ck =
        let a = free j lj in let b = free k lk in
        let e : a.0 ≡ b.0 = from j a.0 a.1 a.2 a.3 cj ∙ sym (from k b.0 b.1 b.2 b.3 ck) in
        same_block p j k a.0 a.1 (rw e b.1)
      where
        from : (j x : ℕ) → is_in eqb x (indices_of p.grid j) ≡ true → is_in eqb x (set_t p s) ≡ false
            → is_in eqb x (set_u p.grid s) ≡ false → is_complete p (remove_at i s) j ≡ true
            → x ≡ first_back_outside p.grid (set_u p.grid s) (at (order p.grid s) 0)
        from j x m out positive c =
            let r = up_from_in (first_index p.grid j) (size p.grid j) x m in
            vanished x (omega (arith, r.1, block-fits p.grid.sizes j)) out positive (⊎_elim
            (λ l. absurd_bool (sym (rw labels at l) ∙ out))
            (λ u. u)
            ((complete_means p (remove_at i s) j).0 c x m))

  -- an end of a place is complete for its block alone
  pub end-only : (e : End) → IsWay p s (stop e) → (j : ℕ) → j < num_blocks p.grid → is_complete p e.simplex j ≡ true
      → j ≡ e.block
  end-only e (by_place k lk ck) j l c = place-only j k l lk c ck
  end-only e (by_facet f k m q lk ck) j l c =
      ⊎_elim
      (λ t. let i = one_less-at s f (rw t at m) in
      facet-only i.0 i.1 (ltb-true 1 (length s) t) (rw i.2 at q) j k l lk (rw i.2 at c) (rw i.2 at ck))
      (λ n. absurd_bool (sym (rw n at m)))
      (true_or_false (ltb 1 (length s)))
