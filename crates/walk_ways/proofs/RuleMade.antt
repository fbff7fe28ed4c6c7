-- The rule that a state holds after a move is the one by which its masks have changed. In order: the indices of the
-- order; the moves by their forms; the move. Assumes nothing.
use mathlib.Core.Bool.{Bool, true, false, not, ◌&&◌, ◌||◌, cond}
use mathlib.Core.List.{List}
use mathlib.Core.Logic.{⊎_elim}
use mathlib.Core.Path.{◌≡◌, refl, sym, ◌∙◌, subst}
use Prim.Native.Nat.{ℕ, zero, suc, ◌-◌, ◌≤◌, ◌<◌}
use borrow.Author.Tests.{eqb-false, eqb-true, ltb-false, ltb-true, not-true}
use lib.Dec.{eqb, ltb}
use lib.ListN.{length}
use native.Mathlib.Omega.{arith}
use Rattle.combinatorics.proofs.Basics.{absurd_bool, and_right, false_of, true_or_false}
use Rattle.combinatorics.proofs.Lists.{filter_in, on_numbers}
use Rattle.combinatorics.specs.Lists.{is_in}
use Rattle.grid_points.specs.Grid.{Point, at, indices}
use Rattle.path_laws.proofs.Positions.{at_in}
use Rattle.place.specs.Problem.{Problem}
use Rattle.rules.proofs.FirstMet.{below}
use Rattle.rules.specs.Mask.{bit, with_index, without_index}
use Rattle.rules.specs.Moves.{After, State, ends_at_facet, ends_at_place, first_met, first_outside_or_zero, goes, grow}
use Rattle.rules.specs.Moves.{is_filled, leave, leave_first, leave_last, leave_middle, make_move, shrink, source_in}
use Rattle.rules.specs.Ready.{IndicesBelow, Ready, ReadyLeave, label_in}
use Rattle.walks.specs.Kept.{zero_outside}
use Rattle.walk_ways.proofs.MaskTests.{goes-out, joins, never_there, rule_from, same_alike}
use Rattle.walk_ways.specs.Lent.{LentPlace}

-- an index met is below 16
one_below : (c : Bool) (a b : ℕ) → a < 16 → b < 16 → cond c a b < 16
one_below true a b x y = x
one_below false a b x y = y

met_below : (way : List ℕ) → IndicesBelow way → (q : ℕ → Bool) (n h : ℕ) → h < 16 → first_met way q n h < 16
unfolding first_met
met_below way B q zero h l = l
met_below way B q (suc n) h l = one_below (q h) h _ l (met_below way B q n (at way h) (below way B h))

module _ {p q : Problem} {y : Point} {o : List ℕ} {s : State} (L : LentPlace p q y o s) (R : Ready s)
    (B : IndicesBelow s.round.previous)
    (outside : 1 ≤ length s.order → bit s.U (source_in s (at s.order 0)) ≡ false) where
  -- the indices of the order are those of T, and not of U
  in_order : (j : ℕ) → j < length s.order → is_in eqb (at s.order j) o ≡ true
  in_order j l =
      subst (λ (r : List ℕ). is_in eqb (at s.order j) r ≡ true) L.order_is (at_in on_numbers 0 s.order j l)

  in_T : (j : ℕ) → j < length s.order → bit s.T (at s.order j) ≡ true
  in_T j l = L.in_t (at s.order j) (R.order_below j l) ∙ in_order j l

  out_of_U : (j : ℕ) → j < length s.order → bit s.U (at s.order j) ≡ false
  unfolding zero_outside
  out_of_U j l = false_of _ (λ t.
      let h = at s.order j in
      let z : is_in eqb h (zero_outside p.grid o y) ≡ true = sym (L.in_u h (R.order_below j l)) ∙ t in
      let k = (filter_in on_numbers (λ h. eqb (at y h) 0 && not (is_in eqb h o)) h (indices p.grid) z).1 in
      absurd_bool (sym (in_order j l) ∙ not-true _ (and_right (eqb (at y h) 0) (not (is_in eqb h o)) k)))

  -- a state, and what comes after a move, that hold the rule
  record Holds (e : State) : Type 0 where
    is : rule_from s.T s.U e.T e.U ≡ e.rule

  record Told (after : After) : Type 0 where
    told : (e : State) → after ≡ goes e → Holds e

  told_goes : {x : State} → Holds x → Told (goes x)
  told_goes {x} k = record { told = λ e q. let z : x ≡ e = cc in subst Holds z k }

  no-facet : {x : State} {h : ℕ} → Told (ends_at_facet x h)
  no-facet = record { told = λ e q. absurd_bool (cc) }

  no_place : {x : State} {h : ℕ} → Told (ends_at_place x h)
  no_place = record { told = λ e q. absurd_bool (cc) }

  kept : rule_from s.T s.U s.T s.U ≡ 1
  unfolding rule_from
  kept = rw (same_alike s.T, same_alike s.U)

  -- rules 6 and 7
  shrinks : (i e : ℕ) (into_u : Bool) → e < length s.order → Holds (shrink s i e into_u)
  unfolding shrink rule_from
  shrinks i e true l =
      let x = at s.order e in
      let low = R.order_below e l in
      let t = goes-out s.T x low (in_T e l) in
      record { is = rw (t.0, t.1, (joins s.U x low (out_of_U e l)).0) }
  shrinks i e false l =
      let t = goes-out s.T (at s.order e) (R.order_below e l) (in_T e l) in
      record { is = rw (t.0, t.1, same_alike s.U) }

  -- rules 1 and 2
  gains : (b : ℕ) → b < 16 → bit s.U b ≡ false → (c : Bool)
      → rule_from s.T s.U s.T (cond c (with_index s.U b) s.U) ≡ cond c 2 1
  unfolding rule_from
  gains b l e false = kept
  gains b l e true =
      let u = joins s.U b l e in
      rw (same_alike s.T, u.0, u.1)

  first-leaves : 1 ≤ length s.order → Told (leave_first s)
  unfolding leave_first
  first-leaves some =
      let h = at s.order 0 in
      let b = source_in s h in
      let low = met_below s.round.previous B (λ k. not (bit s.U k)) (at s.round.sizes h)
      (at s.round.previous h) (below s.round.previous B h) in
      let gone = eqb (at s.first b) 1 && not (bit s.T b) in
      let ends = gone && is_filled s.round s.T s.U b in
      ⊎_elim (λ (e : ends ≡ true). rw e no-facet)
      (λ (e : ends ≡ false). rw e (told_goes (record { is = gains b low (outside some) gone })))
      (true_or_false ends)

  middle_leaves : (i : ℕ) → 0 < i → i < length s.order → Holds (leave_middle s i)
  unfolding leave_middle
  middle_leaves i a l =
      let b = source_in s (at s.order i) in
      let goes_out = eqb (at s.order (i - 1)) b && eqb (at s.first b) 0 in
      ⊎_elim (λ (e : goes_out ≡ true). rw e (shrinks i (i - 1) true (omega arith)))
      (λ (e : goes_out ≡ false). rw e (record { is = kept })) (true_or_false goes_out)

  -- rules 1 and 3
  loses : (b : ℕ) → b < 16 → (c : Bool) → bit s.U b ≡ c
      → rule_from s.T s.U s.T (without_index s.U b) ≡ cond c 3 1
  unfolding rule_from
  loses b l false e = rw (same_alike s.T, never_there s.U b l e)
  loses b l true e =
      let u = goes-out s.U b l e in
      rw (same_alike s.T, u.0, u.1)

  last-leaves : 1 ≤ length s.order → Holds (leave_last s)
  unfolding leave_last
  last-leaves some =
      let t = length s.order in
      let h = at s.order (t - 1) in
      let b = first_outside_or_zero s.round s.U s.coefficients h in
      let low : b < 16 = met_below s.round.previous B
      (λ k. not (bit s.U k) || eqb (at s.coefficients k) 0) (at s.round.sizes h)
      (at s.round.previous h) (below s.round.previous B h) in
      ⊎_elim (λ (e : eqb (at s.first h) 0 ≡ true). rw e (shrinks t (t - 1) true (omega arith)))
      (λ (e : eqb (at s.first h) 0 ≡ false). rw e
      (⊎_elim (λ (d : eqb (at s.coefficients h) 0 ≡ true). rw d (shrinks t (t - 1) false (omega arith)))
      (λ (d : eqb (at s.coefficients h) 0 ≡ false). rw d (record { is = loses b low (bit s.U b) refl }))
      (true_or_false (eqb (at s.coefficients h) 0))))
      (true_or_false (eqb (at s.first h) 0))

  -- rules 4 and 5
  takes : (h : ℕ) → h < 16 → bit s.T h ≡ false → (c : Bool) → bit s.U h ≡ c
      → rule_from s.T s.U (with_index s.T h) (without_index s.U h) ≡ cond c 5 4
  unfolding rule_from
  takes h l e false u = let t = joins s.T h l e in rw (t.0, t.1, never_there s.U h l u)
  takes h l e true u = let t = joins s.T h l e in rw (t.0, t.1, (goes-out s.U h l u).0)

  grows : (h : ℕ) → h < 16 → bit s.T h ≡ false → Told (grow s h)
  unfolding grow
  grows h l e =
      let ends = not (bit s.U h) && is_filled s.round s.T s.U h in
      ⊎_elim (λ (d : ends ≡ true). rw d no_place)
      (λ (d : ends ≡ false). rw d (told_goes (record { is = takes h l e (bit s.U h) refl })))
      (true_or_false ends)

  leaves : (i : ℕ) → ReadyLeave s i → Told (leave s i)
  unfolding leave
  leaves i K =
      let n = length s.order in
      ⊎_elim (λ (e : eqb i 0 ≡ true). rw e (first-leaves (K.first (eqb-true i 0 e)).some))
      (λ (e : eqb i 0 ≡ false). rw e (told_goes
      (⊎_elim (λ (d : ltb i n ≡ true). rw d
      (middle_leaves i (let ne = eqb-false i 0 e in omega (arith, ne)) (ltb-true i n d)))
      (λ (d : ltb i n ≡ false). rw d
      (last-leaves (K.last (let m = ltb-false i n d in omega (arith, m, K.low))).some))
      (true_or_false (ltb i n)))))
      (true_or_false (eqb i 0))

  moves : Told (make_move s)
  unfolding make_move
  moves =
      let h = label_in s - 1 in
      ⊎_elim (λ (e : ltb s.rule 6 ≡ true). let l = ltb-true s.rule 6 e in
      rw e (⊎_elim (λ (d : bit s.T h ≡ true). rw d (leaves _ (R.leaves l d)))
      (λ (d : bit s.T h ≡ false). rw d (grows h (R.grows l d).low d))
      (true_or_false (bit s.T h))))
      (λ (e : ltb s.rule 6 ≡ false). rw e (leaves s.active (R.goes_on (ltb-false s.rule 6 e))))
      (true_or_false (ltb s.rule 6))

  pub rule-made : (e : State) → make_move s ≡ goes e → rule_from s.T s.U e.T e.U ≡ e.rule
  rule-made e q = (moves.told e q).is
