-- What a move does, by its points and T: an exchange keeps T, a point more is an index more in T, a point less an index
-- less. Assumes nothing.
use mathlib.Core.Bool.{true, false}
use mathlib.Core.List.{List, [], ◌∷◌}
use mathlib.Core.Logic.{◌⊎◌, inl, inr, ⊎_elim}
use mathlib.Core.Path.{◌≡◌, sym, ap, ◌∙◌}
use Prim.Native.Nat.{ℕ, suc, ◌+◌, ◌≤◌, ◌<◌}
use borrow.Author.Tests.{eqb-true}
use lib.Dec.{eqb}
use lib.ListN.{length, length-map}
use native.Mathlib.Omega.{arith}
use Rattle.combinatorics.proofs.Basics.{absurd_bool, true_or_false, and_left, and_right, and_both, both}
use Rattle.combinatorics.proofs.Lists.{in_all, in_here, in_cases, distinct_filter, filter_cong, pigeon, on_numbers}
use Rattle.combinatorics.proofs.Ranges.{distinct-up_from}
use Rattle.combinatorics.proofs.Rising.{rising-distinct}
use Rattle.combinatorics.specs.Lists.{filter, is_in, distinct}
use Rattle.geometry.proofs.Definitions.{Less}
use Rattle.grid_points.proofs.Points.{on_points}
use Rattle.grid_points.specs.Grid.{Point, num_indices, indices, same_point, position}
use Rattle.place.specs.Coefficients.{coefficient_sum}
use Rattle.place.specs.Places.{Simplex, set_t, label_set, order, is_unlabelled_place, is_place}
use Rattle.place.specs.Problem.{Problem, with_labels}
use Rattle.path_laws.proofs.IndexSets.{no-empty, order-within, order-distinct, T-distinct}
use Rattle.path_laws.proofs.Meaning.{T_means}
use Rattle.path_laws.proofs.Positions.{set_of_lem}
use Rattle.path_laws.proofs.ToChain.{in_t, place-long}
use Rattle.path_laws.proofs.LinkSymmetry.{unlabelled-parts}
use Rattle.path_laws.specs.Demand.{HasStart}
use Rattle.trail.proofs.Outside.{one_of, none_of, in_outside, outside_in, outside-count}
use Rattle.trail.proofs.Reading.{T-alike}
use Rattle.trail.proofs.Tables.{some-table, some-index, in_order_lem}
use Rattle.trail.proofs.Tells.{Moves}
use Rattle.trail.specs.Change.{Change, change, rules, outside, keeps, gains, loses}

-- two lists that differ by an index
pub less_of : (u v : List ℕ) {g : ℕ} → outside eqb v u ≡ g ∷ [] → outside eqb u v ≡ []
    → Less (λ k. is_in eqb k u) (λ k. is_in eqb k v) g
less_of u v {g} e f =
    let w = outside_in on_numbers g u v (rw e (in_here on_numbers g [])) in
    record {
      has = w.0;
      out = w.1;
      rest = λ k n. both _ _
          (λ m. ⊎_elim
          (λ t. t)
          (λ z. absurd_bool (sym (rw f at (in_outside on_numbers k v u m z))))
          (true_or_false (is_in eqb k u)))
          (λ m. ⊎_elim
          (λ t. t)
          (λ z. ⊎_elim
          (λ q. absurd (n q))
          (λ q. absurd_bool (sym q))
          (in_cases on_numbers k g [] (rw e at (in_outside on_numbers k u v m z))))
          (true_or_false (is_in eqb k v)));
    }

-- two sets T without a difference
T-same : (p : Problem) (a b : Simplex) → outside eqb (set_t p a) (set_t p b) ≡ [] → outside eqb (set_t p b) (set_t p a) ≡ []
    → set_t p a ≡ set_t p b
unfolding set_t
T-same p a b e f = listed a
    ∙ filter_cong on_numbers (indices p.grid) (λ k m. both _ _ (within-other a b f k) (within-other b a e k))
    ∙ sym (listed b)
  where
    listed : (s : Simplex) → set_t p s ≡ filter (λ k. is_in eqb k (set_t p s)) (indices p.grid)
    listed s = set_of_lem _ (indices p.grid)

    within-other : (s t : Simplex) → outside eqb (set_t p t) (set_t p s) ≡ [] → (k : ℕ) → is_in eqb k (set_t p s) ≡ true
        → is_in eqb k (set_t p t) ≡ true
    within-other s t q k m = ⊎_elim
        (λ y. y)
        (λ z. absurd_bool (sym (rw q at (in_outside on_numbers k (set_t p s) (set_t p t) m z))))
        (true_or_false (is_in eqb k (set_t p t)))

-- by one rule T is kept, gains an index or loses one
T_changes : (c : Change) (r : ℕ) → rules c ≡ r ∷ []
    → (keeps c.into_t c.out_of_t ≡ true) ⊎ ((gains c.into_t c.out_of_t ≡ true) ⊎ (loses c.into_t c.out_of_t ≡ true))
unfolding rules
T_changes c r e =
    ⊎_elim (λ k. inl k)
    (λ (k : keeps c.into_t c.out_of_t ≡ false). ⊎_elim (λ g. inr (inl g))
    (λ (g : gains c.into_t c.out_of_t ≡ false). ⊎_elim (λ l. inr (inr l))
    (λ (l : loses c.into_t c.out_of_t ≡ false). absurd (omega (arith, ap length (rw (k, g, l) at e))))
    (true_or_false (loses c.into_t c.out_of_t)))
    (true_or_false (gains c.into_t c.out_of_t)))
    (true_or_false (keeps c.into_t c.out_of_t))

pub data Shape (p : Problem) (a b : Simplex) : Type 0 where
  exchange : (y z : Point) → outside same_point a b ≡ y ∷ [] → outside same_point b a ≡ z ∷ [] → set_t p a ≡ set_t p b
      → Shape p a b
  joins : (y : Point) (g : ℕ) → outside same_point a b ≡ y ∷ [] → outside same_point b a ≡ [] → Less (in_t p b) (in_t p a) g
      → Shape p a b
  leaves : (z : Point) (g : ℕ) → outside same_point a b ≡ [] → outside same_point b a ≡ z ∷ []
      → Less (in_t p a) (in_t p b) g → Shape p a b

pub points-distinct : (p : Problem) (s : Simplex) → is_unlabelled_place p s ≡ true → distinct same_point s ≡ true
points-distinct p s h = rising-distinct on_points (coefficient_sum p) s (unlabelled-parts p s h).in_order

module _ {p : Problem} (ok : HasStart p) where
  pub not_empty : (s : Simplex) → is_unlabelled_place p s ≡ true → 0 < length s
  unfolding is_place
  not_empty [] h = absurd (no-empty p ok.some_block place)
    where
      place : is_place p [] ≡ true
      place = and_both _ _ h (in_all on_numbers
          (λ k. is_in eqb k (label_set p []))
          (set_t p [])
          (λ k m. absurd_bool (sym ((T_means p [] k).0 m).2.1)))
  not_empty (y ∷ s) h = omega arith

  -- T has one index less than the place has points
  pub T-long : (s : Simplex) → is_unlabelled_place p s ≡ true → length s ≡ suc (length (set_t p s))
  T-long s h =
      let w = some-table ok s h 0 0 (not_empty s h) (some-index ok) in
      let q = with_labels p w.0 in
      let has_start = w.1.has_table.has_start in
      let e : set_t q s ≡ set_t p s = T-alike p w.0 s in
      let place = w.1.place in
      omega (
        arith,
        place-long has_start s place,
        ap length e,
        pigeon on_numbers (order p.grid s) (set_t q s) (order-distinct q s place) (order-within q s place),
        pigeon on_numbers (set_t q s) (order p.grid s) (T-distinct q s place) (λ k m. in_order_lem p s h k (rw e at m)),
      )

  pub T_unique : (s : Simplex) → distinct eqb (set_t p s) ≡ true
  unfolding set_t
  T_unique s = distinct_filter on_numbers _ (indices p.grid) (distinct-up_from 0 (num_indices p.grid))

  pub shape_of : (a b : Simplex) → is_unlabelled_place p a ≡ true → Moves p a b → Shape p a b
  unfolding change
  shape_of a b ha M = ⊎_elim
      (λ k.
      let x = one_of (outside same_point a b) (omega (arith, few, same k, counted, pointed)) in
      let y = one_of (outside same_point b a) (omega (arith, few, same k, counted, pointed)) in
      exchange x.0 y.0 x.1 y.1
      (T-same p a b (none_of into (omega (arith, same k))) (none_of out_of (omega (arith, same k)))))
      (λ w. ⊎_elim
      (λ g.
      let x = one_of (outside same_point a b) (omega (arith, few, one_more g, counted, pointed)) in
      let t = one_of into (omega (arith, one_more g)) in
      joins x.0 t.0 x.1 (none_of (outside same_point b a) (omega (arith, few, one_more g, counted, pointed)))
      (less_of (set_t p b) (set_t p a) t.1 (none_of out_of (omega (arith, one_more g)))))
      (λ l.
      let y = one_of (outside same_point b a) (omega (arith, few, one_less l, counted, pointed)) in
      let t = one_of out_of (omega (arith, one_less l)) in
      leaves y.0 t.0 (none_of (outside same_point a b) (omega (arith, few, one_less l, counted, pointed))) y.1
      (less_of (set_t p a) (set_t p b) t.1 (none_of into (omega (arith, one_less l)))))
      w)
      (T_changes (change p a b) M.rule.0 M.rule.1)
    where
      into : List ℕ
      into = outside eqb (set_t p a) (set_t p b)

      out_of : List ℕ
      out_of = outside eqb (set_t p b) (set_t p a)

      same : keeps into out_of ≡ true → (length into ≡ 0) × (length out_of ≡ 0)
      same k = (eqb-true _ 0 (and_left _ _ k), eqb-true _ 0 (and_right (eqb (length into) 0) _ k))

      one_more : gains into out_of ≡ true → (length into ≡ 1) × (length out_of ≡ 0)
      one_more k = (eqb-true _ 1 (and_left _ _ k), eqb-true _ 0 (and_right (eqb (length into) 1) _ k))

      one_less : loses into out_of ≡ true → (length into ≡ 0) × (length out_of ≡ 1)
      one_less k = (eqb-true _ 0 (and_left _ _ k), eqb-true _ 1 (and_right (eqb (length into) 0) _ k))

      few : (length (outside same_point a b) ≤ 1) × (length (outside same_point b a) ≤ 1)
          × (0 < length (outside same_point a b) + length (outside same_point b a))
      few =
          let i = length-map (outside same_point a b) (position p.grid) in
          let o = length-map (outside same_point b a) (position p.grid) in
          (omega (arith, i, M.few_in), omega (arith, o, M.few_out), omega (arith, i, o, M.some))

      counted : length into + length (set_t p a) ≡ length out_of + length (set_t p b)
      counted = outside-count on_numbers (set_t p a) (set_t p b) (T_unique a) (T_unique b)

      long : (length a ≡ suc (length (set_t p a))) × (length b ≡ suc (length (set_t p b)))
      long = (T-long a ha, T-long b M.place)

      pointed : (length (outside same_point a b) + length (set_t p a))
          ≡ (length (outside same_point b a) + length (set_t p b))
      pointed = omega (
        arith,
        long,
        outside-count on_points a b (points-distinct p a ha) (points-distinct p b M.place),
      )
