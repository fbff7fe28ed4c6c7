-- The ways of a move round a block, by the arrays of neighbours, are the geometry's. Assumes nothing.
use mathlib.Core.Bool.{Bool, true, false, not, ◌&&◌, ◌||◌}
use mathlib.Core.List.{List}
use mathlib.Core.Logic.{◌⊎◌, inl, inr, ⊎_elim}
use mathlib.Core.Path.{◌≡◌, refl, sym, ap, ◌∙◌}
use Prim.Native.Nat.{ℕ, zero, suc, ◌+◌, ◌-◌, ◌≤◌, ◌<◌}
use borrow.Author.Tests.{eqb-true, eqb-false, eq-eqb, ne_eqb, not-true, not-false}
use lib.Dec.{eqb}
use lib.ListN.{length, set, length-set}
use lib.Seq.{get_or-set_same, get_or-set_other}
use native.Mathlib.Omega.{arith}
use Rattle.combinatorics.proofs.Basics.{true_or_false, absurd_bool, same_or, before_or_not, or_cases, and_left}
use Rattle.combinatorics.proofs.Basics.{and_right}
use Rattle.geometry.proofs.BlocksOfSizes.{back_add}
use Rattle.geometry.proofs.Bridge.{zeros-yes, zeros-no, zeros-out}
use Rattle.geometry.proofs.Definitions.{back, Blocks, Chain, BackOutside, BackToZero, zeros}
use Rattle.geometry.proofs.LabelledChains.{list_at}
use Rattle.geometry.proofs.Search.{find}
use Rattle.geometry.proofs.Tight.{block-next}
use Rattle.grid_points.proofs.Round.{block-fits, seat, block_at}
use Rattle.grid_points.specs.Grid.{at, num_indices, size, block_of}
use Rattle.place.specs.Problem.{Problem}
use Rattle.path_laws.proofs.BlocksOfGrid.{blocks_of, back_shift, back_below, block_agrees, block-own, near-block}
use Rattle.path_laws.proofs.BlocksOfGrid.{next_agrees, previous_agrees}
use Rattle.path_laws.proofs.Filled.{FullyLabelled}
use Rattle.rules.specs.Mask.{bit}
use Rattle.rules.specs.Ready.{IsRound, tested_before}
use Rattle.rules.specs.Moves.{State, source_in, first_met, first_outside, source, first_outside_or_zero}
use Rattle.rules.specs.declared.Round.{Round}
use Rattle.rules.specs.Moves.{is_filled}
use Rattle.rules.specs.Moves.{changed_before}
use Rattle.rules.proofs.Describes.{Describes}

-- going from h by g, the n-th index is the first at which the test holds
pub record FirstAt (g : ℕ → ℕ) (q : ℕ → Bool) (h n : ℕ) : Type 0 where
  pub some : 0 < n
  pub skipped : (j : ℕ) → 0 < j → j < n → q (back g j h) ≡ false
  pub stops : q (back g n h) ≡ true

-- n steps by g go from h to b, and no fewer do
pub record Before (g : ℕ → ℕ) (h b n : ℕ) : Type 0 where
  pub ends : back g n h ≡ b
  pub apart : (j : ℕ) → j < n → back g j h ≡ b → ⊥

-- d is c with f at the n indices going from h by g
pub record ChangedOn (g f : ℕ → ℕ) (h n : ℕ) (c d : List ℕ) : Type 0 where
  pub size : length d ≡ length c
  pub on : (j : ℕ) → j < n → at d (back g j h) ≡ f (at c (back g j h))
  pub off : (k : ℕ) → ((j : ℕ) → j < n → back g j h ≡ k → ⊥) → at d k ≡ at c k

-- the way goes from each index below m by g
module _ (way : List ℕ) {g : ℕ → ℕ} (m : ℕ) (agrees : (h : ℕ) → h < m → at way h ≡ g h)
    (inside : (h : ℕ) → h < m → g h < m) where
  met : (q : ℕ → Bool) (fuel n h : ℕ) → h < m → n ≤ fuel → ((j : ℕ) → j < n → q (back g j h) ≡ false)
      → q (back g n h) ≡ true
      → first_met way q fuel h ≡ back g n h
  unfolding first_met
  met q zero zero h l c s e = refl
  met q zero (suc n) h l c s e = absurd (omega arith)
  met q (suc fuel) zero h l c s e = rw e
  met q (suc fuel) (suc n) h l c s e =
      rw (s 0 (omega arith), agrees h l)
      (met q fuel n (g h) (inside h l) (omega arith)
      (λ j d. rw (back_shift g j h) (s (suc j) (omega arith)))
      (rw (back_shift g n h) e) ∙ back_shift g n h)

  pub first_met_lem : (q : ℕ → Bool) (h d fuel : ℕ) → h < m → d < fuel → q (back g d (g h)) ≡ true
      → (n : ℕ) × (n ≤ fuel) × FirstAt g q h n × (first_met way q fuel (at way h) ≡ back g n h)
  first_met_lem q h d fuel l b e =
      ⊎_elim
      (λ w. (
        suc w.0,
        omega (arith, w.1),
        record {
          some = omega arith;
          skipped = λ j x y. let z : suc (j - 1) ≡ j = omega arith in
              rw (← z) (rw (back_shift g (j - 1) h) at (w.3 (j - 1) (omega arith)));
          stops = rw (back_shift g w.0 h) at w.2;
        },
        (rw (agrees h l) (met q fuel w.0 (g h) (inside h l) (omega (arith, w.1)) w.3 w.2)) ∙ back_shift g w.0 h,
      )) (λ none. absurd_bool (sym e ∙ none d (omega arith))) (find (λ j. q (back g j (g h))) (suc d))

  -- a way that comes to b is not at h again before
  no_return : {h b n : ℕ} → Before g h b n → (j : ℕ) → 0 < j → j < n → back g j h ≡ h → ⊥
  no_return {h} {n} B j x y e =
      let w : n - j + j ≡ n = omega arith in
      B.apart (n - j) (omega arith)
      (ap (back g (n - j)) (sym e) ∙ sym (back_add g (n - j) j h) ∙ ap (λ (i : ℕ). back g i h) w ∙ B.ends)

  before-tail : {h b n : ℕ} → Before g h b (suc n) → Before g (g h) b n
  before-tail {h} {n} B = record {
    ends = back_shift g n h ∙ B.ends;
    apart = λ j l e. B.apart (suc j) (omega arith) (sym (back_shift g j h) ∙ e);
  }

  pub changed : (f : ℕ → ℕ) {b : ℕ} (fuel n : ℕ) {h : ℕ} (c : List ℕ) → h < m → m ≤ length c → n ≤ fuel → Before g h b n
      → ChangedOn g f h n c (changed_before f way b fuel h c)
  unfolding changed_before
  changed f zero zero c l e a B = record { size = refl; on = λ j x. absurd (omega arith); off = λ k x. refl }
  changed f zero (suc n) c l e a B = absurd (omega arith)
  changed f {b} (suc fuel) zero {h} c l e a B =
      rw (eq-eqb h b B.ends) (record { size = refl; on = λ j x. absurd (omega arith); off = λ k x. refl })
  changed f {b} (suc fuel) (suc n) {h} c l e a B =
      rw (ne_eqb h b (B.apart 0 (omega arith)), agrees h l)
      (join (changed f fuel n _ (inside h l) (rw (length-set c h (f (at c h))) e) (omega arith) (before-tail B)))
    where
      c' : List ℕ
      c' = set c h (f (at c h))

      join : {d : List ℕ} → ChangedOn g f (g h) n c' d → ChangedOn g f h (suc n) c d
      join {d} C = record { size = C.size ∙ length-set c h (f (at c h)); on = on; off = off }
        where
          other : (k : ℕ) → (k ≡ h → ⊥) → at c' k ≡ at c k
          other k x = get_or-set_other c h k (f (at c h)) 0 x

          on : (j : ℕ) → j < suc n → at d (back g j h) ≡ f (at c (back g j h))
          on zero x = C.off h (λ j y z. no_return B (suc j) (omega arith) (omega arith) (sym (back_shift g j h) ∙ z))
              ∙ get_or-set_same c h (f (at c h)) 0 (omega arith)
          on (suc j) x =
              rw (back_shift g j h) at (C.on j (omega arith)
              ∙ ap f (other (back g j (g h)) (λ z. no_return B (suc j) (omega arith) x (sym (back_shift g j h) ∙ z))))

          off : (k : ℕ) → ((j : ℕ) → j < suc n → back g j h ≡ k → ⊥) → at d k ≡ at c k
          off k x = C.off k (λ j y z. x (suc j) (omega arith) (sym (back_shift g j h) ∙ z))
              ∙ other k (λ z. x 0 (omega arith) (sym z))

  pub tested : (q : ℕ → Bool) (f : ℕ → ℕ) {b : ℕ} (fuel n : ℕ) {h : ℕ} (c : List ℕ) → h < m → n ≤ fuel → Before g h b n
      → ((j : ℕ) → j < n → q (at c (back g j h)) ≡ true) → tested_before q f way b fuel h c ≡ true
  unfolding tested_before
  tested q f zero n c l a B t = refl
  tested q f {b} (suc fuel) zero {h} c l a B t = rw (eq-eqb h b B.ends)
  tested q f {b} (suc fuel) (suc n) {h} c l a B t = rw (
    ne_eqb h b (B.apart 0 (omega arith)),
    t 0 (omega arith),
    agrees h l,
  )
      (tested q f fuel n _ (inside h l) (omega arith) (before-tail B)
      (λ j x. rw (
        back_shift g j h,
        get_or-set_other c h (back g (suc j) h) (f (at c h)) 0 (no_return B (suc j) (omega arith) (omega arith)),
      ) (t (suc j) (omega arith))))

-- a way that is at h again after n steps meets no index but those of the n steps
round-again : (g : ℕ → ℕ) (h n : ℕ) → 0 < n → back g n h ≡ h → (d : ℕ)
    → (back g d h ≡ h) ⊎ ((j : ℕ) × (0 < j) × (j < n) × (back g j h ≡ back g d h))
round-again g h n l e zero = inl refl
round-again g h n l e (suc d) =
    ⊎_elim (λ w. on 0 (omega arith) (sym w)) (λ w. on w.0 w.2 w.3) (round-again g h n l e d)
  where
    on : (j : ℕ) → j < n → back g j h ≡ back g d h
        → (back g (suc d) h ≡ h) ⊎ ((j : ℕ) × (0 < j) × (j < n) × (back g j h ≡ back g (suc d) h))
    on j x w =
        ⊎_elim (λ (y : suc j < n). inr (suc j, omega arith, y, ap g w))
        (λ (y : n ≤ suc j). let z : suc j ≡ n = omega arith in inl (ap g (sym w) ∙ ap (λ (i : ℕ). back g i h) z ∙ e))
        (before_or_not (suc j) n)

neither : (a b : Bool) → (a || b) ≡ false → (a ≡ false) × (b ≡ false)
neither true b e = absurd_bool e
neither false b e = (refl, e)

forward-back : (R : Blocks) (n k : ℕ) → back R.next n (back R.previous n k) ≡ k
forward-back R zero k = refl
forward-back R (suc n) k =
    sym (back_shift R.next n _) ∙ ap (back R.next n) (R.next-previous (back R.previous n k)) ∙ forward-back R n k

block-forward : (R : Blocks) (n h : ℕ) → R.block (back R.next n h) ≡ R.block h
block-forward R zero h = refl
block-forward R (suc n) h = block-next R _ ∙ block-forward R n h

-- the run before the first index outside U, or before the first in T or with coefficient 0, where that is not h
pub before-outside : {R : Blocks} {U : ℕ → Bool} {h n : ℕ} → BackOutside R U h n → (back R.previous n h ≡ h → ⊥)
    → Before R.previous h (back R.previous n h) n
before-outside {R} {U} {h} B x = record {
  ends = refl;
  apart = λ j l e. ⊎_elim
      (λ (z : j ≡ 0). x (sym e ∙ ap (λ (i : ℕ). back R.previous i h) z))
      (λ z. absurd_bool (sym (B.skipped j (omega (arith, z)) l) ∙ ap U e ∙ B.stops))
      (same_or j 0);
}

pub before-zero : {R : Blocks} {T : ℕ → Bool} {c : ℕ → ℕ} {h n : ℕ} → BackToZero R T c h n
    → (back R.previous n h ≡ h → ⊥)
    → Before R.previous h (back R.previous n h) n
before-zero {R} {T} {c} {h} B x = record {
  ends = refl;
  apart = λ j l e. ⊎_elim (λ (z : j ≡ 0). x (sym e ∙ ap (λ (i : ℕ). back R.previous i h) z))
      (λ z. let w = B.skipped j (omega (arith, z)) l in
      ⊎_elim (λ y. absurd_bool (sym y ∙ ap T (sym e) ∙ w.0)) (λ y. omega (arith, w.1, ap c e)) B.stops) (same_or j 0);
}

-- the block of an index, by the grid
pub block_same : (p : Problem) (h : ℕ) → h < num_indices p.grid → (blocks_of p).block h ≡ block_of p.grid h
block_same p h l =
    let w = seat p.grid h l in
    ap (blocks_of p).block w.is
    ∙ block_agrees p w.j w.i w.inside
    ∙ sym (ap (block_of p.grid) w.is ∙ block_at p.grid.sizes w.j w.i w.inside)

-- the ways by the grid's neighbours
module _ {p : Problem} (ok : FullyLabelled p) {round : Round} (N : IsRound p.grid round) where
  -- a block lies within the indices
  pub in_block : (h k : ℕ) → h < num_indices p.grid → (blocks_of p).block k ≡ (blocks_of p).block h → k < num_indices p.grid
  in_block h k l e =
      ⊎_elim (λ x. x) (λ x. absurd (omega (arith, block-own p k h x e))) (before_or_not k (num_indices p.grid))

  -- a block's size is the number of steps that lead round it
  size-at : (h k : ℕ) → h < num_indices p.grid → k < num_indices p.grid → (blocks_of p).block k ≡ (blocks_of p).block h
      → size p.grid (block_of p.grid k) ≡ at round.sizes h
  size-at h k l m e = ap (size p.grid) (sym (block_same p k m) ∙ e ∙ block_same p h l) ∙ sym (N.size h l)

  pub size_few : (h : ℕ) → h < num_indices p.grid → at round.sizes h ≤ 16
  size_few h l = omega (arith, N.size h l, block-fits p.grid.sizes (block_of p.grid h), ok.has_start.sixteen_indices)

  distance-near : (h k : ℕ) → h < num_indices p.grid → k < num_indices p.grid → (blocks_of p).block k ≡ (blocks_of p).block h
      → (f : ℕ) → (blocks_of p).block f ≡ (blocks_of p).block k → (blocks_of p).distance k f < at round.sizes h
  distance-near h k l m e f g = omega (arith, near-block p k f m g, size-at h k l m e)

  pub backward : (h : ℕ) → h < num_indices p.grid → at round.previous h ≡ (blocks_of p).previous h
  backward h l = N.backward h l ∙ sym (previous_agrees p h l)

  pub forward : (h : ℕ) → h < num_indices p.grid → at round.next h ≡ (blocks_of p).next h
  forward h l = N.forward h l ∙ sym (next_agrees p h l)

  pub previous-below : (h : ℕ) → h < num_indices p.grid → (blocks_of p).previous h < num_indices p.grid
  previous-below h l = back_below p 1 h l

  pub next-below : (h : ℕ) → h < num_indices p.grid → (blocks_of p).next h < num_indices p.grid
  next-below h l = in_block h ((blocks_of p).next h) l (block-next (blocks_of p) h)

  back_met : (q : ℕ → Bool) (h k : ℕ) → h < num_indices p.grid → (blocks_of p).block k ≡ (blocks_of p).block h → q k ≡ true
      → (n : ℕ) × (n ≤ at round.sizes h) × FirstAt (blocks_of p).previous q h n
      × (first_met round.previous q (at round.sizes h) (at round.previous h) ≡ back (blocks_of p).previous n h)
  back_met q h k l e t =
      let R = blocks_of p in
      let b : R.block k ≡ R.block (R.previous h) = e ∙ sym (R.block-previous h) in
      first_met_lem round.previous _ backward previous-below q h (R.distance (R.previous h) k) (at round.sizes h) l
      (distance-near h (R.previous h) l (previous-below h l) (R.block-previous h) k b)
      (ap q (R.reached (R.previous h) k (sym b)) ∙ t)

  pub forward_met : (q : ℕ → Bool) (h k : ℕ) → h < num_indices p.grid → (blocks_of p).block k ≡ (blocks_of p).block h
      → q k ≡ true
      → (n : ℕ) × (n ≤ at round.sizes h) × FirstAt (blocks_of p).next q h n
      × (first_met round.next q (at round.sizes h) (at round.next h) ≡ back (blocks_of p).next n h)
  forward_met q h k l e t =
      let R = blocks_of p in
      let b : R.block k ≡ R.block (R.next h) = e ∙ sym (block-next R h) in
      let d : ℕ = R.distance k (R.next h) in
      let w : back R.next d (R.next h) ≡ k =
      ap (back R.next d) (sym (R.reached k (R.next h) b)) ∙ forward-back R d k in
      first_met_lem round.next _ forward next-below q h d (at round.sizes h) l
      (distance-near h k l (in_block h k l e) e (R.next h) (sym b)) (ap q w ∙ t)

  -- the first index outside U, going back and going forward
  module _ (U : ℕ) {in_u : ℕ → Bool} (same : (k : ℕ) → k < 16 → bit U k ≡ in_u k) where
    below : (n h : ℕ) → h < num_indices p.grid
        → bit U (back (blocks_of p).previous n h) ≡ in_u (back (blocks_of p).previous n h)
    below n h l =
        same (back (blocks_of p).previous n h) (omega (arith, back_below p n h l, ok.has_start.sixteen_indices))

    pub back-outside : (h k : ℕ) → h < num_indices p.grid → (blocks_of p).block k ≡ (blocks_of p).block h → in_u k ≡ false
        → (n : ℕ) × (n ≤ 16) × BackOutside (blocks_of p) in_u h n × (source round U h ≡ back (blocks_of p).previous n h)
    back-outside h k l e o =
        let w = back_met (λ k. not (bit U k)) h k l e
        (ap not (same k (omega (arith, in_block h k l e, ok.has_start.sixteen_indices)) ∙ o)) in (
          w.0,
          omega (arith, w.1, size_few h l),
          record {
            some = w.2.some;
            skipped = λ j a b. sym (below j h l) ∙ not-false _ (w.2.skipped j a b);
            stops = sym (below w.0 h l) ∙ not-true _ w.2.stops;
          },
          w.3,
        )

    pub forward-outside : (h k : ℕ) → h < num_indices p.grid → (blocks_of p).block k ≡ (blocks_of p).block h → in_u k ≡ false
        → (n : ℕ) × (n ≤ 16) × FirstAt (blocks_of p).next (λ k. not (in_u k)) h n
        × (first_outside round.next round.sizes U h ≡ back (blocks_of p).next n h)
    forward-outside h k l e o =
        let w = forward_met (λ k. not (bit U k)) h k l e
        (ap not (same k (omega (arith, in_block h k l e, ok.has_start.sixteen_indices)) ∙ o)) in
        let z : (j : ℕ) → not (bit U (back (blocks_of p).next j h)) ≡ not (in_u (back (blocks_of p).next j h)) = λ j. ap
        not
        (same (back (blocks_of p).next j h) (omega (
          arith,
          in_block h (back (blocks_of p).next j h) l (block-forward (blocks_of p) j h),
          ok.has_start.sixteen_indices,
        ))) in (
          w.0,
          omega (arith, w.1, size_few h l),
          record {
            some = w.2.some;
            skipped = λ j a b. sym (z j) ∙ w.2.skipped j a b;
            stops = sym (z w.0) ∙ w.2.stops;
          },
          w.3,
        )

  -- every index of h's block but h is in T or U
  module _ (T U : ℕ) {in_t in_u : ℕ → Bool} (same_t : (k : ℕ) → k < 16 → bit T k ≡ in_t k)
      (same_u : (k : ℕ) → k < 16 → bit U k ≡ in_u k) (h : ℕ) (l : h < num_indices p.grid) where
    abbrev stops_at : ℕ → Bool
    stops_at k = eqb k h || not (bit T k) && not (bit U k)

    around : (n : ℕ) × (n ≤ at round.sizes h) × FirstAt (blocks_of p).next stops_at h n
        × (first_met round.next stops_at (at round.sizes h) (at round.next h) ≡ back (blocks_of p).next n h)
    around = forward_met stops_at h h l refl (rw (eq-eqb h h refl))

    pub filled-yes : is_filled round T U h ≡ true → (k : ℕ) → (blocks_of p).block k ≡ (blocks_of p).block h → (k ≡ h → ⊥)
        → in_t k ≡ false → in_u k ≡ true
    filled-yes e k b x t =
        let R = blocks_of p in
        let w = around in
        let r : back R.next w.0 h ≡ h = sym w.3 ∙ eqb-true _ _ e in
        let d : ℕ = R.distance k h in
        let y : back R.next d h ≡ k = ap (back R.next d) (sym (R.reached k h b)) ∙ forward-back R d k in
        let low : k < 16 = omega (arith, in_block h k l b, ok.has_start.sixteen_indices) in
        ⊎_elim
        (λ z. absurd (x (sym y ∙ z)))
        (λ z.
        let q : stops_at k ≡ false = rw (z.3 ∙ y) at (w.2.skipped z.0 z.1 z.2) in
        sym (same_u k low) ∙ not-false (bit U k) (rw (ne_eqb k h x, same_t k low, t) at q))
        (round-again R.next h w.0 w.2.some r d)

    pub filled-no : is_filled round T U h ≡ false
        → (k : ℕ) × ((blocks_of p).block k ≡ (blocks_of p).block h) × (k ≡ h → ⊥) × (in_t k ≡ false) × (in_u k ≡ false)
    filled-no e =
        let R = blocks_of p in
        let w = around in
        let k : ℕ = back R.next w.0 h in
        let b : R.block k ≡ R.block h = block-forward R w.0 h in
        let x : (k ≡ h → ⊥) = λ z. eqb-false _ _ e (w.3 ∙ z) in
        let low : k < 16 = omega (arith, in_block h k l b, ok.has_start.sixteen_indices) in
        let q : (not (bit T k) && not (bit U k)) ≡ true = rw (ne_eqb k h x) at w.2.stops in (
          k,
          b,
          x,
          sym (same_t k low) ∙ not-true _ (and_left (not (bit T k)) (not (bit U k)) q),
          sym (same_u k low)
              ∙ not-true _ (and_right (not (bit T k)) (not (bit U k)) q),
        )

  -- the ways from an index of a chain, U being the zeros of its first point
  module _ {T : ℕ → Bool} {t : ℕ} {P : ℕ → ℕ → ℕ} {o : ℕ → ℕ} (K : Chain (blocks_of p) T t P o) (U : ℕ)
      (same : (k : ℕ) → k < 16 → bit U k ≡ zeros (blocks_of p) T (P 0) k) where
    -- a block has an index outside T and U
    pub outside : (h : ℕ)
        → (f : ℕ) × ((blocks_of p).block f ≡ (blocks_of p).block h) × (T f ≡ false) × (zeros (blocks_of p) T (P 0) f ≡ false)
    outside h = let f = K.free h in (f.0, f.1, f.2, zeros-out K f.0 f.2 f.3)

    pub chain-outside : (h : ℕ) → h < num_indices p.grid
        → (n : ℕ) × (n ≤ 16) × BackOutside (blocks_of p) (zeros (blocks_of p) T (P 0)) h n
        × (source round U h ≡ back (blocks_of p).previous n h)
    chain-outside h l = let f = outside h in back-outside U same h f.0 l f.1 f.3

    pub chain-to-zero : (c : List ℕ) → ((k : ℕ) → k < num_indices p.grid → at c k ≡ P 0 k) → (h : ℕ)
        → h < num_indices p.grid
        → (n : ℕ) × (n ≤ 16) × BackToZero (blocks_of p) T (P 0) h n
        × (first_outside_or_zero round U c h ≡ back (blocks_of p).previous n h)
    chain-to-zero c e h l = (
      w.0,
      omega (arith, w.1, size_few h l),
      record { some = w.2.some; skipped = skipped; stops = stops },
      w.3,
    )
      where
        R : Blocks
        R = blocks_of p

        f : (f : ℕ) × (R.block f ≡ R.block h) × (T f ≡ false) × (zeros R T (P 0) f ≡ false)
        f = outside h

        w : (n : ℕ) × (n ≤ at round.sizes h) × FirstAt R.previous (λ k. not (bit U k) || eqb (at c k) 0) h n
            × (first_outside_or_zero round U c h ≡ back R.previous n h)
        w = back_met _ h f.0 l f.1
            (let z : bit U f.0 ≡ false =
            same f.0 (omega (arith, in_block h f.0 l f.1, ok.has_start.sixteen_indices)) ∙ f.3 in
            rw z)

        u : (j : ℕ) → bit U (back R.previous j h) ≡ zeros R T (P 0) (back R.previous j h)
        u j = same (back R.previous j h) (omega (arith, back_below p j h l, ok.has_start.sixteen_indices))

        skipped : (j : ℕ) → 0 < j → j < w.0 → (T (back R.previous j h) ≡ false) × (0 < P 0 (back R.previous j h))
        skipped j a b =
            let k = back R.previous j h in
            let x = neither (not (bit U k)) _ (w.2.skipped j a b) in
            let z : (at c k ≡ 0 → ⊥) = eqb-false (at c k) 0 x.1 in
            ((zeros-yes K k (sym (u j) ∙ not-false (bit U k) x.0)).0, omega (arith, z, e k (back_below p j h l)))

        stops : (T (back R.previous w.0 h) ≡ true) ⊎ (P 0 (back R.previous w.0 h) ≡ 0)
        stops =
            let k = back R.previous w.0 h in
            ⊎_elim
            (λ x. ⊎_elim
            (λ y. inl y)
            (λ y.
            inr (omega (arith, zeros-no K k (sym (u w.0) ∙ not-true (bit U k) x) y, K.tight 0 (omega arith) k y)))
            (true_or_false (T k)))
            (λ x. inr (sym (e k (back_below p w.0 h l)) ∙ eqb-true (at c k) 0 x))
            (or_cases (not (bit U k)) _ w.2.stops)

-- how far back from h the index is that a step at h takes from
pub source-from : {p : Problem} → FullyLabelled p → {T : ℕ → Bool} {t : ℕ} {o : ℕ → ℕ} {x : List (ℕ → ℕ)} {s : State}
    → Describes p T t o x s → (h : ℕ) → h < num_indices p.grid
    → (n : ℕ) × (n ≤ 16) × BackOutside (blocks_of p) (zeros (blocks_of p) T (list_at x 0)) h n
    × (source_in s h ≡ back (blocks_of p).previous n h)
source-from ok {s} D h l = chain-outside ok D.round D.chain.chain s.U D.in_u h l
