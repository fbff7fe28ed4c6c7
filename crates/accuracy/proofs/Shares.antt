-- The change of a strategy's loss, times the player's own division, is the sum of the other players' shares.
-- Assumes nothing.
use mathlib.Core.Bool.{true, not}
use mathlib.Core.List.{List, [], ◌∷◌, map}
use mathlib.Core.Logic.{⊎_elim}
use mathlib.Core.Path.{◌≡◌, refl, sym, ap, ◌∙◌}
use Prim.Native.Nat.{ℕ, zero, suc, ◌+◌, ◌-◌, ◌*◌, ◌/◌, ◌≤◌, ◌<◌}
use borrow.Author.Tests.{leb-true, ne_eqb}
use lib.Dec.{eqb, leb}
use lib.ListN.{length}
use native.Mathlib.Nat.{eq_of_mul-eq-mul_left, mul_assoc, mul-div_cancel_left}
use native.Mathlib.Omega.{arith}
use Rattle.accuracy.proofs.Changes.{change}
use Rattle.accuracy.specs.Accuracy.{ExactShares, all_shares, share}
use Rattle.combinatorics.proofs.Basics.{same_or}
use Rattle.combinatorics.proofs.Lists.{at_all, eqb_self, filter_in, in_here, in_later, on_numbers}
use Rattle.combinatorics.proofs.Ranges.{up_from_in}
use Rattle.combinatorics.specs.Lists.{all, filter, is_in, sum, up_from}
use Rattle.grid_points.specs.Grid.{Grid, blocks, division, num_blocks, size}
use Rattle.game_losses.proofs.Players.{product-own}
use Rattle.game_losses.specs.Game.{opponents, own_first, product}

-- with w_l = D / d_l
sum_shares : (whole c : ℕ) (d half w : ℕ → ℕ) (ls : List ℕ)
    → ((l : ℕ) → is_in eqb l ls ≡ true → (0 < d l) × (d l * w l ≡ whole)) → c * product (map d ls) ≡ whole
    → c * change d half ls ≡ sum (map (λ l. half l * w l) ls)
sum_shares whole c d half w [] h e = omega arith
sum_shares whole c d half w (l ∷ ls) h e =
    let p : ℕ = product (map d ls) in
    let own = h l (in_here on_numbers l ls) in
    let rest : c * d l * change d half ls ≡ sum (map (λ l. half l * w l) ls) = sum_shares whole (c * d l) d half w ls
    (λ i m. h i (in_later on_numbers i l ls m)) (mul_assoc c (d l) p ∙ e) in
    let q : c * p ≡ w l = eq_of_mul-eq-mul_left (d l) own.0 (c * p) (w l) (omega (arith, own.1)) in
    let r : half l * (c * p) ≡ half l * w l = ap (λ (n : ℕ). half l * n) q in
    omega arith

pub opponent_below : (g : Grid) (j l : ℕ) → is_in eqb l (opponents g j) ≡ true → l < num_blocks g
opponent_below g j l m = omega
    (arith, (up_from_in 0 (num_blocks g) l (filter_in on_numbers (λ i. not (eqb i j)) l (blocks g) m).0).1)

-- a sum over all blocks is that of one and of the others
none_out : (j b n : ℕ) → j < b → filter (λ i. not (eqb i j)) (up_from b n) ≡ up_from b n
none_out j b zero l = refl
none_out j b (suc n) l =
    rw (ne_eqb b j (λ e. omega arith)) (ap (λ (r : List ℕ). b ∷ r) (none_out j (suc b) n (omega arith)))

sum-range : (f : ℕ → ℕ) (j b n : ℕ) → b ≤ j → j < b + n
    → sum (map f (up_from b n)) ≡ f j + sum (map f (filter (λ i. not (eqb i j)) (up_from b n)))
sum-range f j b zero l m = absurd (omega arith)
sum-range f j b (suc n) l m = ⊎_elim
    (λ (e : b ≡ j). rw (e, eqb_self j, none_out j (suc j) n (omega arith)))
    (λ (d : b ≡ j → ⊥).
    rw (ne_eqb b j d) (omega (arith, sum-range f j (suc b) n (omega arith) (omega arith))))
    (same_or b j)

pub sum-own : (g : Grid) (f : ℕ → ℕ) (j : ℕ) → j < num_blocks g
    → sum (map f (blocks g)) ≡ f j + sum (map f (opponents g j))
sum-own g f j h = sum-range f j 0 (num_blocks g) (omega arith) (omega arith)

-- W - w_j
pub others_shares : (g : Grid) (j : ℕ) → j < num_blocks g
    → all_shares g - share g j ≡ sum (map (share g) (opponents g j))
others_shares g j h = omega (arith, sum-own g (share g) j h)

module _ (g : Grid) (even : length g.divisions ≡ num_blocks g) where
  pub product_of : (j : ℕ) → j < num_blocks g
      → product g.divisions ≡ division g j * product (map (division g) (opponents g j))
  product_of j h = rw even at (product-own g.divisions j (omega (arith, even)))

  module _ (some : all (λ d. leb 1 d) g.divisions ≡ true) where
    pub division-some : (j : ℕ) → j < num_blocks g → 0 < division g j
    division-some j h = leb-true 1 (division g j) (at_all (λ d. leb 1 d) g.divisions j some (omega (arith, even)))

    -- D / d_l, times d_l
    pub part_of : (l : ℕ) → l < num_blocks g
        → division g l * (product g.divisions / division g l) ≡ product g.divisions
    part_of l b = rw (product_of l b)
        (ap (λ (n : ℕ). division g l * n)
        (mul-div_cancel_left (product (map (division g) (opponents g l))) (division-some l b)))

    pub exact_shares : ExactShares g
    exact_shares l b =
        let h : ℕ = size g l / 2 in
        let w : ℕ = product g.divisions / division g l in
        let e : h * (division g l * w) ≡ h * product g.divisions = ap (λ (n : ℕ). h * n) (part_of l b) in
        omega arith

    pub shares : (j : ℕ) → j < num_blocks g
        → division g j * change (division g) (λ l. size g l / 2) (opponents g j) ≡ sum (map (share g) (opponents g j))
    shares j h = sum_shares (product g.divisions) (division g j) (division g) (λ l. size g l / 2)
        (λ l. product g.divisions / division g l) (opponents g j)
        (λ l m. let b : l < num_blocks g = opponent_below g j l m in (division-some l b, part_of l b))
        (sym (product_of j h))

    -- all that p_j can change
    pub all_shares_lem : (j : ℕ) → j < num_blocks g
        → change (division g) (λ l. size g l / 2) (own_first g j) ≡ sum (map (share g) (blocks g))
    all_shares_lem j h =
        let q : product g.divisions / division g j ≡ product (map (division g) (opponents g j)) =
        rw (product_of j h)
        (mul-div_cancel_left (product (map (division g) (opponents g j))) (division-some j h)) in
        rw (sum-own g (share g) j h, ← shares j h, q)
