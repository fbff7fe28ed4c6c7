-- Losses weighed by the mixes of the opponents from a block on, one block more. Assumes nothing.
use mathlib.Core.List.{List, [], ◌∷◌}
use mathlib.Core.Logic.{⊎_elim}
use mathlib.Core.Path.{◌≡◌, refl, sym, ap, ◌∙◌}
use Prim.Native.Nat.{ℕ, zero, suc, ◌+◌, ◌-◌, ◌*◌, ◌≤◌, ◌<◌}
use borrow.Author.Tests.{eq-eqb, ne_eqb}
use lib.Dec.{leb}
use lib.ListN.{length, get_or, take, drop, length-drop}
use lib.Seq.{length-take-le}
use native.Mathlib.Nat.{mul-le-mul_right}
use native.Mathlib.Numerals.{add-one}
use native.Mathlib.Omega.{arith}
use Rattle.combinatorics.proofs.Agreement.{all_drop, all_take}
use Rattle.combinatorics.proofs.Basics.{same_or}
use Rattle.combinatorics.proofs.Turns.{map_at}
use Rattle.grid_points.specs.Grid.{Grid, Point, at, num_blocks, size, first_index}
use Rattle.points_in_order.proofs.Blocks.{block-length}
use Rattle.game_losses.proofs.Weights.{dot-spread, dot_turn, dot-done, dot-bound, length-spread, length-weighed}
use Rattle.game_losses.proofs.Weights.{weighed-at}
use Rattle.game_losses.specs.Game.{dot, mix}
use Rattle.game_losses.specs.Weights.{weighed, spread}
use Rattle.game_weighed.proofs.Levels.{behind-next, behind-none}
use Rattle.game_weighed.specs.Levels.{behind}
use Rattle.game_point.specs.Weighing.{weights_from, CanWeighLosses}

pub dot-one : (t : List ℕ) → dot (1 ∷ []) t ≡ get_or t 0 0
dot-one [] = refl
dot-one (x ∷ t) = omega arith

pub dot_taken : (u t : List ℕ) → dot u (take (length u) t) ≡ dot u t
dot_taken [] t = refl
dot_taken (x ∷ u) [] = refl
dot_taken (x ∷ u) (z ∷ t) = rw (dot_taken u t)

module _ (g : Grid) (y : Point) (j : ℕ) where
  pub from-none : (l : ℕ) → num_blocks g ≤ l → weights_from g y j l ≡ 1 ∷ []
  from-none l h = let z : num_blocks g - l ≡ 0 = omega arith in rw z

  pub from-own : (l : ℕ) → l < num_blocks g → l ≡ j → weights_from g y j l ≡ weights_from g y j (l + 1)
  from-own l h e =
      let z : num_blocks g - l ≡ suc (num_blocks g - (l + 1)) = omega arith in
      rw (z, eq-eqb l j e, add-one l)

  pub from-other : (l : ℕ) → l < num_blocks g → (l ≡ j → ⊥)
      → weights_from g y j l ≡ spread (mix g y l) (weights_from g y j (l + 1))
  from-other l h n =
      let z : num_blocks g - l ≡ suc (num_blocks g - (l + 1)) = omega arith in
      rw (z, ne_eqb l j n, add-one l)

  -- as many as the opponents have profiles
  pub profiles-behind : (n l : ℕ) → l + n ≡ num_blocks g → length (weights_from g y j l) ≡ behind g j l
  profiles-behind zero l e =
      ap length (from-none l (omega arith)) ∙ sym (behind-none g j l (omega arith))
  profiles-behind (suc n) l e =
      let more = rw (add-one l) at (profiles-behind n (l + 1) (omega arith)) in
      ⊎_elim
      (λ (q : l ≡ j). ap length (from-own l (omega arith) q)
      ∙ rw (add-one l) (more ∙ sym (behind-next g j l (omega arith) ∙ rw (eq-eqb l j q) (omega arith))))
      (λ q. ap length (from-other l (omega arith) q)
      ∙ length-spread (mix g y l) (weights_from g y j (l + 1))
      ∙ rw (block-length g y l, add-one l, more, behind-next g j l (omega arith), ne_eqb l j q))
      (same_or l j)

-- what the function itself needs
module _ {g : Grid} {firsts rests : List ℕ} {y : Point} {t : List ℕ} {j l : ℕ}
    (C : CanWeighLosses g firsts rests y t j l)
  where
    pub at_last : num_blocks g ≤ l → (0 < length t) × (get_or t 0 0 ≡ dot (weights_from g y j l) t)
    at_last h = (
      omega (arith, C.whole, ap length (from-none g y j l h)),
      sym (ap (λ (u : List ℕ). dot u t) (from-none g y j l h) ∙ dot-one t),
    )

    pub at_own : l < num_blocks g → l ≡ j → CanWeighLosses g firsts rests y t j (l + 1)
    at_own h e = record {
      few = C.few;
      player = C.player;
      resting = C.resting;
      inside = omega arith;
      sizes = C.sizes;
      first = C.first;
      room = C.room;
      whole = C.whole ∙ ap length (from-own g y j l h e);
      low = C.low;
      fits = C.fits;
    }

    -- a block of an opponent, of s strategies, with r losses for each
    module _ (b : l < num_blocks g) (n : l ≡ j → ⊥) (s r : ℕ) (s-is : s ≡ size g l) (r_is : r ≡ behind g j (l + 1)) where
      abbrev u : List ℕ
      u = weights_from g y j (l + 1)

      abbrev values : List ℕ
      values = weighed s u t

      mix-long : length (mix g y l) ≡ s
      mix-long = block-length g y l ∙ sym s-is

      whole_is : length t ≡ s * length u
      whole_is = C.whole
          ∙ ap length (from-other g y j l b n)
          ∙ length-spread (mix g y l) u
          ∙ ap (λ (m : ℕ). m * length u) mix-long

      rest-is : r ≡ length u
      rest-is = r_is ∙ sym (profiles-behind g y j (num_blocks g - (l + 1)) (l + 1) (omega arith))

      pub row_inside : (k : ℕ) → k < s → k * r + r ≤ length t
      row_inside k h =
          let m : suc k * length u ≤ s * length u = mul-le-mul_right (length u) h in
          rw rest-is (omega (arith, whole_is))

      abbrev pub part : ℕ → List ℕ
      part k = take (k * r + r - k * r) (drop (k * r) t)

      pub can_part : (k : ℕ) → k < s → CanWeighLosses g firsts rests y (part k) j (l + 1)
      can_part k h = record {
        few = C.few;
        player = C.player;
        resting = C.resting;
        inside = omega arith;
        sizes = C.sizes;
        first = C.first;
        room = C.room;
        whole =
            let z : k * r + r - k * r ≡ r = omega arith in
            rw z
            (length-take-le r (drop (k * r) t) (omega (arith, length-drop (k * r) t, row_inside k h)) ∙ rest-is);
        low = all_take (λ v. leb v 1000) (k * r + r - k * r) (drop (k * r) t)
            (all_drop (λ v. leb v 1000) (k * r) t C.low);
        fits = C.fits;
      }

      part_is : (k : ℕ) → k < s → dot u (part k) ≡ get_or values k 0
      part_is k h =
          let z : k * r + r - k * r ≡ r = omega arith in
          rw (z, rest-is) (dot_taken u (drop (k * length u) t) ∙ sym (weighed-at s k u t h))

      pub total-is : dot (weights_from g y j l) t ≡ dot (mix g y l) values
      total-is = ap (λ (w : List ℕ). dot w t) (from-other g y j l b n)
          ∙ dot-spread (mix g y l) u t
          ∙ ap (λ (m : ℕ). dot (mix g y l) (weighed m u t)) mix-long

      pub total-low : dot (mix g y l) values ≤ 9000000000000000000
      total-low =
          omega (arith, total-is, dot-bound 1000 (weights_from g y j l) t C.low, C.fits l (omega arith))

      -- one strategy more
      pub one_more : (k first value : ℕ) → k < s → first ≡ first_index g l → value ≡ dot u (part k)
          → dot (drop k (mix g y l)) (drop k values)
          ≡ at y (first + k) * value + dot (drop (k + 1) (mix g y l)) (drop (k + 1) values)
      one_more k first value h f e =
          let m : get_or (mix g y l) k 0 ≡ at y (first + k) = (map_at (at y) (first_index g l) (size g l) k (omega arith)
          ∙ ap (λ (i : ℕ). at y (i + k)) (sym f)) in
          dot_turn (mix g y l) values k (omega (arith, mix-long)) (omega (arith, length-weighed s u t))
          ∙ rw (m, ← part_is k h, e)

      pub no_more_lem : dot (drop s (mix g y l)) (drop s values) ≡ 0
      no_more_lem = dot-done (mix g y l) (drop s values) s (omega (arith, mix-long))
