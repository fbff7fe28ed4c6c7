-- Sums of integers weighed by a mix, and that the products of mixes are linear in each of them. Assumes nothing.
use mathlib.Core.List.{List, [], ◌∷◌, ◌++◌}
use mathlib.Core.Path.{◌≡◌, refl, sym, ap, ◌∙◌}
use Prim.Native.Nat.{ℕ, zero, suc, ◌+◌, ◌*◌, ◌<◌}
use lib.IntN.{ℤ, pos, ◌+ℤ◌, ◌-ℤ◌, ◌*ℤ◌, +ℤ_assoc, +ℤ_comm}
use lib.ListN.{length, get_or, take, drop, replicate, length-set, length-replicate}
use native.Mathlib.Numerals.{add-one}
use native.Mathlib.Omega.{arith}
use Rattle.combinatorics.proofs.Turns.{map-append}
use Rattle.grid_points.specs.Grid.{at}
use Rattle.game_weighed.proofs.Blends.{blend-agree, blend-times, blend_add, blend-same, dot-blend}
use Rattle.game_weighed.specs.Levels.{blend}
use Rattle.game_losses.proofs.Weights.{dot-spread, length-weights}
use Rattle.game_corners.proofs.Integers.{difference-weighed}
use Rattle.game_corners.specs.Corners.{blend_ℤ, unit_vector}
use Rattle.game_losses.specs.Game.{dot}
use Rattle.game_losses.specs.Weights.{weighed, weights}

-- one integer more
pub blend_ℤ-next : (z : List ℕ) (k : ℕ) (f : ℕ → ℤ) → k < length z
    → blend_ℤ (take (k + 1) z) f ≡ blend_ℤ (take k z) f +ℤ pos (get_or z k 0) *ℤ f k
blend_ℤ-next z k f h = rw (add-one k) (go z k f h)
  where
    go : (z : List ℕ) (k : ℕ) (f : ℕ → ℤ) → k < length z
        → blend_ℤ (take (suc k) z) f ≡ blend_ℤ (take k z) f +ℤ pos (get_or z k 0) *ℤ f k
    go [] k f h = absurd (omega arith)
    go (x ∷ z) zero f h = +ℤ_comm (pos x *ℤ f 0) (pos 0)
    go (x ∷ z) (suc k) f h = ap (λ (n : ℤ). pos x *ℤ f 0 +ℤ n) (go z k (λ i. f (suc i)) (omega arith))
        ∙ sym (+ℤ_assoc (pos x *ℤ f 0) (blend_ℤ (take k z) (λ i. f (suc i))) (pos (get_or z k 0) *ℤ f (suc k)))

-- differences weighed are the difference of what is weighed
pub blend-difference : (z : List ℕ) (f e : ℕ → ℕ) (d : ℕ → ℤ) → ((k : ℕ) → k < length z → d k ≡ pos (f k) -ℤ pos (e k))
    → pos (blend z f) -ℤ pos (blend z e) ≡ blend_ℤ z d
blend-difference [] f e d h = refl
blend-difference (x ∷ z) f e d h =
    sym (difference-weighed x (f 0) (e 0) (blend z (λ k. f (suc k))) (blend z (λ k. e (suc k))))
    ∙ rw (
      h 0 (omega arith),
      ← blend-difference z (λ k. f (suc k)) (λ k. e (suc k)) (λ k. d (suc k)) (λ k l. h (suc k) (omega arith)),
    )

pub unit-length : (s k : ℕ) → length (unit_vector s k) ≡ s
unit-length s k = length-set (replicate s 0) k 1 ∙ length-replicate s 0

dot-zeros : (s : ℕ) (v : List ℕ) → dot (replicate s 0) v ≡ 0
dot-zeros zero v = refl
dot-zeros (suc s) [] = refl
dot-zeros (suc s) (y ∷ v) = omega (arith, dot-zeros s v)

dot-unit : (s k : ℕ) (v : List ℕ) → k < s → dot (unit_vector s k) v ≡ at v k
dot-unit zero k v h = absurd (omega arith)
dot-unit (suc s) zero [] h = refl
dot-unit (suc s) zero (y ∷ v) h = omega (arith, dot-zeros s v)
dot-unit (suc s) (suc k) [] h = refl
dot-unit (suc s) (suc k) (y ∷ v) h = omega (arith, dot-unit s k v (omega arith))

-- a mix that is one strategy picks its number
pub blend-unit : (s k : ℕ) (f : ℕ → ℕ) → k < s → blend (unit_vector s k) f ≡ f k
blend-unit zero k f h = absurd (omega arith)
blend-unit (suc s) zero f h = omega (arith, zeros s (λ i. f (suc i)))
  where
    zeros : (s : ℕ) (f : ℕ → ℕ) → blend (replicate s 0) f ≡ 0
    zeros zero f = refl
    zeros (suc s) f = omega (arith, zeros s (λ i. f (suc i)))
blend-unit (suc s) (suc k) f h = omega (arith, blend-unit s k (λ i. f (suc i)) (omega arith))

-- rows weighed by weights that are a sum
module _ (z w : List ℕ) (ws : ℕ → List ℕ) (long : (k : ℕ) → length (ws k) ≡ length w)
    (parts : (t : List ℕ) → dot w t ≡ blend z (λ k. dot (ws k) t)) where
  weighed-blend : (x t : List ℕ) → dot x (weighed (length x) w t) ≡ blend z (λ k. dot x (weighed (length x) (ws k) t))
  weighed-blend [] t = sym (blend-same z 0 ∙ omega arith)
  weighed-blend (a ∷ x) t = ap (λ (n : ℕ). a * n + dot x (weighed (length x) w (drop (length w) t))) (parts t)
      ∙ ap (λ (n : ℕ). a * blend z (λ k. dot (ws k) t) + n) (weighed-blend x (drop (length w) t))
      ∙ ap
      (λ (n : ℕ). n + blend z (λ k. dot x (weighed (length x) (ws k) (drop (length w) t))))
      (sym (blend-times a z (λ k. dot (ws k) t)))
      ∙ sym (blend_add z (λ k. a * dot (ws k) t) (λ k. dot x (weighed (length x) (ws k) (drop (length w) t))))
      ∙ blend-agree z _ _ (λ k h. rw (long k))

-- the products of the mixes are linear in each mix
pub linear : (xs : List (List ℕ)) (z : List ℕ) (ys : List (List ℕ)) (t : List ℕ)
    → dot (weights (xs ++ z ∷ ys)) t ≡ blend z (λ k. dot (weights (xs ++ unit_vector (length z) k ∷ ys)) t)
linear [] z ys t = dot-spread z (weights ys) t
    ∙ dot-blend z (weighed (length z) (weights ys) t)
    ∙ blend-agree z _ _ (λ k h.
    sym (dot-spread (unit_vector (length z) k) (weights ys) t
    ∙ rw (unit-length (length z) k) (dot-unit (length z) k _ h)))
linear (x ∷ xs) z ys t =
    dot-spread x (weights (xs ++ z ∷ ys)) t
    ∙ weighed-blend z (weights (xs ++ z ∷ ys)) (λ k. weights (xs ++ unit_vector (length z) k ∷ ys)) long
    (linear xs z ys) x t
    ∙ blend-agree z _ _ (λ k h. sym (dot-spread x (weights (xs ++ unit_vector (length z) k ∷ ys)) t))
  where
    long : (k : ℕ) → length (weights (xs ++ unit_vector (length z) k ∷ ys)) ≡ length (weights (xs ++ z ∷ ys))
    long k = rw (length-weights, length-weights, map-append, map-append, unit-length (length z) k)
