-- Sums weighed by a mix: that they are linear, may change places, and are the sums weighed by the products of mixes.
-- Assumes nothing.
use mathlib.Core.List.{List, [], ◌∷◌, ◌++◌, map}
use mathlib.Core.Path.{◌≡◌, refl, sym, ap, ◌∙◌}
use Prim.Native.Nat.{ℕ, suc, ◌+◌, ◌*◌, ◌≤◌, ◌<◌}
use lib.ListN.{length, drop, length-map}
use native.Mathlib.Nat.{mul-le-mul_left, mul_assoc}
use native.Mathlib.Omega.{arith}
use Rattle.combinatorics.specs.Lists.{sum}
use Rattle.grid_points.specs.Grid.{at}
use Rattle.game_losses.proofs.Weights.{length-spread}
use Rattle.game_losses.specs.Game.{dot}
use Rattle.game_losses.specs.Weights.{spread, weights}
use Rattle.game_weighed.specs.Levels.{blend}

pub blend-agree : (z : List ℕ) (f e : ℕ → ℕ) → ((k : ℕ) → k < length z → f k ≡ e k) → blend z f ≡ blend z e
blend-agree [] f e h = refl
blend-agree (x ∷ z) f e h =
    rw (h 0 (omega arith), blend-agree z (λ k. f (suc k)) (λ k. e (suc k)) (λ k l. h (suc k) (omega arith)))

pub blend-times : (a : ℕ) (z : List ℕ) (f : ℕ → ℕ) → blend z (λ k. a * f k) ≡ a * blend z f
blend-times a [] f = omega arith
blend-times a (x ∷ z) f = omega (arith, blend-times a z (λ k. f (suc k)))

pub blend_add : (z : List ℕ) (f e : ℕ → ℕ) → blend z (λ k. f k + e k) ≡ blend z f + blend z e
blend_add [] f e = omega arith
blend_add (x ∷ z) f e = omega (arith, blend_add z (λ k. f (suc k)) (λ k. e (suc k)))

pub blend-same : (z : List ℕ) (a : ℕ) → blend z (λ k. a) ≡ sum z * a
blend-same [] a = omega arith
blend-same (x ∷ z) a = omega (arith, blend-same z a)

pub dot-blend : (z v : List ℕ) → dot z v ≡ blend z (at v)
dot-blend [] v = refl
dot-blend (x ∷ z) [] = omega (arith, blend-same z 0)
dot-blend (x ∷ z) (y ∷ v) = ap (λ (n : ℕ). x * y + n) (dot-blend z v)

pub blend-bound : (z : List ℕ) (f : ℕ → ℕ) (b : ℕ) → ((k : ℕ) → f k ≤ b) → blend z f ≤ sum z * b
blend-bound [] f b h = omega arith
blend-bound (x ∷ z) f b h = omega (arith, mul-le-mul_left x (h 0), blend-bound z (λ k. f (suc k)) b (λ k. h (suc k)))

blend-append : (u v : List ℕ) (f : ℕ → ℕ) → blend (u ++ v) f ≡ blend u f + blend v (λ k. f (length u + k))
blend-append [] v f = blend-agree v f _ (λ k h. let z : 0 + k ≡ k = omega arith in sym (ap f z)) ∙ omega arith
blend-append (x ∷ u) v f =
    let later = blend-agree v
    (λ k. f (suc (length u + k)))
    (λ k. f (suc (length u) + k))
    (λ k h. let z : suc (length u + k) ≡ suc (length u) + k = omega arith in ap f z) in
    omega (arith, blend-append u v (λ k. f (suc k)), later)

blend_scaled : (a : ℕ) (u : List ℕ) (f : ℕ → ℕ) → blend (map (λ x. a * x) u) f ≡ a * blend u f
blend_scaled a [] f = omega arith
blend_scaled a (x ∷ u) f = omega (arith, blend_scaled a u (λ k. f (suc k)))

-- each number of one list times each of the other
blend-spread : (x u : List ℕ) (f : ℕ → ℕ) → blend (spread x u) f ≡ blend x (λ k. blend u (λ i. f (k * length u + i)))
blend-spread [] u f = refl
blend-spread (a ∷ x) u f = blend-append (map (λ y. a * y) u) (spread x u) f
    ∙ rw length-map (let here : blend u f ≡ blend u (λ i. f (0 * length u + i)) =
    blend-agree u f _ (λ i h. let z : i ≡ 0 * length u + i = omega arith in ap f z) in
    let later : blend x (λ k. blend u (λ i. f (length u + (k * length u + i))))
    ≡ blend x (λ k. blend u (λ i. f (suc k * length u + i))) =
    blend-agree x _ _ (λ k h.
    blend-agree u _ _ (λ i l. let z : length u + (k * length u + i) ≡ suc k * length u + i = omega arith in ap f z)) in
    rw (blend_scaled a u f, here, blend-spread x u (λ k. f (length u + k)), later))

-- sums change places
pub blend_exchange : (x u : List ℕ) (f : ℕ → ℕ → ℕ) → blend x (λ k. blend u (f k)) ≡ blend u (λ i. blend x (λ k. f k i))
blend_exchange [] u f = sym (blend-same u 0 ∙ omega arith)
blend_exchange (a ∷ x) u f =
    rw (blend_exchange x u (λ k. f (suc k)))
    (sym (blend_add u (λ i. a * f 0 i) (λ i. blend x (λ k. f (suc k) i)) ∙ rw (blend-times a u (f 0))))

-- one mix more behind the others
pub blend-behind : (xs : List (List ℕ)) (x : List ℕ) (f : ℕ → ℕ)
    → blend (weights (xs ++ x ∷ [])) f ≡ blend (weights xs) (λ i. blend x (λ k. f (i * length x + k)))
blend-behind [] x f = blend-spread x (1 ∷ []) f
    ∙ blend-agree x _
    (λ k. f (0 * length x + k))
    (λ k h. let z : k * 1 + 0 ≡ 0 * length x + k = omega arith in rw z (omega arith))
    ∙ omega arith
blend-behind (a ∷ xs) x f =
    blend-spread a (weights (xs ++ x ∷ [])) f
    ∙ blend-agree a _ _ (λ k h. blend-behind xs x (λ i. f (k * length (weights (xs ++ x ∷ [])) + i))
    ∙ blend-agree (weights xs) _ _ (λ i l. blend-agree x _ _ (λ t m. ap f (place k i t))))
    ∙ sym (blend-spread a (weights xs) (λ i. blend x (λ k. f (i * length x + k))))
  where
    product-behind : (xs : List (List ℕ)) → length (weights (xs ++ x ∷ [])) ≡ length (weights xs) * length x
    product-behind [] = length-spread x (1 ∷ []) ∙ omega arith
    product-behind (b ∷ xs) = length-spread b (weights (xs ++ x ∷ []))
        ∙ rw (product-behind xs, length-spread b (weights xs))
        (sym (mul_assoc (length b) (length (weights xs)) (length x)))

    place : (k i t : ℕ)
        → k * length (weights (xs ++ x ∷ [])) + (i * length x + t) ≡ (k * length (weights xs) + i) * length x + t
    place k i t = rw (product-behind xs) (omega arith)

-- a mix that is 1 at one strategy
pub blend_one : (f : ℕ → ℕ) → blend (1 ∷ []) f ≡ f 0
blend_one f = omega arith

-- numbers that stand step apart: the first two
module _ (mix values : List ℕ) (step : ℕ) where
  pub apart-first : 2 ≤ length mix
      → blend mix (λ k. at values (k * step))
      ≡ at mix 0 * at values 0 + at mix 1 * at values step + blend (drop 2 mix) (λ i. at values ((2 + i) * step))
  apart-first h = two mix h
    where
      two : (z : List ℕ) → 2 ≤ length z
          → blend z (λ k. at values (k * step))
          ≡ at z 0 * at values 0 + at z 1 * at values step + blend (drop 2 z) (λ i. at values ((2 + i) * step))
      two [] h = absurd (omega arith)
      two (x ∷ []) h = absurd (omega arith)
      two (x ∷ y ∷ z) h =
          let a : 0 * step ≡ 0 = omega arith in
          let b : 1 * step ≡ step = omega arith in
          let later : blend z (λ k. at values (suc (suc k) * step)) ≡ blend z (λ i. at values ((2 + i) * step)) =
          blend-agree z _ _ (λ k l. let e : suc (suc k) ≡ 2 + k = omega arith in ap (λ (n : ℕ). at values (n * step)) e)
          in
          rw (a, b, later) (omega arith)
