-- Losses weighed by one mix after the other are weighed by the products of the mixes. Assumes nothing.
use mathlib.Core.Bool.{true}
use mathlib.Core.List.{List, [], ◌∷◌, ◌++◌, map, append-nil}
use mathlib.Core.Path.{◌≡◌, refl, ap, ◌∙◌, subst}
use Prim.Native.Nat.{ℕ, zero, suc, ◌+◌, ◌*◌, ◌≤◌, ◌<◌}
use lib.Dec.{leb, ltb}
use lib.ListN.{length, get_or, take, drop, set, replicate, length-append, length-map, length-replicate, get_or-replicate}
use lib.ListN.{drop_of_length-le, get_or-map}
use lib.Seq.{paste, paste-suc, length-take-le, get_or-take, drop-cons, drop-drop}
use native.Mathlib.Nat.{mul-le-mul_left}
use native.Mathlib.Numerals.{add-one}
use native.Mathlib.Omega.{arith}
use borrow.Author.Tests.{leb-true, ltb-true}
use Rattle.combinatorics.proofs.Basics.{and_left, and_right}
use Rattle.combinatorics.proofs.Lists.{at_all}
use Rattle.combinatorics.proofs.Turns.{sum-append, map-append}
use Rattle.combinatorics.specs.Lists.{all, concat_map, sum, up_from}
use Rattle.grid_points.proofs.Points.{first-append}
use Rattle.grid_points.specs.Grid.{at}
use Rattle.game_losses.specs.Game.{product, dot, profiles, chance}
use Rattle.game_losses.specs.Weights.{weighed, spread, weights, fit}

dot-none : (u : List ℕ) → dot u [] ≡ 0
dot-none [] = refl
dot-none (x ∷ u) = refl

dot-append : (u v t : List ℕ) → dot (u ++ v) t ≡ dot u t + dot v (drop (length u) t)
dot-append [] v t = omega arith
dot-append (x ∷ u) v [] = omega (arith, dot-none v)
dot-append (x ∷ u) v (y ∷ t) = omega (arith, dot-append u v t)

dot-times : (a : ℕ) (u t : List ℕ) → dot (map (λ x. a * x) u) t ≡ a * dot u t
dot-times a [] t = omega arith
dot-times a (x ∷ u) [] = omega arith
dot-times a (x ∷ u) (y ∷ t) = omega (arith, dot-times a u t)

pub length-weighed : (n : ℕ) (u t : List ℕ) → length (weighed n u t) ≡ n
length-weighed zero u t = refl
length-weighed (suc n) u t = ap suc (length-weighed n u (drop (length u) t))

pub length-spread : (x u : List ℕ) → length (spread x u) ≡ length x * length u
length-spread [] u = omega arith
length-spread (a ∷ x) u = rw (length-append, length-map) (omega (arith, length-spread x u))

pub dot-spread : (x u t : List ℕ) → dot (spread x u) t ≡ dot x (weighed (length x) u t)
dot-spread [] u t = refl
dot-spread (a ∷ x) u t = dot-append (map (λ y. a * y) u) (spread x u) t
    ∙ rw (length-map, dot-times a u t) (omega (arith, dot-spread x u (drop (length u) t)))

pub weighed-at : (n k : ℕ) (u t : List ℕ) → k < n → get_or (weighed n u t) k 0 ≡ dot u (drop (k * length u) t)
weighed-at zero k u t h = absurd (omega arith)
weighed-at (suc n) zero u t h = let z : 0 * length u ≡ 0 = omega arith in rw z
weighed-at (suc n) (suc k) u t h =
    let w : suc k * length u ≡ length u + k * length u = omega arith in
    rw (w, ← drop-drop (k * length u) (length u) t) (weighed-at n k u (drop (length u) t) (omega arith))

sum-times : (a : ℕ) (u : List ℕ) → sum (map (λ x. a * x) u) ≡ a * sum u
sum-times a [] = omega arith
sum-times a (x ∷ u) = omega (arith, sum-times a u)

sum-spread : (x u : List ℕ) → sum (spread x u) ≡ sum x * sum u
sum-spread [] u = omega arith
sum-spread (a ∷ x) u = rw (sum-append, sum-times a u) (omega (arith, sum-spread x u))

pub sum-weights : (xs : List (List ℕ)) → sum (weights xs) ≡ product (map sum xs)
sum-weights [] = refl
sum-weights (x ∷ xs) = sum-spread x (weights xs) ∙ ap (λ (n : ℕ). sum x * n) (sum-weights xs)

pub length-weights : (xs : List (List ℕ)) → length (weights xs) ≡ product (map length xs)
length-weights [] = refl
length-weights (x ∷ xs) = length-spread x (weights xs) ∙ ap (λ (n : ℕ). length x * n) (length-weights xs)

pub dot-bound : (b : ℕ) (u t : List ℕ) → all (λ v. leb v b) t ≡ true → dot u t ≤ sum u * b
dot-bound b [] t a = omega arith
dot-bound b (x ∷ u) [] a = omega arith
dot-bound b (x ∷ u) (y ∷ t) a =
    let h : y ≤ b = leb-true y b (and_left (leb y b) (all (λ v. leb v b) t) a) in
    let m : x * y ≤ x * b = mul-le-mul_left x h in
    omega (arith, dot-bound b u t (and_right (leb y b) (all (λ v. leb v b) t) a))

-- the products of the mixes at all profiles
at_profile : (x : List ℕ) (xs : List (List ℕ)) (k : ℕ) (ls : List (List ℕ))
    → map (chance (x ∷ xs)) (map (λ l. k ∷ l) ls) ≡ map (λ w. at x k * w) (map (chance xs) ls)
at_profile x xs k [] = refl
at_profile x xs k (l ∷ ls) = ap (λ (r : List ℕ). at x k * chance xs l ∷ r) (at_profile x xs k ls)

at-profiles : (x : List ℕ) (xs : List (List ℕ)) (ls : List (List ℕ)) (ks : List ℕ)
    → map (chance (x ∷ xs)) (concat_map (λ k. map (λ l. k ∷ l) ls) ks) ≡ spread (map (at x) ks) (map (chance xs) ls)
at-profiles x xs ls [] = refl
at-profiles x xs ls (k ∷ ks) = rw (map-append, at_profile x xs k ls, at-profiles x xs ls ks)

pub chances : (xs : List (List ℕ)) → map (chance xs) (profiles (map length xs)) ≡ weights xs
chances [] = refl
chances (x ∷ xs) = at-profiles x xs (profiles (map length xs)) (up_from 0 (length x)) ∙ rw (chances xs, whole x)
  where
    whole : (x : List ℕ) → map (at x) (up_from 0 (length x)) ≡ x
    whole x = rw append-nil at (first-append x [])

-- a sum of products, one product a turn
pub dot_turn : (u t : List ℕ) (i : ℕ) → i < length u → i < length t
    → dot (drop i u) (drop i t) ≡ get_or u i 0 * get_or t i 0 + dot (drop (i + 1) u) (drop (i + 1) t)
dot_turn u t i a b = rw (drop-cons u i 0 a, drop-cons t i 0 b, add-one)

pub dot-done : (u t : List ℕ) (i : ℕ) → length u ≤ i → dot (drop i u) t ≡ 0
dot-done u t i h = rw (drop_of_length-le u h)

-- the losses of a player's strategies written one after the other
module _ (old mix values : List ℕ) (first k : ℕ) (inside : first + length mix ≤ length old)
    (turn : k < length mix) where
  pub expected_written : (loss : ℕ)
      → set (paste old first (replicate (length mix) loss) k) (first + k) loss
      ≡ paste old first (replicate (length mix) loss) (k + 1)
  expected_written loss = rw add-one (subst
      (λ (v : ℕ). set (paste old first (replicate (length mix) loss) k) (first + k) v
      ≡ paste old first (replicate (length mix) loss) (suc k))
      (get_or-replicate (length mix) k loss 0 turn)
      (paste-suc old first (replicate (length mix) loss) k 0 (omega arith) (rw length-replicate turn)))

  pub times-at : (d : ℕ) → get_or (map (λ v. d * v) (take (length mix) values)) k (d * 0) ≡ d * get_or values k 0
  times-at d = get_or-map (λ v. d * v) (take (length mix) values) k 0 ∙ rw (get_or-take (length mix) values k 0 turn)

  pub replaced-written : (d : ℕ) → length mix ≤ length values
      → set (paste old first (map (λ v. d * v) (take (length mix) values)) k) (first + k) (d * get_or values k 0)
      ≡ paste old first (map (λ v. d * v) (take (length mix) values)) (k + 1)
  replaced-written d h = rw (add-one, ← times-at d)
      (paste-suc old first (map (λ v. d * v) (take (length mix) values)) k (d * 0) (omega arith)
      (rw (length-map, length-take-le (length mix) values h) turn))

  pub times-fit : (d : ℕ) → length mix ≤ length values → fit (map (λ v. d * v) (take (length mix) values)) ≡ true
      → d * get_or values k 0 < 4294967296
  times-fit d h f =
      let z : d * 0 ≡ 0 = omega arith in
      let e : get_or (map (λ v. d * v) (take (length mix) values)) k 0 ≡ d * get_or values k 0 = rw z at (times-at d) in
      let b : ltb (get_or (map (λ v. d * v) (take (length mix) values)) k 0) 4294967296 ≡ true = at_all
      (λ v. ltb v 4294967296) (map (λ v. d * v) (take (length mix) values)) k f
      (rw (length-map, length-take-le (length mix) values h) turn) in
      ltb-true _ _ (rw e at b)
