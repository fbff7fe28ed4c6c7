-- What a loop that goes through a list, or counts, has after one turn more. Assumes nothing.
use mathlib.Core.Bool.{Bool, true, false, ◌&&◌, and-true, and-false, and_assoc}
use mathlib.Core.List.{List, [], ◌∷◌, ◌++◌, map}
use mathlib.Core.Logic.{⊎_elim}
use mathlib.Core.Path.{◌≡◌, refl, sym, ap, ◌∙◌, subst}
use Prim.Native.Nat.{ℕ, zero, suc, ◌+◌, ◌≤◌, ◌<◌}
use lib.ListN.{length, length-map, get_or, take, set}
use lib.Seq.{get_or-set_same, get_or-set_other, take-suc, take_all}
use native.Mathlib.Nat.{add_assoc}
use native.Mathlib.Numerals.{add-one}
use native.Mathlib.Omega.{arith}
use Rattle.combinatorics.proofs.Basics.{same_or}
use Rattle.combinatorics.proofs.Fronts.{front_put}
use Rattle.combinatorics.proofs.Ranges.{length-up_from}
use Rattle.combinatorics.specs.Front.{front}
use Rattle.combinatorics.specs.Lists.{all, sum, up_from}

pub sum-append : (xs ys : List ℕ) → sum (xs ++ ys) ≡ sum xs + sum ys
sum-append [] ys = omega arith
sum-append (x ∷ xs) ys = rw (sum-append xs ys) (sym (add_assoc x (sum xs) (sum ys)))

all_append : (q : ℕ → Bool) (xs ys : List ℕ) → all q (xs ++ ys) ≡ (all q xs && all q ys)
all_append q [] ys = refl
all_append q (x ∷ xs) ys = ap (λ b. q x && b) (all_append q xs ys) ∙ sym (and_assoc (q x) (all q xs) (all q ys))

pub map-append : {A B : Type 0} (f : A → B) (xs ys : List A) → map f (xs ++ ys) ≡ map f xs ++ map f ys
map-append f [] ys = refl
map-append f (x ∷ xs) ys = ap (λ l. f x ∷ l) (map-append f xs ys)

-- the first i elements, and one more
pub sum-next : (xs : List ℕ) (i : ℕ) → i < length xs → sum (take (i + 1) xs) ≡ sum (take i xs) + get_or xs i 0
sum-next xs i h = rw (add-one, take-suc xs i 0, sum-append) (omega arith)

pub all-next : (q : ℕ → Bool) (xs : List ℕ) (i : ℕ) → i < length xs
    → all q (take (i + 1) xs) ≡ (all q (take i xs) && q (get_or xs i 0))
all-next q xs i h = rw (add-one, take-suc xs i 0, all_append, and-true)

-- an answer so far that a branch lowers where one test more fails, and else leaves
pub lowered : (good : Bool) {passes next : Bool} → passes ≡ false → next ≡ false → next ≡ (good && passes)
lowered good fails is = rw (fails, and-false good) is

pub left_as : {good passes next : Bool} → passes ≡ true → next ≡ good → next ≡ (good && passes)
left_as {good = good} holds is = rw (holds, and-true good) is

-- all elements, where the loop ends
pub whole : {A : Type 0} (xs : List A) (i : ℕ) → length xs ≤ i → take i xs ≡ xs
whole xs i h = take_all i xs h

-- the numbers below i, and i
pub up_from-next : (b i : ℕ) → up_from b (i + 1) ≡ up_from b i ++ ((b + i) ∷ [])
up_from-next b i = rw (add-one i) (go b i)
  where
    go : (b i : ℕ) → up_from b (suc i) ≡ up_from b i ++ ((b + i) ∷ [])
    go b zero = let z : b + 0 ≡ b = omega arith in rw z
    go b (suc i) = let z : b + suc i ≡ suc b + i = omega arith in rw z (ap (λ l. b ∷ l) (go (suc b) i))

map_next : (f : ℕ → ℕ) (b i : ℕ) → map f (up_from b (i + 1)) ≡ map f (up_from b i) ++ (f (b + i) ∷ [])
map_next f b i = rw (up_from-next b i, map-append)

pub sum-counted : (f : ℕ → ℕ) (b i : ℕ) → sum (map f (up_from b (i + 1))) ≡ sum (map f (up_from b i)) + f (b + i)
sum-counted f b i = rw (map_next f b i, sum-append) (omega arith)

pub all-counted : (q : ℕ → Bool) (i : ℕ) → all q (up_from 0 (i + 1)) ≡ (all q (up_from 0 i) && q i)
all-counted q i = let z : 0 + i ≡ i = omega arith in rw (up_from-next 0 i, all_append, and-true, z)

-- an array that is filled with the values of f
pub front-counted : (f : ℕ → ℕ) (old : List ℕ) (i : ℕ) → i < length old
    → set (front (map f (up_from 0 i)) old) i (f i) ≡ front (map f (up_from 0 (i + 1))) old
front-counted f old i h =
    let z : 0 + i ≡ i = omega arith in
    let e : i ≡ length (map f (up_from 0 i)) = sym (length-map (up_from 0 i) f ∙ length-up_from 0 i) in
    rw (map_next f 0 i, z) (front_put (map f (up_from 0 i)) old i (f i) e h)

-- the value at i among the values of f
pub map_at : (f : ℕ → ℕ) (b n i : ℕ) → i < n → get_or (map f (up_from b n)) i 0 ≡ f (b + i)
map_at f b zero i h = absurd (omega arith)
map_at f b (suc n) zero h = let z : b + 0 ≡ b = omega arith in rw z
map_at f b (suc n) (suc i) h = let z : b + suc i ≡ suc b + i = omega arith in rw z (map_at f (suc b) n i (omega arith))

-- what stands at i after a store at k
pub at_set : (P : ℕ → Type 0) (l : List ℕ) (k v i : ℕ) → k < length l → (i ≡ k → P v) → ((i ≡ k → ⊥) → P (get_or l i 0))
    → P (get_or (set l k v) i 0)
at_set P l k v i h same other = ⊎_elim
    (λ e. subst (λ (n : ℕ). P (get_or (set l k v) n 0)) (sym e) (rw (get_or-set_same l k v 0 h) (same e)))
    (λ n. rw (get_or-set_other l k i v 0 n) (other n))
    (same_or i k)
