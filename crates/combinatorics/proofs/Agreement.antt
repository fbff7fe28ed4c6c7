-- Lists part by part, and functions that agree at the elements of a list. Assumes nothing.
use mathlib.Core.Bool.{Bool, true}
use mathlib.Core.List.{List, [], ◌∷◌, map}
use mathlib.Core.Path.{◌≡◌, refl, ap}
use Prim.Native.Nat.{ℕ, zero, suc, ◌+◌, ◌<◌}
use lib.ListN.{take, drop}
use native.Mathlib.Omega.{arith}
use Rattle.combinatorics.proofs.Basics.{and_both, and_left, and_right}
use Rattle.combinatorics.specs.Lists.{all, filter, up_from}

pub all_drop : {A : Type 0} (q : A → Bool) (k : ℕ) (l : List A) → all q l ≡ true → all q (drop k l) ≡ true
all_drop q zero l a = a
all_drop q (suc k) [] a = refl
all_drop q (suc k) (x ∷ l) a = all_drop q k l (and_right (q x) (all q l) a)

pub all_take : (q : ℕ → Bool) (k : ℕ) (l : List ℕ) → all q l ≡ true → all q (take k l) ≡ true
all_take q zero l a = refl
all_take q (suc k) [] a = refl
all_take q (suc k) (x ∷ l) a = and_both _ _ (and_left (q x) (all q l) a) (all_take q k l (and_right (q x) (all q l) a))

pub map-map : {A B C : Type 0} (f : B → C) (e : A → B) (l : List A) → map f (map e l) ≡ map (λ x. f (e x)) l
map-map f e [] = refl
map-map f e (x ∷ l) = ap (λ r. f (e x) ∷ r) (map-map f e l)

map-drop : (f : ℕ → ℕ) (k : ℕ) (l : List ℕ) → map f (drop k l) ≡ drop k (map f l)
map-drop f zero l = refl
map-drop f (suc k) [] = refl
map-drop f (suc k) (x ∷ l) = map-drop f k l

-- functions that agree where a test holds, or at numbers that follow one another
pub map-agree : {B : Type 0} (q : ℕ → Bool) (f e : ℕ → B) (l : List ℕ) → all q l ≡ true
    → ((i : ℕ) → q i ≡ true → f i ≡ e i) → map f l ≡ map e l
map-agree q f e [] a h = refl
map-agree q f e (i ∷ l) a h =
    let b : f i ≡ e i = h i (and_left (q i) (all q l) a) in
    rw (b, map-agree q f e l (and_right (q i) (all q l) a) h)

pub map_range : {B : Type 0} (f e : ℕ → B) (b n : ℕ) → ((k : ℕ) → k < n → f (b + k) ≡ e (b + k))
    → map f (up_from b n) ≡ map e (up_from b n)
map_range f e b zero h = refl
map_range f e b (suc n) h =
    let z : b + 0 ≡ b = omega arith in
    let here : f b ≡ e b = rw z at (h 0 (omega arith)) in
    let rest : map f (up_from (suc b) n) ≡ map e (up_from (suc b) n) =
    map_range f e (suc b) n (λ k l. let s : b + suc k ≡ suc b + k = omega arith in rw s at (h (suc k) (omega arith))) in
    rw (here, rest)

pub filter-agree : (p q : ℕ → Bool) (b n : ℕ) → ((k : ℕ) → k < n → p (b + k) ≡ q (b + k))
    → filter p (up_from b n) ≡ filter q (up_from b n)
filter-agree p q b zero h = refl
filter-agree p q b (suc n) h =
    let z : b + 0 ≡ b = omega arith in
    let here : p b ≡ q b = rw z at (h 0 (omega arith)) in
    rw (
      here,
      filter-agree p q (suc b) n
          (λ k l. let s : b + suc k ≡ suc b + k = omega arith in rw s at (h (suc k) (omega arith))),
    )

pub all-agree : (p q : ℕ → Bool) (b n : ℕ) → ((k : ℕ) → k < n → p (b + k) ≡ q (b + k))
    → all p (up_from b n) ≡ all q (up_from b n)
all-agree p q b zero h = refl
all-agree p q b (suc n) h =
    let z : b + 0 ≡ b = omega arith in
    let here : p b ≡ q b = rw z at (h 0 (omega arith)) in
    rw (
      here,
      all-agree p q (suc b) n (λ k l. let s : b + suc k ≡ suc b + k = omega arith in rw s at (h (suc k) (omega arith))),
    )
