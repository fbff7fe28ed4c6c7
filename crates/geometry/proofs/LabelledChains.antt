-- Places and links on lists of points, a point being its coefficients: places, links and ends as records.
-- Assumes nothing.
use mathlib.Core.Bool.{Bool}
use mathlib.Core.List.{List, [], ◌∷◌}
use mathlib.Core.Logic.{◌⊎◌}
use mathlib.Core.Path.{◌≡◌}
use Prim.Native.Nat.{ℕ, zero, suc, ◌≤◌}
use lib.ListN.{length, get_or}
use Rattle.geometry.proofs.Definitions.{Blocks, Chain, Carries, Covers, Inside, Complete, omit}

abbrev pub list_at : List (ℕ → ℕ) → ℕ → ℕ → ℕ
list_at cs j = get_or cs j (λ k. 0)

-- cs is a place, with the index set T
pub record LabelledChain (R : Blocks) (label_of : (ℕ → ℕ) → ℕ) (T : ℕ → Bool) (t : ℕ) (o : ℕ → ℕ) (cs : List (ℕ → ℕ))
    : Type 0 where
  pub size : length cs ≡ suc t
  pub chain : Chain R T t (list_at cs) o
  pub covers : Covers label_of T t (list_at cs)

-- the same T, all points but one of each, and what is shared carries T
pub record Swapped (label_of : (ℕ → ℕ) → ℕ) (T : ℕ → Bool) (t : ℕ) (a : List (ℕ → ℕ)) (T' : ℕ → Bool) (t' : ℕ)
    (b : List (ℕ → ℕ)) : Type 0 where
  pub same_t : T' ≡ T
  pub sizes : t' ≡ t
  pub i : ℕ
  pub i' : ℕ
  pub i_bound : i ≤ t
  pub i'_bound : i' ≤ t
  pub shared : (j : ℕ) → j ≤ t → (j ≡ i → ⊥) → (f : ℕ) × (f ≤ t) × (f ≡ i' → ⊥) × (list_at b f ≡ list_at a j)
  pub new : list_at b i' ≡ list_at a i → ⊥
  pub carry : Carries T t (λ j. label_of (list_at a j)) i

-- b is a and one point more, and the labels of a are exactly b's index set
pub record Extended (label_of : (ℕ → ℕ) → ℕ) (T : ℕ → Bool) (t : ℕ) (a : List (ℕ → ℕ)) (T' : ℕ → Bool) (t' : ℕ)
    (b : List (ℕ → ℕ)) : Type 0 where
  pub sizes : t' ≡ suc t
  pub part : (j : ℕ) → j ≤ t → (f : ℕ) × (f ≤ t') × (list_at b f ≡ list_at a j)
  pub covers : Covers label_of T' t (list_at a)
  pub inside : Inside label_of T' t (list_at a)

abbrev pub Joined : ((ℕ → ℕ) → ℕ) → (ℕ → Bool) → ℕ → List (ℕ → ℕ) → (ℕ → Bool) → ℕ → List (ℕ → ℕ) → Type 0
Joined label_of T t a T' t' b =
    Swapped label_of T t a T' t' b ⊎ (Extended label_of T t a T' t' b ⊎ Extended label_of T' t' b T t a)

-- from a place with T to b
abbrev pub LinkTo : Blocks → ((ℕ → ℕ) → ℕ) → (ℕ → Bool) → ℕ → List (ℕ → ℕ) → List (ℕ → ℕ) → Type 0
LinkTo R label_of T t a b =
    (T' : ℕ → Bool) × (t' : ℕ) × (o' : ℕ → ℕ) × LabelledChain R label_of T' t' o' b × Joined label_of T t a T' t' b

pub record Link (R : Blocks) (label_of : (ℕ → ℕ) → ℕ) (a b : List (ℕ → ℕ)) : Type 0 where
  pub T : ℕ → Bool
  pub t : ℕ
  pub o : ℕ → ℕ
  pub place : LabelledChain R label_of T t o a
  pub onto : LinkTo R label_of T t a b

abbrev pub tabulate {ℓ} : {A : Type ℓ} → ℕ → (ℕ → A) → List A
tabulate zero f = []
tabulate (suc n) f = f 0 ∷ tabulate n (λ j. f (suc j))

-- what remains of a place of s + 2 points without point i is complete for h's block, and its labels are exactly T
pub record FacetEnd (R : Blocks) (label_of : (ℕ → ℕ) → ℕ) (T : ℕ → Bool) (s : ℕ) (a : List (ℕ → ℕ)) (i h : ℕ)
    : Type 0 where
  pub bound : i ≤ suc s
  pub covers : Covers label_of T s (omit i (list_at a))
  pub inside : Inside label_of T s (omit i (list_at a))
  pub complete : Complete R label_of s (omit i (list_at a)) h

abbrev pub PlaceEnd : Blocks → ((ℕ → ℕ) → ℕ) → ℕ → List (ℕ → ℕ) → ℕ → Type 0
PlaceEnd R label_of t a h = Complete R label_of t (list_at a) h
