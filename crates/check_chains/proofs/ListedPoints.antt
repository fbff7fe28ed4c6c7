-- Points that are lent one after another. In order: one of them; the sets so far; all or not all have sets; the chain.
-- Assumes nothing.
use mathlib.Core.Bool.{Bool, true, false}
use mathlib.Core.List.{List, map}
use mathlib.Core.Logic.{⊎_elim}
use mathlib.Core.Path.{◌≡◌, sym, ◌∙◌}
use Prim.Native.Nat.{ℕ, zero, suc, ◌+◌, ◌-◌, ◌*◌, ◌≤◌, ◌<◌}
use borrow.Author.Tests.{le-leb}
use lib.Dec.{leb}
use lib.ListN.{length, take, drop, set}
use lib.Seq.{get_or-set_same, get_or-set_other}
use native.Mathlib.Nat.{add-mul, mul-le-mul, mul-le-mul_right}
use native.Mathlib.Omega.{arith}
use Rattle.std.specs.Prelude.{Some, None}
use Rattle.combinatorics.proofs.Basics.{and_left, and_right, before_or_not}
use Rattle.combinatorics.specs.Lists.{all, up_from}
use Rattle.grid.proofs.Fields.{indices-few, made-accepted}
use Rattle.grid_points.specs.Grid.{Point, at, num_indices, is_grid_point}
use Rattle.grid.specs.Made.{shape}
use Rattle.grid.specs.declared.Grid.{Grid as GridStruct}
use Rattle.check_simplices.proofs.Tests.{index_at}
use Rattle.check_simplices.specs.Chains.{coefficients_from, zero_or_one, nested, pairwise, chain_from}
use Rattle.check_chains.proofs.Following.{ones_small}
use Rattle.check_chains.proofs.Nestings.{all-stops, all-goes, left-none, nested_is, pairwise-agree}
use Rattle.check_chains.specs.Listed.{listed, listed_at, HasPoints, Listed, AreSets, FoundSets}
use Rattle.check_chains.specs.Sets.{IsSet, nested_sets}

-- a test of all numbered elements
pub all-at : {A : Type 0} (q : A → Bool) (f : ℕ → A) (b n : ℕ) → all q (map f (up_from b n)) ≡ true → (k : ℕ) → b ≤ k
    → k < b + n → q (f k) ≡ true
all-at q f b zero h k l m = absurd (omega arith)
all-at q f b (suc n) h k l m =
    ⊎_elim (λ (x : b < k). all-at q f (suc b) n (and_right (q (f b)) _ h) k x (omega arith))
    (λ (x : k ≤ b). let e : k ≡ b = omega arith in rw e (and_left (q (f b)) _ h)) (before_or_not b k)

-- the k-th point
pub record IsListed (g : GridStruct) (numbers : List ℕ) (k : ℕ) : Type 0 where
  pub room : k * g.indices + g.indices ≤ length numbers
  pub small : k * g.indices + g.indices ≤ 256
  pub part : take (k * g.indices + g.indices - k * g.indices) (drop (k * g.indices) numbers)
      ≡ listed_at g.indices numbers k

pub is-listed : {g : GridStruct} {count : ℕ} {numbers : List ℕ} → HasPoints g count numbers → (k : ℕ) → k < count
    → IsListed g numbers k
is-listed {g} {count} H k l =
    let m = g.indices in
    let next : (k + 1) * m ≤ count * m = mul-le-mul_right m (omega arith) in
    let most : count * m ≤ 16 * 16 = mul-le-mul H.few (indices-few g H.made) in
    let e : k * m + m - k * m ≡ m = omega arith in
    record { room = omega (arith, add-mul k 1 m, H.whole); small = omega (arith, add-mul k 1 m); part = rw e }

module _ {g : GridStruct} {count : ℕ} {numbers : List ℕ} (L : Listed g count numbers) where
  pub on-grid : (k : ℕ) → k < count → is_grid_point (shape g) (listed_at g.indices numbers k) ≡ true
  on-grid k l =
      all-at (is_grid_point (shape g)) (listed_at g.indices numbers) 0 count L.on_grid k (omega arith) (omega arith)

  module _ (p : Point) where
    abbrev has-set : Point → Bool
    has-set z = zero_or_one (shape g) (coefficients_from (shape g) p z)

    set_means : (z : Point) {s : ℕ} → IsSet (num_indices (shape g)) (coefficients_from (shape g) p z) s
        → zero_or_one (shape g) (coefficients_from (shape g) p z) ≡ true
    set_means z {s} S = index_at (shape g)
        (λ h. leb (at (coefficients_from (shape g) p z) h) 1)
        (λ k l. le-leb (at (coefficients_from (shape g) p z) k) 1 (omega (arith, S.is k l, ones_small s k)))

    -- one more set is stored
    pub set-stored : (sets : List ℕ) (k s : ℕ) → k < length sets → AreSets g p numbers k sets
        → IsSet (num_indices (shape g)) (coefficients_from (shape g) p (listed_at g.indices numbers k)) s
        → AreSets g p numbers (k + 1) (set sets k s)
    set-stored sets k s l old S i m =
        ⊎_elim (λ (x : i < k). rw (get_or-set_other sets k i s 0 (omega_not i k x)) (old i x))
        (λ (x : k ≤ i). let e : i ≡ k = omega arith in rw (e, get_or-set_same sets k s 0 l) S) (before_or_not i k)
      where
        omega_not : (i k : ℕ) → i < k → i ≡ k → ⊥
        omega_not i k x e = omega arith

    -- the point k has no set,
    pub filled-no : (k : ℕ) → k < count
        → all has-set (listed g.indices count numbers)
        ≡ all has-set (map (listed_at g.indices numbers) (up_from k (count - k)))
        → zero_or_one (shape g) (coefficients_from (shape g) p (listed_at g.indices numbers k)) ≡ false
        → FoundSets g p numbers count None
    filled-no k l e none = sym (all-stops (listed_at g.indices numbers) k count l has-set e none)

    -- or it has one,
    pub filled_more : (k s : ℕ) → k < count
        → all has-set (listed g.indices count numbers)
        ≡ all has-set (map (listed_at g.indices numbers) (up_from k (count - k)))
        → IsSet (num_indices (shape g)) (coefficients_from (shape g) p (listed_at g.indices numbers k)) s
        → all has-set (listed g.indices count numbers)
        ≡ all has-set (map (listed_at g.indices numbers) (up_from (k + 1) (count - (k + 1))))
    filled_more k s l e S =
        all-goes (listed_at g.indices numbers) k count l has-set e (set_means (listed_at g.indices numbers k) S)

    -- and then all have
    pub filled-yes : (sets : List ℕ) (k : ℕ) → k ≡ count
        → all has-set (listed g.indices count numbers)
        ≡ all has-set (map (listed_at g.indices numbers) (up_from k (count - k)))
        → AreSets g p numbers k sets
        → FoundSets g p numbers count (Some sets)
    filled-yes sets k l e S = (e ∙ rw (left-none (listed_at g.indices numbers) k count (omega arith)), rw l at S)

    -- the lists are nested where the sets are
    pub nested-lists : (sets : List ℕ) → AreSets g p numbers count sets
        → pairwise
        (λ y z. nested (shape g) (coefficients_from (shape g) p y) (coefficients_from (shape g) p z))
        (listed g.indices count numbers)
        ≡ pairwise nested_sets (map (at sets) (up_from 0 count))
    nested-lists sets S = pairwise-agree
        (λ y z. nested (shape g) (coefficients_from (shape g) p y) (coefficients_from (shape g) p z))
        nested_sets (listed_at g.indices numbers) (at sets) 0 count
        (λ i j a b c d.
        nested_is (shape g) (made-accepted g L.has.made).few_indices (S i (omega arith)) (S j (omega arith)))

    -- p serves as the start where all have sets and these are nested
    pub not_served : FoundSets g p numbers count None
        → false ≡ chain_from (shape g) (listed g.indices count numbers) p
    not_served none = rw none

    pub served : (sets : List ℕ) {nested-all : Bool} → FoundSets g p numbers count (Some sets)
        → nested-all ≡ pairwise nested_sets (map (at sets) (up_from 0 count))
        → nested-all ≡ chain_from (shape g) (listed g.indices count numbers) p
    served sets F q = rw (F.0, nested-lists sets F.1) q
