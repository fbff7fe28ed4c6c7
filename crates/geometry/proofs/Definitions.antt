-- Coefficients round blocks, as functions of an index. In order: blocks, tight lists and grid points; chains over a set
-- T of indices; the chain beyond a facet and the facet that is a chain; a larger chain; runs of indices going back; a
-- place of document 01, labels apart; labels. Assumes nothing.
use mathlib.Core.Bool.{Bool, true, false, cond}
use mathlib.Core.Logic.{◌⊎◌}
use mathlib.Core.Path.{◌≡◌}
use Prim.Native.Nat.{ℕ, zero, suc, ◌+◌, ◌-◌, ◌≤◌, ◌<◌}
use lib.Dec.{eqb, ltb}

-- n steps by f
abbrev pub back : (ℕ → ℕ) → ℕ → ℕ → ℕ
back f zero h = h
back f (suc n) h = f (back f n h)

-- blocks that go round, and the start: next and previous index, block number, start coordinate, how far it is back from
-- h to k
pub record Blocks : Type 0 where
  pub next : ℕ → ℕ
  pub previous : ℕ → ℕ
  pub block : ℕ → ℕ
  pub start : ℕ → ℕ
  pub most : ℕ
  pub distance : ℕ → ℕ → ℕ
  pub next-previous : (k : ℕ) → next (previous k) ≡ k
  pub previous-next : (k : ℕ) → previous (next k) ≡ k
  pub block-previous : (k : ℕ) → block (previous k) ≡ block k
  pub distance-below : (h k : ℕ) → distance h k < most
  pub reached : (h k : ℕ) → block h ≡ block k → back previous (distance h k) h ≡ k

-- the coordinate at k of the point with coefficients c
abbrev pub coord : Blocks → (ℕ → ℕ) → ℕ → ℕ
coord R c k = R.start k + c k - c (R.next k)

abbrev pub Tight : Blocks → (ℕ → Bool) → (ℕ → ℕ) → Type 0
Tight R T c = (k : ℕ) → T k ≡ false → c k ≡ c (R.next k) - R.start k

-- no coordinate is negative
abbrev pub Grid : Blocks → (ℕ → ℕ) → Type 0
Grid R c = (k : ℕ) → c (R.next k) ≤ R.start k + c k

-- zero somewhere in every block
abbrev pub HasZeros : Blocks → (ℕ → ℕ) → Type 0
HasZeros R c = (h : ℕ) → (z : ℕ) × (R.block z ≡ R.block h) × (c z ≡ 0)

-- every block has an index outside T with a positive coordinate; for a tight c that is c (next f) < start f
abbrev pub Free : Blocks → (ℕ → Bool) → (ℕ → ℕ) → Type 0
Free R T c = (h : ℕ) → (f : ℕ) × (R.block f ≡ R.block h) × (T f ≡ false) × (c (R.next f) < R.start f)

-- d is c with 1 more at h, as far as T goes
pub record Step (T : ℕ → Bool) (h : ℕ) (c d : ℕ → ℕ) : Type 0 where
  pub raised : d h ≡ suc (c h)
  pub unchanged : (k : ℕ) → T k ≡ true → (k ≡ h → ⊥) → d k ≡ c k

-- o 0, .., o (t - 1) are the indices of T, each once
pub record Order (T : ℕ → Bool) (t : ℕ) (o : ℕ → ℕ) : Type 0 where
  pub within : (j : ℕ) → j < t → T (o j) ≡ true
  pub once : (i j : ℕ) → i < t → j < t → o i ≡ o j → i ≡ j
  pub all : (k : ℕ) → T k ≡ true → (j : ℕ) × (j < t) × (o j ≡ k)

-- p 0, .., p t are tight grid points with a zero in each block, each a step after the one before, by the order o; some
-- index of each block is free
pub record Chain (R : Blocks) (T : ℕ → Bool) (t : ℕ) (p : ℕ → ℕ → ℕ) (o : ℕ → ℕ) : Type 0 where
  pub tight : (j : ℕ) → j ≤ t → Tight R T (p j)
  pub grid : (j : ℕ) → j ≤ t → Grid R (p j)
  pub has_zeros : (j : ℕ) → j ≤ t → HasZeros R (p j)
  pub step : (j : ℕ) → j < t → Step T (o j) (p j) (p (suc j))
  pub order : Order T t o
  pub free : Free R T (p 0)

-- the tight list with the values a on T, by going on from k at most n indices
abbrev pub lift : Blocks → (ℕ → Bool) → (ℕ → ℕ) → ℕ → ℕ → ℕ
lift R T a zero k = 0
lift R T a (suc n) k = cond (T k) (a k) (lift R T a n (R.next k) - R.start k)

unfoldable pub tight_of : Blocks → (ℕ → Bool) → (ℕ → ℕ) → ℕ → ℕ
tight_of R T a k = lift R T a (suc R.most) k

-- T' is T less b
pub record Less (T T' : ℕ → Bool) (b : ℕ) : Type 0 where
  pub has : T b ≡ true
  pub out : T' b ≡ false
  pub rest : (k : ℕ) → (k ≡ b → ⊥) → T' k ≡ T k

-- q, of n elements, is p less its element i
pub record Omit {A : Type 0} (n i : ℕ) (p q : ℕ → A) : Type 0 where
  pub lower : (j : ℕ) → j < n → j < i → q j ≡ p j
  pub upper : (j : ℕ) → j < n → i ≤ j → q j ≡ p (suc j)

-- q, of s + 1 elements, is p with its first element put last
pub record Rotate (s : ℕ) (o q : ℕ → ℕ) : Type 0 where
  pub back : (j : ℕ) → j < s → q j ≡ o (suc j)
  pub last : q s ≡ o 0

-- q is o with the elements i and i + 1 exchanged
pub record Swap (i : ℕ) (o q : ℕ → ℕ) : Type 0 where
  pub here : q i ≡ o (suc i)
  pub next : q (suc i) ≡ o i
  pub rest : (j : ℕ) → (j ≡ i → ⊥) → (j ≡ suc i → ⊥) → q j ≡ o j

-- 1 more, and 1 less, at h
unfoldable pub raise : ℕ → (ℕ → ℕ) → ℕ → ℕ
raise h c k = cond (eqb k h) (suc (c k)) (c k)

unfoldable pub lower : ℕ → (ℕ → ℕ) → ℕ → ℕ
lower h c k = cond (eqb k h) (c k - 1) (c k)

unfoldable pub less : (ℕ → Bool) → ℕ → ℕ → Bool
less T b k = cond (eqb k b) false (T k)

unfoldable pub omit : {A : Type 0} → ℕ → (ℕ → A) → ℕ → A
omit i p j = cond (ltb j i) (p j) (p (suc j))

-- a chain over T with the points of p but point i, whose own other point, i', differs
pub record Beside (R : Blocks) (T : ℕ → Bool) (s : ℕ) (p : ℕ → ℕ → ℕ) (i : ℕ) (p' : ℕ → ℕ → ℕ) (o' : ℕ → ℕ) (i' : ℕ)
    : Type 0 where
  pub chain : Chain R T (suc s) p' o'
  pub bound : i' ≤ suc s
  pub facet : ℕ → ℕ → ℕ
  pub omits_here : Omit (suc s) i p facet
  pub omits_there : Omit (suc s) i' p' facet
  pub new : p' i' ≡ p i → ⊥

-- p less point i is a chain over T less b
pub record Dropped (R : Blocks) (T : ℕ → Bool) (s : ℕ) (p : ℕ → ℕ → ℕ) (i : ℕ) (b : ℕ) (T' : ℕ → Bool) (u : ℕ → ℕ)
    : Type 0 where
  pub small : Less T T' b
  pub facet : ℕ → ℕ → ℕ
  pub omits_here : Omit (suc s) i p facet
  pub chain : Chain R T' s facet u

-- every index of h's block is in T or has coordinate 0 at all points of p, of s + 2, but point i
abbrev pub Filled : Blocks → (ℕ → Bool) → ℕ → (ℕ → ℕ → ℕ) → ℕ → ℕ → Type 0
Filled R T s p i h =
    (k : ℕ) → R.block k ≡ R.block h → T k ≡ false → (j : ℕ) → j ≤ suc s → (j ≡ i → ⊥) → coord R (p j) k ≡ 0

-- the three ways through facet i of p
abbrev pub Next : Blocks → (ℕ → Bool) → ℕ → (ℕ → ℕ → ℕ) → ℕ → Type 0
Next R T s p i = (p' : ℕ → ℕ → ℕ) × (o' : ℕ → ℕ) × (i' : ℕ) × Beside R T s p i p' o' i'

abbrev pub Drops : Blocks → (ℕ → Bool) → ℕ → (ℕ → ℕ → ℕ) → ℕ → Type 0
Drops R T s p i = (b : ℕ) × (T' : ℕ → Bool) × (u : ℕ → ℕ) × Dropped R T s p i b T' u

abbrev pub Fills : Blocks → (ℕ → Bool) → ℕ → (ℕ → ℕ → ℕ) → ℕ → Type 0
Fills R T s p i = (h : ℕ) × Filled R T s p i h

unfoldable pub plus : (ℕ → Bool) → ℕ → ℕ → Bool
plus T g k = cond (eqb k g) true (T k)

-- p with z put in as element i
unfoldable pub insert : {A : Type 0} → ℕ → A → (ℕ → A) → ℕ → A
insert i z q j = cond (ltb j i) (q j) (cond (eqb j i) z (q (j - 1)))

-- p is a chain over T whose points less point i are those of q, of s + 1
pub record Grown (R : Blocks) (T : ℕ → Bool) (s : ℕ) (q : ℕ → ℕ → ℕ) (p : ℕ → ℕ → ℕ) (o : ℕ → ℕ) (i : ℕ) : Type 0 where
  pub chain : Chain R T (suc s) p o
  pub bound : i ≤ suc s
  pub cut : Omit (suc s) i p q

-- going back from h, the n-th index is the first in T or with a positive coordinate
pub record BackToPositive (R : Blocks) (T : ℕ → Bool) (c : ℕ → ℕ) (h n : ℕ) : Type 0 where
  pub some : 0 < n
  pub skipped : (j : ℕ) → 0 < j → j < n → (T (back R.previous j h) ≡ false) × (coord R c (back R.previous j h) ≡ 0)
  pub stops : (T (back R.previous n h) ≡ true) ⊎ (0 < coord R c (back R.previous n h))

-- going back from h, the n-th index is the first in T or with coefficient 0
pub record BackToZero (R : Blocks) (T : ℕ → Bool) (c : ℕ → ℕ) (h n : ℕ) : Type 0 where
  pub some : 0 < n
  pub skipped : (j : ℕ) → 0 < j → j < n → (T (back R.previous j h) ≡ false) × (0 < c (back R.previous j h))
  pub stops : (T (back R.previous n h) ≡ true) ⊎ (c (back R.previous n h) ≡ 0)

-- d is c with 1 more on the n indices going back from h, and the same elsewhere; so d's point is c's with 1 more at h
-- and 1 less at b
pub record Moved (R : Blocks) (h b : ℕ) (c d : ℕ → ℕ) : Type 0 where
  pub apart : b ≡ h → ⊥
  pub gains : coord R d h ≡ suc (coord R c h)
  pub gives : coord R c b ≡ suc (coord R d b)
  pub rest : (k : ℕ) → (k ≡ h → ⊥) → (k ≡ b → ⊥) → coord R d k ≡ coord R c k

abbrev pub one_at : ℕ → ℕ → ℕ
one_at b k = cond (eqb k b) 1 0

-- d's point is c's with 1 more at h and 1 less at b, the n-th index going back from h and the first that is not in U
pub record Goes (R : Blocks) (U : ℕ → Bool) (h : ℕ) (c d : ℕ → ℕ) (n : ℕ) : Type 0 where
  pub some : 0 < n
  pub skipped : (j : ℕ) → 0 < j → j < n → U (back R.previous j h) ≡ true
  pub stops : U (back R.previous n h) ≡ false
  pub changes : (k : ℕ) → coord R d k + one_at (back R.previous n h) k ≡ coord R c k + one_at h k

-- a place of document 01, labels apart: the points with coefficients p 0, .., p t, with their U and T
pub record Place (R : Blocks) (T U : ℕ → Bool) (t : ℕ) (p : ℕ → ℕ → ℕ) (o : ℕ → ℕ) : Type 0 where
  pub grid : (j : ℕ) → j ≤ t → Grid R (p j)
  pub has_zeros : (j : ℕ) → j ≤ t → HasZeros R (p j)
  pub unused : (k : ℕ) → U k ≡ true → (j : ℕ) → j ≤ t → coord R (p j) k ≡ 0
  pub used : (k : ℕ) → U k ≡ false → (j : ℕ) × (j ≤ t) × (0 < coord R (p j) k)
  pub moved : (k : ℕ) → T k ≡ true → (U k ≡ false) × ((j : ℕ) × (j ≤ t) × (0 < p j k))
  pub unmoved : (k : ℕ) → T k ≡ false → U k ≡ false → (j : ℕ) → j ≤ t → p j k ≡ 0
  pub order : Order T t o
  pub step : (j : ℕ) → j < t → (n : ℕ) × Goes R U (o j) (p j) (p (suc j)) n
  pub free : (h : ℕ) → (f : ℕ) × (R.block f ≡ R.block h) × (T f ≡ false) × (U f ≡ false)

-- U, from T and the first point
unfoldable pub zeros : Blocks → (ℕ → Bool) → (ℕ → ℕ) → ℕ → Bool
zeros R T c k = cond (T k) false (eqb (coord R c k) 0)

-- the points 0, .., t but point i carry all labels of T
abbrev pub Carries : (ℕ → Bool) → ℕ → (ℕ → ℕ) → ℕ → Type 0
Carries T t l i = (k : ℕ) → T k ≡ true → (j : ℕ) × (j ≤ t) × (j ≡ i → ⊥) × (l j ≡ k)

-- all labels are in T, and two points share one: the facets without one or the other carry T, and no other facet
pub record Twice (T : ℕ → Bool) (t : ℕ) (l : ℕ → ℕ) (a b : ℕ) : Type 0 where
  pub first : a ≤ t
  pub second : b ≤ t
  pub apart : a ≡ b → ⊥
  pub same : l a ≡ l b
  pub all : (j : ℕ) → j ≤ t → T (l j) ≡ true
  pub less_first : Carries T t l a
  pub less_second : Carries T t l b
  pub only : (i : ℕ) → i ≤ t → Carries T t l i → (i ≡ a) ⊎ (i ≡ b)

-- one point has a label outside T: the facet without it carries T, and no other
pub record Extra (T : ℕ → Bool) (t : ℕ) (l : ℕ → ℕ) (a : ℕ) : Type 0 where
  pub first : a ≤ t
  pub out : T (l a) ≡ false
  pub rest : (j : ℕ) → j ≤ t → (j ≡ a → ⊥) → T (l j) ≡ true
  pub less_first : Carries T t l a
  pub only : (i : ℕ) → i ≤ t → Carries T t l i → i ≡ a

-- each index of h's block is the label of a point or has coordinate 0 at all points
abbrev pub Complete : Blocks → ((ℕ → ℕ) → ℕ) → ℕ → (ℕ → ℕ → ℕ) → ℕ → Type 0
Complete R label_of t p h = (k : ℕ) → R.block k ≡ R.block h
    → ((j : ℕ) × (j ≤ t) × (label_of (p j) ≡ k)) ⊎ ((j : ℕ) → j ≤ t → coord R (p j) k ≡ 0)

-- every index of T is the label of a point
abbrev pub Covers : ((ℕ → ℕ) → ℕ) → (ℕ → Bool) → ℕ → (ℕ → ℕ → ℕ) → Type 0
Covers label_of T t p = (k : ℕ) → T k ≡ true → (j : ℕ) × (j ≤ t) × (label_of (p j) ≡ k)

-- every label is in T
abbrev pub Inside : ((ℕ → ℕ) → ℕ) → (ℕ → Bool) → ℕ → (ℕ → ℕ → ℕ) → Type 0
Inside label_of T t p = (j : ℕ) → j ≤ t → T (label_of (p j)) ≡ true

-- each of the n lists is nowhere below the one before, and differs from it
pub record Rising (n : ℕ) (q : ℕ → ℕ → ℕ) : Type 0 where
  pub up : (i j : ℕ) → i < j → j < n → (k : ℕ) → q i k ≤ q j k
  pub new : (i j : ℕ) → i < j → j < n → q i ≡ q j → ⊥

-- going back from h, the n-th index is the first that is not in U
pub record BackOutside (R : Blocks) (U : ℕ → Bool) (h n : ℕ) : Type 0 where
  pub some : 0 < n
  pub skipped : (j : ℕ) → 0 < j → j < n → U (back R.previous j h) ≡ true
  pub stops : U (back R.previous n h) ≡ false

-- k is one of the n indices going back from h
abbrev pub OnRun : Blocks → ℕ → ℕ → ℕ → Type 0
OnRun R h n k = (j : ℕ) × (j < n) × (back R.previous j h ≡ k)
