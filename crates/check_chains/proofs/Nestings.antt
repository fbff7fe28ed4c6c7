-- Sets that are nested, for lists that are. In order: a mask is known by its bits; one list below another; nested
-- lists; any two of many. Assumes nothing.
use mathlib.Core.Bool.{Bool, true, false, ◌&&◌, and-false, cond}
use mathlib.Core.List.{List, [], ◌∷◌, map}
use mathlib.Core.Logic.{⊎_elim}
use mathlib.Core.Path.{◌≡◌, refl, sym, ap, ◌∙◌}
use Prim.Native.Nat.{ℕ, zero, suc, ◌+◌, ◌-◌, ◌≤◌, ◌<◌}
use borrow.Author.Tests.{eq-eqb, eqb-true, leb-true, le-leb}
use lib.Bits.{bit_and, and_comm, and_le_l}
use lib.Dec.{eqb, leb}
use lib.ListN.{get_or, length}
use lib.Seq.{ext_get_or}
use native.Mathlib.Numerals.{add-one}
use native.Mathlib.Omega.{arith}
use Rattle.std.specs.Bool.{MatchBool}
use Rattle.std.specs.List.{AllWithin, HoldsAt, range_with_len}
use Rattle.std.proofs.lemmas.List.FromFn.{get_or-range_with_len, length-range_with_len}
use Rattle.combinatorics.proofs.Basics.{absurd_bool, before_or_not, both}
use Rattle.combinatorics.proofs.Lists.{eqb_self, same_self, same_sound}
use Rattle.combinatorics.specs.Lists.{all, any, same, up_from}
use Rattle.grid_points.specs.Grid.{Grid, at, num_indices}
use Rattle.rules.proofs.Masks.{bit_and_lem}
use Rattle.rules.specs.Mask.{bit}
use Rattle.rules.proofs.SameMasks.{same_from}
use Rattle.check_simplices.proofs.Tests.{at-index, index_at}
use Rattle.check_simplices.specs.Chains.{inside, nested, pairwise}
use Rattle.check_chains.specs.Sets.{bit_number, IsSet, nested_sets}

ones-same : (a b k : ℕ) → bit_number a k ≡ bit_number b k → bit a k ≡ bit b k
ones-same a b k e = go (bit a k) (bit b k) e
  where
    go : (x y : Bool) → ◌≡◌ {A = ℕ} (cond x 1 0) (cond y 1 0) → x ≡ y
    go true true e = refl
    go false false e = refl
    go true false e = absurd (omega arith)
    go false true e = absurd (omega arith)

ones_below : (a b k : ℕ) → bit_number a k ≤ bit_number b k → (bit a k && bit b k) ≡ bit a k
ones_below a b k l = go (bit a k) (bit b k) l
  where
    go : (x y : Bool) → cond x 1 0 ≤ cond y 1 0 → (x && y) ≡ x
    go true true l = refl
    go true false l = absurd (omega arith)
    go false y l = refl

below-ones : (a b k : ℕ) → (bit a k && bit b k) ≡ bit a k → bit_number a k ≤ bit_number b k
below-ones a b k e = go (bit a k) (bit b k) e
  where
    go : (x y : Bool) → (x && y) ≡ x → cond x 1 0 ≤ cond y 1 0
    go true true e = omega arith
    go true false e = absurd_bool (sym e)
    go false y e = omega arith

-- lists of 0s and 1s and their sets
module _ (g : Grid) (few : num_indices g ≤ 16) where
  module _ {A B : List ℕ} {a b : ℕ} (p : IsSet (num_indices g) A a) (q : IsSet (num_indices g) B b) where
    inside_is : inside g A B ≡ eqb (bit_and a b) a
    inside_is = both _ _
        (λ h. eq-eqb _ _ (same_from 16 (bit_and a b) a (omega (arith, and_le_l a b, p.below)) p.below
        (λ k l. bit_and_lem a b k
        ∙ ⊎_elim
        (λ (x : k < num_indices g). ones_below a b k
        (let t = leb-true (at A k) (at B k) (at-index g (λ h. leb (at A h) (at B h)) h k x) in
        omega (arith, p.is k x, q.is k x)))
        (λ (x : num_indices g ≤ k). rw (p.clear k x l))
        (before_or_not k (num_indices g)))))
        (λ h. index_at g
        (λ h. leb (at A h) (at B h))
        (λ k x. le-leb (at A k) (at B k)
        (let t = below-ones a b k (sym (bit_and_lem a b k) ∙ ap (λ (n : ℕ). bit n k) (eqb-true _ _ h)) in
        omega (arith, p.is k x, q.is k x))))

    same-is : same eqb A B ≡ eqb a b
    same-is = both _ _
        (λ h. let e : A ≡ B = same_sound eqb (λ x y. eqb-true x y) A B h in
        eq-eqb _ _ (same_from 16 a b p.below q.below (λ k l. ⊎_elim
        (λ (x : k < num_indices g). ones-same a b k (sym (p.is k x) ∙ ap (λ (c : List ℕ). at c k) e ∙ q.is k x))
        (λ (x : num_indices g ≤ k). p.clear k x l ∙ sym (q.clear k x l)) (before_or_not k (num_indices g)))))
        (λ h. let e : a ≡ b = eqb-true _ _ h in
        let w : A ≡ B = ext_get_or 0 A B (p.long ∙ sym q.long) (λ k l.
        p.is k (omega (arith, p.long)) ∙ ap (λ (n : ℕ). bit_number n k) e ∙ sym (q.is k (omega (arith, p.long)))) in
        rw w (same_self eqb eqb_self B))

  pub nested_is : {A B : List ℕ} {a b : ℕ} → IsSet (num_indices g) A a → IsSet (num_indices g) B b
      → nested g A B ≡ nested_sets a b
  unfolding nested_sets
  nested_is {A} {B} {a} {b} p q =
      let other : inside g B A ≡ eqb (bit_and a b) b = inside_is q p ∙ ap (λ (n : ℕ). eqb n b) (and_comm b a) in
      rw (inside_is p q, other, same-is p q)

-- any two of many
pub pairwise-agree : {A B : Type 0} (r : A → A → Bool) (s : B → B → Bool) (f : ℕ → A) (e : ℕ → B) (k n : ℕ)
    → ((i j : ℕ) → k ≤ i → i < k + n → k ≤ j → j < k + n → r (f i) (f j) ≡ s (e i) (e j))
    → pairwise r (map f (up_from k n)) ≡ pairwise s (map e (up_from k n))
pairwise-agree r s f e k zero h = refl
pairwise-agree r s f e k (suc n) h = rw (
  all-agree (suc k) n (λ j l m. h k j (omega arith) (omega arith) (omega arith) (omega arith)),
  pairwise-agree r s f e (suc k) n (λ i j a b c d. h i j (omega arith) (omega arith) (omega arith) (omega arith)),
)
  where
    all-agree : (b n : ℕ) → ((j : ℕ) → b ≤ j → j < b + n → r (f k) (f j) ≡ s (e k) (e j))
        → all (r (f k)) (map f (up_from b n)) ≡ all (s (e k)) (map e (up_from b n))
    all-agree b zero h = refl
    all-agree b (suc n) h =
        rw (h b (omega arith) (omega arith), all-agree (suc b) n (λ j l m. h j (omega arith) (omega arith)))

-- a range of numbers from k up to n
pub range_none : (k n : ℕ) → n ≤ k → up_from k (n - k) ≡ []
range_none k n l = let e : n - k ≡ 0 = omega arith in rw e

pub range_more : (k n : ℕ) → k < n → up_from k (n - k) ≡ k ∷ up_from (k + 1) (n - (k + 1))
range_more k n l = let e : n - k ≡ suc (n - (k + 1)) = omega arith in rw (e, add-one k)

-- a test of all numbers from b up to e, as an iterator makes it
pub all_passed : (q : ℕ → Bool) (b n : ℕ) → ((k : ℕ) → b ≤ k → k < b + n → q k ≡ true) → all q (up_from b n) ≡ true
all_passed q b zero h = refl
all_passed q b (suc n) h = rw (h b (omega arith) (omega arith), all_passed q (suc b) n (λ k l m. h k (omega arith) (omega arith)))

one_failed : (q : ℕ → Bool) (b n k : ℕ) → b ≤ k → k < b + n → q k ≡ false → all q (up_from b n) ≡ false
one_failed q b zero k l m e = absurd (omega arith)
one_failed q b (suc n) k l m e = ⊎_elim
    (λ (x : b < k). let rest = one_failed q (suc b) n k (omega arith) (omega arith) e in rw (rest, and-false (q b)))
    (λ (x : k ≤ b). let same : b ≡ k = omega arith in rw (same, e))
    (before_or_not b k)

pub all_in_range : (q : ℕ → Bool) (b n : ℕ) (r : Bool)
    → MatchBool r
    (AllWithin (λ k. q k ≡ true) (range_with_len b n) 0 (length (range_with_len b n)))
    ((i : ℕ) × (i < length (range_with_len b n)) × HoldsAt (λ k. q k ≡ false) (range_with_len b n) i)
    → r ≡ all q (up_from b n)
all_in_range q b n true h = sym (all_passed q b n (λ k l m.
    let e : get_or (range_with_len b n) (k - b) 0 ≡ k =
    get_or-range_with_len b n (k - b) 0 (omega arith) ∙ omega arith in
    rw e at (h (k - b) 0 (omega arith) (omega (arith, length-range_with_len b n)))))
all_in_range q b n false (i, l, f) =
    let m : i < n = omega (arith, length-range_with_len b n) in
    sym (one_failed q b n (b + i) (omega arith) (omega arith) (rw (get_or-range_with_len b n i 0 m) at (f 0)))

all-map : {A : Type 0} (q : A → Bool) (f : ℕ → A) (ks : List ℕ) → all (λ k. q (f k)) ks ≡ all q (map f ks)
all-map q f [] = refl
all-map q f (k ∷ ks) = rw (all-map q f ks)

-- the same of elements that are numbered
pub all_numbered : {A : Type 0} (q : A → Bool) (f : ℕ → A) (b n : ℕ) (r : Bool)
    → MatchBool r
    (AllWithin (λ k. q (f k) ≡ true) (range_with_len b n) 0 (length (range_with_len b n)))
    ((i : ℕ) × (i < length (range_with_len b n)) × HoldsAt (λ k. q (f k) ≡ false) (range_with_len b n) i)
    → r ≡ all q (map f (up_from b n))
all_numbered q f b n r h = all_in_range (λ k. q (f k)) b n r h ∙ all-map q f (up_from b n)

-- any two are tested where each is with those behind it
pub all_pairs : {A : Type 0} (r : A → A → Bool) (f : ℕ → A) (n k m : ℕ) → k + m ≡ n
    → all (λ i. all (r (f i)) (map f (up_from (i + 1) (n - (i + 1))))) (up_from k m) ≡ pairwise r (map f (up_from k m))
all_pairs r f n k zero e = refl
all_pairs r f n k (suc m) e =
    let left : n - (k + 1) ≡ m = omega arith in
    rw (left, add-one k, all_pairs r f n (suc k) m (omega arith))

-- a search through elements that are numbered: what is left of it, where the k-th is reached
module _ {A : Type 0} (f : ℕ → A) (k n : ℕ) where
  -- none is left
  pub left-none : n ≤ k → map f (up_from k (n - k)) ≡ []
  left-none l = rw (range_none k n l)

  module _ (l : k < n) where
    pub one_more : map f (up_from k (n - k)) ≡ f k ∷ map f (up_from (k + 1) (n - (k + 1)))
    one_more = rw (range_more k n l)

    pub all-stops : {whole : Bool} (q : A → Bool) → whole ≡ all q (map f (up_from k (n - k))) → q (f k) ≡ false
        → false ≡ whole
    all-stops q e h = sym (e ∙ rw (one_more, h))

    pub all-goes : {whole : Bool} (q : A → Bool) → whole ≡ all q (map f (up_from k (n - k))) → q (f k) ≡ true
        → whole ≡ all q (map f (up_from (k + 1) (n - (k + 1))))
    all-goes q e h = e ∙ rw (one_more, h)

    pub any-stops : {whole : Bool} (q : A → Bool) → whole ≡ any q (map f (up_from k (n - k))) → q (f k) ≡ true
        → true ≡ whole
    any-stops q e h = sym (e ∙ rw (one_more, h))

    pub any-goes : {whole : Bool} (q : A → Bool) → whole ≡ any q (map f (up_from k (n - k))) → q (f k) ≡ false
        → whole ≡ any q (map f (up_from (k + 1) (n - (k + 1))))
    any-goes q e h = e ∙ rw (one_more, h)
