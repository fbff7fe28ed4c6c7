-- The list of grid points stands in lexicographic order, and its length is the product of the binomials.
-- Assumes nothing.
use mathlib.Core.Bool.{true, ◌&&◌}
use mathlib.Core.List.{List, [], ◌∷◌, ◌++◌, map}
use mathlib.Core.Logic.{⊎_elim}
use mathlib.Core.Path.{◌≡◌, refl, sym, ◌∙◌, subst}
use Prim.Native.Nat.{ℕ, zero, suc, ◌+◌, ◌-◌, pred, ◌≤◌}
use borrow.Author.Tests.{lt-ltb, leb-true}
use lib.Dec.{eqb, ltb, leb}
use lib.ListN.{length, length-append, length-map}
use native.Mathlib.Omega.{arith}
use Rattle.combinatorics.proofs.Binomials.{choose-over}
use Rattle.combinatorics.proofs.Basics.{absurd_bool, and_both, and_left, and_right, or_left, or_right, or_cases}
use Rattle.combinatorics.proofs.Lists.{in_here, in_later, map_in, concat_map_in, append_in, length-concat_map, eqb_self}
use Rattle.combinatorics.proofs.Lists.{on_numbers}
use Rattle.combinatorics.proofs.Ranges.{up_from_in}
use Rattle.combinatorics.specs.Counting.{binomial_product, choose}
use Rattle.combinatorics.specs.Lists.{all, is_in, concat_map, up_from}
use Rattle.grid_points.proofs.Points.{on_points, block_in}
use Rattle.grid_points.specs.Grid.{Grid, Point, block_points, lex_before, num_points, points, product_points}
use Rattle.grid_points.specs.Grid.{same_point}

abbrev pub group : ℕ → ℕ → ℕ → List Point
group s d k = map (λ l. k ∷ l) (block_points s (d - k))

group_shift : (s d b n : ℕ)
    → length (concat_map (group s (suc d)) (up_from (suc b) n)) ≡ length (concat_map (group s d) (up_from b n))
group_shift s d b zero = refl
group_shift s d b (suc n) =
    let z : suc d - suc b ≡ d - b = omega arith in
    rw (length-append, length-append, length-map, length-map, z, group_shift s d (suc b) n)

pub block-suc : (s d : ℕ)
    → length (block_points (suc s) (suc d)) ≡ length (block_points s (suc d)) + length (block_points (suc s) d)
block-suc s d = let z : suc d - 0 ≡ suc d = omega arith in rw (length-append, length-map, z, group_shift s d 0 (suc d))

block-zero : (s : ℕ) → length (block_points (suc s) 0) ≡ length (block_points s 0)
block-zero s = rw (length-append, length-map) (omega arith)

pub length-block : (n d : ℕ) → length (block_points (suc n) d) ≡ choose (d + n) n
length-block zero zero = block-zero zero
length-block zero (suc d) = omega (arith, block-suc zero d, length-block zero d)
length-block (suc n) zero =
    let z : 0 + suc n ≡ suc (0 + n) = omega arith in
    rw z (omega (arith, block-zero (suc n), length-block n 0, choose-over (0 + n) (suc n) (omega arith)))
length-block (suc n) (suc d) =
    let z : suc d + suc n ≡ suc (suc d + n) = omega arith in
    let w : d + suc n ≡ suc d + n = omega arith in
    let i : length (block_points (suc (suc n)) d) ≡ choose (suc d + n) (suc n) = rw w at (length-block (suc n) d) in
    rw z (omega (arith, block-suc (suc n) d, length-block n (suc d)))

length-product : (ss ds : List ℕ) → all (λ s. leb 2 s) ss ≡ true → length (product_points ss ds) ≡ binomial_product ss ds
length-product [] ds h = refl
length-product (s ∷ ss) [] h = refl
length-product (s ∷ ss) (d ∷ ds) h =
    let two : 2 ≤ s = leb-true 2 s (and_left (leb 2 s) (all (λ s. leb 2 s) ss) h) in
    let i : length (product_points ss ds) ≡ binomial_product ss ds =
    length-product ss ds (and_right (leb 2 s) (all (λ s. leb 2 s) ss) h) in
    let z : suc (pred s) ≡ s = omega arith in
    let b : length (block_points s d) ≡ choose (d + pred s) (pred s) =
    subst (λ (x : ℕ). length (block_points x d) ≡ choose (d + pred s) (pred s)) z (length-block (pred s) d) in
    length-concat_map on_points on_points (length (product_points ss ds))
    (λ a. map (λ l. a ++ l) (product_points ss ds))
    (block_points s d)
    (λ a m. length-map (product_points ss ds) (λ l. a ++ l))
    ∙ rw (b, i)

-- P is the product of the binomials
pub num_points-is : (g : Grid) → all (λ s. leb 2 s) g.sizes ≡ true
    → num_points g ≡ binomial_product g.sizes g.divisions
unfolding points
num_points-is g h = length-product g.sizes g.divisions h

abbrev pub Ordered : List Point → Type 0
Ordered [] = Unit {0}
Ordered (x ∷ xs) = ((z : Point) → is_in same_point z xs ≡ true → lex_before x z ≡ true) × Ordered xs

ordered_append : (xs ys : List Point) → Ordered xs → Ordered ys
    → ((x y : Point) → is_in same_point x xs ≡ true → is_in same_point y ys ≡ true → lex_before x y ≡ true)
    → Ordered (xs ++ ys)
ordered_append [] ys a b h = b
ordered_append (x ∷ xs) ys a b h = (
  (λ z m. ⊎_elim (λ n. a.0 z n) (λ n. h x z (in_here on_points x xs) n) (append_in on_points z xs ys m)),
  ordered_append xs ys a.1 b (λ u w m n. h u w (in_later on_points u x xs m) n),
)

ordered_map : (f : Point → Point) → ((x y : Point) → lex_before x y ≡ true → lex_before (f x) (f y) ≡ true)
    → (xs : List Point) → Ordered xs → Ordered (map f xs)
ordered_map f h [] o = tt
ordered_map f h (x ∷ xs) o = (
  (λ z m. let i = map_in on_points on_points f z xs m in rw i.2 (h x i.0 (o.0 i.0 i.1))),
  ordered_map f h xs o.1,
)

lex_cons : (k : ℕ) (x y : Point) → lex_before x y ≡ true → lex_before (k ∷ x) (k ∷ y) ≡ true
lex_cons k x y h = or_right (ltb k k) (eqb k k && lex_before x y) (and_both _ _ (eqb_self k) h)

ordered_groups : (s d b n : ℕ) → ((k : ℕ) → Ordered (block_points s (d - k)))
    → Ordered (concat_map (group s d) (up_from b n))
ordered_groups s d b zero h = tt
ordered_groups s d b (suc n) h = ordered_append (group s d b) (concat_map (group s d) (up_from (suc b) n))
    (ordered_map (λ l. b ∷ l) (lex_cons b) (block_points s (d - b)) (h b)) (ordered_groups s d (suc b) n h)
    (λ x y m q.
    let i = map_in on_points on_points (λ l. b ∷ l) x (block_points s (d - b)) m in
    let j = concat_map_in on_numbers on_points (group s d) y (up_from (suc b) n) q in
    let k = map_in on_points on_points (λ l. j.0 ∷ l) y (block_points s (d - j.0)) j.2 in
    rw (i.2, k.2) (or_left _ _ (lt-ltb b j.0 (omega (arith, (up_from_in (suc b) n j.0 j.1).0)))))

ordered_block : (s d : ℕ) → Ordered (block_points s d)
ordered_block zero zero = ((λ z m. absurd_bool (sym m)), tt)
ordered_block zero (suc d) = tt
ordered_block (suc s) d = ordered_groups s d 0 (suc d) (λ k. ordered_block s (d - k))

lex_append : (a x y : Point) → lex_before x y ≡ true → lex_before (a ++ x) (a ++ y) ≡ true
lex_append [] x y h = h
lex_append (k ∷ a) x y h = lex_cons k (a ++ x) (a ++ y) (lex_append a x y h)

lex_front : (a b x y : Point) → length a ≡ length b → lex_before a b ≡ true → lex_before (a ++ x) (b ++ y) ≡ true
lex_front [] b x y e h = absurd_bool (sym h)
lex_front (k ∷ a) [] x y e h = absurd_bool (sym h)
lex_front (k ∷ a) (l ∷ b) x y e h = ⊎_elim
    (λ q. or_left _ _ q)
    (λ q. or_right (ltb k l) (eqb k l && lex_before (a ++ x) (b ++ y))
    (and_both _ _ (and_left (eqb k l) (lex_before a b) q)
    (lex_front a b x y (omega arith) (and_right (eqb k l) (lex_before a b) q))))
    (or_cases (ltb k l) (eqb k l && lex_before a b) h)

ordered_fronts : (s : ℕ) (r : List Point) → Ordered r → (bs : List Point) → Ordered bs
    → ((a : Point) → is_in same_point a bs ≡ true → length a ≡ s)
    → Ordered (concat_map (λ a. map (λ l. a ++ l) r) bs)
ordered_fronts s r o [] p h = tt
ordered_fronts s r o (a ∷ bs) p h = ordered_append (map (λ l. a ++ l) r) (concat_map (λ a. map (λ l. a ++ l) r) bs)
    (ordered_map (λ l. a ++ l) (lex_append a) r o)
    (ordered_fronts s r o bs p.1 (λ b m. h b (in_later on_points b a bs m)))
    (λ x y m q.
    let i = map_in on_points on_points (λ l. a ++ l) x r m in
    let j = concat_map_in on_points on_points (λ a. map (λ l. a ++ l) r) y bs q in
    let k = map_in on_points on_points (λ l. j.0 ++ l) y r j.2 in
    rw (i.2, k.2) (lex_front a j.0 i.0 k.0
    (h a (in_here on_points a bs) ∙ sym (h j.0 (in_later on_points j.0 a bs j.1))) (p.0 j.0 j.1)))

ordered_product : (ss ds : List ℕ) → Ordered (product_points ss ds)
ordered_product [] ds = ((λ z m. absurd_bool (sym m)), tt)
ordered_product (s ∷ ss) [] = tt
ordered_product (s ∷ ss) (d ∷ ds) = ordered_fronts s (product_points ss ds) (ordered_product ss ds) (block_points s d)
    (ordered_block s d) (λ a m. (block_in s d a m).0)

-- each point stands before all later ones
pub points_ordered : (g : Grid) → Ordered (points g)
unfolding points
points_ordered g = ordered_product g.sizes g.divisions
