-- The position of a point in the list of grid points: in a block a sum of differences of binomials, and over the blocks
-- Horner's rule by their counts. Assumes nothing.
use mathlib.Core.Bool.{Bool, true, false, cond}
use mathlib.Core.List.{List, [], ◌∷◌, ◌++◌, map}
use mathlib.Core.Logic.{⊎_elim}
use mathlib.Core.Path.{◌≡◌, refl, sym, ap, ◌∙◌, subst}
use Prim.Native.Nat.{ℕ, zero, suc, ◌+◌, ◌-◌, ◌*◌, pred, ◌≤◌, ◌<◌}
use borrow.Author.Tests.{eqb-true}
use lib.Dec.{eqb}
use lib.ListN.{length, length-append, length-map, get_or, take, drop}
use lib.Seq.{drop-append_seam, drop-append-add, get_or-take}
use native.Mathlib.Nat.{add-mul, mul_assoc, add_assoc, add_comm, suc-mul, mul-le-mul_left}
use native.Mathlib.Numerals.{add-one}
use native.Mathlib.Omega.{arith}
use Rattle.combinatorics.proofs.Basics.{absurd_bool, both, false_of, and_right}
use Rattle.combinatorics.proofs.Binomials.{choose_one}
use Rattle.combinatorics.proofs.Lists.{in_here, in_later, in_cases, in_map, map_in, length-concat_map, all_in, on_numbers}
use Rattle.combinatorics.proofs.Ranges.{length-up_from, in_up_from}
use Rattle.combinatorics.specs.Counting.{choose}
use Rattle.combinatorics.specs.Lists.{all, is_in, concat_map, sum, up_from}
use Rattle.grid_points.proofs.Accepted.{Accepted, size-two}
use Rattle.grid_points.proofs.Listing.{group, block-suc, length-block}
use Rattle.grid_points.proofs.Points.{on_points, point_sound, point_self, Fits, none, block, in_block, in_product}
use Rattle.grid_points.proofs.Points.{append-head}
use Rattle.grid_points.proofs.Points.{append-tail, first-append, shift_append, position_in_lem, in_points, block_in}
use Rattle.grid_points.proofs.Points.{fits_of}
use Rattle.grid_points.proofs.Points.{block_sum}
use Rattle.grid_points.specs.Grid.{Grid, Point, same_point, position_in, block_points, product_points, points, position}
use Rattle.grid_points.specs.Grid.{num_points}
use Rattle.grid_points.specs.Grid.{num_blocks, num_indices, size, division, blocks, indices_of, is_grid_point, at}
use Rattle.grid_points.specs.Grid.{block_count}

position_skip : (xs ys : List Point) (y : Point) → is_in same_point y xs ≡ false
    → position_in (xs ++ ys) y ≡ length xs + position_in ys y
position_skip [] ys y e = omega arith
position_skip (x ∷ xs) ys y e = go (same_point x y) refl (position_skip xs ys y)
  where
    go : (b : Bool) → same_point x y ≡ b
        → (is_in same_point y xs ≡ false → position_in (xs ++ ys) y ≡ length xs + position_in ys y)
        → cond b 0 (suc (position_in (xs ++ ys) y)) ≡ suc (length xs) + position_in ys y
    go true q i = absurd_bool (sym (rw (point_sound x y q) (in_here on_points y xs)) ∙ e)
    go false q i = omega (arith, i (false_of _ (λ m. absurd_bool (sym (in_later on_points y x xs m) ∙ e))))

position_hit : (xs ys : List Point) (y : Point) → is_in same_point y xs ≡ true → position_in (xs ++ ys) y ≡ position_in xs y
position_hit [] ys y e = absurd_bool (sym e)
position_hit (x ∷ xs) ys y e = go (same_point x y) refl (position_hit xs ys y)
  where
    go : (b : Bool) → same_point x y ≡ b → (is_in same_point y xs ≡ true → position_in (xs ++ ys) y ≡ position_in xs y)
        → cond b 0 (suc (position_in (xs ++ ys) y)) ≡ cond b 0 (suc (position_in xs y))
    go true q i = refl
    go false q i =
        ap suc (i (⊎_elim (λ s. absurd_bool (sym (point_self x) ∙ (rw s at q))) (λ m. m) (in_cases on_points y x xs e)))

position-map : (f : Point → Point) → ((x y : Point) → f x ≡ f y → x ≡ y) → (xs : List Point) (y : Point)
    → position_in (map f xs) (f y) ≡ position_in xs y
position-map f h [] y = refl
position-map f h (x ∷ xs) y =
    let t : same_point (f x) (f y) ≡ same_point x y = both _ _
    (λ e. rw (h x y (point_sound (f x) (f y) e)) (point_self y))
    (λ e. rw (point_sound x y e) (point_self (f y))) in
    rw (t, position-map f h xs y)

-- the point at a point's position is the point
pub at-position_in : (xs : List Point) (y : Point) → is_in same_point y xs ≡ true → get_or xs (position_in xs y) [] ≡ y
at-position_in [] y m = absurd_bool (sym m)
at-position_in (x ∷ xs) y m = go (same_point x y) refl (at-position_in xs y)
  where
    go : (b : Bool) → same_point x y ≡ b → (is_in same_point y xs ≡ true → get_or xs (position_in xs y) [] ≡ y)
        → get_or (x ∷ xs) (cond b 0 (suc (position_in xs y))) [] ≡ y
    go true q i = point_sound x y q
    go false q i =
        i (⊎_elim (λ s. absurd_bool (sym (point_self x) ∙ (rw s at q))) (λ n. n) (in_cases on_points y x xs m))

-- one block: the points before a first number x
position_group : (s d b n i x : ℕ) (r : Point) → x ≡ b + i → i < n → is_in same_point r (block_points s (d - x)) ≡ true
    → position_in (concat_map (group s d) (up_from b n)) (x ∷ r)
    ≡ length (concat_map (group s d) (up_from b i)) + position_in (block_points s (d - x)) r
position_group s d b zero i x r e l m = absurd (omega arith)
position_group s d b (suc n) zero x r e l m =
    let z : b ≡ x = omega arith in
    rw z
    (position_hit (group s d x) _ (x ∷ r) (in_map on_points on_points (λ l. x ∷ l) r (block_points s (d - x)) m)
    ∙ position-map (λ l. x ∷ l) (λ u w q. cc) (block_points s (d - x)) r
    ∙ omega arith)
position_group s d b (suc n) (suc i) x r e l m =
    let out : is_in same_point (x ∷ r) (group s d b) ≡ false = false_of _ (λ k.
    let j = map_in on_points on_points (λ l. b ∷ l) (x ∷ r) (block_points s (d - b)) k in
    let q : x ≡ b = cc j.2 in
    omega arith) in
    position_skip (group s d b) (concat_map (group s d) (up_from (suc b) n)) (x ∷ r) out
    ∙ rw (length-append (group s d b) (concat_map (group s d) (up_from (suc b) i)))
    (omega (arith, position_group s d (suc b) n i x r (omega arith) (omega arith) m))

-- those that come after are as many as the lists that add up to what is left
length_groups : (s d b n : ℕ) → b + n ≤ d
    → length (concat_map (group s d) (up_from b n)) + length (block_points (suc s) (d - (b + n)))
    ≡ length (block_points (suc s) (d - b))
length_groups s d b zero h =
    let z : b + 0 ≡ b = omega arith in
    let u : length (block_points (suc s) (d - (b + 0))) ≡ length (block_points (suc s) (d - b)) =
    ap (λ (k : ℕ). length (block_points (suc s) (d - k))) z in
    omega arith
length_groups s d b (suc n) h =
    let z : b + suc n ≡ suc b + n = omega arith in
    let w : suc (d - suc b) ≡ d - b = omega arith in
    let i : length (concat_map (group s d) (up_from (suc b) n)) + length (block_points (suc s) (d - (suc b + n)))
    ≡ length (block_points (suc s) (d - suc b)) =
    length_groups s d (suc b) n (omega arith) in
    let j : length (block_points (suc s) (d - b))
    ≡ length (block_points s (d - b)) + length (block_points (suc s) (d - suc b)) =
    subst
    (λ (e : ℕ). length (block_points (suc s) e) ≡ length (block_points s e) + length (block_points (suc s) (d - suc b)))
    w (block-suc s (d - suc b)) in
    let u : length (block_points (suc s) (d - (b + suc n))) ≡ length (block_points (suc s) (d - (suc b + n))) =
    ap (λ (k : ℕ). length (block_points (suc s) (d - k))) z in
    let v : length (concat_map (group s d) (up_from b (suc n)))
    ≡ length (block_points s (d - b)) + length (concat_map (group s d) (up_from (suc b) n)) =
    rw (
      length-append (group s d b) (concat_map (group s d) (up_from (suc b) n)),
      length-map (block_points s (d - b)) (λ l. b ∷ l),
    ) in
    omega arith

-- a number x in front of r, with k + 1 numbers in r: the binomials of what was left and of what is left then
pub block_step : (k left x : ℕ) (r : Point) → x ≤ left → length r ≡ suc k → sum r ≡ left - x
    → position_in (block_points (suc (suc k)) left) (x ∷ r) + choose (left - x + suc k) (suc k)
    ≡ choose (left + suc k) (suc k) + position_in (block_points (suc k) (left - x)) r
block_step k left x r h e f =
    let lists : ℕ → ℕ = λ e. length (block_points (suc (suc k)) e) in
    let g =
    position_group (suc k) left 0 (suc left) x x r (omega arith) (omega arith) (in_block (suc k) (left - x) r e f) in
    let c = length_groups (suc k) left 0 x (omega arith) in
    let u : lists (left - (0 + x)) ≡ choose (left - x + suc k) (suc k) =
    ap lists (omega arith) ∙ length-block (suc k) (left - x) in
    let w : lists (left - 0) ≡ choose (left + suc k) (suc k) = ap lists (omega arith) ∙ length-block (suc k) left in
    omega arith

-- two numbers: the first is the position
block-end : (left x : ℕ) (r : Point) → x ≤ left → length r ≡ 1 → sum r ≡ left - x
    → position_in (block_points 2 left) (x ∷ r) ≡ x
block-end left x r h e f =
    let one : position_in (block_points 1 (left - x)) r < length (block_points 1 (left - x)) =
    position_in_lem (block_points 1 (left - x)) r (in_block 1 (left - x) r e f) in
    omega (arith, block_step 0 left x r h e f, choose_one left, choose_one (left - x), length-block 0 (left - x))

-- the position of n coordinates from i on, which add up to d
unfoldable pub rank_of : List ℕ → ℕ → ℕ → ℕ → ℕ
rank_of y i n d = position_in (block_points n d) (map (at y) (up_from i n))

pub rank_turn : (y : List ℕ) (i k left : ℕ) → 1 ≤ k → sum (map (at y) (up_from i (k + 1))) ≡ left
    → (at y i ≤ left) × (sum (map (at y) (up_from (i + 1) (k - 1 + 1))) ≡ left - at y i)
    × (rank_of y i (k + 1) left + choose (left - at y i + k) k
    ≡ choose (left + k) k + rank_of y (i + 1) (k - 1 + 1) (left - at y i))
unfolding rank_of
rank_turn y i zero left h e = absurd (omega arith)
rank_turn y i (suc k) left h e =
    let z : suc k - 1 + 1 ≡ suc k = omega arith in
    let r : Point = map (at y) (up_from (suc i) (suc k)) in
    let s : at y i + sum r ≡ left = rw (add-one (suc k)) at e in
    rw (z, add-one i, add-one (suc k)) (
      omega arith,
      omega arith,
      block_step k left (at y i) r (omega arith)
          (length-map (up_from (suc i) (suc k)) (at y) ∙ length-up_from (suc i) (suc k)) (omega arith),
    )

pub rank_end : (y : List ℕ) (i left : ℕ) → sum (map (at y) (up_from i 2)) ≡ left → rank_of y i 2 left ≡ at y i
unfolding rank_of
rank_end y i left e = block-end left (at y i) (map (at y) (up_from (suc i) 1)) (omega arith) refl (omega arith)

pub rank_below : (y : List ℕ) (i s d : ℕ) → 1 ≤ s → sum (map (at y) (up_from i s)) ≡ d
    → rank_of y i s d < choose (d + pred s) (pred s)
unfolding rank_of
rank_below y i zero d h e = absurd (omega arith)
rank_below y i (suc n) d h e = omega (
  arith,
  position_in_lem (block_points (suc n) d) (map (at y) (up_from i (suc n)))
      (in_block (suc n) d (map (at y) (up_from i (suc n)))
      (length-map (up_from i (suc n)) (at y) ∙ length-up_from i (suc n)) e),
  length-block n d,
)

-- the blocks: a block's position counts for as many points as the later blocks have together
position-front : (a l : Point) (rs : List Point) → is_in same_point l rs ≡ true → (bs : List Point)
    → is_in same_point a bs ≡ true → ((x : Point) → is_in same_point x bs ≡ true → length x ≡ length a)
    → position_in (concat_map (λ x. map (λ l. x ++ l) rs) bs) (a ++ l) ≡ position_in bs a * length rs + position_in rs l
position-front a l rs n [] m h = absurd_bool (sym m)
position-front a l rs n (x ∷ bs) m h =
    go (same_point x a) refl (λ k. position-front a l rs n bs k (λ z i. h z (in_later on_points z x bs i)))
  where
    rest : List Point
    rest = concat_map (λ x. map (λ l. x ++ l) rs) bs

    go : (b : Bool) → same_point x a ≡ b
        → (is_in same_point a bs ≡ true → position_in rest (a ++ l) ≡ position_in bs a * length rs + position_in rs l)
        → position_in (map (λ l. x ++ l) rs ++ rest) (a ++ l)
        ≡ cond b 0 (suc (position_in bs a)) * length rs + position_in rs l
    go true q i =
        let e : x ≡ a = point_sound x a q in
        rw e
        (position_hit (map (λ l. a ++ l) rs) rest (a ++ l) (in_map on_points on_points (λ l. a ++ l) l rs n)
        ∙ position-map (λ l. a ++ l) (λ u w p. append-tail a u w p) rs l
        ∙ omega arith)
    go false q i =
        let out : is_in same_point (a ++ l) (map (λ l. x ++ l) rs) ≡ false = false_of _ (λ k.
        let j = map_in on_points on_points (λ l. x ++ l) (a ++ l) rs k in
        absurd_bool
        (sym (point_self x) ∙ (rw (append-head a x l j.0 (sym (h x (in_here on_points x bs))) j.2) at q))) in
        let later : is_in same_point a bs ≡ true =
        ⊎_elim (λ s. absurd_bool (sym (point_self x) ∙ (rw s at q))) (λ k. k) (in_cases on_points a x bs m) in
        let z : suc (position_in bs a) * length rs ≡ length rs + position_in bs a * length rs =
        suc-mul (position_in bs a) (length rs) ∙ add_comm _ _ in
        position_skip (map (λ l. x ++ l) rs) rest (a ++ l) out
        ∙ rw (length-map rs (λ l. x ++ l), i later, z) (sym (add_assoc _ _ _))

-- the blocks from j on, of a point's coordinates from there on
abbrev pub rest : List ℕ → List ℕ → Point → ℕ → ℕ
rest ss ds y j = position_in (product_points (drop j ss) (drop j ds)) (drop (sum (take j ss)) y)

abbrev pub later : List ℕ → List ℕ → ℕ → ℕ
later ss ds j = length (product_points (drop j ss) (drop j ds))

length-blocks : (s d : ℕ) (ss ds : List ℕ)
    → length (product_points (s ∷ ss) (d ∷ ds)) ≡ length (block_points s d) * length (product_points ss ds)
length-blocks s d ss ds = length-concat_map on_points on_points (length (product_points ss ds))
    (λ a. map (λ l. a ++ l) (product_points ss ds))
    (block_points s d)
    (λ a m. length-map (product_points ss ds) (λ l. a ++ l))

front_dropped : (a l : Point) (s : ℕ) → length a ≡ s → (n : ℕ) → drop (s + n) (a ++ l) ≡ drop n l
front_dropped a l s p n = rw (← p) (drop-append-add a l n)

block_horner : {ss ds y : List ℕ} (j : ℕ) → Fits ss ds y → j < length ss
    → (rest ss ds y j
    ≡ position_in (block_points (get_or ss j 0) (get_or ds j 0)) (map (at y) (up_from (sum (take j ss)) (get_or ss j 0)))
    * later ss ds (suc j)
    + rest ss ds y (suc j))
    × (later ss ds j ≡ length (block_points (get_or ss j 0) (get_or ds j 0)) * later ss ds (suc j))
block_horner j none h = absurd (omega arith)
block_horner zero (block {s = s} {d = d} {ss = ss} {ds = ds} a l p q f) h =
    let first : map (at (a ++ l)) (up_from 0 s) ≡ a = rw (← p) (first-append a l) in
    let z : s + 0 ≡ length a = omega arith in
    let tail : drop (s + 0) (a ++ l) ≡ l = rw z (drop-append_seam a l) in (
      rw (first, tail)
          (position-front a l (product_points ss ds) (in_product f) (block_points s d) (in_block s d a p q)
          (λ x m. (block_in s d x m).0 ∙ sym p)),
      length-blocks s d ss ds,
    )
block_horner (suc j) (block {s = s} {d = d} {ss = ss} {ds = ds} a l p q f) h =
    let i = block_horner j f (omega arith) in
    let shift : map (at (a ++ l)) (up_from (s + sum (take j ss)) (get_or ss j 0))
    ≡ map (at l) (up_from (sum (take j ss)) (get_or ss j 0)) =
    rw (← p) (shift_append a l (sum (take j ss)) (get_or ss j 0)) in
    (rw (front_dropped a l s p (sum (take j ss)), front_dropped a l s p (sum (take (suc j) ss)), shift) i.0, i.1)

-- Horner's rule, one block
horner_turn : {ss ds y : List ℕ} (j n : ℕ) → Fits ss ds y → j < length ss
    → n * later ss ds j + rest ss ds y j
    ≡ (n * length (block_points (get_or ss j 0) (get_or ds j 0))
    + position_in (block_points (get_or ss j 0) (get_or ds j 0)) (map (at y) (up_from (sum (take j ss)) (get_or ss j 0))))
    * later ss ds (suc j)
    + rest ss ds y (suc j)
horner_turn {ss} {ds} {y} j n f h =
    let i = block_horner j f h in
    let c = length (block_points (get_or ss j 0) (get_or ds j 0)) in
    let q =
    position_in (block_points (get_or ss j 0) (get_or ds j 0)) (map (at y) (up_from (sum (take j ss)) (get_or ss j 0))) in
    rw (i.0, i.1, add-mul (n * c) q (later ss ds (suc j)), mul_assoc n c (later ss ds (suc j)))
    (sym (add_assoc _ _ _))

horner_end : {ss ds y : List ℕ} → Fits ss ds y → (rest ss ds y (length ss) ≡ 0) × (later ss ds (length ss) ≡ 1)
horner_end none = (refl, refl)
horner_end (block {s = s} {ss = ss} a l p q f) =
    let i = horner_end f in
    (rw (front_dropped a l s p (sum (take (length ss) ss))) i.0, i.1)

rest_below : {ss ds y : List ℕ} (j : ℕ) → Fits ss ds y → j ≤ length ss → rest ss ds y j < later ss ds j
rest_below {ss} {ds} {y} zero f h = position_in_lem (product_points ss ds) y (in_product f)
rest_below (suc j) none h = absurd (omega arith)
rest_below (suc j) (block {s = s} {ss = ss} a l p q f) h =
    rw (front_dropped a l s p (sum (take j ss))) (rest_below j f (omega arith))

-- a grid point has a position, and is the point there
module _ (g : Grid) (y : Point) (e : length g.divisions ≡ num_blocks g) (h : is_grid_point g y ≡ true) where
  pub position-below : position g y < num_points g
  position-below = position_in_lem (points g) y (in_points g y e h)

  pub at_position : get_or (points g) (position g y) [] ≡ y
  at_position = at-position_in (points g) y (in_points g y e h)

-- Horner's rule over the blocks of an accepted grid: n is the position in the blocks before j
unfoldable pub Horner : Grid → Point → ℕ → ℕ → Type 0
Horner g y j n = n * later g.sizes g.divisions j + rest g.sizes g.divisions y j ≡ position g y

module _ (g : Grid) (y : Point) (a : Accepted g) (h : is_grid_point g y ≡ true) where
  fits : Fits g.sizes g.divisions y
  fits = fits_of g y a.same_number h

  pub horner_start : Horner g y 0 0
  unfolding Horner points
  horner_start = omega arith

  pub horner_next : (j n : ℕ) → j < num_blocks g → Horner g y j n
      → Horner g y (j + 1)
      (n * block_count g j + position_in (block_points (size g j) (division g j)) (map (at y) (indices_of g j)))
  unfolding Horner
  horner_next j n l e =
      let s : suc (pred (size g j)) ≡ size g j = omega (arith, (size-two g a j l).0) in
      let c : length (block_points (size g j) (division g j)) ≡ block_count g j = subst
      (λ (x : ℕ). length (block_points x (division g j)) ≡ block_count g j)
      s (length-block (pred (size g j)) (division g j)) in
      rw (add-one j, ← c) (sym (horner_turn j n fits l) ∙ e)

  pub horner_few : (j n : ℕ) → j ≤ num_blocks g → Horner g y j n → n ≤ 60000
  unfolding Horner
  horner_few j n l e =
      let r : rest g.sizes g.divisions y j < later g.sizes g.divisions j = rest_below j fits l in
      let p : n * 1 ≤ n * later g.sizes g.divisions j = mul-le-mul_left n (omega arith) in
      omega (arith, position-below g y a.same_number h, a.few_points)

  pub horner_done : (n : ℕ) → Horner g y (num_blocks g) n → n ≡ position g y
  unfolding Horner
  horner_done n e =
      let d = horner_end fits in
      let q : n * 1 + 0 ≡ position g y = rw (d.0, d.1) at e in
      omega arith

  pub adds_up : (j : ℕ) → j < num_blocks g → sum (map (at y) (indices_of g j)) ≡ division g j
  unfolding is_grid_point
  adds_up j l = eqb-true _ _ (all_in on_numbers (block_sum g.sizes g.divisions y) (blocks g)
      (and_right (eqb (length y) (num_indices g)) (all (block_sum g.sizes g.divisions y) (blocks g)) h) j
      (in_up_from 0 (num_blocks g) j (omega arith) (omega arith)))

-- the coordinates of a point that stands at the front of a longer list
pub map-front : (y : List ℕ) (m i n : ℕ) → i + n ≤ m → map (at (take m y)) (up_from i n) ≡ map (at y) (up_from i n)
map-front y m i zero h = refl
map-front y m i (suc n) h = rw (get_or-take m y i 0 (omega arith), map-front y m (suc i) n (omega arith))
