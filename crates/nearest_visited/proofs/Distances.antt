-- The distance of two grid points: a whole number, at most 2 N D, and 0 only from a point to itself. Assumes nothing.
use mathlib.Core.Bool.{true, not}
use mathlib.Core.List.{List, [], ◌∷◌, map}
use mathlib.Core.Logic.{⊎_elim}
use mathlib.Core.Path.{◌≡◌, refl, sym, ap, ◌∙◌}
use Prim.Native.Nat.{ℕ, zero, suc, ◌+◌, ◌-◌, ◌*◌, ◌≤◌, ◌<◌}
use borrow.Author.Tests.{eq-eqb, leb-true, ne_eqb}
use lib.Dec.{eqb, leb}
use lib.ListN.{take}
use lib.Seq.{ext_get_or, get_or-take, take_all}
use native.Mathlib.Nat.{add-mul, suc-mul, mul_comm, mul_assoc, mul-one, mul-le-mul, mul-le-mul_left, mul-le-mul_right}
use native.Mathlib.Numerals.{add-one}
use native.Mathlib.Omega.{arith}
use Rattle.combinatorics.proofs.Basics.{true_or_false}
use Rattle.combinatorics.proofs.Agreement.{map_range}
use Rattle.combinatorics.proofs.Lists.{at_all, filter-append}
use Rattle.combinatorics.proofs.Ranges.{up_from_add}
use Rattle.combinatorics.proofs.Turns.{map-append, sum-append, sum-next, up_from-next}
use Rattle.combinatorics.specs.Lists.{filter, sum, up_from}
use Rattle.combinatorics.specs.Counting.{apart}
use Rattle.grid_points.proofs.Accepted.{Accepted}
use Rattle.grid_points.proofs.Round.{block_at, block_spans}
use Rattle.grid_points.specs.Grid.{Grid, Point, at, block_of, blocks, division, first_index, indices_of, is_grid_point}
use Rattle.grid_points.specs.Grid.{num_blocks}
use Rattle.grid_points.specs.Grid.{num_indices, size}
use Rattle.grid_points.proofs.Points.{point-long}
use Rattle.game_losses.proofs.Players.{divisions-few, product-append, product-own}
use Rattle.game_losses.specs.Game.{product}
use Rattle.positions.proofs.Positions.{adds_up}
use Rattle.nearest_visited.specs.Demand.{Distances}
use Rattle.nearest_visited.specs.Distance.{all_divisions, distance, other_divisions}

-- one coordinate
module _ (g : Grid) (w y : Point) where
  abbrev pub term : ℕ → ℕ
  term h = apart (at y h) (at w h) * other_divisions g (block_of g h)

  -- the first indices, and one more
  pub distance_turn : (i : ℕ) → sum (map term (up_from 0 (i + 1))) ≡ sum (map term (up_from 0 i)) + term i
  distance_turn i = let z : 0 + i ≡ i = omega arith in rw (up_from-next 0 i, map-append, sum-append, z) (omega arith)

  pub distance_is : distance g w y ≡ sum (map term (up_from 0 (num_indices g)))
  unfolding distance
  distance_is = refl

  -- of a point at the front of a longer list
  pub distance-front : (m : ℕ) → m ≡ num_indices g → sum (map term (up_from 0 m)) ≡ distance g w (take m y)
  unfolding distance
  distance-front m e =
      rw (← e) (ap sum (map_range term (λ h. apart (at (take m y) h) (at w h) * other_divisions g (block_of g h)) 0 m
      (λ k l. let z : 0 + k ≡ k = omega arith in rw (z, get_or-take m y k 0 l))))

apart-most : (a b : ℕ) → apart a b ≤ a + b
apart-most a b = omega arith

-- the numbers below n of a list but number j, multiplied
abbrev pub part_others : List ℕ → ℕ → ℕ → ℕ
part_others ds j n = product (map (at ds) (filter (λ i. not (eqb i j)) (up_from 0 n)))

module _ (ds : List ℕ) (j n : ℕ) where
  part_next : part_others ds j (n + 1) ≡ part_others ds j n * product (map (at ds) (filter (λ i. not (eqb i j)) (n ∷ [])))
  part_next =
      let z : 0 + n ≡ n = omega arith in
      rw (up_from-next 0 n, filter-append, map-append, z)
      (product-append (map (at ds) (filter (λ i. not (eqb i j)) (up_from 0 n)))
      (map (at ds) (filter (λ i. not (eqb i j)) (n ∷ []))))

  pub part_other : (n ≡ j → ⊥) → part_others ds j (n + 1) ≡ part_others ds j n * at ds n
  part_other d = part_next ∙ rw (ne_eqb n j d) (ap (λ (x : ℕ). part_others ds j n * x) (mul-one (at ds n)))

  pub part_own : n ≡ j → part_others ds j (n + 1) ≡ part_others ds j n
  part_own e = part_next ∙ rw (eq-eqb n j e) (mul-one (part_others ds j n))

module _ (g : Grid) (a : Accepted g) where
  one : (i : ℕ) → i < num_blocks g → 1 ≤ division g i
  one i l = leb-true 1 (division g i)
      (at_all (λ d. leb 1 d) g.divisions i a.divisions_one (omega (arith, a.same_number)))

  some : (j b n : ℕ) → b + n ≤ num_blocks g → 1 ≤ product (map (division g) (filter (λ i. not (eqb i j)) (up_from b n)))
  some j b zero l = omega arith
  some j b (suc n) l = ⊎_elim
      (λ t. rw t
      (let m : 1 * 1 ≤ division g b * product (map (division g) (filter (λ i. not (eqb i j)) (up_from (suc b) n))) =
      mul-le-mul (one b (omega arith)) (some j (suc b) n (omega arith)) in
      omega arith))
      (λ f. rw f (some j (suc b) n (omega arith)))
      (true_or_false (not (eqb b j)))

  others_split : (j n k : ℕ) → n + k ≡ num_blocks g
      → other_divisions g j
      ≡ part_others g.divisions j n * product (map (division g) (filter (λ i. not (eqb i j)) (up_from n k)))
  unfolding other_divisions
  others_split j n k e =
      let z : 0 + n ≡ n = omega arith in
      rw (← e, up_from_add 0 n k, filter-append, map-append, z)
      (product-append (map (division g) (filter (λ i. not (eqb i j)) (up_from 0 n)))
      (map (division g) (filter (λ i. not (eqb i j)) (up_from n k))))

  pub part_most : (j n : ℕ) → n ≤ num_blocks g → part_others g.divisions j n ≤ other_divisions g j
  part_most j n l =
      let k : ℕ = num_blocks g - n in
      let rest : ℕ = product (map (division g) (filter (λ i. not (eqb i j)) (up_from n k))) in
      let m : part_others g.divisions j n * 1 ≤ part_others g.divisions j n * rest =
      mul-le-mul_left (part_others g.divisions j n) (some j n k (omega arith)) in
      omega (arith, others_split j n k (omega arith))

  pub part_whole : (j : ℕ) → part_others g.divisions j (num_blocks g) ≡ other_divisions g j
  unfolding other_divisions
  part_whole j = refl

  -- "D / d_j"
  pub whole-at : (j : ℕ) → j < num_blocks g → other_divisions g j * division g j ≡ all_divisions g
  unfolding other_divisions
  whole-at j l =
      mul_comm (product (map (division g) (filter (λ i. not (eqb i j)) (blocks g)))) (division g j)
      ∙ sym (rw a.same_number at (product-own g.divisions j (omega (arith, a.same_number))))

  pub others_positive : (j : ℕ) → 1 ≤ other_divisions g j
  unfolding other_divisions
  others_positive j = some j 0 (num_blocks g) (omega arith)

  pub others_few : (j : ℕ) → j < num_blocks g → other_divisions g j ≤ 60000
  others_few j l =
      let m : other_divisions g j * 1 ≤ other_divisions g j * division g j =
      mul-le-mul_left (other_divisions g j) (one j l) in
      omega (arith, whole-at j l, divisions-few g a)

  whole : (h : ℕ) → h < num_indices g → other_divisions g (block_of g h) * division g (block_of g h) ≡ all_divisions g
  whole h l = whole-at (block_of g h) (block_spans g.sizes h l).0

  module _ (w y : Point) (on_w : is_grid_point g w ≡ true) (on_y : is_grid_point g y ≡ true) where
    -- the indices of a block
    weighed : (c b n : ℕ)
        → sum (map (λ h. apart (at y h) (at w h) * c) (up_from b n))
        ≤ (sum (map (at y) (up_from b n)) + sum (map (at w) (up_from b n))) * c
    weighed c b zero = omega arith
    weighed c b (suc n) =
        let ys : ℕ = sum (map (at y) (up_from (suc b) n)) in
        let ws : ℕ = sum (map (at w) (up_from (suc b) n)) in
        let m : apart (at y b) (at w b) * c ≤ (at y b + at w b) * c =
        mul-le-mul_right c (apart-most (at y b) (at w b)) in
        let d : (at y b + ys + (at w b + ws)) * c ≡ (at y b + at w b) * c + (ys + ws) * c =
        ap (λ (n : ℕ). n * c) (let z : at y b + ys + (at w b + ws) ≡ at y b + at w b + (ys + ws) = omega arith in z)
        ∙ add-mul (at y b + at w b) (ys + ws) c in
        omega (arith, weighed c (suc b) n)

    block-most : (j : ℕ) → j < num_blocks g → sum (map (term g w y) (indices_of g j)) ≤ 2 * all_divisions g
    block-most j l =
        let c : ℕ = other_divisions g j in
        let d : ℕ = division g j in
        let e : map (term g w y) (indices_of g j) ≡ map (λ h. apart (at y h) (at w h) * c) (indices_of g j) = map_range
        (term g w y)
        (λ h. apart (at y h) (at w h) * c)
        (first_index g j) (size g j)
        (λ k m. ap
        (λ (i : ℕ). apart (at y (first_index g j + k)) (at w (first_index g j + k)) * other_divisions g i)
        (block_at g.sizes j k m)) in
        let f : (d + d) * c ≡ d * c + d * c = add-mul d d c in
        rw e (omega (
          arith,
          rw (adds_up g y a on_y j l, adds_up g w a on_w j l) at (weighed c (first_index g j) (size g j)),
          mul_comm d c,
          whole-at j l,
        ))

    blocks-most : (j : ℕ) → j ≤ num_blocks g
        → sum (map (term g w y) (up_from 0 (first_index g j))) ≤ j * (2 * all_divisions g)
    blocks-most zero l = omega arith
    blocks-most (suc j) l =
        let z : 0 + first_index g j ≡ first_index g j = omega arith in
        let e : first_index g (suc j) ≡ first_index g j + size g j = rw (← add-one j) (sum-next g.sizes j l) in
        let m : suc j * (2 * all_divisions g) ≡ j * (2 * all_divisions g) + 2 * all_divisions g =
        suc-mul j (2 * all_divisions g) in
        rw (e, up_from_add 0 (first_index g j) (size g j), map-append, sum-append, z)
        (omega (arith, blocks-most j (omega arith), block-most j l))

    most : distance g w y ≤ 2 * num_blocks g * all_divisions g
    most =
        let e : first_index g (num_blocks g) ≡ num_indices g = ap sum (take_all (num_blocks g) g.sizes (omega arith)) in
        let m : num_blocks g * (2 * all_divisions g) ≡ 2 * num_blocks g * all_divisions g =
        sym (mul_assoc (num_blocks g) 2 (all_divisions g))
        ∙ ap (λ (n : ℕ). n * all_divisions g) (mul_comm (num_blocks g) 2) in
        omega (arith, distance_is g w y, rw e at (blocks-most (num_blocks g) (omega arith)))

    -- at distance 0 all coordinates agree
    term_zero : (b n : ℕ) → sum (map (term g w y) (up_from b n)) ≡ 0 → (k : ℕ) → k < n → term g w y (b + k) ≡ 0
    term_zero b zero e k l = absurd (omega arith)
    term_zero b (suc n) e zero l = let z : b + 0 ≡ b = omega arith in rw z (omega arith)
    term_zero b (suc n) e (suc k) l =
        let z : b + suc k ≡ suc b + k = omega arith in
        rw z (term_zero (suc b) n (omega arith) k (omega arith))

    same_at : distance g w y ≡ 0 → (h : ℕ) → h < num_indices g → at y h ≡ at w h
    same_at e h l =
        let c : ℕ = other_divisions g (block_of g h) in
        let z : 0 + h ≡ h = omega arith in
        let t : apart (at y h) (at w h) * c ≡ 0 =
        rw z at (term_zero 0 (num_indices g) (sym (distance_is g w y) ∙ e) h l) in
        let m : apart (at y h) (at w h) * 1 ≤ apart (at y h) (at w h) * c =
        mul-le-mul_left (apart (at y h) (at w h)) (others_positive (block_of g h)) in
        omega arith

    same_point : distance g w y ≡ 0 → y ≡ w
    same_point e = ext_get_or 0 y w (point-long g y on_y ∙ sym (point-long g w on_w))
        (λ i l. same_at e i (omega (arith, point-long g y on_y)))

  no_terms : (w : Point) (b n : ℕ) → sum (map (term g w w) (up_from b n)) ≡ 0
  no_terms w b zero = refl
  no_terms w b (suc n) =
      let z : apart (at w b) (at w b) ≡ 0 = omega arith in
      let t : apart (at w b) (at w b) * other_divisions g (block_of g b) ≡ 0 * other_divisions g (block_of g b) =
      ap (λ (x : ℕ). x * other_divisions g (block_of g b)) z in
      omega (arith, no_terms w (suc b) n)

  pub distances : Distances g
  distances = record {
    whole = whole;
    most = most;
    none = λ w y i j. (same_point w y i j, (λ e. rw e (distance_is g w w ∙ no_terms w 0 (num_indices g))));
  }
