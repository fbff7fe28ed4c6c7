-- Which indices are covered, and the first block whose indices all are. In order: a range of indices; a point's label;
-- one more point; the first block; what is complete. Assumes nothing.
use mathlib.Core.Bool.{Bool, true, false, ◌&&◌, ◌||◌}
use mathlib.Core.List.{List, [], ◌∷◌, map}
use mathlib.Core.Option.{Option, some}
use mathlib.Core.Path.{◌≡◌, refl, sym, ap, ◌∙◌}
use Prim.Native.Nat.{ℕ, zero, suc, ◌+◌, ◌-◌, ◌≤◌, ◌<◌}
use borrow.Author.Tests.{lt-ltb}
use lib.Bits.{and_comm, bit_and, bit_or}
use lib.Dec.{eqb, ltb, eqb-suc-suc, eqb-suc-zero}
use lib.ListN.{length, get_or, take, replicate, length-map, length-take}
use lib.Seq.{ext_get_or, get_or-take, take_all}
use native.Mathlib.Omega.{arith}
use Rattle.combinatorics.proofs.Agreement.{all-agree}
use Rattle.combinatorics.proofs.Basics.{both}
use Rattle.combinatorics.proofs.Fronts.{front_at, front_taken}
use Rattle.combinatorics.proofs.Lists.{filter_cong, filter_in, in_filter, on_numbers}
use Rattle.combinatorics.proofs.Ranges.{length-up_from}
use Rattle.combinatorics.proofs.Turns.{map_at}
use Rattle.combinatorics.specs.Front.{front}
use Rattle.combinatorics.specs.Lists.{all, filter, is_in, sum, up_from}
use Rattle.grid.proofs.Fields.{made-accepted, made-blocks, made-indices}
use Rattle.grid_points.proofs.Points.{in_points, position_in_lem, point-long}
use Rattle.grid_points.proofs.Round.{block-fits}
use Rattle.grid_points.specs.Grid.{Grid, Point, at, blocks, first_index, indices, indices_of, is_grid_point, num_indices}
use Rattle.grid_points.specs.Grid.{num_points, points, position, size}
use Rattle.grid.specs.Made.{IsMade, shape}
use Rattle.grid.specs.declared.Grid.{Grid as GridStruct}
use Rattle.rules.proofs.Masks.{bit_and_lem, bit-none, bit_or_lem, bit_with}
use Rattle.rules.specs.Mask.{bit}
use Rattle.place.specs.Ends.{is_complete, complete_for}
use Rattle.place.specs.Places.{label_set, set_u}
use Rattle.place.specs.Problem.{label}
use Rattle.path_laws.proofs.Meaning.{index_means}
use Rattle.positions.specs.Steps.{after_steps, CanTakeSteps}
use Rattle.check_simplices.specs.Simplices.{first_of, labelled_by}
use Rattle.check_chains.proofs.ListedPoints.{all-at}
use Rattle.check_chains.proofs.Nestings.{range_more}
use Rattle.checker.specs.Covered.{IsCovered, first_whole, with_label}

-- a search through numbers from k up to n
module _ (q : ℕ → Bool) (k n : ℕ) (l : k < n) where
  pub range-stops : {whole : Bool} → whole ≡ all q (up_from k (n - k)) → q k ≡ false → false ≡ whole
  range-stops e h = sym (e ∙ rw (range_more k n l, h))

  pub range-goes : {whole : Bool} → whole ≡ all q (up_from k (n - k)) → q k ≡ true
      → whole ≡ all q (up_from (k + 1) (n - (k + 1)))
  range-goes e h = e ∙ rw (range_more k n l, h)

  -- the first number that passes a test
  pub first_stops : {first : Option ℕ} → first ≡ first_of (filter q (up_from k (n - k))) → q k ≡ true → some k ≡ first
  first_stops e h = sym (e ∙ rw (range_more k n l, h))

  pub first_goes : {first : Option ℕ} → first ≡ first_of (filter q (up_from k (n - k))) → q k ≡ false
      → first ≡ first_of (filter q (up_from (k + 1) (n - (k + 1))))
  first_goes e h = e ∙ rw (range_more k n l, h)

-- the indices of block j all belong to the set, for these sizes
abbrev pub whole-block : List ℕ → ℕ → ℕ → Bool
whole-block ss set j = all (bit set) (up_from (sum (take j ss)) (get_or ss j 0))

pub block-whole : (ss : List ℕ) (set j first end : ℕ) {b : Bool} → first ≡ sum (take j ss) → end ≡ first + get_or ss j 0
    → b ≡ all (bit set) (up_from first (end - first))
    → b ≡ whole-block ss set j
block-whole ss set j first end f e h = let n : end - first ≡ get_or ss j 0 = omega arith in rw (n, f) at h

pub first_of-blocks : (s : GridStruct) → IsMade s → (set : ℕ) {first : Option ℕ}
    → first ≡ first_of (filter (whole-block (shape s).sizes set) (up_from 0 s.blocks))
    → first ≡ first_whole (shape s) set
first_of-blocks s made set e =
    e ∙ ap (λ (n : ℕ). first_of (filter (whole-block (shape s).sizes set) (up_from 0 n))) (made-blocks s made)

-- no steps lead from a point to itself
at-replicate : (n v k : ℕ) → k < n → at (replicate n v) k ≡ v
at-replicate zero v k l = absurd (omega arith)
at-replicate (suc n) v zero l = refl
at-replicate (suc n) v (suc k) l = at-replicate n v k (omega arith)

module _ (s : GridStruct) (made : IsMade s) (y : List ℕ) (on : is_grid_point (shape s) (take s.indices y) ≡ true) where
  long : s.indices ≤ length y
  long = omega (arith, length-take s.indices y, point-long (shape s) (take s.indices y) on, made-indices s made)

  few : s.indices ≤ 16
  few = omega (arith, (made-accepted s made).few_indices, made-indices s made)

  pub can_stay : CanTakeSteps s.indices y (replicate 16 16)
  can_stay k l = omega (arith, at-replicate 16 16 k (omega (arith, few)))

  pub stays : take s.indices (after_steps y (replicate 16 16)) ≡ take s.indices y
  unfolding after_steps
  stays =
      let f : ℕ → ℕ = λ k. at y k + at (replicate 16 16) k - 16 in
      let same-long : length (take s.indices (map f (up_from 0 16))) ≡ length (take s.indices y) =
      simp (length-take, length-map, length-up_from) (omega (arith, long, few)) in
      ext_get_or 0 (take s.indices (map f (up_from 0 16))) (take s.indices y) same-long (λ k l.
      let m : k < s.indices = omega (arith, length-take s.indices (map f (up_from 0 16))) in
      let z : 0 + k ≡ k = omega arith in
      get_or-take _ _ _ _ m
      ∙ map_at f 0 16 k (omega (arith, few))
      ∙ (rw z (omega (arith, at-replicate 16 16 k (omega (arith, few)))))
      ∙ sym (get_or-take _ _ _ _ m))

  pub stays-on-grid : is_grid_point (shape s) (take s.indices (after_steps y (replicate 16 16))) ≡ true
  stays-on-grid = rw stays on

  pub same-position : (r : ℕ) → r ≡ position (shape s) (take s.indices (after_steps y (replicate 16 16)))
      → r ≡ position (shape s) (take s.indices y)
  same-position r e = e ∙ rw stays

  -- its label
  pub label_inside : (labels : List ℕ) → length labels ≡ num_points (shape s)
      → position (shape s) (take s.indices y) < length labels
  label_inside labels e = omega (
    arith,
    position_in_lem (points (shape s)) (take s.indices y)
        (in_points (shape s) (take s.indices y) (made-accepted s made).same_number on),
  )

-- a point that is copied to the front of 16 numbers
module _ (s : GridStruct) (made : IsMade s) (z : Point) (on : is_grid_point (shape s) z ≡ true) where
  as_long : length z ≡ s.indices
  as_long = point-long (shape s) z on ∙ sym (made-indices s made)

  pub copied : (r : List ℕ) → r ≡ front (take s.indices z) (replicate 16 0) → r ≡ front z (replicate 16 0)
  copied r e = e ∙ rw (take_all s.indices z (omega (arith, as_long)))

  pub copied_point : (r : List ℕ) → r ≡ front z (replicate 16 0) → take s.indices r ≡ z
  copied_point r e = let l = as_long in rw (e, ← l) (front_taken z (replicate 16 0))

-- the points so far: their labels and the indices at which they are all 0
pub record Covering (g : Grid) (labels : List ℕ) (zs : List Point) (labelled nought : ℕ) : Type 0 where
  pub named : (h : ℕ) → h < num_indices g → bit labelled h ≡ is_in eqb (suc h) (map (label (labelled_by g labels)) zs)
  pub zeros : (h : ℕ) → h < num_indices g → bit nought h ≡ all (λ y. eqb (at y h) 0) zs

every_bit : (h : ℕ) → h < 16 → bit 65535 h ≡ true
unfolding bit
every_bit h l =
    let t : all (λ h. bit 65535 h) (map (λ h. h) (up_from 0 16)) ≡ true = refl in
    all-at (bit 65535) (λ h. h) 0 16 t h (omega arith) l

-- the index that a label names
named-bit : (set l h : ℕ) → l ≤ 16 → h < 16 → bit (with_label set l) h ≡ (eqb (suc h) l || bit set h)
named-bit set zero h l m = rw (eqb-suc-zero h)
named-bit set (suc i) h l m =
    let e : suc i - 1 ≡ i = omega arith in
    rw (eqb-suc-zero i, e, eqb-suc-suc h i) (bit_with set i h (omega arith) m)

module _ {g : Grid} (few : num_indices g ≤ 16) {labels : List ℕ} where
  pub none_covered : Covering g labels [] 0 65535
  none_covered = record { named = λ h l. bit-none h (omega arith); zeros = λ h l. every_bit h (omega arith) }

  -- a point more
  pub more_covered : {zs : List Point} {labelled nought l : ℕ} (y : Point) (u : ℕ)
      → Covering g labels zs labelled nought → l ≡ label (labelled_by g labels) y → l ≤ 16
      → ((h : ℕ) → h < num_indices g → bit u h ≡ eqb (at y h) 0)
      → Covering g labels (y ∷ zs) (with_label labelled l) (bit_and nought u)
  more_covered {labelled = labelled} {nought} {l} y u C is small zeros_of = record {
    named = λ h m. named-bit labelled l h small (omega arith) ∙ rw (is, C.named h m);
    zeros = λ h m. rw (and_comm nought u) (bit_and_lem u nought h ∙ rw (zeros_of h m, C.zeros h m));
  }

  pub all_covered : {zs : List Point} {labelled nought : ℕ} → Covering g labels zs labelled nought
      → IsCovered g labels zs (bit_or labelled nought)
  all_covered {labelled = labelled} {nought} C = record {
    bits = λ h m. bit_or_lem labelled nought h ∙ rw (C.named h m, C.zeros h m);
  }

-- the zeros of a point that stands at the front of 16 numbers
pub zeros-at : (m : ℕ) (y : Point) (r : List ℕ) (u : ℕ) → m ≤ 16 → length y ≡ m → r ≡ front y (replicate 16 0)
    → ((k : ℕ) → k < 16 → bit u k ≡ (ltb k m && eqb (at r k) 0)) → (h : ℕ) → h < m → bit u h ≡ eqb (at y h) 0
zeros-at m y r u few long is e h l =
    e h (omega arith) ∙ rw (lt-ltb h m l, is, front_at y (replicate 16 0) h (omega arith))

-- a set of points is complete for a block where the block's indices are all covered
module _ (g : Grid) (labels : List ℕ) (zs : List Point) (covered : ℕ) (C : IsCovered g labels zs covered) where
  in_set : (q : ℕ → Bool) (h : ℕ) → h < num_indices g → is_in eqb h (filter q (indices g)) ≡ q h
  in_set q h l = both _ _
      (λ m. (filter_in on_numbers q h (indices g) m).1)
      (λ t. in_filter on_numbers q h (indices g) ((index_means g h).1 l) t)

  complete-is : (j : ℕ) → is_complete (labelled_by g labels) zs j ≡ all (bit covered) (indices_of g j)
  unfolding is_complete label_set set_u
  complete-is j = all-agree _ (bit covered) (first_index g j) (size g j) (λ k l.
      let h = first_index g j + k in
      let m : h < num_indices g = omega (arith, block-fits g.sizes j) in
      rw (
        in_set (λ h. is_in eqb (suc h) (map (label (labelled_by g labels)) zs)) h m,
        in_set (λ h. all (λ y. eqb (at y h) 0) zs) h m,
      ) (sym (C.bits h m)))

  pub whole_is : first_of (complete_for (labelled_by g labels) zs) ≡ first_whole g covered
  unfolding complete_for
  whole_is = ap first_of (filter_cong on_numbers (blocks g) (λ j m. complete-is j))
