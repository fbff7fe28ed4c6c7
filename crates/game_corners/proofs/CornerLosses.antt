-- The losses and the differences at a point are those at its corners, weighed by the last player's mix.
-- Assumes nothing.
use mathlib.Core.Bool.{true, not}
use mathlib.Core.List.{List, [], ◌∷◌, ◌++◌, map, append-nil}
use mathlib.Core.Logic.{⊎_elim}
use mathlib.Core.Path.{◌≡◌, refl, sym, ap, ◌∙◌, subst}
use Prim.Native.Nat.{ℕ, zero, suc, ◌+◌, ◌*◌, ◌≤◌, ◌<◌, pred}
use borrow.Author.Tests.{eq-eqb, ne_eqb, le-leb, leb-true, lt-ltb, ltb-true}
use lib.Dec.{eqb, leb, ltb}
use lib.IntN.{ℤ, nat_abs}
use lib.ListN.{length, get_or, take, drop, set, replicate, length-set, length-map, length-append, length-drop}
use lib.ListN.{get_or-append}
use lib.Seq.{take-set-lt, length-take-le, take_all, drop_at, get_or-take, get_or-set_same, get_or-set_other}
use native.Mathlib.Nat.{mul-le-mul_left, mul-le-mul_right}
use native.Mathlib.Omega.{arith}
use Rattle.combinatorics.proofs.Agreement.{map-agree, map_range}
use Rattle.combinatorics.proofs.Basics.{and_left, and_right, and_both, same_or}
use Rattle.combinatorics.proofs.Binomials.{choose-grows}
use Rattle.combinatorics.proofs.Fronts.{front_at, front_length}
use Rattle.combinatorics.proofs.Lists.{in_all, filter_in, filter-append, eqb_self, on_numbers, sums_rise}
use Rattle.combinatorics.proofs.Ranges.{length-up_from, up_from_in, up_from_add}
use Rattle.combinatorics.proofs.Turns.{map-append, map_at, sum-next}
use Rattle.combinatorics.specs.Counting.{binomial_product, choose}
use Rattle.combinatorics.specs.Front.{front}
use Rattle.combinatorics.specs.Lists.{all, filter, sum, up_from}
use Rattle.questions.specs.Questions.{first_no}
use Rattle.grid_points.proofs.Accepted.{Accepted, accepted, points-are}
use Rattle.grid_points.proofs.Listing.{num_points-is}
use Rattle.grid_points.proofs.Round.{Seat, seat, block_spans}
use Rattle.grid_points.specs.Grid.{Grid, Point, at, block_of, num_blocks, num_indices, num_points, size, division}
use Rattle.grid_points.specs.Grid.{first_index, blocks, is_grid_point}
use Rattle.grid_points.specs.Questions.{grid_questions}
use Rattle.game_weighed.proofs.Blends.{blend-agree, blend-times, blend-same}
use Rattle.game_weighed.specs.Levels.{blend}
use Rattle.game_corners.proofs.Blends.{blend-difference, linear, unit-length}
use Rattle.points_in_order.proofs.Blocks.{at_part, point-length, block-sum, block-length}
use Rattle.game_losses.proofs.Replaced.{mix_lengths, expected_weights, replaced-is}
use Rattle.game_corners.proofs.Rows.{part_before, part_within}
use Rattle.game_losses.proofs.Weights.{length-weights, weighed-at}
use Rattle.game_corners.specs.Corners.{signed_at, column, last_player, unit_vector, corner, corner_grid, Cornered}
use Rattle.game_losses.specs.Game.{product, dot, mix, opponents, own_first, losses_of, expected_loss, replaced_loss}
use Rattle.game_losses.specs.Game.{player_loss}
use Rattle.game_losses.specs.Game.{difference}
use Rattle.points_in_order.specs.Lent.{PointWithFirsts}
use Rattle.game_losses.specs.Weights.{weights, strategy_losses}

module _ (g : Grid) (some : 1 ≤ num_blocks g) where
  abbrev last : ℕ
  last = last_player g

  pub last-ends : first_index g last + size g last ≡ num_indices g
  last-ends =
      let z : last + 1 ≡ num_blocks g = omega arith in
      sym (sum-next g.sizes last (omega arith))
      ∙ ap (λ (l : List ℕ). sum l) (take_all (last + 1) g.sizes (omega arith))

  -- the players before the last other than j
  abbrev outer : ℕ → List ℕ
  outer j = filter (λ i. not (eqb i j)) (up_from 0 last)

  outer_below : (j : ℕ) → all (λ i. ltb i last) (outer j) ≡ true
  outer_below j = in_all on_numbers _ (outer j)
      (λ i m. lt-ltb i last
      (omega (arith, (up_from_in 0 last i (filter_in on_numbers (λ i. not (eqb i j)) i (up_from 0 last) m).0).1)))

  opponents_split : (j : ℕ) → opponents g j ≡ outer j ++ filter (λ i. not (eqb i j)) (last ∷ [])
  opponents_split j =
      let z : num_blocks g ≡ last + 1 = omega arith in
      let y : 0 + last ≡ last = omega arith in
      ap (λ (n : ℕ). filter (λ i. not (eqb i j)) (up_from 0 n)) z ∙ rw (up_from_add 0 last 1, filter-append, y)

  opponents-last : opponents g last ≡ outer last
  opponents-last = opponents_split last ∙ rw (eqb_self last) (append-nil (outer last))

  opponents-other : (j : ℕ) → (j ≡ last → ⊥) → opponents g j ≡ outer j ++ (last ∷ [])
  opponents-other j n = opponents_split j ∙ rw (ne_eqb last j (λ e. n (sym e)))

  module _ (y : Point) (whole : length y ≡ num_indices g) where
    abbrev own : List ℕ
    own = mix g y last

    pub own_part : own ≡ drop (first_index g last) y
    own_part = at_part y (first_index g last) (size g last) (omega (arith, last-ends))
        ∙ take_all (size g last) (drop (first_index g last) y)
        (omega (arith, last-ends, length-drop (first_index g last) y))

    pub outer_length : length (take (first_index g last) y) ≡ first_index g last
    outer_length = length-take-le (first_index g last) y (omega (arith, last-ends))

    pub corner-length : (k : ℕ) → length (corner g y k) ≡ num_indices g
    corner-length k = rw (length-append, outer_length, unit-length (size g last) k) last-ends

    pub corner-last : (k : ℕ) → mix g (corner g y k) last ≡ unit_vector (size g last) k
    corner-last k = at_part (corner g y k) (first_index g last) (size g last) (omega (arith, last-ends, corner-length k))
        ∙ rw (drop_at (take (first_index g last) y) (unit_vector (size g last) k) (first_index g last) outer_length)
        (take_all (size g last) (unit_vector (size g last) k) (omega (arith, unit-length (size g last) k)))

    pub corner-other : (k i : ℕ) → i < last → mix g (corner g y k) i ≡ mix g y i
    corner-other k i h = map_range _ _ (first_index g i) (size g i) (λ t l.
        let low : first_index g i + t < first_index g last = omega (arith, sums_rise g.sizes i last h) in
        get_or-append (take (first_index g last) y) (unit_vector (size g last) k) 0 (first_index g i + t)
        (rw outer_length low)
        ∙ get_or-take (first_index g last) y (first_index g i + t) 0 low)

    outer_mixes : (k : ℕ) (l : List ℕ) → all (λ i. ltb i last) l ≡ true → map (mix g (corner g y k)) l ≡ map (mix g y) l
    outer_mixes k l a =
        map-agree (λ i. ltb i last) (mix g (corner g y k)) (mix g y) l a (λ i b. corner-other k i (ltb-true i last b))

    -- the products of the mixes of some players, the last one among them
    split_blend : (is js : List ℕ) (t : List ℕ) → all (λ i. ltb i last) is ≡ true → all (λ i. ltb i last) js ≡ true
        → dot (weights (map (mix g y) (is ++ last ∷ js))) t
        ≡ blend own (λ k. dot (weights (map (mix g (corner g y k)) (is ++ last ∷ js))) t)
    split_blend is js t a b = ap (λ (l : List (List ℕ)). dot (weights l) t) (map-append (mix g y) is (last ∷ js))
        ∙ linear (map (mix g y) is) own (map (mix g y) js) t
        ∙ blend-agree own _ _
        (λ k h. sym (rw (map-append, corner-last k, outer_mixes k is a, outer_mixes k js b, block-length g y last)))

    players_blend : (ps is js : List ℕ) (t : List ℕ) → ps ≡ is ++ last ∷ js → all (λ i. ltb i last) is ≡ true
        → all (λ i. ltb i last) js ≡ true
        → dot (weights (map (mix g y) ps)) t ≡ blend own (λ k. dot (weights (map (mix g (corner g y k)) ps)) t)
    players_blend ps is js t e a b = rw e (split_blend is js t a b)

    pub expected_blend : (losses : List ℕ) (j : ℕ) → j < num_blocks g
        → expected_loss g losses y j ≡ blend own (λ k. expected_loss (corner_grid g) losses (corner g y k) j)
    expected_blend losses j h = expected_weights g losses y j
        ∙ ⊎_elim
        (λ e. players_blend (own_first g j) [] (outer last) (losses_of g losses j)
        (ap (own_first g) e ∙ ap (λ (l : List ℕ). last ∷ l) opponents-last) refl (outer_below last))
        (λ n. players_blend (own_first g j) (j ∷ outer j) [] (losses_of g losses j) (rw (opponents-other j n))
        (and_both _ _ (lt-ltb j last (omega arith)) (outer_below j)) refl)
        (same_or j last)
        ∙ blend-agree own _ _ (λ k l. sym (expected_weights (corner_grid g) losses (corner g y k) j))

    -- the loss of strategy i of player j against the opponents
    strategy_other : (j i : ℕ) (t : List ℕ) → i < size g j → (j ≡ last → ⊥)
        → get_or (strategy_losses g y j t) i 0 ≡ blend own (λ k. get_or (strategy_losses g (corner g y k) j t) i 0)
    strategy_other j i t h n =
        let w : List ℕ = weights (map (mix g y) (opponents g j)) in
        weighed-at (size g j) i w t h
        ∙ players_blend (opponents g j) (outer j) [] (drop (i * length w) t) (opponents-other j n) (outer_below j) refl
        ∙ blend-agree own _ _ (λ k l.
        let long : length w ≡ length (weights (map (mix g (corner g y k)) (opponents g j))) =
        length-weights (map (mix g y) (opponents g j))
        ∙ ap product (sym (mix_lengths g y (opponents g j)) ∙ mix_lengths g (corner g y k) (opponents g j))
        ∙ sym (length-weights (map (mix g (corner g y k)) (opponents g j))) in
        rw long (sym (weighed-at (size g j) i (weights (map (mix g (corner g y k)) (opponents g j))) t h)))

    strategy_last : (t : List ℕ) (k : ℕ) → strategy_losses g (corner g y k) last t ≡ strategy_losses g y last t
    strategy_last t k = rw (opponents-last, outer_mixes k (outer last) (outer_below last))

    pub replaced-blend : (losses : List ℕ) (j i : ℕ) → i < size g j → last < length g.divisions
        → sum own ≡ division g last
        → replaced_loss g losses y (first_index g j + i)
        ≡ blend own (λ k. replaced_loss (corner_grid g) losses (corner g y k) (first_index g j + i))
    replaced-blend losses j i h room total = replaced-is g losses y j i h
        ∙ ⊎_elim at_last other (same_or j last)
        ∙ blend-agree own _ _ (λ k l. sym (replaced-is (corner_grid g) losses (corner g y k) j i h))
      where
        loss : Point → ℕ → ℕ
        loss z j = get_or (strategy_losses g z j (losses_of g losses j)) i 0

        at_last : j ≡ last
            → division g j * loss y j ≡ blend own (λ k. division (corner_grid g) j * loss (corner g y k) j)
        at_last e = rw (e, get_or-set_same g.divisions last 1 0 room) (sym
            (blend-agree own
            (λ k. 1 * loss (corner g y k) last)
            (λ k. 1 * loss y last)
            (λ k l. rw (strategy_last (losses_of g losses last) k))
            ∙ blend-same own (1 * loss y last)
            ∙ rw total (omega arith)))

        other : (j ≡ last → ⊥)
            → division g j * loss y j ≡ blend own (λ k. division (corner_grid g) j * loss (corner g y k) j)
        other n = rw (get_or-set_other g.divisions last j 1 0 n)
            (ap (λ (v : ℕ). division g j * v) (strategy_other j i (losses_of g losses j) h n)
            ∙ sym (blend-times (division g j) own (λ k. loss (corner g y k) j)))

-- the corners are points of a grid that is accepted too
sum_zeros : (s : ℕ) → sum (replicate s 0) ≡ 0
sum_zeros zero = refl
sum_zeros (suc s) = omega (arith, sum_zeros s)

sum-unit : (s k : ℕ) → k < s → sum (unit_vector s k) ≡ 1
sum-unit zero k h = absurd (omega arith)
sum-unit (suc s) zero h = omega (arith, sum_zeros s)
sum-unit (suc s) (suc k) h = omega (arith, sum-unit s k (omega arith))

ones : (ds : List ℕ) (n : ℕ) → all (λ d. leb 1 d) ds ≡ true → all (λ d. leb 1 d) (set ds n 1) ≡ true
ones [] n a = refl
ones (d ∷ ds) zero a = and_right (leb 1 d) (all (λ d. leb 1 d) ds) a
ones (d ∷ ds) (suc n) a = and_both _ _ (and_left (leb 1 d) (all (λ d. leb 1 d) ds) a)
    (ones ds n (and_right (leb 1 d) (all (λ d. leb 1 d) ds) a))

fewer : (ss ds : List ℕ) (n : ℕ) → all (λ d. leb 1 d) ds ≡ true
    → binomial_product ss (set ds n 1) ≤ binomial_product ss ds
fewer [] ds n a = omega arith
fewer (s ∷ ss) [] n a = omega arith
fewer (s ∷ ss) (d ∷ ds) zero a = mul-le-mul_right (binomial_product ss ds)
    (choose-grows 1 d (pred s) (pred s) (leb-true 1 d (and_left (leb 1 d) (all (λ d. leb 1 d) ds) a)) (omega arith))
fewer (s ∷ ss) (d ∷ ds) (suc n) a =
    mul-le-mul_left (choose (d + pred s) (pred s)) (fewer ss ds n (and_right (leb 1 d) (all (λ d. leb 1 d) ds) a))

corner-asked : (g : Grid) → Accepted g → first_no (grid_questions (corner_grid g)) ≡ 0
unfolding first_no
corner-asked g a =
    let few : num_points (corner_grid g) ≤ 60000 = rw (num_points-is (corner_grid g) a.sizes_two)
    (omega (arith, fewer g.sizes g.divisions (last_player g) a.divisions_one, points-are g a, a.few_points)) in
    rw (
      le-leb 1 (num_blocks g) a.some_block,
      le-leb (num_blocks g) 6 a.few_blocks,
      a.sizes_two,
      le-leb (num_indices g) 16 a.few_indices,
      eq-eqb (length (set g.divisions (last_player g) 1)) (num_blocks g)
          (length-set g.divisions (last_player g) 1 ∙ a.same_number),
      ones g.divisions (last_player g) a.divisions_one,
      le-leb (num_points (corner_grid g)) 60000 few,
    )

module _ (g : Grid) (firsts : List ℕ) (y : Point) (d : PointWithFirsts g firsts y) where
  abbrev yes : Accepted g
  yes = accepted g d.grid.accepted

  pub corner-point : (k : ℕ) → k < size g (last_player g) → PointWithFirsts (corner_grid g) firsts (corner g y k)
  unfolding is_grid_point
  corner-point k h = record {
    grid = record { accepted = corner-asked g yes; first = d.grid.first };
    is_point = and_both _ _ (eq-eqb _ _ (corner-length g yes.some_block y whole k))
        (in_all on_numbers _ (blocks g) (λ i m.
        eq-eqb _ _ (⊎_elim (at_last i) (other i (up_from_in 0 (num_blocks g) i m).1) (same_or i (last_player g)))));
  }
    where
      whole : length y ≡ num_indices g
      whole = point-length g yes y d.is_point

      at_last : (i : ℕ) → i ≡ last_player g → sum (mix g (corner g y k) i) ≡ division (corner_grid g) i
      at_last i e = rw (
        e,
        corner-last g yes.some_block y whole k,
        get_or-set_same g.divisions (last_player g) 1 0 (omega (arith, yes.same_number, yes.some_block)),
      ) (sum-unit (size g (last_player g)) k h)

      other : (i : ℕ) → i < 0 + num_blocks g → (i ≡ last_player g → ⊥)
          → sum (mix g (corner g y k) i) ≡ division (corner_grid g) i
      other i l n = rw (
        corner-other g yes.some_block y whole k i (omega arith),
        get_or-set_other g.divisions (last_player g) i 1 0 n,
      ) (block-sum g yes y d.is_point i (omega arith))

  -- the difference at the point, in a column of the differences at the corners
  pub difference-column : (losses : List ℕ) (differences : List ℤ)
      → Cornered (corner_grid g) losses y (size g (last_player g)) differences → (h : ℕ) → h < num_indices g
      → difference g losses y h ≡ column (mix g y (last_player g)) differences h
  difference-column losses differences w h inside =
      let place : Seat g h = seat g h inside in
      let long = point-length g yes y d.is_point in
      let p : player_loss g losses y h
      ≡ blend (mix g y (last_player g)) (λ k. player_loss (corner_grid g) losses (corner g y k) h) =
      expected_blend g yes.some_block y long losses (block_of g h) (block_spans g.sizes h inside).0 in
      let q : replaced_loss g losses y h
      ≡ blend (mix g y (last_player g)) (λ k. replaced_loss (corner_grid g) losses (corner g y k) h) =
      rw place.is (replaced-blend g yes.some_block y long losses place.j place.i place.inside
      (omega (arith, yes.same_number, yes.some_block))
      (block-sum g yes y d.is_point (last_player g) (omega (arith, yes.some_block)))) in
      rw (p, q) (blend-difference (mix g y (last_player g)) _ _ _
      (λ k l. w.difference_at k h (omega (arith, block-length g y (last_player g))) inside))

-- the array that holds a corner
take-zeros : (s n : ℕ) → s ≤ n → take {A = ℕ} s (replicate n 0) ≡ replicate s 0
take-zeros zero n h = refl
take-zeros (suc s) zero h = absurd (omega arith)
take-zeros (suc s) (suc n) h = ap (λ (l : List ℕ). 0 ∷ l) (take-zeros s n (omega arith))

set-unit : (o : List ℕ) (s n k : ℕ) → length o + s ≤ n → k < s
    → take (length o + s) (set (front o (replicate n 0)) (length o + k) 1) ≡ o ++ unit_vector s k
unfolding front
set-unit [] s n k h l =
    let a : 0 + s ≡ s = omega arith in
    let b : 0 + k ≡ k = omega arith in
    rw (a, b, take-set-lt {A = ℕ} s (replicate n 0) k 1 l, take-zeros s n (omega arith))
set-unit (x ∷ o) s zero k h l = absurd (omega arith)
set-unit (x ∷ o) s (suc n) k h l =
    let a : suc (length o) + s ≡ suc (length o + s) = omega arith in
    let b : suc (length o) + k ≡ suc (length o + k) = omega arith in
    rw (a, b) (ap (λ (r : List ℕ). x ∷ r) (set-unit o s n k (omega arith) l))

module _ (g : Grid) (some : 1 ≤ num_blocks g) (few : num_indices g ≤ 16) (y : Point) (whole : length y ≡ num_indices g)
    (k : ℕ) (inside : k < size g (last_player g)) where
  abbrev pub held : List ℕ
  held = set (front (take (first_index g (last_player g)) y) (replicate 16 0)) (first_index g (last_player g) + k) 1

  pub held-length : length held ≡ 16
  held-length =
      length-set (front (take (first_index g (last_player g)) y) (replicate 16 0)) (first_index g (last_player g) + k) 1
      ∙ front_length (take (first_index g (last_player g)) y) (replicate 16 0)
      (omega (arith, outer_length g some y whole, last-ends g some))

  pub held-corner : take (num_indices g) held ≡ corner g y k
  held-corner =
      let f = outer_length g some y whole in
      rw (← last-ends g some) (subst
      (λ (n : ℕ).
      take (n + size g (last_player g)) (set (front (take (first_index g (last_player g)) y) (replicate 16 0)) (n + k) 1)
      ≡ corner g y k)
      f
      (set-unit (take (first_index g (last_player g)) y) (size g (last_player g)) 16 k (omega (arith, last-ends g some))
      inside))

-- what stands at the front of an array that is written
pub written_at : (f : ℕ → ℕ) (n : ℕ) (old new : List ℕ) → new ≡ front (map f (up_from 0 n)) old → (h : ℕ) → h < n
    → at new h ≡ f h
written_at f n old new e h inside =
    let long : length (map f (up_from 0 n)) ≡ n = length-map (up_from 0 n) f ∙ length-up_from 0 n in
    let z : 0 + h ≡ h = omega arith in
    ap (λ (l : List ℕ). at l h) e
    ∙ front_at (map f (up_from 0 n)) old h (omega arith)
    ∙ (rw z at (map_at f 0 n h inside))

-- one corner more: its row is written from place 16 k on
pub cornered_turn : (g : Grid) (few : num_indices g ≤ 16) (losses : List ℕ) (y : Point) (k : ℕ) (differences : List ℤ)
    → Cornered g losses y k differences → (row : List ℤ) (n : ℕ) → k * 16 ≤ length differences → length row ≡ 16
    → ((h : ℕ) → h < num_indices g
    → (signed_at row h ≡ difference g losses (corner g y k) h) × (nat_abs (signed_at row h) < 4294967296))
    → Cornered g losses y (k + 1) (take (k * 16) differences ++ (row ++ drop n (drop (k * 16) differences)))
cornered_turn g few losses y k differences w row n inside long new = record {
  difference_at = λ i h l b. ⊎_elim
      (λ s. rw (here i h s b, s) (new h b).0)
      (λ s. rw (before i h (omega arith) b) (w.difference_at i h (omega arith) b))
      (same_or i k);
  low = λ i h l b. ⊎_elim
      (λ s. rw (here i h s b) (new h b).1)
      (λ s. rw (before i h (omega arith) b) (w.low i h (omega arith) b))
      (same_or i k);
}
  where
    whole : List ℤ
    whole = take (k * 16) differences ++ (row ++ drop n (drop (k * 16) differences))

    here : (i h : ℕ) → i ≡ k → h < num_indices g → signed_at whole (i * 16 + h) ≡ signed_at row h
    here i h s b = rw s (part_within differences row (k * 16) n inside h (omega arith))

    before : (i h : ℕ) → i < k → h < num_indices g → signed_at whole (i * 16 + h) ≡ signed_at differences (i * 16 + h)
    before i h l b = part_before differences row (k * 16) n inside (i * 16 + h) (omega arith)

-- points that differ only in the last player's mix have the same corners
pub cornered_kept : (g : Grid) (losses : List ℕ) (y z : Point) (n : ℕ) (differences : List ℤ)
    → take (first_index g (last_player g)) z ≡ take (first_index g (last_player g)) y → Cornered g losses y n differences
    → Cornered g losses z n differences
cornered_kept g losses y z n differences e w =
    let c : (k : ℕ) → corner g y k ≡ corner g z k = λ k. rw e in
    record {
      difference_at = λ k h a b. w.difference_at k h a b ∙ ap (λ (p : Point). difference g losses p h) (c k);
      low = w.low;
    }
